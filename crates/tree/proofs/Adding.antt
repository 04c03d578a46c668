-- A candidate whose walk is entered is added to the forest; no way down becomes longer than the
-- longest walk.
use Prim.Native.Nat.{ℕ, zero, suc, ◌-◌, ◌≤◌, ◌<◌}
use native.Mathlib.Omega.{arith}
use mathlib.Core.Path.{◌≡◌, sym, ap, subst, ◌∙◌}
use mathlib.Core.Bool.{cond}
use mathlib.Core.List.{List, [], ◌∷◌}
use borrow.Author.Tests.{leb-true, leb-false}
use lib.ListN.{length, set, length-set}
use lib.Dec.{leb}
use Rattle.model.specs.Tests.{by_cond, decide}
use Rattle.model.specs.Forest.{Key, same_key, Forest, empty, position, chain, add}
use Rattle.entries.specs.declared.PropertyAccessType.{PropertyAccessType}
use Rattle.entries.specs.declared.PropertyAccessType.TheVariants.{OptionalDependency}
use Rattle.entries.specs.Access.{merge_access}
use Rattle.model.specs.Tree.{DependencyPosition, dependency_key, merge_position}
use Rattle.laws.specs.Flat.{grow}
use Rattle.laws.specs.FlatLaws.{grow_enter}
use Rattle.tree.specs.Words.{position_as}
use Rattle.tree.specs.Tree.{count_in, nodes_of, forest_of, height, Linked, Sized, Held, entered, Enters, Adds}
use Rattle.tree.proofs.Entering.{count_stored}
use Rattle.tree.proofs.Walking.{walk_of, walk_few, Walking, walking_over}

-- The height.

taller : (c r n : ℕ) → c < n → r ≤ n → cond (leb (suc c) r) r (suc c) ≤ n
taller c r n h k = by_cond (λ m. m ≤ n) (leb (suc c) r) (λ e. k) (λ e. h)

pub children_lower : (c r n : ℕ) → cond (leb (suc c) r) r (suc c) ≤ n → c < n
children_lower c r n h = decide (leb (suc c) r) (λ e. let l = rw e at h in omega (arith, leb-true (suc c) r e)) (λ e. let l = rw e at h in omega arith)

pub others_lower : (c r n : ℕ) → cond (leb (suc c) r) r (suc c) ≤ n → r ≤ n
others_lower c r n h = decide (leb (suc c) r) (λ e. let l = rw e at h in omega arith) (λ e. let l = rw e at h in omega (arith, leb-false (suc c) r e))

module _ {P : Type 0} (key : P → Key) (merge : P → P → P) where
  chain_height : (ss : List P) (n : ℕ) → length ss ≤ n → height (chain ss) ≤ n
  chain_height [] n h = omega arith
  chain_height (s ∷ ss) zero h = absurd (omega arith)
  chain_height (s ∷ ss) (suc n) h = let l = chain_height ss n (omega arith) in taller (height (chain ss)) 0 (suc n) (omega arith) (omega arith)

  add_height : (f : Forest P) (ss : List P) (n : ℕ) → height f ≤ n → length ss ≤ n → height (add key merge f ss) ≤ n
  add_height empty ss n h k = chain_height ss n k
  add_height (position p c r) [] n h k = h
  add_height (position p c r) (s ∷ ss) zero h k = absurd (omega arith)
  add_height (position p c r) (s ∷ ss) (suc n) h k =
      let below = children_lower (height c) (height r) (suc n) h in
      let after = others_lower (height c) (height r) (suc n) h in
      by_cond (λ f. height f ≤ suc n) (same_key (key p) (key s))
      (λ e. let l = add_height c ss n (omega arith) (omega arith) in taller (height (add key merge c ss)) (height r) (suc n) (omega arith) after)
      (λ e. taller (height c) (height (add key merge r (s ∷ ss))) (suc n) below (add_height r (s ∷ ss) (suc n) after k))

-- The tree of no positions.
none_linked : {ws : List ℕ} → count_in ws ≡ 0 → Linked ws
none_linked e = record { parents = λ j l. absurd (omega arith); children = λ j l. absurd (omega arith); siblings = λ j l. absurd (omega arith) }

module _ (ws : List ℕ) (some : 0 < length ws) (short : length ws ≤ 2048) where
  abbrev none : List ℕ
  none = set ws (length ws - 1) 0

  pub cleared_count : count_in none ≡ 0
  cleared_count = count_stored ws (length ws - 1) 0 (omega arith)

  pub cleared : (s : List ℕ) → forest_of s none ≡ empty
  unfolding forest_of nodes_of
  cleared s = rw cleared_count

  pub cleared_held : (s : List ℕ) → Held s none
  cleared_held s = record {
    sized = record { short = rw length-set short; room = rw (cleared_count, length-set) some; linked = none_linked cleared_count };
    low = rw (cleared s) (omega arith);
  }

-- A candidate whose walk is entered is added to the forest.
module _ (s before after : List ℕ) (ss : List DependencyPosition) (held : Held s before) (few : length ss ≤ 17)
    (is : entered (nodes_of s before) 0 0 ss ≡ nodes_of s after) where
  forest_after : forest_of s after ≡ add dependency_key merge_position (forest_of s before) ss
  unfolding forest_of
  forest_after = ap (λ xs. grow xs 0 0) (sym is) ∙ grow_enter dependency_key merge_position (nodes_of s before) 0 0 ss (omega arith)

  after_held : Sized after → Held s after
  after_held sized = record { sized = sized; low = rw forest_after (add_height dependency_key merge_position (forest_of s before) ss 17 held.low few) }

pub added : {s before ws : List ℕ} {at levels parent place : ℕ} {a : PropertyAccessType} {next left flags : ℕ} → Held s before
    → Walking s before ws (walk_of s at levels) parent place a next left flags → left ≤ 0 → (last : PropertyAccessType)
    → last ≡ merge_access a OptionalDependency → (after : List ℕ) (number : ℕ) → Enters s ws after parent (position_as s parent place last) number
    → Adds s before after at levels
added {s} {before} {ws} {at} {levels} {parent} {place} held w h last is_last after number e =
    let few = w.few in
    let more = e.few in
    let is = walking_over w h after number (subst (λ (b : PropertyAccessType). Enters s ws after parent (position_as s parent place b) number) is_last e) in
    record {
      held = after_held s before after (walk_of s at levels) held (walk_few s at levels) is e.sized;
      few = omega arith;
      is = forest_after s before after (walk_of s at levels) held (walk_few s at levels) is;
    }

-- The walk of a candidate, position by position: what is still to be walked, entered below the
-- position reached, is the whole walk entered.
use Prim.Native.Nat.{ℕ, zero, suc, ◌+◌, ◌*◌, ◌-◌, ◌/◌, ◌%◌, ◌≤◌, ◌<◌}
use native.Mathlib.Omega.{arith}
use mathlib.Core.Path.{◌≡◌, refl, ap, ◌∙◌}
use mathlib.Core.Bool.{true, false, ◌||◌, cond}
use mathlib.Core.List.{List, [], ◌∷◌}
use lib.ListN.{length}
use lib.Dec.{eqb}
use Rattle.entries.specs.declared.DependencyPathEntry.{DependencyPathEntry}
use Rattle.entries.specs.declared.PropertyAccessType.{PropertyAccessType}
use Rattle.entries.specs.declared.PropertyAccessType.TheVariants.{UnconditionalAccess, OptionalDependency}
use Rattle.entries.specs.Access.{merge_access}
use Rattle.model.specs.ReadingBytes.{Read, got, refused}
use Rattle.model.specs.Tests.{by_cond, eqb_apart}
use Rattle.model.specs.Tree.{DependencyPosition, ended, step_to, step_access, root_position}
use Rattle.job.specs.Head.{read_path_head}
use Rattle.job.specs.declared.PathHead.{PathHead}
use Rattle.laws.specs.Fits.{HoldsIfRead}
use Rattle.job.proofs.Bounds.{entries_most}
use Rattle.tree.specs.Words.{head_or, head_at, entry_at, position_as}
use Rattle.tree.specs.Walk.{walk_by, bits_of, entries_from, path_at}
use Rattle.tree.specs.Tree.{count_in, nodes_of, Sized, entered, entered_from, Enters}
use Rattle.tree.proofs.Packed.{position_merged}
use Rattle.tree.proofs.Entering.{entered_start, entered_over}

-- the walk with the flags still in a number
abbrev pub walk_bits : ℕ → DependencyPosition → List DependencyPathEntry → List DependencyPosition
walk_bits x p [] = ended p ∷ []
walk_bits x p (e ∷ es) = cond (eqb (x % 2) 1 || e.optional) (p ∷ walk_bits (x / 2) (step_to e (step_access (eqb (x % 2) 1))) es) (ended p ∷ [])

-- as many bits as there are entries are enough
pub walk_bits_lem : (n x : ℕ) (p : DependencyPosition) (es : List DependencyPathEntry) → length es ≤ n → walk_by (bits_of n x) p es ≡ walk_bits x p es
walk_bits_lem n x p [] h = refl
walk_bits_lem zero x p (e ∷ es) h = absurd (omega arith)
walk_bits_lem (suc n) x p (e ∷ es) h = rw (walk_bits_lem n (x / 2) (step_to e (step_access (eqb (x % 2) 1))) es (omega arith))

entries_length : (s : List ℕ) (at n : ℕ) → length (entries_from s at n) ≡ n
entries_length s at zero = refl
entries_length s at (suc n) = ap suc (entries_length s (at + 14) n)

few_or : (x : Read PathHead) → HoldsIfRead (λ (h : PathHead). h.entries ≤ 16) x → (head_or x).entries ≤ 16
few_or (got h n) few = few
few_or (refused r) few = omega arith

pub head_few : (s : List ℕ) (at : ℕ) → (head_at s at).entries ≤ 16
unfolding head_at
head_few s at = few_or (read_path_head s at) (entries_most s at)

-- a walk has at most one position more than there are entries
walk_length : (x : ℕ) (p : DependencyPosition) (es : List DependencyPathEntry) → length (walk_bits x p es) ≤ suc (length es)
walk_length x p [] = omega arith
walk_length x p (e ∷ es) =
    by_cond (λ (l : List DependencyPosition). length l ≤ suc (length (e ∷ es))) (eqb (x % 2) 1 || e.optional)
    (λ t. let l = walk_length (x / 2) (step_to e (step_access (eqb (x % 2) 1))) es in omega arith) (λ t. omega arith)

-- the whole walk of the candidate at a place
abbrev pub walk_of : List ℕ → ℕ → ℕ → List DependencyPosition
walk_of s at levels = walk_by (bits_of 17 levels) (root_position (path_at s at)) (path_at s at).path

module _ (s : List ℕ) (at levels : ℕ) where
  abbrev entries : List DependencyPathEntry
  entries = entries_from s (at + 10) (head_at s at).entries

  walk_is : walk_of s at levels ≡ walk_bits levels (root_position (path_at s at)) entries
  unfolding path_at
  walk_is = let few = head_few s at in let size = entries_length s (at + 10) (head_at s at).entries in
      walk_bits_lem 17 levels (root_position (path_at s at)) entries (omega arith)

  pub walk_few : length (walk_of s at levels) ≤ 17
  walk_few =
      let few = head_few s at in
      let size = entries_length s (at + 10) (head_at s at).entries in
      let most = walk_length levels (root_position (path_at s at)) entries in
      rw walk_is (omega arith)

-- The walk has come to the position at a place, below the number of the one before, with `left`
-- entries from `next` on.
pub record Walking (s before ws : List ℕ) (whole : List DependencyPosition) (parent place : ℕ) (a : PropertyAccessType)
    (next left flags : ℕ) : Type 0 where
  pub sized : Sized ws
  pub few : count_in ws + (left + 1) ≤ count_in before + 17
  pub room : count_in before + 17 < length before
  pub long : length ws ≡ length before
  pub lies : parent ≤ count_in ws
  pub near : place < 65536
  pub ahead : next + 14 * left < 65536
  pub is : entered (nodes_of s before) 0 0 whole ≡ entered_from s ws parent parent
      (walk_bits flags (position_as s parent place a) (entries_from s next left))

pub walking_start : (s ws : List ℕ) (at levels : ℕ) (head : PathHead) → Sized ws → count_in ws + 17 < length ws
    → at ≤ 32768 → head ≡ head_at s at → Walking s ws ws (walk_of s at levels) 0 at UnconditionalAccess (at + 10) head.entries levels
unfolding path_at position_as
walking_start s ws at levels head sized room h e =
    let few = head_few s at in
    rw e (record {
      sized = sized;
      few = omega arith;
      room = room;
      long = refl;
      lies = omega arith;
      near = omega arith;
      ahead = omega arith;
      is = entered_start s ws (walk_of s at levels) ∙ ap (entered_from s ws 0 0) (walk_is s at levels);
    })

module _ {s before ws : List ℕ} {whole : List DependencyPosition} {parent place : ℕ} {a : PropertyAccessType} {next left flags : ℕ}
    (w : Walking s before ws whole parent place a next left flags) where
  pub walking_room : count_in ws + 1 < length ws
  walking_room = let f = w.few in let r = w.room in let l = w.long in omega arith

  -- the last position is entered, and with it the whole walk
  pub walking_over : left ≤ 0 → (vs : List ℕ) (number : ℕ) → Enters s ws vs parent (position_as s parent place (merge_access a OptionalDependency)) number
      → entered (nodes_of s before) 0 0 whole ≡ nodes_of s vs
  walking_over h vs number e =
      let z : left ≡ 0 = omega arith in
      w.is
      ∙ rw (z, ← position_merged s parent place a OptionalDependency) (e.is [])
      ∙ entered_over s vs number e.within

  module _ (h : 0 < left) (e : DependencyPathEntry) (read : e ≡ entry_at s next) where
    one_more : entries_from s next left ≡ e ∷ entries_from s (next + 14) (left - 1)
    one_more = let z : left ≡ suc (left - 1) = omega arith in ap (entries_from s next) z ∙ rw read

    -- the walk is cut: it is the walk of no entries
    pub walking_cut : eqb (flags % 2) 1 || e.optional ≡ false → Walking s before ws whole parent place a next 0 flags
    walking_cut t =
        let f = w.few in
        let n = w.ahead in
        record {
          sized = w.sized;
          few = omega arith;
          room = w.room;
          long = w.long;
          lies = w.lies;
          near = w.near;
          ahead = omega arith;
          is = w.is ∙ rw (one_more, t);
        }

    pub walking_more : eqb (flags % 2) 1 || e.optional ≡ true → (vs : List ℕ) (number : ℕ) → length vs ≡ length ws
        → Enters s ws vs parent (position_as s parent place a) number
        → Walking s before vs whole number next (step_access (eqb (flags % 2) 1)) (next + 14) (left - 1) (flags / 2)
    unfolding position_as
    walking_more t vs number long x =
        let f = w.few in
        let n = w.ahead in
        let more = x.few in
        let some = x.some in
        let child : eqb number 0 ≡ false = eqb_apart number 0 (λ z. omega arith) in
        record {
          sized = x.sized;
          few = omega arith;
          room = w.room;
          long = long ∙ w.long;
          lies = x.within;
          near = omega arith;
          ahead = omega arith;
          is = w.is
              ∙ rw (one_more, t)
              (x.is (walk_bits (flags / 2) (step_to e (step_access (eqb (flags % 2) 1))) (entries_from s (next + 14) (left - 1))) ∙ rw (child, ← read));
        }

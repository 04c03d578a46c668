-- The positions in the words: the search below a number, and one position more.
use Prim.Native.Nat.{ℕ, suc, ◌+◌, ◌-◌, ◌≤◌, ◌<◌}
use native.Mathlib.Omega.{arith}
use native.Mathlib.Numerals.{add-one}
use Rattle.std.specs.Prelude.{Option, Some, None, is_some}
use mathlib.Core.Path.{◌≡◌, refl, sym, ap, subst, ◌∙◌}
use mathlib.Core.Logic.{◌≢◌}
use mathlib.Core.Bool.{Bool, true, false, ◌&&◌, cond}
use mathlib.Core.List.{List, [], ◌∷◌, ◌++◌}
use lib.ListN.{length, get_or, set, length-set}
use lib.Seq.{get_or-set_same, get_or-set_other}
use lib.Dec.{eqb}
use Rattle.model.specs.Tests.{decide, never, eqb-true, eqb-false}
use Rattle.model.specs.Forest.{Key, same_key}
use Rattle.model.specs.Tree.{HoistablePosition, hoistable_key, first_made}
use Rattle.laws.specs.Flat as Flat
use Rattle.laws.specs.FlatSteps.{run, run_length, run_same, run_snoc, run_before, ParentsBefore, seek, seek_after, reached, one_more, one_new, one_found}
use Rattle.registry.specs.Words.{stored_node}
use Rattle.hoistable.specs.Positions.{
  key_of,
  access_of,
  position_of,
  maker_in,
  parent_in,
  IsWord,
  node_of,
  position_at,
  positions_in,
  flat_of,
  number_below,
  number_in,
  Stands,
  HoldsPositions,
  Entered,
  Enters,
}

-- The search below a number: what is left of it finds what the whole finds.

pub record Seeking (ws hoist : List ℕ) (parent : ℕ) (k : Key) (end j : ℕ) : Type 0 where
  pub counted : end ≡ positions_in hoist
  pub within : j ≤ end
  pub left : seek hoistable_key (run (position_at ws hoist) j (end - j)) j parent k ≡ number_below ws hoist parent k

pub seeking : (ws hoist : List ℕ) (parent : ℕ) (k : Key) (end : ℕ) → end ≡ positions_in hoist → parent ≤ positions_in hoist
    → Seeking ws hoist parent k end parent
unfolding number_below
seeking ws hoist parent k end counted low = record {
  counted = counted;
  within = omega arith;
  left = ap (λ n. seek hoistable_key (run (position_at ws hoist) parent (n - parent)) parent parent k) counted;
}

module _ {ws hoist : List ℕ} {parent : ℕ} {k : Key} {end j : ℕ} (x : Seeking ws hoist parent k end j) where
  abbrev test : Bool
  test = eqb (parent_in (get_or hoist j 0)) parent && same_key (key_of (stored_node ws (maker_in (get_or hoist j 0)))) k

  first : j < end → cond test (suc j) (seek hoistable_key (run (position_at ws hoist) (suc j) (end - suc j)) (suc j) parent k) ≡ number_below ws hoist parent k
  first some = let e : end - j ≡ suc (end - suc j) = omega arith in
      sym (ap (λ n. seek hoistable_key (run (position_at ws hoist) j n) j parent k) e) ∙ x.left

  pub seeking_hit : j < end → test ≡ true → j + 1 ≡ number_below ws hoist parent k
  seeking_hit some hit =
      add-one j ∙ sym (ap (λ b. cond b (suc j) (seek hoistable_key (run (position_at ws hoist) (suc j) (end - suc j)) (suc j) parent k)) hit) ∙ first some

  pub seeking_miss : j < end → test ≡ false → Seeking ws hoist parent k end (j + 1)
  seeking_miss some miss = record {
    counted = x.counted;
    within = omega arith;
    left = rw (add-one j)
        (sym (ap (λ b. cond b (suc j) (seek hoistable_key (run (position_at ws hoist) (suc j) (end - suc j)) (suc j) parent k)) miss) ∙ first some);
  }

  pub seeking_end : end ≤ j → 0 ≡ number_below ws hoist parent k
  seeking_end done = let e : end - j ≡ 0 = omega arith in
      sym (ap (λ n. seek hoistable_key (run (position_at ws hoist) j n) j parent k) e) ∙ x.left

-- The number that is stored in the last word.
count_stored : (hoist : List ℕ) (i v : ℕ) → i + 1 ≡ length hoist → positions_in (set hoist i v) ≡ v
count_stored hoist i v last =
    let place : length (set hoist i v) - 1 ≡ i = omega (arith, length-set hoist i v) in
    ap (λ n. get_or (set hoist i v) n 0) place ∙ get_or-set_same hoist i v 0 (omega arith)

pub none_found : (found : Option ℕ) → is_some found ≡ false → number_in found ≡ 0
none_found None none = refl
none_found (Some r) none = never refl none

-- Words that hold no position.

module _ (hoist : List ℕ) (some : 0 < length hoist) (short : length hoist ≤ 513) where
  abbrev empty : List ℕ
  empty = set hoist (length hoist - 1) 0

  pub cleared_count : positions_in empty ≡ 0
  cleared_count = count_stored hoist (length hoist - 1) 0 (omega arith)

  pub cleared_held : HoldsPositions empty
  cleared_held =
      let none = cleared_count in
      record {
        short = rw length-set short;
        room = rw (cleared_count, length-set) some;
        makers = λ j l. absurd (omega arith);
        parents = λ j l. absurd (omega arith);
      }

-- One position more.

pub flat_length : (ws hoist : List ℕ) → length (flat_of ws hoist) ≡ positions_in hoist
unfolding flat_of
flat_length ws hoist = run_length (position_at ws hoist) 0 (positions_in hoist)

pub flat_before : (ws hoist : List ℕ) → HoldsPositions hoist → ParentsBefore (flat_of ws hoist) 0
unfolding flat_of
flat_before ws hoist held = run_before (position_at ws hoist) 0 (positions_in hoist) (λ j l. held.parents j (omega arith))

-- among all positions is found what is found below the number
whole_below : (ws hoist : List ℕ) (parent : ℕ) (k : Key) → HoldsPositions hoist → parent ≤ positions_in hoist
    → seek hoistable_key (flat_of ws hoist) 0 parent k ≡ number_below ws hoist parent k
unfolding flat_of number_below
whole_below ws hoist parent k held low =
    let v = position_at ws hoist in
    let n = positions_in hoist in
    let all : parent + (n - parent) ≡ n = omega arith in
    let z : 0 + parent ≡ parent = omega arith in
    sym (ap (λ m. seek hoistable_key (run v 0 m) 0 parent k) all)
    ∙ subst (λ p. seek hoistable_key (run v 0 (parent + (n - parent))) 0 p k ≡ seek hoistable_key (run v p (n - parent)) p p k) z
    (seek_after hoistable_key v 0 parent (n - parent) k (λ j l. held.parents j (omega arith)))

module _ (ws hoist : List ℕ) (held : HoldsPositions hoist) (parent : ℕ) (low : parent ≤ positions_in hoist) (s : HoistablePosition) where
  entered_found : (r : ℕ) → r ≡ number_below ws hoist parent s.key → r ≤ positions_in hoist → 0 < r → Entered ws hoist hoist parent (s ∷ []) r
  entered_found r is within some =
      let same = whole_below ws hoist parent s.key held low in
      let one = one_found hoistable_key (flat_of ws hoist) 0 parent s (λ z. omega arith) in
      record { held = held; flat = sym one.0; number = is ∙ sym same ∙ sym one.1; within = within }

  pub entered_where_found : (found : Option ℕ) → number_in found ≡ number_below ws hoist parent s.key → Stands hoist found
      → Enters ws hoist hoist parent (s ∷ []) found
  entered_where_found None is stands = tt
  entered_where_found (Some r) is stands = entered_found r is stands.1 stands.0

  module _ (word k : ℕ) (optional : Bool) (is : IsWord word k parent optional) (small : k < 512)
      (room : positions_in hoist < length hoist - 1) where
    abbrev end : ℕ
    end = positions_in hoist

    abbrev after : List ℕ
    after = set (set hoist end word) (length hoist - 1) (end + 1)

    counted : positions_in after ≡ end + 1
    counted =
        let long = length-set hoist end word in
        count_stored (set hoist end word) (length hoist - 1) (end + 1) (omega arith)

    long_after : length after ≡ length hoist
    long_after = simp length-set

    new_word : get_or after end 0 ≡ word
    new_word =
        let a : end ≢ length hoist - 1 = λ e. omega arith in
        let l : end < length hoist = omega arith in
        simp (get_or-set_other, get_or-set_same)

    old_word : (j : ℕ) → j < end → get_or after j 0 ≡ get_or hoist j 0
    old_word j l =
        let a : j ≢ length hoist - 1 = λ e. omega arith in
        let b : j ≢ end = λ e. omega arith in
        simp get_or-set_other

    each : (Q : ℕ → ℕ → Type 0) → Q end word → ((j : ℕ) → j < end → Q j (get_or hoist j 0)) → (j : ℕ) → j < positions_in after → Q j (get_or after j 0)
    each Q new old j l =
        let count = counted in
        decide (eqb j end)
        (λ t. subst (λ i. Q i (get_or after i 0)) (sym (eqb-true j end t)) (subst (Q end) (sym new_word) new))
        (λ t. let other = eqb-false j end t in let m : j < end = omega arith in subst (Q j) (sym (old_word j m)) (old j m))

    held_after : HoldsPositions after
    held_after = record {
      short = rw long_after held.short;
      room = rw (counted, long_after) (omega arith);
      makers = each (λ j w. maker_in w < 512) (rw is.maker small) held.makers;
      parents = each (λ j w. parent_in w ≤ j) (rw is.above low) held.parents;
    }

    flat_after : flat_of ws after ≡ flat_of ws hoist ++ (node_of ws word ∷ [])
    unfolding flat_of
    flat_after =
        ap (run (position_at ws after) 0) (counted ∙ add-one end)
        ∙ run_snoc (position_at ws after) 0 end
        ∙ (λ d. run_same (position_at ws after) (position_at ws hoist) 0 end (λ j l. ap (node_of ws) (old_word j (omega arith))) d
        ++ (node_of ws ((ap (λ n. get_or after n 0) (let z : 0 + end ≡ end = omega arith in z) ∙ new_word) d) ∷ []))

    node_is : node_of ws word ≡ record { parent = parent; here = position_of (key_of (stored_node ws k)) (access_of optional) }
    node_is = λ d. record { parent = is.above d; here = position_of (key_of (stored_node ws (is.maker d))) (access_of (is.mark d)) }

    pub entered_new : s ≡ position_of (key_of (stored_node ws k)) (access_of optional) → 0 ≡ number_below ws hoist parent s.key
        → Entered ws hoist after parent (s ∷ []) (end + 1)
    entered_new own none =
        let one = one_new hoistable_key first_made (flat_of ws hoist) 0 parent s (whole_below ws hoist parent s.key held low ∙ sym none) in
        let long = flat_length ws hoist in
        let number = one.1 in
        record {
          held = held_after;
          flat = flat_after ∙ ap (λ (x : Flat.Node HoistablePosition). flat_of ws hoist ++ (x ∷ []))
              (node_is ∙ ap (λ (p : HoistablePosition). record { parent = parent; here = p }) (sym own)) ∙ sym one.0;
          number = omega arith;
          within = let c = counted in omega arith;
        }

-- a way down and one position more
pub enters_more : {ws before middle : List ℕ} (after : List ℕ) {way : List HoistablePosition} {m : ℕ} (s : HoistablePosition) (number : Option ℕ)
    → HoldsPositions before → Entered ws before middle 0 way m → Enters ws middle after m (s ∷ []) number
    → Enters ws before after 0 (way ++ (s ∷ [])) number
enters_more after s None held start last = tt
enters_more {ws} {before} after {way} {m} s (Some r) held start last =
    let more = one_more hoistable_key first_made (flat_of ws before) 0 0 way s (omega arith) (flat_before ws before held) in
    record {
      held = last.held;
      flat = last.flat ∙ (λ d. Flat.enter hoistable_key first_made (start.flat d) 0 (start.number d) (s ∷ [])) ∙ sym more.0;
      number = last.number ∙ (λ d. reached hoistable_key first_made (start.flat d) 0 (start.number d) (s ∷ [])) ∙ sym more.1;
      within = last.within;
    }

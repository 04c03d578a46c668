-- The members from a place on: what is left of them past places that are not set, and at one that
-- is. So a walk by `next` meets each once.
use Prim.Native.Nat.{ℕ, zero, suc, ◌+◌, ◌*◌, ◌-◌, ◌/◌, ◌%◌, ◌^◌, ◌≤◌, ◌<◌}
use native.Mathlib.Omega.{arith}
use native.Mathlib.Numerals.{add-one}
use mathlib.Core.Bool.{true, false}
use mathlib.Core.Path.{◌≡◌, refl, sym, ◌∙◌, ap}
use mathlib.Core.List.{List, [], ◌∷◌}
use Rattle.std.proofs.Common.{Some, None}
use lib.Count.{count_trailing_zeros}
use lib.ListN.{get_or}
use lib.Pow.{shr_lt}
use Rattle.entries.specs.declared.NodeId.{NodeId}
use Rattle.model.specs.Sets.{NodeSet}
use Rattle.model.specs.Tests.{decide}
use Rattle.rows.specs.Members.{bit, has_bit, members_from, first_of}
use Rattle.rows.proofs.Words.{zero_bit, shifted_bit, trailing_none, trailing_set}

module _ (ws : List ℕ) where
  pub member_here : (k : ℕ) → k < 512 → has_bit ws k ≡ true → members_from ws k ≡ record { 0 = k } ∷ members_from ws (k + 1)
  unfolding members_from
  member_here k l h = let e : 512 - k ≡ suc (512 - (k + 1)) = omega arith in rw (e, h, add-one k)

  pub none_here : (k : ℕ) → k < 512 → has_bit ws k ≡ false → members_from ws k ≡ members_from ws (k + 1)
  unfolding members_from
  none_here k l h = let e : 512 - k ≡ suc (512 - (k + 1)) = omega arith in rw (e, h, add-one k)

  pub none_past : (k : ℕ) → 512 ≤ k → members_from ws k ≡ []
  unfolding members_from
  none_past k l = let e : 512 - k ≡ 0 = omega arith in rw e

  -- n places that are not set
  none_among : (n k : ℕ) → k + n ≤ 512 → ((m : ℕ) → m < n → has_bit ws (k + m) ≡ false) → members_from ws k ≡ members_from ws (k + n)
  none_among zero k l h = ap (members_from ws) (omega arith)
  none_among (suc n) k l h =
      let z : k + 0 ≡ k = omega arith in
      none_here k (omega arith) (rw z at (h 0 (omega arith)))
      ∙ none_among n (k + 1) (omega arith) (λ m j. let e : k + 1 + m ≡ k + suc m = omega arith in rw e (h (suc m) (omega arith)))
      ∙ ap (members_from ws) (omega arith)

-- the word of place k, moved down to it
abbrev pub left : List ℕ → ℕ → ℕ
left ws k = get_or ws (k / 64) 0 / 2 ^ (k % 64)

-- What it says of the members from k on.
module _ (ws : List ℕ) (k : ℕ) (small : k < 512) where
  bit_ahead : (m : ℕ) → k % 64 + m < 64 → has_bit ws (k + m) ≡ bit (left ws k) m
  unfolding has_bit
  bit_ahead m l =
      let q : (k + m) / 64 ≡ k / 64 = omega arith in
      let r : (k + m) % 64 ≡ k % 64 + m = omega arith in
      rw (q, r) (sym (shifted_bit (get_or ws (k / 64) 0) (k % 64) m))

  pub word_passed : left ws k ≡ 0 → members_from ws k ≡ members_from ws ((k / 64 + 1) * 64)
  word_passed e =
      none_among ws (64 - k % 64) k (omega arith) (λ m l. bit_ahead m (omega arith) ∙ rw e (zero_bit m))
      ∙ ap (members_from ws) (omega arith)

  -- the lowest bit that is left is that of the first member
  module _ (fits : get_or ws (k / 64) 0 < 2 ^ 64) (some : 0 < left ws k) where
    passed : ℕ
    passed = count_trailing_zeros 64 (left ws k)

    lowest : (passed < 64 - k % 64) × (bit (left ws k) passed ≡ true)
    unfolding passed
    lowest =
        let e : 64 - k % 64 + k % 64 ≡ 64 = omega arith in
        trailing_set 64 (64 - k % 64) (left ws k) (omega arith) (shr_lt (64 - k % 64) (k % 64) (rw e fits)) some

    pub member_found : first_of (members_from ws k) ≡ Some (record { 0 = k + count_trailing_zeros 64 (left ws k) })
    unfolding passed
    member_found =
        let l = lowest.0 in
        ap first_of
        (none_among ws passed k (omega arith) (λ m h. bit_ahead m (omega arith) ∙ trailing_none 64 (left ws k) m h)
        ∙ member_here ws (k + passed) (omega arith) (bit_ahead passed (omega arith) ∙ lowest.1))

-- For a walk: what lies before it, by what `next` answers. The members from 0 on are all.
pub record Ahead (ws : List ℕ) (k : ℕ) (j : NodeId) : Type 0 where
  pub from : k ≤ j.0
  pub below : j.0 < 512
  pub rest : members_from ws k ≡ j ∷ members_from ws (j.0 + 1)

module _ (ws : List ℕ) where
  ahead : (n k : ℕ) (j : NodeId) → 512 - k ≡ n → first_of (members_from ws k) ≡ Some j → Ahead ws k j
  ahead zero k j l e = let none = none_past ws k (omega arith) in let z : ◌≡◌ {A = ℕ} 0 1 = cc in let f : ⊥ = omega arith in elim f [ ]
  ahead (suc n) k j l e =
      decide (has_bit ws k)
      (λ t.
      let here = member_here ws k (omega arith) t in
      let same : record { 0 = k } ≡ j = cc in
      let place : k ≡ j.0 = ap (λ (x : NodeId). x.0) same in
      record { from = omega arith; below = omega arith; rest = here ∙ rw (same, place) })
      (λ t.
      let here = none_here ws k (omega arith) t in
      let rest = ahead n (k + 1) j (omega arith) (ap first_of (sym here) ∙ e) in
      let le = rest.from in
      record { from = omega arith; below = rest.below; rest = here ∙ rest.rest })

  pub next_at : (k : ℕ) (j : NodeId) → first_of (members_from ws k) ≡ Some j → Ahead ws k j
  next_at k j e = ahead (512 - k) k j refl e

  pub next_nothing : (k : ℕ) → first_of (members_from ws k) ≡ None → members_from ws k ≡ []
  next_nothing k e = empty (members_from ws k) e
    where
      empty : (s : NodeSet) → first_of s ≡ None → s ≡ []
      empty [] h = refl
      empty (x ∷ xs) h = let z : ◌≡◌ {A = ℕ} 0 1 = cc in let f : ⊥ = omega arith in elim f [ ]

-- The block that an index of the ids of n blocks leads to. It is a function of the ids, the index
-- and the id, whatever the index holds, and the block has the id.
use Rattle.std.specs.Prelude.{ℕ, zero, suc, ◌+◌, ◌-◌, ◌%◌, ◌≤◌, ◌<◌, ◌≡◌, Option, Some, None, cond, List, length, get_or, eqb, ltb}
use Rattle.std.proofs.Common.{arith, sym, ap, ◌∙◌}
use Rattle.model.specs.Tests.{by_cond, eqb-true, eqb_equal, eqb_apart, ltb_true, ltb_less, ltb_not_less}

-- the first block with an id, from place k on along the index over at most so many blocks; behind
-- the last where there is none
abbrev pub place_from : List ℕ → ℕ → List ℕ → ℕ → ℕ → ℕ → ℕ
place_from ids n index id zero k = n
place_from ids n index id (suc left) k =
    cond (ltb k n) (cond (eqb (get_or ids k 0) id) k (place_from ids n index id left (get_or index (128 + k) 0))) n

-- the same from the bucket of the id on
unfoldable pub place_by : List ℕ → ℕ → List ℕ → ℕ → ℕ
place_by ids n index id = place_from ids n index id n (get_or index (id % 128) 0)

-- the same as an answer: none where it is behind the last
abbrev pub block_by : List ℕ → List ℕ → ℕ → Option ℕ
block_by ids index id =
    let k = place_by ids (length ids) index id in
    cond (ltb k (length ids)) (Some k) None

-- A place is behind the last, or that of a block with the id.
pub record Leads (ids : List ℕ) (n id k : ℕ) : Type 0 where
  pub within : k ≤ n
  pub there : k < n → get_or ids k 0 ≡ id

module _ (ids : List ℕ) (n : ℕ) (index : List ℕ) (id : ℕ) where
  nowhere : Leads ids n id n
  nowhere = record { within = omega arith; there = λ l. absurd (omega arith) }

  leads_from : (left k : ℕ) → Leads ids n id (place_from ids n index id left k)
  leads_from zero k = nowhere
  leads_from (suc left) k =
      by_cond (Leads ids n id) (ltb k n)
      (λ l. by_cond (Leads ids n id) (eqb (get_or ids k 0) id)
      (λ e. let below = ltb_true k n l in record { within = omega arith; there = λ _. eqb-true (get_or ids k 0) id e })
      (λ e. leads_from left (get_or index (128 + k) 0)))
      (λ l. nowhere)

  pub leads : Leads ids n id (place_by ids n index id)
  unfolding place_by
  leads = leads_from n (get_or index (id % 128) 0)

  -- one turn of a loop along the index

  module _ (left k : ℕ) (some : 0 < left) where
    again : left ≡ suc (left - 1)
    again = omega arith

    pub from_none : n ≤ k → place_from ids n index id left k ≡ n
    from_none l = rw (again, ltb_not_less k n l)

    pub from_here : k < n → get_or ids k 0 ≡ id → place_from ids n index id left k ≡ k
    from_here l e = rw (again, ltb_less k n l, eqb_equal (get_or ids k 0) id e)

    pub from_next : k < n → ¬ (get_or ids k 0 ≡ id)
        → place_from ids n index id left k ≡ place_from ids n index id (left - 1) (get_or index (128 + k) 0)
    from_next l e = ap (λ m. place_from ids n index id m k) again ∙ rw (ltb_less k n l, eqb_apart (get_or ids k 0) id e)

  pub from_end : (left k : ℕ) → left ≤ 0 → place_from ids n index id left k ≡ n
  from_end left k l = let none : left ≡ 0 = omega arith in rw none

-- A block that is answered is the one that the index leads to.
module _ (ids index : List ℕ) (id : ℕ) where
  pub block_led : {k : ℕ} → block_by ids index id ≡ Some k → (k ≡ place_by ids (length ids) index id) × (k < length ids)
  block_led {k} =
      let place = place_by ids (length ids) index id in
      by_cond (λ (o : Option ℕ). o ≡ Some k → (k ≡ place) × (k < length ids)) (ltb place (length ids))
      (λ l e. let same : place ≡ k = cc in (sym same, rw (← same) (ltb_true place (length ids) l)))
      (λ l e. absurd (cc))

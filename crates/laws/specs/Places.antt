-- Job order holds each block's place, and once.
use Rattle.std.specs.Prelude.{ℕ, zero, suc, ◌+◌, ◌≤◌, ◌<◌, ◌≡◌, eqb}
use Rattle.std.proofs.Common.{arith, inl, inr}
use Rattle.model.specs.Tests.{decide, eqb-true, eqb-false}
use Rattle.model.specs.ListLaws.{All, all_map, NoRepeats}
use Rattle.model.specs.Rounds.{places_from, job_order}
use Rattle.laws.specs.Membership.{Member}

places_below : (k n : ℕ) → All (λ b. b < k + n) (places_from k n)
unfolding places_from
places_below k zero = tt
places_below k (suc n) = (
  omega arith,
  all_map (λ b. b < suc k + n) (λ b. b < k + suc n) (λ b h. omega arith) (places_from (suc k) n)
      (places_below (suc k) n),
)

pub order_below : (n : ℕ) → All (λ b. b < n) (job_order n)
unfolding job_order
order_below n = all_map (λ b. b < zero + n) (λ b. b < n) (λ b h. omega arith) (places_from zero n) (places_below zero n)

places_member : (k n b : ℕ) → k ≤ b → b < k + n → Member b (places_from k n)
unfolding places_from
places_member k zero b low high = absurd (omega arith)
places_member k (suc n) b low high =
    decide (eqb k b) (λ e. inl (eqb-true k b e))
    (λ e. inr (let other = eqb-false k b e in places_member (suc k) n b (omega arith) (omega arith)))

pub order_member : (n b : ℕ) → b < n → Member b (job_order n)
unfolding job_order
order_member n b h = places_member zero n b (omega arith) (omega arith)

places_from_lem : (k n : ℕ) → All (λ b. k ≤ b) (places_from k n)
unfolding places_from
places_from_lem k zero = tt
places_from_lem k (suc n) = (
  omega arith,
  all_map (λ b. suc k ≤ b) (λ b. k ≤ b) (λ b h. omega arith) (places_from (suc k) n)
      (places_from_lem (suc k) n),
)

places_once : (k n : ℕ) → NoRepeats (places_from k n)
unfolding places_from
places_once k zero = tt
places_once k (suc n) = (
  all_map (λ b. suc k ≤ b) (λ b. b ≡ k → ⊥) (λ b h e. omega arith) (places_from (suc k) n)
      (places_from_lem (suc k) n),
  places_once (suc k) n,
)

pub order_once : (n : ℕ) → NoRepeats (job_order n)
unfolding job_order
order_once n = places_once zero n

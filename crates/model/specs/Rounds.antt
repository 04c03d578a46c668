-- Document 01, module 4 (Propagation): walks over all blocks, and rounds until one changes nothing,
-- over any kind of work W.
use Rattle.std.specs.Prelude.{ℕ, zero, suc, Bool, true, false, List, [], ◌∷◌, reverse, replicate}
use Rattle.model.specs.Visit.{TraversalState, Unmarked, each, visit}

-- the places k, k + 1, .. of n blocks: job order
unfoldable pub places_from : ℕ → ℕ → List ℕ
places_from k zero = []
places_from k (suc n) = k ∷ places_from (suc k) n

-- "Forward takes blocks in job order"
unfoldable pub job_order : ℕ → List ℕ
unfolding places_from
job_order n = places_from zero n

-- "Backward takes reverse job order"
unfoldable pub reverse_job_order : ℕ → List ℕ
unfolding job_order
reverse_job_order n = reverse (job_order n)

-- A visit of each block in turn. "Marks are cleared between walks": a walk of n blocks starts with
-- none of them marked.
unfoldable pub walk : {W : Type 0} → ℕ → (ℕ → List ℕ) → (ℕ → List TraversalState → W → W) → List ℕ → W → W
unfolding visit
walk n near join order w = (each (visit near join) order (record { marks = replicate n Unmarked; work = w })).work

-- "The result carries the number of rounds run and whether the last one changed nothing."
pub record Rounds (W : Type 0) : Type 0 where
  pub work : W
  pub rounds : ℕ
  pub settled : Bool

-- "The round that changes nothing is the last": at most `most` rounds, after `ran`.
unfoldable pub rounds_from : {W : Type 0} → (W → Bool) → (W → W) → ℕ → ℕ → W → Rounds W
rounds_from changed round zero ran w = record { work = w; rounds = ran; settled = false }
rounds_from changed round (suc most) ran w =
    let next = round w in
    elim (changed next) [
      | true ↦ rounds_from changed round most (suc ran) next
      | false ↦ record { work = next; rounds = suc ran; settled = true }
    ]

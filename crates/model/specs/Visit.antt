-- Document 01, module 4 (Propagation): the depth-first visit of blocks
-- (`recursively_propagate_non_null`), over any kind of work W. Blocks are known by their places in
-- the job. `near b` lists the neighbours of a block, and `join b marks w` is what a block does to
-- the work once its neighbours are visited.
use Rattle.std.specs.Prelude.{ℕ, zero, suc, Bool, true, false, get_or, set}
use mathlib.Core.List.{List, [], ◌∷◌, foldl}

-- `TraversalState` of the Rust, with the unmarked blocks, of which its map says nothing
pub data TraversalState : Type 0 where
  Unmarked Active Done : TraversalState

-- "Visits unmarked neighbours": a block is marked once it is Active or Done.
abbrev pub is_marked : TraversalState → Bool
is_marked Unmarked = false
is_marked Active = true
is_marked Done = true

-- "Its Done neighbours": the mark is Done.
abbrev pub is_done : TraversalState → Bool
is_done Unmarked = false
is_done Active = false
is_done Done = true

-- the blocks' marks, and the work
pub record Visited (W : Type 0) : Type 0 where
  pub marks : List TraversalState
  pub work : W

-- how many blocks are unmarked
unfoldable pub unmarked_in : List TraversalState → ℕ
unmarked_in [] = zero
unmarked_in (Unmarked ∷ ms) = suc (unmarked_in ms)
unmarked_in (Active ∷ ms) = unmarked_in ms
unmarked_in (Done ∷ ms) = unmarked_in ms

-- a place that is no block of the job counts as marked
abbrev pub marked : {W : Type 0} → ℕ → Visited W → Bool
marked b v = is_marked (get_or v.marks b Done)

-- "A visit marks the block Active"
abbrev pub enter : {W : Type 0} → ℕ → Visited W → Visited W
enter b v = record { marks = set v.marks b Active; work = v.work }

-- "Then joins .. and marks it Done."
abbrev pub leave : {W : Type 0} → (ℕ → List TraversalState → W → W) → ℕ → Visited W → Visited W
leave join b v = record { marks = set v.marks b Done; work = join b v.marks v.work }

-- a step for each block of a list, in its order
abbrev pub each : {S : Type 0} → (ℕ → S → S) → List ℕ → S → S
each step bs s = foldl (λ t b. step b t) s bs

-- "A visit marks the block Active, visits unmarked neighbours, then joins .. and marks it Done", at
-- most `most` visits deep.
unfoldable pub visit_within : {W : Type 0} → ℕ → (ℕ → List ℕ) → (ℕ → List TraversalState → W → W) → ℕ → Visited W → Visited W
visit_within zero near join b v = v
visit_within (suc most) near join b v =
    elim (marked b v) [ true ↦ v | false ↦ leave join b (each (visit_within most near join) (near b) (enter b v)) ]

-- Each visit marks a block, so the unmarked blocks are depth enough (`VisitLaws`).
unfoldable pub visit : {W : Type 0} → (ℕ → List ℕ) → (ℕ → List TraversalState → W → W) → ℕ → Visited W → Visited W
unfolding visit_within unmarked_in
visit near join b v = visit_within (unmarked_in v.marks) near join b v

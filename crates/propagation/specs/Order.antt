-- The order in which a walk leaves the blocks, as bytes note it.
use Rattle.std.specs.Prelude.{
  ℕ,
  zero,
  suc,
  ◌+◌,
  ◌-◌,
  ◌≤◌,
  ◌<◌,
  ◌≡◌,
  Bool,
  true,
  false,
  cond,
  List,
  [],
  ◌∷◌,
  map,
  length,
  get_or,
  set,
  take,
  ltb,
}
use Rattle.model.specs.Visit.{TraversalState, Unmarked, Active, Done, Visited}
use Rattle.model.specs.Rounds.{places_from, job_order, reverse_job_order}
use Rattle.laws.specs.WalkSteps.{Step, steps_of}
use Rattle.graph.specs.Bytes.{size_in, neighbours}

-- "Forward takes blocks in job order .. backward takes reverse job order": the order of n blocks
abbrev pub order_of : Bool → ℕ → List ℕ
order_of false n = job_order n
order_of true n = reverse_job_order n

-- block i of that order
abbrev pub in_order : Bool → ℕ → ℕ → ℕ
in_order false n i = i
in_order true n i = n - 1 - i

-- 0 is an unmarked block, 1 an Active one, any other number a Done one; the code stores 255 less
-- how many were left before it
abbrev pub state_of : ℕ → TraversalState
state_of zero = Unmarked
state_of (suc zero) = Active
state_of (suc (suc k)) = Done

-- the marks of n blocks
unfoldable pub marks_of : ℕ → List ℕ → List TraversalState
marks_of n o = map state_of (take n o)

-- how many blocks are left
abbrev pub left_in : List ℕ → ℕ
left_in o = get_or o 256 0

-- the block that was left after i others
abbrev pub block_left : List ℕ → ℕ → ℕ
block_left o i = get_or o (128 + i) 0

-- which of n blocks were Done before one with mark m was left: those with a greater mark
unfoldable pub done_above : ℕ → ℕ → List ℕ → List TraversalState
done_above n m o = map (λ x. cond (ltb m x) Done Unmarked) (take n o)

-- the same by the block
abbrev pub done_before : ℕ → List ℕ → ℕ → List TraversalState
done_before n o b = done_above n (get_or o b 0) o

-- the step of the block that was left after i others
abbrev pub step_left : ℕ → List ℕ → ℕ → Step
step_left n o i = record { block = block_left o i; done = done_above n (255 - i) o }

-- the steps from number i on
unfoldable pub steps_from : ℕ → List ℕ → ℕ → List Step
unfolding places_from
steps_from n o i = map (step_left n o) (places_from i (left_in o - i))

-- the marks of n blocks and the steps noted
abbrev pub noted_of : ℕ → List ℕ → Visited (List Step)
noted_of n o = record { marks = marks_of n o; work = steps_from n o 0 }

-- block b is left
abbrev pub leaving : List ℕ → ℕ → List ℕ
leaving o b = set (set (set o (128 + left_in o) b) 256 (left_in o + 1)) b (255 - left_in o)

-- how many blocks are not Done
unfoldable pub open_in : List TraversalState → ℕ
open_in [] = zero
open_in (Unmarked ∷ ms) = suc (open_in ms)
open_in (Active ∷ ms) = suc (open_in ms)
open_in (Done ∷ ms) = open_in ms

-- What the bytes are between two visits: each block is left or open, one that is Done has a greater
-- mark than one that is left now would get, and the mark of a block that is left says its number.
pub record Noting (n : ℕ) (o : List ℕ) : Type 0 where
  pub long : length o ≡ 257
  pub small : n ≤ 128
  pub few : left_in o + open_in (marks_of n o) ≡ n
  pub high : (k : ℕ) → k < n → 2 ≤ get_or o k 0 → 255 - left_in o < get_or o k 0
  pub inside : (i : ℕ) → i < left_in o → block_left o i < n
  pub back : (i : ℕ) → i < left_in o → get_or o (block_left o i) 0 ≡ 255 - i

-- What a visit leaves: the marks and the steps that were to be reached. What was Active stays so.
pub record Notes (want : Visited (List Step)) (n : ℕ) (before after : List ℕ) : Type 0 where
  pub noting : Noting n after
  pub same : want ≡ noted_of n after
  pub active : (a : ℕ) → a < n → get_or before a 0 ≡ 1 → get_or after a 0 ≡ 1

-- The bytes note the steps of the walk.
pub record OrderNoted (g : List ℕ) (backward : Bool) (o : List ℕ) : Type 0 where
  pub few : left_in o ≤ 128
  pub inside : (i : ℕ) → i < left_in o → block_left o i < size_in g
  pub back : (i : ℕ) → i < left_in o → get_or o (block_left o i) 0 ≡ 255 - i
  pub steps : steps_of (size_in g) (neighbours g backward) (order_of backward (size_in g)) ≡ steps_from (size_in g) o 0

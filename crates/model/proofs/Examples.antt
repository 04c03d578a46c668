-- The examples of document 01 hold, as one list, by computation; and beside the list, what they
-- leave open.
use Rattle.std.specs.Prelude.{
  ℕ,
  zero,
  ◌≤◌,
  ◌≡◌,
  refl,
  Bool,
  true,
  false,
  List,
  [],
  ◌∷◌,
  map,
  length,
  drop,
  get_or,
  ltb,
}
use Rattle.std.proofs.Common.{sym, ap, ◌∙◌, ltb→lt, arith}
use Rattle.std.proofs.Math.ListN.{get_or-map}
use Rattle.entries.specs.Path.{ReactiveScopeDependency}
use Rattle.model.specs.Registry.{PropertyPathNode, root_node, full_path_of, get_or_create_property}
use Rattle.model.specs.Reduction.{reduce_maybe_optional_chains}
use Rattle.model.specs.Tree.{derive_minimal_dependencies}
use Rattle.model.specs.Stage.{enter_paths, none_entered, propagated}
use Rattle.model.specs.Rounds.{Rounds}
use Rattle.model.specs.Propagation.{Work, done_neighbours}
use Rattle.model.specs.Answer.{writes, answer_of}
use Rattle.model.specs.Examples.{
  tree,
  propagation,
  reduce_entered,
  ExampleHolds,
  AllHold,
  plain,
  optional,
  one,
  five,
  block,
  examples,
  hoistable,
  candidate,
  known,
  known_optional,
  example_job,
  example_answer,
}

-- the buffer's length is asked before the job is read
buffer_fits : (out : List ℕ) → 24576 ≤ length out → ltb (length out) 24576 ≡ false
buffer_fits out h = go (ltb (length out) 24576) refl
  where
    go : (b : Bool) → ltb (length out) 24576 ≡ b → b ≡ false
    go false e = refl
    go true e = absurd (let short = ltb→lt (length out) 24576 (rw e tt) in omega arith)

bytes_hold : (out : List ℕ) → 24576 ≤ length out → answer_of example_job out ≡ writes example_answer
unfolding answer_of
bytes_hold out h = rw (buffer_fits out h)

-- from R1 on
reductions_on : AllHold (drop 8 examples)
unfolding answer_of reduce_maybe_optional_chains propagated done_neighbours
reductions_on = (refl, (refl, ((refl, refl, refl), ((refl, refl, refl), ((refl, refl, refl), (bytes_hold, tt))))))

-- The joint theorem.
pub examples_hold : AllHold examples
unfolding answer_of reduce_maybe_optional_chains derive_minimal_dependencies propagated done_neighbours
examples_hold = (refl, (refl, (refl, (refl, (refl, (refl, (refl, (refl, reductions_on))))))))

-- Beside the list.

-- The order of hoistable paths.

-- {1.11, 1?.10}; 1.12; 1: the optional path stands ahead, so the root is Optional, and the later
-- plain path does not alter it.
pub optional_ahead :
    ExampleHolds (tree (hoistable (known 11 ∷ []) ∷ hoistable (known_optional 10 ∷ []) ∷ []) (candidate (plain 12 ∷ []) ∷ []) (one [] ∷ []))
unfolding derive_minimal_dependencies
optional_ahead = refl

-- {1.10, 1.10?.11}; 1.10.12; the same: "order otherwise kept" of the plain paths, so that 1.10
-- makes the position after 10 NonNull before 1.10?.11 could make it Optional.
pub plain_order_kept :
    ExampleHolds (tree (hoistable (known 10 ∷ []) ∷ hoistable (known 10 ∷ known_optional 11 ∷ []) ∷ [])
    (candidate (plain 10 ∷ plain 12 ∷ []) ∷ []) (one (plain 10 ∷ plain 12 ∷ []) ∷ []))
unfolding derive_minimal_dependencies
plain_order_kept = refl

-- {1?.10.11, 1?.10?.12}; 1?.10.13; the same: and of those ahead.
pub optional_order_kept :
    ExampleHolds (tree (hoistable (known_optional 10 ∷ known 11 ∷ []) ∷ hoistable (known_optional 10 ∷ known_optional 12 ∷ []) ∷ [])
    (candidate (optional 10 ∷ plain 13 ∷ []) ∷ []) (one (optional 10 ∷ plain 13 ∷ []) ∷ []))
unfolding derive_minimal_dependencies
optional_order_kept = refl

-- A reduction's set.

-- {1, 1?.10, 1?.10?.11}: 1.10 is in the set at the moment when 1?.10?.11 is walked again, so
-- 1.10.11 is reached at once and 1.10?.11 is not made.
pub set_of_the_moment :
    length (reduce_entered (enter_paths (none_entered [])
    (one [] ∷ one (optional 10 ∷ []) ∷ one (optional 10 ∷ optional 11 ∷ []) ∷ []))).registry ≡ 5
unfolding reduce_maybe_optional_chains get_or_create_property
set_of_the_moment = refl

-- The order of entering.

-- 1 assumes 5, 0 (after 1) assumes 1: both in both, 2 rounds. "All assumed paths are entered first,
-- in job order": 5 has the first number, and stands first in each set.
pub entered_in_job_order :
    ExampleHolds (propagation (block 1 [] (five ∷ []) ∷ block 0 (1 ∷ []) (one [] ∷ []) ∷ [])
    ((five ∷ one [] ∷ []) ∷ (five ∷ one [] ∷ []) ∷ []) 2)
unfolding propagated done_neighbours
entered_in_job_order = (refl, refl, refl)

-- Rounds and the orders of a walk.

-- A block that assumes 1 and 1?.10 ends with {1, 1.10} after 2 rounds: the first changed the set,
-- though not its size. To compute the path of a single node takes a long time here, and to compute
-- those of all nodes does not; so the set is computed by its nodes' numbers.

abbrev changing : Rounds Work
changing = propagated done_neighbours (block 7 [] (one [] ∷ one (optional 10 ∷ []) ∷ []) ∷ [])

abbrev changed_paths : List ReactiveScopeDependency
changed_paths = one [] ∷ one (optional 10 ∷ []) ∷ one (plain 10 ∷ []) ∷ []

changed_nodes : map (λ (n : PropertyPathNode). n.full_path) changing.work.registry ≡ changed_paths
unfolding propagated done_neighbours
changed_nodes = refl

changed_set : changing.work.sets ≡ (record { 0 = 0 } ∷ record { 0 = 2 } ∷ []) ∷ []
unfolding propagated done_neighbours
changed_set = refl

changed_rounds : (changing.rounds ≡ 2) × (changing.settled ≡ true)
unfolding propagated done_neighbours
changed_rounds = (refl, refl)

-- what `full_path_of` has for no node
abbrev no_node : PropertyPathNode
no_node = root_node (record { 0 = zero }) false zero

changed_path : (k : ℕ) → full_path_of changing.work.registry (record { 0 = k }) ≡ get_or changed_paths k no_node.full_path
changed_path k =
    sym (get_or-map (λ (n : PropertyPathNode). n.full_path) changing.work.registry k no_node)
    ∙ ap (λ paths. get_or paths k no_node.full_path) changed_nodes

pub changed_by_set :
    ExampleHolds (propagation (block 7 [] (one [] ∷ one (optional 10 ∷ []) ∷ []) ∷ []) ((one [] ∷ one (plain 10 ∷ []) ∷ []) ∷ []) 2)
changed_by_set = (
  ap (map (map (full_path_of changing.work.registry))) changed_set ∙ (λ i. (changed_path 0 i ∷ changed_path 2 i ∷ []) ∷ []),
  changed_rounds.0,
  changed_rounds.1,
)

-- 0 (after 1), 1 (after 0) assumes 5: in both, 2 rounds. "Forward takes blocks in job order": 0 is
-- visited first, and 1 is Done when 0 is joined.
pub forward_in_job_order :
    ExampleHolds (propagation (block 0 (1 ∷ []) [] ∷ block 1 (0 ∷ []) (five ∷ []) ∷ []) ((five ∷ []) ∷ (five ∷ []) ∷ []) 2)
unfolding propagated done_neighbours
forward_in_job_order = (refl, refl, refl)

-- 0 (after 1) assumes 5, 1 (after 0): in both, 2 rounds. "Backward takes reverse job order": 1 is
-- visited first, and 0 is Done when 1 is joined.
pub backward_in_reverse :
    ExampleHolds (propagation (block 0 (1 ∷ []) (five ∷ []) ∷ block 1 (0 ∷ []) [] ∷ []) ((five ∷ []) ∷ (five ∷ []) ∷ []) 2)
unfolding propagated done_neighbours
backward_in_reverse = (refl, refl, refl)

-- 2 (after 0, 1) assumes 5, 1 (after 1, 2, 0), 0 (after 0): in all three, 2 rounds. "Successors by
-- ascending id": those of 0 are 0, 1, 2, and not 2, 1, 0 as in the job.
pub successors_ascend :
    ExampleHolds (propagation (block 2 (0 ∷ 1 ∷ []) (five ∷ []) ∷ block 1 (1 ∷ 2 ∷ 0 ∷ []) [] ∷ block 0 (0 ∷ []) [] ∷ [])
    ((five ∷ []) ∷ (five ∷ []) ∷ (five ∷ []) ∷ []) 2)
unfolding propagated done_neighbours
successors_ascend = (refl, refl, refl)

-- 0 (after 2, 1), 2 (after 0, 1) assumes 5, 1: in all three, 2 rounds. The successors of 1 are
-- 0, 2, and not 2, 0 as in reverse job order.
pub successors_not_in_reverse :
    ExampleHolds (propagation (block 0 (2 ∷ 1 ∷ []) [] ∷ block 2 (0 ∷ 1 ∷ []) (five ∷ []) ∷ block 1 [] [] ∷ [])
    ((five ∷ []) ∷ (five ∷ []) ∷ (five ∷ []) ∷ []) 2)
unfolding propagated done_neighbours
successors_not_in_reverse = (refl, refl, refl)

-- 3 (after 2, 1), 1 (after 1, 2, 3), 2 (after 1) assumes 5: only in 2, 1 round. "Predecessors in
-- job order": those of 3 are 2, 1, as its record lists them.
pub predecessors_as_recorded :
    ExampleHolds (propagation (block 3 (2 ∷ 1 ∷ []) [] ∷ block 1 (1 ∷ 2 ∷ 3 ∷ []) [] ∷ block 2 (1 ∷ []) (five ∷ []) ∷ [])
    ([] ∷ [] ∷ (five ∷ []) ∷ []) 1)
unfolding propagated done_neighbours
predecessors_as_recorded = (refl, refl, refl)

-- 0 (after 1, 2), 1 (after 2) assumes 5, 2 (after 1): only in 1, 1 round. The predecessors of 0 are
-- 1, 2, and not 2, 1 as by descending id or in reverse job order.
pub predecessors_not_descending :
    ExampleHolds (propagation (block 0 (1 ∷ 2 ∷ []) [] ∷ block 1 (2 ∷ []) (five ∷ []) ∷ block 2 (1 ∷ []) [] ∷ [])
    ([] ∷ (five ∷ []) ∷ [] ∷ []) 1)
unfolding propagated done_neighbours
predecessors_not_descending = (refl, refl, refl)

-- 1 assumes 5, 0 (after 2, 0, 3), 2 (after 1, 0), 3: in all four, 2 rounds. "A forward and a
-- backward walk": forward takes 5 from 1 to 2, and backward from 2 to 0 and 3 in the same round.
-- Backward first, there would be 3 rounds.
pub forward_first :
    ExampleHolds (propagation (block 1 [] (five ∷ []) ∷ block 0 (2 ∷ 0 ∷ 3 ∷ []) [] ∷ block 2 (1 ∷ 0 ∷ []) [] ∷ block 3 [] [] ∷ [])
    ((five ∷ []) ∷ (five ∷ []) ∷ (five ∷ []) ∷ (five ∷ []) ∷ []) 2)
unfolding propagated done_neighbours
forward_first = (refl, refl, refl)

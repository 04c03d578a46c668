-- The strict propagation, computed, beside the existing one on the same blocks. Nodes are counted
-- too, since 9 counts those of each run.
use Rattle.std.specs.Prelude.{ℕ, ◌≡◌, refl, List, [], ◌∷◌, length}
use Rattle.model.specs.Visit.{Unmarked, Active, Done}
use Rattle.model.specs.Propagation.{JoiningRule, set_of, done_neighbours}
use Rattle.model.specs.Job.{Block}
use Rattle.model.specs.Stage.{propagated}
use Rattle.model.specs.Strict.{strict_neighbours}
use Rattle.model.specs.Examples.{PropagatesTo, optional, one, five, block}

-- The rule by itself: "exactly when it has a neighbour and every neighbour is Done".

pub all_join : strict_neighbours (Done ∷ Unmarked ∷ Done ∷ []) (0 ∷ 2 ∷ []) ≡ 0 ∷ 2 ∷ []
unfolding strict_neighbours
all_join = refl

pub none_beside_active : strict_neighbours (Done ∷ Active ∷ Done ∷ []) (0 ∷ 1 ∷ 2 ∷ []) ≡ []
unfolding strict_neighbours
none_beside_active = refl

pub none_beside_unmarked : strict_neighbours (Done ∷ Unmarked ∷ []) (0 ∷ 1 ∷ []) ≡ []
unfolding strict_neighbours
none_beside_unmarked = refl

pub none_of_none : strict_neighbours (Done ∷ Done ∷ []) [] ≡ []
unfolding strict_neighbours
none_of_none = refl

-- P3 of document 01, of which document 02 says: "a block holding a path that a run avoids". That
-- is 3, which does not hold 5 here, since 1 is Active where 3 is joined.
abbrev pub p3 : List Block
p3 =
    block 0 [] [] ∷ block 1 (0 ∷ 3 ∷ []) [] ∷ block 2 (1 ∷ []) (five ∷ []) ∷ block 3 (1 ∷ 2 ∷ []) [] ∷ block 4 (1 ∷ []) [] ∷ []

pub p3_strict : PropagatesTo strict_neighbours p3 ([] ∷ [] ∷ (five ∷ []) ∷ [] ∷ [] ∷ []) 1
unfolding propagated strict_neighbours
p3_strict = (refl, refl, refl)

-- A block that is its own predecessor, and after one that assumes 1: it is Active where it is
-- joined forward, so under the strict rule it takes nothing over, though its other neighbour is
-- Done.
abbrev pub own_predecessor : List Block
own_predecessor = block 0 [] (one [] ∷ []) ∷ block 1 (1 ∷ 0 ∷ []) [] ∷ []

pub own_predecessor_lem : PropagatesTo done_neighbours own_predecessor ((one [] ∷ []) ∷ (one [] ∷ []) ∷ []) 2
unfolding propagated done_neighbours
own_predecessor_lem = (refl, refl, refl)

pub own_predecessor_strict : PropagatesTo strict_neighbours own_predecessor ((one [] ∷ []) ∷ [] ∷ []) 1
unfolding propagated strict_neighbours
own_predecessor_strict = (refl, refl, refl)

-- Beside a loop a path still comes through: 1 is its own predecessor, but both ways on from 0
-- assume 5, and both are Done where 0 is joined backward.
pub beside_loop_strict :
    PropagatesTo strict_neighbours (block 0 [] [] ∷ block 1 (0 ∷ 1 ∷ []) (five ∷ []) ∷ block 2 (0 ∷ []) (five ∷ []) ∷ [])
    ((five ∷ []) ∷ (five ∷ []) ∷ (five ∷ []) ∷ []) 2
unfolding propagated strict_neighbours
beside_loop_strict = (refl, refl, refl)

-- And in a loop: 0 (after 1), 1 (after 0) assumes 5. The walk from 0 comes to 1 first, where 0 is
-- Active and nothing joins; then 1 is Done where 0 is joined.
pub in_loop_strict :
    PropagatesTo strict_neighbours (block 0 (1 ∷ []) [] ∷ block 1 (0 ∷ []) (five ∷ []) ∷ []) ((five ∷ []) ∷ (five ∷ []) ∷ []) 2
unfolding propagated strict_neighbours
in_loop_strict = (refl, refl, refl)

-- A loop with two entries, 2 (after 1, 3) and 3 (after 0, 2), of which 0 assumes 5 and 1 does not.
-- The walk comes to 3 by way of 2, which is Active then: under the existing rule 3 takes 5 over
-- from 0, and 4 (after 3) from 3, though 1, 2, 3, 4 avoids 0. Under the strict rule 3 takes nothing
-- over.
abbrev pub two_entries : List Block
two_entries =
    block 0 [] (five ∷ []) ∷ block 1 [] [] ∷ block 2 (1 ∷ 3 ∷ []) [] ∷ block 3 (0 ∷ 2 ∷ []) [] ∷ block 4 (3 ∷ []) [] ∷ []

pub two_entries_lem : PropagatesTo done_neighbours two_entries ((five ∷ []) ∷ [] ∷ [] ∷ (five ∷ []) ∷ (five ∷ []) ∷ []) 2
unfolding propagated done_neighbours
two_entries_lem = (refl, refl, refl)

pub two_entries_strict : PropagatesTo strict_neighbours two_entries ((five ∷ []) ∷ [] ∷ [] ∷ [] ∷ [] ∷ []) 1
unfolding propagated strict_neighbours
two_entries_strict = (refl, refl, refl)

-- An Active neighbour that holds the path joins as little as another: 0 (after 2) and 1 assume 5, 2
-- comes after both, and 3 after 2. The walk comes to 2 by way of 0, so 2 takes nothing over, though
-- every block before it holds 5.
pub active_holds_strict :
    PropagatesTo strict_neighbours
    (block 0 (2 ∷ []) (five ∷ []) ∷ block 1 [] (five ∷ []) ∷ block 2 (0 ∷ 1 ∷ []) [] ∷ block 3 (2 ∷ []) [] ∷ [])
    ((five ∷ []) ∷ (five ∷ []) ∷ [] ∷ [] ∷ []) 1
unfolding propagated strict_neighbours
active_holds_strict = (refl, refl, refl)

-- What a block holds under the strict rule need not be part of what it holds under the existing
-- one: 0 assumes 1, 1 (after 1, 0) and 2 assume 1?.10, and 3 comes after 1 and 2. Under the
-- existing rule 1 comes to block 1 and makes 1.10 of 1?.10, which 2 does not have, so that 3 holds
-- nothing; under the strict one 1?.10 stays in both, and comes to 3.
abbrev pub other_paths : List Block
other_paths =
    block 0 [] (one [] ∷ []) ∷ block 1 (1 ∷ 0 ∷ []) (one (optional 10 ∷ []) ∷ []) ∷ block 2 [] (one (optional 10 ∷ []) ∷ [])
    ∷ block 3 (1 ∷ 2 ∷ []) [] ∷ []

-- how many paths block k holds in the end
abbrev pub held_in : JoiningRule → List Block → ℕ → ℕ
held_in rule bs k = length (set_of (propagated rule bs).work.sets k)

pub other_paths_lem : (held_in done_neighbours other_paths 3 ≡ 0) × (held_in strict_neighbours other_paths 3 ≡ 1)
unfolding propagated done_neighbours strict_neighbours
other_paths_lem = (refl, refl)

-- how many nodes a run ends with
abbrev pub nodes_of : JoiningRule → List Block → ℕ
nodes_of rule bs = length (propagated rule bs).work.registry

-- A block without a neighbour joins nothing, and its set is still reduced: of 1 and 1?.10 the
-- second becomes 1.10, a third node, and the round after that changes nothing.
abbrev pub alone : List Block
alone = block 7 [] (one [] ∷ one (optional 10 ∷ []) ∷ []) ∷ []

pub alone_strict :
    (nodes_of strict_neighbours alone ≡ 3) × (held_in strict_neighbours alone 0 ≡ 2) × ((propagated strict_neighbours alone).rounds ≡ 2)
unfolding propagated strict_neighbours
alone_strict = (refl, refl, refl)

-- More under the strict rule. Where 1 comes in from block 0, 1?.10?.10 becomes 1.10.10 at once.
-- Where it does not, it becomes 1?.10.10, since 1?.10 is there, and 1.10.10 only in block 0, which
-- joins backward.
abbrev pub more_strict : List Block
more_strict = block 0 [] (one [] ∷ []) ∷ block 1 (1 ∷ 0 ∷ []) (one (optional 10 ∷ []) ∷ one (optional 10 ∷ optional 10 ∷ []) ∷ []) ∷ []

pub more_strict_lem : (nodes_of done_neighbours more_strict ≡ 5) × (nodes_of strict_neighbours more_strict ≡ 6)
unfolding propagated done_neighbours strict_neighbours
more_strict_lem = (refl, refl)

-- More under the existing rule: backward, 1?.10?.10 joins block 1 from block 2, past block 1
-- itself, which is Active then, and is reduced there.
abbrev pub fewer_strict : List Block
fewer_strict = block 0 [] [] ∷ block 1 (1 ∷ []) (one [] ∷ []) ∷ block 2 (1 ∷ 0 ∷ []) (one (optional 10 ∷ optional 10 ∷ []) ∷ []) ∷ []

pub fewer_strict_lem : (nodes_of done_neighbours fewer_strict ≡ 5) × (nodes_of strict_neighbours fewer_strict ≡ 3)
unfolding propagated done_neighbours strict_neighbours
fewer_strict_lem = (refl, refl)

-- The stage on a job: its graph, its assumed paths entered, propagated, and the returned paths.
use Rattle.std.specs.Prelude.{ℕ, zero, suc, ◌+◌, cond, List, [], ◌∷◌, map, length, get_or, ltb}
use Rattle.entries.specs.declared.BlockId.{BlockId}
use Rattle.entries.specs.Path.{ReactiveScopeDependency}
use Rattle.model.specs.Lists.{select}
use Rattle.model.specs.Sets.{NodeSet, insert}
use Rattle.model.specs.Registry.{PropertyPathRegistry, get_or_create_property, full_path_of}
use Rattle.model.specs.Rounds.{Rounds, job_order}
use Rattle.model.specs.Propagation.{Work, Graph, JoiningRule, set_of, propagate_non_null}
use Rattle.model.specs.Tree.{derive_minimal_dependencies}
use Rattle.model.specs.Job.{Block, Job, assumed_of, same_block, contains_id}

-- The graph, by places in the job.

-- the block at a place; the default stands for no block of the job
abbrev pub block_at : List Block → ℕ → Block
block_at bs k = get_or bs k (record { id = record { 0 = zero }; predecessors = []; raw_reads = []; ready_paths = [] })

-- the place of the block with an id; behind the last where there is none
abbrev pub place_of : List Block → BlockId → ℕ
place_of [] i = zero
place_of (b ∷ bs) i = cond (same_block b.id i) zero (suc (place_of bs i))

-- "Predecessors in job order": as the block's record lists them.
unfoldable pub predecessors_of : List Block → ℕ → List ℕ
predecessors_of bs k = map (place_of bs) (block_at bs k).predecessors

-- A place set in among places whose blocks' ids ascend.
abbrev pub insert_by_id : List Block → ℕ → List ℕ → List ℕ
insert_by_id bs k [] = k ∷ []
insert_by_id bs k (j ∷ js) = cond (ltb (block_at bs k).id.0 (block_at bs j).id.0) (k ∷ j ∷ js) (j ∷ insert_by_id bs k js)

-- Places sorted so that their blocks' ids ascend ("by ascending id").
abbrev pub sort_by_id : List Block → List ℕ → List ℕ
sort_by_id bs [] = []
sort_by_id bs (k ∷ ks) = insert_by_id bs k (sort_by_id bs ks)

-- all blocks, by ascending id
unfoldable pub by_ascending_id : List Block → List ℕ
unfolding job_order
by_ascending_id bs = sort_by_id bs (job_order (length bs))

-- "A block's successors are the blocks that name it as a predecessor"; "successors by ascending
-- id".
unfoldable pub successors_of : List Block → ℕ → List ℕ
unfolding by_ascending_id
successors_of bs k = select (λ j. contains_id (block_at bs j).predecessors (block_at bs k).id) (by_ascending_id bs)

-- The job's graph: its blocks by place, with "predecessors in job order" and "successors by
-- ascending id".
unfoldable pub graph_of : List Block → Graph
unfolding predecessors_of successors_of
graph_of bs = record { size = length bs; predecessors = predecessors_of bs; successors = successors_of bs }

-- The start.

-- The registry and one block's set, as paths are entered, and how many nodes were made for them.
pub record PathsEntered : Type 0 where
  pub registry : PropertyPathRegistry
  pub set : NodeSet
  pub made : ℕ

-- A path's node joins the block's set, and what was made for it is counted.
abbrev pub enter_path : PathsEntered → ReactiveScopeDependency → PathsEntered
enter_path e d =
    let at = get_or_create_property e.registry d in
    record { registry = at.registry; set = insert at.node e.set; made = e.made + at.made }

-- "Assumed paths are entered .. in job order".
abbrev pub enter_paths : PathsEntered → List ReactiveScopeDependency → PathsEntered
enter_paths e [] = e
enter_paths e (d ∷ ds) = enter_paths (enter_path e d) ds

-- As a block starts: none of its paths is entered.
abbrev pub none_entered : PropertyPathRegistry → PathsEntered
none_entered reg = record { registry = reg; set = []; made = 0 }

-- a block's set at the start: its assumed paths. E5: "A path that is not kept enters no registry;
-- kept ones are entered in their place, before the block's PA paths."
abbrev pub enter_block : PropertyPathRegistry → Block → PathsEntered
enter_block reg b = enter_paths (none_entered reg) (assumed_of b)

-- the registry, the blocks' sets in job order, and how many nodes were made for them
pub record Started : Type 0 where
  pub registry : PropertyPathRegistry
  pub sets : List NodeSet
  pub made : ℕ

-- "All assumed paths are entered first, in job order."
unfoldable pub enter_blocks : PropertyPathRegistry → List Block → Started
unfolding get_or_create_property
enter_blocks reg [] = record { registry = reg; sets = []; made = 0 }
enter_blocks reg (b ∷ bs) =
    let e = enter_block reg b in
    let rest = enter_blocks e.registry bs in
    record { registry = rest.registry; sets = e.set ∷ rest.sets; made = e.made + rest.made }

-- With what a job's propagation starts: its paths are entered where no node is yet.
abbrev pub start_of : List Block → Started
start_of bs = enter_blocks [] bs

-- The whole.

-- the blocks propagated from their start, under a joining rule
unfoldable pub propagated : JoiningRule → List Block → Rounds Work
unfolding enter_blocks graph_of propagate_non_null
propagated rule bs = let start = start_of bs in propagate_non_null rule (graph_of bs) start.registry start.sets

-- the paths of the scope block's set, ascending
unfoldable pub hoistable_paths : Job → Work → List ReactiveScopeDependency
hoistable_paths job w = map (full_path_of w.registry) (set_of w.sets (place_of job.blocks job.scope))

-- "The returned paths are the list that the tree gives, counted by place."
unfoldable pub returned_paths : Job → Work → List ReactiveScopeDependency
unfolding hoistable_paths derive_minimal_dependencies
returned_paths job w = derive_minimal_dependencies (hoistable_paths job w) job.candidates

-- On a run whose assumed paths all read to non-nullish values, the paths of the scope block's set
-- do too: under any rule that keeps the run's sets so, under the rule of Done neighbours in a job
-- without loops, and under the strict rule in any job.
use Prim.Native.Nat.{ℕ, zero, suc}
use mathlib.Core.List.{List, [], ◌∷◌}
use Rattle.entries.specs.Path.{ReactiveScopeDependency}
use Rattle.model.specs.ReadingPaths.{Store}
use Rattle.model.specs.Sets.{NodeSet}
use Rattle.model.specs.Registry.{PropertyPathRegistry, own_mark, get_or_create_property, full_path_of}
use Rattle.model.specs.Propagation.{JoiningRule, set_of, round_start, done_neighbours, propagate_non_null}
use Rattle.model.specs.Strict.{strict_neighbours}
use Rattle.model.specs.Job.{Block, Job, assumed_of}
use Rattle.model.specs.Stage.{
  block_at,
  place_of,
  graph_of,
  PathsEntered,
  enter_path,
  enter_paths,
  none_entered,
  enter_block,
  enter_blocks,
  start_of,
  propagated,
  hoistable_paths,
}
use Rattle.model.specs.ListLaws.{All, all_map}
use Rattle.model.specs.SetLaws.{insert_all}
use Rattle.model.specs.RegistryLaws.{Sound}
use Rattle.model.proofs.RegistryLaws.{sound_empty, path_proper, path_extends}
use Rattle.model.proofs.PropagationLaws.{members_empty, paths_filled, blocks_begun}
use Rattle.laws.specs.Membership.{all_at, all_of_map}
use Rattle.safety.specs.Runs.{WithoutLoops, Run, AssumedHold}
use Rattle.safety.specs.ReadingPathsLaws.{NonNull}
use Rattle.safety.specs.RegistrySafe.{NonNullNode, NonNullSet, set_extends, path_safe}
use Rattle.safety.specs.JoinSafe.{NonNullOn}
use Rattle.safety.specs.PropagationSafe.{done_walks, strict_walks, propagation_safe}
use Rattle.laws.specs.GraphLaws.{ProperBlocks}
use Rattle.safety.proofs.RunLaws.{no_loop_back, no_loop_onward, OnRun, back, onward, on_via}

module _ {X : Type 0} (S : Store X) where
  paths_safe : (e : PathsEntered) (ds : List ReactiveScopeDependency) → Sound e.registry → NonNullSet S e.registry e.set
      → All (NonNull S) ds → NonNullSet S (enter_paths e ds).registry (enter_paths e ds).set
  unfolding get_or_create_property
  paths_safe e [] h a p = a
  paths_safe e (d ∷ ds) h a p =
      let at = get_or_create_property e.registry d in
      paths_safe (enter_path e d) ds (path_proper own_mark e.registry d h).sound
      (insert_all (NonNullNode S at.registry) at.node e.set (path_safe S own_mark e.registry d h p.0)
      (set_extends S e.set (path_extends own_mark e.registry d) a)) p.1

  -- the set of a block whose assumed paths hold
  blocks_safe : (reg : PropertyPathRegistry) (bs : List Block) (c : ℕ) → Sound reg → All (NonNull S) (assumed_of (block_at bs c))
      → NonNullSet S (enter_blocks reg bs).registry (set_of (enter_blocks reg bs).sets c)
  unfolding enter_blocks
  blocks_safe reg [] c h p = tt
  blocks_safe reg (b ∷ bs) zero h p =
      let e = enter_block reg b in
      let first = paths_filled (none_entered reg) (assumed_of b) h (members_empty reg) in
      set_extends S e.set (blocks_begun e.registry bs first.sound).extends (paths_safe (none_entered reg) (assumed_of b) h tt p)
  blocks_safe reg (b ∷ bs) (suc c) h p = blocks_safe (enter_block reg b).registry bs c
      (paths_filled (none_entered reg) (assumed_of b) h (members_empty reg)).sound p

  -- under any rule under which propagation keeps the run's sets non-nullish
  module _ (rule : JoiningRule) (j : Job) (ok : ProperBlocks j.blocks) (s : List Block) (run : Run j s) (assumed : AssumedHold S s) where
    abbrev pub Keeps : Type 0
    Keeps = (reg : PropertyPathRegistry) (sets : List NodeSet) → NonNullOn S (OnRun j.blocks s)
        (round_start reg sets) → NonNullOn S (OnRun j.blocks s)
        (propagate_non_null rule (graph_of j.blocks) reg sets).work

    pub hoistable_by : Keeps → All (NonNull S) (hoistable_paths j (propagated rule j.blocks).work)
    unfolding propagated hoistable_paths
    hoistable_by keeps =
        let start = start_of j.blocks in
        let w = (propagated rule j.blocks).work in
        let place = place_of j.blocks j.scope in
        let end = keeps start.registry start.sets (record {
          sound = (blocks_begun [] j.blocks sound_empty).sound;
          safe = λ c m. blocks_safe [] j.blocks c sound_empty
              (all_at (λ b. All (NonNull S) (assumed_of b)) s (block_at j.blocks c) assumed m);
        }) in
        all_of_map (NonNull S) (full_path_of w.registry) (set_of w.sets place)
        (all_map (NonNullNode S w.registry) (λ k. NonNull S (full_path_of w.registry k)) (λ k n. n.safe)
        (set_of w.sets place) (end.safe place (on_via j.blocks j.scope ok s run)))

  -- under the rule of Done neighbours, where there are no loops
  pub hoistable_safe : (j : Job) → ProperBlocks j.blocks → WithoutLoops j.blocks → (s : List Block) → Run j s
      → AssumedHold S s → All (NonNull S) (hoistable_paths j (propagated done_neighbours j.blocks).work)
  unfolding graph_of
  hoistable_safe j ok free s run assumed =
      let g = graph_of j.blocks in
      let On = OnRun j.blocks s in
      hoistable_by done_neighbours j ok s run assumed
      (propagation_safe S On done_neighbours g
      (done_walks S On g.size g.predecessors (back j.blocks j.scope ok s run) (no_loop_back j.blocks ok free))
      (done_walks S On g.size g.successors (onward j.blocks j.scope ok s run) (no_loop_onward j.blocks ok free)))

  -- under the strict rule, with or without loops
  pub hoistable_strict : (j : Job) → ProperBlocks j.blocks → (s : List Block) → Run j s → AssumedHold S s
      → All (NonNull S) (hoistable_paths j (propagated strict_neighbours j.blocks).work)
  hoistable_strict j ok s run assumed =
      let g = graph_of j.blocks in
      let On = OnRun j.blocks s in
      hoistable_by strict_neighbours j ok s run assumed
      (propagation_safe S On strict_neighbours g
      (strict_walks S On g.size g.predecessors (back j.blocks j.scope ok s run))
      (strict_walks S On g.size g.successors (onward j.blocks j.scope ok s run)))

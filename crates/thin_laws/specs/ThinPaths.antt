-- The stage makes the same of a thin job: its blocks give the same registry, sets and graph, so
-- that propagation is the same; its candidates give the same returned paths; and the bytes of the
-- answer and of the sheet are the same.
use Rattle.std.specs.Prelude.{ℕ, zero, suc, ◌+◌, ◌≡◌, refl, Bool, true, cond, length, eqb}
use Rattle.std.proofs.Common.{arith, sym, ap, ◌∙◌}
use mathlib.Core.List.{List, [], ◌∷◌, map, foldl, foldl-map}
use Rattle.std.proofs.lemmas.List.{length-map}
use Rattle.entries.specs.declared.BlockId.{BlockId}
use Rattle.entries.specs.Path.{ReactiveScopeDependency}
use Rattle.model.specs.Lists.{select}
use Rattle.model.specs.Tests.{eqb_same, and_first, and_second}
use Rattle.model.specs.Sets.{NodeSet, contains}
use Rattle.model.specs.SetLaws.{Ascending, insert_from, contains_insert, contains_inserted}
use Rattle.model.specs.Registry.{PropertyPathRegistry, own_mark, get_or_create_property}
use Rattle.model.specs.RegistryLaws.{Extends}
use Rattle.model.proofs.RegistryLaws.{extends_refl, extends_trans, path_extends}
use Rattle.model.proofs.EnteredAgain.{enters_nothing}
use Rattle.model.specs.Rounds.{Rounds, job_order}
use Rattle.model.specs.Propagation.{Work, JoiningRule, propagate_non_null}
use Rattle.model.specs.Forest.{Forest, empty, add, add_all, firsts}
use Rattle.model.specs.Tree.{
  HoistablePosition,
  hoistable_tree,
  DependencyPosition,
  dependency_key,
  is_dependency,
  merge_position,
  walk_candidate,
  dependency_tree,
  dependency_of,
  derive_minimal_dependencies,
}
use Rattle.model.specs.RawReads.{kept_paths}
use Rattle.model.specs.Job.{Block, Job, same_block, contains_id}
use Rattle.model.specs.Stage.{
  block_at,
  place_of,
  predecessors_of,
  insert_by_id,
  sort_by_id,
  by_ascending_id,
  successors_of,
  graph_of,
  PathsEntered,
  enter_path,
  enter_paths,
  none_entered,
  enter_block,
  Started,
  enter_blocks,
  propagated,
  hoistable_paths,
  returned_paths,
}
use Rattle.model.proofs.PropagationLaws.{paths_append}
use Rattle.model.specs.Answer.{answer_bytes, set_bytes, sheet_bytes}
use Rattle.model.specs.Thin.{same_path, thinned_after, thinned_paths, thinned_block, thinned}
use Rattle.laws.specs.AddedAgain.{walk_again}
use Rattle.thin_laws.specs.Repeats.{thinned_fold}

-- Paths entered.

enter_each : (s : PathsEntered) (ds : List ReactiveScopeDependency) → enter_paths s ds ≡ foldl enter_path s ds
enter_each s [] = refl
enter_each s (d ∷ ds) = enter_each (enter_path s d) ds

-- a path was entered, and its node is in the set
record Entered (s : PathsEntered) (d : ReactiveScopeDependency) : Type 0 where
  from : PropertyPathRegistry
  extends : Extends (get_or_create_property from d).registry s.registry
  inside : contains s.set (get_or_create_property from d).node ≡ true

entered_own : (s : PathsEntered) (d : ReactiveScopeDependency) → Ascending s.set → Entered (enter_path s d) d
entered_own s d up =
    let at = get_or_create_property s.registry d in
    record {
      from = s.registry;
      extends = extends_refl at.registry;
      inside = rw (contains_inserted at.node at.node s.set, eqb_same at.node.0);
    }

entered_kept : (s : PathsEntered) (d e : ReactiveScopeDependency) → Entered s e → Entered (enter_path s d) e
unfolding get_or_create_property
entered_kept s d e k =
    let at = get_or_create_property s.registry d in
    record {
      from = k.from;
      extends = extends_trans k.extends (path_extends own_mark s.registry d);
      inside = contains_insert at.node (get_or_create_property k.from e).node s.set k.inside;
    }

entered_again : (s : PathsEntered) (d e : ReactiveScopeDependency) → Ascending s.set → Entered s e → same_path e d ≡ true
    → enter_path s d ≡ s
entered_again s d e up k same =
    let first = eqb e.identifier.0 d.identifier.0 in
    enters_nothing k.from s e d (and_first first _ same) (and_second first _ same) k.extends up k.inside

pub enter_thinned : (start : PathsEntered) (ds : List ReactiveScopeDependency) → Ascending start.set
    → enter_paths start (thinned_paths ds) ≡ enter_paths start ds
enter_thinned start ds up =
    enter_each start (thinned_paths ds) ∙ thinned_fold enter_path (λ x. Ascending x.set) Entered
    (λ x d h. insert_from zero (get_or_create_property x.registry d).node x.set (omega arith) h) entered_own entered_kept entered_again
    start ds up ∙ sym (enter_each start ds)

ascending_entered : (start : PathsEntered) (ds : List ReactiveScopeDependency) → Ascending start.set
    → Ascending (enter_paths start ds).set
ascending_entered start [] up = up
ascending_entered start (d ∷ ds) up =
    ascending_entered (enter_path start d) ds
    (insert_from zero (get_or_create_property start.registry d).node start.set (omega arith) up)

-- A block's raw reads stay, and what is kept of them is entered before its paths.
block_entered : (reg : PropertyPathRegistry) (b : Block) → enter_block reg (thinned_block b) ≡ enter_block reg b
block_entered reg b =
    let kept = enter_paths (none_entered reg) (kept_paths b.raw_reads) in
    paths_append (none_entered reg) (kept_paths b.raw_reads) (thinned_paths b.ready_paths)
    ∙ enter_thinned kept b.ready_paths (ascending_entered (none_entered reg) (kept_paths b.raw_reads) tt)
    ∙ sym (paths_append (none_entered reg) (kept_paths b.raw_reads) b.ready_paths)

pub blocks_thinned : (reg : PropertyPathRegistry) (bs : List Block) → enter_blocks reg (map thinned_block bs) ≡ enter_blocks reg bs
unfolding enter_blocks
blocks_thinned reg [] = refl
blocks_thinned reg (b ∷ bs) =
    let e = enter_block reg b in
    let after : PathsEntered → Started → Started = λ x rest. record {
      registry = rest.registry;
      sets = x.set ∷ rest.sets;
      made = x.made + rest.made;
    } in
    ap (λ (x : PathsEntered). after x (enter_blocks x.registry (map thinned_block bs))) (block_entered reg b)
    ∙ ap (after e) (blocks_thinned e.registry bs)

-- The graph.

place_thinned : (bs : List Block) (i : BlockId) → place_of (map thinned_block bs) i ≡ place_of bs i
place_thinned [] i = refl
place_thinned (b ∷ bs) i = ap (λ (n : ℕ). cond (same_block b.id i) zero (suc n)) (place_thinned bs i)

block_thinned : (bs : List Block) (k : ℕ) → block_at (map thinned_block bs) k ≡ thinned_block (block_at bs k)
unfolding thinned_after
block_thinned [] k = refl
block_thinned (b ∷ bs) zero = refl
block_thinned (b ∷ bs) (suc k) = block_thinned bs k

predecessors_thinned : (bs : List Block) (k : ℕ) → predecessors_of (map thinned_block bs) k ≡ predecessors_of bs k
unfolding predecessors_of
predecessors_thinned bs k =
    ap (λ (b : Block). map (place_of (map thinned_block bs)) b.predecessors) (block_thinned bs k)
    ∙ ap (λ (f : BlockId → ℕ). map f (block_at bs k).predecessors) (λ i x. place_thinned bs x i)

insert_thinned : (bs : List Block) (k : ℕ) (js : List ℕ) → insert_by_id (map thinned_block bs) k js ≡ insert_by_id bs k js
insert_thinned bs k [] = refl
insert_thinned bs k (j ∷ js) = rw (block_thinned bs k, block_thinned bs j, insert_thinned bs k js)

sort_thinned : (bs : List Block) (ks : List ℕ) → sort_by_id (map thinned_block bs) ks ≡ sort_by_id bs ks
sort_thinned bs [] = refl
sort_thinned bs (k ∷ ks) = insert_thinned bs k (sort_by_id (map thinned_block bs) ks) ∙ ap (insert_by_id bs k) (sort_thinned bs ks)

ascending_thinned : (bs : List Block) → by_ascending_id (map thinned_block bs) ≡ by_ascending_id bs
unfolding by_ascending_id
ascending_thinned bs = sort_thinned bs (job_order (length (map thinned_block bs))) ∙ ap (λ (n : ℕ). sort_by_id bs (job_order n))
    (length-map bs thinned_block)

successors_thinned : (bs : List Block) (k : ℕ) → successors_of (map thinned_block bs) k ≡ successors_of bs k
unfolding successors_of
successors_thinned bs k =
    let names : ℕ → Bool = λ j. contains_id (block_at bs j).predecessors (block_at bs k).id in
    ap (λ (test : ℕ → Bool). select test (by_ascending_id (map thinned_block bs)))
    (λ i j. contains_id (block_thinned bs j i).predecessors (block_thinned bs k i).id)
    ∙ ap (select names) (ascending_thinned bs)

pub graph_thinned : (bs : List Block) → graph_of (map thinned_block bs) ≡ graph_of bs
unfolding graph_of
graph_thinned bs = λ i. record {
  size = length-map bs thinned_block i;
  predecessors = λ k. predecessors_thinned bs k i;
  successors = λ k. successors_thinned bs k i;
}

pub propagated_thinned : (rule : JoiningRule) (bs : List Block) → propagated rule (map thinned_block bs) ≡ propagated rule bs
unfolding propagated
propagated_thinned rule bs =
    let start = blocks_thinned [] bs in
    λ i. propagate_non_null rule (graph_thinned bs i) (start i).registry (start i).sets

-- The returned paths.

module _ (t : Forest HoistablePosition) where
  -- one candidate's walk added
  abbrev add_walk : Forest DependencyPosition → ReactiveScopeDependency → Forest DependencyPosition
  add_walk f d = add dependency_key merge_position f (walk_candidate t d)

  -- after any walks the walk of an equal candidate changes nothing
  abbrev Walked : Forest DependencyPosition → ReactiveScopeDependency → Type 0
  Walked f d = (vs : List (List DependencyPosition)) (e : ReactiveScopeDependency) → same_path d e ≡ true
      → add_walk (add_all dependency_key merge_position f vs) e ≡ add_all dependency_key merge_position f vs

  walked_own : (f : Forest DependencyPosition) (d : ReactiveScopeDependency) → Walked (add_walk f d) d
  walked_own f d vs e same =
      let first = eqb d.identifier.0 e.identifier.0 in
      walk_again t f d e vs (and_first first _ same) (and_second first _ same)

  walks_thinned : (f : Forest DependencyPosition) (cs : List ReactiveScopeDependency)
      → add_all dependency_key merge_position f (map (walk_candidate t) (thinned_paths cs))
      ≡ add_all dependency_key merge_position f (map (walk_candidate t) cs)
  walks_thinned f cs =
      foldl-map (walk_candidate t) (add dependency_key merge_position) (thinned_paths cs) f
      ∙ thinned_fold add_walk (λ _. Unit {0}) Walked (λ _ _ _. tt) (λ g d _. walked_own g d)
      (λ g d e k vs. k (walk_candidate t d ∷ vs)) (λ g d e _ k same. k [] d same) f cs tt
      ∙ sym (foldl-map (walk_candidate t) (add dependency_key merge_position) cs f)

pub derived_thinned : (hs cs : List ReactiveScopeDependency)
    → derive_minimal_dependencies hs (thinned_paths cs) ≡ derive_minimal_dependencies hs cs
unfolding derive_minimal_dependencies dependency_tree
derived_thinned hs cs =
    ap (λ (f : Forest DependencyPosition). map dependency_of (firsts is_dependency f)) (walks_thinned (hoistable_tree hs) empty cs)

hoistable_thinned : (j : Job) (w : Work) → hoistable_paths (thinned j) w ≡ hoistable_paths j w
unfolding hoistable_paths thinned
hoistable_thinned j w = rw (place_thinned j.blocks j.scope)

pub returned_thinned : (j : Job) (w : Work) → returned_paths (thinned j) w ≡ returned_paths j w
unfolding returned_paths thinned
returned_thinned j w =
    ap (λ (hs : List ReactiveScopeDependency). derive_minimal_dependencies hs (thinned_paths j.candidates)) (hoistable_thinned j w)
    ∙ derived_thinned (hoistable_paths j w) j.candidates

-- The bytes.

pub answer_thinned : (span_bytes : ℕ) (j : Job) (p : Rounds Work) → answer_bytes span_bytes (thinned j) p ≡ answer_bytes span_bytes j p
unfolding answer_bytes
answer_thinned span_bytes j p = rw (returned_thinned j p.work)

sets_thinned : (bs : List Block) (sets : List NodeSet) → set_bytes (map thinned_block bs) sets ≡ set_bytes bs sets
unfolding set_bytes
sets_thinned [] sets = refl
sets_thinned (b ∷ bs) [] = refl
sets_thinned (b ∷ bs) (s ∷ sets) = rw (sets_thinned bs sets)

pub sheet_thinned : (span_bytes : ℕ) (j : Job) (start : Started) (p : Rounds Work)
    → sheet_bytes span_bytes (thinned j) start p ≡ sheet_bytes span_bytes j start p
unfolding sheet_bytes thinned
sheet_thinned span_bytes j start p = rw (sets_thinned j.blocks p.work.sets, length-map j.blocks thinned_block)

-- The propagation of a job: its assumed paths entered and its graph filled are what the definition
-- starts from.
use Prim.Native.Nat.{ℕ, ◌+◌, ◌<◌}
use native.Mathlib.Omega.{arith}
use mathlib.Core.Path.{◌≡◌, sym, ap, subst, ◌∙◌}
use mathlib.Core.List.{List, []}
use lib.ListN.{length}
use Rattle.model.specs.ListLaws.{All}
use Rattle.model.specs.Sets.{NodeSet}
use Rattle.model.specs.Registry.{node_limit, PropertyPathRegistry}
use Rattle.model.proofs.RegistryLaws.{extends_length}
use Rattle.model.specs.ReductionLaws.{Members}
use Rattle.model.specs.Rounds.{Rounds}
use Rattle.model.specs.Propagation.{Work, JoiningRule, propagate_non_null}
use Rattle.model.proofs.PropagationLaws.{propagated_extends, blocks_longer, start_proper}
use Rattle.model.specs.Job.{Block}
use Rattle.model.specs.Stage.{graph_of, start_of, propagated}
use Rattle.rows.specs.Rows.{rows_of}
use Rattle.registry.specs.Words.{registry_of}
use Rattle.job.specs.Kept.{blocks_of}
use Rattle.job.proofs.BlocksAt.{blocks_read}
use Rattle.assumed.specs.Start.{StartHeld}
use Rattle.graph.specs.Bytes.{size_in, graph_in}
use Rattle.laws.specs.GraphsAgree.{Agree, propagation_agrees}
use Rattle.edges.specs.Fills.{NotedJob, HoldsGraph}
use Rattle.propagation.specs.Joins.{RowsStand, Ready}
use Rattle.propagation.specs.Propagates.{Propagates}
use Rattle.entries.specs.declared.RoundsRun.{RoundsRun}
use Rattle.entries.specs.declared.Refusal.{Refusal}
use Rattle.std.specs.Prelude.{Result}

-- a registry that has passed the limit before propagation stays beyond it
pub full_start : (rule : JoiningRule) (bs : List Block) → node_limit < length (start_of bs).registry → node_limit < length
    (propagated rule bs).work.registry
full_start rule bs h = let longer = extends_length (propagated_extends rule bs) in omega arith

module _ {bs : List Block} {n : ℕ} {ws os sets g : List ℕ} (count : length bs ≡ n) (x : StartHeld (start_of bs) n ws os sets) (y : HoldsGraph bs g) where
  size_same : size_in g ≡ n
  size_same = y.size ∙ count

  pub ready : Ready g sets ws os
  ready = record {
    fits = y.fits;
    once = y.once;
    both_ways = y.both_ways;
    stands = subst (λ m. RowsStand m sets ws os) (sym size_same) (record {
      lent = x.lent;
      held = x.held;
      members = subst (λ (ss : List NodeSet). All (Members (registry_of ws)) ss) x.sets
          (subst (λ (reg : PropertyPathRegistry). All (Members reg) (start_of bs).sets) x.registry (start_proper bs).members);
    });
  }

  agrees : Agree (graph_in g) (graph_of bs)
  unfolding graph_in graph_of
  agrees = record {
    size = y.size;
    predecessors = λ b l. y.predecessors b (let s = y.size in omega arith);
    successors = λ b l. y.successors b
        (let s = y.size in omega arith);
  }

  want_same : (rule : JoiningRule) → propagate_non_null rule (graph_in g) (registry_of ws) (rows_of sets (size_in g)) ≡ propagated rule bs
  unfolding propagated
  want_same rule =
      ap (λ m. propagate_non_null rule (graph_in g) (registry_of ws) (rows_of sets m)) size_same
      ∙ propagation_agrees rule agrees (registry_of ws) (rows_of sets n)
      ∙ ap (λ (reg : PropertyPathRegistry). propagate_non_null rule (graph_of bs) reg (rows_of sets n)) (sym x.registry)
      ∙ ap (λ (ss : List NodeSet). propagate_non_null rule (graph_of bs) (start_of bs).registry ss) (sym x.sets)

  pub propagates : (rule : JoiningRule) (r : Result RoundsRun Refusal) (sets' ws' os' : List ℕ) → Propagates
      (propagate_non_null rule (graph_in g) (registry_of ws) (rows_of sets (size_in g))) (size_in g) r sets' ws' os'
      → Propagates (propagated rule bs) n r sets' ws' os'
  propagates rule r sets' ws' os' h =
      subst (λ m. Propagates (propagated rule bs) m r sets' ws' os') size_same
      (subst (λ (w : Rounds Work). Propagates w (size_in g) r sets' ws' os') (want_same rule) h)

-- the blocks that the bytes read to are those of the job
module _ {s ids places : List ℕ} {n : ℕ} (noted : NotedJob s ids places n) where
  pub blocks_count : length (blocks_of s) ≡ n
  blocks_count = ap length (blocks_read noted.job noted.blocks) ∙ noted.blocks.count

  pub job_propagated : (rule : JoiningRule) (r : Result RoundsRun Refusal) (sets ws os : List ℕ) → Propagates (propagated rule (blocks_of s)) n r sets ws os
      → Propagates (propagated rule noted.job.blocks) n r sets ws os
  job_propagated rule r sets ws os = subst (λ (bs : List Block). Propagates (propagated rule bs) n r sets ws os) (blocks_read noted.job noted.blocks)

  pub job_full : (rule : JoiningRule) → node_limit < length (propagated rule (blocks_of s)).work.registry
      → node_limit < length (propagated rule noted.job.blocks).work.registry
  job_full rule = subst (λ (bs : List Block). node_limit < length (propagated rule bs).work.registry) (blocks_read noted.job noted.blocks)

  -- what entering made is what is there before the first round
  pub job_entered : (made : ℕ) → made ≡ (start_of (blocks_of s)).made → length (start_of noted.job.blocks).registry ≡ made
  job_entered made e =
      let bs = noted.job.blocks in
      let same = ap (λ (bs : List Block). (start_of bs).made) (blocks_read noted.job noted.blocks) in
      let all : length (start_of bs).registry ≡ 0 + (start_of bs).made = blocks_longer [] bs in
      omega arith

-- Document 02, E2: "On loop-free jobs it writes the same bytes as the existing one." Where there
-- are no loops each neighbour of a block is Done when the block is joined, and then both rules join
-- all of them.
use Rattle.std.specs.Prelude.{ℕ, ◌≡◌, refl, true, List, [], ◌∷◌}
use Rattle.std.proofs.Common.{ap}
use Rattle.model.specs.ListLaws.{All}
use Rattle.model.specs.Visit.{TraversalState}
use Rattle.model.specs.Rounds.{Rounds}
use Rattle.model.specs.Reduction.{reduce_maybe_optional_chains}
use Rattle.model.specs.Propagation.{Work, done_neighbours, propagate_non_null}
use Rattle.model.specs.ReadingBytes.{Read, got, refused}
use Rattle.model.specs.Job.{Block, Job, HD, read_job}
use Rattle.model.specs.Stage.{graph_of, start_of, propagated}
use Rattle.model.specs.Answer.{
  within_lengths,
  within_nodes,
  on_job,
  least_buffer,
  longest_job,
  span_width,
  Writing,
  verdict,
  answer_writing,
  sheet_bytes,
  answer_of,
  sheet_of,
}
use Rattle.model.specs.Strict.{all_done, strict_neighbours, strict_answer_of, strict_sheet_of}
use Rattle.model.proofs.StrictLaws.{strict_joins}
use Rattle.laws.specs.VisitOrder.{IsDone}
use Rattle.laws.specs.WalksAgree.{rules_agree}
use Rattle.laws.specs.GraphLaws.{ProperBlocks, predecessors_inside, successors_inside}
use Rattle.laws.specs.Fits.{HoldsIfRead}
use Rattle.laws.specs.Verdicts.{job_proper}
use Rattle.safety.specs.Runs.{WithoutLoops}
use Rattle.safety.specs.Statement.{StrictSame}
use Rattle.safety.proofs.RunLaws.{no_loop_back, no_loop_onward}

-- Where all are Done, both rules join all.

all_done_lem : (marks : List TraversalState) (bs : List ℕ) → All (IsDone marks) bs → all_done marks bs ≡ true
all_done_lem marks [] a = refl
all_done_lem marks (b ∷ bs) a = rw (a.0, all_done_lem marks bs a.1)

both_join_all : (marks : List TraversalState) (bs : List ℕ) → All (IsDone marks) bs → strict_neighbours marks bs ≡ done_neighbours marks bs
both_join_all marks bs a = strict_joins marks bs (all_done_lem marks bs a)

pub propagated_same : (bs : List Block) → ProperBlocks bs → WithoutLoops bs → propagated strict_neighbours bs ≡ propagated done_neighbours bs
unfolding propagated propagate_non_null graph_of
propagated_same bs ok free =
    rules_agree reduce_maybe_optional_chains strict_neighbours done_neighbours both_join_all (graph_of bs)
    (record { in_graph = predecessors_inside bs ok; no_loop = no_loop_back bs ok free })
    (record { in_graph = successors_inside bs ok; no_loop = no_loop_onward bs ok free })
    (start_of bs).registry (start_of bs).sets

-- The verdicts, for any mark of the header, any width of a span and whatever is written.
pub strict_verdict : (head span_bytes : ℕ) (bytes : Writing) (job out : List ℕ)
    → HoldsIfRead (λ (j : Job). WithoutLoops j.blocks) (read_job head span_bytes job)
    → verdict head span_bytes strict_neighbours bytes job out ≡ verdict head span_bytes done_neighbours bytes job out
unfolding verdict
strict_verdict head span_bytes bytes job out free =
    ap (within_lengths least_buffer longest_job job out) (go (read_job head span_bytes job) free (job_proper head span_bytes job))
  where
    go : (x : Read Job) → HoldsIfRead (λ (j : Job). WithoutLoops j.blocks) x
        → HoldsIfRead (λ (j : Job). ProperBlocks j.blocks) x
        → on_job strict_neighbours (bytes span_bytes) x ≡ on_job done_neighbours (bytes span_bytes) x
    go (got j end) free ok =
        ap (λ (p : Rounds Work). within_nodes p (bytes span_bytes j (start_of j.blocks) p))
        (propagated_same j.blocks ok free)
    go (refused r) free ok = refl

pub strict_same : StrictSame
unfolding strict_answer_of strict_sheet_of answer_of sheet_of
strict_same job out free = (strict_verdict HD span_width answer_writing job out free, strict_verdict HD span_width sheet_bytes job out free)

-- Demand 3 (`Statement`): the theorems `demand_3` and `strict_demand_3`.
use Rattle.std.specs.Prelude.{ℕ, ◌≡◌, List, length}
use Rattle.std.proofs.Common.{sym, subst}
use Rattle.model.specs.ListLaws.{All}
use Rattle.model.specs.ReadingPaths.{Store}
use Rattle.model.specs.Propagation.{JoiningRule, done_neighbours}
use Rattle.model.specs.ReadingBytes.{got}
use Rattle.model.specs.Job.{Block, Job, HD, read_job}
use Rattle.model.specs.Stage.{propagated, hoistable_paths, returned_paths}
use Rattle.model.specs.Answer.{span_width, verdict, answer_writing, answer_of, read_answer}
use Rattle.model.specs.Strict.{strict_neighbours, strict_answer_of}
use Rattle.safety.specs.Runs.{WithoutLoops, Run, AssumedHold}
use Rattle.safety.specs.Statement.{
  Demand3,
  AnswerMeetsDemand3,
  OperationMeetsDemand3,
  EveryAnswerMeetsDemand3,
  AnyBlocks,
  EveryStrictAnswerMeetsDemand3,
}
use Rattle.safety.specs.ReadingPathsLaws.{NonNull}
use Rattle.laws.specs.GraphLaws.{ProperBlocks}
use Rattle.safety.proofs.StageSafe.{hoistable_safe, hoistable_strict}
use Rattle.laws.specs.TreeLaws.{returned_one, returned_some}
use Rattle.safety.specs.TreeSafe.{tree_safe}
use Rattle.laws.specs.Fits.{holds_got, job_fits}
use Rattle.laws.specs.Verdicts.{job_proper, ReadAndWritten, verdict_written, answered, answer_holds}

-- Under the rule, along each run of a job whose blocks meet the hypothesis, the paths of the scope
-- block's set are non-nullish where the assumed ones are.
abbrev pub SafeRule : JoiningRule → (List Block → Type 0) → Type 1
SafeRule rule Hypothesis =
    (j : Job) → ProperBlocks j.blocks → Hypothesis j.blocks → (X : Type 0) (S : Store X) (s : List Block) → Run j s
    → AssumedHold S s → All (NonNull S) (hoistable_paths j (propagated rule j.blocks).work)

-- a job's returned paths
pub job_demand : (Hypothesis : List Block → Type 0) (rule : JoiningRule) → SafeRule rule Hypothesis → (j : Job)
    → ProperBlocks j.blocks → Demand3 Hypothesis j (returned_paths j (propagated rule j.blocks).work)
unfolding returned_paths
job_demand Hypothesis rule safe j ok =
    let hs = hoistable_paths j (propagated rule j.blocks).work in
    record {
      safety = λ free X S s run assumed. tree_safe S hs j.candidates
          (safe j ok free X S s run assumed);
      exactness = record { one = returned_one hs j.candidates; some = returned_some hs j.candidates };
    }

-- What an operation's answer meets, under any rule that is safe under a hypothesis.
pub verdict_meets : (head span_bytes : ℕ) (Hypothesis : List Block → Type 0) (rule : JoiningRule) → SafeRule rule Hypothesis
    → OperationMeetsDemand3 head span_bytes Hypothesis (verdict head span_bytes rule answer_writing)
verdict_meets head span_bytes Hypothesis rule safe job out answer bytes e = go
    (verdict_written head span_bytes rule answer_writing job out answer e)
  where
    go : ReadAndWritten rule (answer_writing span_bytes) (read_job head span_bytes job) answer
        → AnswerMeetsDemand3 head span_bytes Hypothesis job answer
    go w =
        let fit = holds_got _ w.reads (job_fits job bytes head span_bytes) in
        record {
          j = w.j;
          end = w.end;
          reads_job = w.reads;
          answered = answered rule w.j;
          reads_answer = subst (λ b. read_answer span_bytes b 0 ≡ got (answered rule w.j) (length b)) (sym w.written)
              (answer_holds rule span_bytes w.j fit.0 fit.1);
          holds = job_demand Hypothesis rule safe w.j
              (holds_got (λ (j : Job). ProperBlocks j.blocks) w.reads (job_proper head span_bytes job));
        }

-- The theorems.

pub done_safe : SafeRule done_neighbours WithoutLoops
done_safe j ok free X S s run assumed = hoistable_safe S j ok free s run assumed

pub strict_safe : SafeRule strict_neighbours AnyBlocks
strict_safe j ok any X S s run assumed = hoistable_strict S j ok s run assumed

pub demand_3 : EveryAnswerMeetsDemand3
unfolding answer_of
demand_3 = verdict_meets HD span_width WithoutLoops done_neighbours done_safe

pub strict_demand_3 : EveryStrictAnswerMeetsDemand3
unfolding strict_answer_of
strict_demand_3 = verdict_meets HD span_width AnyBlocks strict_neighbours strict_safe

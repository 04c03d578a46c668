-- The operations on a job, and what their parts leave in the lent words and in the buffer.
use Rattle.std.specs.Prelude.{ℕ, ◌^◌, ◌≤◌, ◌<◌, ◌≡◌, List, map, length, take, ℤ, pos, neg_ℤ, Option, Some, None, Result, Ok, Err}
use Rattle.entries.specs.declared.Refusal.{Refusal}
use Rattle.entries.specs.Refusals.{refusal_number}
use Rattle.model.specs.ListLaws.{All}
use Rattle.model.specs.ReadingBytes.{Read, got, refused}
use Rattle.model.specs.Job.{HD, Job, ids_of, read_job, block_id}
use Rattle.model.specs.ReductionLaws.{Members}
use Rattle.model.specs.Rounds.{Rounds}
use Rattle.model.specs.Propagation.{Work, JoiningRule}
use Rattle.model.specs.Stage.{Started, propagated}
use Rattle.model.specs.Answer.{
  Verdict,
  writes,
  turns_back,
  within_lengths,
  longest_job,
  on_job,
  Writing,
  verdict,
  span_width,
  answer_writing,
  sheet_bytes,
  buffer_after,
}
use Rattle.rows.specs.Rows.{Lent, rows_of}
use Rattle.registry.specs.Words.{registry_of}
use Rattle.writer.specs.Writes.{Writes}
use Rattle.job.specs.Kept.{blocks_of, head_of}
use Rattle.job.specs.declared.JobHead.{JobHead}
use Rattle.std.proofs.lemmas.List.Edits.{sets}
use Rattle.edges.specs.Fills.{NotedJob}
use Rattle.propagation.specs.Propagates.{rounds_of, Propagates}
use Rattle.entries.specs.declared.RoundsRun.{RoundsRun}
use Rattle.answer_bytes.specs.Answers.{CandidatesAt, TreeRoom}
use Rattle.stage.specs.declared.Operation.{Operation}
use Rattle.stage.specs.declared.Operation.TheVariants as operation

-- What each operation writes of a job, its start and its propagation.
abbrev pub operation_bytes : Operation → Writing
operation_bytes operation.Answer = answer_writing
operation_bytes operation.Sheet = sheet_bytes

-- For each verdict, the outcome that stands for it.
abbrev pub outcome_of : Verdict → Result ℕ Refusal
outcome_of (writes bytes) = Ok (length bytes)
outcome_of (turns_back r) = Err r

-- "The length or minus the refusal number": document 01's number of each outcome.
abbrev pub outcome_number : Result ℕ Refusal → ℤ
outcome_number (Ok n) = pos n
outcome_number (Err r) = neg_ℤ (pos (refusal_number r))

-- A length that the number has room for.
abbrev pub FitsNumber : Result ℕ Refusal → Type 0
FitsNumber (Ok n) = n < 2 ^ 63
FitsNumber (Err r) = Unit

-- The outcome and every byte of the buffer afterwards, by the verdict.
pub record Meets (v : Verdict) (r : Result ℕ Refusal) (before after : List ℕ) : Type 0 where
  pub outcome : r ≡ outcome_of v
  pub buffer : after ≡ buffer_after v before

-- The verdict of an operation under a joining rule, on any bytes and any buffer (`answer_of`,
-- `sheet_of`, `strict_answer_of`, `strict_sheet_of`).
unfoldable pub verdict_of : JoiningRule → Operation → List ℕ → List ℕ → Verdict
unfolding verdict
verdict_of rule op s out = verdict HD span_width rule (operation_bytes op) s out

-- 3 to 10: the verdict where 1 and 2 turn nothing back.
unfoldable pub job_verdict : JoiningRule → Operation → List ℕ → Verdict
unfolding read_job propagated
job_verdict rule op s = on_job rule (operation_bytes op span_width) (read_job HD span_width s)

-- what is kept of a job that is read
abbrev pub head_in : List ℕ → Read Job → Option JobHead
head_in s (got job end) = Some (head_of s job)
head_in s (refused r) = None

-- 1 or 2 turns a job back, or its reading does, whatever is done with a job that is read.
abbrev pub TurnedBack : ℕ → List ℕ → List ℕ → Refusal → Type 0
TurnedBack least s out r =
    (rest : Read Job → Verdict) → ((q : Refusal) → rest (refused q) ≡ turns_back q)
    → within_lengths least longest_job s out (rest (read_job HD span_width s)) ≡ turns_back r

-- What the reader kept of a job that it accepted.
pub record AcceptedJob (s ids places : List ℕ) (head : JobHead) : Type 0 where
  pub noted : NotedJob s ids places head.blocks
  pub keeps : head ≡ head_of s noted.job
  pub listed : map block_id (take head.blocks ids) ≡ ids_of noted.job.blocks
  pub candidates : CandidatesAt s head.candidates_at head.candidates

-- The words have room for the sets of a job's blocks (`Lent`), and for the dependency tree of its
-- candidates (`TreeRoom`).
pub record WorkRoom (head : JobHead) (work : List ℕ) : Type 0 where
  pub rows : Lent head.blocks work
  pub tree : TreeRoom work head.candidates

-- Each of the first n rows is a set of the registry's nodes.
abbrev pub Standing : ℕ → List ℕ → List ℕ → Type 0
Standing n sets ws = All (Members (registry_of ws)) (rows_of sets n)

-- The job that is read is propagated, under a joining rule.
abbrev pub PropagatesJob : JoiningRule → List ℕ → ℕ → Result RoundsRun Refusal → List ℕ → List ℕ → List ℕ → Type 0
PropagatesJob rule s n r sets ws os = Propagates (propagated rule (blocks_of s)) n r sets ws os

-- The operation's bytes of the job that is read, from a start with so many nodes, where propagation
-- left these words after this run, stand in the buffer from its first byte on, and have their room
-- there.
abbrev pub PutsJob : Operation → List ℕ → JobHead → List ℕ → List ℕ → ℕ → RoundsRun → List ℕ → List ℕ → ℕ → Type 0
PutsJob op s head sets ws nodes_before run before after next =
    (j : Job) (end : ℕ) → read_job HD span_width s ≡ got j end → (start : Started) → length start.registry ≡ nodes_before
    → (p : Rounds Work) → p ≡ rounds_of head.blocks sets ws run
    → (let bytes = operation_bytes op span_width j start p in Writes before after 0 bytes next × (length bytes ≤ length before))

-- The answer's bytes, whatever the start: the answer tells nothing of it.
abbrev pub PutsAnswer : List ℕ → JobHead → List ℕ → List ℕ → RoundsRun → List ℕ → List ℕ → ℕ → Type 0
PutsAnswer s head sets ws run before after next =
    (nodes_before : ℕ) → PutsJob operation.Answer s head sets ws nodes_before run before after next

-- Demand 3, as one claim about a whole job, and what document 02, E2 promises of the strict
-- propagation: the statements. The proofs are `demand_3` and `strict_demand_3` in `Demand3`, and
-- `Strict-same` in `StrictSame`.
use Rattle.std.specs.Prelude.{ℕ, ◌<◌, ◌≡◌, true, List, length}
use Rattle.entries.specs.Path.{ReactiveScopeDependency, prefix_of}
use Rattle.model.specs.Lists.{any_of, count_of}
use Rattle.model.specs.ListLaws.{All}
use Rattle.model.specs.ReadingPaths.{Store, read, Throws}
use Rattle.model.specs.ReadingBytes.{got}
use Rattle.model.specs.Job.{Block, Job, HD, read_job}
use Rattle.model.specs.Answer.{Verdict, writes, span_width, answer_of, sheet_of, Answered, read_answer}
use Rattle.model.specs.Strict.{strict_answer_of, strict_sheet_of}
use Rattle.laws.specs.Fits.{HoldsIfRead}
use Rattle.safety.specs.Runs.{WithoutLoops, Run, AssumedHold}

-- Exactness: for each candidate exactly one place in the list of returned paths holds a path with
-- its identifier and a prefix of its property names; and each place of the list holds such a path
-- for some candidate.
pub record Exact (candidates returned : List ReactiveScopeDependency) : Type 0 where
  pub one : All (λ c. count_of (λ d. prefix_of d c) returned ≡ 1) candidates
  pub some : All (λ d. any_of (prefix_of d) candidates ≡ true) returned

-- Safety: along any run of the job, in any unchanging store, if each assumed path of each block on
-- it reads to a value neither null nor undefined, no returned path throws.
abbrev pub Safety : Job → List ReactiveScopeDependency → Type 1
Safety j returned = (X : Type 0) (S : Store X) (s : List Block) → Run j s → AssumedHold S s → All (λ d. Throws (read S d) → ⊥) returned

-- Safety where the job's blocks meet a hypothesis (`WithoutLoops`: "Without loops: ..", which the
-- strict rule does not need), and exactness for every job ("With or without loops").
pub record Demand3 (Hypothesis : List Block → Type 0) (j : Job) (returned : List ReactiveScopeDependency) : Type 1 where
  pub safety : Hypothesis j.blocks → Safety j returned
  pub exactness : Exact j.candidates returned

-- Of the bytes of a job, with a header of this mark and spans of so many bytes, and of its answer:
-- the one is read as a job, the other, by the reader of a job's own paths, as what it returns, and
-- demand 3 holds of the two.
pub record AnswerMeetsDemand3 (head span_bytes : ℕ) (Hypothesis : List Block → Type 0) (job answer : List ℕ) : Type 1 where
  pub j : Job
  pub end : ℕ
  pub reads_job : read_job head span_bytes job ≡ got j end
  pub answered : Answered
  pub reads_answer : read_answer span_bytes answer 0 ≡ got answered (length answer)
  pub holds : Demand3 Hypothesis j answered.paths

-- Of an operation: whatever job it does not refuse, with whatever out buffer, what it writes meets
-- demand 3.
abbrev pub OperationMeetsDemand3 : ℕ → ℕ → (List Block → Type 0) → (List ℕ → List ℕ → Verdict) → Type 1
OperationMeetsDemand3 head span_bytes Hypothesis operation =
    (job out answer : List ℕ) → All (λ b. b < 256) job → operation job out ≡ writes answer
    → AnswerMeetsDemand3 head span_bytes Hypothesis job answer

-- The claim: of the bytes of any job that `answer` does not refuse, with any out buffer.
abbrev pub EveryAnswerMeetsDemand3 : Type 1
EveryAnswerMeetsDemand3 = OperationMeetsDemand3 HD span_width WithoutLoops answer_of

-- E2: "Every job, loops included": nothing is asked of a job's blocks.
abbrev pub AnyBlocks : List Block → Type 0
AnyBlocks bs = Unit {0}

-- E2: "For it the throwing part of the third demand covers every job, loops included, over finite
-- sequences from a block with no predecessor, by way of the scope block, to one with no successor."
-- `Safety` has these sequences.
abbrev pub EveryStrictAnswerMeetsDemand3 : Type 1
EveryStrictAnswerMeetsDemand3 = OperationMeetsDemand3 HD span_width AnyBlocks strict_answer_of

-- E2: "On loop-free jobs it writes the same bytes as the existing one." For all bytes that are read
-- as a job without loops, or as none, and any out buffer: the verdicts are the same, and so are the
-- refusals, 1 and 9 included.
abbrev pub StrictSame : Type 0
StrictSame =
    (job out : List ℕ) → HoldsIfRead (λ (j : Job). WithoutLoops j.blocks) (read_job HD span_width job)
    → (strict_answer_of job out ≡ answer_of job out) × (strict_sheet_of job out ≡ sheet_of job out)

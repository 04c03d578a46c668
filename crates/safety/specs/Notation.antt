-- Small jobs and their answers, as records and in bytes, for the theorems beside `demand_3` and
-- `strict_demand_3`.
use Rattle.std.specs.Prelude.{ℕ, ◌<◌, ◌≡◌, true, false, List, [], ◌∷◌, map, length, replicate, ltb}
use Rattle.std.proofs.Common.{arith, sym, subst, ◌∙◌}
use Rattle.entries.specs.declared.PropertyLiteral.TheVariants.{String}
use Rattle.entries.specs.Path.{ReactiveScopeDependency}
use Rattle.model.specs.Lists.{any_of}
use Rattle.model.specs.Tests.{ltb_false, never}
use Rattle.model.specs.ListLaws.{All, all_map}
use Rattle.model.specs.ReadingBytes.{got}
use Rattle.model.specs.Job.{Block, Job, contains_id, HD, read_job}
use Rattle.model.specs.JobBytes.{job_bytes}
use Rattle.model.specs.Answer.{Verdict, writes, span_width, least_buffer, Answered, read_answer}
use Rattle.laws.specs.Membership.{none_any}
use Rattle.safety.specs.Runs.{Precedes, NoSuccessor}
use Rattle.safety.specs.Statement.{Demand3, AnswerMeetsDemand3, OperationMeetsDemand3}
use Rattle.laws.specs.GraphLaws.{member_contains}

-- the paths 5 and 5.10
abbrev pub path5 : ReactiveScopeDependency
path5 = record { identifier = record { 0 = 5 }; reactive = true; path = []; span = 0 }

abbrev pub path5_10 : ReactiveScopeDependency
path5_10 = record {
  identifier = record { 0 = 5 };
  reactive = true;
  path = record
      { property = String 10; optional = false; span = 0 } ∷ [];
  span = 0;
}

abbrev pub block : ℕ → List ℕ → List ReactiveScopeDependency → Block
block id predecessors assumed = record
    { id = record { 0 = id }; predecessors = map (λ i. record { 0 = i }) predecessors; raw_reads = []; ready_paths = assumed }

-- a job with the candidate 5.10
abbrev pub job_of : ℕ → List Block → Job
job_of scope blocks = record { scope = record { 0 = scope }; blocks = blocks; candidates = path5_10 ∷ [] }

-- the job's bytes, as document 01 lays them out
abbrev pub bytes_of : Job → List ℕ
bytes_of = job_bytes HD span_width

abbrev pub buffer : List ℕ
buffer = replicate least_buffer 0

-- computed tests: each number is a byte; no block names this one
pub all_bytes : (s : List ℕ) → any_of (ltb 255) s ≡ false → All (λ b. b < 256) s
all_bytes s e = all_map (λ b. ltb 255 b ≡ false) (λ b. b < 256) (λ b f. let most = ltb_false 255 b f in omega arith) s
    (none_any (ltb 255) s e)

pub not_named : (bs : List Block) (b : Block) → any_of (λ (c : Block). contains_id c.predecessors b.id) bs ≡ false → NoSuccessor bs b
not_named bs b e =
    all_map (λ (c : Block). contains_id c.predecessors b.id ≡ false) (λ c. Precedes b c → ⊥)
    (λ c f p. never (member_contains c.predecessors b.id p) f) bs
    (none_any (λ (c : Block). contains_id c.predecessors b.id) bs e)

-- A job in bytes that an operation answers, and what the answer holds.
pub record AnsweredJob (operation : List ℕ → List ℕ → Verdict) (job out answer : List ℕ) (j : Job) (end : ℕ) (a : Answered) : Type 0 where
  pub bytes : All (λ b. b < 256) job
  pub reads : read_job HD span_width job ≡ got j end
  pub answers : operation job out ≡ writes answer
  pub holds : read_answer span_width answer 0 ≡ got a (length answer)

-- What an operation is known to meet, that job and what its answer holds meet.
module _ {operation : List ℕ → List ℕ → Verdict} {Hypothesis : List Block → Type 0}
    (meets : OperationMeetsDemand3 HD span_width Hypothesis operation) {job out answer : List ℕ} {j : Job} {end : ℕ} {a : Answered}
    (r : AnsweredJob operation job out answer j end a) where
  of_bytes : AnswerMeetsDemand3 HD span_width Hypothesis job answer
  of_bytes = meets job out answer r.bytes r.answers

  same_job : of_bytes.j ≡ j
  same_job = let e : got of_bytes.j of_bytes.end ≡ got j end = sym of_bytes.reads_job ∙ r.reads in cc

  same_answer : of_bytes.answered ≡ a
  same_answer = let e : got of_bytes.answered (length answer) ≡ got a (length answer) = sym of_bytes.reads_answer ∙ r.holds in cc

  pub answered_meets : Demand3 Hypothesis j a.paths
  answered_meets = subst (λ (k : Job). Demand3 Hypothesis k a.paths) same_job
      (subst (λ (b : Answered). Demand3 Hypothesis of_bytes.j b.paths) same_answer of_bytes.holds)

-- AN, 1 path, so many rounds, settled; DE 5, reactive, with these entries
abbrev answer_by : ℕ → List ℕ → List ℕ
answer_by rounds entries = 0x41 ∷ 0x4E ∷ 1 ∷ 0 ∷ rounds ∷ 1 ∷ 0x44 ∷ 0x45 ∷ 5 ∷ 0 ∷ 0 ∷ 0 ∷ 1 ∷ 0 ∷ 0 ∷ 0 ∷ 0 ∷ entries

-- An operation answers a job by one path, after so many rounds.
abbrev ReturnsOne : (List ℕ → List ℕ → Verdict) → Job → ℕ → ReactiveScopeDependency → List ℕ → Type 0
ReturnsOne operation j rounds d entries = AnsweredJob operation (bytes_of j) buffer (answer_by rounds entries) j (length (bytes_of j))
    (record { paths = d ∷ []; rounds = rounds; settled = true })

-- by 5; by 5.10
abbrev pub Returns5 : (List ℕ → List ℕ → Verdict) → Job → ℕ → Type 0
Returns5 operation j rounds = ReturnsOne operation j rounds path5 (0 ∷ [])

abbrev pub Returns5_10 : (List ℕ → List ℕ → Verdict) → Job → ℕ → Type 0
Returns5_10 operation j rounds = ReturnsOne operation j rounds path5_10
    (1 ∷ 0 ∷ 0 ∷ 10 ∷ 0 ∷ 0 ∷ 0 ∷ 0 ∷ 0 ∷ 0 ∷ 0 ∷ 0 ∷ 0 ∷ 0 ∷ 0 ∷ [])

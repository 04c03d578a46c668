-- Document 02, E1 (thin jobs for the cache) and E5 (raw reads in a job): what is promised of the
-- thin writer, for any bytes of a job and any out buffers. `Theorems` has the proofs.
use Rattle.std.specs.Prelude.{ℕ, ◌≤◌, ◌<◌, ◌≡◌, ◌⊎◌, true, false, List, [], ◌∷◌, ◌++◌, length}
use Rattle.entries.specs.declared.Refusal.{Refusal}
use Rattle.entries.specs.declared.Refusal.TheVariants.{ShortBuffer, ManyNodes}
use Rattle.entries.specs.Path.{ReactiveScopeDependency}
use Rattle.model.specs.Lists.{any_of}
use Rattle.model.specs.ListLaws.{All}
use Rattle.model.specs.ReadingBytes.{got}
use Rattle.model.specs.Job.{Block, Job, HD, read_job}
use Rattle.model.specs.Answer.{Verdict, writes, turns_back, least_buffer, span_width, answer_of, sheet_of}
use Rattle.model.specs.Strict.{strict_answer_of, strict_sheet_of}
use Rattle.model.specs.Thin.{same_path, thinned_paths, least_thin_buffer, thin_of}

-- "Without repeats".

-- no path has an equal one after it
abbrev pub NoRepeats : List ReactiveScopeDependency → Type 0
NoRepeats [] = Unit {0}
NoRepeats (d ∷ ds) = (any_of (same_path d) ds ≡ false) × NoRepeats ds

-- some of the elements of the second list, in their order
abbrev pub Sublist : {A : Type 0} → List A → List A → Type 0
Sublist [] ys = Unit {0}
Sublist (x ∷ xs) [] = ⊥
Sublist (x ∷ xs) (y ∷ ys) = ((x ≡ y) × Sublist xs ys) ⊎ Sublist (x ∷ xs) ys

-- path d stays, as it is, after some of those before it and before some of those after it
pub record Stays (before : List ReactiveScopeDependency) (d : ReactiveScopeDependency) (after ts : List ReactiveScopeDependency)
    : Type 0 where
  pub earlier : List ReactiveScopeDependency
  pub later : List ReactiveScopeDependency
  pub there : ts ≡ earlier ++ d ∷ later
  pub earlier_part : Sublist earlier before
  pub later_part : Sublist later after

-- "A later path with the same identifier and equal entries is dropped": of `ds`, `ts` are those
-- that stay.
pub record Once (ds ts : List ReactiveScopeDependency) : Type 0 where
  -- no two are equal
  pub no_repeats : NoRepeats ts
  -- each path, or an equal one, stays
  pub each_kept : All (λ d. any_of (same_path d) ts ≡ true) ds
  -- nothing is added or moved
  pub in_order : Sublist ts ds
  -- the first of equal paths is the one that stays
  pub first_stays : (before : List ReactiveScopeDependency) (d : ReactiveScopeDependency) (after : List ReactiveScopeDependency)
      → ds ≡ before ++ d ∷ after → any_of (same_path d) before ≡ false → Stays before d after ts

-- the same blocks with the same raw reads (E5: "copies its RD records unchanged"), and of the paths
-- of each those that stay ("compares its PA records alone")
abbrev pub BlocksOnce : List Block → List Block → Type 0
BlocksOnce [] [] = Unit {0}
BlocksOnce [] (c ∷ cs) = ⊥
BlocksOnce (b ∷ bs) [] = ⊥
BlocksOnce (b ∷ bs) (c ∷ cs) =
    (c.id ≡ b.id) × (c.predecessors ≡ b.predecessors) × (c.raw_reads ≡ b.raw_reads)
    × Once b.ready_paths c.ready_paths × BlocksOnce bs cs

-- "Writes it without repeats: in each block, and among candidates": the job reads to `whole`, and
-- what is written reads to `part`.
pub record WrittenOnce (job t : List ℕ) : Type 0 where
  pub whole : Job
  pub part : Job
  pub reads : read_job HD span_width job ≡ got whole (length job)
  pub reads_thin : read_job HD span_width t ≡ got part (length t)
  pub scope : part.scope ≡ whole.scope
  pub blocks : BlocksOnce whole.blocks part.blocks
  pub candidates : Once whole.candidates part.candidates

pub record WithoutRepeats : Type 0 where
  pub paths : (ds : List ReactiveScopeDependency) → Once ds (thinned_paths ds)
  pub written : (job o t : List ℕ) → All (λ b. b < 256) job → thin_of job o ≡ writes t → WrittenOnce job t

-- The other promises.

-- "The thin job has the same answer and sheet bytes, or the same refusal 9, as the original." For
-- the same out buffer, so that refusal 1 is the same too; and under the strict propagation of E2,
-- "with its own answer and sheet operations".
abbrev pub ThinSame : Type 0
ThinSame =
    (job o t : List ℕ) → All (λ b. b < 256) job → thin_of job o ≡ writes t
    → (out : List ℕ)
    → (answer_of t out ≡ answer_of job out) × (sheet_of t out ≡ sheet_of job out)
    × (strict_answer_of t out ≡ strict_answer_of job out) × (strict_sheet_of t out ≡ strict_sheet_of job out)

-- "Thinning a thin job yields its own bytes." Into any buffer that is long enough.
abbrev pub ThinAgain : Type 0
ThinAgain =
    (job o t : List ℕ) → All (λ b. b < 256) job → thin_of job o ≡ writes t
    → (out : List ℕ) → least_thin_buffer ≤ length out → thin_of t out ≡ writes t

-- what is written is bytes, no more of them than the job has, and the out buffer has room for them
pub record Lengths (job o t : List ℕ) : Type 0 where
  pub bytes : All (λ b. b < 256) t
  pub no_longer : length t ≤ length job
  pub room : length t ≤ length o

abbrev pub ThinLengths : Type 0
ThinLengths = (job o t : List ℕ) → All (λ b. b < 256) job → thin_of job o ≡ writes t → Lengths job o t

-- bytes, or refusal 9: the job has passed 2 to 8 and 10
abbrev pub PassedReading : Verdict → Type 0
PassedReading v = ((bytes : List ℕ) × (v ≡ writes bytes)) ⊎ (v ≡ turns_back ManyNodes)

-- "Takes a job which passes 2 to 8, refuses any other by those numbers", and E5: "the writer
-- refuses by 10 too": where neither buffer is too short for its operation, what the thin writer
-- turns back the answer turns back by the same number, what the answer turns back by another number
-- than 9 the thin writer turns back by that number, and any other job the thin writer takes.
pub record SameRefusals (job o out : List ℕ) : Type 0 where
  pub from_thin : (r : Refusal) → thin_of job o ≡ turns_back r → answer_of job out ≡ turns_back r
  pub from_answer : (r : Refusal) → (r ≡ ManyNodes → ⊥) → answer_of job out ≡ turns_back r → thin_of job o ≡ turns_back r
  pub takes : PassedReading (answer_of job out) → (t : List ℕ) × (thin_of job o ≡ writes t)

abbrev pub ThinRefuses : Type 0
ThinRefuses = (job o out : List ℕ) → least_thin_buffer ≤ length o → least_buffer ≤ length out → SameRefusals job o out

-- Refusal 9 is none of "those numbers".
abbrev pub NeverNine : Type 0
NeverNine = (job o : List ℕ) → thin_of job o ≡ turns_back ManyNodes → ⊥

-- "For this writer 1 means an out buffer under 32,768 bytes": whatever the job, such a buffer is
-- refused by 1, and 1 comes of nothing else.
abbrev pub ShortAlone : Type 0
ShortAlone =
    (job o : List ℕ)
    → (length o < least_thin_buffer → thin_of job o ≡ turns_back ShortBuffer)
    × (thin_of job o ≡ turns_back ShortBuffer → length o < least_thin_buffer)

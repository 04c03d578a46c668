-- Document 02, E1, of the bytes that the thin writer leaves, for any job and any buffer: where an
-- outcome is a length, that many bytes from the buffer's start on are a job with the same answers
-- and sheets, and their own thin job. The theorems over the definitions are those of the crate
-- `thin_laws`.
use Rattle.std.specs.Prelude.{ℕ, ◌≤◌, ◌<◌, ◌≡◌, List, length, take, replicate, pos, Ok}
use Rattle.model.specs.ListLaws.{All}
use Rattle.model.specs.Answer.{writes, answer_of, sheet_of, number_returned, buffer_after}
use Rattle.model.specs.Strict.{strict_answer_of, strict_sheet_of}
use Rattle.model.specs.Thin.{least_thin_buffer, thin_of, thin_program}
use Rattle.thin_laws.specs.Theorems.{thin_same, thin_again}
use Rattle.stage.specs.Jobs.{Meets}
use Rattle.corollaries.specs.Leaves.{outcome-holds, number-holds, output-holds}

-- "The thin job has the same answer and sheet bytes, or the same refusal 9, as the original.
-- Thinning a thin job yields its own bytes." By the strict propagation too.
pub record ThinJobOf (job t : List ℕ) : Type 0 where
  pub answer : (o : List ℕ) → answer_of t o ≡ answer_of job o
  pub sheet : (o : List ℕ) → sheet_of t o ≡ sheet_of job o
  pub strict_answer : (o : List ℕ) → strict_answer_of t o ≡ strict_answer_of job o
  pub strict_sheet : (o : List ℕ) → strict_sheet_of t o ≡ strict_sheet_of job o
  pub again : (o : List ℕ) → least_thin_buffer ≤ length o → thin_of t o ≡ writes t

-- where the verdict writes
thin_job_of : (job out t : List ℕ) → All (λ b. b < 256) job → thin_of job out ≡ writes t → ThinJobOf job t
thin_job_of job out t bytes e = record {
  answer = λ o. (thin_same job out t bytes e o).0;
  sheet = λ o. (thin_same job out t bytes e o).1;
  strict_answer = λ o. (thin_same job out t bytes e o).2;
  strict_sheet = λ o. (thin_same job out t bytes e o).3;
  again = thin_again job out t bytes e;
}

module _ (job before after : List ℕ) (n : ℕ) (bytes : All (λ b. b < 256) job) where
  -- of what `thin` leaves
  pub thin_leaves : Meets (thin_of job before) (Ok n) before after → ThinJobOf job (take n after)
  thin_leaves = outcome-holds (ThinJobOf job) (thin_of job before) (λ t. thin_job_of job before t bytes) before after n

  -- of what `scope_deps_thin` leaves, where it returns n
  pub scope_deps_thin_leaves : pos n ≡ number_returned (thin_of job before) → after ≡ buffer_after (thin_of job before) before
      → ThinJobOf job (take n after)
  scope_deps_thin_leaves = number-holds (ThinJobOf job) (thin_of job before) (λ t. thin_job_of job before t bytes) before after n

-- of what program `thin` writes, where it is no refusal
pub thin_program_writes : (job written : List ℕ) → All (λ b. b < 256) job → thin_of job (replicate least_thin_buffer 0) ≡ writes written
    → ThinJobOf job (thin_program job)
unfolding thin_program
thin_program_writes job written bytes =
    output-holds (ThinJobOf job) (thin_of job (replicate least_thin_buffer 0))
    (λ t. thin_job_of job (replicate least_thin_buffer 0) t bytes) written

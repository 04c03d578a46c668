-- Document 02, E2: "On loop-free jobs it writes the same bytes as the existing one", of what the
-- functions and the programs leave. The theorem over the definitions is `strict_same` of the crate
-- `safety`.
use Rattle.std.specs.Prelude.{ℕ, ◌≡◌, List, replicate, ℤ, Result}
use Rattle.std.proofs.Common.{sym, ◌∙◌}
use Rattle.std.proofs.Math.Path.{ap}
use Rattle.entries.specs.declared.Refusal.{Refusal}
use Rattle.model.specs.Job.{Job, HD, read_job}
use Rattle.model.specs.Answer.{
  Verdict,
  least_buffer,
  span_width,
  answer_of,
  answer_program,
  sheet_of,
  sheet_program,
  program_output,
  number_returned,
  buffer_after,
}
use Rattle.model.specs.Strict.{strict_answer_of, strict_answer_program, strict_sheet_of, strict_sheet_program}
use Rattle.laws.specs.Fits.{HoldsIfRead}
use Rattle.safety.specs.Runs.{WithoutLoops}
use Rattle.safety.proofs.StrictSame.{strict_same}
use Rattle.stage.specs.Jobs.{outcome_of, Meets}

-- what a C function returns and leaves, as its contract says it
abbrev pub Returns : Verdict → ℤ → List ℕ → List ℕ → Type 0
Returns v r before after = (r ≡ number_returned v) × (after ≡ buffer_after v before)

-- equal verdicts, equal numbers and buffers
returns_same : (before : List ℕ) {v w : Verdict} {r q : ℤ} {after left : List ℕ} → v ≡ w → Returns v r before after
    → Returns w q before left → (r ≡ q) × (after ≡ left)
returns_same before e a b = (
  a.0 ∙ ap number_returned e ∙ sym b.0,
  a.1 ∙ ap (λ v. buffer_after v before) e ∙ sym b.1,
)

meets_same : {v w : Verdict} {r q : Result ℕ Refusal} {before after left : List ℕ} → v ≡ w → Meets v r before after → Meets w q before left
    → (r ≡ q) × (after ≡ left)
meets_same {before = before} e a b = (
  a.outcome ∙ ap outcome_of e ∙ sym b.outcome,
  a.buffer ∙ ap (λ v. buffer_after v before) e ∙ sym b.buffer,
)

-- a job that, if it is read, has no loops
module _ (job : List ℕ) (free : HoldsIfRead (λ (j : Job). WithoutLoops j.blocks) (read_job HD span_width job)) where
  module _ (before after left : List ℕ) where
    -- of `strict_answer` beside `answer`, and `strict_sheet` beside `sheet`, on equal buffers
    pub strict_answer_same : {r q : Result ℕ Refusal} → Meets (strict_answer_of job before) r before after
        → Meets (answer_of job before) q before left → (r ≡ q) × (after ≡ left)
    strict_answer_same = meets_same (strict_same job before free).0

    pub strict_sheet_same : {r q : Result ℕ Refusal} → Meets (strict_sheet_of job before) r before after
        → Meets (sheet_of job before) q before left → (r ≡ q) × (after ≡ left)
    strict_sheet_same = meets_same (strict_same job before free).1

    -- of `scope_deps_strict_answer` beside `scope_deps_answer`, and of the sheets
    pub scope_deps_strict_answer_same : {r q : ℤ} → Returns (strict_answer_of job before) r before after
        → Returns (answer_of job before) q before left → (r ≡ q) × (after ≡ left)
    scope_deps_strict_answer_same = returns_same before (strict_same job before free).0

    pub scope_deps_strict_sheet_same : {r q : ℤ} → Returns (strict_sheet_of job before) r before after
        → Returns (sheet_of job before) q before left → (r ≡ q) × (after ≡ left)
    scope_deps_strict_sheet_same = returns_same before (strict_same job before free).1

  -- of the programs
  pub strict_answer_program_same : strict_answer_program job ≡ answer_program job
  unfolding strict_answer_program answer_program
  strict_answer_program_same = ap program_output (strict_same job (replicate least_buffer 0) free).0

  pub strict_sheet_program_same : strict_sheet_program job ≡ sheet_program job
  unfolding strict_sheet_program sheet_program
  strict_sheet_program_same = ap program_output (strict_same job (replicate least_buffer 0) free).1

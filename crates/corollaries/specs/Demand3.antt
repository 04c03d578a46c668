-- Demand 3 of the bytes that `answer` writes, and of those that `strict_answer` writes, for any job
-- and any buffer: where an outcome is a length, that many bytes from the buffer's start on are an
-- answer that meets it. The theorems over the definitions are `demand_3` and `strict_demand_3` of
-- the crate `safety`.
use Rattle.std.specs.Prelude.{ℕ, ◌<◌, ◌≡◌, List, take, replicate, pos, Ok}
use Rattle.model.specs.ListLaws.{All}
use Rattle.model.specs.Answer.{
  writes,
  least_buffer,
  span_width,
  answer_of,
  answer_program,
  number_returned,
  buffer_after,
}
use Rattle.model.specs.Strict.{strict_answer_of, strict_answer_program}
use Rattle.model.specs.Job.{HD}
use Rattle.safety.specs.Runs.{WithoutLoops}
use Rattle.safety.specs.Statement.{AnyBlocks, AnswerMeetsDemand3}
use Rattle.safety.proofs.Demand3.{demand_3, strict_demand_3}
use Rattle.stage.specs.Jobs.{Meets}
use Rattle.corollaries.specs.Leaves.{outcome-holds, number-holds, output-holds}

module _ (job before after : List ℕ) (n : ℕ) (bytes : All (λ b. b < 256) job) where
  -- of what `answer` leaves
  pub answer_meets_demand_3 : Meets (answer_of job before) (Ok n) before after
      → AnswerMeetsDemand3 HD span_width WithoutLoops job (take n after)
  answer_meets_demand_3 = outcome-holds (AnswerMeetsDemand3 HD span_width WithoutLoops job) (answer_of job before)
      (λ answer. demand_3 job before answer bytes) before after n

  -- of what `scope_deps_answer` leaves, where it returns n
  pub scope_deps_answer_meets_demand_3 : pos n ≡ number_returned (answer_of job before) → after ≡ buffer_after
      (answer_of job before) before → AnswerMeetsDemand3 HD span_width WithoutLoops job (take n after)
  scope_deps_answer_meets_demand_3 = number-holds (AnswerMeetsDemand3 HD span_width WithoutLoops job) (answer_of job before)
      (λ answer. demand_3 job before answer bytes) before after n

  -- of what `strict_answer` leaves
  pub strict_answer_meets_demand_3 : Meets (strict_answer_of job before) (Ok n) before after
      → AnswerMeetsDemand3 HD span_width AnyBlocks job (take n after)
  strict_answer_meets_demand_3 = outcome-holds (AnswerMeetsDemand3 HD span_width AnyBlocks job) (strict_answer_of job before)
      (λ answer. strict_demand_3 job before answer bytes) before after n

  -- of what `scope_deps_strict_answer` leaves, where it returns n
  pub scope_deps_strict_answer_meets_demand_3 : pos n ≡ number_returned (strict_answer_of job before) → after ≡ buffer_after
      (strict_answer_of job before) before → AnswerMeetsDemand3 HD span_width AnyBlocks job (take n after)
  scope_deps_strict_answer_meets_demand_3 = number-holds (AnswerMeetsDemand3 HD span_width AnyBlocks job) (strict_answer_of job before)
      (λ answer. strict_demand_3 job before answer bytes) before after n

module _ (job written : List ℕ) (bytes : All (λ b. b < 256) job) where
  -- of what program `answer` writes, where it is no refusal
  pub answer_program_meets_demand_3 : answer_of job (replicate least_buffer 0) ≡ writes written
      → AnswerMeetsDemand3 HD span_width WithoutLoops job (answer_program job)
  unfolding answer_program
  answer_program_meets_demand_3 = output-holds (AnswerMeetsDemand3 HD span_width WithoutLoops job)
      (answer_of job (replicate least_buffer 0)) (λ answer. demand_3 job (replicate least_buffer 0) answer bytes) written

  -- of what program `strict_answer` writes, where it is no refusal
  pub strict_answer_program_meets_demand_3 : strict_answer_of job (replicate least_buffer 0) ≡ writes written
      → AnswerMeetsDemand3 HD span_width AnyBlocks job (strict_answer_program job)
  unfolding strict_answer_program
  strict_answer_program_meets_demand_3 = output-holds (AnswerMeetsDemand3 HD span_width AnyBlocks job)
      (strict_answer_of job (replicate least_buffer 0)) (λ answer. strict_demand_3 job (replicate least_buffer 0) answer bytes) written

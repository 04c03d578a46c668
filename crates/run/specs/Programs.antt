-- What the programs `answer`, `sheet`, `strict_answer`, `strict_sheet` and `thin` write.
use Rattle.std.specs.Prelude.{ℕ, ◌≤◌, ◌≡◌, List, ◌++◌, length, take, drop, replicate, ltb}
use Rattle.std.proofs.Common.{arith, ap, length-take-le, take_all}
use Rattle.model.specs.Tests.{decide, ltb_true, ltb_false, ltb_less}
use Rattle.model.specs.Propagation.{JoiningRule, done_neighbours}
use Rattle.model.specs.Job.{HD, read_job}
use Rattle.model.specs.Answer.{
  Verdict,
  within_lengths,
  on_job,
  least_buffer,
  longest_job,
  span_width,
  Writing,
  answer_writing,
  answer_of,
  answer_program,
  sheet_bytes,
  sheet_of,
  sheet_program,
  program_output,
}
use Rattle.model.specs.Strict.{strict_neighbours, strict_answer_of, strict_answer_program, strict_sheet_of, strict_sheet_program}
use Rattle.model.specs.Thin.{least_thin_buffer, on_thin_job, thin_of, thin_program}
use Rattle.run.specs.declared.Program.{Program}
use Rattle.run.specs.declared.Program.TheVariants as program

-- "Program `answer` reads a job from standard input and writes the answer, or RF and the number as
-- one byte; `sheet` likewise", and so do the others.
abbrev pub program_of : Program → List ℕ → List ℕ
program_of program.Answer = answer_program
program_of program.Sheet = sheet_program
program_of program.StrictAnswer = strict_answer_program
program_of program.StrictSheet = strict_sheet_program
program_of program.Thin = thin_program

-- The operation of a program, on any bytes and any buffer.
abbrev pub operation_of : Program → List ℕ → List ℕ → Verdict
operation_of program.Answer = answer_of
operation_of program.Sheet = sheet_of
operation_of program.StrictAnswer = strict_answer_of
operation_of program.StrictSheet = strict_sheet_of
operation_of program.Thin = thin_of

-- What the program writes of the job are the buffer's first n bytes, and those beyond
-- stay.
pub record Responds (p : Program) (job before after : List ℕ) (n : ℕ) : Type 0 where
  pub buffer : after ≡ program_of p job ++ drop n before
  pub size : n ≡ length (program_of p job)

-- how many bytes of a job a program reads at most
abbrev pub bytes_read : ℕ
bytes_read = 65536

-- how many bytes its buffer has: at least as many as each operation asks for
abbrev pub bytes_lent : ℕ
bytes_lent = 32768

-- What the program writes of some job, of no more bytes than it reads, has n bytes.
pub record GivesToWrite (p : Program) (n : ℕ) : Type 0 where
  pub job : List ℕ
  pub few : length job ≤ bytes_read
  pub size : n ≡ length (program_of p job)

-- A longer job is refused as too long, and so are its first bytes: by any operation that looks at
-- the lengths first.
first_bytes_verdict : (least : ℕ) (rest : List ℕ → Verdict) (s out : List ℕ)
    → within_lengths least longest_job (take bytes_read s) out (rest (take bytes_read s)) ≡ within_lengths least longest_job s out (rest s)
first_bytes_verdict least rest s out =
    decide (ltb bytes_read (length s))
    (λ e.
    let more = ltb_true bytes_read (length s) e in
    let size = length-take-le bytes_read s (omega arith) in
    rw (ltb_less longest_job (length (take bytes_read s)) (omega arith), ltb_less longest_job (length s) (omega arith)))
    (λ e. rw (take_all bytes_read s (ltb_false bytes_read (length s) e)))

-- What an operation does beside 1 and 2, under a joining rule.
abbrev pub read_and : JoiningRule → Writing → List ℕ → Verdict
read_and rule bytes s = on_job rule (bytes span_width) (read_job HD span_width s)

abbrev pub read_and_thin : List ℕ → Verdict
read_and_thin s = on_thin_job HD span_width (read_job HD span_width s)

-- So what a program writes of a job's first bytes, it writes of the job.
pub first_bytes : (p : Program) (s : List ℕ) → program_of p (take bytes_read s) ≡ program_of p s
unfolding answer_program answer_of sheet_program sheet_of strict_answer_program strict_answer_of
    strict_sheet_program strict_sheet_of thin_program thin_of
first_bytes program.Answer s =
    ap program_output (first_bytes_verdict least_buffer (read_and done_neighbours answer_writing) s (replicate least_buffer 0))
first_bytes program.Sheet s =
    ap program_output (first_bytes_verdict least_buffer (read_and done_neighbours sheet_bytes) s (replicate least_buffer 0))
first_bytes program.StrictAnswer s =
    ap program_output (first_bytes_verdict least_buffer (read_and strict_neighbours answer_writing) s (replicate least_buffer 0))
first_bytes program.StrictSheet s =
    ap program_output (first_bytes_verdict least_buffer (read_and strict_neighbours sheet_bytes) s (replicate least_buffer 0))
first_bytes program.Thin s = ap program_output (first_bytes_verdict least_thin_buffer read_and_thin s (replicate least_thin_buffer 0))

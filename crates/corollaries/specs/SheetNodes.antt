-- Document 02, E4, of the bytes that `sheet` and `strict_sheet` leave, for any job and any buffer:
-- where an outcome is a length, that many bytes from the buffer's start on are a sheet that tells
-- its nodes. The theorem over the definitions is `sheet_tells_nodes` of the crate `laws`.
use Rattle.std.specs.Prelude.{ℕ, ◌≡◌, List, take, replicate, pos, Ok}
use Rattle.model.specs.Propagation.{done_neighbours}
use Rattle.model.specs.Job.{HD}
use Rattle.model.specs.Answer.{writes, least_buffer, span_width, sheet_of, sheet_program, number_returned, buffer_after}
use Rattle.model.specs.Strict.{strict_neighbours, strict_sheet_of, strict_sheet_program}
use Rattle.laws.specs.SheetNodes.{TellsNodes, sheet_tells_nodes}
use Rattle.stage.specs.Jobs.{Meets}
use Rattle.corollaries.specs.Leaves.{outcome-holds, number-holds, output-holds}

-- where the verdict writes
module _ (job out : List ℕ) where
  of_sheet : (sheet : List ℕ) → sheet_of job out ≡ writes sheet → TellsNodes HD span_width done_neighbours job sheet
  unfolding sheet_of
  of_sheet = sheet_tells_nodes HD span_width done_neighbours job out

  of_strict_sheet : (sheet : List ℕ) → strict_sheet_of job out ≡ writes sheet → TellsNodes HD span_width strict_neighbours job sheet
  unfolding strict_sheet_of
  of_strict_sheet = sheet_tells_nodes HD span_width strict_neighbours job out

module _ (job before after : List ℕ) (n : ℕ) where
  -- of what `sheet` leaves
  pub sheet_leaves_nodes : Meets (sheet_of job before) (Ok n) before after
      → TellsNodes HD span_width done_neighbours job (take n after)
  sheet_leaves_nodes = outcome-holds (TellsNodes HD span_width done_neighbours job) (sheet_of job before) (of_sheet job before)
      before after n

  -- of what `scope_deps_sheet` leaves, where it returns n
  pub scope_deps_sheet_leaves_nodes : pos n ≡ number_returned (sheet_of job before) → after ≡ buffer_after
      (sheet_of job before) before → TellsNodes HD span_width done_neighbours job (take n after)
  scope_deps_sheet_leaves_nodes = number-holds (TellsNodes HD span_width done_neighbours job) (sheet_of job before) (of_sheet job before)
      before after n

  -- of what `strict_sheet` leaves
  pub strict_sheet_leaves_nodes : Meets (strict_sheet_of job before) (Ok n) before after
      → TellsNodes HD span_width strict_neighbours job (take n after)
  strict_sheet_leaves_nodes = outcome-holds (TellsNodes HD span_width strict_neighbours job) (strict_sheet_of job before)
      (of_strict_sheet job before) before after n

  -- of what `scope_deps_strict_sheet` leaves, where it returns n
  pub scope_deps_strict_sheet_leaves_nodes : pos n ≡ number_returned (strict_sheet_of job before) → after ≡ buffer_after
      (strict_sheet_of job before) before → TellsNodes HD span_width strict_neighbours job (take n after)
  scope_deps_strict_sheet_leaves_nodes = number-holds (TellsNodes HD span_width strict_neighbours job) (strict_sheet_of job before)
      (of_strict_sheet job before) before after n

module _ (job written : List ℕ) where
  -- of what program `sheet` writes, where it is no refusal
  pub sheet_program_tells_nodes : sheet_of job (replicate least_buffer 0) ≡ writes written
      → TellsNodes HD span_width done_neighbours job (sheet_program job)
  unfolding sheet_program
  sheet_program_tells_nodes = output-holds (TellsNodes HD span_width done_neighbours job) (sheet_of job (replicate least_buffer 0))
      (of_sheet job (replicate least_buffer 0)) written

  -- of what program `strict_sheet` writes, where it is no refusal
  pub strict_sheet_program_tells_nodes : strict_sheet_of job (replicate least_buffer 0) ≡ writes written
      → TellsNodes HD span_width strict_neighbours job (strict_sheet_program job)
  unfolding strict_sheet_program
  strict_sheet_program_tells_nodes = output-holds (TellsNodes HD span_width strict_neighbours job)
      (strict_sheet_of job (replicate least_buffer 0)) (of_strict_sheet job (replicate least_buffer 0)) written

-- Document 02, E2 (loops in the live view): the strict propagation, "with its own answer and sheet
-- operations". It differs from the existing one in the joining rule alone.
use Rattle.std.specs.Prelude.{ℕ, Bool, true, ◌&&◌, cond, List, [], ◌∷◌, get_or, replicate}
use Rattle.model.specs.Visit.{TraversalState, Unmarked, is_done}
use Rattle.model.specs.Propagation.{JoiningRule}
use Rattle.model.specs.Job.{HD}
use Rattle.model.specs.Answer.{Verdict, verdict, span_width, least_buffer, answer_bytes, answer_writing, sheet_bytes, program_output}

-- "Every neighbour is Done", by the marks at that moment.
abbrev pub all_done : List TraversalState → List ℕ → Bool
all_done marks [] = true
all_done marks (b ∷ bs) = is_done (get_or marks b Unmarked) && all_done marks bs

-- "A block joins the intersection exactly when it has a neighbour and every neighbour is Done": all
-- neighbours join where every one is Done, and else none. Of a block that has no neighbour none
-- joins either way.
unfoldable pub strict_neighbours : JoiningRule
strict_neighbours marks bs = cond (all_done marks bs) bs []

-- The answer by the strict propagation. "9 counts the strict run's own nodes."
unfoldable pub strict_answer_of : List ℕ → List ℕ → Verdict
unfolding verdict answer_bytes strict_neighbours
strict_answer_of job out = verdict HD span_width strict_neighbours answer_writing job out

-- And the sheet.
unfoldable pub strict_sheet_of : List ℕ → List ℕ → Verdict
unfolding verdict sheet_bytes strict_neighbours
strict_sheet_of job out = verdict HD span_width strict_neighbours sheet_bytes job out

-- Program `strict_answer`: its input is the job. A buffer of the least length stands for the
-- program's, which is longer; 1 does not occur, and what is written is the same.
unfoldable pub strict_answer_program : List ℕ → List ℕ
unfolding strict_answer_of
strict_answer_program input = program_output (strict_answer_of input (replicate least_buffer 0))

-- Program `strict_sheet` likewise.
unfoldable pub strict_sheet_program : List ℕ → List ℕ
unfolding strict_sheet_of
strict_sheet_program input = program_output (strict_sheet_of input (replicate least_buffer 0))

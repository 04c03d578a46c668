-- Refusals 7 and 8 by what was noted of the blocks: their ids, and the places at which their
-- predecessors are read again.
use Rattle.std.specs.Prelude.{ℕ, ◌<◌, Bool, ◌||◌, not, cond, Result, Ok, Err, List, length, get_or}
use Rattle.entries.specs.declared.BlockId.{BlockId}
use Rattle.entries.specs.declared.Refusal.{Refusal}
use Rattle.entries.specs.declared.Refusal.TheVariants.{RepeatedId, UnknownBlock}
use Rattle.model.specs.Lists.{any_of}
use Rattle.model.specs.ReadingBytes.{read_number}
use Rattle.model.specs.Answer.{span_width}
use Rattle.model.specs.Job.{read_block, contains_id, repeats}
use Rattle.job.specs.Passing.{IsRead, or_none, notes, note_value}
use Rattle.job.specs.Kept.{block_ids}
use Rattle.job.specs.Head.{read_block_head}
use Rattle.job.specs.declared.BlockHead.{BlockHead}
use Rattle.job.specs.declared.JobHead.{JobHead}

-- an id is none of the known ones
abbrev pub any_unknown : List BlockId → List BlockId → Bool
any_unknown known ids = any_of (λ i. not (contains_id known i)) ids

-- A block was read at each of these places.
abbrev pub BlocksRead : List ℕ → List ℕ → Type 0
BlocksRead s places = (k : ℕ) → k < length places → IsRead (read_block span_width s (get_or places k 0))

-- the numbers of the predecessors of the block at a place
unfoldable pub predecessors_at : List ℕ → ℕ → List ℕ
predecessors_at s at =
    or_none (read_block_head s at) (λ (head : BlockHead) ids_at. notes note_value head.predecessors (read_number 4) s ids_at)

-- A predecessor of the block at a place stands twice.
abbrev pub repeats_at : List ℕ → ℕ → Bool
repeats_at s at = repeats (block_ids (predecessors_at s at))

-- A predecessor of the block at a place is none of the known ids.
abbrev pub any_unknown_at : List ℕ → List ℕ → ℕ → Bool
any_unknown_at s known at = any_unknown (block_ids known) (block_ids (predecessors_at s at))

-- 7, of the blocks with these ids at these places: an id, or a predecessor within one block, stands
-- twice.
abbrev pub repeated_in : List ℕ → List ℕ → List ℕ → Bool
repeated_in s ids places = repeats (block_ids ids) || any_of (repeats_at s) places

-- 8, of the blocks with these ids at these places: a predecessor or the scope block is none of the
-- ids.
abbrev pub unknown_in : List ℕ → List ℕ → List ℕ → BlockId → Bool
unknown_in s ids places scope = any_of (any_unknown_at s ids) places || not (contains_id (block_ids ids) scope)

-- 7 before 8, else what was kept of the job.
unfoldable pub checked_by : List ℕ → List ℕ → List ℕ → JobHead → Result JobHead Refusal
checked_by s ids places head =
    cond (repeated_in s ids places) (Err RepeatedId) (cond (unknown_in s ids places head.scope) (Err UnknownBlock) (Ok head))

-- What the reader keeps of a job: the header, the place of the candidates, and a note of each
-- block.
use Rattle.std.specs.Prelude.{ℕ, ◌<◌, ◌≡◌, List, Result, Ok, Err, map, length, get_or}
use Rattle.entries.specs.declared.BlockId.{BlockId}
use Rattle.entries.specs.declared.Refusal.{Refusal}
use Rattle.model.specs.ReadingBytes.{Read, got, refused, and_then, read_many}
use Rattle.model.specs.Answer.{span_width}
use Rattle.model.specs.Job.{HD, Header, Block, Job, block_id, read_header, read_block, read_job}
use Rattle.job.specs.Passing.{or_none, notes}
use Rattle.job.specs.Answer.{got_header}
use Rattle.job.specs.declared.Header as head
use Rattle.job.specs.declared.JobHead.{JobHead}

-- Of a block, the place of its record is noted.
abbrev pub note_place : ℕ → Block → ℕ
note_place at b = at

-- Of a block, the number of its id is noted.
abbrev pub note_number : ℕ → Block → ℕ
note_number at b = b.id.0

-- of each block that was read, what f makes of its place and the block
unfoldable pub block_notes : (ℕ → Block → ℕ) → List ℕ → List ℕ
block_notes f s = or_none (read_header HD s 0) (λ (header : Header) blocks_at. notes f header.blocks (read_block span_width) s blocks_at)

-- Where each block's record starts.
abbrev pub block_places : List ℕ → List ℕ
block_places s = block_notes note_place s

-- The number of each block's id.
abbrev pub block_numbers : List ℕ → List ℕ
block_numbers s = block_notes note_number s

-- The ids that a list of numbers stands for.
abbrev pub block_ids : List ℕ → List BlockId
block_ids ids = map block_id ids

-- the place after a value; of no use where there is none
abbrev pub place_after : {A : Type 0} → Read A → ℕ
place_after (got a next) = next
place_after (refused r) = 0

-- the place after the blocks
unfoldable pub candidates_at : List ℕ → ℕ
candidates_at s =
    place_after
    (and_then (read_header HD s 0) (λ (header : Header) blocks_at. read_many header.blocks (read_block span_width) s blocks_at))

-- the place after a header that was looked for at a place; a refusal leaves it where it was
abbrev pub after_header : Result (head.Header × ℕ) Refusal → ℕ → ℕ
after_header (Ok (h, next)) at = next
after_header (Err r) at = at

-- A header is what stands at the front of the bytes, and a place is the one after it.
abbrev pub BehindHeader : List ℕ → ℕ → Result (head.Header × ℕ) Refusal → Type 0
BehindHeader s at h = (got_header h ≡ read_header HD s 0) × (at ≡ after_header h 0)

-- What is kept of a job beside the notes of its blocks.
abbrev pub head_of : List ℕ → Job → JobHead
head_of s job = record {
  blocks = length job.blocks;
  candidates = length job.candidates;
  scope = job.scope;
  candidates_at = candidates_at s;
}

-- the answer that stands for a reading of the whole job
abbrev pub kept_of : List ℕ → Read Job → Result JobHead Refusal
kept_of s (got job end) = Ok (head_of s job)
kept_of s (refused r) = Err r

-- the blocks of the job that the bytes read to; none where they read to no job
unfoldable pub blocks_of : List ℕ → List Block
unfolding read_job
blocks_of s = or_none (read_job HD span_width s) (λ (j : Job) end. j.blocks)

-- A job that the bytes read to, whose blocks are noted at these places.
pub record BlocksAt (s : List ℕ) (n : ℕ) (places : List ℕ) (j : Job) : Type 0 where
  pub end : ℕ
  pub reads : read_job HD span_width s ≡ got j end
  pub count : length j.blocks ≡ n
  pub noted : (k : ℕ) → k < n → get_or places k 0 ≡ get_or (block_places s) k 0

-- The bytes read to a job, whose n blocks are noted at these places.
pub record PlacedJob (s : List ℕ) (n : ℕ) (places : List ℕ) : Type 0 where
  pub job : Job
  pub blocks : BlocksAt s n places job

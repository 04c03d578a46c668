-- The predecessors of blocks by place, from a job's bytes and what was noted of its blocks.
use Rattle.std.specs.Prelude.{
  ℕ,
  zero,
  suc,
  ◌+◌,
  ◌*◌,
  ◌≤◌,
  ◌<◌,
  ◌≡◌,
  refl,
  cond,
  Option,
  Some,
  None,
  List,
  [],
  ◌∷◌,
  length,
  get_or,
  set,
  ltb,
}
use Rattle.std.proofs.Common.{ap}
use Rattle.std.proofs.lemmas.List.Edits.{sets}
use Rattle.entries.specs.declared.BlockId.{BlockId}
use Rattle.model.specs.Job.{Block, read_block_id, same_block, ids_of}
use Rattle.model.specs.Stage.{place_of}
use Rattle.job.specs.Head.{read_block_head}
use Rattle.job.specs.Passing.{or_none, notes}
use Rattle.job.specs.declared.BlockHead.{BlockHead}
use Rattle.graph.specs.Bytes.{degree_in, predecessor_in}

-- the ids of n blocks from place k on, by the numbers noted of them
abbrev pub ids_from : List ℕ → ℕ → ℕ → List BlockId
ids_from ids k zero = []
ids_from ids k (suc n) = record { 0 = get_or ids k 0 } ∷ ids_from ids (suc k) n

-- the ids of the first n blocks
unfoldable pub ids_noted : List ℕ → ℕ → List BlockId
ids_noted ids n = ids_from ids 0 n

-- the place of an id in a list of ids; behind the last where it is not there
abbrev pub place_among : List BlockId → BlockId → ℕ
place_among [] i = zero
place_among (k ∷ ids) i = cond (same_block k i) zero (suc (place_among ids i))

-- the same as an answer: none where it is behind the last
abbrev pub block_among : List BlockId → BlockId → Option ℕ
block_among ids i =
    let k = place_among ids i in
    cond (ltb k (length ids)) (Some k) None

-- Among the ids of blocks it is the block's place (`place_of`).
pub place_among_lem : (bs : List Block) (i : BlockId) → place_among (ids_of bs) i ≡ place_of bs i
place_among_lem [] i = refl
place_among_lem (b ∷ bs) i = ap (λ k. cond (same_block b.id i) zero (suc k)) (place_among_lem bs i)

-- Each of the first n blocks is the first with its id: no id stands twice.
abbrev pub IdsOnce : List ℕ → ℕ → Type 0
IdsOnce ids n = (k : ℕ) → k < n → place_among (ids_noted ids n) (record { 0 = get_or ids k 0 }) ≡ k

-- of each id that is read from a place on, the place of its block
unfoldable pub places_noted : List ℕ → ℕ → ℕ → List ℕ → ℕ → List ℕ
places_noted s start count ids n = notes (λ _ i. place_among (ids_noted ids n) i) count read_block_id s start

-- the places of the predecessors of the block whose record stands at a place
unfoldable pub row_at : List ℕ → ℕ → List ℕ → ℕ → List ℕ
row_at s at ids n = or_none (read_block_head s at) (λ (head : BlockHead) ids_at. places_noted s ids_at head.predecessors ids n)

-- the bytes once these are the predecessors of block b
abbrev pub with_row : List ℕ → ℕ → List ℕ → List ℕ
with_row g b row = set (sets g (2305 + b * 64) row) (1 + b) (length row)

-- the predecessors of block b, whose record's place was noted
abbrev pub rows_at : List ℕ → List ℕ → List ℕ → ℕ → ℕ → List ℕ
rows_at s ids places n b = row_at s (get_or places b 0) ids n

-- The bytes g have become h: h holds these predecessors of the first n blocks, and what stands
-- between the degrees' part and the predecessors' is as it was.
pub record RowsFilled (rows : ℕ → List ℕ) (n : ℕ) (g h : List ℕ) : Type 0 where
  pub long : length h ≡ length g
  pub degree : (b : ℕ) → b < n → degree_in h b ≡ length (rows b)
  pub predecessor : (b i : ℕ) → b < n → i < length (rows b) → predecessor_in h b i ≡ get_or (rows b) i 0
  pub between : (k : ℕ) → 129 ≤ k → k < 2305 → get_or h k 0 ≡ get_or g k 0

-- The successors of blocks as bits, by rank.
use Rattle.std.specs.Prelude.{ℕ, ◌+◌, ◌-◌, ◌≤◌, ◌<◌, ◌≡◌, ◌⊎◌, Bool, ◌&&◌, ◌||◌, List, length, get_or, eqb, leb, ltb}
use Rattle.model.specs.Lists.{any_of}
use Rattle.graph.specs.Bytes.{degree_in, predecessor_in, block_of_rank, is_successor, predecessors_from, RoomFor}

-- The bytes g have become h: the block of rank r is a successor of each of these blocks too, and
-- what stands outside the successors' part is as it was.
pub record Marked (g h : List ℕ) (r : ℕ) (bs : List ℕ) : Type 0 where
  pub long : length h ≡ length g
  pub bits : (b q : ℕ) → b < 128 → q < 128 → is_successor h b q ≡ is_successor g b q || (eqb r q && any_of (eqb b) bs)
  pub outside : (p : ℕ) → (p < 257) ⊎ (2305 ≤ p) → get_or h p 0 ≡ get_or g p 0

-- What is read of the block of rank r is there, and stays in its ranges.
pub record RankFits (g : List ℕ) (r : ℕ) : Type 0 where
  pub room : RoomFor (block_of_rank g r + 1) g
  pub block : block_of_rank g r < 128
  pub degree : degree_in g (block_of_rank g r) ≤ 64
  pub predecessor : (i : ℕ) → i < degree_in g (block_of_rank g r) → predecessor_in g (block_of_rank g r) i < 128

-- The same of the last n ranks.
abbrev pub RanksFit : List ℕ → ℕ → Type 0
RanksFit g n = (r : ℕ) → 128 - n ≤ r → r < 128 → RankFits g r

-- The block of rank q names block b as a predecessor.
abbrev pub names_as_predecessor : List ℕ → ℕ → ℕ → Bool
names_as_predecessor g q b = any_of (eqb b) (predecessors_from g (block_of_rank g q) 0)

-- The bytes g have become h: each block of a rank from `first` up to `end` is a successor of each
-- of its predecessors too, and what stands outside the successors' part is as it was.
pub record AllMarked (g h : List ℕ) (first end : ℕ) : Type 0 where
  pub long : length h ≡ length g
  pub bits : (b q : ℕ) → b < 128 → q < 128
      → is_successor h b q ≡ is_successor g b q || (leb first q && (ltb q end && names_as_predecessor g q b))
  pub outside : (p : ℕ) → (p < 257) ⊎ (2305 ≤ p) → get_or h p 0 ≡ get_or g p 0

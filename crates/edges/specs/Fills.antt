-- The graph of a job in the bytes.
use Rattle.std.specs.Prelude.{ℕ, ◌≤◌, ◌<◌, ◌≡◌, true, false, List, length, get_or}
use Rattle.model.specs.Job.{Block, Job}
use Rattle.model.specs.Stage.{block_at, predecessors_of, successors_of}
use Rattle.job.specs.Kept.{BlocksAt}
use Rattle.graph.specs.Bytes.{size_in, neighbours, RoomFor, GraphFits, NeighboursOnce, NeighboursMutual}

-- The numbers of the blocks' ids are noted.
abbrev pub IdsAt : List ℕ → Job → Type 0
IdsAt ids j = (k : ℕ) → k < length j.blocks → get_or ids k 0 ≡ (block_at j.blocks k).id.0

-- A job is read that refusals 3 to 8 and 10 let pass, and its n blocks are noted by id and place.
pub record NotedJob (s ids places : List ℕ) (n : ℕ) : Type 0 where
  pub job : Job
  pub blocks : BlocksAt s n places job
  pub numbers : IdsAt ids job
  pub few : n ≤ 128

-- The bytes are all 0, and have room for the graph of n blocks.
pub record Blank (n : ℕ) (g : List ℕ) : Type 0 where
  pub zeros : (p : ℕ) → get_or g p 0 ≡ 0
  pub room : RoomFor n g

-- The bytes hold the graph of these blocks, "predecessors in job order", "successors by ascending
-- id", and can be read as one; no neighbour of a block stands twice, and neighbours are mutual.
pub record HoldsGraph (bs : List Block) (g : List ℕ) : Type 0 where
  pub fits : GraphFits g
  pub once : NeighboursOnce g
  pub both_ways : NeighboursMutual g
  pub size : size_in g ≡ length bs
  pub predecessors : (b : ℕ) → b < length bs → neighbours g false b ≡ predecessors_of bs b
  pub successors : (b : ℕ) → b < length bs → neighbours g true b ≡ successors_of bs b

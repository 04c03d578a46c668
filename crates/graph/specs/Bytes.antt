-- The graph that a list of bytes holds: the predecessors of each block by place, the blocks by
-- ascending id, and the successors of each as bits.
use Rattle.std.specs.Prelude.{
  ℕ,
  ◌+◌,
  ◌*◌,
  ◌-◌,
  ◌/◌,
  ◌%◌,
  ◌≤◌,
  ◌<◌,
  ◌≡◌,
  Bool,
  true,
  false,
  not,
  Option,
  Some,
  None,
  List,
  [],
  ◌∷◌,
  map,
  length,
  get_or,
  eqb,
}
use Rattle.model.specs.Lists.{select, any_of}
use Rattle.model.specs.Rounds.{places_from}
use Rattle.model.specs.Propagation.{Graph}
use Rattle.model.specs.ListLaws.{NoRepeats}
use Rattle.rows.specs.Members.{bit}

-- how many blocks there are
abbrev pub size_in : List ℕ → ℕ
size_in g = get_or g 0 0

-- how many predecessors block b has
abbrev pub degree_in : List ℕ → ℕ → ℕ
degree_in g b = get_or g (1 + b) 0

-- the place of predecessor i of block b
abbrev pub predecessor_in : List ℕ → ℕ → ℕ → ℕ
predecessor_in g b i = get_or g (2305 + b * 64 + i) 0

-- the place of the block of rank r by ascending id
abbrev pub block_of_rank : List ℕ → ℕ → ℕ
block_of_rank g r = get_or g (129 + r) 0

-- the block of rank r is a successor of block b
abbrev pub is_successor : List ℕ → ℕ → ℕ → Bool
is_successor g b r = bit (get_or g (257 + b * 16 + r / 8) 0) (r % 8)

-- the predecessors of a block from number i on
unfoldable pub predecessors_from : List ℕ → ℕ → ℕ → List ℕ
unfolding places_from
predecessors_from g b i = map (predecessor_in g b) (places_from i (degree_in g b - i))

-- the successors of a block from rank r on, ranks ascending
unfoldable pub successors_from : List ℕ → ℕ → ℕ → List ℕ
unfolding places_from
successors_from g b r = map (block_of_rank g) (select (is_successor g b) (places_from r (128 - r)))

-- "With predecessors" forward, "with successors" backward: the neighbours of a block from a number
-- on
abbrev pub neighbours_from : List ℕ → Bool → ℕ → ℕ → List ℕ
neighbours_from g false b from = predecessors_from g b from
neighbours_from g true b from = successors_from g b from

-- all neighbours of a block
abbrev pub neighbours : List ℕ → Bool → ℕ → List ℕ
neighbours g backward b = neighbours_from g backward b 0

-- the graph by places; what it says of a place that is no block is of no account (`GraphsAgree` of
-- the crate `laws`)
unfoldable pub graph_in : List ℕ → Graph
unfolding predecessors_from successors_from
graph_in g = record { size = size_in g; predecessors = neighbours g false; successors = neighbours g true }

-- There is room for the graph of n blocks.
abbrev pub RoomFor : ℕ → List ℕ → Type 0
RoomFor n g = 2305 + n * 64 ≤ length g

-- What reading the graph needs: there is room for the blocks, the numbers stay in their ranges, a
-- neighbour of a block is a block, and no block has a successor of a rank below the last ones,
-- which the blocks have.
pub record GraphFits (g : List ℕ) : Type 0 where
  pub room : RoomFor (size_in g) g
  pub size : size_in g ≤ 128
  pub degree : (b : ℕ) → b < size_in g → degree_in g b ≤ 64
  pub predecessor : (b i : ℕ) → b < size_in g → i < degree_in g b → predecessor_in g b i < size_in g
  pub successor : (b r : ℕ) → b < size_in g → r < 128 → is_successor g b r ≡ true → block_of_rank g r < size_in g
  pub low : (b r : ℕ) → b < size_in g → r < 128 - size_in g → is_successor g b r ≡ false

-- No neighbour of a block stands twice among its neighbours.
abbrev pub NeighboursOnce : List ℕ → Type 0
NeighboursOnce g = (backward : Bool) (b : ℕ) → b < size_in g → NoRepeats (neighbours g backward b)

-- A block that is another's neighbour in one direction has that for a neighbour in the other.
abbrev pub NeighboursMutual : List ℕ → Type 0
NeighboursMutual g = (backward : Bool) (b c : ℕ) → b < size_in g → c < size_in g → any_of (eqb b) (neighbours g backward c) ≡ true
    → any_of (eqb c) (neighbours g (not backward) b) ≡ true

-- k is the next neighbour, and the others come from number `next` on
pub record Next (g : List ℕ) (backward : Bool) (b from k next : ℕ) : Type 0 where
  pub inside : k < size_in g
  pub onward : from < next
  pub within : next ≤ 128
  pub rest : neighbours_from g backward b from ≡ k ∷ neighbours_from g backward b next

-- What is found from a number on: the next neighbour, or that there is none.
abbrev pub Finds : List ℕ → Bool → ℕ → ℕ → Option (ℕ × ℕ) → Type 0
Finds g backward b from (Some found) = Next g backward b from found.0 found.1
Finds g backward b from None = neighbours_from g backward b from ≡ []

-- Bit j of the word w says whether the block of rank 64 * half + j is a successor of block b.
abbrev pub HoldsBits : List ℕ → ℕ → ℕ → ℕ → Type 0
HoldsBits g b half w = (j : ℕ) → j < 64 → bit w j ≡ is_successor g b (half * 64 + j)

-- No bit of a word w is set from bit m up to bit k.
abbrev pub NoneBelow : ℕ → ℕ → ℕ → Type 0
NoneBelow w m k = (j : ℕ) → m ≤ j → j < k → bit w j ≡ false

-- Bit k is the lowest set bit of a word w from bit m on.
pub record LowestAt (w m k : ℕ) : Type 0 where
  pub above : m ≤ k
  pub within : k < 64
  pub none : NoneBelow w m k
  pub found : bit w k ≡ true

-- What is found in a word from a bit on: the lowest set bit, or that there is none.
abbrev pub Lowest : ℕ → ℕ → Option ℕ → Type 0
Lowest w m (Some k) = LowestAt w m k
Lowest w m None = NoneBelow w m 64

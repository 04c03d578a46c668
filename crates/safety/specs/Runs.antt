-- Document 01, "Reading a path": control sequences, loops, and the runs of control that demand 3
-- speaks of. Blocks are the job's records.
use Rattle.std.specs.Prelude.{◌≡◌, List, [], ◌∷◌, ◌++◌}
use Rattle.entries.specs.declared.BlockId.{BlockId}
use Rattle.model.specs.Job.{Block, Job, assumed_of}
use Rattle.model.specs.ReadingPaths.{Store, read, NonNullish}
use Rattle.model.specs.ListLaws.{All}
use Rattle.laws.specs.Membership.{Some, Member}

-- the first block is a predecessor of the second
abbrev pub Precedes : Block → Block → Type 0
Precedes a b = Member a.id b.predecessors

-- each is a predecessor of the next
abbrev pub Linked : List Block → Type 0
Linked [] = Unit {0}
Linked (a ∷ []) = Unit {0}
Linked (a ∷ (b ∷ s)) = Precedes a b × Linked (b ∷ s)

-- "At least one"
abbrev pub NonEmpty : List Block → Type 0
NonEmpty [] = ⊥
NonEmpty (a ∷ s) = Unit {0}

-- "A control sequence is a finite list of blocks, at least one, each a predecessor of the next": of
-- the blocks `bs`.
pub record ControlSequence (bs s : List Block) : Type 0 where
  pub blocks : All (λ b. Member b bs) s
  pub some : NonEmpty s
  pub linked : Linked s

-- "A job is without loops when no control sequence comes back to a block it has left; a block that
-- is its own predecessor is a loop."
abbrev pub WithoutLoops : List Block → Type 0
WithoutLoops bs = (b : Block) (before between after : List Block) → ControlSequence bs (before ++ (b ∷ (between ++ (b ∷ after)))) → ⊥

-- Demand 3: "a block with no predecessor".
abbrev pub NoPredecessor : Block → Type 0
NoPredecessor b = b.predecessors ≡ []

-- "A block's successors are the blocks that name it as a predecessor": there is none among `bs`.
abbrev pub NoSuccessor : List Block → Block → Type 0
NoSuccessor bs b = All (λ c. Precedes b c → ⊥) bs

-- Demand 3: "from a block with ..": of the first block of a run.
abbrev pub FirstHas : (Block → Type 0) → List Block → Type 0
FirstHas P [] = ⊥
FirstHas P (a ∷ s) = P a

-- Demand 3: "to a block with ..": of the last block of a run.
abbrev pub LastHas : (Block → Type 0) → List Block → Type 0
LastHas P [] = ⊥
LastHas P (a ∷ []) = P a
LastHas P (a ∷ (b ∷ s)) = LastHas P (b ∷ s)

-- Demand 3: a run of control from a block with no predecessor, by way of a block, to a block with
-- no successor, among the blocks `bs`.
pub record RunVia (bs : List Block) (via : BlockId) (s : List Block) : Type 0 where
  pub sequence : ControlSequence bs s
  pub starts : FirstHas NoPredecessor s
  pub ends : LastHas (NoSuccessor bs) s
  pub passes : Some (λ b. b.id ≡ via) s

-- Demand 3: "by way of the scope block", among the job's blocks.
abbrev pub Run : Job → List Block → Type 0
Run j s = RunVia j.blocks j.scope s

-- Demand 3: each assumed path of each block on it reads to a value neither null nor undefined. E5:
-- "The assumed paths of the safety property are then the kept and the PA ones", as they are
-- entered.
abbrev pub AssumedHold : {X : Type 0} → Store X → List Block → Type 0
AssumedHold S s = All (λ b. All (λ d. NonNullish (read S d)) (assumed_of b)) s

-- Document 01, "Proved examples": T1 to T8, R1, R2, P1, P2, P3 and the bytes case of "Answer and
-- sheet" as one list, and what each of them says. That they hold is proved in `proofs/Examples`.
use Rattle.std.specs.Prelude.{
  ℕ,
  ◌+◌,
  ◌≤◌,
  ◌≡◌,
  Bool,
  true,
  false,
  List,
  [],
  ◌∷◌,
  map,
  length,
}
use Rattle.entries.specs.declared.PropertyLiteral.TheVariants.{String}
use Rattle.entries.specs.declared.DependencyPathEntry.{DependencyPathEntry}
use Rattle.entries.specs.Path.{ReactiveScopeDependency}
use Rattle.model.specs.Registry.{full_path_of}
use Rattle.model.specs.Reduction.{Reduced, reduce_maybe_optional_chains}
use Rattle.model.specs.Tree.{derive_minimal_dependencies}
use Rattle.model.specs.Job.{Block}
use Rattle.model.specs.Stage.{PathsEntered, enter_paths, none_entered, propagated}
use Rattle.model.specs.Propagation.{JoiningRule, done_neighbours}
use Rattle.model.specs.Answer.{least_buffer, writes, answer_of}

-- What an example says.

pub data Example : Type 0 where
  -- hoistable paths, candidates, returned paths
  tree : List ReactiveScopeDependency → List ReactiveScopeDependency → List ReactiveScopeDependency → Example
  -- the paths of a set, entered in this order, and those of the reduced set
  reduction : List ReactiveScopeDependency → List ReactiveScopeDependency → Example
  -- blocks in job order, the paths of each one's propagated set, and the rounds, the last of which
  -- changed nothing
  propagation : List Block → List (List ReactiveScopeDependency) → ℕ → Example
  -- a job's bytes and its answer's
  bytes : List ℕ → List ℕ → Example

abbrev pub reduced_paths : Reduced → List ReactiveScopeDependency
reduced_paths r = map (full_path_of r.registry) r.set

abbrev pub reduce_entered : PathsEntered → Reduced
reduce_entered e = reduce_maybe_optional_chains e.registry e.set

-- under a joining rule
abbrev pub PropagatesTo : JoiningRule → List Block → List (List ReactiveScopeDependency) → ℕ → Type 0
PropagatesTo rule blocks sets rounds =
    let p = propagated rule blocks in
    (map (map (full_path_of p.work.registry)) p.work.sets ≡ sets) × (p.rounds ≡ rounds) × (p.settled ≡ true)

abbrev pub ExampleHolds : Example → Type 0
ExampleHolds (tree hs cs ds) = derive_minimal_dependencies hs cs ≡ ds
ExampleHolds (reduction before after) = reduced_paths (reduce_entered (enter_paths (none_entered []) before)) ≡ after
ExampleHolds (propagation blocks sets rounds) = PropagatesTo done_neighbours blocks sets rounds
ExampleHolds (bytes job answer) = (out : List ℕ) → least_buffer ≤ length out → answer_of job out ≡ writes answer

abbrev pub AllHold : List Example → Type 0
AllHold [] = Unit {0}
AllHold (x ∷ xs) = ExampleHolds x × AllHold xs

-- The notation of document 01. What it leaves open is chosen so that a wrong choice shows:
-- hoistable paths are not reactive and have spans of their own, and a second candidate has other
-- spans than the first.

-- `.v` and `?.v` with a span
abbrev plain_at : ℕ → ℕ → DependencyPathEntry
plain_at span v = record { property = String v; optional = false; span = span }

abbrev optional_at : ℕ → ℕ → DependencyPathEntry
optional_at span v = record { property = String v; optional = true; span = span }

-- `.v` and `?.v` of a first candidate, whose span is 20 + v, of a second, 40 + v, and of a
-- hoistable path, 60 + v
abbrev pub plain : ℕ → DependencyPathEntry
plain v = plain_at (20 + v) v

abbrev pub optional : ℕ → DependencyPathEntry
optional v = optional_at (20 + v) v

abbrev plain2 : ℕ → DependencyPathEntry
plain2 v = plain_at (40 + v) v

abbrev pub known : ℕ → DependencyPathEntry
known v = plain_at (60 + v) v

abbrev pub known_optional : ℕ → DependencyPathEntry
known_optional v = optional_at (60 + v) v

abbrev pub path_of : ℕ → Bool → ℕ → List DependencyPathEntry → ReactiveScopeDependency
path_of identifier reactive span entries =
    record { identifier = record { 0 = identifier }; reactive = reactive; path = entries; span = span }

-- a hoistable path of identifier 1; a first and a second candidate
abbrev pub hoistable : List DependencyPathEntry → ReactiveScopeDependency
hoistable es = path_of 1 false 3 es

abbrev pub candidate : List DependencyPathEntry → ReactiveScopeDependency
candidate es = path_of 1 true 1 es

abbrev candidate2 : List DependencyPathEntry → ReactiveScopeDependency
candidate2 es = path_of 1 false 2 es

abbrev last_span : ℕ → List DependencyPathEntry → ℕ
last_span s [] = s
last_span s (e ∷ es) = last_span e.span es

-- a path of identifier 1, returned, assumed or of a set: reactive as the first candidate is, with
-- the span of its last entry, or the first candidate's where it has none
abbrev pub one : List DependencyPathEntry → ReactiveScopeDependency
one es = path_of 1 true (last_span 1 es) es

abbrev pub five : ReactiveScopeDependency
five = path_of 5 true 0 []

abbrev pub block : ℕ → List ℕ → List ReactiveScopeDependency → Block
block id predecessors assumed =
    record { id = record { 0 = id }; predecessors = map (λ i. record { 0 = i }) predecessors; raw_reads = []; ready_paths = assumed }

-- E5: "The 01 cases gain that byte", the count of raw reads, 0, behind that of the assumed paths.
abbrev pub example_job : List ℕ
example_job =
    0x48 ∷ 0x44 ∷ 0x01 ∷ 0x00 ∷ 0x01 ∷ 0x00 ∷ 0x07 ∷ 0x00 ∷ 0x00 ∷ 0x00
    ∷ 0x42 ∷ 0x4C ∷ 0x07 ∷ 0x00 ∷ 0x00 ∷ 0x00 ∷ 0x00 ∷ 0x01 ∷ 0x00
    ∷ 0x50 ∷ 0x41 ∷ 0x01 ∷ 0x00 ∷ 0x00 ∷ 0x00 ∷ 0x01 ∷ 0x00 ∷ 0x00 ∷ 0x00 ∷ 0x00 ∷ 0x00
    ∷ 0x43 ∷ 0x41 ∷ 0x01 ∷ 0x00 ∷ 0x00 ∷ 0x00 ∷ 0x01 ∷ 0x05 ∷ 0x00 ∷ 0x00 ∷ 0x00 ∷ 0x01
    ∷ 0x00 ∷ 0x00 ∷ 0x0A ∷ 0x00 ∷ 0x00 ∷ 0x00 ∷ 0x00 ∷ 0x00 ∷ 0x00 ∷ 0x00 ∷ 0x06 ∷ 0x00 ∷ 0x00 ∷ 0x00 ∷ []

abbrev pub example_answer : List ℕ
example_answer =
    0x41 ∷ 0x4E ∷ 0x01 ∷ 0x00 ∷ 0x01 ∷ 0x01
    ∷ 0x44 ∷ 0x45 ∷ 0x01 ∷ 0x00 ∷ 0x00 ∷ 0x00 ∷ 0x01 ∷ 0x06 ∷ 0x00 ∷ 0x00 ∷ 0x00 ∷ 0x01
    ∷ 0x00 ∷ 0x00 ∷ 0x0A ∷ 0x00 ∷ 0x00 ∷ 0x00 ∷ 0x00 ∷ 0x00 ∷ 0x00 ∷ 0x00 ∷ 0x06 ∷ 0x00 ∷ 0x00 ∷ 0x00 ∷ []

abbrev pub examples : List Example
examples =
    -- T1 {1}; 1.10.11; 1.10
    tree (hoistable [] ∷ []) (candidate (plain 10 ∷ plain 11 ∷ []) ∷ []) (one (plain 10 ∷ []) ∷ [])
    -- T2 {1}; 1?.10; 1.10
    ∷ tree (hoistable [] ∷ []) (candidate (optional 10 ∷ []) ∷ []) (one (plain 10 ∷ []) ∷ [])
    -- T3 none; 1.10; 1
    ∷ tree [] (candidate (plain 10 ∷ []) ∷ []) (one [] ∷ [])
    -- T4 none; 1?.10.11; 1?.10
    ∷ tree [] (candidate (optional 10 ∷ plain 11 ∷ []) ∷ []) (one (optional 10 ∷ []) ∷ [])
    -- T5 {1?.10}; 1?.10.11; the same
    ∷ tree (hoistable (known_optional 10 ∷ []) ∷ []) (candidate (optional 10 ∷ plain 11 ∷ []) ∷ []) (one (optional 10 ∷ plain 11 ∷ []) ∷ [])
    -- T6 {1?.10}; 1?.10, 1.10; 1
    ∷ tree (hoistable (known_optional 10 ∷ []) ∷ []) (candidate (optional 10 ∷ []) ∷ candidate2 (plain2 10 ∷ []) ∷ []) (one [] ∷ [])
    -- T7 {1}; 1.11, 1.10; 1.11, 1.10
    ∷ tree (hoistable [] ∷ []) (candidate (plain 11 ∷ []) ∷ candidate2 (plain2 10 ∷ []) ∷ [])
    (one (plain 11 ∷ []) ∷ one (plain2 10 ∷ []) ∷ [])
    -- T8 {1.10}; 1.10.11, 1.10; 1.10
    ∷ tree (hoistable (known 10 ∷ []) ∷ []) (candidate (plain 10 ∷ plain 11 ∷ []) ∷ candidate2 (plain2 10 ∷ []) ∷ [])
    (one (plain 10 ∷ []) ∷ [])
    -- R1 {1, 1?.10?.11} reduces to {1, 1.10?.11}
    ∷ reduction (one [] ∷ one (optional 10 ∷ optional 11 ∷ []) ∷ []) (one [] ∷ one (plain 10 ∷ optional 11 ∷ []) ∷ [])
    -- R2 {1, 1.10, 1?.10?.11} to {1, 1.10, 1.10.11}
    ∷ reduction (one [] ∷ one (plain 10 ∷ []) ∷ one (optional 10 ∷ optional 11 ∷ []) ∷ [])
    (one [] ∷ one (plain 10 ∷ []) ∷ one (plain 10 ∷ plain 11 ∷ []) ∷ [])
    -- P1: 0, 1 (after 0), 2 (after 0), 3 (after 1, 2), path 5 assumed in 1 and 2: in all four, 2
    -- rounds
    ∷ propagation (block 0 [] [] ∷ block 1 (0 ∷ []) (five ∷ []) ∷ block 2 (0 ∷ []) (five ∷ []) ∷ block 3 (1 ∷ 2 ∷ []) [] ∷ [])
    ((five ∷ []) ∷ (five ∷ []) ∷ (five ∷ []) ∷ (five ∷ []) ∷ []) 2
    -- P2: assumed in 1 only: stays there, 1 round
    ∷ propagation (block 0 [] [] ∷ block 1 (0 ∷ []) (five ∷ []) ∷ block 2 (0 ∷ []) [] ∷ block 3 (1 ∷ 2 ∷ []) [] ∷ [])
    ([] ∷ (five ∷ []) ∷ [] ∷ [] ∷ []) 1
    -- P3, a loop: 0, 1 (after 0, 3), 2 (after 1), 3 (after 1, 2), 4 (after 1), assumed in 2: in 2
    -- and 3 (2 rounds, which document 01 does not say)
    ∷ propagation (block 0 [] [] ∷ block 1 (0 ∷ 3 ∷ []) [] ∷ block 2 (1 ∷ []) (five ∷ [])
    ∷ block 3 (1 ∷ 2 ∷ []) [] ∷ block 4 (1 ∷ []) [] ∷ [])
    ([] ∷ [] ∷ (five ∷ []) ∷ (five ∷ []) ∷ [] ∷ []) 2
    -- the job in hex and what `answer` writes
    ∷ bytes example_job example_answer
    ∷ []

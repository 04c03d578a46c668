-- What is left of a reader and a writer where a read or a write has failed, where their bytes are
-- known.
use Rattle.std.specs.Prelude.{ℕ, ◌≤◌, List, length, take, Option}
use Rattle.std.specs.Io.KnownBytes.{Consumes, Appends}

-- The reader has lost some bytes, and these stand at the front of a space.
abbrev pub ConsumesFront : Option (List ℕ) → Option (List ℕ) → List ℕ → Type 0
ConsumesFront old new space = (n : ℕ) × (n ≤ length space) × Consumes old new (take n space)

-- The writer has got the first of some bytes, or none of them.
abbrev pub AppendsFront : Option (List ℕ) → Option (List ℕ) → List ℕ → Type 0
AppendsFront old new bytes = (n : ℕ) × Appends old new (take n bytes)

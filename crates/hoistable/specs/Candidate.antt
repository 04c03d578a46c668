-- The entries of a candidate as a function is given them: a number of them and their place in the
-- job's bytes.
use Rattle.std.specs.Prelude.{ℕ, ◌≤◌, ◌≡◌, List, []}
use Rattle.entries.specs.declared.DependencyPathEntry.{DependencyPathEntry}
use Rattle.model.specs.ReadingBytes.{Read, got, refused, read_many}
use Rattle.model.specs.Answer.{span_width}
use Rattle.model.specs.Job.{read_entry}

-- what was read; none where it was refused
abbrev pub entries_of : Read (List DependencyPathEntry) → List DependencyPathEntry
entries_of (got es next) = es
entries_of (refused r) = []

-- the entries at a place
unfoldable pub entries_at : ℕ → List ℕ → ℕ → List DependencyPathEntry
entries_at count s at = entries_of (read_many count (read_entry span_width) s at)

-- these entries, and no others, are read from a place on
pub record Reads (count : ℕ) (s : List ℕ) (at : ℕ) (es : List DependencyPathEntry) : Type 0 where
  pub next : ℕ
  pub read : read_many count (read_entry span_width) s at ≡ got es next

-- so many entries are read from a place on
abbrev pub AreRead : ℕ → List ℕ → ℕ → Type 0
AreRead count s at = Reads count s at (entries_at count s at)

-- "Entry count u8 (0 to 16), then entries": they were read.
pub record Candidate (count : ℕ) (s : List ℕ) (at : ℕ) : Type 0 where
  pub few : count ≤ 16
  pub reads : AreRead count s at

-- The walk of a candidate by flags that say at which levels the hoistable tree is NonNull.
use Rattle.std.specs.Prelude.{ℕ, zero, suc, ◌+◌, ◌/◌, ◌%◌, Bool, ◌||◌, cond, List, [], ◌∷◌, eqb}
use Rattle.entries.specs.declared.DependencyPathEntry.{DependencyPathEntry}
use Rattle.entries.specs.Path.{ReactiveScopeDependency}
use Rattle.model.specs.Lists.{first_flag, rest_flags}
use Rattle.model.specs.Tree.{DependencyPosition, ended, step_to, step_access}
use Rattle.model.specs.Answer.{span_width}
use Rattle.tree.specs.Words.{head_at, entry_at}

-- `walk_entries` with a flag for each level in the place of the hoistable tree
abbrev pub walk_by : List Bool → DependencyPosition → List DependencyPathEntry → List DependencyPosition
walk_by fs p [] = ended p ∷ []
walk_by fs p (e ∷ es) = cond (first_flag fs || e.optional) (p ∷ walk_by (rest_flags fs) (step_to e (step_access (first_flag fs))) es)
    (ended p ∷ [])

-- the n lowest bits of a number, the lowest first
abbrev pub bits_of : ℕ → ℕ → List Bool
bits_of zero x = []
bits_of (suc n) x = eqb (x % 2) 1 ∷ bits_of n (x / 2)

-- how many bytes an entry has: optional, kind, value and span
abbrev pub entry_size : ℕ
entry_size = 10 + span_width

-- how many bytes stand between a path's mark and its entries: identifier, reactive, span and the
-- count
abbrev pub head_size : ℕ
head_size = 6 + span_width

-- n entries from a place on
abbrev pub entries_from : List ℕ → ℕ → ℕ → List DependencyPathEntry
entries_from s at zero = []
entries_from s at (suc n) = entry_at s at ∷ entries_from s (at + entry_size) n

-- the path whose fields stand at a place, after the mark
unfoldable pub path_at : List ℕ → ℕ → ReactiveScopeDependency
path_at s at = let head = head_at s at in record {
  identifier = head.identifier;
  reactive = head.reactive;
  path = entries_from s (at + head_size) head.entries;
  span = head.span;
}

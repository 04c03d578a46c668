-- The positions that the words of a tree hold. A word has the parent's number (16 bits, 0 for a
-- root), the place in the job's bytes where the key and the span stand (16 bits), the access kind
-- (2 bits), and above them two links, which are numbers of positions, 0 for none: to the first
-- child (11 bits) and to the next sibling.
use Rattle.std.specs.Prelude.{ℕ, zero, suc, ◌+◌, ◌*◌, ◌/◌, ◌%◌, Bool, false, cond, Option, Some, None, List, [], ◌∷◌, get_or, eqb}
use Rattle.entries.specs.declared.PropertyLiteral.TheVariants.{String}
use Rattle.entries.specs.declared.DependencyPathEntry.{DependencyPathEntry}
use Rattle.entries.specs.declared.PropertyAccessType.{PropertyAccessType}
use Rattle.entries.specs.Access.{is_optional_access, is_dependency_access, access_of, merge_access}
use Rattle.model.specs.ReadingBytes.{Read, got, refused}
use Rattle.model.specs.Job.{read_entry}
use Rattle.model.specs.Answer.{flag, span_width}
use Rattle.model.specs.Forest as forest
use Rattle.model.specs.Forest.{identifier_key, property_key}
use Rattle.model.specs.Tree.{DependencyPosition, step_to}
use Rattle.job.specs.Head.{read_path_head}
use Rattle.job.specs.declared.PathHead.{PathHead}
use Rattle.laws.specs.Flat.{Node}

-- The head that was read; the fields are 0 where none can be read.
abbrev pub head_or : Read PathHead → PathHead
head_or (got head next) = head
head_or (refused r) = record { identifier = record { 0 = 0 }; reactive = false; span = 0; entries = 0 }

-- the entry that was read, likewise
abbrev pub entry_or : Read DependencyPathEntry → DependencyPathEntry
entry_or (got e next) = e
entry_or (refused r) = record { property = String 0; optional = false; span = 0 }

-- what stands before a path's entries, at the place after its mark
unfoldable pub head_at : List ℕ → ℕ → PathHead
head_at s at = head_or (read_path_head s at)

-- the entry at a place
unfoldable pub entry_at : List ℕ → ℕ → DependencyPathEntry
entry_at s at = entry_or (read_entry span_width s at)

-- The fields of a word: the parent's number, 0 for a root.
abbrev pub parent_in : ℕ → ℕ
parent_in w = w % 65536

-- the place of the head, for a root, or of the entry, for a child
abbrev pub place_in : ℕ → ℕ
place_in w = w / 65536 % 65536

-- the access kind, by its two bits
abbrev pub access_in : ℕ → PropertyAccessType
access_in w = access_of (eqb (w / 4294967296 % 2) 1) (eqb (w / 8589934592 % 2) 1)

-- the link to the first child
abbrev pub child_in : ℕ → ℕ
child_in w = w / 17179869184 % 2048

-- the link to the next sibling
abbrev pub sibling_in : ℕ → ℕ
sibling_in w = w / 35184372088832

-- one of the two
abbrev pub link_in : Bool → ℕ → ℕ
link_in child w = cond child (child_in w) (sibling_in w)

-- the number of a position that a link says, where it is not 0
abbrev pub link_of : ℕ → Option ℕ
link_of zero = None
link_of (suc n) = Some (suc n)

-- the word with a link that it had not, to the first child or to the next sibling
abbrev pub linked_word : Bool → ℕ → ℕ → ℕ
linked_word child w number = cond child (w + number * 17179869184) (w + number * 35184372088832)

-- the word without links of a parent's number, a place and an access kind
unfoldable pub pack : ℕ → ℕ → PropertyAccessType → ℕ
pack parent place a = parent + place * 65536 + flag (is_optional_access a) * 4294967296 + flag (is_dependency_access a) * 8589934592

-- the key of the position below this parent, whose key and span stand at this place
abbrev pub key_at : List ℕ → ℕ → ℕ → forest.Key
key_at s parent at = cond (eqb parent 0) (identifier_key (head_at s at).identifier) (property_key (entry_at s at).property)

-- a root's position: identifier, span and reactive from the head at the place
abbrev pub root_at : List ℕ → ℕ → PropertyAccessType → DependencyPosition
root_at s at a = record {
  key = identifier_key
      (head_at s at).identifier;
  access = a;
  span = (head_at s at).span;
  reactive = (head_at s at).reactive;
}

-- the position below this parent, whose key and span stand at this place
unfoldable pub position_as : List ℕ → ℕ → ℕ → PropertyAccessType → DependencyPosition
position_as s parent at a = cond (eqb parent 0) (root_at s at a) (step_to (entry_at s at) a)

-- the position that a word stands for
abbrev pub position_of : List ℕ → ℕ → DependencyPosition
position_of s w = position_as s (parent_in w) (place_in w) (access_in w)

-- the position with its parent's number
abbrev pub node_of : List ℕ → ℕ → Node DependencyPosition
node_of s w = record { parent = parent_in w; here = position_of s w }

-- n positions from word k on
abbrev pub positions_from : List ℕ → List ℕ → ℕ → ℕ → List DependencyPosition
positions_from s ws k zero = []
positions_from s ws k (suc n) = position_of s (get_or ws k 0) ∷ positions_from s ws (suc k) n

-- n positions with their parents, from word k on
abbrev pub nodes_from : List ℕ → List ℕ → ℕ → ℕ → List (Node DependencyPosition)
nodes_from s ws k zero = []
nodes_from s ws k (suc n) = node_of s (get_or ws k 0) ∷ nodes_from s ws (suc k) n

-- the positions of a way down of this depth
abbrev pub way_positions : List ℕ → List ℕ → ℕ → List DependencyPosition
way_positions s way depth = positions_from s way 0 depth

-- the word of a position into which an access is merged
abbrev pub merged_word : ℕ → PropertyAccessType → ℕ
merged_word w a = pack (parent_in w) (place_in w) (merge_access (access_in w) a) + w / 17179869184 * 17179869184

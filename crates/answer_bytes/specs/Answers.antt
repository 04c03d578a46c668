-- The answer over the lent words, and what writing it leaves.
use Rattle.std.specs.Prelude.{ℕ, ◌*◌, ◌≤◌, ◌<◌, ◌≡◌, Bool, List, ◌++◌, map, length}
use Rattle.entries.specs.Path.{ReactiveScopeDependency}
use Rattle.model.specs.Lists.{concat_map}
use Rattle.model.specs.ReadingBytes.{got, read_many}
use Rattle.model.specs.Job.{CA, read_path}
use Rattle.model.specs.Sets.{NodeSet}
use Rattle.model.specs.Registry.{PropertyPathRegistry, full_path_of}
use Rattle.model.specs.Tree.{dependency_tree, derive_minimal_dependencies}
use Rattle.model.specs.Answer.{u8, u16, flag, AN, DE, path_bytes, span_width, longest_job}
use Rattle.model.specs.ReductionLaws.{Members}
use Rattle.rows.specs.Members.{members_of}
use Rattle.registry.specs.Words.{registry_of}
use Rattle.answer_bytes.specs.declared.Candidates.{Candidates}
use Rattle.writer.specs.Writes.{Writes}
use Rattle.tree.specs.Tree.{Held, forest_of}

-- So many candidates, at most 64, are read from a place on, and end within the longest length of a
-- job.
pub record CandidatesAt (s : List ℕ) (start count : ℕ) : Type 0 where
  pub candidates : List ReactiveScopeDependency
  pub end : ℕ
  pub reads : read_many count (read_path span_width CA) s start ≡ got candidates end
  pub few : count ≤ 64
  pub short : end ≤ longest_job

-- The words have room for the dependency tree of so many candidates: 17 positions for each, and how
-- many positions there are. There are no more words than a link has numbers for.
pub record TreeRoom (tree : List ℕ) (count : ℕ) : Type 0 where
  pub long : 17 * count < length tree
  pub short : length tree ≤ 2048

-- The words hold the dependency tree of the candidates, in the hoistable tree of a set of nodes.
pub record AddsCandidates (s : List ℕ) (start count : ℕ) (reg : PropertyPathRegistry) (set : NodeSet) (tree : List ℕ) : Type 0 where
  pub held : Held s tree
  pub is : (cs : List ReactiveScopeDependency) (end : ℕ) → read_many count (read_path span_width CA) s start ≡ got cs end
      → forest_of s tree ≡ dependency_tree (map (full_path_of reg) set) cs

-- The candidates are read from their place on, and the set has nodes of the registry alone.
abbrev pub Given : Candidates → Type 0
Given c = Members (registry_of c.nodes.words.now) (members_of c.set.words) × CandidatesAt c.s.now c.start c.count

-- The words hold their dependency tree.
abbrev pub Added : Candidates → List ℕ → Type 0
Added c tree = AddsCandidates c.s.now c.start c.count (registry_of c.nodes.words.now) (members_of c.set.words) tree

-- "AN, count u16, rounds u8, settled u8 (1 or 0)"
abbrev pub head_bytes : ℕ → ℕ → Bool → List ℕ
head_bytes count rounds settled = u16 AN ++ u16 count ++ u8 rounds ++ u8 (flag settled)

-- the answer of the returned paths
abbrev pub answer_over : List ReactiveScopeDependency → ℕ → Bool → List ℕ
answer_over returned rounds settled = head_bytes (length returned) rounds settled ++ concat_map (path_bytes span_width DE) returned

-- The answer stands in the buffer from its start on, and has its room there.
abbrev pub WritesAnswer : List ℕ → ℕ → ℕ → PropertyPathRegistry → NodeSet → ℕ → Bool → List ℕ → List ℕ → ℕ → Type 0
WritesAnswer s start count reg set rounds settled before after next =
    (cs : List ReactiveScopeDependency) (end : ℕ) → read_many count (read_path span_width CA) s start ≡ got cs end
    → let bytes = answer_over (derive_minimal_dependencies (map (full_path_of reg) set) cs) rounds settled in Writes before after 0 bytes
    next × (length bytes ≤ length before)

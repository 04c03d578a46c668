-- The returned paths written first and the head before them: together they are the answer.
use Prim.Native.Nat.{ℕ, ◌+◌, ◌≤◌}
use native.Mathlib.Omega.{arith}
use mathlib.Core.Path.{◌≡◌, ap, subst}
use mathlib.Core.Bool.{Bool}
use mathlib.Core.List.{List, map}
use lib.ListN.{length}
use Rattle.entries.specs.Path.{ReactiveScopeDependency}
use Rattle.model.specs.Lists.{concat_map}
use Rattle.model.specs.ReadingBytes.{got, read_many}
use Rattle.model.specs.Job.{CA, read_path}
use Rattle.model.specs.Sets.{NodeSet}
use Rattle.model.specs.Registry.{PropertyPathRegistry, full_path_of}
use Rattle.model.specs.Forest.{Forest, firsts}
use Rattle.model.specs.Tree.{DependencyPosition, is_dependency, dependency_of, derive_minimal_dependencies}
use Rattle.model.specs.Answer.{DE, path_bytes}
use Rattle.job.proofs.Many.{many_length}
use Rattle.laws.specs.Fits.{returned_few}
use Rattle.std.proofs.Common.{MutBor}
use Rattle.writer.specs.declared.Writer.{Writer}
use Rattle.writer.specs.Writes.{Writes, Puts}
use Rattle.writer.proofs.Bytes.{moved, puts_before, puts_as, puts_back}
use Rattle.tree.specs.Tree.{returned_of, Derives}
use Rattle.tree.proofs.Caller.{returned_short}
use Rattle.answer_bytes.specs.Answers.{CandidatesAt, AddsCandidates, head_bytes, answer_over}

-- The paths that the tree's words hold are the returned ones, and have their room.

module _ {s : List ℕ} {start count : ℕ} {reg : PropertyPathRegistry} {nodes : NodeSet} {tree : List ℕ} (x : AddsCandidates s start count reg nodes tree) where
  returned_are : (cs : List ReactiveScopeDependency) (end : ℕ) → read_many count (read_path 4 CA) s start ≡ got cs end
      → returned_of s tree ≡ derive_minimal_dependencies (map (full_path_of reg) nodes) cs
  unfolding returned_of derive_minimal_dependencies
  returned_are cs end e = ap (λ (f : Forest DependencyPosition). map dependency_of (firsts is_dependency f)) (x.is cs end e)

  pub paths_fit : CandidatesAt s start count → (out : List ℕ) → 24576 ≤ length out → 6 + length (concat_map (path_bytes 4 DE) (returned_of s tree)) ≤ length out
  paths_fit given out wide =
      let same = returned_are given.candidates given.end given.reads in
      let fewer = returned_few (map (full_path_of reg) nodes) given.candidates in
      let count-is = many_length (read_path 4 CA) s count start given.reads in
      let size = ap length same in
      let most = given.few in
      omega (arith, returned_short s tree x.held, size, fewer, count-is, most)

-- The whole: the paths are written behind the place of the head, and then the head; what both wrote
-- stands in the buffer that was lent to them.
pub answer_written : {s : List ℕ} {start count : ℕ} {reg : PropertyPathRegistry} {nodes : NodeSet} {tree : List ℕ}
    → AddsCandidates s start count reg nodes tree → CandidatesAt s start count
    → {o : MutBor (List ℕ)} {b c : Writer} {after : List ℕ} → 24576 ≤ length o.now → {counted : ℕ} (rounds : ℕ) (settled : Bool)
    → Derives (returned_of s tree) (record { out = o; at = 6 }) b counted → Puts (moved b 0) c 6 (head_bytes counted rounds settled)
    → after ≡ c.out.now → (cs : List ReactiveScopeDependency) (end : ℕ) → read_many count (read_path 4 CA) s start ≡ got cs end
    → Writes o.now after 0 (answer_over (derive_minimal_dependencies (map (full_path_of reg) nodes) cs) rounds settled) b.at ×
    (length (answer_over (derive_minimal_dependencies (map (full_path_of reg) nodes) cs) rounds settled) ≤ length o.now)
answer_written {s} {reg = reg} {nodes = nodes} {tree = tree} x given {o} wide rounds settled d h back cs end e =
    let head = puts_as (ap (λ n. head_bytes n rounds settled) d.counts) h in
    let whole = puts_before {a = record { out = o; at = 0 }} d.puts head in
    let same = returned_are x cs end e in
    let ends = whole.writes.ends in
    let next = whole.next in
    let fits : length (answer_over (returned_of s tree) rounds settled) ≤ length o.now = omega (arith, paths_fit x given o.now wide) in (
      puts_back back (puts_as (ap (λ (ds : List ReactiveScopeDependency). answer_over ds rounds settled) same) whole),
      subst (λ (ds : List ReactiveScopeDependency). length (answer_over ds rounds settled) ≤ length o.now) same fits,
    )

-- What a caller needs beside the contracts: the path of a record that was read, the walk by the
-- hoistable tree, and the room of the returned paths.
use Prim.Native.Nat.{ℕ, suc, ◌+◌, ◌*◌, ◌/◌, ◌%◌, ◌≤◌}
use native.Mathlib.Omega.{arith}
use mathlib.Core.Path.{◌≡◌, refl, sym}
use mathlib.Core.Bool.{Bool, true, false}
use mathlib.Core.List.{List, [], ◌∷◌, ◌++◌, map}
use mathlib.Core.Option.{Option}
use lib.ListN.{length, length-append}
use Rattle.entries.specs.declared.DependencyPathEntry.{DependencyPathEntry}
use Rattle.entries.specs.Path.{ReactiveScopeDependency}
use Rattle.model.specs.Lists.{concat_map, first_flag, rest_flags}
use Rattle.model.specs.ReadingBytes.{got, read_many}
use Rattle.model.specs.Job.{read_entry, read_path}
use Rattle.model.specs.Answer.{DE, flag, entry_bytes, path_bytes}
use Rattle.model.specs.Tests.{decide}
use Rattle.model.specs.Forest.{Forest, empty, position, Found, property_key, child_by_key, firsts}
use Rattle.model.specs.Tree.{
  HoistablePosition,
  hoistable_key,
  at_non_null,
  DependencyPosition,
  is_dependency,
  step_to,
  step_access,
  walk_entries,
  dependency_of,
  entry_of,
}
use Rattle.job.proofs.Ends.{ended_at, entry_ends}
use Rattle.job.proofs.Many.{many_all}
use Rattle.job.proofs.RecordParts.{path_parts}
use Rattle.writer.specs.Writes.{path_head_bytes}
use Rattle.writer.proofs.Bytes.{entry_length, path_head_length}
use Rattle.tree.specs.Words.{head_at, entry_at}
use Rattle.tree.specs.Walk.{walk_by, bits_of, entries_from, path_at}
use Rattle.tree.specs.Tree.{forest_of, height, Held, returned_of}
use Rattle.tree.proofs.Adding.{children_lower, others_lower}
use Rattle.tree.proofs.Putting.{map_length}
use Rattle.tree.proofs.Deriving.{bytes_of, bytes_append, map-append, through}

-- entries that were read stand one behind the other
entries_read : (s : List ℕ) (n at : ℕ) {es : List DependencyPathEntry} {end : ℕ} → read_many n (read_entry 4) s at ≡ got es end → entries_from s at n ≡ es
unfolding entry_at
entries_read s =
    many_all (read_entry 4) s (λ n at es. entries_from s at n ≡ es) (λ at. refl)
    (λ n at next e es read rest. rw (read, ← ended_at (at + 14) read (entry_ends s at), rest))

-- The path of a record that was read stands at the place after its mark.
pub path_at_lem : (s : List ℕ) (mark at : ℕ) {d : ReactiveScopeDependency} {next : ℕ} → read_path 4 mark s at ≡ got d next → path_at s (at + 2) ≡ d
unfolding path_at head_at
path_at_lem s mark at e =
    let parts = path_parts s mark at e in
    let head = parts.head in
    let place : at + 2 + 10 ≡ at + 12 = omega arith in
    rw (parts.head_read, place, entries_read s head.entries (at + 12) parts.entries_read) (sym parts.same)

-- The flags say where the hoistable tree is NonNull, level by level.
abbrev pub FlagsAt : Option (Found HoistablePosition) → List DependencyPathEntry → List Bool → Type 0
FlagsAt h [] fs = Unit {0}
FlagsAt h (e ∷ es) fs = (first_flag fs ≡ at_non_null h) × FlagsAt (child_by_key hoistable_key h (property_key e.property)) es (rest_flags fs)

-- a walk by such flags is the walk by the tree
pub walk_by_flags : (h : Option (Found HoistablePosition)) (p : DependencyPosition) (es : List DependencyPathEntry) (fs : List Bool) → FlagsAt h es fs
    → walk_by fs p es ≡ walk_entries h p es
unfolding walk_entries
walk_by_flags h p [] fs a = refl
walk_by_flags h p (e ∷ es) fs a =
    rw (walk_by_flags (child_by_key hoistable_key h (property_key e.property)) (step_to e (step_access (first_flag fs))) es (rest_flags fs) a.1, a.0)

-- the bits of a number that is made of a flag, worth 1, and the flags behind it
pub bits_cons : (n : ℕ) (b : Bool) (x : ℕ) → bits_of (suc n) (flag b + 2 * x) ≡ b ∷ bits_of n x
bits_cons n true x = let low : (1 + 2 * x) % 2 ≡ 1 = omega arith in let high : (1 + 2 * x) / 2 ≡ x = omega arith in rw (low, high)
bits_cons n false x = let low : (0 + 2 * x) % 2 ≡ 0 = omega arith in let high : (0 + 2 * x) / 2 ≡ x = omega arith in rw (low, high)

-- The room of the returned paths: no way down is longer than 17 positions, so a record has at most
-- 12 + 16 * 14 bytes.

entries_bytes : (es : List DependencyPathEntry) → length (concat_map (entry_bytes 4) es) ≡ 14 * length es
entries_bytes [] = refl
entries_bytes (e ∷ es) = omega (arith, length-append (entry_bytes 4 e) (concat_map (entry_bytes 4) es), entry_length e, entries_bytes es)

path_bytes_lem : (d : ReactiveScopeDependency) → length (path_bytes 4 DE d) ≡ 12 + 14 * length d.path
unfolding path_bytes
path_bytes_lem d =
    let head = path_head_bytes DE d.identifier d.reactive d.span (length d.path) in
    omega (
      arith,
      length-append head (concat_map (entry_bytes 4) d.path),
      path_head_length DE d.identifier d.reactive d.span
          (length d.path),
      entries_bytes d.path,
    )

way_short : (ps : List DependencyPosition) → length ps ≤ 17 → length (path_bytes 4 DE (dependency_of ps)) ≤ 236
way_short [] h = omega (arith, path_bytes_lem (dependency_of []))
way_short (p ∷ ps) h = omega (arith, path_bytes_lem (dependency_of (p ∷ ps)), map_length entry_of ps)

abbrev behind : List DependencyPosition → Forest DependencyPosition → List ReactiveScopeDependency
behind before f = map (λ w. dependency_of (before ++ w)) (firsts is_dependency f)

behind_short : (f : Forest DependencyPosition) (before : List DependencyPosition) → length before + height f ≤ 17 → length
    (bytes_of (behind before f)) ≤ 236 * length (behind before f)
behind_short empty before h = omega arith
behind_short (position p c r) before h =
    let more = before ++ (p ∷ []) in
    let size = length-append before (p ∷ []) in
    let low = children_lower (height c) (height r) (height (position p c r)) (omega arith) in
    let others = others_lower (height c) (height r) (height (position p c r)) (omega arith) in
    let after = behind_short r before (omega arith) in
    decide (is_dependency p)
    (λ t. rw t (omega (arith, way_short more (omega arith), length-append (path_bytes 4 DE (dependency_of more)) (bytes_of (behind before r)), after)))
    (λ t. rw (
      t,
      map-append (λ w. dependency_of (before ++ w)) (map (λ w. p ∷ w) (firsts is_dependency c)) (firsts is_dependency r),
      through before p (firsts is_dependency c),
      bytes_append (behind more c) (behind before r),
    ) (omega (
      arith,
      behind_short c more (omega arith),
      after,
      length-append (bytes_of (behind more c)) (bytes_of (behind before r)),
      length-append
          (behind more c) (behind before r),
    )))

pub returned_short : (s ws : List ℕ) → Held s ws → length (bytes_of (returned_of s ws)) ≤ 236 * length (returned_of s ws)
unfolding returned_of
returned_short s ws held = behind_short (forest_of s ws) [] (let l = held.low in omega arith)

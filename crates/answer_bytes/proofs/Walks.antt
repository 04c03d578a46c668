-- The candidates that are left: what adds their walks to the tree so far adds them all.
use Prim.Native.Nat.{ℕ, zero, suc, ◌+◌, ◌*◌, ◌-◌, ◌≤◌, ◌<◌}
use native.Mathlib.Omega.{arith}
use native.Mathlib.Nat.{sub-zero}
use mathlib.Core.Path.{◌≡◌, sym, ap, subst, ◌∙◌}
use mathlib.Core.List.{List, [], ◌∷◌, map}
use mathlib.Core.Option.{Option}
use lib.ListN.{length}
use Rattle.entries.specs.declared.IdentifierId.{IdentifierId}
use Rattle.entries.specs.declared.DependencyPathEntry.{DependencyPathEntry}
use Rattle.entries.specs.declared.Refusal.{Refusal}
use Rattle.entries.specs.Path.{ReactiveScopeDependency}
use Rattle.model.specs.ReadingBytes.{got, refused, read_many}
use Rattle.model.specs.Job.{CA, read_entry, read_path}
use Rattle.model.specs.Sets.{NodeSet}
use Rattle.model.specs.Registry.{PropertyPathRegistry, full_path_of}
use Rattle.model.specs.Forest.{identifier_key, property_key, Forest, empty, Found, find_key, child_by_key, add, add_all}
use Rattle.model.specs.Tree.{
  HoistablePosition,
  hoistable_key,
  hoistable_tree,
  at_non_null,
  dependency_key,
  merge_position,
  root_position,
  walk_candidate,
  dependency_tree,
}
use Rattle.job.specs.Head.{read_path_head}
use Rattle.job.specs.declared.PathHead.{PathHead}
use Rattle.job.proofs.Many.{many_first}
use Rattle.job.proofs.Passing.{not_both}
use Rattle.job.proofs.RecordParts.{PathParts, path_parts, paths_onward}
use Rattle.hoistable.specs.Levels.{levels_of, non_null_levels, number_of}
use Rattle.hoistable.specs.Candidate.{entries_at, Candidate}
use Rattle.hoistable.proofs.Names.{candidate_read}
use Rattle.hoistable.proofs.Walks.{number_first, number_later}
use Rattle.tree.specs.Walk.{bits_of, walk_by}
use Rattle.tree.specs.Tree.{Held, Adds, count_in, forest_of}
use Rattle.tree.proofs.Caller.{path_at_lem, FlagsAt, walk_by_flags}
use Rattle.answer_bytes.specs.Answers.{CandidatesAt, AddsCandidates}

-- The bits of the levels' number are the flags of a walk.
flags_at : (m : ℕ) (h : Option (Found HoistablePosition)) (es : List DependencyPathEntry) → length es ≤ m
    → FlagsAt h es (bits_of m (number_of (levels_of h es)))
unfolding levels_of
flags_at m h [] l = tt
flags_at zero h (e ∷ es) l = absurd (omega arith)
flags_at (suc m) h (e ∷ es) l =
    let child = child_by_key hoistable_key h (property_key e.property) in
    let levels = at_non_null h ∷ levels_of child es in
    (number_first levels, subst (λ x. FlagsAt child es (bits_of m x)) (sym (number_later levels)) (flags_at m child es (omega arith)))

-- the hoistable tree of a set
abbrev pub tree_of : PropertyPathRegistry → NodeSet → Forest HoistablePosition
tree_of reg set = hoistable_tree (map (full_path_of reg) set)

-- so the walk by the levels is the walk of the candidate
walk_levels : (reg : PropertyPathRegistry) (set : NodeSet) (d : ReactiveScopeDependency) → length d.path ≤ 17
    → walk_by (bits_of 17 (number_of (non_null_levels reg set d.identifier d.path))) (root_position d) d.path ≡ walk_candidate (tree_of reg set) d
unfolding non_null_levels walk_candidate
walk_levels reg set d l =
    let h = find_key hoistable_key (tree_of reg set) (identifier_key d.identifier) in
    walk_by_flags h (root_position d) d.path (bits_of 17 (number_of (levels_of h d.path))) (flags_at 17 h d.path l)

pub record Adding (s : List ℕ) (start count : ℕ) (reg : PropertyPathRegistry) (set : NodeSet) (tree : List ℕ) (at left : ℕ) : Type 0 where
  pub held : Held s tree
  pub room : count_in tree + 17 * left < length tree
  pub on : (cs : List ReactiveScopeDependency) (end : ℕ) → read_many count (read_path 4 CA) s start ≡ got cs end
      → (rest : List ReactiveScopeDependency) × (read_many left (read_path 4 CA) s at ≡ got rest end)
      × (add_all dependency_key merge_position (forest_of s tree) (map (walk_candidate (tree_of reg set)) rest)
      ≡ dependency_tree (map (full_path_of reg) set) cs)

pub adding : (s : List ℕ) (start count : ℕ) (reg : PropertyPathRegistry) (set : NodeSet) (tree : List ℕ) → 17 * count < length tree
    → Held s tree → forest_of s tree ≡ empty → count_in tree ≡ 0
    → Adding s start count reg set tree start (count - 0)
unfolding dependency_tree
adding s start count reg set tree room held none zero-count = record {
  held = held;
  room = omega arith;
  on = λ cs end e. (
    cs,
    subst (λ n. read_many n (read_path 4 CA) s start ≡ got cs end) (sym (sub-zero count)) e,
    ap (λ f. add_all dependency_key merge_position f (map (walk_candidate (tree_of reg set)) cs)) none,
  );
}

module _ {s : List ℕ} {start count : ℕ} {reg : PropertyPathRegistry} {set : NodeSet} {tree : List ℕ} {at left : ℕ}
    (x : Adding s start count reg set tree at left) (given : CandidatesAt s start count) where
  pub adding_end : left ≤ 0 → AddsCandidates s start count reg set tree
  adding_end none = record {
    held = x.held;
    is = λ cs end e.
        let rest = x.on cs end e in
        let zero_left : left ≡ 0 = omega arith in
        let nothing : got [] at ≡ got rest.0 end = subst (λ n. read_many n (read_path 4 CA) s at ≡ got rest.0 end) zero_left rest.1 in
        let no : rest.0 ≡ [] = cc in
        sym (ap (λ (cs : List ReactiveScopeDependency). add_all dependency_key merge_position (forest_of s tree) (map (walk_candidate (tree_of reg set)) cs))
        no) ∙ rest.2;
  }

  module _ (some : 0 < left) where
    rest : (rest : List ReactiveScopeDependency) × (read_many left (read_path 4 CA) s at ≡ got rest given.end)
        × (add_all dependency_key merge_position (forest_of s tree) (map (walk_candidate (tree_of reg set)) rest) ≡ dependency_tree (map (full_path_of reg) set)
        given.candidates)
    rest = x.on given.candidates given.end given.reads

    first : (d : ReactiveScopeDependency) × (next : ℕ) × (cs : List ReactiveScopeDependency) × (read_path 4 CA s at ≡ got d next) ×
        (read_many (left - 1) (read_path 4 CA) s next ≡ got cs given.end) × (d ∷ cs ≡ rest.0)
    first = many_first (read_path 4 CA) s left at some rest.1

    parts : PathParts s CA at first.0 first.1
    parts = path_parts s CA at first.3

    pub place_within : at + 2 ≤ 32768
    place_within =
        let on = paths_onward s CA (left - 1) first.1 first.4 in
        let short = given.short in
        let here = parts.end in
        omega arith

    pub next_within : {head : PathHead} {entries_at' : ℕ} → read_path_head s (at + 2) ≡ got head entries_at' → (entries_at' ≤ 32768) × (head.entries ≤ 16)
    next_within {head} {entries_at'} e =
        let same = sym parts.head_read ∙ e in
        let place : at + 12 ≡ entries_at' = cc in
        let count : parts.head.entries ≡ head.entries = (let h : parts.head ≡ head = cc in ap (λ (h : PathHead). h.entries) h) in
        let on = paths_onward s CA (left - 1) first.1 first.4 in
        let short = given.short in
        let here = parts.end in
        let few = parts.entries_few in
        (omega arith, omega arith)

    pub head_there : {r : Refusal} → read_path_head s (at + 2) ≡ refused r → ⊥
    head_there e = not_both parts.head_read e

    module _ {head : PathHead} {entries_at' : ℕ} (read : read_path_head s (at + 2) ≡ got head entries_at') where
      same_head : parts.head ≡ head
      same_head = let e = sym parts.head_read ∙ read in cc

      same_entries : at + 12 ≡ entries_at'
      same_entries = let e = sym parts.head_read ∙ read in cc

      entries_read : read_many head.entries (read_entry 4) s entries_at' ≡ got first.0.path first.1
      entries_read =
          subst (λ (h : PathHead). read_many h.entries (read_entry 4) s entries_at' ≡ got first.0.path first.1) same_head
          (subst (λ n. read_many parts.head.entries (read_entry 4) s n ≡ got first.0.path first.1) same_entries parts.entries_read)

      few_entries : head.entries ≤ 16
      few_entries = subst (λ (h : PathHead). h.entries ≤ 16) same_head parts.entries_few

      pub candidate : Candidate head.entries s entries_at'
      candidate = (candidate_read few_entries entries_read).0

      next_place : entries_at' + 14 * head.entries ≡ first.1
      next_place = let e = parts.end in let h = ap (λ (p : PathHead). p.entries) same_head in let n = same_entries in omega arith

      identifier_same : first.0.identifier ≡ head.identifier
      identifier_same = ap (λ (d : ReactiveScopeDependency). d.identifier) parts.same ∙ ap (λ (h : PathHead). h.identifier) same_head

      pub adding_more : (levels : ℕ) (after : List ℕ) → levels ≡ number_of
          (non_null_levels reg set head.identifier (entries_at head.entries s entries_at'))
          → length after ≡ length tree → Adds s tree after (at + 2) levels
          → Adding s start count reg set after (entries_at' + 14 * head.entries) (left - 1)
      adding_more levels after is long added = record {
        held = added.held;
        room = let r = x.room in let f = added.few in omega arith;
        on = λ cs end e.
            let all = x.on cs end e in
            let one = many_first (read_path 4 CA) s left at some all.1 in
            let both : got one.0 one.1 ≡ got first.0 first.1 = sym one.3 ∙ first.3 in
            let d-same : one.0 ≡ first.0 = cc in
            let n-same : one.1 ≡ entries_at' + 14 * head.entries = (let n : one.1 ≡ first.1 = cc in n) ∙ sym next_place in (
              one.2,
              subst (λ n. read_many (left - 1) (read_path 4 CA) s n ≡ got one.2 end) n-same one.4,
              ap (λ f. add_all dependency_key merge_position f (map (walk_candidate (tree_of reg set)) one.2))
                  (walked ∙ ap (λ (d : ReactiveScopeDependency). add dependency_key merge_position (forest_of s tree) (walk_candidate (tree_of reg set) d))
                  (sym d-same))
                  ∙ ap (λ (cs : List ReactiveScopeDependency). add_all dependency_key merge_position (forest_of s tree)
                  (map (walk_candidate (tree_of reg set)) cs)) one.5
                  ∙ all.2,
            );
      }
        where
          walked : forest_of s after ≡ add dependency_key merge_position (forest_of s tree) (walk_candidate (tree_of reg set) first.0)
          walked =
              added.is
              ∙ ap (λ (d : ReactiveScopeDependency). add dependency_key merge_position (forest_of s tree)
              (walk_by (bits_of 17 levels) (root_position d) d.path)) (path_at_lem s CA at first.3)
              ∙ ap (λ n. add dependency_key merge_position (forest_of s tree) (walk_by (bits_of 17 n) (root_position first.0) first.0.path))
              (is ∙ ap (λ (es : List DependencyPathEntry). number_of (non_null_levels reg set head.identifier es))
              (candidate_read few_entries entries_read).1 ∙ ap (λ (i : IdentifierId). number_of (non_null_levels reg set i first.0.path))
              (sym identifier_same))
              ∙ ap (add dependency_key merge_position (forest_of s tree))
              (walk_levels reg set first.0 (let c = parts.entries_count in let f = parts.entries_few in omega arith))

-- The earlier paths that are left: the path equals one of all where it equals one of these.
use Prim.Native.Nat.{ℕ, ◌+◌, ◌*◌, ◌-◌, ◌≤◌, ◌<◌}
use native.Mathlib.Omega.{arith}
use mathlib.Core.Path.{◌≡◌, refl, sym, ap, subst, ◌∙◌}
use mathlib.Core.Bool.{Bool, true, false, ◌||◌}
use mathlib.Core.List.{List, [], ◌∷◌}
use Rattle.entries.specs.declared.Refusal.{Refusal}
use Rattle.entries.specs.Path.{ReactiveScopeDependency}
use Rattle.model.specs.Lists.{any_of}
use Rattle.model.specs.ReadingBytes.{got, refused, read_many}
use Rattle.model.specs.Job.{read_entry, read_path}
use Rattle.model.specs.Thin.{same_path}
use Rattle.job.specs.Head.{read_path_head, path_of}
use Rattle.job.specs.declared.PathHead.{PathHead}
use Rattle.job.proofs.Many.{many_first}
use Rattle.job.proofs.Passing.{not_both}
use Rattle.job.proofs.RecordParts.{PathParts, path_parts, paths_onward}
use Rattle.thin_bytes.specs.Thins.{SamePaths, PathBehind, Repeats}

-- A path that was read, by its head as it is read again.
module _ (s : List ℕ) (mark at : ℕ) {d : ReactiveScopeDependency} {next : ℕ} (read : read_path 4 mark s at ≡ got d next) where
  abbrev parts : PathParts s mark at d next
  parts = path_parts s mark at read

  pub head_there : {B : Type 0} {r : Refusal} → read_path_head s (at + 2) ≡ refused r → B
  head_there e = not_both parts.head_read e

  module _ {head : PathHead} {entries_at : ℕ} (again : read_path_head s (at + 2) ≡ got head entries_at) where
    head_is : parts.head ≡ head
    head_is = let e = sym parts.head_read ∙ again in cc

    pub entries_place : at + 12 ≡ entries_at
    entries_place = let e = sym parts.head_read ∙ again in cc

    pub entries_again : read_many head.entries (read_entry 4) s entries_at ≡ got d.path next
    entries_again =
        subst (λ (h : PathHead). read_many h.entries (read_entry 4) s entries_at ≡ got d.path next) head_is
        (subst (λ n. read_many parts.head.entries (read_entry 4) s n ≡ got d.path next) entries_place parts.entries_read)

    pub path_is : d ≡ path_of head d.path
    path_is = parts.same ∙ ap (λ (h : PathHead). path_of h d.path) head_is

    pub few_entries : head.entries ≤ 16
    few_entries = subst (λ (h : PathHead). h.entries ≤ 16) head_is parts.entries_few

    pub next_place : next ≡ entries_at + 14 * head.entries
    next_place = let e = parts.end in let h = ap (λ (h : PathHead). h.entries) head_is in let p = entries_place in omega arith

-- the earlier paths that are left are read from here on
pub record Looking (s : List ℕ) (first earlier at place left : ℕ) : Type 0 where
  pub on : (x : PathBehind s first earlier at) → (rest : List ReactiveScopeDependency) × (read_many left (read_path 4 x.mark) s place ≡ got rest at) ×
      (any_of (same_path x.path) x.before ≡ any_of (same_path x.path) rest)

pub looking : (s : List ℕ) (first earlier at : ℕ) → Looking s first earlier at first earlier
looking s first earlier at = record { on = λ x. (x.before, x.reads, refl) }

-- the path's own place
pub own_small : {s : List ℕ} {first earlier at : ℕ} → PathBehind s first earlier at → at + 12 ≤ 32768
own_small {s} {at = at} x = let p = path_parts s x.mark at x.read in let e = p.end in let short = x.short in omega arith

module _ {s : List ℕ} {first earlier at place left : ℕ} (l : Looking s first earlier at place left) where
  pub looking_end : left ≤ 0 → Repeats s first earlier at false
  looking_end none = record { is = λ x. sym (over x) }
    where
      over : (x : PathBehind s first earlier at) → any_of (same_path x.path) x.before ≡ false
      over x =
          let y = l.on x in
          let z : left ≡ 0 = omega arith in
          let nothing : got [] place ≡ got y.0 at = subst (λ k. read_many k (read_path 4 x.mark) s place ≡ got y.0 at) z y.1 in
          let no : [] ≡ y.0 = cc in
          y.2 ∙ ap (any_of (same_path x.path)) (sym no)

  module _ (some : 0 < left) where
    first_of : (x : PathBehind s first earlier at) → (d : ReactiveScopeDependency) × (next : ℕ) × (rest : List ReactiveScopeDependency) ×
        (read_path 4 x.mark s place ≡ got d next) × (read_many (left - 1) (read_path 4 x.mark) s next ≡ got rest at) × (d ∷ rest ≡ (l.on x).0)
    first_of x = many_first (read_path 4 x.mark) s left place some (l.on x).1

    pub place_small : PathBehind s first earlier at → place + 12 ≤ 32768
    place_small x =
        let f = first_of x in
        let p = path_parts s x.mark place f.3 in
        let here = p.end in
        let behind = paths_onward s x.mark (left - 1) f.1 f.4 in
        let own = own_small x in
        omega arith

    pub earlier_there : {B : Type 0} {r : Refusal} → PathBehind s first earlier at → read_path_head s (place + 2) ≡ refused r → B
    earlier_there x e = head_there s x.mark place (first_of x).3 e

    module _ {head : PathHead} {entries_at : ℕ} (read : read_path_head s (place + 2) ≡ got head entries_at) where
      pub entries_small : PathBehind s first earlier at → (entries_at ≤ 32768) × (head.entries ≤ 16)
      entries_small x =
          let p = entries_place s x.mark place (first_of x).3 read in
          let small = place_small x in
          (omega arith, few_entries s x.mark place (first_of x).3 read)

      module _ {own : PathHead} {own_at : ℕ} (own_read : read_path_head s (at + 2) ≡ got own own_at) {answer : Bool}
          (same : SamePaths s own own_at head entries_at answer) where
        -- the answer is whether the path equals the first of those that are left
        compared : (x : PathBehind s first earlier at) → answer ≡ same_path x.path (first_of x).0
        compared x =
            let f = first_of x in
            same.is x.path.path f.0.path x.next f.1 (entries_again s x.mark at x.read own_read)
            (entries_again s x.mark place f.3 read)
            ∙ ap (λ (p : ReactiveScopeDependency). same_path p (path_of head f.0.path)) (sym (path_is s x.mark at x.read own_read))
            ∙ ap (same_path x.path) (sym (path_is s x.mark place f.3 read))

        all_of_them : (x : PathBehind s first earlier at) → any_of (same_path x.path) x.before ≡ (answer || any_of (same_path x.path) (first_of x).2)
        all_of_them x =
            let f = first_of x in
            (l.on x).2 ∙ ap (any_of (same_path x.path)) (sym f.5) ∙ ap (λ b. b || any_of (same_path x.path) f.2) (sym (compared x))

        pub looking_found : answer ≡ true → Repeats s first earlier at true
        looking_found t = record { is = λ x. sym (all_of_them x ∙ ap (λ b. b || any_of (same_path x.path) (first_of x).2) t) }

        pub looking_more : answer ≡ false → Looking s first earlier at (entries_at + 14 * head.entries) (left - 1)
        looking_more t = record {
          on = λ x.
              let f = first_of x in (
                f.2,
                subst (λ n. read_many (left - 1) (read_path 4 x.mark) s n ≡ got f.2 at) (next_place s x.mark place f.3 read) f.4,
                all_of_them x ∙ ap (λ b. b || any_of (same_path x.path) f.2) t,
              );
        }

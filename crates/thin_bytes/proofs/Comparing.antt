-- Entries compared one by one: those that are left are equal where all are.
use Prim.Native.Nat.{ℕ, ◌-◌, ◌≤◌, ◌<◌}
use native.Mathlib.Omega.{arith}
use mathlib.Core.Path.{◌≡◌, refl, sym, ap, subst, ◌∙◌}
use mathlib.Core.Bool.{Bool, true, false, ◌&&◌}
use mathlib.Core.List.{List, [], ◌∷◌}
use Rattle.entries.specs.declared.DependencyPathEntry.{DependencyPathEntry}
use Rattle.entries.specs.declared.Refusal.{Refusal}
use Rattle.entries.specs.Path.{same_entry, are_equal_paths}
use Rattle.model.specs.ReadingBytes.{got, refused, read_many}
use Rattle.model.specs.Job.{read_entry}
use Rattle.job.proofs.Many.{many_first}
use Rattle.job.proofs.Passing.{not_both}
use Rattle.thin_bytes.specs.Thins.{SameEntries}

-- whatever entries the two places read to, those that are left are read from here on, and are equal
-- where all are
pub record Comparing (s : List ℕ) (a b count at other left : ℕ) : Type 0 where
  pub on : (es fs : List DependencyPathEntry) (m n : ℕ) → read_many count (read_entry 4) s a ≡ got es m → read_many count (read_entry 4) s b ≡ got fs n
      → (es' : List DependencyPathEntry) × (fs' : List DependencyPathEntry) × (read_many left (read_entry 4) s at ≡ got es' m) ×
      (read_many left (read_entry 4) s other ≡ got fs' n) × (are_equal_paths es fs ≡ are_equal_paths es' fs')

pub comparing : (s : List ℕ) (a b count : ℕ) → Comparing s a b count a b count
comparing s a b count = record { on = λ es fs m n r q. (es, fs, r, q, refl) }

module _ {s : List ℕ} {a b count at other left : ℕ} (x : Comparing s a b count at other left) where
  pub comparing_end : left ≤ 0 → SameEntries s a b count true
  comparing_end none = record {
    is = λ es fs m n r q.
        let z : left ≡ 0 = omega arith in
        let y = x.on es fs m n r q in
        let first : got [] at ≡ got y.0 m = subst (λ k. read_many k (read_entry 4) s at ≡ got y.0 m) z y.2 in
        let second : got [] other ≡ got y.1 n = subst (λ k. read_many k (read_entry 4) s other ≡ got y.1 n) z y.3 in
        let es-none : [] ≡ y.0 = cc in
        let fs-none : [] ≡ y.1 = cc in
        sym (y.4 ∙ ap (λ es. are_equal_paths es y.1) (sym es-none) ∙ ap (are_equal_paths []) (sym fs-none));
  }

  module _ (some : 0 < left) where
    -- an entry that was read is no refusal
    pub entry_there : {r : Refusal} {answer : Bool} → read_entry 4 s at ≡ refused r → SameEntries s a b count answer
    entry_there e = record { is = λ es fs m n r q. not_both (many_first (read_entry 4) s left at some (x.on es fs m n r q).2).3 e }

    pub other_there : {r : Refusal} {answer : Bool} → read_entry 4 s other ≡ refused r → SameEntries s a b count answer
    other_there e = record { is = λ es fs m n r q. not_both (many_first (read_entry 4) s left other some (x.on es fs m n r q).3).3 e }

    module _ {e f : DependencyPathEntry} {next next' : ℕ} (here : read_entry 4 s at ≡ got e next) (there : read_entry 4 s other ≡ got f next') where
      -- all are equal where these two are and the others are
      first_two : (es fs : List DependencyPathEntry) (m n : ℕ) → read_many count (read_entry 4) s a ≡ got es m
          → read_many count (read_entry 4) s b ≡ got fs n
          → (es' : List DependencyPathEntry) × (fs' : List DependencyPathEntry) × (read_many (left - 1) (read_entry 4) s next ≡ got es' m) ×
          (read_many (left - 1) (read_entry 4) s next' ≡ got fs' n) × (are_equal_paths es fs ≡ (same_entry e f && are_equal_paths es' fs'))
      first_two es fs m n r q =
          let y = x.on es fs m n r q in
          let u = many_first (read_entry 4) s left at some y.2 in
          let v = many_first (read_entry 4) s left other some y.3 in
          let same : got u.0 u.1 ≡ got e next = sym u.3 ∙ here in
          let same' : got v.0 v.1 ≡ got f next' = sym v.3 ∙ there in
          let e-is : u.0 ≡ e = cc in
          let f-is : v.0 ≡ f = cc in
          let next_is : u.1 ≡ next = cc in
          let next'-is : v.1 ≡ next' = cc in (
            u.2,
            v.2,
            subst (λ k. read_many (left - 1) (read_entry 4) s k ≡ got u.2 m) next_is u.4,
            subst (λ k. read_many (left - 1) (read_entry 4) s k ≡ got v.2 n) next'-is v.4,
            y.4 ∙ ap (λ es. are_equal_paths es y.1) (sym u.5) ∙ ap (are_equal_paths (u.0 ∷ u.2)) (sym v.5)
                ∙ ap (λ e. same_entry e v.0 && are_equal_paths u.2 v.2) e-is
                ∙ ap (λ f. same_entry e f && are_equal_paths u.2 v.2) f-is,
          )

      pub comparing_unlike : same_entry e f ≡ false → SameEntries s a b count false
      comparing_unlike d = record
          { is = λ es fs m n r q. let y = first_two es fs m n r q in sym (y.4 ∙ ap (λ t. t && are_equal_paths y.0 y.1) d) }

      pub comparing_more : same_entry e f ≡ true → Comparing s a b count next next' (left - 1)
      comparing_more d = record {
        on = λ es fs m n r q.
            let y = first_two es fs m n r q in
            (y.0, y.1, y.2, y.3, y.4 ∙ ap (λ t. t && are_equal_paths y.0 y.1) d);
      }

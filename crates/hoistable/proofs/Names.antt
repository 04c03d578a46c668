-- The candidate's entries in the bytes: all of them, and the next one.
use Prim.Native.Nat.{ℕ, ◌-◌, ◌≤◌}
use native.Mathlib.Omega.{arith}
use mathlib.Core.Path.{◌≡◌, refl, sym, ap, ◌∙◌}
use mathlib.Core.List.{List, [], ◌∷◌}
use lib.ListN.{drop}
use Rattle.entries.specs.declared.Refusal.{Refusal}
use Rattle.entries.specs.declared.DependencyPathEntry.{DependencyPathEntry}
use Rattle.model.specs.ReadingBytes.{got, refused, read_many}
use Rattle.model.specs.Job.{read_entry}
use Rattle.job.proofs.Many.{many_first}
use Rattle.hoistable.specs.Candidate.{entries_of, entries_at, Reads, AreRead, Candidate}
use Rattle.hoistable.specs.Agreement.{Follows}
use Rattle.std.specs.Prelude.{Some, None}

-- what a caller knows of a candidate that it has read
pub candidate_read : {count : ℕ} {s : List ℕ} {at next : ℕ} {es : List DependencyPathEntry} → count ≤ 16 → read_many count (read_entry 4) s at ≡ got es next
    → Candidate count s at × (entries_at count s at ≡ es)
unfolding entries_at
candidate_read {next} few read = let same = ap entries_of read in (record { few = few; reads = record { next = next; read = rw same read } }, same)

-- the entries that are read at a place are those at that place
pub reads_at : {count : ℕ} {s : List ℕ} {at : ℕ} {es : List DependencyPathEntry} → Reads count s at es → entries_at count s at ≡ es
unfolding entries_at
reads_at r = ap entries_of r.read

module _ {left : ℕ} {s : List ℕ} {at : ℕ} (r : AreRead left s at) where
  pub none_follows : left ≡ 0 → Follows (entries_at left s at) s left None
  none_follows e = (go (entries_at left s at) (sym (ap (λ n. read_many n (read_entry 4) s at) e) ∙ r.read), e)
    where
      go : (xs : List DependencyPathEntry) → got [] at ≡ got xs r.next → xs ≡ []
      go [] h = refl
      go (x ∷ xs) h = let z : ◌≡◌ {A = ℕ} 0 1 = cc in absurd (omega arith)

  module _ (some : ¬ (left ≡ 0)) where
    -- an entry is left, so it is not refused
    pub not_refused : {f : Refusal} → read_entry 4 s at ≡ refused f → ⊥
    not_refused e =
        let first = many_first (read_entry 4) s left at (omega (arith, some)) r.read in
        let here = first.3 in
        let z : ◌≡◌ {A = ℕ} 0 1 = cc in
        omega arith

    pub entry_follows : {e : DependencyPathEntry} {next : ℕ} → read_entry 4 s at ≡ got e next
        → Follows (entries_at left s at) s left (Some (e, record { at = next; left = left - 1 }))
    entry_follows {e} {next} read =
        let first = many_first (read_entry 4) s left at (omega (arith, some)) r.read in
        let here = first.3 in
        let same : first.0 ≡ e = cc in
        let place : first.1 ≡ next = cc in (
          sym first.5 ∙ (λ d. same d ∷ drop 1 (first.5 d)),
          record {
            next = r.next;
            read = ap (λ n. read_many (left - 1) (read_entry 4) s n) (sym place) ∙ first.4 ∙ ap
                (λ (xs : List DependencyPathEntry). got (drop 1 xs) r.next) first.5;
          },
          omega (arith, some),
        )

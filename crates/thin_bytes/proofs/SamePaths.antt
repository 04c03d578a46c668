-- Two paths by their heads and entries: other identifiers, other numbers of entries, or other
-- entries.
use Prim.Native.Nat.{ℕ, suc}
use native.Mathlib.Omega.{arith}
use mathlib.Core.Path.{◌≡◌, refl, sym, ap, ◌∙◌}
use mathlib.Core.Bool.{false, ◌&&◌, and-false}
use mathlib.Core.List.{List, [], ◌∷◌}
use lib.ListN.{length}
use lib.Dec.{eqb}
use Rattle.entries.specs.declared.DependencyPathEntry.{DependencyPathEntry}
use Rattle.entries.specs.Path.{same_entry, are_equal_paths}
use Rattle.model.specs.Tests.{eqb_apart}
use Rattle.model.specs.Job.{read_entry}
use Rattle.job.specs.declared.PathHead.{PathHead}
use Rattle.job.proofs.Many.{many_length}
use Rattle.thin_bytes.specs.Thins.{SamePaths}

-- lists of different lengths are not equal
unequal : (es fs : List DependencyPathEntry) → ¬ (length es ≡ length fs) → are_equal_paths es fs ≡ false
unequal [] [] h = absurd (h refl)
unequal [] (f ∷ fs) h = refl
unequal (e ∷ es) [] h = refl
unequal (e ∷ es) (f ∷ fs) h = ap (λ t. same_entry e f && t) (unequal es fs (λ l. h (ap suc l))) ∙ and-false (same_entry e f)

module _ (s : List ℕ) (a : PathHead) (a_at : ℕ) (b : PathHead) (b_at : ℕ) where
  pub other_identifier : ¬ (a.identifier.0 ≡ b.identifier.0) → SamePaths s a a_at b b_at false
  other_identifier h = record
      { is = λ es fs m n r q. sym (ap (λ t. t && are_equal_paths es fs) (eqb_apart a.identifier.0 b.identifier.0 h)) }

  pub other_count : ¬ (a.entries ≡ b.entries) → SamePaths s a a_at b b_at false
  other_count h = record {
    is = λ es fs m n r q.
        let first = many_length (read_entry 4) s a.entries a_at r in
        let second = many_length (read_entry 4) s b.entries b_at q in
        sym (ap (λ t. eqb a.identifier.0 b.identifier.0 && t) (unequal es fs (λ l. h (omega arith)))
        ∙ and-false (eqb a.identifier.0 b.identifier.0));
  }

-- Ids one after the other: four bytes each, so that their number says where they end.
use Prim.Native.Nat.{ℕ, zero, suc, ◌+◌, ◌*◌, ◌<◌, ◌≤◌}
use mathlib.Core.Path.{◌≡◌, refl}
use mathlib.Core.List.{List}
use native.Mathlib.Omega.{arith}
use native.Mathlib.Nat.{add-zero}
use borrow.Author.Tests.{leb-true, leb-false}
use lib.Dec.{leb}
use lib.ListN.{length}
use Rattle.entries.specs.declared.Refusal.TheVariants.{MissingByte}
use Rattle.model.specs.ReadingBytes.{got, refused, read_many}
use Rattle.model.specs.Job.{read_block_id}
use Rattle.model.specs.Tests.{decide}
use Rattle.fields.specs.Laws.{number_got, number_missing}
use Rattle.job.specs.Passing.{passed}
use Rattle.job.proofs.Passing.{passed_both, passed_mapped}

pub no_ids : (n : ℕ) (s : List ℕ) (at : ℕ) → n ≡ 0 → passed (read_many n read_block_id s at) ≡ got tt at
no_ids n s at e = rw e

pub ids_got : (n : ℕ) (s : List ℕ) (at : ℕ) → at + 4 * n ≤ length s → passed (read_many n read_block_id s at) ≡ got tt (at + 4 * n)
ids_got zero s at h = rw (add-zero at)
ids_got (suc n) s at h =
    let next : at + 4 + 4 * n ≡ at + 4 * suc n = omega arith in
    rw (passed_both, passed_mapped, number_got 4 s at (omega arith), ids_got n s (at + 4) (omega arith), next)

some_missing : (n : ℕ) (s : List ℕ) (at : ℕ) → length s < at + 4 * suc n → passed (read_many (suc n) read_block_id s at) ≡ refused MissingByte
some_missing zero s at h = rw (passed_both, passed_mapped, number_missing 3 s at (omega arith))
some_missing (suc n) s at h =
    decide (leb (at + 4) (length s))
    (λ t. rw (passed_both, passed_mapped, number_got 4 s at (leb-true (at + 4) (length s) t), some_missing n s (at + 4) (omega arith)))
    (λ t. rw (passed_both, passed_mapped, number_missing 3 s at (omega (arith, leb-false (at + 4) (length s) t))))

pub ids_missing : (n : ℕ) (s : List ℕ) (at : ℕ) → (n ≡ 0 → ⊥) → length s < at + 4 * n → passed (read_many n read_block_id s at) ≡ refused MissingByte
ids_missing zero s at some h = absurd (some refl)
ids_missing (suc n) s at some h = some_missing n s at h

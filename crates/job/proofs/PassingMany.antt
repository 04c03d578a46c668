-- Passing records one after the other: what a step of the loop says of the rest, and that what
-- passes each record passes as many as were to be read.
use Rattle.std.proofs.Common.{◌≡◌, ℕ, zero, suc, ◌+◌, ◌-◌, ◌<◌, List, Result, Ok, Err, refl, arith}
use Rattle.entries.specs.declared.Refusal.{Refusal}
use Rattle.model.specs.ReadingBytes.{ByteReader, read_many}
use Rattle.fields.specs.Answer.{got_place}
use Rattle.job.specs.Passing.{passed, GoesOn, PassesMany}
use Rattle.job.proofs.Passing.{passed_both}

-- a loop that counts up to n, and has passed i of them
module _ (past : ℕ → Result ℕ Refusal → Type 0) {n i at : ℕ} (more : i < n) where
  pub one_passed : {next : ℕ} (r : Result ℕ Refusal) → past at (Ok next) → PassesMany past (n - (i + 1)) next r → PassesMany past (n - i) at r
  one_passed {next} r p rest =
      let z : n - i ≡ suc (n - (i + 1)) = omega arith in
      rw z (Ok next, p, rest)

  pub none_passed : {e : Refusal} → past at (Err e) → PassesMany past (n - i) at (Err e)
  none_passed {e} p =
      let z : n - i ≡ suc (n - (i + 1)) = omega arith in
      rw z (Err e, p, refl)

module _ {A : Type 0} (read : ByteReader A) (s : List ℕ) (past : ℕ → Result ℕ Refusal → Type 0)
    (one : (at : ℕ) (r : Result ℕ Refusal) → past at r → got_place r ≡ passed (read s at)) where
  pub all_passed : (n at : ℕ) (r : Result ℕ Refusal) → PassesMany past n at r → got_place r ≡ passed (read_many n read s at)
  all_passed zero at r e = rw e
  all_passed (suc n) at r e = step (λ next. all_passed n next r) e.0 e.1 e.2
    where
      step : ((next : ℕ) → PassesMany past n next r → got_place r ≡ passed (read_many n read s next)) → (first : Result ℕ Refusal) → past at first
          → GoesOn first (λ next. PassesMany past n next r) (r ≡ first) → got_place r ≡ passed (read_many (suc n) read s at)
      step more (Ok next) p rest = rw (passed_both, ← one at (Ok next) p) (more next rest)
      step more (Err e) p stopped = rw (passed_both, ← one at (Err e) p, stopped)

-- The quarters of a word: one of them raised, the others stay.
use Prim.Native.Nat.{ℕ, zero, suc, ◌+◌, ◌*◌, ◌%◌, ◌^◌, ◌<◌}
use native.Mathlib.Omega.{arith}
use native.Mathlib.Nat.{zero-div, mod-eq_of_lt}
use mathlib.Core.Path.{◌≡◌, refl}
use mathlib.Core.Logic.{◌≢◌}
use Rattle.registry.specs.Words.{quarter}

pub no_quarter : (i : ℕ) → quarter 0 i ≡ 0
no_quarter i = rw (zero-div (2 ^ (i * 16)))

four : (P : ℕ → Type 0) → P 0 → P 1 → P 2 → P 3 → (i : ℕ) → i < 4 → P i
four P a b c d zero l = a
four P a b c d (suc zero) l = b
four P a b c d (suc (suc zero)) l = c
four P a b c d (suc (suc (suc zero))) l = d
four P a b c d (suc (suc (suc (suc i)))) l = absurd (omega arith)

-- d more in quarter i, which has room for it
module _ (w d : ℕ) where
  abbrev Room : ℕ → Type 0
  Room i = quarter w i + d < 65536

  abbrev more : ℕ → ℕ
  more i = w + d * 2 ^ (i * 16)

  pub raised : (i : ℕ) → i < 4 → Room i → quarter (more i) i ≡ quarter w i + d
  raised =
      four (λ i. Room i → quarter (more i) i ≡ quarter w i + d) (λ room. omega arith) (λ room. omega arith) (λ room. omega arith) (λ room. omega arith)

  pub word_fits : w < 2 ^ 64 → (i : ℕ) → i < 4 → Room i → more i < 2 ^ 64
  word_fits small =
      four (λ i. Room i → more i < 2 ^ 64) (λ room. omega arith) (λ room. omega arith) (λ room. omega arith) (λ room. omega arith)

  -- no bit of the rise is lost where it is moved to its quarter
  pub whole_rise : w < 2 ^ 64 → (i : ℕ) → i < 4 → Room i → d * 2 ^ (i * 16) % 2 ^ 64 ≡ d * 2 ^ (i * 16)
  whole_rise small i l room = let f = word_fits small i l room in mod-eq_of_lt (omega arith)

  abbrev Kept : ℕ → ℕ → Type 0
  Kept i j = j ≢ i → Room i → quarter (more i) j ≡ quarter w j

  pub others : (i : ℕ) → i < 4 → (j : ℕ) → j < 4 → Kept i j
  others =
      four (λ i. (j : ℕ) → j < 4 → Kept i j)
      (four (Kept 0) (λ apart room. absurd (apart refl)) (λ apart room. omega arith) (λ apart room. omega arith) (λ apart room. omega arith))
      (four (Kept 1) (λ apart room. omega arith) (λ apart room. absurd (apart refl)) (λ apart room. omega arith) (λ apart room. omega arith))
      (four (Kept 2) (λ apart room. omega arith) (λ apart room. omega arith) (λ apart room. absurd (apart refl)) (λ apart room. omega arith))
      (four (Kept 3) (λ apart room. omega arith) (λ apart room. omega arith) (λ apart room. omega arith) (λ apart room. absurd (apart refl)))

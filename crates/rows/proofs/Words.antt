-- The bits of a word: of what an operation makes, of a power of two, and below the lowest that is
-- set.
use Prim.Native.Nat.{ℕ, zero, suc, ◌+◌, ◌*◌, ◌/◌, ◌%◌, ◌^◌, ◌≤◌, ◌<◌, max, min}
use native.Mathlib.Omega.{arith}
use native.Mathlib.Nat.{pow-suc, pow-succ', div-one, zero-div, div-eq_of_lt, mul-mod_left, mul-div-mul_right, div-div-eq-div-mul, mod-lt}
use mathlib.Core.Bool.{Bool, true, false, ◌&&◌, ◌||◌, not, beq}
use mathlib.Core.Path.{◌≡◌, refl, sym, ◌∙◌, ap}
use lib.Bits.{bit_or, bit_and, bit_xor, differ, or_shr, or_step, and_shr, and_step, xor_shr, xor_step}
use lib.Count.{count_trailing_zeros, under}
use lib.Pow.{pow-lt, shr-shr}
use lib.Arith.{digits_mod}
use lib.Dec.{eqb, eqb-suc-zero, eqb-zero-suc, eqb-suc-suc}
use borrow.Author.Tests.{eqb-true}
use Rattle.rows.specs.Members.{bit}

abbrev digit : ℕ → ℕ → ℕ
digit w m = w / 2 ^ m % 2

digit_small : (w m : ℕ) → digit w m < 2
digit_small w m = mod-lt (w / 2 ^ m) (omega arith)

-- What holds of the digits 0 and 1 holds of each digit.
by_digit : (P : ℕ → Type 0) → P 0 → P 1 → (x : ℕ) → x < 2 → P x
by_digit P a b zero l = a
by_digit P a b (suc zero) l = b
by_digit P a b (suc (suc x)) l = let z : ⊥ = omega arith in elim z [ ]

-- An operation on words that goes digit by digit goes bit by bit.
module _ (op f : ℕ → ℕ → ℕ) (g : Bool → Bool → Bool)
    (shr : (a b m : ℕ) → op a b / 2 ^ m ≡ op (a / 2 ^ m) (b / 2 ^ m))
    (step : (a b : ℕ) → op a b ≡ op (a / 2) (b / 2) * 2 + f (a % 2) (b % 2))
    (small : (x y : ℕ) → x < 2 → y < 2 → f x y < 2)
    (agree : (x y : ℕ) → x < 2 → y < 2 → eqb (f x y) 1 ≡ g (eqb x 1) (eqb y 1)) where
  op_bit : (a b m : ℕ) → bit (op a b) m ≡ g (bit a m) (bit b m)
  op_bit a b m =
      let x = digit_small a m in
      let y = digit_small b m in
      ap (λ (n : ℕ). eqb (n % 2) 1) (shr a b m ∙ step (a / 2 ^ m) (b / 2 ^ m))
      ∙ ap (λ (n : ℕ). eqb n 1) (digits_mod (op (a / 2 ^ m / 2) (b / 2 ^ m / 2)) (small _ _ x y))
      ∙ agree (digit a m) (digit b m) x y

-- what is shown at the four pairs of digits
four : (P : ℕ → ℕ → Type 0) → P 0 0 → P 0 1 → P 1 0 → P 1 1 → (x y : ℕ) → x < 2 → y < 2 → P x y
four P a b c d x y l m = by_digit (λ n. P n y) (by_digit (P 0) a b y m) (by_digit (P 1) c d y m) x l

pub or_bit : (a b m : ℕ) → bit (bit_or a b) m ≡ bit a m || bit b m
or_bit = op_bit bit_or max (λ x y. x || y) or_shr or_step
    (four (λ x y. max x y < 2) (omega arith) (omega arith) (omega arith) (omega arith))
    (four (λ x y. eqb (max x y) 1 ≡ eqb x 1 || eqb y 1) refl refl refl refl)

pub and_bit : (a b m : ℕ) → bit (bit_and a b) m ≡ bit a m && bit b m
and_bit = op_bit bit_and min (λ x y. x && y) and_shr and_step
    (four (λ x y. min x y < 2) (omega arith) (omega arith) (omega arith) (omega arith))
    (four (λ x y. eqb (min x y) 1 ≡ eqb x 1 && eqb y 1) refl refl refl refl)

xor_bit : (a b m : ℕ) → bit (bit_xor a b) m ≡ not (beq (bit a m) (bit b m))
xor_bit = op_bit bit_xor differ (λ x y. not (beq x y)) xor_shr xor_step
    (four (λ x y. differ x y < 2) (omega arith) (omega arith) (omega arith) (omega arith))
    (four (λ x y. eqb (differ x y) 1 ≡ not (beq (eqb x 1) (eqb y 1))) refl refl refl refl)

-- the bits of one word that another has not: set in it first, then turned over
abbrev pub without : ℕ → ℕ → ℕ
without a b = bit_xor (bit_or a b) b

pub without_bit : (a b m : ℕ) → bit (without a b) m ≡ bit a m && not (bit b m)
without_bit a b m = xor_bit (bit_or a b) b m ∙ rw (or_bit a b m) (turned (bit a m) (bit b m))
  where
    turned : (x y : Bool) → not (beq (x || y) y) ≡ x && not y
    turned true true = refl
    turned true false = refl
    turned false true = refl
    turned false false = refl

pub power_bit : (m i : ℕ) → bit (2 ^ m) i ≡ eqb m i
power_bit zero zero = refl
power_bit zero (suc i) =
    let l : 2 ^ 0 < 2 ^ suc i = pow-lt {i = 0} {j = suc i} (omega arith) in
    rw (div-eq_of_lt l, eqb-zero-suc i)
power_bit (suc m) zero = rw (pow-suc 2 m, div-one (2 ^ m * 2), mul-mod_left (2 ^ m) 2, eqb-suc-zero m)
power_bit (suc m) (suc i) = rw (pow-suc 2 m, pow-suc 2 i, mul-div-mul_right {m = 2} (2 ^ m) (2 ^ i) (omega arith), eqb-suc-suc m i) (power_bit m i)

pub zero_bit : (m : ℕ) → bit 0 m ≡ false
zero_bit m = rw (zero-div (2 ^ m))

-- the bits of a word that is moved down
pub shifted_bit : (w i m : ℕ) → bit (w / 2 ^ i) m ≡ bit w (i + m)
shifted_bit w i m = ap (λ (x : ℕ). eqb (x % 2) 1) (shr-shr w i m)

half_digit : (w m : ℕ) → digit (w / 2) m ≡ digit w (suc m)
half_digit w m = ap (λ (x : ℕ). x % 2) (div-div-eq-div-mul w 2 (2 ^ m) ∙ ap (λ (x : ℕ). w / x) (sym (pow-succ' 2 m)))

low_digit : (w : ℕ) → digit w 0 ≡ w % 2
low_digit w = ap (λ (x : ℕ). x % 2) (div-one w)

-- equal bits of two digits are equal digits
digits_same : (x y : ℕ) → x < 2 → y < 2 → eqb x 1 ≡ eqb y 1 → x ≡ y
digits_same = four (λ x y. eqb x 1 ≡ eqb y 1 → x ≡ y) (λ e. refl) (λ e. eqb-true 0 1 e) (λ e. sym (eqb-true 0 1 (sym e))) (λ e. refl)

-- two words of k bits with the same bits are equal
pub words_same : (k w v : ℕ) → w < 2 ^ k → v < 2 ^ k → ((i : ℕ) → i < k → bit w i ≡ bit v i) → w ≡ v
words_same zero w v a b h = omega arith
words_same (suc k) w v a b h =
    let first : digit w 0 ≡ digit v 0 = digits_same (digit w 0) (digit v 0) (digit_small w 0) (digit_small v 0) (h 0 (omega arith)) in
    let low : w % 2 ≡ v % 2 = sym (low_digit w) ∙ first ∙ low_digit v in
    let a' : w < 2 ^ k * 2 = rw (pow-suc 2 k) at a in
    let b' : v < 2 ^ k * 2 = rw (pow-suc 2 k) at b in
    let high : w / 2 ≡ v / 2 = words_same k (w / 2) (v / 2) (omega arith) (omega arith)
    (λ i l. rw (half_digit w i, half_digit v i) (h (suc i) (omega arith))) in
    omega arith

-- no bit is set below the trailing zeros' end
pub trailing_none : (k w m : ℕ) → m < count_trailing_zeros k w → bit w m ≡ false
unfolding count_trailing_zeros
trailing_none zero w m l = let z : ⊥ = omega arith in elim z [ ]
trailing_none (suc k) w m l =
    by_digit (λ d. w % 2 ≡ d → m < under d (count_trailing_zeros k (w / 2)) → bit w m ≡ false)
    (λ e h. below m e h (λ i j. trailing_none k (w / 2) i j))
    (λ e h. let z : ⊥ = omega arith in elim z [ ])
    (w % 2) (mod-lt w (omega arith)) refl l
  where
    below : (m : ℕ) → w % 2 ≡ 0 → m < suc (count_trailing_zeros k (w / 2)) → ((i : ℕ) → i < count_trailing_zeros k (w / 2) → bit (w / 2) i ≡ false)
        → bit w m ≡ false
    below zero e h rest = rw (low_digit w, e)
    below (suc i) e h rest = rw (← half_digit w i) (rest i (omega arith))

-- and the bit there is set, if any of the first j is
pub trailing_set : (k j w : ℕ) → j ≤ k → w < 2 ^ j → 0 < w → (count_trailing_zeros k w < j) × (bit w (count_trailing_zeros k w) ≡ true)
unfolding count_trailing_zeros
trailing_set k zero w l a b = let z : ⊥ = omega arith in elim z [ ]
trailing_set zero (suc j) w l a b = let z : ⊥ = omega arith in elim z [ ]
trailing_set (suc k) (suc j) w l a b =
    by_digit (λ d. w % 2 ≡ d → (under d (count_trailing_zeros k (w / 2)) < suc j) × (bit w (under d (count_trailing_zeros k (w / 2))) ≡ true))
    (λ e. let a' : w < 2 ^ j * 2 = rw (pow-suc 2 j) at a in
    let rest = trailing_set k j (w / 2) (omega arith) (omega arith) (omega arith) in
    (omega arith, rw (← half_digit w (count_trailing_zeros k (w / 2))) rest.1))
    (λ e. (omega arith, rw (low_digit w, e))) (w % 2) (mod-lt w (omega arith)) refl

-- The bits of a word that is put together of bytes, one after the other, the first lowest.
use Prim.Native.Nat.{ℕ, zero, suc, ◌+◌, ◌*◌, ◌-◌, ◌/◌, ◌%◌, ◌^◌, ◌≤◌, ◌<◌}
use mir.Syntax.{w8, w64}
use mir.Val.{Fits}
use native.Mathlib.Omega.{arith}
use native.Mathlib.Decide.{dec_lt}
use native.Mathlib.Nat.{add-zero, add-mul-div_right, add-mul-mod_self_right, div-eq_of_lt, mul_assoc, mul-le-mul_right, pow-suc, zero-add}
use mathlib.Core.Path.{◌≡◌, refl, sym, ap, ap₂, ◌∙◌}
use mathlib.Core.List.{List, [], ◌∷◌}
use lib.Dec.{eqb}
use lib.ListN.{get_or}
use lib.Pow.{pow_pos, pow-add}
use Rattle.std.specs.Int.{byte_worth, sum_through, from_le_bytes}
use Rattle.rows.specs.Members.{bit}
use Rattle.rows.proofs.Words.{shifted_bit}
use Rattle.graph.specs.Bytes.{HoldsBits}

-- what is added above a word leaves the bits below as they are
below_bit : (w x k j : ℕ) → j < k → bit (w + x * 2 ^ k) j ≡ bit w j
below_bit w x k j l =
    let d = k - j - 1 in
    let e : k ≡ suc d + j = omega arith in
    let up : x * 2 ^ k ≡ x * 2 ^ d * 2 * 2 ^ j =
    ap (λ (n : ℕ). x * 2 ^ n) e ∙ rw (pow-add 2 (suc d) j, pow-suc 2 d, mul_assoc x (2 ^ d) 2, mul_assoc x (2 ^ d * 2) (2 ^ j)) in
    ap (λ (n : ℕ). eqb ((w + n) / 2 ^ j % 2) 1) up
    ∙ ap (λ (n : ℕ). eqb (n % 2) 1) (add-mul-div_right w (x * 2 ^ d * 2) (pow_pos j))
    ∙ ap (λ (n : ℕ). eqb n 1) (add-mul-mod_self_right (w / 2 ^ j) (x * 2 ^ d) 2)

-- and has its own from its new place on
above_bit : (w x k j : ℕ) → w < 2 ^ k → k ≤ j → bit (w + x * 2 ^ k) j ≡ bit x (j - k)
above_bit w x k j small l =
    let e : j ≡ k + (j - k) = omega arith in
    let up : (w + x * 2 ^ k) / 2 ^ k ≡ x = add-mul-div_right w x (pow_pos k) ∙ ap (λ (n : ℕ). n + x) (div-eq_of_lt small) ∙ zero-add x in
    ap (bit (w + x * 2 ^ k)) e ∙ sym (shifted_bit (w + x * 2 ^ k) k (j - k)) ∙ ap (λ (n : ℕ). bit n (j - k)) up

module _ (f : ℕ → ℕ) (small : (i : ℕ) → f i < 256) where
  -- the word w holds the first n bytes, and nothing above them
  record HoldsBytes (n w : ℕ) : Type 0 where
    held : (j : ℕ) → j < 8 * n → bit w j ≡ bit (f (j / 8)) (j % 8)
    room : w < 2 ^ (8 * n)

  next_byte : (n w : ℕ) → HoldsBytes n w → HoldsBytes (suc n) (w + f n * 2 ^ (8 * n))
  next_byte n w before = record { held = held; room = room }
    where
      held : (j : ℕ) → j < 8 * suc n → bit (w + f n * 2 ^ (8 * n)) j ≡ bit (f (j / 8)) (j % 8)
      held j h = elim (dec_lt j (8 * n)) [
        | yes low ↦ below_bit w (f n) (8 * n) j low ∙ before.held j low
        | no other ↦ (
            let p : n ≡ j / 8 = omega arith in
            let m : j - 8 * n ≡ j % 8 = omega arith in
            above_bit w (f n) (8 * n) j before.room (omega arith) ∙ ap₂ (λ (i k : ℕ). bit (f i) k) p m
            )
      ]

      room : w + f n * 2 ^ (8 * n) < 2 ^ (8 * suc n)
      room =
          let e : 8 * suc n ≡ 8 + 8 * n = omega arith in
          let s = small n in
          let le : f n ≤ 255 = omega arith in
          let b = before.room in
          rw (e, pow-add 2 8 (8 * n)) (omega (arith, mul-le-mul_right (2 ^ (8 * n)) le))

  pow_256 : (n : ℕ) → 256 ^ n ≡ 2 ^ (8 * n)
  pow_256 zero = refl
  pow_256 (suc n) =
      let e : 8 * suc n ≡ 8 * n + 8 = omega arith in
      pow-suc 256 n ∙ ap (λ (p : ℕ). p * 256) (pow_256 n) ∙ sym (pow-add 2 (8 * n) 8) ∙ ap (λ (k : ℕ). 2 ^ k) (sym e)

  put : (n : ℕ) → HoldsBytes (suc n) (sum_through (λ i. byte_worth i (f i)) n)
  put zero = record {
    held = λ j l. let p : 0 ≡ j / 8 = omega arith in let m : j ≡ j % 8 = omega arith in ap₂ (λ (i k : ℕ). bit (f i) k) p m;
    room = small 0;
  }
  put (suc n) = rw (pow_256 (suc n)) (next_byte (suc n) _ (put n))

-- eight bytes are the bits of 64 ranks
module _ (g : List ℕ) (b half w : ℕ) (small : (i : ℕ) → Fits w8 (get_or g i 0)) where
  abbrev at : ℕ
  at = 257 + b * 16 + half * 8

  pub all_bytes : w ≡ from_le_bytes w64 (get_or g at 0 ∷ get_or g (at + 1) 0 ∷ get_or g (at + 2) 0 ∷ get_or g (at + 3) 0
      ∷ get_or g (at + 4) 0 ∷ get_or g (at + 5) 0 ∷ get_or g (at + 6) 0 ∷ get_or g (at + 7) 0 ∷ []) → HoldsBits g b half w
  all_bytes e j l =
      let p : at + j / 8 ≡ 257 + b * 16 + (half * 64 + j) / 8 = omega arith in
      let m : j % 8 ≡ (half * 64 + j) % 8 = omega arith in
      let sum : w ≡ sum_through (λ i. byte_worth i (get_or g (at + i) 0)) 7 = rw (add-zero at) e in
      ap (λ (v : ℕ). bit v j) sum ∙ (put (λ i. get_or g (at + i) 0) (λ i. (small (at + i)).fits) 7).held j l ∙ ap₂ (λ (i k : ℕ). bit (get_or g i 0) k) p m

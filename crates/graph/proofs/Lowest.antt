-- The lowest set bit of a word from a place on, by the word moved down to that place.
use Prim.Native.Nat.{ℕ, ◌+◌, ◌-◌, ◌/◌, ◌^◌, ◌≤◌, ◌<◌}
use native.Mathlib.Omega.{arith}
use mathlib.Core.Path.{◌≡◌, sym, ap, ◌∙◌}
use lib.Count.{count_trailing_zeros}
use lib.Pow.{shr_lt}
use Rattle.rows.specs.Members.{bit}
use Rattle.rows.proofs.Words.{zero_bit, shifted_bit, trailing_none, trailing_set}
use Rattle.graph.specs.Bytes.{NoneBelow, LowestAt}

module _ (w m : ℕ) (small : m < 64) where
  moved : (j : ℕ) → m ≤ j → bit w j ≡ bit (w / 2 ^ m) (j - m)
  moved j h = ap (bit w) (omega arith) ∙ sym (shifted_bit w m (j - m))

  pub none_left : w / 2 ^ m ≡ 0 → NoneBelow w m 64
  none_left e j h l = moved j h ∙ rw e (zero_bit (j - m))

  pub some_left : w < 2 ^ 64 → 0 < w / 2 ^ m → LowestAt w m (m + count_trailing_zeros 64 (w / 2 ^ m))
  some_left fits some =
      let e : 64 - m + m ≡ 64 = omega arith in
      let t = trailing_set 64 (64 - m) (w / 2 ^ m) (omega arith) (shr_lt (64 - m) m (rw e fits)) some in
      let l = t.0 in
      record {
        above = omega arith;
        within = omega arith;
        none = λ j h less. moved j h ∙ trailing_none 64 (w / 2 ^ m) (j - m) (omega arith);
        found = sym (shifted_bit w m (count_trailing_zeros 64 (w / 2 ^ m))) ∙ t.1;
      }

-- Bytes with another count among them: each of the three parts has its room behind the one before.
use Prim.Native.Nat.{ℕ, ◌+◌, ◌-◌}
use native.Mathlib.Omega.{arith}
use mathlib.Core.Path.{◌≡◌, refl, sym}
use mathlib.Core.List.{List, ◌++◌}
use lib.ListN.{length, take, drop, length-append}
use lib.Seq.{slice, length-slice}
use Rattle.model.specs.Answer.{number_bytes}
use Rattle.writer.specs.declared.Writer.{Writer}
use Rattle.writer.specs.Writes.{Puts}
use Rattle.writer.proofs.Bytes.{number_length, puts_then, puts_to, puts_as, puts_own}
use Rattle.thin_bytes.specs.Thins.{Recountable, recounted}
use Rattle.thin_bytes.proofs.Copied.{slice_take}

module _ {s : List ℕ} {from count_at bytes until : ℕ} {w : Writer} (x : Recountable s from count_at bytes until w) where
  -- as many bytes as there were
  pub recounted_length : (count : ℕ) → length (recounted s from count_at bytes count until) ≡ until - from
  recounted_length count =
      let begins = x.begins in
      let ends = x.ends in
      let within = x.within in
      let front = slice from count_at s in
      let back = slice (count_at + bytes) until s in
      omega (
        arith,
        length-append (front ++ number_bytes bytes count) back,
        length-append front (number_bytes bytes count),
        length-slice from count_at s (omega arith),
        number_length bytes count,
        length-slice (count_at + bytes) until s (omega arith),
      )

  pub all_put : {b c d : Writer} {l m n : ℕ} (count : ℕ) → Puts w b l (take (count_at - from) (drop from s)) → Puts b c m (number_bytes bytes count)
      → Puts c d n (take (until - (count_at + bytes)) (drop (count_at + bytes) s)) → Puts w d (until - from) (recounted s from count_at bytes count until)
  all_put count first second third =
      let all = puts_then (puts_then (puts_as (sym (slice_take from count_at s)) first) second)
      (puts_as (sym (slice_take (count_at + bytes) until s)) third) in
      let own = puts_own all in
      puts_to (recounted_length count) refl own

-- The definitions of marks, ranges, starts of ranges and flags, one step open: what they read first
-- stays shut.
use Prim.Native.Nat.{ℕ}
use mathlib.Core.Path.{◌≡◌, refl}
use mathlib.Core.Bool.{◌&&◌, cond}
use mathlib.Core.List.{List}
use lib.Dec.{eqb, leb}
use Rattle.entries.specs.declared.Refusal.TheVariants.{WrongMark, OutOfRange, LargestStart}
use Rattle.model.specs.ReadingBytes.{got, refused, ByteReader, and_then, mapped, read_number, read_mark, read_within, read_flag}
use Rattle.model.specs.Job.{largest_start, read_range_start}

pub mark_fields : (mark : ℕ) (s : List ℕ) (at : ℕ)
    → read_mark mark s at ≡ and_then (read_number 2 s at) (λ found next. cond (eqb found mark) (got tt next) (refused WrongMark))
unfolding read_mark
mark_fields mark s at = refl

pub within_fields : (least most : ℕ) (read : ByteReader ℕ) (s : List ℕ) (at : ℕ)
    → read_within least most read s at ≡ and_then (read s at) (λ found next. cond (leb least found && leb found most) (got found next) (refused OutOfRange))
unfolding read_within
within_fields least most read s at = refl

pub flag_fields : (s : List ℕ) (at : ℕ) → read_flag s at ≡ mapped (λ x. eqb x 1) (read_within 0 1 (read_number 1) s at)
unfolding read_flag
flag_fields s at = refl

pub start_fields : (s : List ℕ) (at : ℕ)
    → read_range_start s at ≡ and_then (read_number 4 s at) (λ found next. cond (eqb found largest_start) (refused LargestStart) (got found next))
unfolding read_range_start
start_fields s at = refl

-- Why a number of any width is what its bytes make: what an `impl Number` shows of its type.
use Rattle.std.specs.Prelude.{ℕ, zero, suc, ◌+◌, ◌*◌, ◌≡◌, ◌&&◌, cond, List, Some, length, get_or, refl, leb, ltb}
use Rattle.std.proofs.Common.{arith, add-zero}
use Rattle.std.proofs.lemmas.Bool.{lt-ltb, le-ltb, ltb-true, ltb-false, leb-true, leb-false}
use Rattle.std.specs.Ordering.{nat_cmp, partial_le}
use Rattle.std.specs.Cmp.{nat_cmp_is}
use Rattle.std.specs.declared.cmp.Ordering.TheVariants.{Less, Equal, Greater}
use Rattle.entries.specs.declared.Refusal.TheVariants.{OutOfRange}
use Rattle.model.specs.ReadingBytes.{Read, got, refused, ByteReader, and_then, read_number, read_within}
use Rattle.model.specs.Tests.{decide}
use Rattle.fields.specs.Number.{number_at, ReadsAll, RefusesShort, ReadsWithin}

-- the bytes are there: the number is the one that they make
pub number_got : (bytes : ℕ) → ReadsAll bytes (number_at bytes) (read_number bytes)
unfolding read_number number_at
number_got zero s at h = rw (add-zero at)
number_got (suc bytes) s at h =
    let next : at + 1 + bytes ≡ at + suc bytes = omega arith in
    rw (lt-ltb at (length s) (omega arith), number_got bytes s (at + 1) (omega arith), next)

-- a byte of them is missing: refused, at whichever byte
pub number_missing : (bytes : ℕ) → RefusesShort (suc bytes) (read_number (suc bytes))
unfolding read_number
number_missing zero s at h = rw (le-ltb at (length s) (omega arith))
number_missing (suc bytes) s at h =
    decide (ltb at (length s))
    (λ t. rw (t, number_missing bytes s (at + 1) (omega arith)))
    (λ t. rw t)

-- the bytes of a number one after the other
number_none : (s : List ℕ) (at : ℕ) → number_at 0 s at ≡ 0
unfolding number_at
number_none s at = refl

number_first : (bytes : ℕ) (s : List ℕ) (at : ℕ) → number_at (suc bytes) s at ≡ get_or s at 0 + 256 * number_at bytes s (at + 1)
unfolding number_at
number_first bytes s at = refl

number_later : (bytes : ℕ) (s : List ℕ) (at k : ℕ)
    → number_at (suc bytes) s (at + k) ≡ get_or s (at + k) 0 + 256 * number_at bytes s (at + suc k)
number_later bytes s at k =
    let next : at + k + 1 ≡ at + suc k = omega arith in
    rw (number_first, next)

pub one_byte : (s : List ℕ) (at : ℕ) → number_at 1 s at ≡ get_or s at 0
one_byte s at = omega (arith, number_first 0 s at, number_none s (at + 1))

pub two_bytes : (s : List ℕ) (at : ℕ) → number_at 2 s at ≡ get_or s at 0 + 256 * get_or s (at + 1) 0
two_bytes s at = omega (arith, number_first 1 s at, number_later 0 s at 1, number_none s (at + 2))

pub four_bytes : (s : List ℕ) (at : ℕ)
    → number_at 4 s at ≡
    get_or s at 0 + 256 * get_or s (at + 1) 0 + 65536 * get_or s (at + 2) 0 + 16777216 * get_or s (at + 3) 0
four_bytes s at = omega (
  arith,
  number_first 3 s at,
  number_later 2 s at 1,
  number_later 1 s at 2,
  number_later 0 s at 3,
  number_none s (at + 4),
)

pub eight_bytes : (s : List ℕ) (at : ℕ)
    → number_at 8 s at ≡
    get_or s at 0 + 256 * get_or s (at + 1) 0 + 65536 * get_or s (at + 2) 0 + 16777216 * get_or s (at + 3) 0
    + 4294967296 * get_or s (at + 4) 0 + 1099511627776 * get_or s (at + 5) 0
    + 281474976710656 * get_or s (at + 6) 0 + 72057594037927936 * get_or s (at + 7) 0
eight_bytes s at = omega (
  arith,
  number_first 7 s at,
  number_later 6 s at 1,
  number_later 5 s at 2,
  number_later 4 s at 3,
  number_later 3 s at 4,
  number_later 2 s at 5,
  number_later 1 s at 6,
  number_later 0 s at 7,
  number_none s (at + 8),
)

-- a number is at most another where the comparison of the two says so
le_cmp : (a b : ℕ) → partial_le (λ x y. Some (nat_cmp x y)) a b ≡ leb a b
le_cmp a b = decide (leb a b)
    (λ t. decide (ltb a b)
    (λ u. rw (t, ← nat_cmp_is a b Less (ltb-true a b u)) refl)
    (λ u. let e : a ≡ b = omega (arith, leb-true a b t, ltb-false a b u) in rw (t, ← nat_cmp_is a b Equal e) refl))
    (λ t. rw (t, ← nat_cmp_is a b Greater (leb-false a b t)) refl)

-- the number is read first, and then compared with both ends
pub number_within : (read : ByteReader ℕ) → ReadsWithin (λ x y. Some (nat_cmp x y)) read (λ least most. read_within least most read)
unfolding read_within
number_within read least most s at = chosen (read s at)
  where
    chosen : (x : Read ℕ) → and_then x (λ found next. cond (leb least found && leb found most) (got found next) (refused OutOfRange))
        ≡ and_then x (λ found next.
        cond (partial_le (λ x y. Some (nat_cmp x y)) least found && partial_le (λ x y. Some (nat_cmp x y)) found most) (got found next)
        (refused OutOfRange))
    chosen (got x n) = rw (le_cmp least x, le_cmp x most)
    chosen (refused r) = refl

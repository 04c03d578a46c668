-- The number that the bytes from a place on make, lowest first, and what a type of numbers says of
-- its fields.
use Rattle.std.specs.Prelude.{ℕ, zero, suc, ◌+◌, ◌*◌, ◌≤◌, ◌<◌, ◌≡◌, ◌&&◌, cond, List, Option, length, get_or}
use Rattle.std.specs.Ordering.{partial_le}
use Rattle.std.specs.declared.cmp.Ordering.{Ordering}
use Rattle.entries.specs.declared.Refusal.TheVariants.{MissingByte, OutOfRange}
use Rattle.model.specs.ReadingBytes.{got, refused, ByteReader, and_then}

-- "Numbers are unsigned, lowest byte first": the number that so many bytes from a place on make.
unfoldable pub number_at : ℕ → List ℕ → ℕ → ℕ
number_at zero s at = 0
number_at (suc bytes) s at = get_or s at 0 + 256 * number_at bytes s (at + 1)

-- A field of so many bytes, where each is there, is what they make.
abbrev pub ReadsAll : {A : Type 0} → ℕ → (List ℕ → ℕ → A) → ByteReader A → Type 0
ReadsAll bytes made read = (s : List ℕ) (at : ℕ) → at + bytes ≤ length s → read s at ≡ got (made s at) (at + bytes)

-- And where one is missing, it is refused for that.
abbrev pub RefusesShort : {A : Type 0} → ℕ → ByteReader A → Type 0
RefusesShort bytes read = (s : List ℕ) (at : ℕ) → length s < at + bytes → read s at ≡ refused MissingByte

-- A field within a range is read first, and then compared.
abbrev pub ReadsWithin : {A : Type 0} → (A → A → Option Ordering) → ByteReader A → (A → A → ByteReader A) → Type 0
ReadsWithin {A} order read within =
    (least most : A) (s : List ℕ) (at : ℕ) → within least most s at ≡ and_then (read s at) (λ found next.
    cond (partial_le order least found && partial_le order found most) (got found next) (refused OutOfRange))

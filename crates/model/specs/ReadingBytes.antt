-- Reading bytes: a value and the place after it, or a refusal. The order of the text is the order
-- of reading, and the first refusal met counts.
use Rattle.std.specs.Prelude.{ℕ, zero, suc, ◌+◌, ◌*◌, Bool, ◌&&◌, cond, List, [], ◌∷◌, length, get_or, eqb, leb, ltb}
use Rattle.entries.specs.declared.Refusal.{Refusal}
use Rattle.entries.specs.declared.Refusal.TheVariants.{MissingByte, WrongMark, OutOfRange}

-- "Each record is read as a value and the place after it, or a refusal."
pub data Read (A : Type 0) : Type 0 where
  got : A → ℕ → Read A
  refused : Refusal → Read A

-- a reader looks at the bytes from a place on
abbrev pub ByteReader : Type 0 → Type 0
ByteReader A = List ℕ → ℕ → Read A

-- the next reading goes on from the place after the value; a refusal stays
abbrev pub and_then : {A B : Type 0} → Read A → (A → ℕ → Read B) → Read B
and_then (got a next) rest = rest a next
and_then (refused r) rest = refused r

-- A value made of the value read; a refusal stays.
abbrev pub mapped : {A B : Type 0} → (A → B) → Read A → Read B
mapped f (got a next) = got (f a) next
mapped f (refused r) = refused r

-- a value made of two that stand one after the other
abbrev pub both : {A B C : Type 0} → (A → B → C) → Read A → (ℕ → Read B) → Read C
both f x rest = and_then x (λ a next. mapped (f a) (rest next))

-- n values of one form, one after the other
abbrev pub read_many : {A : Type 0} → ℕ → ByteReader A → ByteReader (List A)
read_many zero read s at = got [] at
read_many (suc n) read s at = both (λ first rest. first ∷ rest) (read s at) (read_many n read s)

-- 3: "A field needs a byte past the job's end."
unfoldable pub read_byte : ByteReader ℕ
read_byte s at = cond (ltb at (length s)) (got (get_or s at 0) (at + 1)) (refused MissingByte)

-- "Numbers are unsigned, lowest byte first": a number of so many bytes.
unfoldable pub read_number : ℕ → ByteReader ℕ
unfolding read_byte
read_number zero s at = got 0 at
read_number (suc bytes) s at = both (λ low high. low + 256 * high) (read_byte s at) (read_number bytes s)

-- A field "u8".
abbrev pub read_u8 : ByteReader ℕ
read_u8 = read_number 1

-- A field "u16".
abbrev pub read_u16 : ByteReader ℕ
read_u16 = read_number 2

-- A field "u32".
abbrev pub read_u32 : ByteReader ℕ
read_u32 = read_number 4

-- A field "u64".
abbrev pub read_u64 : ByteReader ℕ
read_u64 = read_number 8

-- 4: "A mark is not the one due." A mark is the number that its two bytes make, lowest first.
unfoldable pub read_mark : ℕ → ByteReader Unit
unfolding read_number
read_mark mark s at = and_then (read_u16 s at) (λ found next. cond (eqb found mark) (got tt next) (refused WrongMark))

-- 5: "A field lies outside its range." Length before value: the field is read first.
unfoldable pub read_within : ℕ → ℕ → ByteReader ℕ → ByteReader ℕ
read_within least most read s at = and_then (read s at)
    (λ found next. cond (leb least found && leb found most) (got found next) (refused OutOfRange))

-- a byte that is 0 or 1
unfoldable pub read_flag : ByteReader Bool
unfolding read_within read_number
read_flag s at = mapped (λ x. eqb x 1) (read_within 0 1 read_u8 s at)

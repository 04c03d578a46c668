-- Examples of reading a path, in the notation of `Examples`, proved by computation.
use Rattle.std.specs.Prelude.{ℕ, ◌≡◌, refl, false, cond, List, [], ◌∷◌, eqb}
use Rattle.entries.specs.declared.DependencyPathEntry.{DependencyPathEntry}
use Rattle.entries.specs.Property.{value_of}
use Rattle.model.specs.ReadingPaths.{Value, null, undefined, value, Store, Completion, throws, reads_to, read}
use Rattle.model.specs.Examples.{plain, optional, path_of}

-- null for the first number, undefined for the second, a value for any other
abbrev value_for : ℕ → ℕ → ℕ → Value ℕ
value_for for_null for_undefined n = cond (eqb n for_null) null (cond (eqb n for_undefined) undefined (value n))

-- Identifier 1 is null and 2 undefined; of each value, property 10 is null and 11 undefined.
abbrev store : Store ℕ
store = record { of_identifier = λ i. value_for 1 2 i.0; of_property = λ x p. value_for 10 11 (value_of p) }

-- a path of an identifier, read in this store
abbrev reading : ℕ → List DependencyPathEntry → Completion ℕ
reading i es = read store (path_of i false 0 es)

-- 1.12 and 2.12: "a plain entry throws" at null and at undefined.
pub plain_at_nullish : (reading 1 (plain 12 ∷ []) ≡ throws) × (reading 2 (plain 12 ∷ []) ≡ throws)
plain_at_nullish = (refl, refl)

-- 1?.12 and 2?.12: "an optional one ends the whole chain with undefined", at null too.
pub optional_at_nullish : (reading 1 (optional 12 ∷ []) ≡ reads_to undefined) × (reading 2 (optional 12 ∷ []) ≡ reads_to undefined)
optional_at_nullish = (refl, refl)

-- 3.10?.12.13 ends in the middle, and .13 is not read; 3?.10.12 throws there, since `?.` looks at
-- its own base alone.
pub middle_of_a_chain :
    (reading 3 (plain 10 ∷ optional 12 ∷ plain 13 ∷ []) ≡ reads_to undefined) × (reading 3 (optional 10 ∷ plain 12 ∷ []) ≡ throws)
middle_of_a_chain = (refl, refl)

-- 3.10, 3.11 and 3.12 read "to the value reached last": null, undefined, and a value.
pub null_is_not_undefined :
    (reading 3 (plain 10 ∷ []) ≡ reads_to null) × (reading 3 (plain 11 ∷ []) ≡ reads_to undefined)
    × (reading 3 (plain 12 ∷ []) ≡ reads_to (value 12))
null_is_not_undefined = (refl, refl, refl)

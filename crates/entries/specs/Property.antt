-- A property's kind and value, and back. Document 01, "The job (added)": "kind u8 (0 name, 1
-- number), value u64".
use Rattle.std.specs.Prelude.{ℕ, ◌≡◌, refl, Bool, true, false}
use Rattle.entries.specs.declared.PropertyLiteral.{PropertyLiteral}
use Rattle.entries.specs.declared.PropertyLiteral.TheVariants.{String, Number}

-- "Kind u8 (0 name, 1 number), value u64": the property of a kind and a value.
abbrev pub property_of : Bool → ℕ → PropertyLiteral
property_of false value = String value
property_of true value = Number value

-- The kind: 1, a number, or 0, a name.
abbrev pub is_number : PropertyLiteral → Bool
is_number (String v) = false
is_number (Number v) = true

-- The value: "the host's number for that string" or "the stored u64 of `FloatValue`".
abbrev pub value_of : PropertyLiteral → ℕ
value_of (String v) = v
value_of (Number v) = v

-- Its kind and its value make the property.
pub property_back : (p : PropertyLiteral) → property_of (is_number p) (value_of p) ≡ p
property_back (String v) = refl
property_back (Number v) = refl

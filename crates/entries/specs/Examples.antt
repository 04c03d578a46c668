-- Numbers are compared by their 64 bits, and a name is no number; lists of entries by length,
-- properties and optional marks, and not by spans; prefixes by identifier and properties alone.
use Rattle.std.specs.Prelude.{◌≡◌, refl, ℕ, Bool, true, false, List, [], ◌∷◌}
use Rattle.entries.specs.declared.PropertyLiteral.TheVariants.{String, Number}
use Rattle.entries.specs.declared.PropertyLiteral.{PropertyLiteral}
use Rattle.entries.specs.declared.DependencyPathEntry.{DependencyPathEntry}
use Rattle.entries.specs.Path.{same_property, are_equal_paths, ReactiveScopeDependency, prefix_of}

-- "So +0 and −0 differ"
pub zeros_differ : same_property (Number 0) (Number 0x8000000000000000) ≡ false
zeros_differ = refl

-- as a float a NaN is not even equal to itself
pub nan_equal : same_property (Number 0x7ff8000000000000) (Number 0x7ff8000000000000) ≡ true
nan_equal = refl

-- "Equal when kind and .. value are equal"
pub kinds_differ : same_property (String 5) (Number 5) ≡ false
kinds_differ = refl

-- "Two lists of entries are equal when their lengths agree and property and optional .. ": an entry
-- with its optional mark and span
abbrev entry : PropertyLiteral → Bool → ℕ → DependencyPathEntry
entry property optional span = record { property = property; optional = optional; span = span }

pub spans_do_not_count : are_equal_paths (entry (String 5) true 7 ∷ entry (Number 0) false 8 ∷ [])
    (entry (String 5) true 0 ∷ entry (Number 0) false 9 ∷ []) ≡ true
spans_do_not_count = refl

pub optional_counts : are_equal_paths (entry (String 5) true 7 ∷ []) (entry (String 5) false 7 ∷ []) ≡ false
optional_counts = refl

pub zeros_differ_in_a_path : are_equal_paths (entry (Number 0) false 7 ∷ []) (entry (Number 0x8000000000000000) false 7 ∷ []) ≡ false
zeros_differ_in_a_path = refl

pub longer_differs : are_equal_paths [] (entry (String 5) true 7 ∷ []) ≡ false
longer_differs = refl

pub shorter_differs : are_equal_paths (entry (String 5) true 7 ∷ []) [] ≡ false
shorter_differs = refl

-- Prefixes of the path 1.10?.11.

-- `.v` and `?.v`, with different spans
abbrev plain : ℕ → DependencyPathEntry
plain v = entry (String v) false 7

abbrev optional : ℕ → DependencyPathEntry
optional v = entry (String v) true 8

abbrev path_of : ℕ → Bool → ℕ → List DependencyPathEntry → ReactiveScopeDependency
path_of identifier reactive span entries =
    record { identifier = record { 0 = identifier }; reactive = reactive; path = entries; span = span }

-- the first path's reactive mark and span are not the other's
abbrev is_prefix : ℕ → List DependencyPathEntry → Bool
is_prefix i es = prefix_of (path_of i false 0 es) (path_of 1 true 1 (plain 10 ∷ optional 11 ∷ []))

-- 1 and 1.10?.11: "the empty and the whole list are prefixes too".
pub empty_and_whole : (is_prefix 1 [] ≡ true) × (is_prefix 1 (plain 10 ∷ optional 11 ∷ []) ≡ true)
empty_and_whole = (refl, refl)

-- 1?.10.11, with other spans: "optional marks and spans don't count".
pub marks_do_not_count : is_prefix 1 (optional 10 ∷ plain 11 ∷ []) ≡ true
marks_do_not_count = refl

-- 1.10?.11.12 and 1.11: "no more entries than the other", and equal "at each of its places".
pub longer_or_other : (is_prefix 1 (plain 10 ∷ optional 11 ∷ plain 12 ∷ []) ≡ false) × (is_prefix 1 (plain 11 ∷ []) ≡ false)
longer_or_other = (refl, refl)

-- 2.10, of another identifier, and 1[10], a number whose value is that of the name.
pub identifier_and_kind_count : (is_prefix 2 (plain 10 ∷ []) ≡ false) × (is_prefix 1 (entry (Number 10) false 7 ∷ []) ≡ false)
identifier_and_kind_count = (refl, refl)

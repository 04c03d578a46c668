-- Document 01, module 1 (Entries): properties, lists of entries, prefixes of property names.
use Rattle.std.specs.Prelude.{ℕ, Bool, true, false, ◌&&◌, List, [], ◌∷◌, eqb}
use Rattle.std.specs.Bool.{beq}
use Rattle.entries.specs.declared.IdentifierId.{IdentifierId}
use Rattle.entries.specs.declared.PropertyLiteral.{PropertyLiteral}
use Rattle.entries.specs.declared.PropertyLiteral.TheVariants.{String, Number}
use Rattle.entries.specs.declared.DependencyPathEntry.{DependencyPathEntry}

-- "Properties are equal when kind and 64-bit value are equal, so +0 and −0 differ."
abbrev pub same_property : PropertyLiteral → PropertyLiteral → Bool
same_property (String a) (String b) = eqb a b
same_property (String a) (Number b) = false
same_property (Number a) (String b) = false
same_property (Number a) (Number b) = eqb a b

-- property and optional agree; the span does not count
abbrev pub same_entry : DependencyPathEntry → DependencyPathEntry → Bool
same_entry a b = same_property a.property b.property && beq a.optional b.optional

-- "Two lists of entries are equal when their lengths agree and property and optional agree at each
-- place; spans don't count (`are_equal_paths`)."
abbrev pub are_equal_paths : List DependencyPathEntry → List DependencyPathEntry → Bool
are_equal_paths [] [] = true
are_equal_paths [] (b ∷ bs) = false
are_equal_paths (a ∷ as') [] = false
are_equal_paths (a ∷ as') (b ∷ bs) = same_entry a b && are_equal_paths as' bs

-- "A path has a prefix of another's property names when it has no more entries than the other and
-- their properties, numbers included, are equal at each of its places; optional marks and spans
-- don't count, and the empty and the whole list are prefixes too."
abbrev pub prefix_of_names : List DependencyPathEntry → List DependencyPathEntry → Bool
prefix_of_names [] es = true
prefix_of_names (d ∷ ds) [] = false
prefix_of_names (d ∷ ds) (e ∷ es) = same_property d.property e.property && prefix_of_names ds es

-- A path: an identifier, whether it is reactive, its entries and its span
-- (`ReactiveScopeDependency` of the Rust). Spans are numbers of any size here and in all that
-- follows; only reading and writing bytes know a width.
pub record ReactiveScopeDependency : Type 0 where
  pub identifier : IdentifierId
  pub reactive : Bool
  pub path : List DependencyPathEntry
  pub span : ℕ

-- the first path has the second's identifier and a prefix of its property names
abbrev pub prefix_of : ReactiveScopeDependency → ReactiveScopeDependency → Bool
prefix_of d c = eqb d.identifier.0 c.identifier.0 && prefix_of_names d.path c.path

-- Document 01, "Reading a path", from ECMA-262: property accessors (13.3.2) and optional chains
-- (13.3.9). Clauses are those of its 16th edition, ECMAScript 2025. It reads a key as a string;
-- here keys are properties as the Rust tells them apart (docs/DIFFERENCES.md).
use Rattle.std.specs.Prelude.{true, false, List, [], ◌∷◌}
use Rattle.entries.specs.declared.IdentifierId.{IdentifierId}
use Rattle.entries.specs.declared.PropertyLiteral.{PropertyLiteral}
use Rattle.entries.specs.declared.DependencyPathEntry.{DependencyPathEntry}
use Rattle.entries.specs.Path.{ReactiveScopeDependency}

-- The values of the language (ECMA-262, 6.1): Null, Undefined, and all others, of which nothing is
-- assumed.
pub data Value (X : Type 0) : Type 0 where
  null undefined : Value X
  value : X → Value X

-- "A store gives every identifier, and every property of every non-nullish value, one value. It may
-- hold any values, and neither a read nor a block changes it."
pub record Store (X : Type 0) : Type 0 where
  pub of_identifier : IdentifierId → Value X
  pub of_property : X → PropertyLiteral → Value X

-- "A path that does not throw reads to the value reached last, or to the undefined that ended it."
pub data Completion (X : Type 0) : Type 0 where
  throws : Completion X
  reads_to : Value X → Completion X

-- An entry whose base is null or undefined. "A plain entry throws": GetValue (6.2.5.5) of
-- `base.name` calls ToObject (7.1.18), which throws a TypeError for Undefined and Null. "An
-- optional one ends the whole chain with undefined": the evaluation of an OptionalExpression
-- (13.3.9.1) returns undefined where the base is undefined or null, and does not come to the
-- ChainEvaluation (13.3.9.2) of the entries up to the next `?.`; that one's base is then undefined,
-- and the same rule gives undefined again, to the end of the path.
abbrev pub at_nullish : {X : Type 0} → DependencyPathEntry → Completion X
at_nullish e = elim e.optional [ true ↦ reads_to undefined | false ↦ throws ]

module _ {X : Type 0} (S : Store X) where
  -- The entries are read from the value reached so far. "Otherwise the base's property is reached":
  -- EvaluatePropertyAccessWithExpressionKey and -WithIdentifierKey (13.3.3, 13.3.4) and GetValue,
  -- for `.` and `?.` alike.
  abbrev pub read_from : Value X → List DependencyPathEntry → Completion X
  read_from v [] = reads_to v
  read_from null (e ∷ es) = at_nullish e
  read_from undefined (e ∷ es) = at_nullish e
  read_from (value x) (e ∷ es) = read_from (S.of_property x e.property) es

  -- "Reading starts at the identifier's value."
  abbrev pub read : ReactiveScopeDependency → Completion X
  read d = read_from (S.of_identifier d.identifier) d.path

-- the reading throws
abbrev pub Throws : {X : Type 0} → Completion X → Type 0
Throws throws = Unit {0}
Throws (reads_to v) = ⊥

-- the reading gives a value neither null nor undefined
abbrev pub NonNullish : {X : Type 0} → Completion X → Type 0
NonNullish throws = ⊥
NonNullish (reads_to null) = ⊥
NonNullish (reads_to undefined) = ⊥
NonNullish (reads_to (value x)) = Unit {0}

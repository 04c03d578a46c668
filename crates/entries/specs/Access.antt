-- Document 01, module 5 (Access): the four access kinds, what each says, and how two of them are
-- merged.
use Rattle.std.specs.Prelude.{Bool, true, false, ◌&&◌, ◌||◌}
use Rattle.entries.specs.declared.PropertyAccessType.{PropertyAccessType}
use Rattle.entries.specs.declared.PropertyAccessType.TheVariants.{
  OptionalAccess,
  UnconditionalAccess,
  OptionalDependency,
  UnconditionalDependency,
}

-- "Optional only if both are": which of "the four access kinds" are optional
-- (`is_optional_access` of the Rust).
abbrev pub is_optional_access : PropertyAccessType → Bool
is_optional_access OptionalAccess = true
is_optional_access UnconditionalAccess = false
is_optional_access OptionalDependency = true
is_optional_access UnconditionalDependency = false

-- "A dependency if either is": which of them are dependencies (`is_dependency_access` of the Rust).
abbrev pub is_dependency_access : PropertyAccessType → Bool
is_dependency_access OptionalAccess = false
is_dependency_access UnconditionalAccess = false
is_dependency_access OptionalDependency = true
is_dependency_access UnconditionalDependency = true

-- the kind that is optional or not, and a dependency or not
abbrev pub access_of : Bool → Bool → PropertyAccessType
access_of true true = OptionalDependency
access_of true false = OptionalAccess
access_of false true = UnconditionalDependency
access_of false false = UnconditionalAccess

-- "`merge_access`: optional only if both are, a dependency if either is."
abbrev pub merge_access : PropertyAccessType → PropertyAccessType → PropertyAccessType
merge_access a b = access_of (is_optional_access a && is_optional_access b) (is_dependency_access a || is_dependency_access b)

-- Document 01, module 6 (Tree): `ReactiveScopeDependencyTreeHIR`: the hoistable tree, the
-- candidates' walks, the dependency tree and the returned paths.
use Rattle.std.specs.Prelude.{ℕ, zero, Bool, true, false, ◌||◌, not, cond, List, [], ◌∷◌, ◌++◌, map}
use Rattle.std.proofs.Math.Option.{Option, some, none}
use Rattle.entries.specs.declared.IdentifierId.{IdentifierId}
use Rattle.entries.specs.declared.PropertyLiteral.{PropertyLiteral}
use Rattle.entries.specs.declared.PropertyLiteral.TheVariants.{String}
use Rattle.entries.specs.declared.DependencyPathEntry.{DependencyPathEntry}
use Rattle.entries.specs.declared.PropertyAccessType.{PropertyAccessType}
use Rattle.entries.specs.declared.PropertyAccessType.TheVariants.{OptionalAccess, UnconditionalAccess, OptionalDependency}
use Rattle.entries.specs.declared.HoistableAccessType.{HoistableAccessType}
use Rattle.entries.specs.declared.HoistableAccessType.TheVariants.{Optional, NonNull}
use Rattle.entries.specs.Path.{ReactiveScopeDependency}
use Rattle.model.specs.Lists.{select}
use Rattle.entries.specs.Access.{is_optional_access, is_dependency_access, merge_access}
use Rattle.model.specs.Forest.{Key, identifier_key, property_key, Forest, empty, Found, find_key, child_by_key, add_all, firsts}

-- The hoistable tree.

-- "Paths with an optional first entry": the list starts with one.
abbrev pub starts_optional : List DependencyPathEntry → Bool
starts_optional [] = false
starts_optional (e ∷ es) = e.optional

-- "Paths with an optional first entry ahead, order otherwise kept"
unfoldable pub ordered : List ReactiveScopeDependency → List ReactiveScopeDependency
ordered ds = select (λ d. starts_optional d.path) ds ++ select (λ d. not (starts_optional d.path)) ds

-- A position of the hoistable tree: its key ("keyed by property alone") and its access ("Optional
-- .., else NonNull").
pub record HoistablePosition : Type 0 where
  pub key : Key
  pub access : HoistableAccessType

-- The key of a position, as the forest asks for it.
abbrev pub hoistable_key : HoistablePosition → Key
hoistable_key h = h.key

-- "At a NonNull position": the access is NonNull.
abbrev pub access_is_non_null : HoistableAccessType → Bool
access_is_non_null Optional = false
access_is_non_null NonNull = true

-- "A position is Optional if the next entry of the path that first made it is optional, else
-- NonNull": `es` are the entries after it.
abbrev pub access_before : List DependencyPathEntry → HoistableAccessType
access_before es = cond (starts_optional es) Optional NonNull

-- The positions of a path's entries, each with the access that the entry after it gives.
abbrev pub hoistable_entries : List DependencyPathEntry → List HoistablePosition
hoistable_entries [] = []
hoistable_entries (e ∷ es) = record { key = property_key e.property; access = access_before es } ∷ hoistable_entries es

-- The positions of a whole path: its root's, keyed by the identifier, and its entries'.
abbrev pub hoistable_positions : ReactiveScopeDependency → List HoistablePosition
hoistable_positions d = record { key = identifier_key d.identifier; access = access_before d.path } ∷ hoistable_entries d.path

-- "Later paths don't alter it."
abbrev pub first_made : HoistablePosition → HoistablePosition → HoistablePosition
first_made old new = old

-- "The scope block's set, ascending, .. builds the hoistable tree, keyed by property alone."
unfoldable pub hoistable_tree : List ReactiveScopeDependency → Forest HoistablePosition
unfolding ordered
hoistable_tree ds = add_all hoistable_key first_made empty (map hoistable_positions (ordered ds))

-- The walk of a candidate.

-- A position of the dependency tree: key, access kind, span, and a root's reactive.
pub record DependencyPosition : Type 0 where
  pub key : Key
  pub access : PropertyAccessType
  pub span : ℕ
  pub reactive : Bool

-- The key of a position, as the forest asks for it.
abbrev pub dependency_key : DependencyPosition → Key
dependency_key p = p.key

-- "First dependencies": the position's access is a dependency.
abbrev pub is_dependency : DependencyPosition → Bool
is_dependency p = is_dependency_access p.access

-- "Spans and root reactive from the first maker": merging changes the access alone.
abbrev pub with_merged : DependencyPosition → PropertyAccessType → DependencyPosition
with_merged p a = record { key = p.key; access = merge_access p.access a; span = p.span; reactive = p.reactive }

-- A position met again is merged ("`merge_access`"), the one that was there keeping its span and
-- reactive.
abbrev pub merge_position : DependencyPosition → DependencyPosition → DependencyPosition
merge_position old new = with_merged old new.access

-- "Where it ends is a dependency."
abbrev pub ended : DependencyPosition → DependencyPosition
ended p = with_merged p OptionalDependency

-- "At a NonNull position": the hoistable tree has the position, and its access is NonNull.
abbrev pub at_non_null : Option (Found HoistablePosition) → Bool
at_non_null none = false
at_non_null (some f) = access_is_non_null f.here.access

-- "At a NonNull position plain; otherwise optional": the access of the entry taken there.
abbrev pub step_access : Bool → PropertyAccessType
step_access true = UnconditionalAccess
step_access false = OptionalAccess

-- of a child's position the reactive is not read
abbrev pub step_to : DependencyPathEntry → PropertyAccessType → DependencyPosition
step_to e a = record { key = property_key e.property; access = a; span = e.span; reactive = false }

-- "Each candidate walks its entries: at a NonNull position plain; otherwise optional if its own
-- entry is; otherwise it is cut there." The walk has come to position p, where the hoistable tree
-- has h or nothing.
unfoldable pub walk_entries : Option (Found HoistablePosition) → DependencyPosition → List DependencyPathEntry → List DependencyPosition
walk_entries h p [] = ended p ∷ []
walk_entries h p (e ∷ es) =
    cond (at_non_null h || e.optional)
    (p ∷ walk_entries (child_by_key hoistable_key h (property_key e.property)) (step_to e (step_access (at_non_null h))) es)
    (ended p ∷ [])

-- The position where a candidate's walk starts: its identifier, accessed without condition.
abbrev pub root_position : ReactiveScopeDependency → DependencyPosition
root_position d = record { key = identifier_key d.identifier; access = UnconditionalAccess; span = d.span; reactive = d.reactive }

-- "Each candidate walks its entries", from its root; the hoistable tree is looked up by the
-- identifier.
unfoldable pub walk_candidate : Forest HoistablePosition → ReactiveScopeDependency → List DependencyPosition
unfolding walk_entries
walk_candidate t d = walk_entries (find_key hoistable_key t (identifier_key d.identifier)) (root_position d) d.path

-- The dependency tree and the returned paths.

-- the walks of the candidates `cs`, one after the other, in the hoistable tree of the paths `hs`
unfoldable pub dependency_tree : List ReactiveScopeDependency → List ReactiveScopeDependency → Forest DependencyPosition
unfolding hoistable_tree walk_candidate
dependency_tree hs cs = let t = hoistable_tree hs in add_all dependency_key merge_position empty (map (walk_candidate t) cs)

-- A root's key is an identifier; a way down starts at a root, so the other case is not read.
abbrev pub key_identifier : Key → IdentifierId
key_identifier (identifier_key i) = i
key_identifier (property_key p) = record { 0 = zero }

-- A child's key is a property; below the root every key is one, so the other case is not read.
abbrev pub key_property : Key → PropertyLiteral
key_property (identifier_key i) = String zero
key_property (property_key p) = p

-- A child's position as an entry of the returned path: optional where its access is.
abbrev pub entry_of : DependencyPosition → DependencyPathEntry
entry_of p = record { property = key_property p.key; optional = is_optional_access p.access; span = p.span }

-- The span of the position where a way down ends.
abbrev pub last_span : DependencyPosition → List DependencyPosition → ℕ
last_span p [] = p.span
last_span p (q ∷ qs) = last_span q qs

-- the path that a way down from a root stands for; its span is that of the position where it ends
abbrev pub dependency_of : List DependencyPosition → ReactiveScopeDependency
dependency_of [] = record { identifier = record { 0 = zero }; reactive = false; path = []; span = zero }
dependency_of (p ∷ ps) = record { identifier = key_identifier p.key; reactive = p.reactive; path = map entry_of ps; span = last_span p ps }

-- "Returned are the first dependencies on each way down, roots and children in order of first
-- insertion"
unfoldable pub derive_minimal_dependencies : List ReactiveScopeDependency → List ReactiveScopeDependency → List ReactiveScopeDependency
unfolding dependency_tree
derive_minimal_dependencies hs cs = map dependency_of (firsts is_dependency (dependency_tree hs cs))

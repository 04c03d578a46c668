-- The levels of a candidate that one path of the set decides, and those that several decide.
use Rattle.std.specs.Prelude.{
  ℕ,
  ◌+◌,
  ◌≤◌,
  ◌<◌,
  ◌≡◌,
  Bool,
  true,
  false,
  ◌&&◌,
  cond,
  List,
  [],
  ◌∷◌,
  length,
  drop,
  eqb,
  Option,
  Some,
  None,
  IfSome,
}
use Rattle.entries.specs.declared.IdentifierId.{IdentifierId}
use Rattle.entries.specs.declared.PropertyLiteral.{PropertyLiteral}
use Rattle.entries.specs.declared.DependencyPathEntry.{DependencyPathEntry}
use Rattle.entries.specs.Path.{same_property, prefix_of_names, ReactiveScopeDependency}
use Rattle.model.specs.Tree.{starts_optional}
use Rattle.hoistable.specs.declared.Levels.{Levels}
use Rattle.hoistable.specs.declared.Agreement.{Agreement}
use Rattle.hoistable.specs.declared.Entries.{Entries}
use Rattle.hoistable.specs.Levels.{number_of, weight_of}
use Rattle.hoistable.specs.Candidate.{Reads, AreRead}

-- for each position of a path that the names `es` reach, from one that they have reached on: the
-- path's entry after it is optional
abbrev pub agreed : List DependencyPathEntry → List DependencyPathEntry → List Bool
agreed [] es = false ∷ []
agreed (d ∷ ds) [] = d.optional ∷ []
agreed (d ∷ ds) (e ∷ es) = d.optional ∷ cond (same_property d.property e.property) (agreed ds es) []

-- the same for a whole path and a whole candidate: none where the identifiers differ
abbrev pub levels_along : IdentifierId → List DependencyPathEntry → ReactiveScopeDependency → List Bool
levels_along i es d = cond (eqb d.identifier.0 i.0) (agreed d.path es) []

-- "Later paths don't alter it": what is known of the first levels stays, and the levels after them
-- are as the second list says.
abbrev pub over : List Bool → List Bool → List Bool
over [] ys = ys
over (x ∷ xs) [] = x ∷ xs
over (x ∷ xs) (y ∷ ys) = x ∷ over xs ys

-- the property is the first name's
abbrev pub next_same : PropertyLiteral → List DependencyPathEntry → Bool
next_same q [] = false
next_same q (e ∷ es) = same_property q e.property

-- What a list of paths decides: `ahead` is known from those with an optional first entry so far,
-- and `rest` from the others.
unfoldable pub decided : IdentifierId → List DependencyPathEntry → List Bool → List Bool → List ReactiveScopeDependency → List Bool
decided i es ahead rest [] = over ahead rest
decided i es ahead rest (d ∷ ds) =
    cond (starts_optional d.path) (decided i es (over ahead (levels_along i es d)) rest ds)
    (decided i es ahead (over rest (levels_along i es d)) ds)

-- how the code holds a list: a candidate has at most 17 levels
pub record HoldsLevels (bs : List Bool) (v : Levels) : Type 0 where
  pub few : length bs ≤ 17
  pub end : v.end ≡ weight_of bs
  pub optional : v.optional ≡ number_of bs

-- what such numbers fit
pub record Small (v : Levels) : Type 0 where
  pub most : v.end ≤ 131072
  pub below : v.optional < v.end

-- The next of the candidate's entries `es`, of which `left` are left, and the others are read
-- behind it; or there is none.
abbrev pub Follows : List DependencyPathEntry → List ℕ → ℕ → Option (DependencyPathEntry × Entries) → Type 0
Follows es s left (Some (e, rest)) = (es ≡ e ∷ drop 1 es) × Reads rest.left s rest.at (drop 1 es) × (rest.left + 1 ≡ left)
Follows es s left None = (es ≡ []) × (left ≡ 0)

-- the candidate's next entry has the property, and the others are read behind it; or it has
-- another, or there is none
abbrev pub NextIs : PropertyLiteral → List DependencyPathEntry → List ℕ → Option Entries → Type 0
NextIs q es s (Some rest) = (next_same q es ≡ true) × Reads rest.left s rest.at (drop 1 es)
NextIs q es s None = next_same q es ≡ false

-- where the candidate has all the path's names, its entries after them are read
abbrev pub RestRead : List ℕ → Agreement → Type 0
RestRead s r = IfSome r.rest (λ rest. AreRead rest.left s rest.at)

-- whether the candidate has all the path's names, and if so, where its entries go on
abbrev pub RestAgrees : List ℕ → IdentifierId → List DependencyPathEntry → ReactiveScopeDependency → Option Entries → Type 0
RestAgrees s i es d (Some rest) =
    (eqb d.identifier.0 i.0 && prefix_of_names d.path es ≡ true) × Reads rest.left s rest.at (drop (length d.path) es)
RestAgrees s i es d None = eqb d.identifier.0 i.0 && prefix_of_names d.path es ≡ false

-- How far a path agrees with a candidate: the levels that it decides, whether the candidate has all
-- its names, and if so, where the candidate's entries go on.
pub record Agrees (s : List ℕ) (i : IdentifierId) (es : List DependencyPathEntry) (d : ReactiveScopeDependency)
    (r : Agreement) : Type 0 where
  pub levels : HoldsLevels (levels_along i es d) r.levels
  pub rest : RestAgrees s i es d r.rest

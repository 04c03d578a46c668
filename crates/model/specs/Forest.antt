-- Ordered forests whose positions have keys: what both trees of module 6 are made of. A forest is
-- its first position, that position's children, and the positions after it; positions stand in the
-- order of their first insertion.
use Rattle.std.specs.Prelude.{Bool, false, cond, eqb}
use mathlib.Core.List.{List, [], ◌∷◌, ◌++◌, map, foldl}
use Rattle.std.proofs.Math.Option.{Option, some, none}
use Rattle.entries.specs.declared.IdentifierId.{IdentifierId}
use Rattle.entries.specs.declared.PropertyLiteral.{PropertyLiteral}
use Rattle.entries.specs.Path.{same_property}

-- "Keyed by property alone": a root's key is its identifier, a child's its property.
pub data Key : Type 0 where
  identifier_key : IdentifierId → Key
  property_key : PropertyLiteral → Key

-- Keys are equal when both are identifiers or both properties, and these are equal ("properties are
-- equal when ..", module 1).
abbrev pub same_key : Key → Key → Bool
same_key (identifier_key a) (identifier_key b) = eqb a.0 b.0
same_key (identifier_key a) (property_key q) = false
same_key (property_key p) (identifier_key b) = false
same_key (property_key p) (property_key q) = same_property p q

-- "Roots and children in order of first insertion": a position, its children, and the positions
-- after it.
pub data Forest (P : Type 0) : Type 0 where
  empty : Forest P
  position : P → Forest P → Forest P → Forest P

-- a position with its children
pub record Found (P : Type 0) : Type 0 where
  pub here : P
  pub children : Forest P

-- The positions that a way down makes where none of them is there: each the only child of the one
-- before.
abbrev pub chain : {P : Type 0} → List P → Forest P
chain [] = empty
chain (s ∷ ss) = position s (chain ss) empty

module _ {P : Type 0} (key : P → Key) where
  -- the position with this key at the top of a forest
  abbrev pub find_key : Forest P → Key → Option (Found P)
  find_key empty k = none
  find_key (position p c r) k = cond (same_key (key p) k) (some (record { here = p; children = c })) (find_key r k)

  -- and among the children of a position
  abbrev pub child_by_key : Option (Found P) → Key → Option (Found P)
  child_by_key none k = none
  child_by_key (some f) k = find_key f.children k

  module _ (merge : P → P → P) where
    -- a way down is added: a position whose key is there is merged with the one added, another is
    -- made last
    abbrev pub add : Forest P → List P → Forest P
    add empty ss = chain ss
    add (position p c r) [] = position p c r
    add (position p c r) (s ∷ ss) = cond (same_key (key p) (key s)) (position (merge p s) (add c ss) r) (position p c (add r (s ∷ ss)))

    -- One way down after the other, in their order.
    abbrev pub add_all : Forest P → List (List P) → Forest P
    add_all f ws = foldl add f ws

module _ {P : Type 0} (test : P → Bool) where
  -- "The first dependencies on each way down": the ways down to the first positions on each that
  -- pass the test, in order.
  abbrev pub firsts : Forest P → List (List P)
  firsts empty = []
  firsts (position p c r) = map (λ ps. p ∷ ps) (cond (test p) ([] ∷ []) (firsts c)) ++ firsts r

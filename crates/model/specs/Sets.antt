-- Sets of nodes as ascending lists, each node once (`BTreeSet` of the Rust).
use Rattle.std.specs.Prelude.{Bool, true, false, ◌&&◌, not, cond, eqb, ltb}
use mathlib.Core.List.{List, [], ◌∷◌, foldl}
use Rattle.entries.specs.declared.NodeId.{NodeId}
use Rattle.model.specs.Lists.{select, any_of}

-- "`BTreeSet` .. mean .. ascending sets": each node once, ascending.
abbrev pub NodeSet : Type 0
NodeSet = List NodeId

-- Two node numbers are the same.
abbrev pub same_node : NodeId → NodeId → Bool
same_node a b = eqb a.0 b.0

-- A node "is in the set".
abbrev pub contains : NodeSet → NodeId → Bool
contains s k = any_of (λ x. same_node x k) s

-- A set with a node: at its place in the ascending order, once.
abbrev pub insert : NodeId → NodeSet → NodeSet
insert k [] = k ∷ []
insert k (x ∷ xs) = cond (ltb k.0 x.0) (k ∷ x ∷ xs) (x ∷ cond (same_node x k) xs (insert k xs))

-- A set without a node ("replaced at once", the old one).
abbrev pub remove : NodeId → NodeSet → NodeSet
remove k s = select (λ x. not (same_node x k)) s

-- "Joins its set with": the nodes of both.
abbrev pub union : NodeSet → NodeSet → NodeSet
union s t = foldl (λ r k. insert k r) s t

-- "The intersection of .. sets": the nodes in both.
abbrev pub intersection : NodeSet → NodeSet → NodeSet
intersection s t = select (contains t) s

-- Two sets have the same nodes: by this it is told whether a set has changed.
abbrev pub same_set : NodeSet → NodeSet → Bool
same_set [] [] = true
same_set [] (y ∷ ys) = false
same_set (x ∷ xs) [] = false
same_set (x ∷ xs) (y ∷ ys) = same_node x y && same_set xs ys

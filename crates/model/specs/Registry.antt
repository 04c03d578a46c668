-- Document 01, module 2 (Registry): the nodes of paths, in the order of their making.
use Rattle.std.specs.Prelude.{ℕ, zero, suc, ◌+◌, Bool, true, false, ◌&&◌, cond, List, [], ◌∷◌, ◌++◌, get_or, eqb}
use Rattle.entries.specs.declared.IdentifierId.{IdentifierId}
use Rattle.entries.specs.declared.NodeId.{NodeId}
use Rattle.entries.specs.declared.DependencyPathEntry.{DependencyPathEntry}
use Rattle.entries.specs.Path.{same_entry, ReactiveScopeDependency}
use Rattle.model.specs.Lists.{any_of}

-- 9: "Would pass 512 nodes": the most nodes that an accepted job's registry has.
abbrev pub node_limit : ℕ
node_limit = 512

-- "Parent u16 (65535 for a root)"
abbrev pub root_mark : ℕ
root_mark = 65535

-- where a node comes from: it is a root, or the child of a node by an entry
pub data Origin : Type 0 where
  root : Origin
  child_of : NodeId → DependencyPathEntry → Origin

-- a node, with the whole path from its root (`full_path` of the Rust)
pub record PropertyPathNode : Type 0 where
  pub origin : Origin
  pub full_path : ReactiveScopeDependency

-- "Nodes are numbered from 0 as made": a node's number is its place. The list has no limit; refusal
-- 9 is put at the end of propagation.
abbrev pub PropertyPathRegistry : Type 0
PropertyPathRegistry = List PropertyPathNode

-- A node is a root.
abbrev pub is_root : Origin → Bool
is_root root = true
is_root (child_of q f) = false

-- "A root per identifier": this node is the identifier's root.
abbrev pub is_root_for : IdentifierId → PropertyPathNode → Bool
is_root_for i n = is_root n.origin && eqb n.full_path.identifier.0 i.0

-- A node is the child of this parent, by an entry whose property and optional mark are these.
abbrev pub is_child : NodeId → DependencyPathEntry → Origin → Bool
is_child p e root = false
is_child p e (child_of q f) = eqb q.0 p.0 && same_entry f e

-- "A child per parent, property and optional mark": this node is the parent's child by an equal
-- entry.
abbrev pub is_child_by : NodeId → DependencyPathEntry → PropertyPathNode → Bool
is_child_by p e n = is_child p e n.origin

-- the place of the first node that passes the test; where none does, the number that the next node
-- gets
abbrev pub find : (PropertyPathNode → Bool) → PropertyPathRegistry → ℕ
find test [] = zero
find test (n ∷ ns) = cond (test n) zero (suc (find test ns))

-- the registry with such a node: as it is, or with the new one made last
abbrev pub ensure : (PropertyPathNode → Bool) → PropertyPathNode → PropertyPathRegistry → PropertyPathRegistry
ensure test new [] = new ∷ []
ensure test new (n ∷ ns) = n ∷ cond (test n) ns (ensure test new ns)

-- a registry, the node reached in it, and how many nodes were made on the way to it; where a single
-- one was to be found or made, that is 1 or 0
pub record Reached : Type 0 where
  pub registry : PropertyPathRegistry
  pub node : NodeId
  pub made : ℕ

-- "Whether the node was made" (E4): 1 where no node passes the test, so that a new one is made.
abbrev pub makes : (PropertyPathNode → Bool) → PropertyPathRegistry → ℕ
makes test reg = cond (any_of test reg) 0 1

-- The node that passes the test, found or made last ("numbered from 0 as made").
abbrev pub find_or_make : (PropertyPathNode → Bool) → PropertyPathNode → PropertyPathRegistry → Reached
find_or_make test new reg = record { registry = ensure test new reg; node = record { 0 = find test reg }; made = makes test reg }

-- "A root's reactive and span come from the path that first made it"
abbrev pub root_node : IdentifierId → Bool → ℕ → PropertyPathNode
root_node i r s = record { origin = root; full_path = record { identifier = i; reactive = r; path = []; span = s } }

-- "A child has its root's reactive and the span of the entry that made it."
abbrev pub child_node : NodeId → ReactiveScopeDependency → DependencyPathEntry → PropertyPathNode
child_node p d e = record {
  origin = child_of p e;
  full_path = record { identifier = d.identifier; reactive = d.reactive; path = d.path ++ (e ∷ []); span = e.span };
}

-- a node's path; the default stands for no node of a registry
abbrev pub full_path_of : PropertyPathRegistry → NodeId → ReactiveScopeDependency
full_path_of reg k = (get_or reg k.0 (root_node (record { 0 = zero }) false zero)).full_path

-- "A root per identifier", found or made (`get_or_create_identifier` of the Rust).
abbrev pub get_or_create_identifier : PropertyPathRegistry → IdentifierId → Bool → ℕ → Reached
get_or_create_identifier reg i r s = find_or_make (is_root_for i) (root_node i r s) reg

-- "A child per parent, property and optional mark", found or made (`get_or_create_property_entry`
-- of the Rust).
abbrev pub get_or_create_property_entry : PropertyPathRegistry → NodeId → DependencyPathEntry → Reached
get_or_create_property_entry reg p e = find_or_make (is_child_by p e) (child_node p (full_path_of reg p) e) reg

-- an entry with another optional mark
abbrev pub with_optional : DependencyPathEntry → Bool → DependencyPathEntry
with_optional e o = record { property = e.property; optional = o; span = e.span }

-- What is reached, with the nodes that were made before it counted too.
abbrev pub after_making : ℕ → Reached → Reached
after_making made at = record { registry = at.registry; node = at.node; made = made + at.made }

-- the child of what was reached, by an entry under the optional mark that `mark` gives it there
abbrev pub step_from : (NodeId → DependencyPathEntry → Bool) → Reached → DependencyPathEntry → Reached
step_from mark at e = after_making at.made (get_or_create_property_entry at.registry at.node (with_optional e (mark at.node e)))

-- down from a node by entries, step by step; what the steps make is added to what was made before
unfoldable pub walk_from : (NodeId → DependencyPathEntry → Bool) → Reached → List DependencyPathEntry → Reached
walk_from mark at [] = at
walk_from mark at (e ∷ es) = walk_from mark (step_from mark at e) es

-- Down a whole path, from the root of its identifier.
abbrev pub walk_path : (NodeId → DependencyPathEntry → Bool) → PropertyPathRegistry → ReactiveScopeDependency → Reached
walk_path mark reg d = walk_from mark (get_or_create_identifier reg d.identifier d.reactive d.span) d.path

-- An entry keeps its own optional mark.
abbrev pub own_mark : NodeId → DependencyPathEntry → Bool
own_mark k e = e.optional

-- a path is entered under its own marks (`get_or_create_property` of the Rust)
unfoldable pub get_or_create_property : PropertyPathRegistry → ReactiveScopeDependency → Reached
unfolding walk_from
get_or_create_property reg d = walk_path own_mark reg d

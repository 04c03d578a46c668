-- Nodes as the words keep them, and the model's registry that a list of them stands for.
use Rattle.std.specs.Prelude.{ℕ, zero, suc, ◌<◌, Bool, false, ◌&&◌, ◌||◌, cond, List, [], ◌∷◌, ◌++◌, eqb}
use Rattle.entries.specs.declared.NodeId.{NodeId}
use Rattle.entries.specs.Path.{same_entry}
use Rattle.model.specs.Sets.{NodeSet, contains, insert}
use Rattle.model.specs.Registry.{
  PropertyPathNode,
  PropertyPathRegistry,
  is_root_for,
  is_child_by,
  Origin,
  root,
  child_of,
  Reached,
  find_or_make,
}
use Rattle.model.specs.Registry.{root_node, child_node, full_path_of}
use Rattle.registry.specs.declared.Node.{Node}
use Rattle.registry.specs.declared.Node.TheVariants.{Root, Child}

-- a root for the same identifier, or a child of the same parent by an equal entry
abbrev pub same_key : Node → Node → Bool
same_key (Root i r s) (Root j q t) = eqb i.0 j.0
same_key (Root i r s) (Child q f) = false
same_key (Child p e) (Root j q t) = false
same_key (Child p e) (Child q f) = eqb p.0 q.0 && same_entry e f

-- a root, or the child of a node by an entry
abbrev pub origin_of : Node → Origin
origin_of (Root i r s) = root
origin_of (Child p e) = child_of p e

-- the number of the first node with the key of n, or how many there are
abbrev pub find_node : List Node → Node → ℕ
find_node [] n = zero
find_node (m ∷ ms) n = cond (same_key m n) zero (suc (find_node ms n))

-- a node of the model, over the nodes before it: a child's path is its parent's and its entry
abbrev pub node_over : PropertyPathRegistry → Node → PropertyPathNode
node_over before (Root i r s) = root_node i r s
node_over before (Child p e) = child_node p (full_path_of before p) e

-- Nodes one after the other, each over those before it.
abbrev pub nodes_over : PropertyPathRegistry → List Node → PropertyPathRegistry
nodes_over before [] = []
nodes_over before (n ∷ ns) = let m = node_over before n in m ∷ nodes_over (before ++ (m ∷ [])) ns

-- the model's registry of a list of nodes
unfoldable pub registry_from : List Node → PropertyPathRegistry
registry_from ns = nodes_over [] ns

-- the test by which the model looks for a node
abbrev pub test_for : Node → PropertyPathNode → Bool
test_for (Root i r s) = is_root_for i
test_for (Child p e) = is_child_by p e

-- the model's finding or making of a node
abbrev pub reached_for : PropertyPathRegistry → Node → Reached
reached_for reg n = find_or_make (test_for n) (node_over reg n) reg

-- a parent is one of n nodes
abbrev pub Inside : Node → ℕ → Type 0
Inside (Root i r s) n = Unit {0}
Inside (Child p e) n = p.0 < n

-- a node has an optional entry, where `optional` are the nodes before it that have one
abbrev pub optional_over : NodeSet → Node → Bool
optional_over optional (Root i r s) = false
optional_over optional (Child p e) = e.optional || contains optional p

-- The nodes that have an optional entry, once node k, which is n, is among the nodes.
abbrev pub noted_with : NodeSet → Node → NodeId → NodeSet
noted_with optional n k = cond (optional_over optional n) (insert k optional) optional

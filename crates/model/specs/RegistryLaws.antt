-- What the laws of registries speak of (the laws are in `proofs/RegistryLaws`): a registry keeps
-- its nodes at their places, and in a sound one a node is the only one with its identifier, or with
-- its parent and entry, and a child's path is its parent's and one entry more.
use Rattle.std.specs.Prelude.{ℕ, zero, ◌<◌, ◌≡◌, false, [], ◌∷◌, ◌++◌, get_or}
use Rattle.std.proofs.Math.ListN.{length}
use Rattle.entries.specs.declared.NodeId.{NodeId}
use Rattle.entries.specs.declared.DependencyPathEntry.{DependencyPathEntry}
use Rattle.entries.specs.Path.{ReactiveScopeDependency}
use Rattle.model.specs.Registry.{
  Origin,
  root,
  child_of,
  PropertyPathNode,
  PropertyPathRegistry,
  is_root_for,
  is_child_by,
  find,
  Reached,
  root_node,
  full_path_of,
}

-- the node at a place; the default is that of `full_path_of`
abbrev pub node_at : PropertyPathRegistry → ℕ → PropertyPathNode
node_at reg k = get_or reg k (root_node (record { 0 = zero }) false zero)

-- the second registry is the first and nodes made later
pub record Extends (reg reg' : PropertyPathRegistry) : Type 0 where
  pub later : PropertyPathRegistry
  pub appended : reg' ≡ reg ++ later

-- the second path is the first and one entry more, whose span it has
pub record Child (d : ReactiveScopeDependency) (e : DependencyPathEntry) (d' : ReactiveScopeDependency) : Type 0 where
  pub identifier : d'.identifier ≡ d.identifier
  pub reactive : d'.reactive ≡ d.reactive
  pub path : d'.path ≡ d.path ++ (e ∷ [])
  pub span : d'.span ≡ e.span

-- a root: the first node for its identifier
pub record StandsAsRoot (reg : PropertyPathRegistry) (k : ℕ) (d : ReactiveScopeDependency) : Type 0 where
  pub path : d.path ≡ []
  pub only : find (is_root_for d.identifier) reg ≡ k

-- a child: the first node for its parent and entry, made after its parent
pub record StandsAsChild (reg : PropertyPathRegistry) (k : ℕ) (p : NodeId) (e : DependencyPathEntry)
    (d : ReactiveScopeDependency) : Type 0 where
  pub after : p.0 < k
  pub child : Child (full_path_of reg p) e d
  pub only : find (is_child_by p e) reg ≡ k

-- node k stands as what it comes from says
abbrev pub StandsAt : PropertyPathRegistry → ℕ → Origin → ReactiveScopeDependency → Type 0
StandsAt reg k root d = StandsAsRoot reg k d
StandsAt reg k (child_of p e) d = StandsAsChild reg k p e d

-- a registry as finding and making leaves it: each node stands so
abbrev pub Sound : PropertyPathRegistry → Type 0
Sound reg = (k : ℕ) → k < length reg → StandsAt reg k (node_at reg k).origin (node_at reg k).full_path

-- a node of a sound registry
pub record Proper (at : Reached) : Type 0 where
  pub sound : Sound at.registry
  pub inside : at.node.0 < length at.registry

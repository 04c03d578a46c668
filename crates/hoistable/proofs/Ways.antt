-- The ways down of paths: one entry more, the first entry's mark, and several paths in their order.
use Prim.Native.Nat.{ℕ, ◌<◌}
use mathlib.Core.Path.{◌≡◌, refl, sym, ap, ◌∙◌}
use mathlib.Core.Bool.{Bool, false}
use mathlib.Core.List.{List, [], ◌∷◌, ◌++◌}
use Rattle.entries.specs.declared.IdentifierId.{IdentifierId}
use Rattle.entries.specs.declared.NodeId.{NodeId}
use Rattle.entries.specs.declared.DependencyPathEntry.{DependencyPathEntry}
use Rattle.entries.specs.declared.HoistableAccessType.{HoistableAccessType}
use Rattle.entries.specs.declared.HoistableAccessType.TheVariants.{NonNull}
use Rattle.entries.specs.Path.{ReactiveScopeDependency}
use Rattle.model.specs.Registry.{full_path_of}
use Rattle.model.specs.RegistryLaws.{Sound}
use Rattle.model.specs.RegistryLaws as Placed
use Rattle.model.specs.Forest.{Key, identifier_key, property_key}
use Rattle.model.specs.Tree.{HoistablePosition, hoistable_positions, hoistable_entries, access_before, starts_optional}
use Rattle.registry.specs.declared.Node.{Node}
use Rattle.registry.specs.declared.Node.TheVariants.{Root, Child}
use Rattle.registry.specs.Words.{stored_node, count_in, registry_of}
use Rattle.hoistable.specs.Positions.{key_of, access_of, position_of, positions_from, positions_to}
use Rattle.hoistable.proofs.Nodes.{root_path, child_path}

positions_snoc : (k : Key) (es : List DependencyPathEntry) (e : DependencyPathEntry) (a : HoistableAccessType)
    → positions_from k (es ++ (e ∷ [])) a ≡ positions_from k es (access_of e.optional) ++ (position_of (property_key e.property) a ∷ [])
positions_snoc k [] e a = refl
positions_snoc k (d ∷ es) e a =
    ap (λ (l : List HoistablePosition). position_of k (access_of d.optional) ∷ l) (positions_snoc (property_key d.property) es e a)

-- The way of a path with one entry more.
pub child_way : {d d' : ReactiveScopeDependency} {e : DependencyPathEntry} (a : HoistableAccessType) → Placed.Child d e d'
    → positions_to d' a ≡ positions_to d (access_of e.optional) ++ (position_of (property_key e.property) a ∷ [])
child_way {d} {d'} {e} a child =
    (λ j. positions_from (identifier_key (child.identifier j)) (child.path j) a) ∙ positions_snoc (identifier_key d.identifier) d.path e a

-- The way of a node's path: a root's position alone, or the parent's way and the node's position.
module _ (ws : List ℕ) (sound : Sound (registry_of ws)) (k : NodeId) (here : k.0 < count_in ws) (n : Node) (loaded : n ≡ stored_node ws k.0)
    (a : HoistableAccessType) where
  pub root_way : {i : IdentifierId} {r : Bool} {s : ℕ} → n ≡ Root i r s
      → position_of (key_of (stored_node ws k.0)) a ∷ [] ≡ positions_to (full_path_of (registry_of ws) k) a
  root_way e =
      ap (λ (m : Node). position_of (key_of m) a ∷ []) (sym loaded ∙ e)
      ∙ sym (ap (λ (d : ReactiveScopeDependency). positions_to d a) (root_path ws sound k here n loaded e))

  pub node_way : {p : NodeId} {e : DependencyPathEntry} → n ≡ Child p e
      → positions_to (full_path_of (registry_of ws) p) (access_of e.optional) ++ (position_of (key_of (stored_node ws k.0)) a ∷ [])
      ≡ positions_to (full_path_of (registry_of ws) k) a
  node_way {p} {e} is =
      ap (λ (m : Node). positions_to (full_path_of (registry_of ws) p) (access_of e.optional) ++ (position_of (key_of m) a ∷ [])) (sym loaded ∙ is)
      ∙ sym (child_way a (child_path ws sound k here n loaded is).child)

-- The way of a path is the definition's, where the last position is NonNull.
entries_way : (k : Key) (es : List DependencyPathEntry) → positions_from k es NonNull ≡ record { key = k; access = access_before es } ∷ hoistable_entries es
entries_way k [] = refl
entries_way k (e ∷ es) = ap (λ (l : List HoistablePosition). position_of k (access_of e.optional) ∷ l) (entries_way (property_key e.property) es)

pub path_way : (d : ReactiveScopeDependency) → positions_to d NonNull ≡ hoistable_positions d
path_way d = entries_way (identifier_key d.identifier) d.path

-- The first entry's mark, where `optional` is the mark of the entry after the list.
abbrev pub starts_or : Bool → List DependencyPathEntry → Bool
starts_or optional [] = optional
starts_or optional (e ∷ es) = e.optional

pub starts_none : (es : List DependencyPathEntry) → starts_or false es ≡ starts_optional es
starts_none [] = refl
starts_none (e ∷ es) = refl

starts_snoc : (optional : Bool) (es : List DependencyPathEntry) (e : DependencyPathEntry) → starts_or optional (es ++ (e ∷ [])) ≡ starts_or e.optional es
starts_snoc optional [] e = refl
starts_snoc optional (d ∷ es) e = refl

pub starts_child : {d d' : ReactiveScopeDependency} {e : DependencyPathEntry} (optional : Bool) → Placed.Child d e d'
    → starts_or optional d'.path ≡ starts_or e.optional d.path
starts_child {d} {d'} {e} optional child = ap (starts_or optional) child.path ∙ starts_snoc optional d.path e

-- A node of the words, and its path in the registry that they hold.
use Prim.Native.Nat.{ℕ, zero, suc, ◌<◌}
use native.Mathlib.Omega.{arith}
use native.Mathlib.Nat.{not-suc-le-zero}
use mathlib.Core.Path.{◌≡◌, sym, ap, subst, ◌∙◌}
use mathlib.Core.Bool.{Bool}
use mathlib.Core.List.{List, [], ◌∷◌, ◌++◌}
use lib.ListN.{length, get_or}
use Rattle.entries.specs.declared.IdentifierId.{IdentifierId}
use Rattle.entries.specs.declared.NodeId.{NodeId}
use Rattle.entries.specs.declared.DependencyPathEntry.{DependencyPathEntry}
use Rattle.model.specs.Registry.{PropertyPathRegistry, full_path_of, root_node}
use Rattle.model.specs.RegistryLaws.{Sound, StandsAt, StandsAsChild}
use Rattle.model.specs.RegistryLaws as Placed
use Rattle.registry.specs.declared.Node.{Node}
use Rattle.registry.specs.declared.Node.TheVariants.{Root, Child}
use Rattle.registry.specs.Nodes.{origin_of, node_over, nodes_over, registry_from}
use Rattle.registry.specs.Words.{stored_node, count_in, nodes_of, registry_of}
use Rattle.registry.proofs.Stored.{nodes_of_length, nodes_of_at}
use Rattle.registry.proofs.View.{registry_length, origin_at}

node_over_lem : (before : PropertyPathRegistry) (ns : List Node) (k : ℕ) (d : Node) {i : IdentifierId} {r : Bool} {s : ℕ} → k < length ns
    → get_or ns k d ≡ Root i r s
    → Placed.node_at (nodes_over before ns) k ≡ root_node i r s
node_over_lem before [] k d l e = absurd (not-suc-le-zero l)
node_over_lem before (n ∷ ns) zero d l e = ap (node_over before) e
node_over_lem before (n ∷ ns) (suc k) d l e = node_over_lem (before ++ (node_over before n ∷ [])) ns k d (omega arith) e

module _ (ws : List ℕ) (sound : Sound (registry_of ws)) (k : NodeId) (here : k.0 < count_in ws) (n : Node) (loaded : n ≡ stored_node ws k.0) where
  pub root_path : {i : IdentifierId} {r : Bool} {s : ℕ} → n ≡ Root i r s → full_path_of (registry_of ws) k ≡ (root_node i r s).full_path
  unfolding registry_of registry_from
  root_path e =
      let size = nodes_of_length ws in
      ap (λ m. m.full_path) (node_over_lem [] (nodes_of ws) k.0 (stored_node ws k.0) (omega arith) (nodes_of_at ws k.0 here ∙ sym loaded ∙ e))

  pub child_path : {p : NodeId} {e : DependencyPathEntry} → n ≡ Child p e → StandsAsChild (registry_of ws) k.0 p e (full_path_of (registry_of ws) k)
  child_path e =
      let size = registry_length ws in
      subst (λ o. StandsAt (registry_of ws) k.0 o (full_path_of (registry_of ws) k)) (origin_at ws k.0 here ∙ ap origin_of (sym loaded ∙ e))
      (sound k.0 (omega arith))

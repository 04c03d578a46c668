-- A node of the model's registry by the node in the words, and the bytes of the nodes.
use Prim.Native.Nat.{ℕ, zero, suc, ◌*◌, ◌<◌}
use native.Mathlib.Omega.{arith}
use native.Mathlib.Nat.{not-suc-le-zero}
use mathlib.Core.Path.{◌≡◌, refl, sym, ap, subst, ◌∙◌}
use mathlib.Core.Bool.{Bool}
use mathlib.Core.List.{List, [], ◌∷◌, ◌++◌, append_assoc, append-nil}
use lib.ListN.{length, get_or, take, length-append}
use Rattle.entries.specs.declared.IdentifierId.{IdentifierId}
use Rattle.entries.specs.declared.NodeId.{NodeId}
use Rattle.entries.specs.declared.DependencyPathEntry.{DependencyPathEntry}
use Rattle.model.specs.Lists.{concat_map}
use Rattle.model.specs.Registry.{Origin, root, child_of, PropertyPathNode, PropertyPathRegistry, full_path_of}
use Rattle.model.specs.RegistryLaws.{StandsAt}
use Rattle.model.specs.RegistryLaws as Placed
use Rattle.model.specs.Answer.{number_bytes, flag, NO, parent_number, origin_bytes, node_bytes}
use Rattle.registry.specs.declared.Node.{Node}
use Rattle.registry.specs.declared.Node.TheVariants.{Root, Child}
use Rattle.registry.specs.Nodes.{origin_of, node_over, nodes_over, registry_from}
use Rattle.registry.specs.Words.{span_in, stored_node, count_in, nodes_of, registry_of, HoldsRegistry}
use Rattle.registry.proofs.Stored.{nodes_of_length, nodes_of_at}
use Rattle.registry.proofs.View.{registry_length, origin_at}
use Rattle.writer.proofs.Bytes.{number_length, step_length}
use Rattle.sheet_bytes.specs.declared.PathRoot.{PathRoot}
use Rattle.sheet_bytes.specs.Sheet.{root_of}

-- Node k of the registry is node k of the words over the nodes before it.

over_at : (before : PropertyPathRegistry) (ns : List Node) (k : ℕ) (d : Node) → k < length ns
    → Placed.node_at (nodes_over before ns) k ≡ node_over (before ++ take k (nodes_over before ns)) (get_or ns k d)
over_at before [] k d l = absurd (not-suc-le-zero l)
over_at before (n ∷ ns) zero d l = ap (λ (b : PropertyPathRegistry). node_over b n) (sym (append-nil before))
over_at before (n ∷ ns) (suc k) d l =
    let here = node_over before n in
    over_at (before ++ (here ∷ [])) ns k d (omega arith)
    ∙ ap (λ (b : PropertyPathRegistry). node_over b (get_or ns k d)) (append_assoc before (here ∷ []) (take k (nodes_over (before ++ (here ∷ [])) ns)))

node_at_lem : (ws : List ℕ) (k : ℕ) → k < count_in ws → Placed.node_at (registry_of ws) k ≡ node_over (take k (registry_of ws)) (stored_node ws k)
unfolding registry_of registry_from
node_at_lem ws k l =
    let size = nodes_of_length ws in
    over_at [] (nodes_of ws) k (stored_node ws k) (omega arith) ∙ ap (node_over (take k (registry_of ws))) (nodes_of_at ws k l)

span_over : (before : PropertyPathRegistry) (n : Node) → (node_over before n).full_path.span ≡ span_in n
span_over before (Root i r s) = refl
span_over before (Child p e) = refl

span_at : (ws : List ℕ) (k : ℕ) → k < count_in ws → (Placed.node_at (registry_of ws) k).full_path.span ≡ span_in (stored_node ws k)
span_at ws k l = ap (λ (n : PropertyPathNode). n.full_path.span) (node_at_lem ws k l) ∙ span_over (take k (registry_of ws)) (stored_node ws k)

-- A root has its own identifier and reactive mark, and a child those of its parent, which stands
-- before it.

pub root_here : (ws : List ℕ) (k : ℕ) → k < count_in ws → {i : IdentifierId} {r : Bool} {s : ℕ} → stored_node ws k ≡ Root i r s
    → record { identifier = i; reactive = r } ≡ root_of (Placed.node_at (registry_of ws) k).full_path
root_here ws k l e = sym (ap (λ (n : PropertyPathNode). root_of n.full_path) (node_at_lem ws k l ∙ ap (node_over (take k (registry_of ws))) e))

module _ {ws : List ℕ} (h : HoldsRegistry ws) (k : ℕ) (l : k < count_in ws) {p : NodeId} {e : DependencyPathEntry} (is : stored_node ws k ≡ Child p e) where
  stands : StandsAt (registry_of ws) k (child_of p e) (Placed.node_at (registry_of ws) k).full_path
  stands =
      let size = registry_length ws in
      subst (λ (o : Origin). StandsAt (registry_of ws) k o (Placed.node_at (registry_of ws) k).full_path) (origin_at ws k l ∙ ap origin_of is)
      (h.sound k (omega arith))

  pub parent_before : p.0 < k
  parent_before = stands.after

  pub parent_root : root_of (full_path_of (registry_of ws) p) ≡ root_of (Placed.node_at (registry_of ws) k).full_path
  parent_root = let c = stands.child in λ i. record { identifier = sym c.identifier i; reactive = sym c.reactive i }

-- The bytes of a node, from what the code has of it.

pub origin_length : (o : Origin) → length (origin_bytes o) ≡ 10
unfolding number_bytes
origin_length root = refl
origin_length (child_of p e) = step_length e

pub node_length : (n : PropertyPathNode) → length (node_bytes 4 n) ≡ 23
unfolding node_bytes
node_length n = simp (length-append, number_length, origin_length)

node_bytes_lem : (n : PropertyPathNode) (o : Origin) (r : PathRoot) (p s f : ℕ) → n.origin ≡ o → r ≡ root_of n.full_path → p ≡ parent_number o
    → n.full_path.span ≡ s → f ≡ flag r.reactive
    → number_bytes 2 NO ++ number_bytes 2 p ++ number_bytes 4 r.identifier.0 ++ origin_bytes o ++ number_bytes 4 s ++ number_bytes 1 f ≡ node_bytes 4 n
unfolding node_bytes
node_bytes_lem n o r p s f eo er ep es ef = rw (ef, er, ep, ← eo, ← es)

pub node_written : (ws : List ℕ) (k : ℕ) → k < count_in ws → (n : Node) (r : PathRoot) (p s f : ℕ) → n ≡ stored_node ws k → r ≡ root_of
    (Placed.node_at (registry_of ws) k).full_path
    → p ≡ parent_number (origin_of n) → s ≡ span_in n → f ≡ flag r.reactive
    → number_bytes 2 NO ++ number_bytes 2 p ++ number_bytes 4 r.identifier.0 ++ origin_bytes
    (origin_of n) ++ number_bytes 4 s ++ number_bytes 1 f ≡ node_bytes 4 (Placed.node_at (registry_of ws) k)
node_written ws k l n r p s f loaded er ep es ef =
    node_bytes_lem (Placed.node_at (registry_of ws) k) (origin_of n) r p s f (origin_at ws k l ∙ ap origin_of (sym loaded)) er ep
    (span_at ws k l ∙ ap span_in (sym loaded) ∙ sym es) ef

pub nodes_length : (ns : List PropertyPathNode) → length (concat_map (node_bytes 4) ns) ≡ 23 * length ns
nodes_length [] = refl
nodes_length (n ∷ ns) =
    let a = length-append (node_bytes 4 n) (concat_map (node_bytes 4) ns) in
    let b = node_length n in
    let c = nodes_length ns in
    omega arith

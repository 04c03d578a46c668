-- One entry of a path that is walked again, and one node more of it.
use Prim.Native.Nat.{ℕ, ◌+◌, ◌≤◌, ◌<◌}
use native.Mathlib.Omega.{arith}
use native.Mathlib.Nat.{add-zero}
use mathlib.Core.Path.{◌≡◌, refl, sym, ap, subst, ◌∙◌}
use mathlib.Core.Bool.{Bool, true, false, beq}
use mathlib.Core.List.{List, [], ◌∷◌}
use mathlib.Core.Logic.{◌⊎◌, inl, inr}
use lib.ListN.{length, length-append}
use lib.Dec.{eqb}
use Rattle.std.proofs.Common.{Result}
use Rattle.entries.specs.declared.IdentifierId.{IdentifierId}
use Rattle.entries.specs.declared.Refusal.{Refusal}
use Rattle.entries.specs.declared.NodeId.{NodeId}
use Rattle.entries.specs.declared.DependencyPathEntry.{DependencyPathEntry}
use Rattle.registry.specs.declared.Node.{Node}
use Rattle.registry.specs.declared.Node.TheVariants.{Root, Child}
use Rattle.registry.specs.Nodes.{origin_of}
use Rattle.registry.specs.Words.{stored_node, count_in, registry_of, Arrives}
use Rattle.registry.proofs.View.{registry_length, origin_at}
use Rattle.model.specs.Registry.{
  node_limit,
  PropertyPathRegistry,
  PropertyPathNode,
  Reached,
  Origin,
  child_of,
  find,
  find_or_make,
  full_path_of,
  with_optional,
  after_making,
  step_from,
  get_or_create_property_entry,
  is_child,
  is_child_by,
  child_node,
  walk_path,
}
use Rattle.model.specs.RegistryLaws as Placed
use Rattle.model.specs.RegistryLaws.{Sound, Proper, Extends}
use Rattle.model.proofs.RegistryLaws.{
  WasFound,
  WasMade,
  found_or_made,
  entry_optional,
  extends_length,
  find_extends,
  ensure_extends,
  path_extends,
  path_proper,
  found,
  path_longer,
  again_root,
  again_child,
  child_after,
  child_found,
}
use Rattle.model.specs.Sets.{NodeSet, same_node}
use Rattle.model.specs.Reduction.{reduced_mark}
use Rattle.model.specs.ReductionLaws.{LeadsBack}
use Rattle.model.proofs.ReductionLaws.{node_back}
use Rattle.model.specs.Tests.{decide, never, beq_same, eqb_same, eqb-true, and_first, and_second}
use Rattle.reduction.specs.Reduces.{ChildAt, leads_back}

-- One entry.

module _ (mark : NodeId → DependencyPathEntry → Bool) (reg : PropertyPathRegistry) (p q k : NodeId) (e : DependencyPathEntry) (o : Bool)
    (own : o ≡ mark q e) where
  abbrev stepped : ℕ → Reached
  stepped before = step_from mark (record { registry = reg; node = q; made = before }) e

  abbrev child_of_reached : Reached
  child_of_reached = get_or_create_property_entry reg q (with_optional e o)

  stepped_is : (before : ℕ) → stepped before ≡ after_making before child_of_reached
  stepped_is before = ap (λ b. after_making before (get_or_create_property_entry reg q (with_optional e b))) (sym own)

  -- the parent is where it was and the mark stays: the node is found
  pub step_same : (before : ℕ) → ChildAt reg p e k → q.0 ≡ p.0 → o ≡ e.optional → stepped before ≡ record { registry = reg; node = k; made = before }
  step_same before c here kept =
      let there : child_of_reached ≡ record { registry = reg; node = k; made = 0 } =
      ap (λ b. get_or_create_property_entry reg q (with_optional e b)) kept
      ∙ ap (λ (i : ℕ). get_or_create_property_entry reg (record { 0 = i }) e) here ∙ found (is_child_by p e) (child_node p (full_path_of reg p) e) reg k
      c.inside c.first in
      stepped_is before ∙ ap (after_making before) there ∙ (λ i. record { registry = reg; node = k; made = add-zero before i })

-- One node more.

-- a node that was loaded from a sound registry's words
pub record Loaded (ws : List ℕ) (k : NodeId) (n : Node) : Type 0 where
  pub sound : Sound (registry_of ws)
  pub here : k.0 < count_in ws
  pub loaded : n ≡ stored_node ws k.0

module _ (mark : NodeId → DependencyPathEntry → Bool) {ws : List ℕ} {k : NodeId} {n : Node} (x : Loaded ws k n) where
  abbrev reg : PropertyPathRegistry
  reg = registry_of ws

  abbrev again : NodeId → Reached
  again j = walk_path mark reg (full_path_of reg j)

  inside : k.0 < length reg
  inside = let size = registry_length ws in let l = x.here in omega arith

  hangs : (m : Node) → n ≡ m → (Rattle.model.specs.RegistryLaws.node_at reg k.0).origin ≡ origin_of m
  hangs m e = origin_at ws k.0 x.here ∙ ap origin_of (sym x.loaded ∙ e)

  pub walk_root : (i : IdentifierId) (r : Bool) (s : ℕ) → n ≡ Root i r s → again k ≡ record { registry = reg; node = k; made = 0 }
  walk_root i r s e = again_root mark reg x.sound k inside (hangs (Root i r s) e)

  module _ {p : NodeId} {e : DependencyPathEntry} (child : n ≡ Child p e) where
    pub parent_before : p.0 < k.0
    parent_before = child_after mark reg x.sound k inside p e (hangs (Child p e) child)

    on : again k ≡ step_from mark (again p) e
    on = again_child mark reg x.sound k inside p e (hangs (Child p e) child)

    -- the parent's walk has no room: nor has this one
    pub walk_full : node_limit < length (again p).registry → node_limit < length (again k).registry
    walk_full full =
        let o = with_optional e (mark (again p).node e) in
        let longer = extends_length (ensure_extends (is_child_by (again p).node o)
        (child_node (again p).node (full_path_of (again p).registry (again p).node) o) (again p).registry) in
        let same = ap (λ (y : Reached). length y.registry) on in
        omega arith

    module _ (vs : List ℕ) {q : NodeId} {made : ℕ} (walked : again p ≡ record { registry = registry_of vs; node = q; made = made }) where
      extends : Extends reg (registry_of vs)
      extends = subst (λ (y : Reached). Extends reg y.registry) walked (path_extends mark reg (full_path_of reg p))

      pub reached_inside : q.0 < count_in vs
      reached_inside = let size = registry_length vs in let l = (subst Proper walked (path_proper mark reg (full_path_of reg p) x.sound)).inside in omega arith

      -- what was made is among the nodes
      pub walked_made : made ≤ count_in vs
      walked_made =
          let size = registry_length vs in
          let longer = subst (λ (y : Reached). length y.registry ≡ length reg + y.made) walked (path_longer mark reg (full_path_of reg p)) in
          omega arith

      pub child_still : ChildAt (registry_of vs) p e k
      child_still =
          let f = child_found mark reg x.sound k inside p e (hangs (Child p e) child) in
          let l = inside in
          let longer = extends_length extends in
          record { inside = omega arith; first = find_extends (is_child_by p e) extends (omega arith) ∙ f }

      pub walk_child : (r : Result (NodeId × ℕ) Refusal) (us os : List ℕ)
          → Arrives (step_from mark (record { registry = registry_of vs; node = q; made = made }) e) r us os → Arrives (again k) r us os
      walk_child r us os a = subst (λ (y : Reached). Arrives y r us os) (ap (λ (y : Reached). step_from mark y e) (sym walked) ∙ sym on) a

    -- the parent's walk leads back to it, and the entry keeps its mark
    pub walk_back : (o : Bool) → o ≡ mark p e → o ≡ e.optional → again p ≡ record { registry = reg; node = p; made = 0 }
        → again k ≡ record { registry = reg; node = k; made = 0 }
    walk_back o own kept back = on ∙ ap (λ (y : Reached). step_from mark y e) back ∙ step_same mark reg p p k e o own 0 (child_still ws back) refl kept

    -- what the parent's walk reaches, the entry under its mark there, and the test for that child
    abbrev reached : NodeId
    reached = (again p).node

    abbrev marked : DependencyPathEntry
    marked = with_optional e (mark reached e)

    abbrev wanted : PropertyPathNode → Bool
    wanted = is_child_by reached marked

    abbrev new : PropertyPathNode
    new = child_node reached (full_path_of (again p).registry reached) marked

    -- the node's walk leads back to it: so does its parent's, and the entry keeps its mark
    pub back_parent : again k ≡ record { registry = reg; node = k; made = 0 } → (again p ≡ record { registry = reg; node = p; made = 0 })
        × (mark p e ≡ e.optional)
    back_parent back = go (found_or_made wanted new (again p).registry)
      where
        to : after_making (again p).made (find_or_make wanted new (again p).registry) ≡ record { registry = reg; node = k; made = 0 }
        to = sym on ∙ back

        go : WasFound wanted new (again p).registry ⊎ WasMade wanted new (again p).registry
            → (again p ≡ record { registry = reg; node = p; made = 0 }) × (mark p e ≡ e.optional)
        go (inr m) =
            let longer = extends_length (path_extends mark reg (full_path_of reg p)) in
            let more = ap length m.appended ∙ length-append (again p).registry (new ∷ []) in
            let same = ap (λ (y : Reached). length y.registry) to in
            absurd (omega arith)
        go (inl f) =
            let same : (again p).registry ≡ reg = sym f.same ∙ ap (λ (y : Reached). y.registry) to in
            let number : find wanted (again p).registry ≡ k.0 = ap (λ (y : Reached). y.node.0) to in
            let passes : wanted (Placed.node_at reg k.0) ≡ true =
            ap (λ (r : PropertyPathRegistry). wanted (Placed.node_at r k.0)) (sym same) ∙ ap
            (λ (i : ℕ). wanted (Placed.node_at (again p).registry i)) (sym number) ∙ f.passes in
            let child-test : is_child reached marked (child_of p e) ≡ true = subst (λ (y : Origin). is_child reached marked y ≡ true)
            (hangs (Child p e) child) passes in
            let parent : p.0 ≡ reached.0 = eqb-true p.0 reached.0 (and_first (eqb p.0 reached.0) _ child-test) in
            let kept : e.optional ≡ mark reached e = entry_optional e marked (and_second (eqb p.0 reached.0) _ child-test) in
            let none : (again p).made ≡ 0 = let total = ap (λ (y : Reached). y.made) to in omega arith in
            (λ i. record { registry = same i; node = record { 0 = sym parent i }; made = none i }, ap (λ (i : ℕ). mark (record { 0 = i }) e) parent ∙ sym kept)

-- A node that is reached from parent to parent: its path leads back to it where that of the first
-- node does, and the other way round.
pub record Climbing (ws : List ℕ) (s : NodeSet) (k at : NodeId) : Type 0 where
  pub inside : at.0 < count_in ws
  pub on : LeadsBack (registry_of ws) s at → LeadsBack (registry_of ws) s k
  pub down : LeadsBack (registry_of ws) s k → LeadsBack (registry_of ws) s at

module _ {ws : List ℕ} {s : NodeSet} {k at : NodeId} (x : Climbing ws s k at) (sound : Sound (registry_of ws)) {n : Node}
    (loaded : n ≡ stored_node ws at.0) where
  here : Loaded ws at n
  here = record { sound = sound; here = x.inside; loaded = loaded }

  pub climbed : {i : IdentifierId} {r : Bool} {span : ℕ} → n ≡ Root i r span → true ≡ leads_back (registry_of ws) s k
  climbed {i} {r} {span} e = sym (ap (λ (y : Reached). same_node y.node k) (x.on (walk_root (reduced_mark s) here i r span e)) ∙ eqb_same k.0)

  module _ {p : NodeId} {e : DependencyPathEntry} (child : n ≡ Child p e) where
    pub climb_lower : p.0 < at.0
    climb_lower = parent_before (reduced_mark s) here child

    module _ (o : Bool) (own : o ≡ reduced_mark s p e) where
      pub climb : o ≡ e.optional → Climbing ws s k p
      climb kept = record {
        inside = let l = climb_lower in let i = x.inside in omega arith;
        on = λ back. x.on (walk_back (reduced_mark s) here child o own kept back);
        down = λ back. (back_parent (reduced_mark s) here child (x.down back)).0;
      }

      pub climb_stops : k.0 < count_in ws → beq o e.optional ≡ false → false ≡ leads_back (registry_of ws) s k
      climb_stops first lost =
          let size = registry_length ws in
          decide (leads_back (registry_of ws) s k)
          (λ t.
          let kept = own ∙ (back_parent (reduced_mark s) here child (x.down (node_back s (registry_of ws) k sound (omega arith) t))).1 in
          never (ap (λ b. beq b e.optional) kept ∙ beq_same e.optional) lost)
          (λ t. sym t)

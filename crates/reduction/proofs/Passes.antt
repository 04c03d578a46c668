-- One node of a pass, and the nodes that are left of it.
use Prim.Native.Nat.{ℕ, ◌≤◌, ◌<◌}
use native.Mathlib.Omega.{arith}
use mathlib.Core.Path.{◌≡◌, refl, sym, ap, subst, ◌∙◌}
use mathlib.Core.Bool.{Bool, true, false, ◌||◌, not, cond, or-true}
use mathlib.Core.List.{List, [], ◌∷◌}
use lib.ListN.{length}
use Rattle.entries.specs.declared.NodeId.{NodeId}
use Rattle.rows.specs.Members.{members_of}
use Rattle.registry.specs.Words.{count_in, registry_of, Held}
use Rattle.registry.proofs.View.{registry_length}
use Rattle.model.specs.Lists.{select}
use Rattle.model.specs.ListLaws.{All, all_map, all_select, select_same}
use Rattle.model.specs.Tests.{eqb_apart}
use Rattle.model.specs.Sets.{NodeSet, same_node, contains, insert, remove, intersection}
use Rattle.model.specs.Registry.{node_limit, PropertyPathRegistry, Reached, full_path_of, walk_path}
use Rattle.model.specs.RegistryLaws.{Sound, Proper, Extends}
use Rattle.model.proofs.RegistryLaws.{extends_length, path_proper}
use Rattle.model.specs.Reduction.{PassState, reduced_mark, reduce_node, reduce_nodes, has_optional, pass}
use Rattle.model.specs.ReductionLaws.{Members}
use Rattle.model.proofs.ReductionLaws.{node_still, node_back, node_extends, nodes_extend}
use Rattle.reduction.specs.Reduces.{leads_back, pass_of}

-- One node.

module _ (ws s : List ℕ) (changed : Bool) (k : NodeId) where
  abbrev reg : PropertyPathRegistry
  reg = registry_of ws

  abbrev at : Reached
  at = walk_path (reduced_mark (members_of s)) reg (full_path_of reg k)

  abbrev wanted : PassState
  wanted = reduce_node (pass_of reg s changed) k

  abbrev from : Reached → PassState
  from a = record {
    registry = a.registry;
    set = cond (same_node a.node k) (members_of s) (insert a.node (remove k (members_of s)));
    changed = changed || not (same_node a.node k);
  }

  is_from : wanted ≡ from at
  unfolding reduce_node
  is_from = refl

  node_full : node_limit < length at.registry → node_limit < length wanted.registry
  node_full full = let same = ap (λ (x : PassState). length x.registry) is_from in omega arith

  module _ (vs : List ℕ) (q : NodeId) (made : ℕ) (walked : at ≡ record { registry = registry_of vs; node = q; made = made }) where
    pub node_inside : Sound reg → count_in vs ≤ 512 → q.0 < 512
    node_inside h room = let size = registry_length vs in let l = (subst Proper walked
        (path_proper (reduced_mark (members_of s)) reg (full_path_of reg k) h)).inside in omega arith

    pub node_moved : ¬ (q.0 ≡ k.0) → (t : List ℕ) → members_of t ≡ insert q (remove k (members_of s)) → wanted ≡ pass_of (registry_of vs) t true
    node_moved other t e =
        let there : same_node q k ≡ false = eqb_apart q.0 k.0 other in
        is_from ∙ ap from walked ∙ rw (there, or-true changed, e)

-- The nodes that are left of a pass: they are the registry's, and reduced from here they give what
-- the pass gives.
pub record Along (end : PassState) (ws s : List ℕ) (changed : Bool) (left : NodeSet) : Type 0 where
  pub inside : All (λ k. k.0 < count_in ws) left
  pub on : reduce_nodes (pass_of (registry_of ws) s changed) left ≡ end

all_noted : (ws os : List ℕ) → Held ws os → (t : NodeSet) → All (λ k. contains (members_of os) k ≡ has_optional (registry_of ws) k) t
all_noted ws os h [] = tt
all_noted ws os h (k ∷ t) = (h.noted k, all_noted ws os h t)

pub along_start : (ws os s : List ℕ) (left : NodeSet) → Held ws os → Members (registry_of ws) (members_of s)
    → left ≡ intersection (members_of s) (members_of os)
    → Along (pass (registry_of ws) (members_of s)) ws s false left
unfolding pass
along_start ws os s left held members taken = record {
  inside = rw marked (all_select (λ k. k.0 < count_in ws) (has_optional (registry_of ws)) (members_of s)
      (subst (λ n. All (λ k. k.0 < n) (members_of s)) (registry_length ws) members.inside));
  on = ap (reduce_nodes (pass_of (registry_of ws) s false)) marked;
}
  where
    marked : left ≡ select (has_optional (registry_of ws)) (members_of s)
    marked = taken ∙ select_same (contains (members_of os)) (has_optional (registry_of ws)) (members_of s) (all_noted ws os held (members_of s))

-- one node more
module _ {end : PassState} {ws s : List ℕ} {changed : Bool} {left : NodeSet} (a : Along end ws s changed left)
    (k : NodeId) (rest : NodeSet) (next : left ≡ k ∷ rest) where
  abbrev one : PassState
  one = reduce_node (pass_of (registry_of ws) s changed) k

  all_inside : All (λ j. j.0 < count_in ws) (k ∷ rest)
  all_inside = subst (All (λ j. j.0 < count_in ws)) next a.inside

  pub along_inside : k.0 < count_in ws
  along_inside = all_inside.0

  onward : reduce_nodes one rest ≡ end
  onward = ap (reduce_nodes (pass_of (registry_of ws) s changed)) (sym next) ∙ a.on

  -- a node whose path leads back to it changes nothing
  pub along_back : Sound (registry_of ws) → leads_back (registry_of ws) (members_of s) k ≡ true → Along end ws s changed rest
  along_back sound back =
      let size = registry_length ws in
      let here = along_inside in
      let still = node_still (pass_of (registry_of ws) s changed) k (node_back (members_of s) (registry_of ws) k sound (omega arith) back) in
      record { inside = all_inside.1; on = ap (λ (x : PassState). reduce_nodes x rest) (sym still) ∙ onward }

  -- there is no room for its path: nor is there for the pass
  pub along_full : node_limit < length (walk_path (reduced_mark (members_of s)) (registry_of ws) (full_path_of (registry_of ws) k)).registry
      → node_limit < length end.registry
  along_full full =
      let past = node_full ws s changed k full in
      let longer = extends_length (nodes_extend one rest) in
      let same = ap (λ (x : PassState). length x.registry) onward in
      omega arith

  pub along_more : (vs t : List ℕ) (c : Bool) → one ≡ pass_of (registry_of vs) t c → Along end vs t c rest
  along_more vs t c to =
      let longer = extends_length (subst (λ (x : PassState). Extends (registry_of ws) x.registry) to (node_extends (pass_of (registry_of ws) s changed) k)) in
      let before = registry_length ws in
      let after = registry_length vs in
      record {
        inside = all_map (λ j. j.0 < count_in ws) (λ j. j.0 < count_in vs) (λ j l. omega arith) rest all_inside.1;
        on = ap (λ (x : PassState). reduce_nodes x rest) (sym to) ∙ onward;
      }

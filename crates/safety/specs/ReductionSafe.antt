-- The reduction of a set of safe nodes is a set of safe nodes, however many passes it takes.
use Prim.Native.Nat.{ℕ, zero, suc}
use Rattle.std.specs.Prelude.{List, [], ◌∷◌}
use Rattle.std.proofs.Math.Bool.{not}
use Rattle.entries.specs.declared.NodeId.{NodeId}
use Rattle.model.specs.ReadingPaths.{Store}
use Rattle.model.specs.Lists.{select}
use Rattle.model.specs.Sets.{NodeSet, same_node, remove}
use Rattle.model.specs.Registry.{PropertyPathRegistry, full_path_of, walk_path}
use Rattle.model.specs.Reduction.{
  PassState,
  reduced_mark,
  reduce_node,
  reduce_nodes,
  pass_start,
  has_optional,
  pass,
  passes,
  reduce_maybe_optional_chains,
  optional_marks_of,
}
use Rattle.model.specs.Tests.{by_cond, decide}
use Rattle.model.specs.ListLaws.{all_select}
use Rattle.model.specs.SetLaws.{insert_all}
use Rattle.model.specs.RegistryLaws.{Sound}
use Rattle.model.proofs.RegistryLaws.{path_extends}
use Rattle.model.proofs.ReductionLaws.{node_extends, node_sound, pass_sound, passes_on, passes_stop}
use Rattle.safety.specs.RegistrySafe.{NonNullNode, NonNullSet, set_extends, path_safe}

module _ {X : Type 0} (S : Store X) where
  node_safe : (r : PassState) (k : NodeId) → Sound r.registry → NonNullNode S r.registry k → NonNullSet S r.registry
      r.set → NonNullSet S (reduce_node r k).registry (reduce_node r k).set
  unfolding reduce_node
  node_safe r k s n h =
      let d = full_path_of r.registry k in
      let at = walk_path (reduced_mark r.set) r.registry d in
      let kept = set_extends S r.set (path_extends (reduced_mark r.set) r.registry d) h in
      by_cond (NonNullSet S at.registry) (same_node at.node k) (λ e. kept)
      (λ e. insert_all (NonNullNode S at.registry) at.node (remove k r.set)
      (path_safe S (reduced_mark r.set) r.registry d s n.safe)
      (all_select (NonNullNode S at.registry) (λ x. not (same_node x k)) r.set kept))

  nodes_safe : (r : PassState) (ks : List NodeId) → Sound r.registry → NonNullSet S r.registry r.set → NonNullSet S
      r.registry ks
      → NonNullSet S (reduce_nodes r ks).registry (reduce_nodes r ks).set
  nodes_safe r [] s h n = h
  nodes_safe r (k ∷ ks) s h n = nodes_safe (reduce_node r k) ks (node_sound r k s) (node_safe r k s n.0 h)
      (set_extends S ks (node_extends r k) n.1)

  pass_safe : (reg : PropertyPathRegistry) (s : NodeSet) → Sound reg → NonNullSet S reg s → NonNullSet S (pass reg s).registry
      (pass reg s).set
  unfolding pass
  pass_safe reg s h a =
      nodes_safe (pass_start reg s) (select (has_optional reg) s) h a (all_select (NonNullNode S reg) (has_optional reg) s a)

  passes_safe : (most : ℕ) (reg : PropertyPathRegistry) (s : NodeSet) → Sound reg → NonNullSet S reg s → NonNullSet S
      (passes most reg s).registry (passes most reg s).set
  unfolding passes
  passes_safe zero reg s h a = a
  passes_safe (suc most) reg s h a =
      let p = pass_safe reg s h a in
      decide (pass reg s).changed (λ e. rw (passes_on most reg s e)
      (passes_safe most (pass reg s).registry (pass reg s).set (pass_sound reg s h) p))
      (λ e. rw (passes_stop most reg s e) p)

  pub reduction_safe : (reg : PropertyPathRegistry) (s : NodeSet) → Sound reg → NonNullSet S reg s
      → NonNullSet S (reduce_maybe_optional_chains reg s).registry (reduce_maybe_optional_chains reg s).set
  unfolding reduce_maybe_optional_chains
  reduction_safe reg s h a = passes_safe (suc (optional_marks_of reg s)) reg s h a

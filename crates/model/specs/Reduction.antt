-- Document 01, module 3 (Reduction): `reduce_maybe_optional_chains`.
use Rattle.std.specs.Prelude.{ℕ, zero, suc, Bool, true, false, ◌&&◌, ◌||◌, not, cond}
use mathlib.Core.List.{List, foldl}
use Rattle.entries.specs.declared.NodeId.{NodeId}
use Rattle.entries.specs.declared.DependencyPathEntry.{DependencyPathEntry}
use Rattle.model.specs.Lists.{select, any_of, count_of, sum_of}
use Rattle.model.specs.Sets.{NodeSet, same_node, contains, insert, remove}
use Rattle.model.specs.Registry.{PropertyPathRegistry, full_path_of, walk_from, walk_path}

-- a registry and a set of its nodes, as a pass has them so far, and whether it has changed the set
pub record PassState : Type 0 where
  pub registry : PropertyPathRegistry
  pub set : NodeSet
  pub changed : Bool

-- what a reduction returns: the registry, and the reduced set of its nodes
pub record Reduced : Type 0 where
  pub registry : PropertyPathRegistry
  pub set : NodeSet

-- What a pass leaves, whether or not it has changed the set.
abbrev pub left_by : PassState → Reduced
left_by r = record { registry = r.registry; set = r.set }

-- "An optional entry becomes plain where the node reached so far is in the set at that moment."
abbrev pub reduced_mark : NodeSet → NodeId → DependencyPathEntry → Bool
reduced_mark s k e = e.optional && not (contains s k)

-- "Each path is walked again from its root .. A changed node is replaced at once. .. Nodes made on
-- the way stay in the registry."
unfoldable pub reduce_node : PassState → NodeId → PassState
unfolding walk_from
reduce_node r k =
    let at = walk_path (reduced_mark r.set) r.registry (full_path_of r.registry k) in
    record {
      registry = at.registry;
      set = cond (same_node at.node k) r.set (insert at.node (remove k r.set));
      changed = r.changed || not (same_node at.node k);
    }

-- The nodes of a pass, one after the other, each with the set as the one before left it: "replaced
-- at once".
abbrev pub reduce_nodes : PassState → List NodeId → PassState
reduce_nodes r ks = foldl reduce_node r ks

-- As a pass starts: it has changed nothing.
abbrev pub pass_start : PropertyPathRegistry → NodeSet → PassState
pass_start reg s = record { registry = reg; set = s; changed = false }

-- "Nodes with an optional entry": one stands in the node's path.
abbrev pub has_optional : PropertyPathRegistry → NodeId → Bool
has_optional reg k = any_of (λ (e : DependencyPathEntry). e.optional) (full_path_of reg k).path

-- "Passes over the set's nodes with an optional entry, ascending, from a list taken at the start of
-- the pass."
unfoldable pub pass : PropertyPathRegistry → NodeSet → PassState
unfolding reduce_node
pass reg s = reduce_nodes (pass_start reg s) (select (has_optional reg) s)

-- "Passes repeat until one changes nothing": at most `most` passes.
unfoldable pub passes : ℕ → PropertyPathRegistry → NodeSet → Reduced
unfolding pass
passes zero reg s = record { registry = reg; set = s }
passes (suc most) reg s =
    let r = pass reg s in
    elim r.changed [ true ↦ passes most r.registry r.set | false ↦ left_by r ]

-- how many optional marks a path has
unfoldable pub optional_marks : List DependencyPathEntry → ℕ
optional_marks es = count_of (λ (e : DependencyPathEntry). e.optional) es

-- how many the paths of a set's nodes have together
unfoldable pub optional_marks_of : PropertyPathRegistry → NodeSet → ℕ
unfolding optional_marks
optional_marks_of reg s = sum_of (λ k. optional_marks (full_path_of reg k).path) s

-- Each changing pass takes an optional mark away, so one pass more than there are marks is enough:
-- the last changed nothing (`ReductionLaws`).
unfoldable pub reduce_maybe_optional_chains : PropertyPathRegistry → NodeSet → Reduced
unfolding passes optional_marks_of
reduce_maybe_optional_chains reg s = passes (suc (optional_marks_of reg s)) reg s

-- What a reduction in the words leaves.
use Rattle.std.specs.Prelude.{ℕ, ◌<◌, ◌≡◌, Bool, true, List, length, Result, Ok, Err}
use Rattle.entries.specs.declared.NodeId.{NodeId}
use Rattle.entries.specs.declared.DependencyPathEntry.{DependencyPathEntry}
use Rattle.entries.specs.declared.Refusal.{Refusal}
use Rattle.entries.specs.declared.Refusal.TheVariants.{ManyNodes}
use Rattle.rows.specs.declared.NodeBits.{NodeBits}
use Rattle.rows.specs.Members.{members_of}
use Rattle.registry.specs.Words.{registry_of, Held}
use Rattle.model.specs.Registry.{node_limit, PropertyPathRegistry, find, is_child_by, full_path_of, walk_path}
use Rattle.model.specs.Sets.{NodeSet, same_node}
use Rattle.model.specs.Reduction.{PassState, Reduced, reduced_mark}
use Rattle.model.specs.ReductionLaws.{Members, IsReduced}

-- node k is the child of p by the entry e
pub record ChildAt (reg : PropertyPathRegistry) (p : NodeId) (e : DependencyPathEntry) (k : NodeId) : Type 0 where
  pub inside : k.0 < length reg
  pub first : find (is_child_by p e) reg ≡ k.0

-- A node's path, walked again under the marks that the set leaves, leads back to it.
abbrev pub leads_back : PropertyPathRegistry → NodeSet → NodeId → Bool
leads_back reg s k = same_node (walk_path (reduced_mark s) reg (full_path_of reg k)).node k

-- A set of the registry's nodes is reduced, where that is known.
abbrev pub KnownReduced : Bool → PropertyPathRegistry → NodeSet → Type 0
KnownReduced known reg s = known ≡ true → Members reg s × IsReduced reg s

-- the model's value of a registry, a set and whether a pass has changed it
abbrev pub pass_of : PropertyPathRegistry → List ℕ → Bool → PassState
pass_of reg s changed = record { registry = reg; set = members_of s; changed = changed }

-- the model's value of a registry and a reduced set
abbrev pub reduced_of : PropertyPathRegistry → NodeBits → Reduced
reduced_of reg r = record { registry = reg; set = members_of r.words }

-- The words hold what a pass was to reach, and `s` its set; or that has no room, which is the
-- refusal.
abbrev pub Passes : PassState → Result Bool Refusal → List ℕ → List ℕ → List ℕ → Type 0
Passes want (Ok changed) ws os s = Held ws os × (want ≡ pass_of (registry_of ws) s changed)
Passes want (Err e) ws os s = (e ≡ ManyNodes) × (node_limit < length want.registry)

-- The words hold what a reduction was to reach, or that has no room.
abbrev pub Reduces : Reduced → Result NodeBits Refusal → List ℕ → List ℕ → Type 0
Reduces want (Ok r) ws os = Held ws os × (want ≡ reduced_of (registry_of ws) r)
Reduces want (Err e) ws os = (e ≡ ManyNodes) × (node_limit < length want.registry)

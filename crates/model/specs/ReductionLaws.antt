-- What the laws of reduction speak of (the laws are in `proofs/ReductionLaws`): sets of the nodes
-- of a registry, functions that repeat passes, and sets that are reduced already.
use Prim.Native.Nat.{◌<◌}
use Rattle.std.specs.Prelude.{◌≡◌}
use Rattle.std.proofs.Math.Bool.{true, false}
use Rattle.std.proofs.Math.ListN.{length}
use Rattle.entries.specs.declared.NodeId.{NodeId}
use Rattle.model.specs.Sets.{NodeSet}
use Rattle.model.specs.Registry.{PropertyPathRegistry, full_path_of, walk_path}
use Rattle.model.specs.Reduction.{Reduced, left_by, reduced_mark, pass_start, pass}
use Rattle.model.specs.ListLaws.{All}
use Rattle.model.specs.SetLaws.{Ascending}
use Rattle.model.specs.RegistryLaws.{Sound}

-- A set of the registry's nodes.
pub record Members (reg : PropertyPathRegistry) (s : NodeSet) : Type 0 where
  pub ascending : Ascending s
  pub inside : All (λ k. k.0 < length reg) s

-- any function that repeats passes until one changes nothing
abbrev pub Repeats : (PropertyPathRegistry → NodeSet → Reduced) → Type 0
Repeats v = (reg : PropertyPathRegistry) (s : NodeSet) → Sound reg → Members reg s →
    ((pass reg s).changed ≡ true → v reg s ≡ v (pass reg s).registry (pass reg s).set) ×
    ((pass reg s).changed ≡ false → v reg s ≡ left_by (pass reg s))

-- a pass over the set changes nothing and makes nothing
abbrev pub IsReduced : PropertyPathRegistry → NodeSet → Type 0
IsReduced reg s = pass reg s ≡ pass_start reg s

-- a node's path, walked again, leads back to the node and makes nothing
abbrev pub LeadsBack : PropertyPathRegistry → NodeSet → NodeId → Type 0
LeadsBack reg s k = walk_path (reduced_mark s) reg (full_path_of reg k) ≡ record { registry = reg; node = k; made = 0 }

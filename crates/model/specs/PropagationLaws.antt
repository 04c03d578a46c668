-- What the laws of propagation speak of (the laws are in `proofs/PropagationLaws`): sound
-- registries with sets of their nodes, sets that are reduced, and registries that only reductions
-- made longer.
use Prim.Native.Nat.{ℕ}
use Rattle.std.specs.Prelude.{◌≡◌}
use mathlib.Core.List.{List, [], ◌∷◌, map}
use Rattle.model.specs.Sets.{NodeSet, union}
use Rattle.model.specs.Registry.{PropertyPathRegistry}
use Rattle.model.specs.Propagation.{Work, set_of, Reducer, intersection_of}
use Rattle.model.specs.ListLaws.{All}
use Rattle.model.specs.RegistryLaws.{Sound}
use Rattle.model.specs.ReductionLaws.{Members, IsReduced}

-- a sound registry, and sets of its nodes
pub record ProperWork (w : Work) : Type 0 where
  pub sound : Sound w.registry
  pub members : All (Members w.registry) w.sets

-- what a block reduces: its set, joined
abbrev pub joined_set : List ℕ → ℕ → Work → NodeSet
joined_set neighbours b w = union (set_of w.sets b) (intersection_of (map (set_of w.sets) neighbours))

abbrev pub ReducedAt : Work → ℕ → Type 0
ReducedAt w b = IsReduced w.registry (set_of w.sets b)

-- a registry after the reductions of sets, one after the other
abbrev pub after_reductions : Reducer → PropertyPathRegistry → List NodeSet → PropertyPathRegistry
after_reductions v reg [] = reg
after_reductions v reg (s ∷ ss) = after_reductions v (v reg s).registry ss

-- the registry is that before, after reductions alone
abbrev pub OnlyReduced : Reducer → PropertyPathRegistry → PropertyPathRegistry → Type 0
OnlyReduced v before after = (sets : List NodeSet) × (after ≡ after_reductions v before sets)

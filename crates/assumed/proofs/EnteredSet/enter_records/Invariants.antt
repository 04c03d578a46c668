-- The loop's invariant, `Filling`: the records that are left were read, and what enters what they
-- bring after those before enters all of it.
use Prim.Native.Nat.{◌-◌}
use Rattle.model.specs.Stage.{enter_paths}
use Rattle.registry.specs.Words.{registry_of}
use Rattle.assumed.specs.Start.{all_of, entered_so_far}
use Rattle.assumed.proofs.Filling.{values_at, end_at, Filling}
use Rattle.assumed.proofs.EnteredSet.enter_records.Given as goal

abbrev pub invariant-loop : goal.invariant-loop
invariant-loop l =
    Filling (enter_paths (entered_so_far (registry_of l.initial.registry.words) l.initial.self) (all_of (values_at l.s l.initial.self.at l.count)))
    (end_at l.s l.initial.self.at l.count) l.s l.registry.words l.self (l.count - l.counter)

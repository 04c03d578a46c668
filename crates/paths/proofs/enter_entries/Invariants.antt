-- The loop's invariant, `Entering`: what enters the entries that are left from the node reached so
-- far enters them all.
use Prim.Native.Nat.{◌-◌}
use Rattle.model.specs.ReadingBytes.{read_many}
use Rattle.model.specs.Job.{read_entry}
use Rattle.registry.specs.Words.{registry_of}
use Rattle.paths.specs.Enters.{walk_own}
use Rattle.paths.proofs.Entering.{Entering}
use Rattle.paths.proofs.enter_entries.Given as goal

abbrev pub invariant-loop : goal.invariant-loop
invariant-loop l =
    Entering (read_many l.count (read_entry 4) l.s l.fn.from.next)
    (walk_own (registry_of l.initial.registry.words) l.fn.from.node l.fn.from.made) l.s l.registry.words l.path.node l.path.made l.path.next
    (l.count - l.counter)

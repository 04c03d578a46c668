-- The loop's invariant, `Looking`: the path equals one of all earlier paths where it equals one of
-- those that are left.
use Prim.Native.Nat.{◌-◌}
use Rattle.thin_bytes.proofs.Repeating.{Looking}
use Rattle.thin_bytes.proofs.is_repeat.Given as goal

abbrev pub invariant-loop : goal.invariant-loop
invariant-loop l = Looking l.s l.first l.earlier l.at l.place (l.earlier - l.counter)

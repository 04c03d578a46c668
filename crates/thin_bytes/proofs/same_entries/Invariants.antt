-- The loop's invariant, `Comparing`: the entries that are left are equal where all are.
use Prim.Native.Nat.{◌-◌}
use Rattle.thin_bytes.proofs.Comparing.{Comparing}
use Rattle.thin_bytes.proofs.same_entries.Given as goal

abbrev pub invariant-loop : goal.invariant-loop
invariant-loop l = Comparing l.s l.a l.b l.count l.at l.other_at (l.count - l.counter)

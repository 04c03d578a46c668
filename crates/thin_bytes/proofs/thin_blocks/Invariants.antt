-- The loop's invariant, `Writing`: what is written of the blocks that are left behind those before
-- is what is written of all.
use Prim.Native.Nat.{◌-◌}
use Rattle.thin_bytes.proofs.Blocks.{Writing}
use Rattle.thin_bytes.proofs.thin_blocks.Given as goal

abbrev pub invariant-loop : goal.invariant-loop
invariant-loop l = Writing l.s l.first l.count l.initial.w l.w l.at (l.count - l.counter)

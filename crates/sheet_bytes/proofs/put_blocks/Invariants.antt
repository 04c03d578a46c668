-- The loop's invariant: the blocks before b are written.
use Prim.Native.Nat.{◌*◌}
use Rattle.sheet_bytes.specs.Sheet.{set_records}
use Rattle.writer.specs.Writes.{Puts}
use Rattle.sheet_bytes.proofs.put_blocks.Given as goal

abbrev pub invariant-loop-b : goal.invariant-loop-b
invariant-loop-b l = Puts l.initial.w l.w (70 * l.b) (set_records l.fn.ids l.sets 0 l.b)

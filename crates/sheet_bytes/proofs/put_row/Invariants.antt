-- The loop's invariant: the bytes of the row's words up to this one are written. A word's bytes are
-- the row's next eight.
use Prim.Native.Nat.{◌*◌}
use Rattle.model.specs.Answer.{row_bytes}
use Rattle.rows.specs.Rows.{row_of}
use Rattle.writer.specs.Writes.{Puts}
use Rattle.sheet_bytes.proofs.put_row.Given as goal

abbrev pub invariant-loop-word : goal.invariant-loop-word
invariant-loop-word l = Puts l.initial.w l.w (8 * l.word-index) (row_bytes (row_of l.sets l.b) 0 (8 * l.word-index))

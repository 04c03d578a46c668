-- The loop's invariant: what is left of the slice, stored behind the bytes that are done, gives the
-- whole.
use Rattle.std.proofs.Common.{◌≡◌, drop}
use Rattle.std.proofs.lemmas.List.Edits.{sets}
use Rattle.writer.proofs.Writer.bytes.Given as goal

abbrev pub invariant-loop-i : goal.invariant-loop-i
invariant-loop-i l = sets l.part l.i (drop l.i l.s) ≡ sets l.initial.part 0 l.s

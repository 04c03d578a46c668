-- The loop's invariant: what is left of the number, stored behind the bytes that are done, gives
-- the whole.
use Rattle.std.proofs.Common.{◌≡◌, ◌-◌}
use Rattle.std.proofs.lemmas.List.Edits.{sets}
use Rattle.model.specs.Answer.{number_bytes}
use Rattle.writer.proofs.Writer.number.Given as goal

abbrev pub invariant-loop-byte : goal.invariant-loop-byte
invariant-loop-byte l =
    sets l.byte-items l.byte-index (number_bytes (l.bytes - l.byte-index) l.rest) ≡ sets l.initial.byte-items 0 (number_bytes l.bytes l.x)

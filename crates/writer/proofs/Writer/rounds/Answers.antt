-- Two numbers, one after the other.
use Rattle.std.proofs.Common.{refl}
use Rattle.writer.proofs.Bytes.{puts_then, puts_number, puts_flag}
use Rattle.writer.proofs.Writer.rounds.Goals as goal

pub returns : goal.returns
returns c = puts_then (puts_number c.from.ensures c.number.ensures) (puts_flag _ _ c.from-2.ensures refl c.number-2.ensures)

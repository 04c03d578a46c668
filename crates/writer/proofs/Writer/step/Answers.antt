-- Three numbers, one after the other.
use Rattle.std.proofs.Common.{refl}
use Rattle.writer.proofs.Bytes.{puts_then, puts_number, puts_flag}
use Rattle.writer.proofs.Writer.step.Goals as goal

pub returns : goal.returns
returns c =
    puts_then
    (puts_then (puts_flag _ _ c.from.ensures refl c.number.ensures) (puts_flag _ _ c.from-2.ensures c.is_number.ensures c.number-2.ensures))
    (puts_number c.value.ensures c.number-3.ensures)

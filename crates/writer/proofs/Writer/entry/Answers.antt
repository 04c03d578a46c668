-- The step, and the span behind it.
use Rattle.writer.proofs.Bytes.{puts_then}
use Rattle.writer.proofs.Writer.entry.Goals as goal

pub returns : goal.returns
returns c = puts_then c.step.ensures c.number.ensures

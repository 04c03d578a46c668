-- Two numbers and the row.
use Rattle.writer.proofs.Bytes.{puts_then, puts_number}
use Rattle.sheet_bytes.proofs.put_block.Goals as goal

pub returns : goal.returns
returns c = puts_then (puts_then c.number.ensures (puts_number c.from.ensures c.number-2.ensures)) c.put_row.ensures

-- The head, the nodes and the blocks, one after the other. Each has its room: 10 + 512 * 23 + 128 *
-- 70 = 20,746 bytes are the most.
use Rattle.std.proofs.Common.{rules}
use Rattle.writer.proofs.Bytes.{puts_then, puts_as, puts_back}
use Rattle.sheet_bytes.proofs.Whole.{sheet_bytes_lem}
use Rattle.sheet_bytes.proofs.put_sheet.Goals as goal

pub returns : goal.returns
returns c j start p x =
    puts_back (search rules)
    (puts_as (sheet_bytes_lem c.count.result c.count.ensures x) (puts_then (puts_then c.put_head.ensures c.put_nodes.ensures) c.put_blocks.ensures))

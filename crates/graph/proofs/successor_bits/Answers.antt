-- `successor_bits` meets its contract: the word is put together of the eight bytes, so bit j of it
-- is bit j % 8 of byte j / 8.
use Rattle.graph.proofs.WordBytes.{all_bytes}
use Rattle.graph.proofs.successor_bits.Goals as goal

pub returns : goal.returns
returns c = all_bytes c.args.graph.now c.args.b c.args.half _ c.type_inv.graph c.from_le_bytes.ensures

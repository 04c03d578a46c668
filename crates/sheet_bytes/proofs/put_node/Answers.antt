-- The parts of a node, one after the other: what stands in the words is the node of the registry,
-- and the identifier and the reactive mark are its root's.
use Rattle.std.proofs.Common.{refl}
use Rattle.writer.proofs.Bytes.{puts_then, puts_as, puts_number, puts_flag}
use Rattle.sheet_bytes.proofs.Nodes.{node_written}
use Rattle.sheet_bytes.proofs.put_node.Goals as goal

pub returns : goal.returns
returns c =
    let front = puts_then (puts_then c.number.ensures c.number-2.ensures) (puts_number c.from.ensures c.number-3.ensures) in
    let back = puts_then (puts_then (puts_then front c.put_origin.ensures) c.number-4.ensures) (puts_flag _ _ c.from-2.ensures refl c.number-5.ensures) in
    puts_as
    (node_written c.args.nodes.words.now c.args.k.0 c.requires.0 c.load-n.result c.root_of-root.result _ _ _
    c.load-n.ensures c.root_of-root.ensures c.parent_number.ensures c.span.ensures refl)
    back

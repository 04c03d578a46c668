-- The head is made of the root and of the last position's span, and the entries follow it.
use Prim.Native.Nat.{◌-◌}
use Rattle.std.proofs.Common.{length, drop, arith, rules, take_all, length-drop}
use Rattle.writer.proofs.Bytes.{puts_to, puts_then}
use Rattle.tree.proofs.Putting.{way_bytes}
use Rattle.tree.proofs.put_path.Goals as goal

pub returns : goal.returns
returns c =
    let a = c.args in
    puts_to (search rules)
    (way_bytes a.s.now a.way.now c.position_of-root.result c.position_of-last.result c.requires.0 c.position_of-root.ensures c.position_of-last.ensures
    _ (take_all (length a.way.now - 1) (drop 1 a.way.now) (omega (arith, length-drop 1 a.way.now))))
    (puts_then c.path_head.ensures c.put_entries.ensures)

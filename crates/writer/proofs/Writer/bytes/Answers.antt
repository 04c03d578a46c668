-- The slice stands in the place of as many bytes, one of its bytes in each turn.
use Rattle.std.proofs.Common.{arith, refl, length}
use Rattle.writer.proofs.Bytes.{all_copied, part_length, puts_part}
use Rattle.writer.proofs.Writer.bytes.Goals as goal

pub returns : goal.returns
returns c =
    let l = c.loop-i in
    let w = c.args.self.now in
    let s = c.args.s.now in
    puts_part w (length s) l.part s c.requires refl
    (all_copied _ l.part s l.i (omega (arith, c.loop-i-test.false)) (part_length w (length s) c.requires) l.invariant)

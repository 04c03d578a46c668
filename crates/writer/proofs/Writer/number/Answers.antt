-- Each byte that is stored is the lowest of what is left; where all are stored, they are the
-- number.
use Rattle.std.proofs.Common.{sym, ◌∙◌, arith}
use Rattle.writer.proofs.Bytes.{byte_stored, number_length, all_stored, puts_part, part_length}
use Rattle.writer.proofs.Writer.number.Goals as goal

pub loop-byte-preserved : goal.loop-byte-preserved
loop-byte-preserved c =
    let l = c.loop-byte in
    let a = c.args in
    let size = part_length a.self.now a.bytes c.requires in
    sym (byte_stored l.byte-items l.byte-index a.bytes l.rest (omega arith)) ∙ l.invariant

pub returns : goal.returns
returns c =
    let l = c.loop-byte in
    let a = c.args in
    let size = part_length a.self.now a.bytes c.requires in
    puts_part a.self.now a.bytes l.byte-items _ c.requires (number_length a.bytes a.x)
    (all_stored _ l.byte-items l.byte-index a.bytes l.rest a.x (omega arith) size l.invariant)

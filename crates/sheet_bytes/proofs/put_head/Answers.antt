-- Four numbers, one after the other, with the rounds between them.
use Rattle.std.proofs.Common.{sym, append_assoc, ◌++◌}
use Rattle.model.specs.Answer.{u8, u16, SH, flag}
use Rattle.writer.proofs.Bytes.{puts_then, puts_as}
use Rattle.sheet_bytes.proofs.put_head.Goals as goal

pub returns : goal.returns
returns c =
    let a = c.args in
    let front = puts_then (puts_then c.number.ensures c.number-2.ensures) c.number-3.ensures in
    puts_then
    (puts_as (sym (append_assoc (u16 SH ++ u16 a.nodes ++ u16 a.blocks) (u8 a.run.rounds) (u8 (flag a.run.settled)))) (puts_then front c.rounds.ensures))
    c.number-4.ensures

-- Two numbers, and the rounds behind them.
use Rattle.std.proofs.Common.{sym, ◌++◌, append_assoc}
use Rattle.model.specs.Answer.{u8, u16, AN, flag}
use Rattle.writer.proofs.Bytes.{puts_then, puts_as}
use Rattle.answer_bytes.proofs.put_head.Goals as goal

pub returns : goal.returns
returns c =
    let run = c.args.run in
    puts_as (sym (append_assoc (u16 AN ++ u16 c.args.count) (u8 run.rounds) (u8 (flag run.settled))))
    (puts_then (puts_then c.number.ensures c.number-2.ensures) c.rounds.ensures)

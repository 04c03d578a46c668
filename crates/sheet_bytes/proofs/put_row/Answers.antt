use Prim.Native.Nat.{◌*◌}
use Rattle.std.proofs.Common.{◌≡◌, ap, rules, ◌<◌}
use Rattle.model.specs.Answer.{row_bytes}
use Rattle.rows.specs.Rows.{row_of}
use Rattle.writer.proofs.Bytes.{puts_as, puts_none, puts_to, puts_more, puts_number}
use Rattle.sheet_bytes.proofs.Bits.{row_none, row_next, word_at}
use Rattle.sheet_bytes.proofs.put_row.Goals as goal

pub loop-word-init : goal.loop-word-init
loop-word-init c = puts_as (row_none _) (puts_none _)

pub loop-word-preserved : goal.loop-word-preserved
loop-word-preserved c =
    let a = c.args in
    let i = c.loop-word.word-index in
    let l : i < 8 = search rules in
    puts_more (search rules) (row_next a.sets.now a.b i l) c.loop-word.invariant (puts_number (word_at a.sets.now a.b i l) c.number.ensures)

pub returns : goal.returns
returns c =
    let all : c.loop-word.word-index ≡ 8 = search rules in
    puts_to (search rules) (ap (λ i. row_bytes (row_of c.args.sets.now c.args.b) 0 (8 * i)) all) c.loop-word.invariant

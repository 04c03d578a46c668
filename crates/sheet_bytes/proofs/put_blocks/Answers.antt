use Rattle.std.proofs.Common.{◌≡◌, ◌*◌, ap, rules, get_or-take}
use Rattle.rows.specs.Rows.{row_of}
use Rattle.writer.proofs.Bytes.{puts_as, puts_none, puts_to, puts_more}
use Rattle.sheet_bytes.specs.Sheet.{set_record, set_records}
use Rattle.sheet_bytes.proofs.Blocks.{blocks_none, blocks_next}
use Rattle.sheet_bytes.proofs.put_blocks.Goals as goal

pub loop-b-init : goal.loop-b-init
loop-b-init c = puts_as (blocks_none _ _) (puts_none _)

pub loop-b-preserved : goal.loop-b-preserved
loop-b-preserved c =
    let a = c.args in
    let b = c.loop-b.b in
    let id = ap (λ i. set_record (record { 0 = i }) (row_of a.sets.now b)) (get_or-take a.blocks a.ids.now b 0 (search rules)) in
    puts_more (search rules) (blocks_next a.ids.now a.sets.now b) c.loop-b.invariant (puts_as id c.put_block.ensures)

pub returns : goal.returns
returns c =
    let all : c.loop-b.b ≡ c.args.blocks = search rules in
    puts_to (ap (λ b. 70 * b) all) (ap (set_records c.args.ids.now c.args.sets.now 0) all) c.loop-b.invariant

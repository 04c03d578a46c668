use Rattle.std.proofs.Common.{◌<◌, ◌≤◌, ◌≡◌, get_or, take, length, rules, get_or-take}
use Rattle.std.proofs.lemmas.Result.{err_from_is_err_and}
use Rattle.assumed.proofs.Blocks.{starting, block_read, starting_few, starting_end, starting_full, starting_more}
use Rattle.assumed.proofs.enter_blocks.Goals as goal

pub loop-b-init : goal.loop-b-init
loop-b-init c = starting _ _ _ _ c.requires.2

pub enter_block-requires : goal.enter_block-requires
enter_block-requires c =
    let some : c.loop-b.b < c.args.blocks = search rules in
    block_read c.requires.0 c.loop-b.b some (get_or-take c.args.blocks c.args.places.now c.loop-b.b 0 some)

pub returns-in_err-entered : goal.returns-in_err-entered
returns-in_err-entered c =
    let p = err_from_is_err_and c.from_residual.result c.from_residual.ensures.1 in
    let some : c.loop-b.b < c.args.blocks = search rules in
    let here = get_or-take c.args.blocks c.args.places.now c.loop-b.b 0 some in
    rw (p.1, p.2) (starting_full c.requires.0 c.loop-b.invariant some here _ _ _ c.in_err-entered.ensures)

pub overflow_add-made : goal.overflow_add-made
overflow_add-made c =
    let some : c.loop-b.b < c.args.blocks = search rules in
    let here = get_or-take c.args.blocks c.args.places.now c.loop-b.b 0 some in
    let few = starting_few c.enter_block.new.registry.held
    (starting_more c.requires.0 c.loop-b.invariant some here _ _ _ c.in_ok-entered.ensures _ c.set_row.ensures) in
    search rules

pub loop-b-preserved : goal.loop-b-preserved
loop-b-preserved c =
    let some : c.loop-b.b < c.args.blocks = search rules in
    let here = get_or-take c.args.blocks c.args.places.now c.loop-b.b 0 some in
    starting_more c.requires.0 c.loop-b.invariant some here _ _ _ c.in_ok-entered.ensures _ c.set_row.ensures

pub returns : goal.returns
returns c =
    let over : c.args.blocks ≤ c.loop-b.b = search rules in
    starting_end c.requires.0 c.loop-b.invariant _ c.loop-b.registry.held c.requires.3 over

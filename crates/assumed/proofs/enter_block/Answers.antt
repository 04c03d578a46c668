-- The head says how many predecessors are passed over, and how many raw reads and ready paths
-- follow; a block that was read has all of them, and what these records bring is what it assumes.
use native.Mathlib.Omega.{arith}
use mathlib.Core.Path.{sym}
use Rattle.std.proofs.lemmas.Result.{err_from_is_err_and}
use Rattle.job.proofs.BlockAgain.{head_there, ids_there}
use Rattle.assumed.proofs.OneBlock.{records_there, block_entered}
use Rattle.assumed.proofs.enter_block.Goals as goal

pub returns-in_err-head : goal.returns-in_err-head
returns-in_err-head c = absurd (head_there _ _ c.requires.value c.requires.next c.requires.read (sym c.in_err-head.ensures))

pub returns-in_err-records_at : goal.returns-in_err-records_at
returns-in_err-records_at c =
    absurd (ids_there _ _ c.requires.value c.requires.next c.requires.read (sym c.in_ok-head.ensures) (sym c.in_err-records_at.ensures))

pub enter_records-requires : goal.enter_records-requires
enter_records-requires c = (omega arith, records_there _ _ c.requires (sym c.in_ok-head.ensures) (sym c.in_ok-records_at.ensures) _ (omega arith))

pub returns-in_err-enter_records : goal.returns-in_err-enter_records
returns-in_err-enter_records c =
    let p = err_from_is_err_and c.from_residual-in_err-enter_records.result c.from_residual-in_err-enter_records.ensures.1 in
    rw (p.1, p.2) (block_entered _ _ c.requires (sym c.in_ok-head.ensures) (sym c.in_ok-records_at.ensures) c.args.registry.now.words
    c.empty.result c.empty.ensures _ (omega arith) _ _ _ c.in_err-enter_records.ensures)

pub returns : goal.returns
returns c =
    block_entered _ _ c.requires (sym c.in_ok-head.ensures) (sym c.in_ok-records_at.ensures) c.args.registry.now.words
    c.empty.result c.empty.ensures _ (omega arith) _ _ _ c.in_ok-enter_records.ensures

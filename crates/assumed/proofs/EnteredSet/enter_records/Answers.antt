use native.Mathlib.Omega.{arith}
use Rattle.std.proofs.lemmas.Result.{err_from_is_err_and}
use Rattle.assumed.proofs.Filling.{filling_full, filling_more, all_entered}
use Rattle.assumed.proofs.EnteredSet.enter_records.Goals as goal

pub returns-in_err-enter_record : goal.returns-in_err-enter_record
returns-in_err-enter_record c =
    let p = err_from_is_err_and c.from_residual.result c.from_residual.ensures.1 in
    rw (p.1, p.2) (all_entered _ c.requires.1 _ _ _ _ (filling_full c.loop.invariant (omega arith) _ _ _ c.in_err-enter_record.ensures))

pub loop-preserved : goal.loop-preserved
loop-preserved c = filling_more c.loop.invariant (omega arith) _ _ _ _ c.in_ok-enter_record.ensures (omega arith)

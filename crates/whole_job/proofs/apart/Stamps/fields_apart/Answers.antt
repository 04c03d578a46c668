use Rattle.std.proofs.Common.{sym, ◌∙◌}
use Rattle.whole_job.proofs.Stamps.{stamped_long, field_next}
use Rattle.whole_job.proofs.apart.Stamps.fields_apart.Goals as goal

pub loop-preserved : goal.loop-preserved
loop-preserved c =
    let inv = c.loop.invariant in
    let stamped = c.stamp_block.ensures c.if-not-stamp_block.false in
    let block = rw inv.0 at stamped.block in (
      stamped.index ∙ inv.0,
      sym (field_next _ _ _ _ _ _ _ c.loop-test.true (sym c.in-Ok.ensures) block) ∙ inv.1,
      stamped_long block ∙ inv.2,
    )

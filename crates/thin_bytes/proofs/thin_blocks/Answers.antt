use native.Mathlib.Omega.{arith}
use mathlib.Core.Path.{subst}
use Rattle.thin_bytes.proofs.Blocks.{Writing, writing, writing_end, next_block, writing_more}
use Rattle.thin_bytes.proofs.thin_blocks.Goals as goal

pub loop-init : goal.loop-init
loop-init c = writing _ _ _ _

pub thin_block-at-requires : goal.thin_block-at-requires
thin_block-at-requires c = next_block c.loop.invariant (omega arith) c.requires

pub loop-preserved : goal.loop-preserved
loop-preserved c =
    subst (Writing c.args.s.now c.args.first c.args.count c.args.w.now c.thin_block-at.new.w c.thin_block-at.result) (omega arith)
    (writing_more c.loop.invariant (omega arith) _ _ c.thin_block-at.ensures)

pub returns : goal.returns
returns c = writing_end c.loop.invariant (omega arith)

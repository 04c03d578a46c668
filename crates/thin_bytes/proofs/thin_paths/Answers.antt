use native.Mathlib.Omega.{arith}
use Rattle.thin_bytes.proofs.Thinning.{thinning, thinning_end, next_path, thinning_more}
use Rattle.thin_bytes.proofs.thin_paths.Goals as goal

pub loop-i-init : goal.loop-i-init
loop-i-init c = thinning _ _ _ _ _

pub thin_path-done-requires : goal.thin_path-done-requires
thin_path-done-requires c =
    next_path c.loop-i.invariant c.loop-i-test.true c.requires (let fits = c.ranges.count in omega arith)

pub loop-i-preserved : goal.loop-i-preserved
loop-i-preserved c =
    thinning_more c.loop-i.invariant c.loop-i-test.true _ _ c.requires c.thin_path-done.ensures

pub returns : goal.returns
returns c = thinning_end c.loop-i.invariant c.loop-i-test.false

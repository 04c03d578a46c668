use native.Mathlib.Omega.{arith}
use mathlib.Core.Path.{refl, sym, ◌∙◌}
use Rattle.job.specs.Key.{key_in}
use Rattle.hoistable.proofs.Positions.{seeking, seeking_hit, seeking_miss, seeking_end}
use Rattle.hoistable.proofs.child_by_key.Goals as goal

pub loop-j-init : goal.loop-j-init
loop-j-init c = seeking c.args.nodes.words.now c.args.hoist.now c.args.parent (key_in c.args.key) _ refl c.requires.1

pub returns-then-is_child : goal.returns-then-is_child
returns-then-is_child c =
    let counted = c.loop-j.invariant.counted in
    (seeking_hit c.loop-j.invariant c.loop-j-test.true (sym c.is_child.ensures ∙ c.if-is_child.true), omega arith)

pub loop-j-preserved : goal.loop-j-preserved
loop-j-preserved c =
    seeking_miss c.loop-j.invariant c.loop-j-test.true (sym c.is_child.ensures ∙ c.if-is_child.false)

pub returns : goal.returns
returns c = (seeking_end c.loop-j.invariant c.loop-j-test.false, omega arith)

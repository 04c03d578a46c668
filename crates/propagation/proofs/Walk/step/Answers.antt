-- `step` meets its contract. A block that is not dirty has all that would join it, and its set is
-- reduced in a later walk, so its join would leave the work as it is. Elsewhere the work is what
-- the join leaves; those that the new set may join are marked, and the block's own mark says
-- whether the same join would leave its set.
use mathlib.Core.Bool.{Bool, true, false, not}
use mathlib.Core.Path.{◌≡◌, refl, sym}
use Rattle.propagation.proofs.Reductions.{walk_ready}
use Rattle.propagation.proofs.Stepping.{step_passed, step_joined}
use Rattle.propagation.proofs.Walk.step.Goals as goal

pub returns-then-not-dirty-b : goal.returns-then-not-dirty-b
returns-then-not-dirty-b c =
    let a = c.args in
    let w = a.self in
    step_passed w.joining w.backward a.b w.order.now a.changed (walk_ready w c.requires.1) (c.requires.2 c.if-self.true) c.requires.0 c.requires.3
    c.if-not-dirty-b.true

-- a block's mark is cleared only where the join was idle
not_idle : (b : Bool) → not b ≡ false → b ≡ true
not_idle true e = refl
not_idle false e = sym e

pub returns : goal.returns
returns c =
    let a = c.args in
    let w = a.self in
    step_joined w.joining w.backward a.b w.order.now
    (walk_ready w c.requires.1)
    c.requires.0 c.requires.3 c.in_ok-joined.ensures
    c.mark_changed.ensures a.changed _ (not_idle _)

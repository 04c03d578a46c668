-- The loop's invariant, `Seeking`: a way down that goes on with the step's position is entered
-- behind the child passed last, and the link leads to the next child. The measure is the number of
-- positions behind it.
use Prim.Native.Nat.{◌-◌}
use Rattle.tree.specs.Tree.{count_in}
use Rattle.tree.proofs.Seeking.{Seeking}
use Rattle.tree.proofs.seek.Given as goal

abbrev pub invariant-loop-next : goal.invariant-loop-next
invariant-loop-next l = Seeking l.s l.tree l.step l.last l.next

abbrev pub decreases-loop-next : goal.decreases-loop-next
decreases-loop-next l = count_in l.tree - l.last

-- The loop's invariant, `Climbing`: the path of the node reached so far leads back to it where that
-- of the first node does, and the other way round. A root's does, and a child's does where its
-- parent's does and its entry keeps its mark, and only there. The measure is the node's number: a
-- parent stands before its child.
use Rattle.rows.specs.Members.{members_of}
use Rattle.reduction.proofs.Steps.{Climbing}
use Rattle.reduction.proofs.leads_back.Given as goal

abbrev pub invariant-loop-p : goal.invariant-loop-p
invariant-loop-p l = Climbing l.registry.words (members_of l.set.words) l.fn.k l.at

abbrev pub decreases-loop-p : goal.decreases-loop-p
decreases-loop-p l = l.at.0

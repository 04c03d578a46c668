-- The proof of the cycle of calls {walk_again}. The measure is the node's number: a parent stands
-- before its child. A root is found again. A child's path is its parent's and one entry: the
-- parent's walk leads to q, and the entry leads on from there.
use Rattle.reduction.proofs.+walk_again.Given as goal

abbrev pub decreases-walk_again : goal.decreases-walk_again
decreases-walk_again l = l.k.0

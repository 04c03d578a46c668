-- The proof of the cycle of calls {enter_path}. The measure is the node's number: a parent stands
-- before its child. A root's way is its position alone; a child's is its parent's way, whose last
-- position is followed by the child's entry, and its own position.
use Rattle.hoistable.proofs.+enter_path.Given as goal

abbrev pub decreases-enter_path : goal.decreases-enter_path
decreases-enter_path l = l.k.0

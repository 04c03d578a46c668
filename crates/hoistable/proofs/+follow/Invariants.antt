-- The proof of the cycle of calls {follow}. The measure is the node's number: a parent stands
-- before its child. A root's path has no entries, and a child's is its parent's and one entry more.
use Rattle.hoistable.proofs.+follow.Given as goal

abbrev pub decreases-follow : goal.decreases-follow
decreases-follow l = l.k.0

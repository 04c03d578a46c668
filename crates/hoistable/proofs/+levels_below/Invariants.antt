-- The proof of the cycle of calls {levels_below}. The measure is the number of entries that are
-- left. Where there is no position, no level is NonNull. Else the level here is the word's, and
-- those after it are the levels from the child with the next entry's name on.
use Rattle.hoistable.proofs.+levels_below.Given as goal

abbrev pub decreases-levels_below : goal.decreases-levels_below
decreases-levels_below l = l.entries.left

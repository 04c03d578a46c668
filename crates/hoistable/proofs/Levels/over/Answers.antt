-- Where the other list is longer, its bits above this one's weight are those of the levels after
-- this one's.
use Rattle.hoistable.proofs.Numbers.{holds_longer, holds_shorter}
use Rattle.hoistable.proofs.Levels.over.Goals as goal

pub returns-then-self-other : goal.returns-then-self-other
returns-then-self-other c xs ys hx hy = holds_longer hx hy c.if-self-other.true

pub returns-else-self-other : goal.returns-else-self-other
returns-else-self-other c xs ys hx hy = holds_shorter hx hy c.if-self-other.false

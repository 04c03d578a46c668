-- The number of no levels is 0, and the first bit is worth 1.
use Rattle.hoistable.proofs.Numbers.{holds_none}
use Rattle.hoistable.proofs.Levels.none.Goals as goal

pub returns : goal.returns
returns c = holds_none

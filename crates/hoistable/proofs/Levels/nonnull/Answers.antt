-- What is left of all ones is each bit turned.
use Rattle.hoistable.proofs.Numbers.{holds_turned}
use Rattle.hoistable.proofs.Levels.nonnull.Goals as goal

pub returns : goal.returns
returns c xs h = holds_turned h

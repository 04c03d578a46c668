-- The ids stay as they are.
use Rattle.std.proofs.Common.{◌≡◌}
use Rattle.id_index.proofs.IdIndex.enter.Given as goal

abbrev pub invariant-loop-k : goal.invariant-loop-k
invariant-loop-k l = l.self.ids ≡ l.initial.self.ids

-- `mark_neighbours` meets its contract. The loop's invariant, `Marking`: a block that is not dirty
-- is among the neighbours where it is among those still to come.
use Rattle.graph.specs.Bytes.{neighbours}
use Rattle.propagation.proofs.ToCome.{to_come}
use Rattle.propagation.proofs.Dirty.{Marking}
use Rattle.propagation.proofs.mark_neighbours.Given as goal

abbrev pub invariant-loop-k : goal.invariant-loop-k
invariant-loop-k l = Marking (neighbours l.graph.bytes.now l.backward l.b) l.initial.dirty l.dirty (to_come l.k-iterator)

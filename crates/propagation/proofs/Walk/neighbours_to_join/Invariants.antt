-- `neighbours_to_join` meets its contract. The loop's invariant, `Gathering`: those gathered, with
-- the Done ones among the neighbours still to come, are the neighbours that join, unless one that
-- is not Done keeps all from joining.
use Rattle.propagation.proofs.ToCome.{to_come}
use Rattle.propagation.proofs.Gathering.{Gathering}
use Rattle.propagation.proofs.Walk.neighbours_to_join.Given as goal

abbrev pub invariant-loop-k : goal.invariant-loop-k
invariant-loop-k l =
    let w = l.self in Gathering w.joining w.graph.bytes.now w.backward l.b w.order.now l.places l.count (to_come l.k-iterator)

-- The proof of the cycle of calls {visit}. The measure is the number of unmarked blocks: a visit
-- marks its block before it calls itself. The loop's invariant, `Neighbouring`, says which
-- neighbours are still to be visited, and that the block is Active meanwhile. A neighbour that is
-- marked is passed over, as its visit would leave everything as it is.
use Rattle.model.specs.Visit.{unmarked_in}
use Rattle.graph.specs.Bytes.{size_in}
use Rattle.propagation.specs.Order.{marks_of}
use Rattle.propagation.proofs.ToCome.{to_come}
use Rattle.propagation.proofs.Visiting.{Neighbouring}
use Rattle.propagation.proofs.+visit.Given as goal

abbrev pub decreases-visit : goal.decreases-visit
decreases-visit l = unmarked_in (marks_of (size_in l.graph.bytes.now) l.order.now)

abbrev pub invariant-loop-k : goal.invariant-loop-k
invariant-loop-k l = Neighbouring l.graph.bytes.now l.backward l.b l.initial.order l.order (to_come l.k-iterator)

-- `note_order` meets its contract. The loop's invariant, `Along`: the visits of the blocks still to
-- come lead to where the walk leads. The visit of a block that is marked already would leave
-- everything as it is.
use Rattle.propagation.proofs.Visiting.{Along}
use Rattle.propagation.proofs.Ordering.{order_from, walk_end}
use Rattle.propagation.proofs.note_order.Given as goal

abbrev pub invariant-loop-i : goal.invariant-loop-i
invariant-loop-i l =
    let g = l.graph.bytes.now in Along g l.backward (order_from l.backward l.n l.i) (walk_end g l.backward) l.initial.order l.order

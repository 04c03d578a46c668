-- `intersection_of_joining` meets its contract: the places gathered are those of the neighbours
-- that join, each once, and the set of each is the row at its place.
use mathlib.Core.Path.{◌∙◌}
use Rattle.propagation.proofs.Gathering.{gathered_sets}
use Rattle.propagation.proofs.Walk.intersection_of_joining.Goals as goal

pub returns : goal.returns
returns c =
    let a = c.args in
    let w = a.self in
    c.intersection_of_rows.ensures
    ∙ gathered_sets w.joining w.graph.bytes.now w.backward a.b w.order.now c.neighbours_to_join-count.ensures a.sets.now

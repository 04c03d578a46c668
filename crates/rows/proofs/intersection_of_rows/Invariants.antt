-- `intersection_of_rows` meets its contract. The loop's invariant, `Met`: what is found, with the
-- rows of the places still to come, makes the whole intersection. That no place stands twice is not
-- used; it is what the callers are held to.
use Prim.Native.Nat.{◌+◌}
use Rattle.rows.proofs.Intersections.{Met}
use Rattle.rows.proofs.intersection_of_rows.Given as goal

abbrev pub invariant-loop-b : goal.invariant-loop-b
invariant-loop-b l = Met l.ws l.places l.found.words (l.b-index + 1)

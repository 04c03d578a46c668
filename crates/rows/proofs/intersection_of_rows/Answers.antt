use native.Mathlib.Omega.{arith}
use mathlib.Core.Path.{◌∙◌}
use Rattle.rows.proofs.Intersections.{none_met, met_first}
use Rattle.rows.proofs.intersection_of_rows.Goals as goal

pub returns-then-places-eq0 : goal.returns-then-places-eq0
returns-then-places-eq0 c = c.empty.ensures ∙ none_met c.args.ws.now c.args.places.now (omega arith)

pub loop-b-init : goal.loop-b-init
loop-b-init c =
    met_first c.args.ws.now c.args.places.now c.row-found.result.words (omega arith) (rw c.from.ensures at c.row-found.ensures)

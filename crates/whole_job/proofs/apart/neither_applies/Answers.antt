-- What each of the three tests rules out, together: all go by one index.
use Rattle.std.proofs.Common.{◌≡◌, not, sym, ap, ◌∙◌}
use Rattle.std.specs.Option.{is_some}
use Rattle.whole_job.proofs.Stamps.{neither}
use Rattle.whole_job.proofs.apart.neither_applies.Goals as goal

pub returns-then-ids_apart : goal.returns-then-ids_apart
returns-then-ids_apart c =
    let a = c.args in
    let index = c.enter.new.self in
    let ids : index.ids.now ≡ a.ids.now = ap (λ r. r.now) (c.enter.ensures ∙ c.new.ensures) in
    let found = ap is_some (sym c.place_of.ensures) ∙ c.is_none.ensures ∙ ap not c.if-is_none.false in
    let once = c.ids_apart.ensures c.if-ids_apart.true in
    λ e. let all = rw once.0 at (c.all_apart.ensures e) in
    rw (← ids) (neither a.s.now index.ids.now a.places.now index.bytes a.scope once.1 all found)

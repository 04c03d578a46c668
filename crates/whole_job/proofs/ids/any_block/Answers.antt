use Rattle.std.proofs.Common.{sym, ◌∙◌}
use Rattle.whole_job.specs.Ids.{predecessors_at}
use Rattle.whole_job.proofs.IdLists.{any_here, any_next}
use Rattle.whole_job.proofs.ids.any_block.Goals as goal

pub returns-then-test : goal.returns-then-test
returns-then-test g c =
    let says = c.requires.1.1.0 _ _ (record { shown = c.predecessors_at.result; shows = c.predecessors_at.ensures; says = record { met = c.test.ensures } }) in
    sym (any_here _ _ (λ at. g.passes (predecessors_at c.args.s.now at)) c.loop-at-test.true (sym says ∙ c.if-test.true)) ∙ c.loop-at.invariant

pub loop-at-preserved : goal.loop-at-preserved
loop-at-preserved g c =
    let says = c.requires.1.1.0 _ _ (record { shown = c.predecessors_at.result; shows = c.predecessors_at.ensures; says = record { met = c.test.ensures } }) in
    sym (any_next _ _ (λ at. g.passes (predecessors_at c.args.s.now at)) c.loop-at-test.true (sym says ∙ c.if-test.false)) ∙ c.loop-at.invariant

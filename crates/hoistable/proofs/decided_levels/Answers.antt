use mathlib.Core.Path.{ap, ◌∙◌}
use Rattle.rows.specs.Members.{members_from}
use Rattle.rows.specs.declared.MembersFrom.{MembersFrom}
use Rattle.hoistable.specs.Candidate.{entries_at}
use Rattle.hoistable.proofs.Numbers.{holds_small}
use Rattle.hoistable.proofs.Steps.{agrees_small}
use Rattle.hoistable.proofs.Deciding.{deciding_start, deciding_end, deciding_ahead, deciding_rest}
use Rattle.hoistable.proofs.decided_levels.Goals as goal

pub loop-k-init : goal.loop-k-init
loop-k-init c =
    deciding_start c.args.candidate.identifier (entries_at c.args.candidate.entries.left c.args.s.now c.args.candidate.entries.at) c.args.nodes.words.now
    c.args.set.words _ c.requires.1
    (ap (λ (m : MembersFrom). members_from m.set.now.words m.from) c.into_iter-k-iterator.ensures.into_iter_gives ∙ c.members-k-items.ensures)
    c.none-ahead.ensures c.none-rest.ensures

pub over-ahead-requires : goal.over-ahead-requires
over-ahead-requires c = (holds_small c.loop-k.invariant.ahead, agrees_small c.follow.ensures)

pub over-rest-requires : goal.over-rest-requires
over-rest-requires c = (holds_small c.loop-k.invariant.rest, agrees_small c.follow.ensures)

pub loop-k-preserved-then-levels-eq1 : goal.loop-k-preserved-then-levels-eq1
loop-k-preserved-then-levels-eq1 c =
    deciding_ahead c.loop-k.invariant c.in-Some.ensures.steps _ c.follow.ensures.levels _ c.if-levels-eq1.true c.over-ahead.ensures

pub loop-k-preserved : goal.loop-k-preserved
loop-k-preserved c =
    deciding_rest c.loop-k.invariant c.in-Some.ensures.steps _ c.follow.ensures.levels _ c.if-levels-eq1.false c.over-rest.ensures

pub over-requires : goal.over-requires
over-requires c = (holds_small c.loop-k.invariant.ahead, holds_small c.loop-k.invariant.rest)

pub returns : goal.returns
returns c = deciding_end c.loop-k.invariant c.in-None.ensures.steps.0 c.over.ensures

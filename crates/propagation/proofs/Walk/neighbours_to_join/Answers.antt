use mathlib.Core.Path.{sym, ap, ◌∙◌}
use lib.ListN.{length-set}
use Rattle.model.specs.Tests.{ltb_less, ltb_not_less}
use Rattle.propagation.proofs.ToCome.{to_come}
use Rattle.propagation.proofs.Gathering.{gathering_by, gathering_start, gathering_more, gathering_passed, gathered_all, gathered_none}
use Rattle.propagation.proofs.Walk.neighbours_to_join.Goals as goal

pub loop-k-init : goal.loop-k-init
loop-k-init c =
    let a = c.args in
    let w = a.self in
    let come = ap to_come c.into_iter-k-iterator.ensures.into_iter_gives ∙ c.neighbours-k-items.ensures in
    gathering_by (sym come)
    (gathering_start w.joining w.graph.fits w.backward c.requires w.order.now a.places.now c.told-places)

pub returns : goal.returns
returns c =
    let w = c.args.self in
    gathered_all w.once c.requires
    (gathering_by c.in-None.ensures.steps.0 c.loop-k.invariant)

pub returns-then-asks_all : goal.returns-then-asks_all
returns-then-asks_all c =
    let w = c.args.self in
    gathered_none w.once c.requires
    (gathering_by c.in-Some.ensures.steps c.loop-k.invariant)
    (sym c.asks_all.ensures ∙ c.if-asks_all.true) (ltb_not_less _ _ c.if-mark-self.false) _ (simp length-set c.loop-k.invariant.long)

pub loop-k-preserved-then-mark-self : goal.loop-k-preserved-then-mark-self
loop-k-preserved-then-mark-self c =
    let w = c.args.self in
    gathering_more
    (gathering_by c.in-Some.ensures.steps c.loop-k.invariant)
    (ltb_less _ _ c.if-mark-self.true)

pub loop-k-preserved : goal.loop-k-preserved
loop-k-preserved c =
    let w = c.args.self in
    gathering_passed
    (gathering_by c.in-Some.ensures.steps c.loop-k.invariant)
    (ltb_not_less _ _ c.if-mark-self.false) (sym c.asks_all.ensures ∙ c.if-asks_all.false)

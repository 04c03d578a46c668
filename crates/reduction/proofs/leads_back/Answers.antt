use native.Mathlib.Omega.{arith}
use Rattle.std.proofs.lemmas.Bool.{not-false, not-true}
use Rattle.model.specs.Tests.{beq_true}
use Rattle.reduction.proofs.Steps.{climbed, climb_lower, climb, climb_stops}
use Rattle.reduction.proofs.leads_back.Goals as goal

pub reduced_mark-requires : goal.reduced_mark-requires
reduced_mark-requires c =
    let lower = climb_lower c.loop-p.invariant c.args.registry.now.held.sound c.load.ensures c.in-Child.is in
    let inside = c.loop-p.invariant.inside in
    let room = c.args.registry.now.held.sized.room in
    omega arith

pub loop-p-smaller : goal.loop-p-smaller
loop-p-smaller c = climb_lower c.loop-p.invariant c.args.registry.now.held.sound c.load.ensures c.in-Child.is

pub loop-p-preserved : goal.loop-p-preserved
loop-p-preserved c =
    climb c.loop-p.invariant c.args.registry.now.held.sound c.load.ensures c.in-Child.is _ c.reduced_mark.ensures
    (beq_true _ _ (not-false _ c.if-reduced_mark-e.false))

pub returns-then-reduced_mark-e : goal.returns-then-reduced_mark-e
returns-then-reduced_mark-e c =
    climb_stops c.loop-p.invariant c.args.registry.now.held.sound c.load.ensures c.in-Child.is _ c.reduced_mark.ensures
    c.requires (not-true _ c.if-reduced_mark-e.true)

pub returns : goal.returns
returns c = climbed c.loop-p.invariant c.args.registry.now.held.sound c.load.ensures c.in_default.is

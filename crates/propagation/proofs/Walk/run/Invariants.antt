-- `walk` meets its contract. The loop's invariant, `Along`: the steps still to come lead to where
-- the walk leads, since the walk is the joins of its steps.
use mathlib.Core.Path.{◌≡◌}
use lib.ListN.{length}
use Rattle.graph.specs.Bytes.{size_in}
use Rattle.propagation.specs.Rules.{rule_of}
use Rattle.propagation.specs.Joins.{work_of}
use Rattle.propagation.specs.Propagates.{walk_in}
use Rattle.propagation.proofs.Walking.{Along}
use Rattle.propagation.proofs.Walk.run.Given as goal

abbrev pub invariant-loop-i : goal.invariant-loop-i
invariant-loop-i l =
    let w = l.self in
    let g = w.graph.bytes.now in
    (length l.sets ≡ length l.initial.sets) × Along w.joining g w.backward w.later w.order.now l.initial.other l.initial.sets l.i
    (walk_in (rule_of w.joining) g w.backward (work_of (size_in g) l.initial.sets l.initial.registry.words l.initial.so_far))
    l.dirty l.other l.sets l.registry.words l.registry.optional.words l.so_far

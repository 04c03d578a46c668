-- The loop's invariant, `Repeating`: the reduction of what the last pass left is the reduction that
-- was asked for. The measure is the optional marks of the set's paths: a pass that changes
-- something takes one away. A set that is known to be reduced stays so while nodes are made, so the
-- pass that leaves it is the last.
use Rattle.rows.specs.Members.{members_of}
use Rattle.registry.specs.Words.{registry_of}
use Rattle.model.specs.Reduction.{reduce_maybe_optional_chains}
use Rattle.reduction.specs.Reduces.{KnownReduced}
use Rattle.reduction.proofs.Repeats.{Repeating, marks_left}
use Rattle.reduction.proofs.reduce_maybe_optional_chains.Given as goal

abbrev pub invariant-loop-set : goal.invariant-loop-set
invariant-loop-set l =
    Repeating (reduce_maybe_optional_chains (registry_of l.initial.registry.words) (members_of l.initial.set.words)) l.registry.words l.set.words
    × KnownReduced l.known (registry_of l.registry.words) (members_of l.before.words)

abbrev pub decreases-loop-set : goal.decreases-loop-set
decreases-loop-set l = marks_left l.registry.words l.set.words

-- `rounds` meets its contract. The loop's invariant, `Rounding`: the rounds still allowed lead to
-- the definition's end. At first every block is dirty.
use mathlib.Core.Path.{◌≡◌}
use lib.ListN.{length}
use Rattle.model.specs.Propagation.{propagate_non_null}
use Rattle.propagation.specs.Rules.{rule_of}
use Rattle.rows.specs.Rows.{rows_of}
use Rattle.registry.specs.Words.{registry_of}
use Rattle.graph.specs.Bytes.{size_in, graph_in}
use Rattle.propagation.proofs.Rounding.{Rounding}
use Rattle.propagation.proofs.Walks.rounds.Given as goal

abbrev pub invariant-loop-before : goal.invariant-loop-before
invariant-loop-before l =
    let rule = rule_of l.self.joining in
    let g = l.self.graph.bytes.now in
    (length l.sets ≡ length l.initial.sets) × Rounding rule g l.self.forward.now l.self.backward.now
    (propagate_non_null rule (graph_in g) (registry_of l.initial.registry.words) (rows_of l.initial.sets (size_in g)))
    l.dirty_forward l.dirty_backward l.sets l.registry.words l.registry.optional.words l.before

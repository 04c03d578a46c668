-- The loop's invariant, `Along`: the nodes that are left, reduced from here, give what the pass
-- gives. One whose path leads back to it changes nothing.
use Rattle.rows.specs.Members.{members_of, members_from}
use Rattle.registry.specs.Words.{registry_of}
use Rattle.model.specs.Reduction.{pass}
use Rattle.reduction.proofs.Passes.{Along}
use Rattle.reduction.proofs.pass.Given as goal

abbrev pub invariant-loop-k : goal.invariant-loop-k
invariant-loop-k l =
    Along (pass (registry_of l.fn.registry.words) (members_of l.fn.set.words)) l.registry.words l.set.words l.changed
    (members_from l.k-iterator.set.now.words l.k-iterator.from)

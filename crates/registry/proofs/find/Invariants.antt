-- The search goes along the bucket from its last node to its first. No node that it has passed or
-- left out has the key and the value.
use Rattle.registry.proofs.Buckets.{Passed}
use Rattle.registry.proofs.find.Given as goal

abbrev pub invariant-loop-end : goal.invariant-loop-end
invariant-loop-end l = Passed l.ws l.key l.value l.end

abbrev pub decreases-loop-end : goal.decreases-loop-end
decreases-loop-end l = l.end

-- The notes stand at the front of the two arrays.
use Rattle.stage.proofs.Accepting.{ids_front, places_front}
use Rattle.stage.proofs.Accepted.open.Goals as goal

pub invariant_of-result-clause-ids_are : goal.invariant_of-result-clause-ids_are
invariant_of-result-clause-ids_are c = let e = c.in_ok-head.ensures in ids_front c.args.s.now e.0 _ c.read_job.array_long e.1.0

pub invariant_of-result-clause-places_are : goal.invariant_of-result-clause-places_are
invariant_of-result-clause-places_are c = let e = c.in_ok-head.ensures in places_front c.args.s.now e.0 _ c.read_job.array_long2 e.1.1

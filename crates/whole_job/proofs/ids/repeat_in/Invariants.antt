-- `whole_job::ids::repeat_in` meets its contract: an id stands twice in the rest from here if one
-- does in the whole.
use Rattle.std.proofs.Common.{◌≡◌, drop}
use Rattle.model.specs.Job.{repeats}
use Rattle.job.specs.Kept.{block_ids}
use Rattle.whole_job.proofs.ids.repeat_in.Given as goal

abbrev pub invariant-loop-i : goal.invariant-loop-i
invariant-loop-i l = repeats (block_ids (drop l.i l.ids)) ≡ repeats (block_ids l.ids)

-- `whole_job::ids::any_block` meets its contract: the test passes for a block from here on if it
-- passes for one of all.
use Rattle.std.proofs.Common.{◌≡◌, drop}
use Rattle.model.specs.Lists.{any_of}
use Rattle.whole_job.specs.Ids.{predecessors_at}
use Rattle.whole_job.proofs.ids.any_block.Given as goal

abbrev pub invariant-loop-at : goal.invariant-loop-at
invariant-loop-at g l =
    any_of (λ at. g.passes (predecessors_at l.s at)) (drop l.at-index l.places) ≡ any_of (λ at. g.passes (predecessors_at l.s at)) l.places

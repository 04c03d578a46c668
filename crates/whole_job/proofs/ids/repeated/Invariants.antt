use Rattle.model.specs.Job.{repeats}
use Rattle.job.specs.Kept.{block_ids}
use Rattle.whole_job.proofs.ids.repeated.Given as goal

abbrev pub ghost-any_block : goal.ghost-any_block
ghost-any_block a = λ ids. repeats (block_ids ids)

use Rattle.job.specs.Kept.{block_ids}
use Rattle.whole_job.specs.Ids.{any_unknown}
use Rattle.whole_job.proofs.ids.unknown.Given as goal

abbrev pub ghost-any_block : goal.ghost-any_block
ghost-any_block a = λ ids. any_unknown (block_ids a.test.0.now) (block_ids ids)

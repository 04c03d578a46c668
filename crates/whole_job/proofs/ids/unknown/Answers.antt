-- The predecessors are known, and the scope block is one of the blocks where `contains` finds its
-- id.
use Rattle.std.proofs.Common.{not, sym, ap, ◌∙◌}
use Rattle.whole_job.proofs.IdLists.{found_is}
use Rattle.whole_job.proofs.ids.unknown.Goals as goal

pub returns-else-any_block : goal.returns-else-any_block
returns-else-any_block c =
    rw (sym c.any_block.ensures ∙ c.if-any_block.false)
    (ap not (c.contains.ensures.value ∙ found_is c.args.ids.now c.args.scope.0))

-- The loop's invariant, `Starting`: the sets stored so far, with what the blocks that are left
-- start with after them, are the whole.
use lib.ListN.{length}
use Rattle.job.specs.Kept.{blocks_of}
use Rattle.assumed.proofs.Blocks.{Starting}
use Rattle.assumed.proofs.enter_blocks.Given as goal

abbrev pub invariant-loop-b : goal.invariant-loop-b
invariant-loop-b l = Starting (blocks_of l.s) l.blocks (length l.initial.sets) l.registry.words l.sets l.made l.b

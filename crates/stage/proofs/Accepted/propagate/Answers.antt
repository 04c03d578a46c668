-- There is room for the graph: by the test for few blocks, and otherwise for the 128 blocks that a
-- job has at most.
use native.Mathlib.Omega.{arith}
use Rattle.edges.proofs.Jobs.{zeros_blank}
use Rattle.stage.proofs.Accepting.{accepts}
use Rattle.stage.proofs.Accepted.propagate.Goals as goal

pub propagate_in-requires : goal.propagate_in-requires
propagate_in-requires c =
    let few = c.if-self-le-FEW_BLOCKS.true in
    (zeros_blank c.args.self.now.head.blocks 3073 (omega arith), c.requires)

pub propagate_in-requires-2 : goal.propagate_in-requires-2
propagate_in-requires-2 c =
    let few = (accepts c.args.self.now).noted.few in
    (zeros_blank c.args.self.now.head.blocks 10497 (omega arith), c.requires)

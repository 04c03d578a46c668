-- `next_predecessor` meets its contract: below the block's degree the byte of that number is the
-- next, and from the degree on there is none.
use native.Mathlib.Omega.{arith}
use Rattle.graph.proofs.Coming.{no_predecessor, predecessor_next}
use Rattle.graph.proofs.Graph.next_predecessor.Goals as goal

pub returns-then-from-degree : goal.returns-then-from-degree
returns-then-from-degree c =
    predecessor_next c.args.self.fits c.requires c.args.from _ _ c.from-degree.ensures c.if-from-degree.true c.from-k.ensures

pub returns-else-from-degree : goal.returns-else-from-degree
returns-else-from-degree c =
    let d = c.from-degree.ensures in
    no_predecessor c.args.self.bytes.now c.args.b c.args.from (omega arith)

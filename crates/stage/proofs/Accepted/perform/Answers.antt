-- There is room for the sets and for the tree: by the tests for few blocks and candidates, and
-- otherwise for the 128 blocks and 64 candidates that a job has at most.
use native.Mathlib.Omega.{arith}
use Rattle.stage.proofs.Room.{zeros_room}
use Rattle.stage.proofs.Accepting.{accepts}
use Rattle.stage.proofs.Accepted.perform.Goals as goal

pub perform_in-requires : goal.perform_in-requires
perform_in-requires c =
    let candidates = c.if-self-le-FEW_CANDIDATES.true in
    let blocks = c.if-self-le-FEW_BLOCKS.true in
    (c.requires, zeros_room c.args.self.now.head 205 (omega arith) (omega arith) (omega arith))

pub perform_in-requires-2 : goal.perform_in-requires-2
perform_in-requires-2 c =
    let blocks = (accepts c.args.self.now).noted.few in
    let candidates = (accepts c.args.self.now).candidates.few in
    (c.requires, zeros_room c.args.self.now.head 1089 (omega arith) (omega arith) (omega arith))

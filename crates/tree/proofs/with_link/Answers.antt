-- The bits of the link are 0, so that the sum puts the number there and nothing is carried.
use Rattle.tree.proofs.with_link.Goals as goal

pub returns-then-child : goal.returns-then-child
returns-then-child c = rw c.if-child.true

pub returns-else-child : goal.returns-else-child
returns-else-child c = rw c.if-child.false

-- Kept where it is not mutable, and else where it is known to be immutable.
use Rattle.assumed.proofs.immutable.is_immutable_at_instr.Goals as goal

pub returns-then-not-mutable_at_instr : goal.returns-then-not-mutable_at_instr
returns-then-not-mutable_at_instr c d =
    rw (c.if-not-mutable_at_instr.true, ← c.if-not-mutable_at_instr.ensures d)

pub returns-else-not-mutable_at_instr : goal.returns-else-not-mutable_at_instr
returns-else-not-mutable_at_instr c d = rw (← c.if-not-mutable_at_instr.ensures d)

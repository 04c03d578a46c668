-- The parent says whether the position is a root, whose key is read from a head, or a child, whose
-- key is read from an entry.
use Rattle.tree.proofs.Packed.{root_key, child_key}
use Rattle.tree.proofs.key_at.Goals as goal

pub returns-then-parent-eq0 : goal.returns-then-parent-eq0
returns-then-parent-eq0 c =
    let a = c.args in
    root_key a.s.now a.parent a.place c.head_at.result c.if-parent-eq0.true c.head_at.ensures

pub returns-else-parent-eq0 : goal.returns-else-parent-eq0
returns-else-parent-eq0 c =
    let a = c.args in
    child_key a.s.now a.parent a.place c.entry_at.result c.if-parent-eq0.false c.entry_at.ensures

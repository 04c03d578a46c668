-- The parent says whether the position is a root, which is read as a head, or a child, which is
-- read as an entry.
use mathlib.Core.Path.{sym, ap, ◌∙◌}
use Rattle.entries.specs.Access.{is_optional_access}
use Rattle.tree.specs.Words.{head_at, entry_at}
use Rattle.tree.proofs.Putting.{root_parts, child_parts}
use Rattle.tree.proofs.position_of.Goals as goal

pub returns-then-parent_in-eq0 : goal.returns-then-parent_in-eq0
returns-then-parent_in-eq0 c =
    let a = c.args in
    let s = a.s.now in
    root_parts s a.w c.is_optional-optional.result (c.is_optional-optional.ensures ∙ ap is_optional_access c.access_in-access.ensures) c.head_at-head.result
    (sym c.parent_in.ensures.0 ∙ c.if-parent_in-eq0.true) (c.head_at-head.ensures ∙ ap (head_at s) c.place_in.ensures.0)

pub returns-else-parent_in-eq0 : goal.returns-else-parent_in-eq0
returns-else-parent_in-eq0 c =
    let a = c.args in
    let s = a.s.now in
    child_parts s a.w c.is_optional-optional.result (c.is_optional-optional.ensures ∙ ap is_optional_access c.access_in-access.ensures) c.entry_at-entry.result
    (λ e. c.if-parent_in-eq0.false (c.parent_in.ensures.0 ∙ e)) (c.entry_at-entry.ensures ∙ ap (entry_at s) c.place_in-else-parent_in-eq0.ensures.0)

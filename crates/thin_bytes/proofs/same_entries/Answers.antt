use native.Mathlib.Omega.{arith}
use native.Mathlib.Nat.{sub-zero}
use mathlib.Core.Path.{sym, subst, ◌∙◌}
use Rattle.thin_bytes.proofs.Comparing.{Comparing, comparing, comparing_end, entry_there, other_there, comparing_unlike, comparing_more}
use Rattle.thin_bytes.proofs.same_entries.Goals as goal

pub loop-init : goal.loop-init
loop-init c = let a = c.args in subst (Comparing a.s.now a.a a.b a.count a.a a.b) (sym (sub-zero a.count)) (comparing _ _ _ _)

pub returns-in_default : goal.returns-in_default
returns-in_default c = entry_there c.loop.invariant (omega arith) (sym c.in_default.ensures)

pub returns-in_default-entry_at : goal.returns-in_default-entry_at
returns-in_default-entry_at c = other_there c.loop.invariant (omega arith) (sym c.in_default-entry_at.ensures)

pub returns-then-not-same : goal.returns-then-not-same
returns-then-not-same c =
    comparing_unlike c.loop.invariant (omega arith) (sym c.in-Ok.ensures) (sym c.in-Ok-entry_at.ensures)
    (sym c.same.ensures ∙ c.if-not-same.true)

pub loop-preserved : goal.loop-preserved
loop-preserved c =
    let a = c.args in
    subst (Comparing a.s.now a.a a.b a.count c.in-Ok.next c.in-Ok-entry_at.other_next) (omega arith)
    (comparing_more c.loop.invariant (omega arith) (sym c.in-Ok.ensures) (sym c.in-Ok-entry_at.ensures)
    (sym c.same.ensures ∙ c.if-not-same.false))

pub returns : goal.returns
returns c = comparing_end c.loop.invariant (omega arith)

use mathlib.Core.Path.{sym, subst, ◌∙◌}
use Prim.Native.Nat.{◌-◌}
use lib.ListN.{get_or}
use Rattle.tree.proofs.Packed.{by_key, keys_told}
use Rattle.tree.proofs.Seeking.{Seeking, seeking_below, seeking_past, seeking_found, seeking_over}
use Rattle.tree.proofs.seek.Goals as goal

pub returns-then-has_key : goal.returns-then-has_key
returns-then-has_key c =
    let a = c.args in
    let s = a.s.now in
    let x = subst (λ link. Seeking s a.tree.now a.step c.loop-next.last link) c.in-Some.is c.loop-next.invariant in
    let w = get_or a.tree.now (c.in-Some.number - 1) 0 in
    seeking_found x
    (by_key s w a.step _ (seeking_below x)
    (sym (keys_told s w a.step c.parent_in-parent.result c.place_in.result a.key
    c.parent_in-parent.ensures.0 c.requires.2 c.place_in.ensures.0)
    ∙ sym c.has_key.ensures ∙ c.if-has_key.true))

pub loop-next-preserved : goal.loop-next-preserved
loop-next-preserved c =
    let a = c.args in
    let s = a.s.now in
    let x = subst (λ link. Seeking s a.tree.now a.step c.loop-next.last link) c.in-Some.is c.loop-next.invariant in
    let w = get_or a.tree.now (c.in-Some.number - 1) 0 in
    seeking_past x c.sibling_in-next.result
    (by_key s w a.step _ (seeking_below x)
    (sym (keys_told s w a.step c.parent_in-parent.result c.place_in.result a.key
    c.parent_in-parent.ensures.0 c.requires.2 c.place_in.ensures.0)
    ∙ sym c.has_key.ensures ∙ c.if-has_key.false))
    c.sibling_in-next.ensures

pub returns : goal.returns
returns c = let a = c.args in seeking_over (subst (λ link. Seeking a.s.now a.tree.now a.step c.loop-next.last link) c.in_default.is c.loop-next.invariant)

use Prim.Native.Nat.{◌+◌, ◌*◌}
use native.Mathlib.Omega.{arith}
use native.Mathlib.Nat.{sub-zero}
use mathlib.Core.Path.{sym, subst}
use borrow.Author.Rules.{rules}
use Rattle.thin_bytes.proofs.Repeating.{
  Looking,
  head_there,
  looking,
  own_small,
  looking_end,
  place_small,
  earlier_there,
  entries_small,
  looking_found,
  looking_more,
}
use Rattle.thin_bytes.proofs.is_repeat.Goals as goal

pub returns-in_default : goal.returns-in_default
returns-in_default c = let x = c.requires in head_there _ x.mark _ x.read (sym c.in_default.ensures)

pub loop-init : goal.loop-init
loop-init c =
    let a = c.args in
    subst (Looking a.s.now a.first a.earlier a.at a.first) (sym (sub-zero a.earlier)) (looking _ _ _ _)

pub returns-in_default-path_head_at : goal.returns-in_default-path_head_at
returns-in_default-path_head_at c =
    earlier_there c.loop.invariant (omega arith) c.requires (sym c.in_default-path_head_at.ensures)

pub returns-then-same_path : goal.returns-then-same_path
returns-then-same_path c =
    looking_found c.loop.invariant (omega arith) (sym c.in-Ok-path_head_at.ensures) (sym c.in-Ok.ensures) c.same_path.ensures c.if-same_path.true

pub loop-preserved : goal.loop-preserved
loop-preserved c =
    let a = c.args in
    rw c.from.ensures
    (subst (Looking a.s.now a.first a.earlier a.at (c.in-Ok-path_head_at.entries_at + 14 * c.in-Ok-path_head_at.head.entries)) (omega arith)
    (looking_more c.loop.invariant (omega arith) (sym c.in-Ok-path_head_at.ensures) (sym c.in-Ok.ensures) c.same_path.ensures c.if-same_path.false))

pub returns : goal.returns
returns c = looking_end c.loop.invariant (omega arith)

pub overflow_add-at : goal.overflow_add-at
overflow_add-at c = let small = own_small c.requires in search rules

pub overflow_add-place : goal.overflow_add-place
overflow_add-place c = let small = place_small c.loop.invariant (omega arith) c.requires in search rules

pub overflow_add-place-in-loop : goal.overflow_add-place-in-loop
overflow_add-place-in-loop c =
    let small = entries_small c.loop.invariant (omega arith) (sym c.in-Ok-path_head_at.ensures) c.requires in
    let place = small.0 in
    let count = small.1 in
    let is = c.from.ensures in
    search rules

use Prim.Native.Nat.{◌+◌, ◌-◌, ◌/◌, ◌%◌}
use mathlib.Core.Path.{◌≡◌, refl, sym, subst}
use mathlib.Core.Bool.{true, ◌||◌}
use native.Mathlib.Omega.{arith}
use native.Mathlib.Nat.{sub-zero}
use lib.Dec.{eqb}
use borrow.Author.Rules.{rules}
use Rattle.model.specs.Tree.{step_access}
use Rattle.tree.proofs.Packed.{root_key, child_key}
use Rattle.tree.proofs.Walking.{walk_of, Walking, walking_start, walking_room, walking_cut, walking_more}
use Rattle.tree.proofs.Adding.{added}
use Rattle.tree.proofs.add_candidate.Goals as goal
use Rattle.tree.proofs.add_candidate.Goals.{
  else-not-nonnull-via-then-not-nonnull+else-not-entry,
  else-not-nonnull-via-else-not-nonnull,
  else-loop-test,
  then-loop-test+then-not-nonnull+then-not-entry,
}

pub loop-init : goal.loop-init
loop-init c =
    let a = c.args in (
      subst (λ n. Walking a.s.now a.tree.now a.tree.now (walk_of a.s.now a.at a.levels) 0 a.at _ (a.at + 10) n a.levels)
          (sym (sub-zero c.head_at-head.result.entries))
          (walking_start a.s.now a.tree.now a.at a.levels c.head_at-head.result c.requires.0.sized c.requires.1 c.requires.2 c.head_at-head.ensures),
      root_key a.s.now 0 a.at c.head_at-head.result refl c.head_at-head.ensures,
    )

pub make_or_merge-parent-requires : goal.make_or_merge-parent-requires
make_or_merge-parent-requires c = let x = c.loop.invariant in let w = x.0 in (w.sized, w.lies, walking_room w, w.near, x.1)

pub overflow_add-next-in-loop : goal.overflow_add-next-in-loop
overflow_add-next-in-loop c = let w = c.loop.invariant.0.ahead in omega arith

pub loop-preserved : goal.loop-preserved
loop-preserved c =
    let l = c.loop in
    let a = c.args in
    let s = c.args.s.now in
    let number = c.make_or_merge-parent.result in
    let some = c.make_or_merge-parent.ensures.some in
    let goes_on : eqb (l.flags % 2) 1 || c.entry_at-entry.result.optional ≡ true =
    elim c.else-not-nonnull.branch [
      | else-not-nonnull-via-then-not-nonnull+else-not-entry w ↦ search rules
      | else-not-nonnull-via-else-not-nonnull w ↦ search rules
    ] in
    let left : c.head_at-head.result.entries - l.counter - 1 ≡ c.head_at-head.result.entries - (l.counter + 1) = omega arith in (
      rw c.step_access-access.ensures
          (subst (λ n. Walking s a.tree.now c.make_or_merge-parent.new.tree (walk_of s a.at a.levels) number l.next (step_access (eqb (l.flags % 2) 1))
          (l.next + 14) n (l.flags / 2)) left
          (walking_more l.invariant.0 (omega arith) c.entry_at-entry.result c.entry_at-entry.ensures
          goes_on _ number c.make_or_merge-parent.auto.tree c.make_or_merge-parent.ensures)),
      child_key s number l.next c.entry_at-entry.result (λ z. omega arith) c.entry_at-entry.ensures,
    )

pub make_or_merge-requires : goal.make_or_merge-requires
make_or_merge-requires c = let x = c.loop.invariant in let w = x.0 in (w.sized, w.lies, walking_room w, w.near, x.1)

pub returns : goal.returns
returns c =
    let l = c.loop in
    let a = c.args in
    let s = a.s.now in
    let over : Walking s a.tree.now l.tree (walk_of s a.at a.levels) l.parent l.place l.access l.next 0 l.flags =
    elim c.loop-test.branch [
      | else-loop-test w ↦
          subst (λ n. Walking s a.tree.now l.tree (walk_of s a.at a.levels) l.parent l.place l.access l.next n l.flags) (omega arith) l.invariant.0
      | then-loop-test+then-not-nonnull+then-not-entry w ↦
          walking_cut l.invariant.0 (omega arith) w.entry_at-entry.result w.entry_at-entry.ensures (search rules)
    ] in
    added c.requires.0 over (omega arith) c.merge.result c.merge.ensures _ c.make_or_merge.result c.make_or_merge.ensures

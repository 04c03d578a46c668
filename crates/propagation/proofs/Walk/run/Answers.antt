use native.Mathlib.Omega.{arith}
use mathlib.Core.Path.{refl}
use borrow.Author.Rules.{rules}
use Rattle.std.proofs.lemmas.Result.{err_from_is_err_and}
use Rattle.propagation.proofs.Reductions.{walk_ready}
use Rattle.propagation.proofs.Walking.{walk_begun, walk_over, walk_full, walk_more}
use Rattle.propagation.proofs.Walk.run.Goals as goal

pub loop-i-init : goal.loop-i-init
loop-i-init c =
    let a = c.args in
    let w = a.self in (
      refl,
      walk_begun w.joining w.backward (walk_ready w c.requires.0)
          c.requires.1 c.requires.2 c.requires.3 a.changed,
    )

pub returns-in_err-so_far : goal.returns-in_err-so_far
returns-in_err-so_far c =
    let full = c.in_err-so_far.ensures in
    let p = err_from_is_err_and c.from_residual.result c.from_residual.ensures.1 in
    let left = c.from-i-end.ensures in
    let more = c.loop-i-test.true in
    rw (p.1, p.2) (full.0, walk_full c.loop-i.invariant.1 c.requires.2 (omega arith) c.from-b.result c.from-b.ensures full.1)

pub loop-i-preserved : goal.loop-i-preserved
loop-i-preserved c =
    let left = c.from-i-end.ensures in
    let more = c.loop-i-test.true in (
      search rules,
      walk_more c.loop-i.invariant.1 c.requires.2 (omega arith) c.from-b.result c.from-b.ensures c.in_ok-so_far.ensures,
    )

pub returns : goal.returns
returns c =
    let left = c.from-i-end.ensures in
    let over = c.loop-i-test.false in
    walk_over c.loop-i.invariant.1 (omega arith)

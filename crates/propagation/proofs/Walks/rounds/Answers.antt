use native.Mathlib.Omega.{arith}
use mathlib.Core.Path.{refl}
use borrow.Author.Rules.{rules}
use Rattle.std.proofs.lemmas.Result.{err_from_is_err_and}
use Rattle.propagation.specs.Rules.{rule_of}
use Rattle.propagation.proofs.Rounding.{rounds_start, rounds_over, rounds_full, rounds_more, rounds_settled}
use Rattle.propagation.proofs.Walks.rounds.Goals as goal

pub loop-before-init : goal.loop-before-init
loop-before-init c =
    let a = c.args in
    let w = a.self in (
      refl,
      rounds_start (rule_of w.joining) w.graph.bytes.now _ _ a.sets.now a.registry.now.words a.registry.now.optional.words
          c.requires.0 w.graph.fits.size c.requires.1 c.requires.2,
    )

pub returns-in_err-changed : goal.returns-in_err-changed
returns-in_err-changed c =
    let full = c.in_err-changed.ensures in
    let p = err_from_is_err_and c.from_residual.result c.from_residual.ensures.1 in
    rw (p.1, p.2) (full.0, rounds_full c.loop-before.invariant.1 (omega arith) full.1)

pub returns-then-not-changed : goal.returns-then-not-changed
returns-then-not-changed c =
    rounds_settled c.loop-before.invariant.1 (omega arith) c.in_ok-changed.ensures c.if-not-changed.true

pub loop-before-preserved : goal.loop-before-preserved
loop-before-preserved c = (
  search rules,
  rounds_more c.loop-before.invariant.1 (omega arith) c.in_ok-changed.ensures c.if-not-changed.false,
)

pub returns : goal.returns
returns c = rounds_over c.loop-before.invariant.1 (omega arith)

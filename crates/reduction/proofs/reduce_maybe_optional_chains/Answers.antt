use mathlib.Core.Path.{sym, ◌∙◌}
use Rattle.std.proofs.lemmas.Result.{err_from_is_err_and}
use Rattle.rows.specs.Members.{members_of}
use Rattle.rows.proofs.Members.{same_lists}
use Rattle.reduction.proofs.Repeats.{repeating_end, repeating_full, repeating_known, known_more, repeating_more, repeating_less}
use Rattle.reduction.proofs.reduce_maybe_optional_chains.Goals as goal

pub returns-in_err-pass : goal.returns-in_err-pass
returns-in_err-pass c =
    let p = err_from_is_err_and c.from_residual.result c.from_residual.ensures.1 in
    rw p.1 (p.2 ∙ c.in_err-pass.ensures.0, repeating_full c.loop-set.registry.held c.loop-set.invariant.0 c.in_err-pass.ensures.1)

pub returns-then-same_set : goal.returns-then-same_set
returns-then-same_set c =
    let n = c.pass.new in (
      n.registry.held,
      repeating_known c.loop-set.registry.held c.loop-set.invariant.0 n.registry.words n.registry.optional.words n.set.words n.registry.held
          c.in_ok-pass.ensures.1 (members_of c.args.before.words) c.if-branch.true c.loop-set.invariant.1 c.if-known.true
          (same_lists _ _ (sym c.same_set.ensures ∙ c.if-same_set.true)),
    )

pub loop-set-smaller : goal.loop-set-smaller
loop-set-smaller c =
    let n = c.pass.new in
    repeating_less c.loop-set.registry.held c.loop-set.invariant.0 n.registry.words n.registry.optional.words n.set.words n.registry.held
    c.in_ok-pass.ensures.1 c.if-branch.true

pub loop-set-preserved : goal.loop-set-preserved
loop-set-preserved c =
    let n = c.pass.new in (
      repeating_more c.loop-set.registry.held c.loop-set.invariant.0 n.registry.words n.registry.optional.words n.set.words n.registry.held
          c.in_ok-pass.ensures.1 c.if-branch.true,
      known_more c.loop-set.registry.held c.loop-set.invariant.0 n.registry.words n.registry.optional.words n.set.words n.registry.held
          c.in_ok-pass.ensures.1 (members_of c.args.before.words) c.loop-set.invariant.1,
    )

pub returns : goal.returns
returns c =
    let n = c.pass.new in (
      n.registry.held,
      repeating_end c.loop-set.registry.held c.loop-set.invariant.0 n.registry.words n.registry.optional.words n.set.words n.registry.held
          c.in_ok-pass.ensures.1 c.if-branch.false,
    )

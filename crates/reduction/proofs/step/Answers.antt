-- Where the parent is where it was and the mark stays, the node is found; elsewhere the registry
-- finds or makes the child under its new mark, and what it made is added to what was made before.
use Rattle.rows.specs.Members.{members_of}
use Rattle.registry.specs.Words.{registry_of}
use Rattle.model.specs.Tests.{beq_true}
use Rattle.model.specs.Reduction.{reduced_mark}
use Rattle.reduction.proofs.Steps.{step_same}
use borrow.Author.Rules.{rules}
use Rattle.reduction.proofs.step.Goals as goal

pub returns-then-kept-e : goal.returns-then-kept-e
returns-then-kept-e c =
    let a = c.args in (
      a.registry.now.held,
      step_same (reduced_mark (members_of a.set.now.words)) (registry_of a.registry.now.words) a.p a.q a.k a.e _
          c.reduced_mark-kept.ensures a.made_before c.requires.1 (search rules) (beq_true _ _ c.if-kept-e.true),
    )

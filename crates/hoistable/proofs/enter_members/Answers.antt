-- A path whose first entry is as said is entered, and another is left for the other loop.
use mathlib.Core.Bool.{beq}
use mathlib.Core.Path.{refl, sym, ap, ◌∙◌}
use Rattle.rows.specs.Members.{members_from}
use Rattle.rows.specs.declared.MembersFrom.{MembersFrom}
use Rattle.hoistable.proofs.Members.{entering, entering_more, said_by, path_entered, path_passed}
use Rattle.hoistable.proofs.enter_members.Goals as goal

pub loop-k-init : goal.loop-k-init
loop-k-init c =
    entering c.args.nodes.words.now c.args.set.words c.args.ahead c.args.hoist.now _ c.requires.0 c.requires.1
    (ap (λ (m : MembersFrom). members_from m.set.now.words m.from) c.into_iter-k-iterator.ensures.into_iter_gives ∙ c.members-k-items.ensures)

pub loop-k-preserved : goal.loop-k-preserved
loop-k-preserved c =
    entering_more c.loop-k.invariant c.in-Some.ensures.steps refl
    (path_passed (said_by c.args.ahead _ (ap (λ b. beq b c.args.ahead) (sym c.starts_optional.ensures) ∙ c.if-starts_optional-ahead.false))
    c.loop-k.invariant.held)

pub loop-k-preserved-in_ok-enter_path : goal.loop-k-preserved-in_ok-enter_path
loop-k-preserved-in_ok-enter_path c =
    entering_more c.loop-k.invariant c.in-Some.ensures.steps c.enter_path.auto.hoist
    (path_entered (said_by c.args.ahead _ (ap (λ b. beq b c.args.ahead) (sym c.starts_optional.ensures) ∙ c.if-starts_optional-ahead.true))
    c.in_ok-enter_path.ensures)

use native.Mathlib.Omega.{arith}
use mathlib.Core.Path.{sym, ap, ◌∙◌}
use mathlib.Core.Option.{Option}
use Rattle.model.specs.Forest.{Found}
use Rattle.model.specs.Tree.{HoistablePosition, at_non_null}
use Rattle.model.specs.Answer.{flag}
use Rattle.hoistable.specs.Levels.{levels_of, number_of}
use Rattle.hoistable.specs.Candidate.{entries_at}
use Rattle.hoistable.specs.Positions.{number_in, found_in}
use Rattle.hoistable.proofs.Below.{stands_here, at_number, below_number, levels_small, levels_last, candidate_later, levels_more, levels_above}
use Rattle.hoistable.proofs.+levels_below.Goals as goal

pub returns-in_default : goal.returns-in_default
returns-in_default t c = levels_above c.args.nodes.words.now c.args.hoist.now _ _ c.in_default.is

pub returns-in_default-next : goal.returns-in_default-next
returns-in_default-next t c =
    let here = stands_here c.args.hoist.now _ c.in-Some.is c.requires.1 in
    c.nonnull-here.ensures.0 ∙ at_number c.args.nodes.words.now c.args.hoist.now c.in-Some.number (λ none. omega arith)
    ∙ ap (λ n. flag (at_non_null (found_in c.args.nodes.words.now c.args.hoist.now n))) (sym (ap number_in c.in-Some.is))
    ∙ levels_last c.requires.2 c.in_default-next.ensures (found_in c.args.nodes.words.now c.args.hoist.now (number_in c.args.position))

pub levels_below-requires : goal.levels_below-requires
levels_below-requires t c =
    let more = c.in-Some-next.ensures.2 in
    let here = c.decreases in
    (omega arith, (c.requires.0, c.child_by_key-child.ensures.1, candidate_later c.requires.2 c.in-Some-next.ensures))

pub overflow_mul-result : goal.overflow_mul-result
overflow_mul-result t c =
    let small = levels_small (candidate_later c.requires.2 c.in-Some-next.ensures)
    (found_in c.args.nodes.words.now c.args.hoist.now (number_in c.child_by_key-child.result)) c.levels_below.ensures in
    omega arith

pub overflow_add-result : goal.overflow_add-result
overflow_add-result t c =
    let small = levels_small (candidate_later c.requires.2 c.in-Some-next.ensures)
    (found_in c.args.nodes.words.now c.args.hoist.now (number_in c.child_by_key-child.result)) c.levels_below.ensures in
    let one = c.nonnull-here.ensures.1 in
    omega arith

pub returns : goal.returns
returns t c =
    let ws = c.args.nodes.words.now in
    let hoist = c.args.hoist.now in
    let number = c.in-Some.number in
    let here = stands_here hoist _ c.in-Some.is c.requires.1 in
    let rest = c.in-Some-next.rest in
    levels_more c.requires.2 c.in-Some-next.ensures (found_in ws hoist number) _ _
    (c.nonnull-here.ensures.0 ∙ at_number ws hoist number (λ none. omega arith))
    (c.levels_below.ensures
    ∙ ap (λ (h : Option (Found HoistablePosition)). number_of (levels_of h (entries_at rest.left c.args.s.now rest.at)))
    (ap (found_in ws hoist) c.child_by_key-child.ensures.0 ∙ sym (below_number ws hoist number _ (λ none. omega arith) here.1)))
    ∙ ap (λ n. number_of (levels_of (found_in ws hoist n) (entries_at c.args.entries.left c.args.s.now c.args.entries.at)))
    (sym (ap number_in c.in-Some.is))

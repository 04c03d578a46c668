-- The scope block's place leads to its row, and the answer over that row is the job's.
use native.Mathlib.Omega.{arith}
use Rattle.std.proofs.Common.{IsSome, rules, sym, subst, ◌∙◌}
use Rattle.stage.proofs.Putting.{scope_found, scope_led, scope_inside, scope_members, puts_answer}
use Rattle.stage.proofs.Accepting.{accepts}
use Rattle.stage.proofs.Accepted.put_answer.Goals as goal

pub shared_ref_as_front-place_of : goal.shared_ref_as_front-place_of
shared_ref_as_front-place_of c = (accepts c.args.self.now).noted.few

pub unwrap-place-requires : goal.unwrap-place-requires
unwrap-place-requires c =
    let a = c.args.self.now in
    subst IsSome (sym (c.place_of.ensures ∙ scope_found (accepts a) a.long)) (search rules)

pub row-set-requires : goal.row-set-requires
row-set-requires c =
    let a = c.args.self.now in
    let inside = scope_inside (accepts a) _ (scope_led (accepts a) a.long c.place_of.ensures c.unwrap-place.ensures) in
    let room = c.requires.2.rows in
    omega arith

pub put_answer-requires : goal.put_answer-requires
put_answer-requires c =
    let a = c.args.self.now in
    let led = scope_led (accepts a) a.long c.place_of.ensures c.unwrap-place.ensures in (
      c.requires.2.tree,
      scope_members (accepts a) c.args.sets.now c.args.registry.now.words c.requires.0 c.unwrap-place.result led _ c.row-set.ensures,
      (accepts a).candidates,
      c.requires.1,
    )

pub returns : goal.returns
returns c =
    let a = c.args.self.now in
    let led = scope_led (accepts a) a.long c.place_of.ensures c.unwrap-place.ensures in
    puts_answer (accepts a) c.args.sets.now c.args.registry.now.words c.requires.0 c.unwrap-place.result led _ c.row-set.ensures
    c.args.run _ _ _ c.put_answer.ensures

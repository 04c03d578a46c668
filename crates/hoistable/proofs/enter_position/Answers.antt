-- Where the position is found, nothing changes. Else its word is stored behind the last one.
use mathlib.Core.Path.{refl, sym, ap, ◌∙◌}
use Rattle.hoistable.specs.Positions.{key_of, number_below}
use Rattle.hoistable.proofs.Positions.{none_found, entered_where_found, entered_new}
use Rattle.hoistable.proofs.enter_position.Goals as goal

pub returns-then-is_some : goal.returns-then-is_some
returns-then-is_some c =
    entered_where_found c.args.nodes.words.now c.args.hoist.now c.requires.0 c.args.parent c.requires.1 _ _
    (c.child_by_key-found.ensures.0
    ∙ ap (number_below c.args.nodes.words.now c.args.hoist.now c.args.parent) (c.key_of.ensures ∙ ap key_of c.load.ensures))
    c.child_by_key-found.ensures.1

pub returns-then-end-room : goal.returns-then-end-room
returns-then-end-room c =
    entered_new c.args.nodes.words.now c.args.hoist.now c.requires.0 c.args.parent c.requires.1 _ c.word_of.result c.args.k.0 c.args.optional
    c.word_of.ensures c.requires.2 c.if-end-room.true refl
    (sym (none_found c.child_by_key-found.result (sym c.is_some.ensures ∙ c.if-is_some.false)) ∙ c.child_by_key-found.ensures.0
    ∙ ap (number_below c.args.nodes.words.now c.args.hoist.now c.args.parent) (c.key_of.ensures ∙ ap key_of c.load.ensures))

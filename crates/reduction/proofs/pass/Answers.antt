use mathlib.Core.Bool.{true}
use mathlib.Core.Path.{ap, ◌∙◌}
use Rattle.std.proofs.lemmas.Result.{err_from_is_err_and}
use Rattle.model.specs.Sets.{insert}
use Rattle.reduction.proofs.Passes.{along_start, along_back, along_full, along_more, node_inside, node_moved}
use borrow.Author.Rules.{rules}
use Rattle.reduction.proofs.pass.Goals as goal

pub loop-k-init : goal.loop-k-init
loop-k-init c =
    let a = c.args in
    along_start a.registry.now.words a.registry.now.optional.words a.set.now.words _ a.registry.now.held c.requires
    (rw (c.into_iter-k-iterator.ensures.into_iter_gives) (c.members-k-items.ensures ∙ c.intersection-snapshot.ensures))

pub loop-k-preserved-then-leads_back : goal.loop-k-preserved-then-leads_back
loop-k-preserved-then-leads_back c =
    along_back c.loop-k.invariant c.in-Some.k _ c.in-Some.ensures.steps c.loop-k.registry.held.sound
    (search rules)

pub returns-in_err-q : goal.returns-in_err-q
returns-in_err-q c =
    let p = err_from_is_err_and c.from_residual.result c.from_residual.ensures.1 in
    rw p.1 (p.2 ∙ c.in_err-q.ensures.0, along_full c.loop-k.invariant c.in-Some.k _ c.in-Some.ensures.steps c.in_err-q.ensures.1)

pub insert-requires : goal.insert-requires
insert-requires c =
    node_inside c.loop-k.registry.words c.loop-k.set.words c.loop-k.changed c.in-Some.k c.walk_again.new.registry.words c.in_ok-q.q _
    c.in_ok-q.ensures.1 c.loop-k.registry.held.sound c.walk_again.new.registry.held.sized.room

pub loop-k-preserved-then-ne : goal.loop-k-preserved-then-ne
loop-k-preserved-then-ne c =
    let vs = c.walk_again.new.registry.words in
    along_more c.loop-k.invariant c.in-Some.k _ c.in-Some.ensures.steps vs c.insert.new.self.words true
    (node_moved c.loop-k.registry.words c.loop-k.set.words c.loop-k.changed c.in-Some.k vs c.in_ok-q.q _ c.in_ok-q.ensures.1 (search rules)
    c.insert.new.self.words (c.insert.ensures ∙ ap (insert c.in_ok-q.q) c.remove.ensures))

-- `round` meets its contract: the backward walk goes on from what the forward one leaves, all of it
-- reduced, or the forward one has no room, and neither has the round. Each walk keeps the dirty
-- marks of both directions right.
use Rattle.std.proofs.lemmas.Result.{err_from_is_err_and}
use Rattle.propagation.specs.Rules.{rule_of}
use Rattle.propagation.proofs.Rounding.{round_full, round_halfway, round_done}
use Rattle.propagation.proofs.Walks.round.Goals as goal

pub returns-in_err-changed : goal.returns-in_err-changed
returns-in_err-changed c =
    let a = c.args in
    let full = c.in_err-changed.ensures in
    let p = err_from_is_err_and c.from_residual.result c.from_residual.ensures.1 in
    rw (p.1, p.2) (full.0, round_full (rule_of a.self.joining) a.self.graph.bytes.now a.sets.now a.registry.now.words full.1)

pub run-requires-2 : goal.run-requires-2
run-requires-2 c =
    let a = c.args in
    let w = a.self in
    let h = c.in_ok-changed.ensures in
    let orders = c.requires.2 in (
      h.holds.stands,
      (λ t. round_halfway (rule_of w.joining) w.graph.bytes.now a.sets.now a.registry.now.words w.forward.now w.backward.now a.dirty.now a.other.now
          c.requires.0 h.holds),
      orders.back,
      record { long = h.flags.other_long; other_long = h.flags.long; clean = h.others w.backward.now orders.clean_back },
    )

pub returns : goal.returns
returns c =
    let a = c.args in
    let w = a.self in
    round_done (rule_of w.joining) w.graph.bytes.now a.sets.now a.registry.now.words w.forward.now w.backward.now a.dirty.now a.other.now
    c.requires.2 c.in_ok-changed.ensures c.run-2.result _ _ _ _ _ c.run-2.ensures

-- The loop's invariant, `Entering`: what enters the paths that are left enters them all.
use Rattle.rows.specs.Members.{members_from}
use Rattle.hoistable.proofs.Members.{Entering}
use Rattle.hoistable.proofs.enter_members.Given as goal

abbrev pub invariant-loop-k : goal.invariant-loop-k
invariant-loop-k l =
    Entering l.nodes.words.now l.initial.hoist l.fn.set.words l.ahead l.hoist (members_from l.k-iterator.set.now.words l.k-iterator.from)

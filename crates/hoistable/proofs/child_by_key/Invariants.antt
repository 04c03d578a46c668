-- The loop's invariant, `Seeking`: what is left of the search finds what the whole finds.
use Rattle.job.specs.Key.{key_in}
use Rattle.hoistable.proofs.Positions.{Seeking}
use Rattle.hoistable.proofs.child_by_key.Given as goal

abbrev pub invariant-loop-j : goal.invariant-loop-j
invariant-loop-j l = Seeking l.nodes.words.now l.hoist l.parent (key_in l.key) l.end l.j

-- The loop's invariant, `Walking`: the walk still to come, entered below the position reached, is
-- the whole walk entered. The walk's last position is entered behind the loop.
use Prim.Native.Nat.{◌-◌}
use mathlib.Core.Path.{◌≡◌}
use Rattle.job.specs.Key.{key_in}
use Rattle.tree.specs.Words.{key_at}
use Rattle.tree.proofs.Walking.{walk_of, Walking}
use Rattle.tree.proofs.add_candidate.Given as goal

abbrev pub invariant-loop : goal.invariant-loop
invariant-loop l =
    Walking l.s l.initial.tree l.tree (walk_of l.s l.at l.levels) l.parent l.place l.access l.next (l.end - l.counter) l.flags
    × (key_in l.key ≡ key_at l.s l.parent l.place)

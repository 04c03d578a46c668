-- `NodeBits::next` meets its contract. The loop's invariant: `k` is in the word of the turn, and
-- what is sought from `k` on is what is sought from `from` on. The word of `k`, moved down to it,
-- holds the tests from `k` to the word's end: where it is 0 none of them passes and the next word
-- is as good a place to start, and else its lowest set bit is the first member.
use Prim.Native.Nat.{◌/◌}
use mathlib.Core.Path.{◌≡◌}
use Rattle.rows.specs.Members.{members_from, first_of}
use Rattle.rows.proofs.NodeBits.next.Given as goal

abbrev pub invariant-loop-at : goal.invariant-loop-at
invariant-loop-at l =
    (l.k / 64 ≡ l.at) × (first_of (members_from l.self.words l.k) ≡ first_of (members_from l.self.words l.fn.from))

-- `next_successor` meets its contract. The loop's invariant: `r` is in the word of the turn, and
-- what is still to come from `r` on is what is still to come from `from` on. It holds at the start,
-- since no bit is set below the blocks' ranks. The lowest bit from there in the word of `r` is that
-- of the next successor; where the word has none left, the next word is as good a place to start.
use Prim.Native.Nat.{◌/◌, ◌≤◌}
use mathlib.Core.Path.{◌≡◌}
use Rattle.graph.specs.Bytes.{successors_from}
use Rattle.graph.proofs.Graph.next_successor.Given as goal

abbrev pub invariant-loop-at : goal.invariant-loop-at
invariant-loop-at l =
    (l.r / 64 ≡ l.at) × (l.from ≤ l.r) × (successors_from l.self.bytes.now l.b l.from ≡ successors_from l.self.bytes.now l.b l.r)

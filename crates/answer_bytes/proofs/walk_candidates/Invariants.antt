-- The loop's invariant, `Adding`: what adds the walks of the candidates that are left to the tree
-- so far adds them all.
use Prim.Native.Nat.{◌-◌}
use mathlib.Core.Path.{◌≡◌}
use lib.ListN.{length}
use Rattle.registry.specs.Words.{registry_of}
use Rattle.rows.specs.Members.{members_of}
use Rattle.answer_bytes.proofs.Walks.{Adding}
use Rattle.answer_bytes.proofs.walk_candidates.Given as goal

abbrev pub invariant-loop : goal.invariant-loop
invariant-loop l =
    Adding l.candidates.s.now l.candidates.start l.candidates.count (registry_of l.candidates.nodes.words.now)
    (members_of l.candidates.set.words) l.tree l.at (l.candidates.count - l.counter)
    × (length l.tree ≡ length l.initial.tree)

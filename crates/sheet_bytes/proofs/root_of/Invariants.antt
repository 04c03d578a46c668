-- The loop's invariant: the node reached so far has the identifier and the reactive mark that the
-- first one has. A root has its own, and a child those of its parent. The measure is the node's
-- number: a parent stands before its child.
use Prim.Native.Nat.{◌<◌}
use mathlib.Core.Path.{◌≡◌}
use Rattle.model.specs.Registry.{full_path_of}
use Rattle.registry.specs.Words.{count_in, registry_of}
use Rattle.sheet_bytes.specs.Sheet.{root_of}
use Rattle.sheet_bytes.proofs.root_of.Given as goal

abbrev pub invariant-loop-identifier : goal.invariant-loop-identifier
invariant-loop-identifier l =
    (l.at.0 < count_in l.nodes.words.now)
    × (root_of (full_path_of (registry_of l.nodes.words.now) l.at) ≡ root_of (full_path_of (registry_of l.nodes.words.now) l.initial.at))

abbrev pub decreases-loop-identifier : goal.decreases-loop-identifier
decreases-loop-identifier l = l.at.0

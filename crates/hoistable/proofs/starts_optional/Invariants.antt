-- The loop goes from the node to its root. The first entry's mark is that of the path so far, or,
-- where this has no entries, that of the entry passed last. The measure is the node's number.
use Prim.Native.Nat.{◌<◌}
use mathlib.Core.Path.{◌≡◌}
use Rattle.model.specs.Registry.{full_path_of}
use Rattle.model.specs.Tree.{starts_optional}
use Rattle.registry.specs.Words.{count_in, registry_of}
use Rattle.hoistable.proofs.Ways.{starts_or}
use Rattle.hoistable.proofs.starts_optional.Given as goal

abbrev pub invariant-loop-p : goal.invariant-loop-p
invariant-loop-p l =
    (l.at.0 < count_in l.nodes.words.now)
    × (starts_or l.optional (full_path_of (registry_of l.nodes.words.now) l.at).path
    ≡ starts_optional (full_path_of (registry_of l.nodes.words.now) l.initial.at).path)

abbrev pub decreases-loop-p : goal.decreases-loop-p
decreases-loop-p l = l.at.0

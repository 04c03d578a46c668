-- The loop's invariant: the entries of the positions before this one are written.
use Prim.Native.Nat.{◌*◌}
use lib.ListN.{take}
use Rattle.model.specs.Lists.{concat_map}
use Rattle.model.specs.Answer.{entry_bytes}
use Rattle.model.specs.Tree.{entry_of}
use Rattle.writer.specs.Writes.{Puts}
use Rattle.tree.specs.Words.{position_of}
use Rattle.tree.proofs.put_entries.Given as goal

abbrev pub invariant-loop-position : goal.invariant-loop-position
invariant-loop-position l =
    Puts l.initial.w l.w (14 * l.position-index)
    (concat_map (λ v. entry_bytes 4 (entry_of (position_of l.s v))) (take l.position-index l.positions))

-- The loop's invariant: the nodes before k are written.
use Prim.Native.Nat.{◌*◌}
use lib.ListN.{take}
use Rattle.model.specs.Lists.{concat_map}
use Rattle.model.specs.Answer.{node_bytes}
use Rattle.registry.specs.Words.{registry_of}
use Rattle.writer.specs.Writes.{Puts}
use Rattle.sheet_bytes.proofs.put_nodes.Given as goal

abbrev pub invariant-loop-k : goal.invariant-loop-k
invariant-loop-k l = Puts l.initial.w l.w (23 * l.k) (concat_map (node_bytes 4) (take l.k (registry_of l.nodes.words.now)))

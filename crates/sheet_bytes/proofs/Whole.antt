-- The head, the nodes and the blocks are the sheet of the job.
use Prim.Native.Nat.{ℕ}
use mathlib.Core.Path.{◌≡◌}
use mathlib.Core.Bool.{Bool}
use mathlib.Core.List.{List, ◌++◌}
use lib.ListN.{length, length-append}
use Rattle.model.specs.Lists.{concat_map}
use Rattle.model.specs.Job.{Job}
use Rattle.model.specs.Rounds.{Rounds}
use Rattle.model.specs.Propagation.{Work}
use Rattle.model.specs.Stage.{Started}
use Rattle.model.specs.Answer.{node_bytes, sheet_head, sheet_bytes}
use Rattle.registry.specs.Words.{count_in, registry_of}
use Rattle.registry.proofs.View.{registry_length}
use Rattle.writer.proofs.Bytes.{number_length}
use Rattle.sheet_bytes.specs.Sheet.{set_records, HoldsPropagated}
use Rattle.sheet_bytes.proofs.Blocks.{blocks_are}

pub head_length : (nodes blocks rounds : ℕ) (settled : Bool) (nodes_before : ℕ) → length (sheet_head nodes blocks rounds settled nodes_before) ≡ 10
head_length nodes blocks rounds settled nodes_before = simp (length-append, number_length)

pub sheet_bytes_lem : {ws rows numbers : List ℕ} {n ran : ℕ} {last : Bool} {nodes_before : ℕ} {j : Job} {start : Started} {p : Rounds Work} (nodes : ℕ)
    → nodes ≡ count_in ws → HoldsPropagated ws rows numbers n ran last nodes_before j start p
    → sheet_head nodes n ran last nodes_before ++ concat_map (node_bytes 4) (registry_of ws) ++ set_records numbers rows 0 n ≡ sheet_bytes 4 j start p
unfolding sheet_bytes
sheet_bytes_lem {ws} {rows} {numbers} {n} {ran} {last} {nodes_before} {j} {start} {p} nodes counted x =
    let blocks = blocks_are numbers rows j.blocks n x.count x.ids in
    rw (x.registry, x.sets, x.rounds, x.settled, x.before, x.count, registry_length ws, counted, blocks)

-- `whole_job::ids::ids_into` meets its contract. The invariant: what is stored with what follows
-- from here is the whole, and the ids from here on were read. So no id is refused.
use Prim.Native.Nat.{◌-◌, ◌≤◌}
use mathlib.Core.Path.{◌≡◌}
use lib.Seq.{sets}
use Rattle.model.specs.ReadingBytes.{read_many, read_number}
use Rattle.model.specs.Job.{read_block_id}
use Rattle.job.specs.Passing.{IsRead, notes, note_value}
use Rattle.whole_job.proofs.ids.ids_into.Given as goal

abbrev pub invariant-loop-i : goal.invariant-loop-i
invariant-loop-i l =
    (sets l.out l.i (notes note_value (l.count - l.i) (read_number 4) l.s l.at) ≡ sets l.initial.out 0 (notes note_value l.count (read_number 4) l.s l.start))
    × IsRead (read_many (l.count - l.i) read_block_id l.s l.at)
    × (l.count ≤ 64)

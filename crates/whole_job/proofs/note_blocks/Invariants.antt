-- `whole_job::note_blocks` meets its contract. The invariant: the rest from here ends where the
-- whole does, and what is noted with what follows from here is the whole.
use Prim.Native.Nat.{◌-◌, ◌≤◌}
use mathlib.Core.Path.{◌≡◌}
use lib.Seq.{sets}
use Rattle.model.specs.ReadingBytes.{read_many}
use Rattle.model.specs.Job.{read_block}
use Rattle.job.specs.Passing.{passed, notes}
use Rattle.job.specs.Kept.{note_place, note_number}
use Rattle.whole_job.proofs.note_blocks.Given as goal

abbrev pub invariant-loop-k : goal.invariant-loop-k
invariant-loop-k l =
    (passed (read_many (l.count - l.k) (read_block 4) l.s l.at) ≡ passed (read_many l.count (read_block 4) l.s l.start))
    × (sets l.ids l.k (notes note_number (l.count - l.k) (read_block 4) l.s l.at) ≡ sets l.initial.ids 0 (notes note_number l.count (read_block 4) l.s l.start))
    × (sets l.places l.k (notes note_place (l.count - l.k) (read_block 4) l.s l.at)
    ≡ sets l.initial.places 0 (notes note_place l.count (read_block 4) l.s l.start))
    × (l.count ≤ 128)

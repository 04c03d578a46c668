-- The loop's invariant: each of the two tests passes for a block from here on if it passes for one
-- of all. It fails for a block whose predecessors are led to blocks of their own.
use Rattle.std.proofs.Common.{◌≡◌, length, drop}
use Rattle.model.specs.Lists.{any_of}
use Rattle.whole_job.specs.Ids.{repeats_at, any_unknown_at}
use Rattle.whole_job.proofs.apart.Stamps.all_apart.Given as goal

abbrev pub invariant-loop-b : goal.invariant-loop-b
invariant-loop-b l =
    let known = any_unknown_at l.s l.fn.self.index.ids.now in
    (l.self.index ≡ l.fn.self.index)
    × (any_of (repeats_at l.s) (drop l.b l.places) ≡ any_of (repeats_at l.s) l.places)
    × (any_of known (drop l.b l.places) ≡ any_of known l.places)
    × (length l.self.stamps ≡ 128)

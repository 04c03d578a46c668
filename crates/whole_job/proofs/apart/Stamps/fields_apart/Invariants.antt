-- The loop's invariant, as that of `ids_apart`: the ids from here on are led to blocks of their own
-- if all are.
use Rattle.std.proofs.Common.{◌≡◌, ◌-◌, length}
use Rattle.model.specs.ReadingBytes.{read_number}
use Rattle.job.specs.Passing.{notes, note_value}
use Rattle.whole_job.specs.Stamps.{led_to, apart}
use Rattle.whole_job.proofs.apart.Stamps.fields_apart.Given as goal

abbrev pub invariant-loop : goal.invariant-loop
invariant-loop l =
    let ids = l.fn.self.index.ids.now in
    let place = led_to ids l.fn.self.index.bytes in
    (l.self.index ≡ l.fn.self.index)
    × (apart place (length ids) l.stamp l.self.stamps (notes note_value (l.count - l.counter) (read_number 4) l.s l.at)
    ≡ apart place (length ids) l.stamp l.fn.self.stamps (notes note_value l.count (read_number 4) l.s l.start))
    × (length l.self.stamps ≡ length l.fn.self.stamps)

-- The loop's invariant: the ids from here on are led to blocks of their own if all are. So all are
-- where the loop ends, and none stands twice.
use Rattle.std.proofs.Common.{◌≡◌, length, drop}
use Rattle.whole_job.specs.Stamps.{led_to, apart}
use Rattle.whole_job.proofs.apart.Stamps.ids_apart.Given as goal

abbrev pub invariant-loop-id : goal.invariant-loop-id
invariant-loop-id l =
    let ids = l.fn.self.index.ids.now in
    let place = led_to ids l.fn.self.index.bytes in
    (l.self.index ≡ l.fn.self.index)
    × (apart place (length ids) l.stamp l.self.stamps (drop l.id-index ids) ≡ apart place (length ids) l.stamp l.fn.self.stamps ids)
    × (length l.fn.self.stamps ≡ 128)

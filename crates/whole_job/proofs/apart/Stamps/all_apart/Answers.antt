use Rattle.std.proofs.Common.{length, get_or, sym, ◌∙◌}
use Rattle.whole_job.specs.Ids.{predecessors_at}
use Rattle.whole_job.specs.Stamps.{led_to}
use Rattle.whole_job.proofs.IdLists.{any_next}
use Rattle.whole_job.proofs.Stamps.{apart_once, apart_known}
use Rattle.whole_job.proofs.apart.Stamps.all_apart.Goals as goal

pub loop-b-preserved : goal.loop-b-preserved
loop-b-preserved c =
    let l = c.loop-b in
    let inv = l.invariant in
    let index = c.args.self.now.index in
    let ids = index.ids.now in
    let predecessors = predecessors_at c.args.s.now (get_or c.args.places.now l.b 0) in
    let stamped = c.predecessors_apart.ensures c.if-not-predecessors_apart.false in
    let x = rw inv.0 at stamped.blocks in
    let once = apart_once (led_to ids index.bytes) (length ids) l.b index.few l.self.stamps predecessors inv.3 x.led in
    let known = apart_known ids index.bytes l.b l.self.stamps predecessors x.led in
    let below = c.loop-b-test.true in (
      stamped.index ∙ inv.0,
      sym (any_next _ _ _ below once) ∙ inv.1,
      sym (any_next _ _ _ below known) ∙ inv.2,
      x.long ∙ inv.3,
    )

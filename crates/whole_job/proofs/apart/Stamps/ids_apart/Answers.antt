use Rattle.std.proofs.Common.{length, sym, ◌∙◌}
use Rattle.whole_job.specs.Stamps.{led_to}
use Rattle.whole_job.proofs.Stamps.{apart_end, apart_once}
use Rattle.whole_job.proofs.apart.Stamps.ids_apart.Goals as goal

pub returns : goal.returns
returns c =
    let index = c.args.self.now.index in
    let ids = index.ids.now in
    let place = led_to ids index.bytes in
    λ _. (
      c.loop-id.invariant.0,
      apart_once place (length ids) c.args.stamp index.few _ ids c.loop-id.invariant.2
          (sym c.loop-id.invariant.1 ∙ apart_end place (length ids) c.args.stamp ids _ _ c.loop-id-test.false),
    )

use native.Mathlib.Omega.{arith}
use mathlib.Core.Path.{refl, ◌≡◌, ◌∙◌}
use Prim.Native.Nat.{◌/◌}
use Rattle.graph.proofs.Coming.{no_successor, none_low, passed, successor_next}
use Rattle.graph.proofs.Graph.next_successor.Goals as goal

pub loop-at-init : goal.loop-at-init
loop-at-init c =
    let m = c.max-r.ensures in
    let s = c.size.ensures in
    (refl, omega arith, none_low c.args.self.fits c.requires c.args.from _ (omega arith))

pub returns-in-Some : goal.returns-in-Some
returns-in-Some c =
    let here : c.loop-at.r / 64 ≡ c.loop-at.at = c.loop-at.invariant.0 in
    rw (← here) (
    successor_next c.args.self.fits c.requires c.loop-at.r c.successor_bits.result (omega arith) (rw here c.successor_bits.ensures)
    c.args.from c.in-Some.bit _ c.loop-at.invariant.1 c.loop-at.invariant.2 c.in-Some.ensures (rw here c.from-k.ensures)
    )

pub loop-at-preserved : goal.loop-at-preserved
loop-at-preserved c =
    let here : c.loop-at.r / 64 ≡ c.loop-at.at = c.loop-at.invariant.0 in (
      omega arith,
      omega arith,
      c.loop-at.invariant.2 ∙ passed c.args.self.fits c.requires c.loop-at.r c.successor_bits.result (omega arith)
          (rw here c.successor_bits.ensures) 64 (omega arith) (omega arith) (λ j h l. c.in_default.ensures j h l) ∙ rw here refl,
    )

pub returns : goal.returns
returns c =
    c.loop-at.invariant.2 ∙ no_successor c.args.self.bytes.now c.args.b c.loop-at.r (omega arith)

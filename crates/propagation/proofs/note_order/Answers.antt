use Prim.Native.Nat.{ℕ, ◌+◌}
use native.Mathlib.Omega.{arith}
use mathlib.Core.Path.{sym, ap, ◌∙◌}
use mathlib.Core.List.{◌∷◌}
use Rattle.propagation.proofs.Visiting.{along_by, along_marked, along_more}
use Rattle.propagation.proofs.Ordering.{order_from, order_more, order_begun, order_noted}
use Rattle.propagation.proofs.note_order.Goals as goal
use Rattle.propagation.proofs.note_order.Goals.{then-order-b-eq0, else-order-b-eq0}

pub loop-i-init : goal.loop-i-init
loop-i-init c =
    rw c.requires (order_begun c.args.graph.bytes.now c.args.graph.fits c.args.backward c.size-n.result c.size-n.ensures)

pub loop-i-preserved : goal.loop-i-preserved
loop-i-preserved c =
    let n = c.size-n.result in
    let size = c.size-n.ensures in
    let inside = c.in_order-b.ensures.1 in
    let first = order_more c.args.backward n c.loop-i.i c.loop-i-test.true
    ∙ ap (λ (k : ℕ). k ∷ order_from c.args.backward n (c.loop-i.i + 1)) (sym c.in_order-b.ensures.0) in
    elim c.if-order-b-eq0.branch [
      | then-order-b-eq0 w ↦ rw w.order-is (along_more (along_by first c.loop-i.invariant) (omega arith) w.visit.ensures)
      | else-order-b-eq0 w ↦ rw w.order-is (along_marked (along_by first c.loop-i.invariant) (omega arith) w.if-order-b-eq0.false)
    ]

pub returns : goal.returns
returns c =
    let a = c.args in
    order_noted a.graph.bytes.now a.backward c.size-n.result c.loop-i.i c.size-n.ensures c.loop-i-test.false c.loop-i.invariant

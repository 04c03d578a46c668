use Prim.Native.Nat.{ℕ, ◌<◌}
use native.Mathlib.Omega.{arith}
use mathlib.Core.Path.{sym, ap, subst, ◌∙◌}
use Rattle.model.specs.Visit.{unmarked_in}
use Rattle.graph.specs.Bytes.{size_in}
use Rattle.propagation.specs.Order.{marks_of, noted_of, Notes}
use Rattle.propagation.proofs.ToCome.{to_come}
use Rattle.propagation.proofs.Visiting.{
  visit_in,
  Enters,
  neighbouring_by,
  neighbouring_marked,
  neighbouring_more,
  neighbours_start,
  leave_room,
  call_falls,
  visit_ends,
}
use Rattle.propagation.proofs.+visit.Goals as goal

pub loop-k-init : goal.loop-k-init
loop-k-init t c =
    let a = c.args in
    let g = a.graph.bytes.now in
    let come = ap to_come c.into_iter-k-iterator.ensures.into_iter_gives ∙ c.neighbours-k-items.ensures in
    neighbouring_by (sym come)
    (neighbours_start (record { inside = c.requires.0; noting = c.requires.1; unmarked = c.requires.2 }) a.graph.fits a.backward)

pub visit-requires : goal.visit-requires
visit-requires t c =
    let a = c.args in
    let g = a.graph.bytes.now in
    let inv = c.loop-k.invariant in
    let here = neighbouring_by c.in-Some.ensures.steps inv in (
      subst (λ (m : ℕ). unmarked_in (marks_of (size_in g) c.loop-k.order) < m) c.decreases
          (call_falls (record { inside = c.requires.0; noting = c.requires.1; unmarked = c.requires.2 }) inv),
      (here.inside.0, inv.along.noting, c.if-order-k-eq0.true),
    )

pub loop-k-preserved-then-order-k-eq0 : goal.loop-k-preserved-then-order-k-eq0
loop-k-preserved-then-order-k-eq0 t c =
    let a = c.args in
    let g = a.graph.bytes.now in
    neighbouring_more (neighbouring_by c.in-Some.ensures.steps c.loop-k.invariant)
    c.visit.ensures

pub loop-k-preserved : goal.loop-k-preserved
loop-k-preserved t c =
    let a = c.args in
    let g = a.graph.bytes.now in
    neighbouring_marked (neighbouring_by c.in-Some.ensures.steps c.loop-k.invariant)
    c.if-order-k-eq0.false

pub leave-requires : goal.leave-requires
leave-requires t c =
    let e : Enters c.args.graph.bytes.now c.args.b c.args.order.now = record { inside = c.requires.0; noting = c.requires.1; unmarked = c.requires.2 } in
    let inside = e.inside in
    let small = e.noting.small in
    (omega arith, leave_room e c.loop-k.invariant)

pub returns : goal.returns
returns t c =
    let a = c.args in
    let g = a.graph.bytes.now in
    let n = size_in g in
    subst (Notes (visit_in g a.backward a.b (noted_of n a.order.now)) n a.order.now) (sym c.leave.ensures)
    (visit_ends (record { inside = c.requires.0; noting = c.requires.1; unmarked = c.requires.2 }) c.loop-k.invariant c.in-None.ensures.steps.0)

use Prim.Native.Nat.{◌<◌}
use native.Mathlib.Omega.{arith}
use mathlib.Core.Path.{sym, ap, ◌∙◌}
use Rattle.model.specs.ListLaws.{all_map}
use Rattle.graph.specs.Bytes.{size_in, neighbours}
use Rattle.graph.proofs.Coming.{neighbours_inside}
use Rattle.propagation.proofs.ToCome.{to_come}
use Rattle.propagation.proofs.Dirty.{marking_by, marking_start}
use Rattle.propagation.proofs.mark_neighbours.Goals as goal

pub loop-k-init : goal.loop-k-init
loop-k-init c =
    let a = c.args in
    let bs = neighbours a.graph.bytes.now a.backward a.b in
    let come = ap to_come c.into_iter-k-iterator.ensures.into_iter_gives ∙ c.neighbours-k-items.ensures in
    let size = a.graph.fits.size in
    marking_by (sym come)
    (marking_start bs a.dirty.now c.told-dirty
    (all_map (λ k. k < size_in a.graph.bytes.now) (λ k. k < 128) (λ k l. omega arith) bs (neighbours_inside a.graph.fits c.requires a.backward)))

use Rattle.std.proofs.Common.{◌≡◌, ◌+◌, ◌-◌, ◌<◌, length, get_or, arith, refl, sym, ap, ◌∙◌}
use Rattle.std.proofs.Math.Nat.{sub-zero}
use Rattle.std.proofs.lemmas.List.{get_or_read_under}
use Rattle.id_index.specs.Index.{place_from, place_by, from_next}
use Rattle.id_index.proofs.IdIndex.place_of.Goals as goal

pub loop-init : goal.loop-init
unfolding place_by
loop-init c =
    let a = c.args.self.now in
    let n = length a.ids.now in
    simp sub-zero (ap (place_from a.ids.now n a.bytes c.args.id n) c.from-k.ensures)

pub loop-preserved : goal.loop-preserved
loop-preserved c =
    let a = c.args.self.now in
    let n = length a.ids.now in
    let l = c.loop in
    let found = c.in_ok-get.ensures.lookup in
    let below : l.k < n = omega arith in
    let id = get_or_read_under a.ids.now l.k _ _ 0 found.1 below refl in
    let apart : get_or a.ids.now l.k 0 ≡ c.args.id → ⊥ = omega (arith, id) in
    let fewer : n - l.counter - 1 ≡ n - (l.counter + 1) = omega arith in
    ap (place_from a.ids.now n a.bytes c.args.id (n - (l.counter + 1))) c.from-k-in-loop.ensures
    ∙ ap (λ m. place_from a.ids.now n a.bytes c.args.id m (get_or a.bytes (128 + l.k) 0)) (sym fewer)
    ∙ sym (from_next _ _ _ _ _ _ (omega arith) below apart)
    ∙ l.invariant

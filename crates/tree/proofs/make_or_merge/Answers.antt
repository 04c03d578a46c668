-- What the search found is merged; where it found nothing the position is made, the last.
use Prim.Native.Nat.{◌≤◌, ◌<◌}
use native.Mathlib.Omega.{arith}
use mathlib.Core.Path.{sym, ap, subst, ◌∙◌}
use Rattle.tree.specs.Words.{parent_in}
use Rattle.tree.specs.Tree.{count_in}
use Rattle.tree.proofs.Packed.{packed_parent, packed_key}
use Rattle.tree.proofs.Seeking.{enters_merged, appendable, enters_made}
use Rattle.tree.proofs.make_or_merge.Goals as goal

pub seek-requires : goal.seek-requires
seek-requires c =
    let a = c.args in
    let room = c.requires.2 in
    let short = c.requires.0.short in
    let lies = c.requires.1 in
    let p< : a.parent < 65536 = omega arith in (
      c.requires.0,
      subst (λ n. n ≤ count_in a.tree.now)
          (sym (ap parent_in c.pack-step.ensures.0 ∙ packed_parent a.parent a.place a.access p< c.requires.3)) lies,
      c.requires.4 ∙ sym (packed_key a.parent a.place a.access p< c.requires.3 a.s.now c.pack-step.result c.pack-step.ensures.0),
    )

pub returns-in-Ok : goal.returns-in-Ok
returns-in-Ok c =
    let a = c.args in
    let room = c.requires.2 in
    let short = c.requires.0.short in
    let lies = c.requires.1 in
    enters_merged a.parent a.place a.access c.pack-step.result c.requires.0 (omega arith) c.requires.3
    c.pack-step.ensures.0 c.in-Ok.ensures _ c.merge_at.ensures

pub append-requires : goal.append-requires
append-requires c =
    let a = c.args in
    let room = c.requires.2 in
    let short = c.requires.0.short in
    let lies = c.requires.1 in
    appendable a.parent a.place a.access c.pack-step.result c.requires.0 (omega arith) c.requires.3
    c.pack-step.ensures.0 room c.in-Err.ensures

pub returns-in-Err : goal.returns-in-Err
returns-in-Err c =
    let a = c.args in
    let room = c.requires.2 in
    let short = c.requires.0.short in
    let lies = c.requires.1 in
    enters_made a.parent a.place a.access c.pack-step.result c.requires.0 (omega arith) c.requires.3
    c.pack-step.ensures.0 room c.in-Err.ensures _ c.append.result c.append.ensures

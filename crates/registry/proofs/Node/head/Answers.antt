-- Each field is put into bits of its own, so that unpacking gives it back (`Pack`).
use native.Mathlib.Omega.{arith}
use mathlib.Core.Path.{◌∙◌, ap}
use Rattle.model.specs.Answer.{flag}
use Rattle.registry.proofs.Pack.{flagged, packed_root, packed_child, packs_child, key_of_root, key_of_child}
use borrow.Author.Rules.{rules}
use Rattle.registry.proofs.Node.head.Goals as goal

pub returns-in-Root : goal.returns-in-Root
returns-in-Root c =
    let mark = flagged c.in-Root.reactive c.from-mark.result c.from-mark.ensures in (
      rw (c.in-Root.is, c.from.ensures) (packed_root _ _ _ c.from-mark.result (search rules) mark.0 mark.1),
      omega (arith, mark.1),
      rw (c.in-Root.is, c.from.ensures) (key_of_root _ c.from-mark.result (search rules)),
    )

pub returns-in-Child : goal.returns-in-Child
returns-in-Child c =
    let small = packs_child c.requires c.in-Child.is in
    let optional = flagged c.in-Child.entry.optional c.from-optional.result c.from-optional.ensures in
    let number = flagged c.is_number.result c.from-number.result c.from-number.ensures in (
      rw c.in-Child.is
          (packed_child _ _ c.from-optional.result c.from-number.result small optional.0 optional.1
          (number.0 ∙ ap flag c.is_number.ensures) number.1),
      omega (arith, small, optional.1, number.1),
      key_of_child _ c.from-optional.result c.from-number.result small optional.1 number.1
          ∙ rw (c.in-Child.is, optional.0, number.0, c.is_number.ensures),
    )

-- Number 0 has no word: the first root is the first position. Another number's word gets the link.
use native.Mathlib.Omega.{arith}
use mathlib.Core.Path.{ap}
use lib.ListN.{set}
use Prim.Native.Nat.{◌-◌}
use Rattle.model.specs.Tests.{eqb_equal, eqb_apart}
use Rattle.tree.specs.Tree.{linked_words}
use Rattle.tree.proofs.link.Goals as goal

pub with_link-requires : goal.with_link-requires
with_link-requires c = (c.requires.2 c.if-last-gt0.true, c.requires.1)

pub returns-then-last-gt0 : goal.returns-then-last-gt0
unfolding linked_words
returns-then-last-gt0 c =
    let a = c.args in
    let some = c.if-last-gt0.true in
    rw (eqb_apart a.last 0 (λ z. omega arith)) (ap (set a.tree.now (a.last - 1)) c.with_link.ensures)

pub returns-else-last-gt0 : goal.returns-else-last-gt0
unfolding linked_words
returns-else-last-gt0 c = let none = c.if-last-gt0.false in rw (eqb_equal c.args.last 0 (omega arith))

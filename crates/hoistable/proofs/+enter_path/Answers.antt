use Prim.Native.Nat.{ℕ, ◌<◌}
use native.Mathlib.Nat.{lt_trans}
use mathlib.Core.Path.{subst}
use Rattle.hoistable.proofs.Nodes.{child_path}
use Rattle.hoistable.proofs.Positions.{enters_more}
use Rattle.hoistable.proofs.Ways.{root_way, node_way}
use Rattle.hoistable.specs.Positions.{access_of, Enters}
use Rattle.hoistable.proofs.+enter_path.Goals as goal

pub enter_path-requires : goal.enter_path-requires
enter_path-requires t c =
    let after = (child_path c.args.nodes.words.now c.args.nodes.holds.sound c.args.k c.requires.1 c.load.result c.load.ensures
    c.in-Child.is).after in
    (subst (λ (j : ℕ). c.in-Child.p.0 < j) c.decreases after, (c.requires.0, lt_trans after c.requires.1))

pub returns-in-Root : goal.returns-in-Root
returns-in-Root t c =
    subst (λ way. Enters c.args.nodes.words.now c.args.hoist.now c.enter_position.new.hoist 0 way c.enter_position.result)
    (root_way c.args.nodes.words.now c.args.nodes.holds.sound c.args.k c.requires.1 c.load.result c.load.ensures
    (access_of c.args.optional) c.in-Root.is) c.enter_position.ensures

pub returns-in_ok-parent-in-Child : goal.returns-in_ok-parent-in-Child
returns-in_ok-parent-in-Child t c =
    let last = c.enter_position-in-Child in
    subst (λ way. Enters c.args.nodes.words.now c.args.hoist.now last.new.hoist 0 way last.result)
    (node_way c.args.nodes.words.now c.args.nodes.holds.sound c.args.k c.requires.1 c.load.result c.load.ensures
    (access_of c.args.optional) c.in-Child.is)
    (enters_more last.new.hoist _ last.result c.requires.0 (c.in_ok-parent-in-Child.ensures) last.ensures)

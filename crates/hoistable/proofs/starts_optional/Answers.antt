use native.Mathlib.Nat.{lt_trans}
use mathlib.Core.Path.{sym, ap, ◌∙◌}
use Rattle.entries.specs.Path.{ReactiveScopeDependency}
use Rattle.hoistable.proofs.Nodes.{root_path, child_path}
use Rattle.hoistable.proofs.Ways.{starts_or, starts_child}
use Rattle.hoistable.proofs.starts_optional.Goals as goal

pub returns : goal.returns
returns c =
    let path = root_path c.args.nodes.words.now c.args.nodes.holds.sound c.loop-p.at c.loop-p.invariant.0 _ c.load.ensures
    c.in_default.is in
    sym (ap (λ (d : ReactiveScopeDependency). starts_or c.loop-p.optional d.path) path) ∙ c.loop-p.invariant.1

pub loop-p-smaller : goal.loop-p-smaller
loop-p-smaller c =
    (child_path c.args.nodes.words.now c.args.nodes.holds.sound c.loop-p.at c.loop-p.invariant.0 _ c.load.ensures
    c.in-Child.is).after

pub loop-p-preserved : goal.loop-p-preserved
loop-p-preserved c =
    let stands = child_path c.args.nodes.words.now c.args.nodes.holds.sound c.loop-p.at c.loop-p.invariant.0 _ c.load.ensures
    c.in-Child.is in
    (lt_trans stands.after c.loop-p.invariant.0, sym (starts_child c.loop-p.optional stands.child) ∙ c.loop-p.invariant.1)

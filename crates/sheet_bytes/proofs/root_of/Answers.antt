use native.Mathlib.Nat.{le_trans, lt_trans}
use mathlib.Core.Path.{sym, ◌∙◌}
use Rattle.sheet_bytes.proofs.Nodes.{root_here, parent_before, parent_root}
use Rattle.sheet_bytes.proofs.root_of.Goals as goal

pub load-requires : goal.load-requires
load-requires c = le_trans c.loop-identifier.invariant.0 c.args.nodes.holds.sized.room

pub returns-in-Root : goal.returns-in-Root
returns-in-Root c =
    root_here c.args.nodes.words.now c.loop-identifier.at.0 c.loop-identifier.invariant.0 (sym c.load.ensures ∙ c.in-Root.is) ∙ c.loop-identifier.invariant.1

pub loop-identifier-smaller : goal.loop-identifier-smaller
loop-identifier-smaller c =
    parent_before c.args.nodes.holds c.loop-identifier.at.0 c.loop-identifier.invariant.0 (sym c.load.ensures ∙ c.in-Child.is)

pub loop-identifier-preserved : goal.loop-identifier-preserved
loop-identifier-preserved c =
    let is = sym c.load.ensures ∙ c.in-Child.is in (
      lt_trans (parent_before c.args.nodes.holds c.loop-identifier.at.0 c.loop-identifier.invariant.0 is) c.loop-identifier.invariant.0,
      parent_root c.args.nodes.holds c.loop-identifier.at.0 c.loop-identifier.invariant.0 is ∙ c.loop-identifier.invariant.1,
    )

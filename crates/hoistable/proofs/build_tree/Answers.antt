-- The first loop enters the paths with an optional first entry, and the second the others, into a
-- list that was empty.
use Rattle.hoistable.proofs.Positions.{cleared_count}
use Rattle.hoistable.proofs.Members.{tree_built}
use Rattle.hoistable.proofs.build_tree.Goals as goal

pub returns : goal.returns
returns c =
    tree_built _ (cleared_count c.args.hoist.now c.requires.0 c.requires.1) c.in_ok-enter_members.ensures _ c.enter_members-2.ensures

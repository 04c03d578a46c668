-- Where the words of the tree are given, the levels are read from them. Else what is NonNull in the
-- tree is what the paths do not decide to be Optional.
use mathlib.Core.Path.{◌∙◌}
use Rattle.rows.specs.Members.{members_of}
use Rattle.registry.specs.Words.{registry_of}
use Rattle.hoistable.specs.Candidate.{entries_at}
use Rattle.hoistable.proofs.Numbers.{holds_small}
use Rattle.hoistable.proofs.Trees.{decided_number}
use Rattle.hoistable.proofs.Below.{tree_given, tree_levels}
use Rattle.hoistable.proofs.nonnull_levels.Goals as goal

pub nonnull-requires : goal.nonnull-requires
nonnull-requires c = holds_small c.decided_levels-levels.ensures

pub returns-in-Some : goal.returns-in-Some
returns-in-Some c =
    c.levels_below.ensures
    ∙ tree_levels (members_of c.args.set.words) c.args.candidate.identifier
    (entries_at c.args.candidate.entries.left c.args.s.now c.args.candidate.entries.at)
    (tree_given c.args.tree (members_of c.args.set.words) c.in-Some.is c.requires.2)
    c.child_by_key-root.ensures.0

pub returns-in-None : goal.returns-in-None
returns-in-None c =
    decided_number (registry_of c.args.nodes.words.now) (members_of c.args.set.words) c.args.candidate.identifier
    (entries_at c.args.candidate.entries.left c.args.s.now c.args.candidate.entries.at)
    c.decided_levels-levels.ensures c.nonnull.ensures

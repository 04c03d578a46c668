-- The word is stored with the merged access.
use mathlib.Core.Path.{ap}
use lib.ListN.{set}
use Rattle.tree.proofs.merge_at.Goals as goal

pub returns : goal.returns
returns c = let a = c.args in ap (set a.tree.now a.i) c.merged_word.ensures

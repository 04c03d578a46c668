-- A count of 0: no positions, an empty forest.
use Rattle.tree.proofs.Adding.{cleared_count, cleared, cleared_held}
use Rattle.tree.proofs.clear.Goals as goal

pub returns : goal.returns
returns c =
    let ws = c.args.tree.now in
    let some = c.requires.0 in
    let short = c.requires.1 in
    ((λ s. (cleared_held ws some short s, cleared ws some short s)), cleared_count ws some short)

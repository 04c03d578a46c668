-- `NodeBits::intersection` meets its contract: each word is met by `&`, so each test passes where
-- both pass.
use Rattle.rows.proofs.Members.{intersected}
use borrow.Author.Rules.{rules}
use Rattle.rows.proofs.NodeBits.intersection.Goals as goal

pub returns : goal.returns
returns c = intersected _ _ c.from_fn.result (search rules)

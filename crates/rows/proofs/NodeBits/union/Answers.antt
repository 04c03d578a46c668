-- `NodeBits::union` meets its contract: each word is joined by `|`, so each test passes where one
-- of the two passes.
use Rattle.rows.proofs.Members.{united}
use borrow.Author.Rules.{rules}
use Rattle.rows.proofs.NodeBits.union.Goals as goal

pub returns : goal.returns
returns c = united _ _ c.from_fn.result (search rules)

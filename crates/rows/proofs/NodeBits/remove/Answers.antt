-- `NodeBits::remove` meets its contract: the bit of k is set and then turned over, so the test of k
-- fails and each other answers as before.
use Rattle.rows.proofs.Members.{removed}
use borrow.Author.Rules.{rules}
use Rattle.rows.proofs.NodeBits.remove.Goals as goal

pub returns : goal.returns
returns c = removed c.args.self.now.words c.args.k (search rules) c.requires

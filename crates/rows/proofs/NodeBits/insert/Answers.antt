-- `NodeBits::insert` meets its contract: the bit of k is set in its word, so the test of k passes
-- and each other answers as before.
use Rattle.rows.proofs.Members.{inserted}
use borrow.Author.Rules.{rules}
use Rattle.rows.proofs.NodeBits.insert.Goals as goal

pub returns : goal.returns
returns c = inserted c.args.self.now.words c.args.k (search rules) c.requires

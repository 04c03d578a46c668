-- `NodeBits::contains` meets its contract: the bit that it reads is the test by which the members
-- are chosen.
use mathlib.Core.Path.{sym}
use Rattle.rows.specs.Members.{has_bit}
use Rattle.rows.proofs.Members.{contains_members}
use Rattle.rows.proofs.NodeBits.contains.Goals as goal

pub returns : goal.returns
unfolding has_bit
returns c = sym (contains_members c.args.self.now.words c.args.k c.requires)

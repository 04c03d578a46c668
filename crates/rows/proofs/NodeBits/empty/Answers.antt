-- `NodeBits::empty` meets its contract: no bit of a word that is 0 is set.
use lib.ListN.{get_or-replicate}
use Rattle.rows.proofs.Members.{no_members}
use Rattle.rows.proofs.NodeBits.empty.Goals as goal

pub returns : goal.returns
returns c = no_members _ (λ i l. get_or-replicate 8 i 0 0 l)

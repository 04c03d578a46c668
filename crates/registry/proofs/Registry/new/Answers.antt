-- Words that are all 0 hold a registry that has no node.
use Rattle.registry.proofs.Noted.{zeros_hold_none}
use Rattle.registry.proofs.Registry.new.Goals as goal

pub invariant_of-result : goal.invariant_of-result
invariant_of-result c = record { held = (zeros_hold_none c.empty.result.words c.empty.result.eight c.empty.ensures).0 }

pub returns : goal.returns
returns c = (zeros_hold_none c.empty.result.words c.empty.result.eight c.empty.ensures).1

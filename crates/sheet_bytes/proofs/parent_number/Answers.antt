-- A root's number is the mark, and a child's its parent's.
use mathlib.Core.Path.{sym, ap}
use Rattle.model.specs.Answer.{parent_number}
use Rattle.registry.specs.Nodes.{origin_of}
use Rattle.sheet_bytes.proofs.parent_number.Goals as goal

pub returns-in-Root : goal.returns-in-Root
returns-in-Root c = sym (ap (λ n. parent_number (origin_of n)) c.in-Root.is)

pub returns-in-Child : goal.returns-in-Child
returns-in-Child c = sym (ap (λ n. parent_number (origin_of n)) c.in-Child.is)

use native.Mathlib.Omega.{arith}
use mathlib.Core.Path.{sym}
use Rattle.std.proofs.lemmas.Result.{err_from_is_err_and}
use Rattle.registry.specs.Words.{registry_of}
use Rattle.paths.proofs.Entering.{child_made_at, entering_end, entry_there, entering_full, entering_more}
use Rattle.paths.proofs.enter_entries.Goals as goal

pub returns-in_err-entry : goal.returns-in_err-entry
returns-in_err-entry c = entry_there c.loop.invariant (omega arith) (sym c.in_err-entry.ensures)

pub returns-in_err-node : goal.returns-in_err-node
returns-in_err-node c =
    let full = c.in_err-node.ensures in
    let p = err_from_is_err_and c.from_residual-in_err-node.result c.from_residual-in_err-node.ensures.1 in
    rw (p.1, p.2, full.0) (entering_full c.loop.invariant (omega arith) (sym c.in_ok-entry.ensures) _ _ full.1)

pub loop-preserved : goal.loop-preserved
loop-preserved c =
    entering_more c.loop.invariant (omega arith) (sym c.in_ok-entry.ensures) _ _ _ _
    (child_made_at (registry_of c.loop.registry.words) c.loop.path.node c.in_ok-entry.entry
    c.get_or_create_property_entry.new.self.words _ _ c.in_ok-node.ensures.1) (omega arith)

pub returns : goal.returns
returns c = entering_end c.loop.invariant (omega arith) _ c.loop.registry.held

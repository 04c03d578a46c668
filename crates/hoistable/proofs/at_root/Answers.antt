-- The root's level is the only one, and nothing comes after it.
use mathlib.Core.Path.{sym, ◌∙◌}
use Rattle.hoistable.proofs.Steps.{root_same}
use Rattle.hoistable.proofs.at_root.Goals as goal

pub returns-then-same : goal.returns-then-same
returns-then-same c s i es d none is reads = root_same s i es d none (sym is ∙ c.if-same.true) _ reads

-- The test on the parent's bits tells a root from a child, as in the definition.
use Rattle.model.specs.Tests.{eqb_equal, eqb_apart}
use Rattle.registry.specs.Words.{unpack}
use Rattle.registry.proofs.Node.unpack.Goals as goal

pub returns-then-parent-eq-ROOT : goal.returns-then-parent-eq-ROOT
unfolding unpack
returns-then-parent-eq-ROOT c = rw (eqb_equal _ _ c.if-parent-eq-ROOT.true)

pub returns-else-parent-eq-ROOT : goal.returns-else-parent-eq-ROOT
unfolding unpack
returns-else-parent-eq-ROOT c = rw (eqb_apart _ _ c.if-parent-eq-ROOT.false, c.of-property.ensures)

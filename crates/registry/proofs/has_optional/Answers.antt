-- The tests are the clauses of `optional_over`: a root has none, then the entry's own mark, then
-- the parent's bit.
use Rattle.model.specs.Tests.{eqb_equal, eqb_apart}
use Rattle.registry.specs.Words.{unpack}
use Rattle.registry.proofs.Pack.{inside_parent}
use Rattle.registry.proofs.has_optional.Goals as goal

pub returns-then-parent-eq-ROOT : goal.returns-then-parent-eq-ROOT
unfolding unpack
returns-then-parent-eq-ROOT c = rw (eqb_equal _ _ c.if-parent-eq-ROOT.true)

pub returns-then-head-eq1 : goal.returns-then-head-eq1
unfolding unpack
returns-then-head-eq1 c = rw (eqb_apart _ _ c.if-parent-eq-ROOT.false, eqb_equal _ _ c.if-head-eq1.true)

pub returns : goal.returns
unfolding unpack
returns c = rw (eqb_apart _ _ c.if-parent-eq-ROOT.false, eqb_apart _ _ c.if-head-eq1.false) c.contains.ensures

pub contains-requires : goal.contains-requires
contains-requires c = inside_parent c.args.head 0 0 512 c.requires c.if-parent-eq-ROOT.false

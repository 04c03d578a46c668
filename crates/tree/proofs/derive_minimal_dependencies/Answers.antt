-- All positions below number 0, which stands above the roots, behind no position.
use mathlib.Core.Path.{refl}
use Rattle.tree.proofs.Deriving.{derivable, derives_all}
use Rattle.tree.proofs.derive_minimal_dependencies.Goals as goal

pub collect_minimal_deps_in_subtree-requires : goal.collect_minimal_deps_in_subtree-requires
collect_minimal_deps_in_subtree-requires c =
    let a = c.args in
    derivable a.s.now a.tree.now _ a.w.now refl c.requires.0 c.requires.1

pub returns : goal.returns
returns c =
    let a = c.args in
    derives_all a.s.now a.tree.now _ c.collect_minimal_deps_in_subtree.ensures.0

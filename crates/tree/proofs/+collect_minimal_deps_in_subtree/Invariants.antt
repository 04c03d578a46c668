-- The proof of the cycle of calls {collect_minimal_deps_in_subtree}. The measure is the number of
-- positions behind the parent: its children stand behind it. The loop's invariant, `AtChild`: the
-- link leads to a child of the parent, or nowhere; the records still to come, written from there
-- on, give what all of them give from the start; and the way down to the parent stays.
use Prim.Native.Nat.{◌-◌}
use Rattle.tree.specs.Tree.{count_in}
use Rattle.tree.proofs.Deriving.{place_of, AtChild}
use Rattle.tree.proofs.+collect_minimal_deps_in_subtree.Given as goal

abbrev pub decreases-collect_minimal_deps_in_subtree : goal.decreases-collect_minimal_deps_in_subtree
decreases-collect_minimal_deps_in_subtree l = count_in l.tree.now - l.parent

abbrev pub invariant-loop-next : goal.invariant-loop-next
invariant-loop-next l = AtChild l.s l.tree l.parent l.initial.way l.way l.depth l.initial.w l.w l.count l.next

abbrev pub decreases-loop-next : goal.decreases-loop-next
decreases-loop-next l = count_in l.tree - place_of l.tree l.next

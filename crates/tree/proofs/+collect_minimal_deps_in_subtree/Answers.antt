use Prim.Native.Nat.{ℕ, ◌+◌, ◌-◌, ◌<◌}
use native.Mathlib.Omega.{arith}
use mathlib.Core.Path.{refl, ap, subst, ◌∙◌}
use lib.ListN.{get_or, set, length-take, length-set}
use borrow.Author.Rules.{rules}
use Rattle.entries.specs.Access.{is_dependency_access}
use Rattle.tree.specs.Tree.{count_in}
use Rattle.tree.proofs.Deriving.{
  deriving_start,
  at_child,
  child_behind,
  child_inside,
  child_over,
  child_within,
  child_to,
  at_number,
  at_end,
  child_asked_put,
  child_counted_put,
  child_put,
  child_asked_derived,
  child_counted_derived,
  child_derived,
  child_next,
}
use Rattle.tree.proofs.+collect_minimal_deps_in_subtree.Goals as goal
use Rattle.tree.proofs.+collect_minimal_deps_in_subtree.Goals.{then-is_dependency, else-is_dependency}

pub loop-next-init : goal.loop-next-init
loop-next-init t c = at_child (deriving_start c.requires) c.first_child-next.result c.first_child-next.ensures

pub bounds-way-depth : goal.bounds-way-depth
bounds-way-depth t c = child_within (at_number c.loop-next.invariant c.in-Some.is)

pub slice_bounds-put_path-end : goal.slice_bounds-put_path-end
slice_bounds-put_path-end t c =
    let short = child_within (at_number c.loop-next.invariant c.in-Some.is) in
    let to = length-set c.loop-next.way c.args.depth (get_or c.args.tree.now (c.in-Some.number - 1) 0) in
    omega arith

pub slice_bounds-put_path-end-then-is_dependency : goal.slice_bounds-put_path-end-then-is_dependency
slice_bounds-put_path-end-then-is_dependency t c =
    let short = child_within (at_number c.loop-next.invariant c.in-Some.is) in
    let to = set c.loop-next.way c.args.depth (get_or c.args.tree.now (c.in-Some.number - 1) 0) in
    omega (arith, length-take (c.args.depth + 1) to, length-set c.loop-next.way c.args.depth (get_or c.args.tree.now (c.in-Some.number - 1) 0))

pub put_path-requires : goal.put_path-requires
put_path-requires t c =
    let x = at_number c.loop-next.invariant c.in-Some.is in
    let tested = c.is_dependency.ensures ∙ ap is_dependency_access c.access_in.ensures in
    let to = set c.loop-next.way c.args.depth (get_or c.args.tree.now (c.in-Some.number - 1) 0) in
    let long = child_to x to refl c.is_dependency.result tested in
    (omega (arith, length-take (c.args.depth + 1) to), child_asked_put x _ refl c.is_dependency.result tested c.if-is_dependency.true)

pub overflow_add-count : goal.overflow_add-count
overflow_add-count t c =
    let x = at_number c.loop-next.invariant c.in-Some.is in
    let tested = c.is_dependency.ensures ∙ ap is_dependency_access c.access_in.ensures in
    let few = child_counted_put x _ refl c.is_dependency.result tested c.if-is_dependency.true in
    search rules

pub collect_minimal_deps_in_subtree-count-requires : goal.collect_minimal_deps_in_subtree-count-requires
collect_minimal_deps_in_subtree-count-requires t c =
    let x = at_number c.loop-next.invariant c.in-Some.is in
    let behind = child_behind x in
    let within = child_inside x in (
      subst (λ (n : ℕ). count_in c.args.tree.now - c.in-Some.number < n) c.decreases (omega arith),
      child_asked_derived x _ refl c.is_dependency.result (c.is_dependency.ensures ∙ ap is_dependency_access c.access_in.ensures) c.if-is_dependency.false,
    )

pub overflow_add-count-else-is_dependency : goal.overflow_add-count-else-is_dependency
overflow_add-count-else-is_dependency t c =
    let x = at_number c.loop-next.invariant c.in-Some.is in
    let few = child_counted_derived x _ refl c.is_dependency.result (c.is_dependency.ensures ∙ ap is_dependency_access c.access_in.ensures)
    c.if-is_dependency.false _ _ c.collect_minimal_deps_in_subtree-count.ensures.0 in
    search rules

pub loop-next-preserved : goal.loop-next-preserved
loop-next-preserved t c =
    let x = at_number c.loop-next.invariant c.in-Some.is in
    let tested = c.is_dependency.ensures ∙ ap is_dependency_access c.access_in.ensures in
    child_next x c.sibling_in-next.result c.sibling_in-next.ensures _ _ _
    (elim c.if-is_dependency.branch [
      | then-is_dependency w ↦
          rw (w.way'-is, w.w-is, w.count-is)
          (child_put x _ refl c.is_dependency.result tested w.if-is_dependency.true _ w.put_path.ensures)
      | else-is_dependency w ↦
          rw (w.way'-is, w.w-is, w.count-is)
          (child_derived x _ refl c.is_dependency.result tested w.if-is_dependency.false _ _
          w.collect_minimal_deps_in_subtree-count.ensures.0 _ w.collect_minimal_deps_in_subtree-count.ensures.1)
    ])

pub returns : goal.returns
returns t c =
    let x = at_end c.loop-next.invariant c.in_default.is in
    (child_over x, x.rest.keeps)

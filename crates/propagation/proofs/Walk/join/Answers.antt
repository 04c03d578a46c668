-- `join` meets its contract. Where nothing new joins a set that is reduced already, nothing is to
-- be done. Elsewhere what is reduced is the block's set with the intersection, a set of the
-- registry's nodes, so the reduction's answer is the definition's; its set goes into the block's
-- row, and is compared with the block's old one and with what was reduced: where it is that, the
-- set has all that joined it.
use mathlib.Core.Path.{sym, ◌∙◌}
use mathlib.Core.Bool.{true}
use Rattle.std.proofs.lemmas.Result.{err_from_is_err_and}
use Rattle.propagation.proofs.JoinLaws.{walk_made, join_members, join_known, joined_nothing, joined_full, joined_set_lem}
use Rattle.propagation.proofs.Walk.join.Goals as goal

pub reduce_maybe_optional_chains-requires : goal.reduce_maybe_optional_chains-requires
reduce_maybe_optional_chains-requires c =
    let w = c.args.self in
    let made = walk_made w c.requires.1 c.requires.0 c.row-own.ensures c.intersection_of_joining-found.ensures c.union-all.ensures in
    (join_members made true, join_known made true c.requires.2)

pub returns-then-same_set : goal.returns-then-same_set
returns-then-same_set c =
    let w = c.args.self in
    let made = walk_made w c.requires.1 c.requires.0 c.row-own.ensures c.intersection_of_joining-found.ensures c.union-all.ensures in
    joined_nothing made (c.requires.2 c.if-self.true) (sym c.same_set.ensures ∙ c.if-same_set.true)

pub returns-in_err-set : goal.returns-in_err-set
returns-in_err-set c =
    let w = c.args.self in
    let full = c.in_err-set.ensures in
    let p = err_from_is_err_and c.from_residual.result c.from_residual.ensures.1 in
    let made = walk_made w c.requires.1 c.requires.0 c.row-own.ensures c.intersection_of_joining-found.ensures c.union-all.ensures in
    rw (p.1, p.2) (joined_full made full.1 full.0 c.args.sets.now c.args.sets.now c.args.sets.now)

pub returns : goal.returns
returns c =
    let w = c.args.self in
    let made = walk_made w c.requires.1 c.requires.0 c.row-own.ensures c.intersection_of_joining-found.ensures c.union-all.ensures in
    joined_set_lem made c.in_ok-set.set.words _ _ c.in_ok-set.ensures c.set_row.ensures
    c.same_set-2.result c.same_set-3.result c.same_set-2.ensures c.same_set-3.ensures

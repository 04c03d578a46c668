use Prim.Native.Nat.{ℕ, ◌<◌}
use native.Mathlib.Nat.{lt_trans}
use mathlib.Core.Path.{subst, ◌∙◌}
use Rattle.std.proofs.lemmas.Result.{err_from_is_err_and}
use Rattle.rows.specs.Members.{members_of}
use Rattle.model.specs.Reduction.{reduced_mark}
use Rattle.reduction.proofs.Steps.{Loaded, walk_root, parent_before, walk_full, reached_inside, walked_made, child_still, walk_child}
use Rattle.reduction.proofs.+walk_again.Goals as goal

pub walk_again-requires : goal.walk_again-requires
walk_again-requires t c =
    let w = c.args.registry.now in
    let read : Loaded w.words c.args.k c.load.result = record { sound = w.held.sound; here = c.requires; loaded = c.load.ensures } in
    let less = parent_before (reduced_mark (members_of c.args.set.now.words)) read c.in-Child.is in
    (subst (λ (j : ℕ). c.in-Child.p.0 < j) c.decreases less, lt_trans less c.requires)

pub returns-in_default : goal.returns-in_default
returns-in_default t c =
    let w = c.args.registry.now in
    let read : Loaded w.words c.args.k c.load.result = record { sound = w.held.sound; here = c.requires; loaded = c.load.ensures } in
    (w.held, walk_root (reduced_mark (members_of c.args.set.now.words)) read _ _ _ c.in_default.is)

pub returns-in_err-q : goal.returns-in_err-q
returns-in_err-q t c =
    let w = c.args.registry.now in
    let read : Loaded w.words c.args.k c.load.result = record { sound = w.held.sound; here = c.requires; loaded = c.load.ensures } in
    let p = err_from_is_err_and c.from_residual.result c.from_residual.ensures.1 in
    rw p.1 (p.2 ∙ c.in_err-q.ensures.0, walk_full (reduced_mark (members_of c.args.set.now.words)) read c.in-Child.is c.in_err-q.ensures.1)

pub step-requires : goal.step-requires
step-requires t c =
    let w = c.args.registry.now in
    let read : Loaded w.words c.args.k c.load.result = record { sound = w.held.sound; here = c.requires; loaded = c.load.ensures } in
    let mark = reduced_mark (members_of c.args.set.now.words) in
    let vs = c.walk_again.new.registry.words in (
      reached_inside mark read c.in-Child.is vs c.in_ok-q.ensures.1,
      child_still mark read c.in-Child.is vs c.in_ok-q.ensures.1,
      walked_made mark read c.in-Child.is vs c.in_ok-q.ensures.1,
    )

pub returns : goal.returns
returns t c =
    let w = c.args.registry.now in
    let read : Loaded w.words c.args.k c.load.result = record { sound = w.held.sound; here = c.requires; loaded = c.load.ensures } in
    walk_child (reduced_mark (members_of c.args.set.now.words)) read c.in-Child.is c.walk_again.new.registry.words c.in_ok-q.ensures.1
    c.step.result c.step.new.registry.words c.step.new.registry.optional.words c.step.ensures

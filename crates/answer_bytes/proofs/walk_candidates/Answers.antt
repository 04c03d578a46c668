use Prim.Native.Nat.{◌+◌, ◌*◌}
use native.Mathlib.Omega.{arith}
use mathlib.Core.Path.{refl, sym, subst, ◌∙◌}
use borrow.Author.Rules.{rules}
use Rattle.registry.specs.Words.{registry_of}
use Rattle.rows.specs.Members.{members_of}
use Rattle.answer_bytes.proofs.Walks.{Adding, adding, adding_end, place_within, next_within, head_there, candidate, adding_more}
use Rattle.answer_bytes.proofs.walk_candidates.Goals as goal

pub loop-init : goal.loop-init
loop-init c =
    let e = c.clear.ensures in
    let none = e.0 c.args.candidates.now.s.now in
    let kept = c.clear.auto.tree in
    let room = c.requires.0.long in
    (adding _ _ _ _ _ _ (omega arith) none.0 none.1 e.1, refl)

pub returns-in_default : goal.returns-in_default
returns-in_default c = absurd (head_there c.loop.invariant.0 c.requires.1.1 (omega arith) (sym c.in_default.ensures))

pub nonnull_levels-levels-requires : goal.nonnull_levels-levels-requires
nonnull_levels-levels-requires c =
    (candidate c.loop.invariant.0 c.requires.1.1 (omega arith) (sym c.in-Ok.ensures), c.requires.1.0, c.requires.2)

pub add_candidate-requires : goal.add_candidate-requires
add_candidate-requires c =
    let x = c.loop.invariant.0 in
    let room = x.room in
    (x.held, omega arith, place_within x c.requires.1.1 (omega arith))

pub loop-preserved : goal.loop-preserved
loop-preserved c =
    let k = c.args.candidates.now in
    let kept = c.add_candidate.auto.tree in (
      rw c.from.ensures
          (subst (Adding k.s.now k.start k.count (registry_of k.nodes.words.now) (members_of k.set.words) c.add_candidate.new.tree
          (c.in-Ok.entries_at + 14 * c.in-Ok.head.entries)) (omega arith)
          (adding_more c.loop.invariant.0 c.requires.1.1 (omega arith) (sym c.in-Ok.ensures) _ _ c.nonnull_levels-levels.ensures kept c.add_candidate.ensures)),
      kept ∙ c.loop.invariant.1,
    )

pub returns : goal.returns
returns c = adding_end c.loop.invariant.0 c.requires.1.1 (omega arith)

pub overflow_add-fields_at : goal.overflow_add-fields_at
overflow_add-fields_at c =
    let within = place_within c.loop.invariant.0 c.requires.1.1 (omega arith) in
    search rules

pub overflow_add-at : goal.overflow_add-at
overflow_add-at c =
    let within = next_within c.loop.invariant.0 c.requires.1.1 (omega arith) (sym c.in-Ok.ensures) in
    let place = within.0 in
    let count = within.1 in
    let is = c.from.ensures in
    search rules

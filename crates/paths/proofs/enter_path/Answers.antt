-- The fields of a path are its head and its entries: the head's root is found or made, and the
-- entries lead on from there.
use native.Mathlib.Omega.{arith}
use mathlib.Core.Path.{sym}
use Rattle.std.proofs.lemmas.Result.{err_from_is_err_and}
use Rattle.registry.specs.Words.{registry_of}
use Rattle.paths.proofs.Entering.{root_made_at, head_there, entries_there, path_full, path_rooted}
use Rattle.paths.proofs.enter_path.Goals as goal

pub returns-in_err-head : goal.returns-in_err-head
returns-in_err-head c = head_there c.args.s.now c.args.at c.requires (sym c.in_err-head.ensures)

pub returns-in_err-node : goal.returns-in_err-node
returns-in_err-node c =
    let full = c.in_err-node.ensures in
    let p = err_from_is_err_and c.from_residual-in_err-node.result c.from_residual-in_err-node.ensures.1 in
    rw (p.1, p.2, full.0) (path_full c.args.s.now c.args.at c.requires (sym c.in_ok-head.ensures) (registry_of c.args.registry.now.words) _ _ full.1)

pub enter_entries-requires : goal.enter_entries-requires
enter_entries-requires c =
    let head = c.in_ok-head.head in
    let made = root_made_at (registry_of c.args.registry.now.words) head.identifier head.reactive head.span
    c.get_or_create_identifier.new.self.words _ _ c.in_ok-node.ensures.1 in (
      made.inside,
      let longer = made.longer in omega arith,
      entries_there c.args.s.now c.args.at c.requires (sym c.in_ok-head.ensures),
    )

pub returns : goal.returns
returns c =
    let reg = registry_of c.args.registry.now.words in
    path_rooted c.args.s.now c.args.at c.requires (sym c.in_ok-head.ensures) reg
    c.get_or_create_identifier.new.self.words _ _ c.in_ok-node.ensures.1 _ _ _ c.enter_entries.ensures

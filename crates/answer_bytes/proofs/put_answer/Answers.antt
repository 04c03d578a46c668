-- The tree is built, the returned paths are written from byte 6 on, and the head before them.
use Rattle.std.proofs.Common.{rules}
use Rattle.answer_bytes.proofs.Whole.{paths_fit, answer_written}
use Rattle.answer_bytes.proofs.put_answer.Goals as goal

pub derive_minimal_dependencies-count-requires : goal.derive_minimal_dependencies-count-requires
derive_minimal_dependencies-count-requires c =
    (c.add_candidates.ensures.held, paths_fit c.add_candidates.ensures c.requires.2 c.args.out.now c.requires.3)

pub returns : goal.returns
returns c =
    answer_written c.add_candidates.ensures c.requires.2 c.requires.3 c.args.run.rounds c.args.run.settled
    c.derive_minimal_dependencies-count.ensures c.put_head.ensures (search rules)

-- What was entered and is filled is what the definition's propagation starts from.
use Rattle.propagation.specs.Rules.{rule_of}
use Rattle.stage.proofs.Propagating.{ready, propagates, blocks_count}
use Rattle.stage.proofs.Accepting.{accepts}
use Rattle.stage.proofs.Accepted.propagate_in.Goals as goal

pub fill_graph-requires : goal.fill_graph-requires
fill_graph-requires c = ((accepts c.args.self.now).noted, c.requires.0)

pub propagate_non_null-requires : goal.propagate_non_null-requires
propagate_non_null-requires c =
    ready (blocks_count (accepts c.args.self.now).noted) c.requires.1 c.fill_graph.ensures

pub returns : goal.returns
returns c =
    let r = c.propagate_non_null in
    propagates (blocks_count (accepts c.args.self.now).noted) c.requires.1 c.fill_graph.ensures (rule_of c.args.joining) r.result r.new.sets
    r.new.registry.words r.new.registry.optional.words r.ensures

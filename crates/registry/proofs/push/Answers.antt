-- The three words of the node, the end of its bucket and the count are stored. The words of the
-- nodes that are there stay, and so do the other buckets' ends.
use Rattle.registry.proofs.Buckets.{after_sized, after_linked, after_packed, after_nodes}
use Rattle.registry.proofs.push.Goals as goal

pub returns : goal.returns
returns c =
    let w = c.args.ws.now in
    let is = c.end_of-link.ensures in
    let rises = c.raise-ends.ensures in (
      after_sized w c.args.b c.args.head c.args.value c.args.span _ _ c.requires.0 c.requires.1 c.requires.3 c.requires.6 c.requires.7
          c.requires.5 is rises,
      after_linked w c.args.b c.args.head c.args.value c.args.span _ _ c.requires.0 c.requires.1 c.requires.3 c.requires.6 c.requires.7
          c.requires.5 is rises,
      after_packed w c.args.b c.args.head c.args.value c.args.span _ _ c.requires.0 c.requires.1 c.requires.3 c.requires.6 c.requires.7
          c.requires.5 is rises c.requires.2 c.requires.4,
      after_nodes w c.args.b c.args.head c.args.value c.args.span _ _ c.requires.0 c.requires.1 c.requires.3 c.requires.6 c.requires.7
          c.requires.5 is rises,
    )

use Rattle.std.proofs.Common.{◌≡◌, ◌*◌, ap, rules, arith, take_all}
use Rattle.model.specs.Lists.{concat_map}
use Rattle.model.specs.Answer.{node_bytes}
use Rattle.registry.specs.Words.{count_in, registry_of}
use Rattle.registry.proofs.View.{registry_length}
use Rattle.writer.proofs.Bytes.{puts_to, puts_more, concat_map_next}
use Rattle.sheet_bytes.proofs.put_nodes.Goals as goal

pub put_node-requires : goal.put_node-requires
put_node-requires c =
    let few = c.args.nodes.holds.sized.room in
    (omega arith, omega arith)

pub loop-k-preserved : goal.loop-k-preserved
loop-k-preserved c =
    let size = registry_length c.args.nodes.words.now in
    puts_more (search rules) (concat_map_next _ (registry_of c.args.nodes.words.now) c.loop-k.k _ (omega arith)) c.loop-k.invariant c.put_node.ensures

pub returns : goal.returns
returns c =
    let reg = registry_of c.args.nodes.words.now in
    let size = registry_length c.args.nodes.words.now in
    let all : c.loop-k.k ≡ count_in c.args.nodes.words.now = omega arith in
    puts_to (ap (λ k. 23 * k) all) (ap (concat_map (node_bytes 4)) (take_all c.loop-k.k reg (omega arith))) c.loop-k.invariant

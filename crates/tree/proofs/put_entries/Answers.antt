use Prim.Native.Nat.{◌*◌}
use Rattle.std.proofs.Common.{◌≡◌, length, ap, rules, arith, take_all}
use Rattle.model.specs.Lists.{concat_map}
use Rattle.model.specs.Answer.{entry_bytes}
use Rattle.model.specs.Tree.{entry_of}
use Rattle.writer.proofs.Bytes.{puts_as, puts_to, puts_more, concat_map_next}
use Rattle.tree.specs.Words.{position_of}
use Rattle.tree.proofs.put_entries.Goals as goal

pub loop-position-preserved : goal.loop-position-preserved
loop-position-preserved c =
    let l = c.loop-position in
    let a = c.args in
    puts_more (search rules)
    (concat_map_next (λ v. entry_bytes 4 (entry_of (position_of a.s.now v))) a.positions.now l.position-index 0 c.loop-position-test.true)
    l.invariant (puts_as (ap (λ p. entry_bytes 4 p.entry) c.position_of.ensures) c.entry.ensures)

pub returns : goal.returns
returns c =
    let l = c.loop-position in
    let a = c.args in
    let all : l.position-index ≡ length a.positions.now = omega arith in
    puts_to (ap (λ n. 14 * n) all)
    (ap (concat_map (λ v. entry_bytes 4 (entry_of (position_of a.s.now v)))) (take_all l.position-index a.positions.now (omega arith)))
    l.invariant

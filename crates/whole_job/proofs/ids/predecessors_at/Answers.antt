-- `whole_job::ids::predecessors_at` meets its contract: the head, which was read before, says how
-- many ids follow it, and they are at most 64, which stand at the front of the array.
use Rattle.std.proofs.Common.{◌≤◌, arith, sym, ◌∙◌}
use Rattle.laws.specs.Fits.{holds_got}
use Rattle.fields.proofs.Reading.{seen}
use Rattle.fields.specs.Answer.{got_value}
use Rattle.whole_job.specs.Ids.{predecessors_at}
use Rattle.job.specs.declared.BlockHead.{BlockHead}
use Rattle.job.proofs.Bounds.{predecessors_most}
use Rattle.job.proofs.ReadAgain.{ids_again}
use Rattle.job.proofs.Stored.{stored}
use Rattle.whole_job.proofs.Predecessors.{head_there, count_again}
use Rattle.whole_job.proofs.ids.predecessors_at.Goals as goal

pub unwrap-ids_at-requires : goal.unwrap-ids_at-requires
unwrap-ids_at-requires c = head_there _ _ _ c.block_head_at.ensures c.requires

pub ids_into-requires : goal.ids_into-requires
ids_into-requires c =
    let head = seen got_value c.block_head_at.ensures c.unwrap-ids_at.ensures in
    (holds_got (λ (h : BlockHead). h.predecessors ≤ 64) head (predecessors_most _ _), ids_again _ _ c.requires head)

pub shared_ref_as_front-result : goal.shared_ref_as_front-result
shared_ref_as_front-result c =
    let head = seen got_value c.block_head_at.ensures c.unwrap-ids_at.ensures in
    let few = holds_got (λ (h : BlockHead). h.predecessors ≤ 64) head (predecessors_most _ _) in
    omega (arith, few)

pub returns : goal.returns
unfolding predecessors_at
returns c =
    let head = seen got_value c.block_head_at.ensures c.unwrap-ids_at.ensures in
    let few = holds_got (λ (h : BlockHead). h.predecessors ≤ 64) head (predecessors_most _ _) in
    let count = count_again _ _ _ (ids_again _ _ c.requires head) in
    rw head (stored _ _ _ _ (omega (arith, few, count)) (c.from.ensures ∙ sym count) c.ids_into.ensures).front

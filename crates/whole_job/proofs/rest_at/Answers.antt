-- `whole_job::rest_at` meets its contract: the front of each array is what was noted, by
-- `blocks_stored_in`, and its tests are the job's, by `job_checked`.
use Rattle.std.proofs.Common.{◌≡◌, length, arith, rules, ◌∙◌}
use Rattle.std.proofs.lemmas.Result.{err_from_is_err_and}
use Rattle.job.specs.Kept.{note_place, note_number}
use Rattle.whole_job.proofs.Answers.{job_refused, blocks_few, places_read, blocks_stored_in, job_checked}
use Rattle.whole_job.proofs.rest_at.Goals as goal

pub returns-in_err-head : goal.returns-in_err-head
returns-in_err-head c =
    let p = err_from_is_err_and c.from_residual.result c.from_residual.ensures.1 in (
      rw (p.1, p.2) (job_refused _ c.in_err-head.ensures.value),
      (c.records_at.ensures.ids_after, c.records_at.ensures.places_after),
    )

pub checked_by-requires : goal.checked_by-requires
checked_by-requires c =
    let value = c.in_ok-head.ensures.value in
    let few = blocks_few _ value in
    let ids : length c.records_at.new.ids ≡ 128 = search rules in
    let places : length c.records_at.new.places ≡ 128 = search rules in
    let noted = (blocks_stored_in _ value note_place _ _ places c.records_at.ensures.places_after).front in
    (omega arith, omega arith, places_read _ value _ noted)

pub returns : goal.returns
returns c =
    let value = c.in_ok-head.ensures.value in
    let long : length c.records_at.new.ids ≡ 128 = search rules in
    let far : length c.records_at.new.places ≡ 128 = search rules in
    let ids = (blocks_stored_in _ value note_number _ _ long c.records_at.ensures.ids_after).front in
    let places = (blocks_stored_in _ value note_place _ _ far c.records_at.ensures.places_after).front in (
      c.checked_by.ensures ∙ rw (ids, places) (job_checked _ value),
      (c.records_at.ensures.ids_after, c.records_at.ensures.places_after),
    )

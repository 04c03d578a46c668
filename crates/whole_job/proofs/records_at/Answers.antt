-- `whole_job::records_at` meets its contract: the header that was read, then blocks and candidates
-- one after the other. The laws of `Records` say how far the definition goes.
use Rattle.std.proofs.Common.{◌≤◌, sym}
use Rattle.std.proofs.lemmas.Result.{err_from_is_err_and}
use Rattle.model.specs.Job.{HD, Header}
use Rattle.laws.specs.Fits.{holds_got}
use Rattle.fields.proofs.Reading.{seen}
use Rattle.job.specs.Answer.{got_header}
use Rattle.job.proofs.Bounds.{blocks_most}
use Rattle.job.proofs.Records.{behind, records_fields, blocks_refused, candidates_refused, byte_extra, all_read}
use Rattle.whole_job.proofs.records_at.Goals as goal

pub returns-in_err-head-clause-value : goal.returns-in_err-head-clause-value
returns-in_err-head-clause-value c =
    let p = err_from_is_err_and c.from_residual.result c.from_residual.ensures.1 in
    rw (p.1, p.2, records_fields, seen got_header c.requires.0 c.in_err-head.was)

pub note_blocks-requires : goal.note_blocks-requires
note_blocks-requires c =
    let head = behind _ _ c.requires c.in_ok-head.was in
    holds_got (λ (h : Header). h.blocks ≤ 128) head (blocks_most HD _ 0)

pub returns-in_err-candidates_at-clause-value : goal.returns-in_err-candidates_at-clause-value
returns-in_err-candidates_at-clause-value c =
    let head = behind _ _ c.requires c.in_ok-head.was in
    let p = err_from_is_err_and c.from_residual-in_err-candidates_at.result c.from_residual-in_err-candidates_at.ensures.1 in
    rw (p.1, p.2, blocks_refused _ head (sym c.in_err-candidates_at.ensures.result_value))

pub returns-in_err-next-clause-value : goal.returns-in_err-next-clause-value
returns-in_err-next-clause-value c =
    let head = behind _ _ c.requires c.in_ok-head.was in
    let past = sym c.in_ok-candidates_at.ensures.result_value in
    let p = err_from_is_err_and c.from_residual-in_err-next.result c.from_residual-in_err-next.ensures.1 in
    rw (p.1, p.2, candidates_refused _ head past (sym c.in_err-next.ensures))

pub returns-then-next-s-clause-value : goal.returns-then-next-s-clause-value
returns-then-next-s-clause-value c =
    let head = behind _ _ c.requires c.in_ok-head.was in
    let past = sym c.in_ok-candidates_at.ensures.result_value in
    rw (byte_extra _ head past (sym c.in_ok-next.ensures) c.if-next-s.true)

pub returns-clause-value : goal.returns-clause-value
returns-clause-value c =
    let head = behind _ _ c.requires c.in_ok-head.was in
    let past = sym c.in_ok-candidates_at.ensures.result_value in
    rw (c.from.ensures, c.from-2.ensures) (sym (all_read _ head past (sym c.in_ok-next.ensures) c.if-next-s.false))

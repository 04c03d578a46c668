-- The mark tells a ready path from a raw read; the head of a raw read tells whether its path is
-- kept. Either way one path is entered, whose fields are what the record brings.
use mathlib.Core.Path.{◌≡◌, refl, sym, ◌∙◌}
use Rattle.model.specs.ReadingBytes.{mapped}
use Rattle.model.specs.Job.{read_path_fields}
use Rattle.job.proofs.Passing.{not_both, passed_refused}
use Rattle.assumed.specs.Start.{itself, read_brought}
use Rattle.assumed.proofs.Records.{brought_by, raw_refused, raw_dropped, raw_cut, ready_brings, kept_brings, fields_there, record_entered}
use Rattle.assumed.proofs.EnteredSet.enter_record.Goals as goal
use Rattle.assumed.proofs.EnteredSet.enter_record.Goals.{in-Ok, in-Err+in_ok-head-in-Err+else-not-is_immutable_at_instr}

pub returns-in_err-head-in-Err : goal.returns-in_err-head-in-Err
returns-in_err-head-in-Err c =
    not_both c.requires.1.read (brought_by _ _ (sym c.in-Err.ensures) ∙ raw_refused _ _ (sym c.in_err-head-in-Err.ensures))

pub returns-in_err-next-in-Err : goal.returns-in_err-next-in-Err
returns-in_err-next-in-Err c =
    not_both c.requires.1.read
    (brought_by _ _ (sym c.in-Err.ensures) ∙ raw_cut _ _ (sym c.in_ok-head-in-Err.ensures)
    (λ d. sym (c.if-not-is_immutable_at_instr.ensures d)) (passed_refused _ (sym c.in_err-next-in-Err.ensures)))

pub returns-then-not-is_immutable_at_instr : goal.returns-then-not-is_immutable_at_instr
returns-then-not-is_immutable_at_instr c =
    record_entered _ _ _ _ (brought_by _ _ (sym c.in-Err.ensures) ∙ raw_dropped _ _ (sym c.in_ok-head-in-Err.ensures)
    (λ d. sym (c.if-not-is_immutable_at_instr.ensures d)) (sym c.in_ok-next-in-Err.ensures))
    (c.args.registry.now.held, refl, refl)

pub enter_fields-requires : goal.enter_fields-requires
enter_fields-requires c =
    let brings : read_brought c.args.s.now c.args.self.now.at ≡ mapped itself (read_path_fields 4 c.args.s.now c.match-mark_at.fields_at) =
    elim c.match-mark_at.branch [
      | in-Ok w ↦ rw w.fields_at-is (ready_brings _ _ (sym w.in-Ok.ensures))
      | in-Err+in_ok-head-in-Err+else-not-is_immutable_at_instr w ↦
          rw w.fields_at-is (kept_brings _ _ (sym w.in-Err.ensures) (sym w.in_ok-head-in-Err.ensures)
          (λ d. sym (w.if-not-is_immutable_at_instr.ensures d)))
    ] in
    (c.requires.0, fields_there brings c.requires.1)

pub returns : goal.returns
returns c =
    let brings : read_brought c.args.s.now c.args.self.now.at ≡ mapped itself (read_path_fields 4 c.args.s.now c.match-mark_at.fields_at) =
    elim c.match-mark_at.branch [
      | in-Ok u ↦ rw u.fields_at-is (ready_brings _ _ (sym u.in-Ok.ensures))
      | in-Err+in_ok-head-in-Err+else-not-is_immutable_at_instr u ↦
          rw u.fields_at-is (kept_brings _ _ (sym u.in-Err.ensures) (sym u.in_ok-head-in-Err.ensures)
          (λ d. sym (u.if-not-is_immutable_at_instr.ensures d)))
    ] in
    record_entered _ _ _ _ brings c.enter_fields.ensures

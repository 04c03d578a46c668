-- A registry without room is refusal 9, where the assumed paths are entered or later; otherwise the
-- bytes are those of the job, its start and its propagation.
use Rattle.std.proofs.Common.{rules, ◌≡◌, ap, ◌∙◌, Ok, Err}
use Rattle.model.specs.Stage.{start_of, propagated}
use Rattle.propagation.specs.Rules.{rule_of}
use Rattle.stage.proofs.Propagating.{full_start, job_full, job_propagated, job_entered}
use Rattle.stage.proofs.Room.{room_kept}
use Rattle.stage.proofs.Performing.{refuses, stands_written, full_refused, room_written}
use Rattle.stage.proofs.Accepting.{accepts}
use Rattle.stage.proofs.Accepted.perform_in.Goals as goal

pub enter_blocks-requires : goal.enter_blocks-requires
enter_blocks-requires c =
    let noted = (accepts c.args.self.now).noted in
    (record { job = noted.job; blocks = noted.blocks }, noted.few, c.new-registry.ensures, c.requires.1.rows)

pub returns-in_err-made : goal.returns-in_err-made
returns-in_err-made c =
    let noted = (accepts c.args.self.now).noted in
    let rule = rule_of c.args.joining in
    let full = c.in_err-made.ensures in
    let told : c.from_residual.result ≡ Err c.in_err-made.field-0.0 = search rules in
    refuses
    (full_refused rule c.args.operation c.args.self.now.s.now noted.job noted.blocks.end noted.blocks.reads
    (job_full noted rule (full_start rule _ full.1))) (told ∙ ap Err full.0)

pub propagate-requires : goal.propagate-requires
propagate-requires c = c.in_ok-made.ensures.0

pub returns-in_err-run : goal.returns-in_err-run
returns-in_err-run c =
    let noted = (accepts c.args.self.now).noted in
    let rule = rule_of c.args.joining in
    let full = c.in_err-run.ensures in
    let told : c.from_residual-in_err-run.result ≡ Err c.in_err-run.field-0.0 = search rules in
    refuses
    (full_refused rule c.args.operation c.args.self.now.s.now noted.job noted.blocks.end noted.blocks.reads (job_full noted rule full.1))
    (told ∙ ap Err full.0)

pub put-written-requires : goal.put-written-requires
put-written-requires c =
    let noted = (accepts c.args.self.now).noted in
    let rule = rule_of c.args.joining in
    let held = job_propagated noted rule (Ok c.in_ok-run.run') _ _ _ c.in_ok-run.ensures in (
      held.stands.members,
      c.requires.0,
      room_kept _ _ _ (c.propagate.auto.sets ∙ c.enter_blocks.auto.sets) c.requires.1,
    )

pub returns : goal.returns
returns c =
    let noted = (accepts c.args.self.now).noted in
    let rule = rule_of c.args.joining in
    let held = job_propagated noted rule (Ok c.in_ok-run.run') _ _ _ c.in_ok-run.ensures in
    let put = c.put-written.ensures noted.job noted.blocks.end noted.blocks.reads (start_of noted.job.blocks)
    (job_entered noted _ c.in_ok-made.ensures.1)
    (propagated rule noted.job.blocks) held.same in
    stands_written (room_written rule c.args.operation c.args.self.now.s.now noted.job noted.blocks.end noted.blocks.reads held)
    put.0 put.1

use Rattle.std.proofs.Common.{◌<◌, ◌≤◌, arith, refl, sym, ap, ◌∙◌}
use Rattle.std.proofs.lemmas.Result.{err_from_is_err_and}
use Rattle.entries.specs.declared.BlockId.{BlockId}
use Rattle.model.specs.Job.{Block}
use Rattle.job.specs.Passing.{passed}
use Rattle.job.proofs.Passing.{mapped_got, mapped_refused, many_done, many_next, many_halt}
use Rattle.job.proofs.Noting.{notes_end, notes_next, notes_stop}
use Rattle.whole_job.proofs.note_blocks.Goals as goal

pub returns-in_err-id : goal.returns-in_err-id
returns-in_err-id c =
    let more : c.loop-k.k < c.args.count = omega arith in
    let inv = c.loop-k.invariant in
    let stopped = mapped_refused (λ (b : Block). b.id) _ (sym c.in_err-id.ensures) in
    let p = err_from_is_err_and c.from_residual.result c.from_residual.ensures.1 in
    record {
      result_value = rw (p.1, p.2) (sym (many_halt _ _ _ _ _ more (ap passed stopped)) ∙ inv.0);
      ids_after = sym (notes_stop _ _ _ _ _ _ _ more stopped) ∙ inv.1;
      places_after = sym (notes_stop _ _ _ _ _ _ _ more stopped) ∙ inv.2;
    }

pub loop-k-preserved : goal.loop-k-preserved
loop-k-preserved c =
    let more : c.loop-k.k < c.args.count = omega arith in
    let inv = c.loop-k.invariant in
    let block = mapped_got (λ (b : Block). b.id) _ (sym c.in_ok-id.ensures) in (
      sym (many_next _ _ _ _ _ more (ap passed block.1)) ∙ inv.0,
      sym (notes_next _ _ _ _ _ _ _ more block.1 (ap (λ (id : BlockId). id.0) block.2)) ∙ inv.1,
      sym (notes_next _ _ _ _ _ _ _ more block.1 refl) ∙ inv.2,
      inv.3,
    )

pub returns : goal.returns
returns c =
    let over : c.args.count ≤ c.loop-k.k = omega arith in
    let inv = c.loop-k.invariant in record {
      result_value = sym (many_done _ _ _ _ _ over) ∙ inv.0;
      ids_after = sym (notes_end _ _ _ _ _ _ _ over) ∙ inv.1;
      places_after = sym (notes_end _ _ _ _ _ _ _ over) ∙ inv.2;
    }

-- What is turned back before it is thinned is turned back by the operation; what was opened is
-- thinned.
use Rattle.std.proofs.Common.{Bor, List, ℕ, ap, rules, ◌≡◌, Err}
use Rattle.model.specs.Thin.{least_thin_buffer}
use Rattle.stage.proofs.Performing.{refuses, read_turned_back}
use Rattle.stage.proofs.Thinned.{thin_turned_back, job_there, thin_meets}
use Rattle.stage.proofs.thin.Goals as goal

pub returns-in_err-within_lengths : goal.returns-in_err-within_lengths
returns-in_err-within_lengths c =
    let r : c.from_residual.result ≡ Err c.in_err-within_lengths.field-0.0 = search rules in
    refuses (thin_turned_back c.args.s.now c.args.out.now c.in_err-within_lengths.ensures.err) r

pub returns-in_err-job : goal.returns-in_err-job
returns-in_err-job c =
    let a = c.args in
    let w = c.in_ok-within_lengths.ensures.ok in
    let t = read_turned_back least_thin_buffer a.s.now a.out.now w.0 w.1 c.in_err-job.ensures.err in
    let r : c.from_residual-in_err-job.result ≡ Err c.in_err-job.field-0.0 = search rules in
    refuses (thin_turned_back a.s.now a.out.now t) r

pub put_thin-requires : goal.put_thin-requires
put_thin-requires c =
    let w = c.in_ok-within_lengths.ensures.ok in
    job_there c.args.s.now c.args.out.now c.in_ok-job.job (ap (λ (b : Bor (List ℕ)). b.now) c.in_ok-job.ensures.ok) w.0

pub returns : goal.returns
returns c =
    let w = c.in_ok-within_lengths.ensures.ok in
    thin_meets c.args.s.now c.args.out.now c.in_ok-job.job (ap (λ (b : Bor (List ℕ)). b.now) c.in_ok-job.ensures.ok) w.0 c.put_thin.ensures

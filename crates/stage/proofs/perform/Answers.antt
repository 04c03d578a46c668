-- What is turned back before it is performed is turned back by the operation; what was opened is
-- performed.
use Rattle.std.proofs.Common.{Bor, List, ℕ, rules, ◌≡◌, ap, sym, subst, ◌∙◌, Err}
use Rattle.model.specs.Answer.{Verdict, least_buffer}
use Rattle.propagation.specs.Rules.{rule_of}
use Rattle.stage.specs.Jobs.{Meets, job_verdict}
use Rattle.stage.proofs.Performing.{refuses, turned_back, read_turned_back, by_job}
use Rattle.stage.proofs.perform.Goals as goal

pub returns-in_err-within_lengths : goal.returns-in_err-within_lengths
returns-in_err-within_lengths c =
    let e = turned_back (rule_of c.args.joining) c.args.operation c.args.s.now c.args.out.now c.in_err-within_lengths.ensures.err in
    let r : c.from_residual.result ≡ Err c.in_err-within_lengths.field-0.0 = search rules in
    refuses e r

pub returns-in_err-job : goal.returns-in_err-job
returns-in_err-job c =
    let a = c.args in
    let w = c.in_ok-within_lengths.ensures.ok in
    let t = read_turned_back least_buffer a.s.now a.out.now w.0 w.1 c.in_err-job.ensures.err in
    let r : c.from_residual-in_err-job.result ≡ Err c.in_err-job.field-0.0 = search rules in
    refuses (turned_back (rule_of a.joining) a.operation a.s.now a.out.now t) r

pub returns : goal.returns
returns c =
    let a = c.args in
    let w = c.in_ok-within_lengths.ensures.ok in
    let rule = rule_of a.joining in
    let same = ap (λ (b : Bor (List ℕ)). job_verdict rule a.operation b.now) c.in_ok-job.ensures.ok in
    let e = by_job rule a.operation a.s.now a.out.now w.0 w.1 ∙ sym same in
    subst (λ (v : Verdict). Meets v c.perform.result a.out.now c.perform.new.out) (sym e) c.perform.ensures

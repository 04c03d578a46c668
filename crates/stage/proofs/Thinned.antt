-- The thin job by its verdict: refusals 1 and 2 by the lengths, 3 to 8 by the reader, and its
-- bytes.
use Prim.Native.Nat.{ℕ, ◌≤◌}
use native.Mathlib.Omega.{arith}
use native.Mathlib.Nat.{zero-add}
use mathlib.Core.Path.{◌≡◌, refl, subst, ap, ◌∙◌}
use mathlib.Core.List.{List}
use lib.ListN.{length}
use Rattle.entries.specs.declared.Refusal.{Refusal}
use Rattle.model.specs.Job.{HD, read_job}
use Rattle.model.specs.JobBytes.{job_bytes}
use Rattle.model.specs.Answer.{turns_back, longest_job, span_width}
use Rattle.model.specs.Thin.{thinned, least_thin_buffer, on_thin_job, thin_of}
use Rattle.job.specs.Kept.{kept_of}
use Rattle.job.proofs.Accepted.{Accepted as IsAccepted, accepted}
use Rattle.thin_bytes.specs.Thins.{JobThere, ThinsJob}
use Rattle.std.specs.Prelude.{Ok}
use Rattle.stage.specs.declared.Accepted.{Accepted}
use Rattle.stage.proofs.Accepting.{kept}
use Rattle.stage.specs.Jobs.{TurnedBack, Meets}
use Rattle.stage.proofs.Performing.{lengths_pass, stands_written}

module _ (s out : List ℕ) where
  pub thin_turned_back : {r : Refusal} → TurnedBack least_thin_buffer s out r → thin_of s out ≡ turns_back r
  unfolding thin_of
  thin_turned_back t = t (on_thin_job HD span_width) (λ q. refl)

  -- what is thinned is the job that was read
  module _ (o : Accepted) (same : o.s.now ≡ s) (wide : least_thin_buffer ≤ length out) where
    short : length s ≤ longest_job
    short = subst (λ (l : List ℕ). length l ≤ longest_job) same o.short

    by_reading : thin_of s out ≡ on_thin_job HD span_width (read_job HD span_width s)
    unfolding thin_of
    by_reading = lengths_pass least_thin_buffer s out _ wide short

    there : IsAccepted s o.head
    there = accepted s (subst (λ (l : List ℕ). Ok o.head ≡ kept_of l (read_job HD 4 l)) same (kept o))

    pub job_there : JobThere s o.head out
    job_there = record { job = there.job; end = length s; reads = there.accepts; keeps = there.keeps; short = short; room = wide }

    pub thin_meets : {after : List ℕ} {n : ℕ} → ThinsJob s out after n → Meets (thin_of s out) (Ok n) out after
    thin_meets w =
        let v = w.is there.job (length s) there.accepts in
        let size : _ ≡ length (job_bytes HD span_width (thinned there.job)) = v.0.ends ∙ zero-add _ in
        let no_longer = v.1 in
        let room = wide in
        let few = short in
        stands_written (by_reading ∙ ap (on_thin_job HD span_width) there.accepts) v.0 (omega arith)

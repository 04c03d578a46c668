-- The promises of document 02, E1, for any two-byte mark of the header, any width of a span and any
-- joining rule; then with HD as the mark due.
use Rattle.std.specs.Prelude.{ℕ, ◌^◌, ◌≤◌, ◌<◌, ◌≡◌, refl, Bool, true, false, length, ltb}
use Rattle.std.proofs.Common.{arith, sym, subst, ◌∙◌, inl, inr}
use Rattle.std.proofs.Math.Path.{ap}
use Rattle.std.proofs.Math.Bool.{cond}
use mathlib.Core.List.{List, []}
use Rattle.entries.specs.declared.Refusal.{Refusal}
use Rattle.entries.specs.declared.Refusal.TheVariants.{ShortBuffer, LongJob, ManyNodes}
use Rattle.model.specs.Tests.{decide, ltb_true, ltb_false, ltb_less, ltb_not_less}
use Rattle.model.specs.ListLaws.{All}
use Rattle.model.specs.ReadingBytes.{Read, got, refused}
use Rattle.model.specs.Registry.{node_limit}
use Rattle.model.specs.Rounds.{Rounds}
use Rattle.model.specs.Propagation.{Work, JoiningRule, done_neighbours}
use Rattle.model.specs.Job.{Job, HD, read_job}
use Rattle.model.specs.JobBytes.{job_bytes}
use Rattle.model.specs.Stage.{Started, start_of, propagated}
use Rattle.model.specs.Answer.{
  Verdict,
  writes,
  turns_back,
  within_lengths,
  within_nodes,
  on_job,
  least_buffer,
  longest_job,
  span_width,
  Writing,
  verdict,
  answer_writing,
  sheet_bytes,
  answer_of,
  sheet_of,
}
use Rattle.model.specs.Strict.{strict_neighbours, strict_answer_of, strict_sheet_of}
use Rattle.model.specs.Thin.{thinned, least_thin_buffer, on_thin_job, thin_verdict, thin_of}
use Rattle.laws.specs.JobBack.{job_reads}
use Rattle.laws.specs.Fits.{read_acceptable}
use Rattle.laws.specs.Written.{job_written, job_end}
use Rattle.thin_laws.specs.Statement.{
  WithoutRepeats,
  ThinSame,
  ThinAgain,
  ThinLengths,
  PassedReading,
  ThinRefuses,
  NeverNine,
  ShortAlone,
}
use Rattle.thin_laws.specs.Repeats.{thinned_once}
use Rattle.thin_laws.specs.Refused.{OfReading, reading_refuses}
use Rattle.thin_laws.specs.ThinPaths.{blocks_thinned, propagated_thinned, answer_thinned, sheet_thinned}
use Rattle.thin_laws.specs.ThinJobs.{
  scope_thinned,
  blocks_thinned_once,
  candidates_thinned_once,
  thinned_twice,
  acceptable_thinned,
  job_no_longer,
  job_bytes_lem,
}

-- What was written.

-- lengths that are not refused, and what comes after them
record WithinLengths (least_out most_job : ℕ) (job out t : List ℕ) (rest : Verdict) : Type 0 where
  wide : least_out ≤ length out
  short : length job ≤ most_job
  after : rest ≡ writes t

within_lengths_lem : (least_out most_job : ℕ) (job out t : List ℕ) (rest : Verdict)
    → within_lengths least_out most_job job out rest ≡ writes t
    → WithinLengths least_out most_job job out t rest
within_lengths_lem least_out most_job job out t rest e =
    decide (ltb (length out) least_out) (λ b. absurd (refused_writes (rw b at e)))
    (λ b. decide (ltb most_job (length job)) (λ c. absurd (refused_writes (rw (b, c) at e)))
    (λ c. record { wide = ltb_false _ _ b; short = ltb_false _ _ c; after = rw (b, c) at e }))
  where
    refused_writes : {r : Refusal} → turns_back r ≡ writes t → ⊥
    refused_writes e = let z : ◌≡◌ {A = ℕ} 0 1 = cc in omega arith

-- the job that was read, and the bytes of its thin job
record ThinJob (head w : ℕ) (read : Read Job) (t : List ℕ) : Type 0 where
  j : Job
  end : ℕ
  reads : read ≡ got j end
  bytes : job_bytes head w (thinned j) ≡ t

thin_job : (head w : ℕ) (read : Read Job) (t : List ℕ) → on_thin_job head w read ≡ writes t → ThinJob head w read t
thin_job head w (got j end) t e = record { j = j; end = end; reads = refl; bytes = cc }
thin_job head w (refused r) t e = absurd (let z : ◌≡◌ {A = ℕ} 0 1 = cc in omega arith)

-- Where the thin writer writes t.
module _ (head w : ℕ) (m : head < 256 ^ 2) (job o t : List ℕ) (bytes : All (λ b. b < 256) job)
    (e : thin_verdict head w job o ≡ writes t) where
  within : WithinLengths least_thin_buffer longest_job job o t (on_thin_job head w (read_job head w job))
  unfolding thin_verdict
  within = within_lengths_lem least_thin_buffer longest_job job o t (on_thin_job head w (read_job head w job)) e

  written : ThinJob head w (read_job head w job) t
  written = thin_job head w (read_job head w job) t within.after

  -- the thin job is read from what was written
  reads_thin : read_job head w t ≡ got (thinned written.j) (length t)
  reads_thin =
      let j = written.j in
      let a = acceptable_thinned w j (read_acceptable head w job bytes j written.end written.reads) in
      subst (λ (u : List ℕ). read_job head w u ≡ got (thinned j) (length u)) written.bytes
      (job_reads head w (thinned j) m a.fits a.no_repeat a.no_unknown)

  pub thin_no_longer : length t ≤ length job
  thin_no_longer =
      let whole = ap length (job_written head w job bytes written.j written.end written.reads) in
      let part = ap length written.bytes in
      omega (arith, job_no_longer head w written.j)

  pub thin_room : length t ≤ length o
  thin_room = let wide = within.wide in let short = within.short in omega (arith, thin_no_longer)

  pub thin_is_bytes : All (λ b. b < 256) t
  thin_is_bytes = subst (All (λ b. b < 256)) written.bytes (job_bytes_lem head w (thinned written.j))

  -- an operation that writes the same of a thin job as of the job does the same with what was
  -- written
  pub same_verdict : (rule : JoiningRule) (writing : Writing)
      → ((j : Job) (start : Started) (p : Rounds Work) → writing w (thinned j) start p ≡ writing w j start p)
      → (out : List ℕ) → verdict head w rule writing t out ≡ verdict head w rule writing job out
  unfolding verdict thinned
  same_verdict rule writing same out =
      let j = written.j in
      let p = propagated rule j.blocks in
      let short = within.short in
      let on : on_job rule (writing w) (read_job head w t) ≡ on_job rule (writing w) (read_job head w job)
      = ap (on_job rule (writing w)) reads_thin
      ∙ ap (λ (q : Rounds Work). within_nodes q (writing w (thinned j) (start_of (thinned j).blocks) q))
      (propagated_thinned rule j.blocks)
      ∙ ap (λ (start : Started). within_nodes p (writing w (thinned j) start p)) (blocks_thinned [] j.blocks)
      ∙ ap (within_nodes p) (same j (start_of j.blocks) p) ∙ ap (on_job rule (writing w)) (sym written.reads) in
      rw (ltb_not_less longest_job (length t) (omega (arith, thin_no_longer)), ltb_not_less longest_job (length job) short)
      (ap (λ (v : Verdict). cond (ltb (length out) least_buffer) (turns_back ShortBuffer) v) on)

  -- and the thin writer writes it again
  pub again_verdict : (out : List ℕ) → least_thin_buffer ≤ length out → thin_verdict head w t out ≡ writes t
  unfolding thin_verdict
  again_verdict out wide =
      let short = within.short in
      rw (ltb_not_less (length out) least_thin_buffer wide, ltb_not_less longest_job (length t) (omega (arith, thin_no_longer)))
      (ap (on_thin_job head w) reads_thin ∙ ap (λ (k : Job). writes (job_bytes head w k)) (thinned_twice written.j)
      ∙ ap writes written.bytes)

-- Refusals.

module _ (head w : ℕ) (rule : JoiningRule) (writing : Writing) (r : Refusal) where
  on_turned : (long : Bool) (read : Read Job) → cond long (turns_back LongJob) (on_thin_job head w read) ≡ turns_back r
      → cond long (turns_back LongJob) (on_job rule (writing w) read) ≡ turns_back r
  on_turned true read e = e
  on_turned false (got j end) e = absurd (let z : ◌≡◌ {A = ℕ} 0 1 = cc in omega arith)
  on_turned false (refused x) e = e

  turned_nodes : (p : Rounds Work) (bytes : List ℕ) → within_nodes p bytes ≡ turns_back r → r ≡ ManyNodes
  turned_nodes p bytes e =
      decide (ltb node_limit (length p.work.registry))
      (λ b. let f : turns_back ManyNodes ≡ turns_back r = rw b at e in cc)
      (λ b. let f : writes bytes ≡ turns_back r = rw b at e in cc)

  on_turned_back : (r ≡ ManyNodes → ⊥) → (long : Bool) (read : Read Job)
      → cond long (turns_back LongJob) (on_job rule (writing w) read) ≡ turns_back r
      → cond long (turns_back LongJob) (on_thin_job head w read) ≡ turns_back r
  on_turned_back other true read e = e
  on_turned_back other false (got j end) e =
      let p = propagated rule j.blocks in
      absurd (other (turned_nodes p (writing w j (start_of j.blocks) p) e))
  on_turned_back other false (refused x) e = e

  module _ (job o out : List ℕ) (wide : least_thin_buffer ≤ length o) (roomy : least_buffer ≤ length out) where
    -- what the thin writer turns back, an operation turns back
    pub thin_turned : thin_verdict head w job o ≡ turns_back r → verdict head w rule writing job out ≡ turns_back r
    unfolding thin_verdict verdict
    thin_turned e = rw (ltb_not_less (length out) least_buffer roomy) (on_turned (ltb longest_job (length job)) (read_job head w job)
        (rw (ltb_not_less (length o) least_thin_buffer wide) at e))

    -- and the reverse, but for 9
    pub turned_thin : (r ≡ ManyNodes → ⊥) → verdict head w rule writing job out ≡ turns_back r → thin_verdict head w job o ≡ turns_back r
    unfolding thin_verdict verdict
    turned_thin other e = rw (ltb_not_less (length o) least_thin_buffer wide)
        (on_turned_back other (ltb longest_job (length job)) (read_job head w job) (rw (ltb_not_less (length out) least_buffer roomy) at e))

-- a refusal that reading does not give does not come of the job's records
on_other : (head w : ℕ) (read : Read Job) → ((r : Refusal) → read ≡ refused r → OfReading r) → (x : Refusal) → (OfReading x → ⊥)
    → on_thin_job head w read ≡ turns_back x → ⊥
on_other head w (got j end) low x other e = let z : ◌≡◌ {A = ℕ} 0 1 = cc in omega arith
on_other head w (refused r) low x other e = other (subst OfReading (let same : r ≡ x = cc in same) (low r refl))

pub never_nine_verdict : (head w : ℕ) (job o : List ℕ) → thin_verdict head w job o ≡ turns_back ManyNodes → ⊥
unfolding thin_verdict
never_nine_verdict head w job o e =
    decide (ltb (length o) least_thin_buffer)
    (λ b. let f : turns_back ShortBuffer ≡ turns_back ManyNodes = rw b at e in let z : ◌≡◌ {A = ℕ} 0 1 = cc in omega arith)
    (λ b. decide (ltb longest_job (length job))
    (λ c. let f : turns_back LongJob ≡ turns_back ManyNodes = rw (b, c) at e in let z : ◌≡◌ {A = ℕ} 0 1 = cc in omega arith)
    (λ c. on_other head w (read_job head w job) (reading_refuses head w job) ManyNodes (λ h. h.2 refl)
    (rw (b, c) at e)))

-- 1 comes of the out buffer's length, and of nothing else
pub short_verdict : (head w : ℕ) (job o : List ℕ) → length o < least_thin_buffer → thin_verdict head w job o ≡ turns_back ShortBuffer
unfolding thin_verdict
short_verdict head w job o short = rw (ltb_less (length o) least_thin_buffer short)

pub verdict_short : (head w : ℕ) (job o : List ℕ) → thin_verdict head w job o ≡ turns_back ShortBuffer → length o < least_thin_buffer
unfolding thin_verdict
verdict_short head w job o e =
    decide (ltb (length o) least_thin_buffer) (λ b. ltb_true (length o) least_thin_buffer b)
    (λ b. absurd (decide (ltb longest_job (length job))
    (λ c. let f : turns_back LongJob ≡ turns_back ShortBuffer = rw (b, c) at e in let z : ◌≡◌ {A = ℕ} 0 1 = cc in omega arith)
    (λ c. on_other head w (read_job head w job) (reading_refuses head w job) ShortBuffer (λ h. let least = h.0 in omega arith)
    (rw (b, c) at e))))

-- What is turned back by nothing but what turns back `a`, and not by 9, is written where `a` has
-- passed.
taken : (v a : Verdict) → ((r : Refusal) → v ≡ turns_back r → a ≡ turns_back r) → (v ≡ turns_back ManyNodes → ⊥) → PassedReading a
    → (t : List ℕ) × (v ≡ writes t)
taken (writes t) a back not-nine p = (t, refl)
taken (turns_back r) a back not-nine (inl w) =
    let e : writes w.0 ≡ turns_back r = sym w.1 ∙ back r refl in absurd (let z : ◌≡◌ {A = ℕ} 0 1 = cc in omega arith)
taken (turns_back r) a back not-nine (inr nine) = absurd (not-nine (sym (back r refl) ∙ nine))

-- the thin writer takes what an operation takes or turns back by 9
pub thin_takes : (head w : ℕ) (rule : JoiningRule) (writing : Writing) (job o out : List ℕ)
    → least_thin_buffer ≤ length o → least_buffer ≤ length out → PassedReading (verdict head w rule writing job out)
    → (t : List ℕ) × (thin_verdict head w job o ≡ writes t)
thin_takes head w rule writing job o out wide roomy = taken (thin_verdict head w job o) (verdict head w rule writing job out)
    (λ r. thin_turned head w rule writing r job o out wide roomy) (never_nine_verdict head w job o)

-- With HD as the mark due.

pub without_repeats : WithoutRepeats
unfolding thin_of
without_repeats = record {
  paths = thinned_once;
  written = λ job o t bytes e.
      let w = written HD span_width (omega arith) job o t bytes e in
      record {
        whole = w.j;
        part = thinned w.j;
        reads = w.reads ∙ ap (got w.j) (job_end HD span_width job bytes w.j w.end w.reads);
        reads_thin = reads_thin HD span_width (omega arith) job o t bytes e;
        scope = scope_thinned w.j;
        blocks = blocks_thinned_once w.j;
        candidates = candidates_thinned_once w.j;
      };
}

pub thin_same : ThinSame
unfolding thin_of answer_of sheet_of strict_answer_of strict_sheet_of
thin_same job o t bytes e out =
    let same = same_verdict HD span_width (omega arith) job o t bytes e in (
      same done_neighbours answer_writing (λ j start p. answer_thinned span_width j p) out,
      same done_neighbours sheet_bytes (sheet_thinned span_width) out,
      same strict_neighbours answer_writing (λ j start p. answer_thinned span_width j p) out,
      same strict_neighbours sheet_bytes (sheet_thinned span_width) out,
    )

pub thin_again : ThinAgain
unfolding thin_of
thin_again job o t bytes e out wide = again_verdict HD span_width (omega arith) job o t bytes e out wide

pub thin_lengths : ThinLengths
unfolding thin_of
thin_lengths job o t bytes e = record {
  bytes = thin_is_bytes HD span_width (omega arith) job o t bytes e;
  no_longer = thin_no_longer HD span_width (omega arith) job o t bytes e;
  room = thin_room HD span_width (omega arith) job o t bytes e;
}

pub thin_refuses : ThinRefuses
unfolding thin_of answer_of
thin_refuses job o out wide roomy = record {
  from_thin = λ r. thin_turned HD span_width done_neighbours answer_writing r job o out wide roomy;
  from_answer = λ r. turned_thin HD span_width done_neighbours answer_writing r job o out wide roomy;
  takes = thin_takes HD span_width done_neighbours answer_writing job o out wide roomy;
}

pub never_nine : NeverNine
unfolding thin_of
never_nine job o e = never_nine_verdict HD span_width job o e

pub short_alone : ShortAlone
unfolding thin_of
short_alone job o = (short_verdict HD span_width job o, verdict_short HD span_width job o)

-- The outcome of an operation by its verdict: refusals 1 and 2 by the lengths, 3 to 8 by the
-- reader, 9 by the registry, and the bytes.
use Prim.Native.Nat.{ℕ, ◌≤◌, ◌<◌}
use native.Mathlib.Omega.{arith}
use native.Mathlib.Nat.{zero-add}
use mathlib.Core.Path.{◌≡◌, refl, sym, ap, ◌∙◌}
use mathlib.Core.Bool.{cond}
use mathlib.Core.List.{List, ◌++◌}
use lib.ListN.{length, drop}
use lib.Seq.{sets-eq}
use Rattle.entries.specs.declared.Refusal.{Refusal}
use Rattle.entries.specs.declared.Refusal.TheVariants.{ManyNodes}
use Rattle.model.specs.Tests.{ltb_less, ltb_not_less}
use Rattle.model.specs.ReadingBytes.{got, refused}
use Rattle.model.specs.Registry.{node_limit}
use Rattle.model.specs.Rounds.{Rounds}
use Rattle.model.specs.Strict.{strict_neighbours, strict_answer_of, strict_sheet_of}
use Rattle.model.specs.Propagation.{Work, JoiningRule, done_neighbours}
use Rattle.model.specs.Job.{HD, Job, read_job}
use Rattle.model.specs.Stage.{start_of, propagated}
use Rattle.model.specs.Answer.{
  Verdict,
  writes,
  turns_back,
  within_lengths,
  within_nodes,
  on_job,
  least_buffer,
  longest_job,
  span_width,
  buffer_after,
  answer_of,
  sheet_of,
}
use Rattle.registry.proofs.View.{registry_length}
use Rattle.writer.specs.Writes.{Writes}
use Rattle.entries.specs.declared.RoundsRun.{RoundsRun}
use Rattle.propagation.specs.Propagates.{HoldsRounds}
use Rattle.propagation.proofs.Answers.{propagated_registry}
use Rattle.stage.specs.declared.Operation.{Operation}
use Rattle.stage.specs.declared.Operation.TheVariants as operation
use Rattle.std.specs.Prelude.{Result, Ok, Err}
use Rattle.stage.specs.Jobs.{operation_bytes, outcome_of, TurnedBack, Meets, verdict_of, job_verdict}

-- a verdict that turns back leaves the buffer
pub refuses : {v : Verdict} {r : Refusal} {o : Result ℕ Refusal} {out : List ℕ} → v ≡ turns_back r → o ≡ Err r → Meets v o out out
refuses {out = out} e told = record { outcome = told ∙ sym (ap outcome_of e); buffer = sym (ap (λ v. buffer_after v out) e) }

-- bytes that stand in the buffer from its start on are written before the rest of it
pub stands_written : {v : Verdict} {bytes before after : List ℕ} {next : ℕ} → v ≡ writes bytes → Writes before after 0 bytes next
    → length bytes ≤ length before → Meets v (Ok next) before after
stands_written {v} {bytes} {before} {after} {next} e w fits = record {
  outcome = ap Ok (w.ends ∙ zero-add (length bytes)) ∙ sym (ap outcome_of e);
  buffer = w.is ∙ sets-eq bytes before 0 (omega arith) ∙ ap (λ n. bytes ++ drop n before) (zero-add (length bytes)) ∙ sym (ap (λ v. buffer_after v before) e);
}

-- A job that was read.

module _ (rule : JoiningRule) (op : Operation) (s : List ℕ) (j : Job) (end : ℕ) (reads : read_job HD span_width s ≡ got j end) where
  abbrev p : Rounds Work
  p = propagated rule j.blocks

  abbrev bytes : List ℕ
  bytes = operation_bytes op span_width j (start_of j.blocks) p

  read_verdict : job_verdict rule op s ≡ within_nodes p bytes
  unfolding job_verdict
  read_verdict = ap (on_job rule (operation_bytes op span_width)) reads

  pub full_refused : node_limit < length p.work.registry → job_verdict rule op s ≡ turns_back ManyNodes
  full_refused h = read_verdict ∙ ap (λ b. cond b (turns_back ManyNodes) (writes bytes))
      (ltb_less node_limit (length p.work.registry) h)

  pub room_written : {n : ℕ} {run : RoundsRun} {sets ws os : List ℕ} → HoldsRounds p n run sets ws os → job_verdict rule op s ≡ writes bytes
  room_written {ws = ws} x =
      let size = ap length (propagated_registry x) ∙ registry_length ws in
      let room = x.stands.held.sized.room in
      read_verdict ∙ ap (λ b. cond b (turns_back ManyNodes) (writes bytes))
      (ltb_not_less node_limit (length p.work.registry) (omega arith))

-- Where neither 1 nor 2 applies, the verdict is the rest.
pub lengths_pass : (least : ℕ) (s out : List ℕ) (rest : Verdict) → least ≤ length out → length s ≤ longest_job
    → within_lengths least longest_job s out rest ≡ rest
lengths_pass least s out rest wide short = rw (ltb_not_less (length out) least wide, ltb_not_less longest_job (length s) short)

-- There what the reader refuses is turned back.
pub read_turned_back : (least : ℕ) (s out : List ℕ) {r : Refusal} → least ≤ length out → length s ≤ longest_job
    → read_job HD span_width s ≡ refused r → TurnedBack least s out r
read_turned_back least s out {r} wide short e = λ rest turned. lengths_pass least s out _ wide short ∙ ap rest e ∙ turned r

-- Any bytes and any buffer.

module _ (rule : JoiningRule) (op : Operation) (s out : List ℕ) where
  -- what is turned back is turned back by the operation
  pub turned_back : {r : Refusal} → TurnedBack least_buffer s out r → verdict_of rule op s out ≡ turns_back r
  unfolding verdict_of
  turned_back t = t (on_job rule (operation_bytes op span_width)) (λ q. refl)

  -- and where neither 1 nor 2 applies, the verdict is that on the job
  pub by_job : least_buffer ≤ length out → length s ≤ longest_job → verdict_of rule op s out ≡ job_verdict rule op s
  unfolding verdict_of job_verdict
  by_job = lengths_pass least_buffer s out _

-- The operations, each under its rule.

pub answer_verdict : (s out : List ℕ) → verdict_of done_neighbours operation.Answer s out ≡ answer_of s out
unfolding verdict_of answer_of
answer_verdict s out = refl

pub sheet_verdict : (s out : List ℕ) → verdict_of done_neighbours operation.Sheet s out ≡ sheet_of s out
unfolding verdict_of sheet_of
sheet_verdict s out = refl

pub strict_answer_verdict : (s out : List ℕ) → verdict_of strict_neighbours operation.Answer s out ≡ strict_answer_of s out
unfolding verdict_of strict_answer_of
strict_answer_verdict s out = refl

pub strict_sheet_verdict : (s out : List ℕ) → verdict_of strict_neighbours operation.Sheet s out ≡ strict_sheet_of s out
unfolding verdict_of strict_sheet_of
strict_sheet_verdict s out = refl

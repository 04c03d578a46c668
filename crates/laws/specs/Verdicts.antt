-- What an operation has done that writes: it has read a job, whose blocks refusals 7 and 8 let
-- pass and whose nodes 9, and written that job's bytes; and an answer so written reads back to the
-- job's returned paths.
use Rattle.std.specs.Prelude.{ℕ, ◌≤◌, ◌≡◌, refl, List, length, ltb}
use Rattle.std.proofs.Common.{arith}
use Rattle.entries.specs.declared.Refusal.{Refusal}
use Rattle.model.specs.Tests.{by_cond, decide, ltb_false}
use Rattle.model.specs.ListLaws.{All}
use Rattle.model.specs.Registry.{node_limit}
use Rattle.model.specs.Rounds.{Rounds}
use Rattle.model.specs.Propagation.{Work, JoiningRule}
use Rattle.model.specs.ReadingBytes.{Read, got, refused}
use Rattle.model.specs.Job.{Job, has_repeat, has_unknown, read_records, accept_ids, read_job}
use Rattle.model.specs.Stage.{Started, start_of, propagated, hoistable_paths, returned_paths}
use Rattle.model.specs.Answer.{
  Verdict,
  writes,
  turns_back,
  within_lengths,
  on_job,
  least_buffer,
  longest_job,
  Writing,
  verdict,
  answer_bytes,
  Answered,
  read_answer,
}
use Rattle.laws.specs.GraphLaws.{ProperBlocks, proper_blocks}
use Rattle.laws.specs.ReadBack.{PathFits, reads_whole, answer_back}
use Rattle.laws.specs.Fits.{HoldsIfRead, holds_then, any_value, returned_fit, returned_few, rounds_fit}

-- a job that was read is one that refusals 7 and 8 let pass
pub job_proper : (head w : ℕ) (s : List ℕ) → HoldsIfRead (λ (j : Job). ProperBlocks j.blocks) (read_job head w s)
unfolding read_job accept_ids
job_proper head w s =
    holds_then (λ j. Unit {0}) (λ (j : Job). ProperBlocks j.blocks) (read_records head w s) accept_ids (any_value (read_records head w s))
    (λ j next u. by_cond (HoldsIfRead (λ (j : Job). ProperBlocks j.blocks)) (has_repeat j) (λ e. tt)
    (λ r. by_cond (HoldsIfRead (λ (j : Job). ProperBlocks j.blocks)) (has_unknown j) (λ e. tt) (λ k. proper_blocks j r k)))

-- Where an operation writes, none of the refusals was met.

different : (r : Refusal) (bytes : List ℕ) → turns_back r ≡ writes bytes → ⊥
different r bytes e = let z : ◌≡◌ {A = ℕ} 0 1 = cc in omega arith

module _ (rule : JoiningRule) (bytes : Job → Started → Rounds Work → List ℕ) where
  -- a job was read, its nodes are within the limit, and what is written are its bytes
  pub record ReadAndWritten (x : Read Job) (out : List ℕ) : Type 0 where
    pub j : Job
    pub end : ℕ
    pub reads : x ≡ got j end
    pub within : length (propagated rule j.blocks).work.registry ≤ node_limit
    pub written : out ≡ bytes j (start_of j.blocks) (propagated rule j.blocks)

  -- where the verdict on what was read is to write, a job was read, and its bytes are written
  verdict_job : (x : Read Job) (out : List ℕ) → on_job rule bytes x ≡ writes out → ReadAndWritten x out
  verdict_job (refused r) out e = absurd (different r out e)
  verdict_job (got j end) out e =
      let p = propagated rule j.blocks in
      decide (ltb node_limit (length p.work.registry)) (λ t. absurd (different _ out (rw t at e)))
      (λ t.
      let e' = rw t at e in
      let few = ltb_false node_limit (length p.work.registry) t in
      record { j = j; end = end; reads = refl; within = few; written = cc })

lengths_written : (least most : ℕ) (job out bytes : List ℕ) (rest : Verdict) → within_lengths least most job out rest ≡ writes bytes
    → rest ≡ writes bytes
lengths_written least most job out bytes rest e =
    decide (ltb (length out) least) (λ t. absurd (different _ bytes (rw t at e)))
    (λ t. let e' = rw t at e in decide (ltb most (length job)) (λ u. absurd (different _ bytes (rw u at e'))) (λ u. rw u at e'))

pub verdict_written : (head span_bytes : ℕ) (rule : JoiningRule) (bytes : Writing) (job out written : List ℕ)
    → verdict head span_bytes rule bytes job out ≡ writes written
    → ReadAndWritten rule (bytes span_bytes) (read_job head span_bytes job) written
unfolding verdict
verdict_written head span_bytes rule bytes job out written e =
    verdict_job rule (bytes span_bytes) (read_job head span_bytes job) written
    (lengths_written least_buffer longest_job job out written (on_job rule (bytes span_bytes) (read_job head span_bytes job)) e)

-- What a job's answer holds, under any rule.

abbrev pub answered : JoiningRule → Job → Answered
answered rule j = let p = propagated rule
    j.blocks in record { paths = returned_paths j p.work; rounds = p.rounds; settled = p.settled }

pub answer_holds : (rule : JoiningRule) (w : ℕ) (j : Job) → length j.candidates ≤ 64 → All (PathFits w) j.candidates
    → read_answer w (answer_bytes w j (propagated rule j.blocks)) 0 ≡ got (answered rule j)
    (length (answer_bytes w j (propagated rule j.blocks)))
unfolding returned_paths
answer_holds rule w j few fit =
    let p = propagated rule j.blocks in
    let fewer = returned_few (hoistable_paths j p.work) j.candidates in
    reads_whole (read_answer w) (answered rule j) (answer_bytes w j p)
    (answer_back w j p (omega arith) (rounds_fit rule j) (returned_fit w (hoistable_paths j p.work) j.candidates fit))

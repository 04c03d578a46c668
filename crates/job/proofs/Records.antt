-- The records of a job that was read: where each part was read, and what the answer says of them.
use Prim.Native.Nat.{ℕ}
use mathlib.Core.Path.{◌≡◌, refl, sym, ap, ◌∙◌}
use mathlib.Core.Bool.{Bool, true, false, cond}
use mathlib.Core.List.{List}
use native.Mathlib.Omega.{arith}
use borrow.Author.Tests.{eqb-true, eq-eqb, ne_eqb}
use Rattle.std.specs.Prelude.{Result, Ok, Err}
use lib.Dec.{eqb}
use lib.ListN.{length}
use Rattle.entries.specs.declared.Refusal.{Refusal}
use Rattle.entries.specs.declared.Refusal.TheVariants.{ExtraByte}
use Rattle.entries.specs.Path.{ReactiveScopeDependency}
use Rattle.model.specs.ReadingBytes.{Read, got, refused, and_then, read_many}
use Rattle.model.specs.Job.{HD, CA, Header, Block, Job, read_header, read_block, read_path, read_records, accept_ids, read_job}
use Rattle.fields.proofs.Reading.{seen}
use Rattle.job.specs.Answer.{header_of, got_header}
use Rattle.job.specs.Kept.{candidates_at, head_of, kept_of, after_header, BehindHeader}
use Rattle.job.specs.declared.Header as head
use Rattle.job.specs.declared.JobHead.{JobHead}
use Rattle.job.specs.Passing.{passed}
use Rattle.job.proofs.Passing.{not_both, then_got, passed_got, passed_refused}
use Rattle.job.proofs.Many.{many_length}

pub records_fields : (s : List ℕ) → read_records HD 4 s ≡
    and_then (read_header HD s 0) (λ (header : Header) blocks_at.
    and_then (read_many (header).blocks (read_block 4) s blocks_at) (λ blocks candidates_at.
    and_then (read_many (header).candidates (read_path 4 CA) s candidates_at) (λ candidates next.
    cond (eqb next (length s)) (got (record { scope = (header).scope; blocks = blocks; candidates = candidates }) next) (refused ExtraByte))))
unfolding read_records
records_fields s = refl

pub job_fields : (s : List ℕ) → read_job HD 4 s ≡ and_then (read_records HD 4 s) accept_ids
unfolding read_job
job_fields s = refl

candidates_place : (s : List ℕ) {h : Header} {b : ℕ} {bs : List Block} {c : ℕ} → read_header HD s 0 ≡ got h b
    → read_many h.blocks (read_block 4) s b ≡ got bs c → candidates_at s ≡ c
unfolding candidates_at
candidates_place s head past = rw (head, past)

-- the header that was read, and the place after it
pub behind : (s : List ℕ) (at : ℕ) {r : Result (head.Header × ℕ) Refusal} {h : head.Header} {next : ℕ} → BehindHeader s at r → r ≡ Ok (h, next)
    → read_header HD s 0 ≡ got (header_of h) at
behind s at {h = h} p e =
    seen got_header p.0 e ∙ ap (got (header_of h)) (sym (p.1 ∙ ap (λ (r : Result (head.Header × ℕ) Refusal). after_header r 0) e))

-- how far the reading goes, by the places that were reached
module _ (s : List ℕ) {h : Header} {b : ℕ} (head : read_header HD s 0 ≡ got h b) where
  abbrev blocks : Read (List Block)
  blocks = read_many h.blocks (read_block 4) s b

  pub blocks_refused : {r : Refusal} → passed blocks ≡ refused r → read_records HD 4 s ≡ refused r
  blocks_refused e = rw (records_fields, head, passed_refused blocks e)

  module _ {c : ℕ} (past : passed blocks ≡ got tt c) where
    abbrev candidates : Read (List ReactiveScopeDependency)
    candidates = read_many h.candidates (read_path 4 CA) s c

    pub candidates_refused : {r : Refusal} → passed candidates ≡ refused r → read_records HD 4 s ≡ refused r
    candidates_refused e = rw (records_fields, head, (passed_got blocks past).1, passed_refused candidates e)

    module _ {next : ℕ} (last : passed candidates ≡ got tt next) where
      pub byte_extra : (next ≡ length s → ⊥) → read_records HD 4 s ≡ refused ExtraByte
      byte_extra more = rw (records_fields, head, (passed_got blocks past).1, (passed_got candidates last).1, ne_eqb next (length s) more)

      pub all_read : next ≡ length s
          → kept_of s (read_records HD 4 s) ≡ Ok (record { blocks = h.blocks; candidates = h.candidates; scope = h.scope; candidates_at = c })
      all_read end =
          let bs = passed_got blocks past in
          let cs = passed_got candidates last in
          rw (
            records_fields,
            head,
            bs.1,
            cs.1,
            eq-eqb next (length s) end,
            many_length (read_block 4) s h.blocks b bs.1,
            many_length (read_path 4 CA) s h.candidates c cs.1,
            candidates_place s head bs.1,
          )

-- what an answer says of the reading that it stands for
pub answer_value : (s : List ℕ) (x : Read Job) {h : JobHead} → Ok h ≡ kept_of s x → (j : Job) × (end : ℕ) × (x ≡ got j end) × (h ≡ head_of s j)
answer_value s (got j end) e = (j, end, refl, cc)
answer_value s (refused r) e = absurd (let z : ◌≡◌ {A = ℕ} 0 1 = cc in omega arith)

pub answer_refused : (s : List ℕ) (x : Read Job) {r : Refusal} → Err r ≡ kept_of s x → x ≡ refused r
answer_refused s (got j end) e = absurd (let z : ◌≡◌ {A = ℕ} 0 1 = cc in omega arith)
answer_refused s (refused r) e = cc

ended : {A : Type 0} (b : Bool) (a : A) (n : ℕ) (r : Refusal) {a' : A} {n' : ℕ} → cond b (got a n) (refused r) ≡ got a' n' → (b ≡ true) × (a ≡ a') × (n ≡ n')
ended true a n r e = (refl, cc, cc)
ended false a n r e = not_both e refl

-- where the parts of the job j stand
pub record Parts (s : List ℕ) (j : Job) : Type 0 where
  pub header : Header
  pub blocks_at : ℕ
  pub header_read : read_header HD s 0 ≡ got header blocks_at
  pub scope : j.scope ≡ (header).scope
  pub blocks_read : read_many (header).blocks (read_block 4) s blocks_at ≡ got j.blocks (candidates_at s)
  pub candidates_read : read_many (header).candidates (read_path 4 CA) s (candidates_at s) ≡ got j.candidates (length s)

module _ (s : List ℕ) (j : Job) (h : Header) (b : ℕ) (bs : List Block) (c : ℕ) (cs : List ReactiveScopeDependency) (e : ℕ)
    (r₁ : read_header HD s 0 ≡ got h b) (r₂ : read_many h.blocks (read_block 4) s b ≡ got bs c)
    (r₃ : read_many h.candidates (read_path 4 CA) s c ≡ got cs e) (same : record { scope = h.scope; blocks = bs; candidates = cs } ≡ j)
    (end : e ≡ length s) where
  place : candidates_at s ≡ c
  place = candidates_place s r₁ r₂

  made : Parts s j
  made = record {
    header = h;
    blocks_at = b;
    header_read = r₁;
    scope = sym (ap (λ (j : Job). j.scope) same);
    blocks_read = rw (place, ← same) r₂;
    candidates_read = rw (place, ← same, ← end) r₃;
  }

pub parts : (s : List ℕ) {j : Job} {end : ℕ} → read_records HD 4 s ≡ got j end → (Parts s j) × (end ≡ length s)
parts s {j} {end} e =
    let t = then_got (read_header HD s 0) _ (sym (records_fields s) ∙ e) in
    let u = then_got (read_many t.0.blocks (read_block 4) s t.1) _ t.3 in
    let v = then_got (read_many t.0.candidates (read_path 4 CA) s u.1) _ u.3 in
    let w = ended (eqb v.1 (length s)) (record { scope = t.0.scope; blocks = u.0; candidates = v.0 }) v.1 ExtraByte v.3 in
    let last : v.1 ≡ length s = eqb-true _ _ w.0 in
    (made s j t.0 t.1 u.0 u.1 v.0 v.1 t.2 u.2 v.2 w.1 last, sym w.2 ∙ last)

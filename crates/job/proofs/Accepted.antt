-- What the answer to an accepted job says of the job: where later stages read its blocks,
-- predecessors, paths and candidates again.
use Prim.Native.Nat.{ℕ, ◌<◌, ◌≤◌}
use mathlib.Core.Path.{◌≡◌, refl, sym, ap, ◌∙◌}
use mathlib.Core.Bool.{Bool, true, false, cond}
use mathlib.Core.List.{List}
use native.Mathlib.Omega.{arith}
use Rattle.std.specs.Prelude.{Ok}
use lib.ListN.{length, get_or}
use lib.Seq.{sets, get_or-take}
use Rattle.entries.specs.declared.Refusal.TheVariants.{RepeatedId, UnknownBlock}
use Rattle.model.specs.ReadingBytes.{got, refused, read_many}
use Rattle.model.specs.Job.{HD, CA, Header, Job, ids_of, read_path, read_block, read_records, has_repeat, has_unknown, accept_ids, read_job}
use Rattle.laws.specs.Fits.{holds_got}
use Rattle.job.specs.Kept.{note_place, note_number, block_notes, block_places, block_numbers, block_ids, candidates_at, head_of, kept_of}
use Rattle.job.specs.declared.JobHead.{JobHead}
use Rattle.job.proofs.Bounds.{blocks_most, candidates_most}
use Rattle.job.proofs.Many.{many_length, Again, read_again}
use Rattle.job.proofs.Passing.{not_both, then_got}
use Rattle.job.proofs.Records.{Parts, parts, job_fields, answer_value}
use Rattle.job.proofs.Stored.{stored}
use Rattle.job.proofs.Noted.{block_count, note_count, ids_are}

-- the job behind an answer, which keeps the lengths of its lists, its scope and the place of its
-- candidates
pub record Accepted (s : List ℕ) (h : JobHead) : Type 0 where
  pub job : Job
  pub accepts : read_job HD 4 s ≡ got job (length s)
  pub keeps : h ≡ head_of s job
  pub no_repeat : has_repeat job ≡ false
  pub no_unknown : has_unknown job ≡ false
  pub blocks_few : h.blocks ≤ 128
  pub candidates_few : h.candidates ≤ 64
  -- block k is read again at the k-th place noted
  pub places_count : length (block_places s) ≡ h.blocks
  -- the numbers noted are those of the blocks' ids
  pub numbers_count : length (block_numbers s) ≡ h.blocks
  pub numbers_are : block_ids (block_numbers s) ≡ ids_of job.blocks
  pub block_again : (k : ℕ) → k < h.blocks → Again (read_block 4) s (block_places s) job.blocks k
  pub candidates_read : read_many h.candidates (read_path 4 CA) s h.candidates_at ≡ got job.candidates (length s)
  pub parts : Parts s job

-- what the tests let through is what was put in
let_through : (p q : Bool) (j : Job) (end : ℕ) {j' : Job} {end' : ℕ} → cond p (refused RepeatedId) (cond q (refused UnknownBlock) (got j end)) ≡ got j' end'
    → (p ≡ false) × (q ≡ false) × (j ≡ j') × (end ≡ end')
let_through true q j end e = not_both e refl
let_through false true j end e = not_both e refl
let_through false false j end e = (refl, refl, cc, cc)

ids_accepted : (j : Job) (end : ℕ) {j' : Job} {end' : ℕ} → accept_ids j end ≡ got j' end'
    → (has_repeat j ≡ false) × (has_unknown j ≡ false) × (j ≡ j') × (end ≡ end')
unfolding accept_ids
ids_accepted j end e = let_through (has_repeat j) (has_unknown j) j end e

module _ (s : List ℕ) (j : Job) (p : Parts s j) where
  candidate_count : length j.candidates ≡ p.header.candidates
  candidate_count = many_length (read_path 4 CA) s p.header.candidates (candidates_at s) p.candidates_read

  again : (k : ℕ) → k < length j.blocks → Again (read_block 4) s (block_places s) j.blocks k
  unfolding block_notes
  again k h = rw p.header_read (read_again (read_block 4) s p.header.blocks p.blocks_at p.blocks_read k (omega (arith, block_count s j p)))

  is : (end : ℕ) → end ≡ length s → read_job HD 4 s ≡ got j end → has_repeat j ≡ false → has_unknown j ≡ false → Accepted s (head_of s j)
  is end last accepts repeat unknown = record {
    job = j;
    accepts = rw (← last) accepts;
    keeps = refl;
    no_repeat = repeat;
    no_unknown = unknown;
    blocks_few = omega (arith, block_count s j p, holds_got (λ (h : Header). h.blocks ≤ 128) p.header_read (blocks_most HD s 0));
    candidates_few = omega (arith, candidate_count, holds_got (λ (h : Header). h.candidates ≤ 64) p.header_read (candidates_most HD s 0));
    places_count = note_count s j p note_place ∙ sym (block_count s j p);
    numbers_count = note_count s j p note_number ∙ sym (block_count s j p);
    numbers_are = ids_are s j p;
    block_again = again;
    candidates_read = rw candidate_count p.candidates_read;
    parts = p;
  }

joined : (s : List ℕ) (j j' : Job) (end end' : ℕ) {h : JobHead} → read_records HD 4 s ≡ got j end → accept_ids j end ≡ got j' end'
    → read_job HD 4 s ≡ got j' end' → h ≡ head_of s j' → Accepted s h
joined s j j' end end' r a e k =
    let t = ids_accepted j end a in
    let p = parts s r in
    rw (k, ← t.2) (is s j p.0 end p.1 (rw (t.2, t.3) e) t.0 t.1)

pub accepted : (s : List ℕ) {h : JobHead} → Ok h ≡ kept_of s (read_job HD 4 s) → Accepted s h
accepted s e =
    let v = answer_value s (read_job HD 4 s) e in
    let t = then_got (read_records HD 4 s) accept_ids (sym (job_fields s) ∙ v.2) in
    joined s t.0 v.0 t.1 v.1 t.2 t.3 v.2 v.3

-- the places stand at the front of the array r
pub place_noted : (s : List ℕ) {h : JobHead} → Accepted s h → (l r : List ℕ) → length l ≡ 128 → r ≡ sets l 0 (block_places s)
    → (k : ℕ) → k < h.blocks → get_or r k 0 ≡ get_or (block_places s) k 0
place_noted s {h} a l r wide kept k below =
    let places : List ℕ = block_places s in
    let f = (stored l places r h.blocks (omega (arith, a.places_count, a.blocks_few)) (sym a.places_count) kept).front in
    sym (get_or-take h.blocks r k 0 below) ∙ ap (λ (l : List ℕ). get_or l k 0) f

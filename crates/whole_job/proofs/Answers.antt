-- From the answer for the records to the answer for the job: what was stored, and refusals 7 and 8.
use Prim.Native.Nat.{ℕ, ◌≤◌}
use mathlib.Core.Path.{◌≡◌, sym, ap, ◌∙◌}
use mathlib.Core.List.{List}
use native.Mathlib.Omega.{arith}
use Rattle.std.specs.Prelude.{Ok, Err}
use lib.ListN.{length}
use lib.Seq.{sets, length-sets}
use Rattle.entries.specs.declared.Refusal.{Refusal}
use Rattle.model.specs.ReadingBytes.{Read, and_then}
use Rattle.model.specs.Job.{HD, Header, Block, Job, read_block, read_records, accept_ids, read_job}
use Rattle.laws.specs.Fits.{holds_got}
use Rattle.whole_job.specs.Ids.{BlocksRead, checked_by}
use Rattle.job.specs.Kept.{note_place, block_notes, block_places, block_numbers, kept_of}
use Rattle.job.specs.declared.JobHead.{JobHead}
use Rattle.job.proofs.Bounds.{blocks_most}
use Rattle.job.proofs.Many.{read_again}
use Rattle.job.proofs.Stored.{Stored, stored}
use Rattle.job.proofs.Records.{Parts, parts, job_fields, answer_value, answer_refused}
use Rattle.job.proofs.Noted.{block_count, note_count}
use Rattle.whole_job.proofs.Checked.{checked_is}

-- a job whose records are refused is refused for that
pub job_refused : (s : List ℕ) {r : Refusal} → Err r ≡ kept_of s (read_records HD 4 s) → Err r ≡ kept_of s (read_job HD 4 s)
job_refused s e = rw (job_fields, answer_refused s (read_records HD 4 s) e)

-- the records were read: the job j has the parts p
module _ (s : List ℕ) (j : Job) (p : Parts s j) where
  few : p.header.blocks ≤ 128
  few = holds_got (λ (h : Header). h.blocks ≤ 128) p.header_read (blocks_most HD s 0)

  -- a block was read at each place noted
  pub blocks_read_again : BlocksRead s (block_places s)
  unfolding block_notes
  blocks_read_again k h =
      let again = read_again (read_block 4) s p.header.blocks p.blocks_at p.blocks_read k (omega (arith, note_count s j p note_place)) in
      rw p.header_read (record { value = again.0; next = again.1; read = again.2 })

  pub notes_stored : (f : ℕ → Block → ℕ) (l r : List ℕ) → length l ≡ 128 → r ≡ sets l 0 (block_notes f s) → Stored (block_notes f s) r (length j.blocks)
  notes_stored f l r wide =
      stored l (block_notes f s) r (length j.blocks) (omega (arith, note_count s j p f, few, wide))
      (block_count s j p ∙ sym (note_count s j p f))

module _ (s : List ℕ) {h : JobHead} (e : Ok h ≡ kept_of s (read_records HD 4 s)) where
  pub blocks_few : h.blocks ≤ 128
  blocks_few =
      let v = answer_value s (read_records HD 4 s) e in
      let p = (parts s v.2).0 in
      omega (arith, ap (λ (h : JobHead). h.blocks) v.3, block_count s v.0 p, few s v.0 p)

  pub places_read : (places : List ℕ) → places ≡ block_places s → BlocksRead s places
  places_read places noted =
      let v = answer_value s (read_records HD 4 s) e in
      rw noted (blocks_read_again s v.0 (parts s v.2).0)

  -- an array of 128 has room for a note of each block
  pub blocks_stored : (f : ℕ → Block → ℕ) (l r : List ℕ) → length l ≡ 128 → r ≡ sets l 0 (block_notes f s) → Stored (block_notes f s) r h.blocks
  blocks_stored f l r wide kept =
      let v = answer_value s (read_records HD 4 s) e in
      rw v.3 (notes_stored s v.0 (parts s v.2).0 f l r wide kept)

  -- the same where the length of the array is known after the notes were stored
  pub blocks_stored_in : (f : ℕ → Block → ℕ) (l r : List ℕ) → length r ≡ 128 → r ≡ sets l 0 (block_notes f s) → Stored (block_notes f s) r h.blocks
  blocks_stored_in f l r wide kept = blocks_stored f l r (sym (ap length kept ∙ length-sets l 0 (block_notes f s)) ∙ wide) kept

  pub job_checked : checked_by s (block_numbers s) (block_places s) h ≡ kept_of s (read_job HD 4 s)
  job_checked =
      let v = answer_value s (read_records HD 4 s) e in
      ap (λ (h : JobHead). checked_by s (block_numbers s) (block_places s) h) v.3
      ∙ checked_is s v.0 (parts s v.2).0 v.1
      ∙ sym (ap (λ (x : Read Job). kept_of s x) (job_fields s ∙ ap (λ (x : Read Job). and_then x accept_ids) v.2))

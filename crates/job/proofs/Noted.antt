-- What was noted of the blocks: a note of each, and the numbers of their ids.
use Prim.Native.Nat.{ℕ}
use mathlib.Core.Path.{◌≡◌, refl, ap}
use mathlib.Core.List.{List, ◌∷◌}
use lib.ListN.{length}
use Rattle.entries.specs.declared.BlockId.{BlockId}
use Rattle.model.specs.ReadingBytes.{got, read_many}
use Rattle.model.specs.Job.{Block, Job, read_block, ids_of}
use Rattle.job.specs.Passing.{notes}
use Rattle.job.specs.Kept.{note_number, block_notes, block_numbers, block_ids}
use Rattle.job.proofs.Many.{many_all, many_length, notes_length}
use Rattle.job.proofs.Records.{Parts}

-- the ids noted are the blocks' ids
ids_noted : (s : List ℕ) (n at : ℕ) {all : List Block} {end : ℕ} → read_many n (read_block 4) s at ≡ got all end
    → block_ids (notes note_number n (read_block 4) s at) ≡ ids_of all
ids_noted s =
    many_all (read_block 4) s (λ n at all. block_ids (notes note_number n (read_block 4) s at) ≡ ids_of all) (λ at. refl)
    (λ n at next a rest e q. rw e (ap (λ (l : List BlockId). a.id ∷ l) q))

module _ (s : List ℕ) (j : Job) (p : Parts s j) where
  pub block_count : length j.blocks ≡ p.header.blocks
  block_count = many_length (read_block 4) s p.header.blocks p.blocks_at p.blocks_read

  pub note_count : (f : ℕ → Block → ℕ) → length (block_notes f s) ≡ p.header.blocks
  unfolding block_notes
  note_count f = rw p.header_read (notes_length (read_block 4) s f p.header.blocks p.blocks_at p.blocks_read)

  pub ids_are : block_ids (block_numbers s) ≡ ids_of j.blocks
  unfolding block_notes
  ids_are = rw p.header_read (ids_noted s p.header.blocks p.blocks_at p.blocks_read)

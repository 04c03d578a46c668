-- The id of a block that is read: head, predecessors, raw reads and paths stand one after the
-- other, and the id is known before the rest.
use Prim.Native.Nat.{ℕ}
use mathlib.Core.Path.{◌≡◌, refl}
use mathlib.Core.List.{List}
use Rattle.model.specs.ReadingBytes.{Read, got, refused, and_then, mapped, read_many}
use Rattle.model.specs.Job.{PA, Block, read_block_id, read_path, read_raw_read, read_block}
use Rattle.job.specs.Passing.{passed}
use Rattle.job.specs.Head.{read_block_head}
use Rattle.job.specs.declared.BlockHead.{BlockHead}
use Rattle.job.proofs.Heads.{block_of, rest_of, block_by_head}
use Rattle.job.proofs.Passing.{viewed_both, viewed_then}

-- the id does not wait for what follows it
pub id_is : (s : List ℕ) (at : ℕ) → mapped (λ (b : Block). b.id) (read_block 4 s at) ≡
    and_then (read_block_head s at) (λ (head : BlockHead) ids_at.
    and_then (passed (read_many head.predecessors read_block_id s ids_at)) (λ _ reads_at.
    and_then (passed (read_many head.raw (read_raw_read 4) s reads_at)) (λ _ paths_at.
    mapped (λ _. head.id) (passed (read_many head.assumed (read_path 4 PA) s paths_at)))))
id_is s at = rw block_by_head (by_head (read_block_head s at))
  where
    by_head : (x : Read BlockHead) → mapped (λ (b : Block). b.id)
        (and_then x (λ (head : BlockHead) ids_at.
        and_then (read_many head.predecessors read_block_id s ids_at) (λ ids reads_at. rest_of s head ids reads_at))) ≡
        and_then x (λ (head : BlockHead) ids_at.
        and_then (passed (read_many head.predecessors read_block_id s ids_at)) (λ _ reads_at.
        and_then (passed (read_many head.raw (read_raw_read 4) s reads_at)) (λ _ paths_at.
        mapped (λ _. head.id) (passed (read_many head.assumed (read_path 4 PA) s paths_at)))))
    by_head (got head ids_at) =
        viewed_then (λ (b : Block). b.id) _ (read_many head.predecessors read_block_id s ids_at) (λ ids reads_at. rest_of s head ids reads_at)
        (λ ids reads_at.
        viewed_both (λ (b : Block). b.id) (block_of head ids) head.id (λ reads paths. refl)
        (read_many head.raw (read_raw_read 4) s reads_at) (read_many head.assumed (read_path 4 PA) s))
    by_head (refused r) = refl

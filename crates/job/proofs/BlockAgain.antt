-- A block that was read is read again part by part: its head, its predecessors, its raw reads and
-- its paths are there.
use Prim.Native.Nat.{ℕ, ◌+◌, ◌*◌}
use mathlib.Core.Path.{◌≡◌, sym, ap, subst, ◌∙◌}
use mathlib.Core.List.{List}
use Rattle.entries.specs.declared.Refusal.{Refusal}
use Rattle.model.specs.ReadingBytes.{got, refused, read_many}
use Rattle.model.specs.Job.{PA, Block, read_block_id, read_path, read_raw_read, read_block}
use Rattle.job.specs.Head.{read_block_head}
use Rattle.job.specs.Passing.{passed}
use Rattle.job.specs.declared.BlockHead.{BlockHead}
use Rattle.job.proofs.Passing.{not_both}
use Rattle.job.proofs.RecordParts.{BlockParts, block_parts}

module _ (s : List ℕ) (at : ℕ) (b : Block) (end : ℕ) (read : read_block 4 s at ≡ got b end) where
  pub parts : BlockParts s at b end
  parts = block_parts s at read

  pub head_there : {r : Refusal} → read_block_head s at ≡ refused r → ⊥
  head_there e = not_both parts.head_read e

  module _ {head : BlockHead} {ids_at : ℕ} (headed : read_block_head s at ≡ got head ids_at) where
    pub same_head : parts.head ≡ head
    same_head = let e = sym parts.head_read ∙ headed in cc

    pub same_place : at + 9 ≡ ids_at
    same_place = let e = sym parts.head_read ∙ headed in cc

    abbrev pub ids-end : ℕ
    ids-end = at + 9 + 4 * parts.head.predecessors

    pub ids_read : read_many head.predecessors read_block_id s ids_at ≡ got b.predecessors ids-end
    ids_read =
        subst (λ (h : BlockHead). read_many h.predecessors read_block_id s ids_at ≡ got b.predecessors ids-end) same_head
        (subst (λ n. read_many parts.head.predecessors read_block_id s n ≡ got b.predecessors ids-end) same_place parts.predecessors_read)

    pub ids_there : {r : Refusal} → passed (read_many head.predecessors read_block_id s ids_at) ≡ refused r → ⊥
    ids_there e = not_both (ap passed ids_read) e

    module _ {reads_at : ℕ} (past : passed (read_many head.predecessors read_block_id s ids_at) ≡ got tt reads_at) where
      reads_place : ids-end ≡ reads_at
      reads_place = let both : got tt reads_at ≡ got tt ids-end = sym past ∙ ap passed ids_read in cc

      pub reads_read : read_many head.raw (read_raw_read 4) s reads_at ≡ got b.raw_reads parts.paths_at
      reads_read =
          subst (λ (h : BlockHead). read_many h.raw (read_raw_read 4) s reads_at ≡ got b.raw_reads parts.paths_at) same_head
          (subst (λ n. read_many parts.head.raw (read_raw_read 4) s n ≡ got b.raw_reads parts.paths_at) reads_place parts.reads_read)

      pub reads_there : {r : Refusal} → passed (read_many head.raw (read_raw_read 4) s reads_at) ≡ refused r → ⊥
      reads_there e = not_both (ap passed reads_read) e

      pub paths_read : read_many head.assumed (read_path 4 PA) s parts.paths_at ≡ got b.ready_paths end
      paths_read = subst (λ (h : BlockHead). read_many h.assumed (read_path 4 PA) s parts.paths_at ≡ got b.ready_paths end) same_head parts.paths_read

      pub paths_place : {paths_at : ℕ} → passed (read_many head.raw (read_raw_read 4) s reads_at) ≡ got tt paths_at → parts.paths_at ≡ paths_at
      paths_place {paths_at} e = let both : got tt paths_at ≡ got tt parts.paths_at = sym e ∙ ap passed reads_read in cc

      pub paths_there : {paths_at : ℕ} → passed (read_many head.raw (read_raw_read 4) s reads_at) ≡ got tt paths_at
          → read_many head.assumed (read_path 4 PA) s paths_at ≡ got b.ready_paths end
      paths_there e = subst (λ n. read_many head.assumed (read_path 4 PA) s n ≡ got b.ready_paths end) (paths_place e) paths_read

-- The fields of a path are its head and its entries, and a path is its mark and its fields; a raw
-- read is its head and the fields of a path; a block is its head, its predecessors, its raw reads
-- and its paths.
use Prim.Native.Nat.{ℕ}
use mathlib.Core.Path.{◌≡◌, refl}
use mathlib.Core.List.{List}
use Rattle.entries.specs.declared.BlockId.{BlockId}
use Rattle.entries.specs.Path.{ReactiveScopeDependency}
use Rattle.model.specs.ReadingBytes.{Read, and_then, mapped, both, read_many, read_number, read_mark, read_within, read_flag}
use Rattle.model.specs.RawReads.{RawRead}
use Rattle.model.specs.Job.{BL, PA, RD, Block, read_block_id, read_entry, read_path_fields, read_path, read_range_start, read_raw_read, read_block}
use Rattle.laws.specs.JobBack.{then_then}
use Rattle.job.specs.Head.{read_path_head, path_of, read_instruction_and_range, read_scope_and_known, read_raw_head, raw_read_of, read_block_head}
use Rattle.job.specs.declared.PathHead.{PathHead}
use Rattle.job.specs.declared.RawHead.{RawHead}
use Rattle.job.specs.declared.BlockHead.{BlockHead}

path_fields : (s : List ℕ) (at : ℕ) → read_path_fields 4 s at ≡
    and_then (read_number 4 s at) (λ identifier reactive_at.
    and_then (read_flag s reactive_at) (λ reactive span_at.
    and_then (read_number 4 s span_at) (λ span count_at.
    and_then (read_within 0 16 (read_number 1) s count_at) (λ count entries_at.
    mapped (λ entries. record { identifier = record { 0 = identifier }; reactive = reactive; path = entries; span = span })
    (read_many count (read_entry 4) s entries_at)))))
unfolding read_path_fields
path_fields s at = refl

pub fields_by_head : (s : List ℕ) (at : ℕ) → read_path_fields 4 s at ≡
    and_then (read_path_head s at) (λ (head : PathHead) entries_at. mapped (path_of head) (read_many head.entries (read_entry 4) s entries_at))
unfolding read_path_head
fields_by_head s at = rw path_fields (simp then_then)

pub path_by_fields : (mark : ℕ) (s : List ℕ) (at : ℕ) → read_path 4 mark s at ≡ and_then (read_mark mark s at) (λ _ fields_at. read_path_fields 4 s fields_at)
unfolding read_path
path_by_fields mark s at = refl

pub raw_read_fields : (s : List ℕ) (at : ℕ) → read_raw_read 4 s at ≡
    and_then (read_mark RD s at) (λ _ instruction_at.
    and_then (read_number 4 s instruction_at) (λ instruction start_at.
    and_then (read_range_start s start_at) (λ start end_at.
    and_then (read_number 4 s end_at) (λ end has_scope_at.
    and_then (read_flag s has_scope_at) (λ has_scope scope_start_at.
    and_then (read_number 4 s scope_start_at) (λ scope_start scope_end_at.
    and_then (read_number 4 s scope_end_at) (λ scope_end known_at.
    and_then (read_flag s known_at) (λ known fields_at.
    mapped (raw_read_of (record {
      range = record { instruction = instruction; start = start; end = end };
      scope = record { has_scope = has_scope; start = scope_start; end = scope_end; known_immutable = known };
    })) (read_path_fields 4 s fields_at)))))))))
unfolding read_raw_read
raw_read_fields s at = refl

pub raw_read_by_head : (s : List ℕ) (at : ℕ) → read_raw_read 4 s at ≡
    and_then (read_raw_head s at) (λ (head : RawHead) fields_at. mapped (raw_read_of head) (read_path_fields 4 s fields_at))
unfolding read_raw_head read_instruction_and_range read_scope_and_known
raw_read_by_head s at = rw raw_read_fields (simp then_then)

abbrev pub block_of : BlockHead → List BlockId → List RawRead → List ReactiveScopeDependency → Block
block_of head ids reads paths = record { id = head.id; predecessors = ids; raw_reads = reads; ready_paths = paths }

-- what follows a block's predecessors: its raw reads and its paths
abbrev pub rest_of : List ℕ → BlockHead → List BlockId → ℕ → Read Block
rest_of s head ids reads_at = both (block_of head ids) (read_many head.raw (read_raw_read 4) s reads_at) (read_many head.assumed (read_path 4 PA) s)

block_fields : (s : List ℕ) (at : ℕ) → read_block 4 s at ≡
    and_then (read_mark BL s at) (λ _ id_at.
    and_then (read_block_id s id_at) (λ id count_at.
    and_then (read_within 0 64 (read_number 1) s count_at) (λ predecessors assumed_at.
    and_then (read_number 1 s assumed_at) (λ assumed raw_at.
    and_then (read_number 1 s raw_at) (λ raw ids_at.
    and_then (read_many predecessors read_block_id s ids_at) (λ ids reads_at.
    both (λ reads paths. record { id = id; predecessors = ids; raw_reads = reads; ready_paths = paths })
    (read_many raw (read_raw_read 4) s reads_at) (read_many assumed (read_path 4 PA) s)))))))
unfolding read_block
block_fields s at = refl

pub block_by_head : (s : List ℕ) (at : ℕ) → read_block 4 s at ≡
    and_then (read_block_head s at) (λ (head : BlockHead) ids_at.
    and_then (read_many head.predecessors read_block_id s ids_at) (λ ids reads_at. rest_of s head ids reads_at))
unfolding read_block_head
block_by_head s at = rw block_fields (simp then_then)

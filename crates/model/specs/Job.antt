-- Document 01, "The job (added)", and document 02, E5 (raw reads in a job): a job's records, field
-- by field, and refusals 3 to 8 and 10. The width of a span, in bytes, is a parameter of the
-- records that hold one.
use Rattle.std.specs.Prelude.{ℕ, ◌+◌, ◌*◌, Bool, false, ◌||◌, not, cond, List, [], ◌∷◌, ◌++◌, map, length, eqb}
use Rattle.entries.specs.declared.BlockId.{BlockId}
use Rattle.entries.specs.declared.DependencyPathEntry.{DependencyPathEntry}
use Rattle.entries.specs.Property.{property_of}
use Rattle.entries.specs.declared.Refusal.TheVariants.{ExtraByte, RepeatedId, UnknownBlock, LargestStart}
use Rattle.entries.specs.Path.{ReactiveScopeDependency}
use Rattle.model.specs.Lists.{any_of}
use Rattle.model.specs.RawReads.{RawRead, kept_paths}
use Rattle.model.specs.ReadingBytes.{
  Read,
  got,
  refused,
  ByteReader,
  and_then,
  mapped,
  both,
  read_many,
  read_u8,
  read_u16,
  read_u32,
  read_u64,
  read_mark,
  read_number,
  read_within,
  read_flag,
}

-- "Each record starts with a two-byte ASCII mark."
abbrev pub mark_of : ℕ → ℕ → ℕ
mark_of first second = first + 256 * second

-- "HD": the mark of the header.
abbrev pub HD : ℕ
HD = mark_of 0x48 0x44

-- "Per block BL": the mark of a block.
abbrev pub BL : ℕ
BL = mark_of 0x42 0x4C

-- "Its assumed paths follow as PA records": the mark of a path that is assumed as it stands, which
-- E5 calls a ready path.
abbrev pub PA : ℕ
PA = mark_of 0x50 0x41

-- E5: "RD records in place of ready paths": the mark of a raw read.
abbrev pub RD : ℕ
RD = mark_of 0x52 0x44

-- "After the blocks, candidates: CA": the mark of a candidate.
abbrev pub CA : ℕ
CA = mark_of 0x43 0x41

-- "Entries of 14 bytes: optional u8 (0 or 1), kind u8 (0 name, 1 number), value u64, span u32."
unfoldable pub read_entry : ℕ → ByteReader DependencyPathEntry
unfolding read_flag read_number
read_entry span_bytes s at =
    and_then (read_flag s at) (λ optional kind_at.
    and_then (read_flag s kind_at) (λ kind value_at.
    and_then (read_u64 s value_at) (λ value span_at.
    and_then (read_number span_bytes s span_at) (λ span next.
    got (record { property = property_of kind value; optional = optional; span = span }) next))))

-- "PA: identifier u32, reactive u8 (0 or 1), span u32, entry count u8 (0 to 16), then entries":
-- what stands behind the mark, "the fields of PA from the identifier on".
unfoldable pub read_path_fields : ℕ → ByteReader ReactiveScopeDependency
unfolding read_flag read_number read_within read_entry
read_path_fields span_bytes s at =
    and_then (read_u32 s at) (λ identifier reactive_at.
    and_then (read_flag s reactive_at) (λ reactive span_at.
    and_then (read_number span_bytes s span_at) (λ span count_at.
    and_then (read_within 0 16 read_u8 s count_at) (λ count entries_at.
    mapped (λ entries. record { identifier = record { 0 = identifier }; reactive = reactive; path = entries; span = span })
    (read_many count (read_entry span_bytes) s entries_at)))))

-- PA, and "CA, with the fields of PA": a path under a mark.
unfoldable pub read_path : ℕ → ℕ → ByteReader ReactiveScopeDependency
unfolding read_mark read_path_fields
read_path span_bytes mark s at = and_then (read_mark mark s at) (λ _ fields_at. read_path_fields span_bytes s fields_at)

-- "A range start of 4,294,967,295, where start + 1 would not fit".
abbrev pub largest_start : ℕ
largest_start = 4294967295

-- E5: "range start u32", and 10: a start that is the largest number. "Field by field with 3 to 5":
-- the field is read first.
unfoldable pub read_range_start : ByteReader ℕ
unfolding read_number
read_range_start s at = and_then (read_u32 s at)
    (λ found next. cond (eqb found largest_start) (refused LargestStart) (got found next))

-- E5: "RD holds instruction u32, range start u32, range end u32, has-scope u8 (0 or 1), scope start
-- u32, scope end u32, known-immutable u8 (0 or 1), then the fields of PA from the identifier on."
unfoldable pub read_raw_read : ℕ → ByteReader RawRead
unfolding read_mark read_number read_flag read_range_start read_path_fields
read_raw_read span_bytes s at =
    and_then (read_mark RD s at) (λ _ instruction_at.
    and_then (read_u32 s instruction_at) (λ instruction range_start_at.
    and_then (read_range_start s range_start_at) (λ range_start range_end_at.
    and_then (read_u32 s range_end_at) (λ range_end has_scope_at.
    and_then (read_flag s has_scope_at) (λ has_scope scope_start_at.
    and_then (read_u32 s scope_start_at) (λ scope_start scope_end_at.
    and_then (read_u32 s scope_end_at) (λ scope_end known_at.
    and_then (read_flag s known_at) (λ known fields_at.
    mapped (λ path. record {
      instruction = instruction;
      range_start = range_start;
      range_end = range_end;
      has_scope = has_scope;
      scope_start = scope_start;
      scope_end = scope_end;
      known_immutable = known;
      path = path;
    })
    (read_path_fields span_bytes s fields_at)))))))))

-- The fields of BL, with the raw reads and the ready paths that follow it, RD and PA; the three
-- counts are those of the lists.
pub record Block : Type 0 where
  pub id : BlockId
  pub predecessors : List BlockId
  pub raw_reads : List RawRead
  pub ready_paths : List ReactiveScopeDependency

-- E5: "The assumed paths of the safety property are then the kept and the PA ones", and as they are
-- entered: "kept ones .. before the block's PA paths".
abbrev pub assumed_of : Block → List ReactiveScopeDependency
assumed_of b = kept_paths b.raw_reads ++ b.ready_paths

-- A number as the id of a block.
abbrev pub block_id : ℕ → BlockId
block_id i = record { 0 = i }

-- "Id u32", of a block. "Identifiers and block ids are kept apart as in the source"
abbrev pub read_block_id : ByteReader BlockId
read_block_id s at = mapped block_id (read_u32 s at)

-- "Per block BL: id u32, predecessor count u8 (0 to 64), assumed count u8, predecessor ids u32
-- each. Its assumed paths follow as PA records." E5: "A block may bring, before its PA records, RD
-- records .. BL gains a u8 count of them after the assumed count."
unfoldable pub read_block : ℕ → ByteReader Block
unfolding read_mark read_number read_within read_raw_read read_path
read_block span_bytes s at =
    and_then (read_mark BL s at) (λ _ id_at.
    and_then (read_block_id s id_at) (λ id count_at.
    and_then (read_within 0 64 read_u8 s count_at) (λ predecessors assumed_at.
    and_then (read_u8 s assumed_at) (λ assumed raw_at.
    and_then (read_u8 s raw_at) (λ raw ids_at.
    and_then (read_many predecessors read_block_id s ids_at) (λ ids reads_at.
    both (λ raw_reads ready_paths. record { id = id; predecessors = ids; raw_reads = raw_reads; ready_paths = ready_paths })
    (read_many raw (read_raw_read span_bytes) s reads_at) (read_many assumed (read_path span_bytes PA) s)))))))

-- The fields of HD.
pub record Header : Type 0 where
  pub blocks : ℕ
  pub candidates : ℕ
  pub scope : BlockId

-- "HD: blocks u16 (1 to 128), candidates u16 (0 to 64), scope block id u32."
unfoldable pub read_header : ℕ → ByteReader Header
unfolding read_mark read_number read_within
read_header mark s at =
    and_then (read_mark mark s at) (λ _ blocks_at.
    and_then (read_within 1 128 read_u16 s blocks_at) (λ blocks candidates_at.
    and_then (read_within 0 64 read_u16 s candidates_at) (λ candidates scope_at.
    and_then (read_block_id s scope_at) (λ scope next.
    got (record { blocks = blocks; candidates = candidates; scope = scope }) next))))

-- A job: the scope block, the blocks in job order, the candidates in theirs.
pub record Job : Type 0 where
  pub scope : BlockId
  pub blocks : List Block
  pub candidates : List ReactiveScopeDependency

-- the records in their order, and 6: "A byte follows the last candidate."
unfoldable pub read_records : ℕ → ℕ → List ℕ → Read Job
unfolding read_header read_block read_path
read_records head span_bytes s =
    and_then (read_header head s 0) (λ header blocks_at.
    and_then (read_many header.blocks (read_block span_bytes) s blocks_at) (λ blocks candidates_at.
    and_then (read_many header.candidates (read_path span_bytes CA) s candidates_at) (λ candidates next.
    cond (eqb next (length s)) (got (record { scope = header.scope; blocks = blocks; candidates = candidates }) next)
    (refused ExtraByte))))

-- Two block ids are the same number.
abbrev pub same_block : BlockId → BlockId → Bool
same_block a b = eqb a.0 b.0

-- A block id stands in a list.
abbrev pub contains_id : List BlockId → BlockId → Bool
contains_id ids i = any_of (same_block i) ids

-- an id stands twice
abbrev pub repeats : List BlockId → Bool
repeats [] = false
repeats (i ∷ ids) = contains_id ids i || repeats ids

-- The blocks' ids, in job order.
abbrev pub ids_of : List Block → List BlockId
ids_of blocks = map (λ (b : Block). b.id) blocks

-- 7: "A block id, or a predecessor within one block, stands twice."
unfoldable pub has_repeat : Job → Bool
has_repeat job = repeats (ids_of job.blocks) || any_of (λ (b : Block). repeats b.predecessors) job.blocks

-- 8: "A predecessor or the scope block is no block of the job."
unfoldable pub has_unknown : Job → Bool
has_unknown job =
    let ids = ids_of job.blocks in
    any_of (λ (b : Block). any_of (λ i. not (contains_id ids i)) b.predecessors) job.blocks || not (contains_id ids job.scope)

-- a job that has been read, and 7 before 8
unfoldable pub accept_ids : Job → ℕ → Read Job
unfolding has_repeat has_unknown
accept_ids job next = cond (has_repeat job) (refused RepeatedId) (cond (has_unknown job) (refused UnknownBlock) (got job next))

-- a job whose header has this mark and whose spans have so many bytes
unfoldable pub read_job : ℕ → ℕ → List ℕ → Read Job
unfolding read_records accept_ids
read_job head span_bytes s = and_then (read_records head span_bytes s) accept_ids

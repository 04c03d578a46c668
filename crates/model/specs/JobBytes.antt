-- Document 01, "The job (added)", and document 02, E5, written: the bytes of a job's records, field
-- by field. The mark of the header and the width of a span, in bytes, are parameters, as they are
-- of the reader (`Job`).
use Rattle.std.specs.Prelude.{ℕ, List, ◌++◌, length}
use Rattle.entries.specs.declared.BlockId.{BlockId}
use Rattle.model.specs.Lists.{concat_map}
use Rattle.model.specs.RawReads.{RawRead}
use Rattle.model.specs.Job.{Block, Job, BL, PA, RD, CA}
use Rattle.model.specs.Answer.{number_bytes, u8, u16, u32, flag, path_field_bytes, path_bytes}

-- E5: "RD holds instruction u32, range start u32, range end u32, has-scope u8 .., scope start u32,
-- scope end u32, known-immutable u8 .., then the fields of PA from the identifier on."
unfoldable pub raw_read_bytes : ℕ → RawRead → List ℕ
unfolding number_bytes path_field_bytes
raw_read_bytes span_bytes r =
    u16 RD ++ u32 r.instruction ++ u32 r.range_start ++ u32 r.range_end ++ u8 (flag r.has_scope) ++ u32 r.scope_start
    ++ u32 r.scope_end ++ u8 (flag r.known_immutable) ++ path_field_bytes span_bytes r.path

-- "Per block BL: id u32, predecessor count u8 .., assumed count u8, predecessor ids u32 each. Its
-- assumed paths follow as PA records." E5: the count of RD records "after the assumed count", and
-- the records themselves "before its PA records".
unfoldable pub block_bytes : ℕ → Block → List ℕ
unfolding number_bytes path_bytes raw_read_bytes
block_bytes span_bytes b =
    u16 BL ++ u32 b.id.0 ++ u8 (length b.predecessors) ++ u8 (length b.ready_paths) ++ u8 (length b.raw_reads)
    ++ concat_map (λ (i : BlockId). u32 i.0) b.predecessors ++ concat_map (raw_read_bytes span_bytes) b.raw_reads
    ++ concat_map (path_bytes span_bytes PA) b.ready_paths

-- "HD: blocks u16 .., candidates u16 .., scope block id u32", the blocks, and "after the blocks,
-- candidates: CA, with the fields of PA."
unfoldable pub job_bytes : ℕ → ℕ → Job → List ℕ
unfolding number_bytes path_bytes block_bytes
job_bytes head span_bytes j =
    u16 head ++ u16 (length j.blocks) ++ u16 (length j.candidates) ++ u32 j.scope.0
    ++ concat_map (block_bytes span_bytes) j.blocks ++ concat_map (path_bytes span_bytes CA) j.candidates

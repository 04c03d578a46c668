-- What stands before the repeated parts of a path, of a raw read and of a block.
-- `proofs/Heads.antt` shows that the records are these and what follows.
use Rattle.std.specs.Prelude.{List}
use Rattle.entries.specs.declared.DependencyPathEntry.{DependencyPathEntry}
use Rattle.entries.specs.Path.{ReactiveScopeDependency}
use Rattle.model.specs.ReadingBytes.{ByteReader, got, and_then, read_number, read_mark, read_within, read_flag}
use Rattle.model.specs.RawReads.{RawRead}
use Rattle.model.specs.Job.{BL, RD, read_block_id, read_range_start}
use Rattle.model.specs.Answer.{span_width}
use Rattle.job.specs.declared.PathHead.{PathHead}
use Rattle.job.specs.declared.InstructionAndRange.{InstructionAndRange}
use Rattle.job.specs.declared.ScopeAndKnown.{ScopeAndKnown}
use Rattle.job.specs.declared.RawHead.{RawHead}
use Rattle.job.specs.declared.BlockHead.{BlockHead}

-- "PA: identifier u32, reactive u8 (0 or 1), span u32, entry count u8 (0 to 16)", after the mark
-- and before the entries.
unfoldable pub read_path_head : ByteReader PathHead
read_path_head s at =
    and_then (read_number 4 s at) (λ identifier reactive_at.
    and_then (read_flag s reactive_at) (λ reactive span_at.
    and_then (read_number span_width s span_at) (λ span entries_at.
    and_then (read_within 0 16 (read_number 1) s entries_at) (λ entries next.
    got (record { identifier = record { 0 = identifier }; reactive = reactive; span = span; entries = entries }) next))))

-- the path of a head and its entries
abbrev pub path_of : PathHead → List DependencyPathEntry → ReactiveScopeDependency
path_of head entries = record { identifier = head.identifier; reactive = head.reactive; path = entries; span = head.span }

-- E5: "RD holds instruction u32, range start u32, range end u32", with the mark.
unfoldable pub read_instruction_and_range : ByteReader InstructionAndRange
read_instruction_and_range s at =
    and_then (read_mark RD s at) (λ _ instruction_at.
    and_then (read_number 4 s instruction_at) (λ instruction start_at.
    and_then (read_range_start s start_at) (λ start end_at.
    and_then (read_number 4 s end_at) (λ end next.
    got (record { instruction = instruction; start = start; end = end }) next))))

-- "Has-scope u8 (0 or 1), scope start u32, scope end u32, known-immutable u8 (0 or 1)"
unfoldable pub read_scope_and_known : ByteReader ScopeAndKnown
read_scope_and_known s at =
    and_then (read_flag s at) (λ has_scope start_at.
    and_then (read_number 4 s start_at) (λ start end_at.
    and_then (read_number 4 s end_at) (λ end known_at.
    and_then (read_flag s known_at) (λ known next.
    got (record { has_scope = has_scope; start = start; end = end; known_immutable = known }) next))))

-- both, before "the fields of PA"
unfoldable pub read_raw_head : ByteReader RawHead
read_raw_head s at =
    and_then (read_instruction_and_range s at) (λ range scope_at.
    and_then (read_scope_and_known s scope_at) (λ scope next.
    got (record { range = range; scope = scope }) next))

-- the raw read of a head and its path
abbrev pub raw_read_of : RawHead → ReactiveScopeDependency → RawRead
raw_read_of head d = record {
  instruction = head.range.instruction;
  range_start = head.range.start;
  range_end = head.range.end;
  has_scope = head.scope.has_scope;
  scope_start = head.scope.start;
  scope_end = head.scope.end;
  known_immutable = head.scope.known_immutable;
  path = d;
}

-- "BL: id u32, predecessor count u8 (0 to 64), assumed count u8", and E5's count of raw reads,
-- before the predecessors.
unfoldable pub read_block_head : ByteReader BlockHead
read_block_head s at =
    and_then (read_mark BL s at) (λ _ id_at.
    and_then (read_block_id s id_at) (λ id count_at.
    and_then (read_within 0 64 (read_number 1) s count_at) (λ predecessors assumed_at.
    and_then (read_number 1 s assumed_at) (λ assumed raw_at.
    and_then (read_number 1 s raw_at) (λ raw next.
    got (record { id = id; predecessors = predecessors; assumed = assumed; raw = raw }) next)))))

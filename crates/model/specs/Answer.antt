-- Document 01, "Answer and sheet" and "Turning a job back": for any job bytes and any out buffer,
-- the number returned and the buffer afterwards.
use Rattle.std.specs.Prelude.{
  ℕ,
  zero,
  suc,
  ◌+◌,
  ◌*◌,
  ◌/◌,
  ◌%◌,
  Bool,
  true,
  false,
  cond,
  List,
  [],
  ◌∷◌,
  ◌++◌,
  length,
  drop,
  replicate,
  ℤ,
  pos,
  neg_ℤ,
  ltb,
}
use Rattle.entries.specs.declared.DependencyPathEntry.{DependencyPathEntry}
use Rattle.entries.specs.Property.{is_number, value_of}
use Rattle.entries.specs.declared.Refusal.{Refusal}
use Rattle.entries.specs.declared.Refusal.TheVariants.{ShortBuffer, LongJob, ManyNodes}
use Rattle.entries.specs.Path.{ReactiveScopeDependency}
use Rattle.entries.specs.Refusals.{refusal_number}
use Rattle.model.specs.Lists.{concat_map}
use Rattle.model.specs.Sets.{NodeSet, contains}
use Rattle.model.specs.Registry.{node_limit, root_mark, Origin, root, child_of, PropertyPathNode}
use Rattle.model.specs.Rounds.{Rounds}
use Rattle.model.specs.Propagation.{Work, JoiningRule, done_neighbours}
use Rattle.model.specs.ReadingBytes.{
  Read,
  got,
  refused,
  ByteReader,
  and_then,
  mapped,
  read_many,
  read_u8,
  read_u16,
  read_number,
  read_mark,
  read_flag,
}
use Rattle.model.specs.Job.{Block, Job, mark_of, HD, read_path, read_job}
use Rattle.model.specs.Stage.{Started, enter_blocks, start_of, propagated, returned_paths}

-- Bytes.

-- "Numbers are unsigned, lowest byte first": a number in so many bytes.
unfoldable pub number_bytes : ℕ → ℕ → List ℕ
number_bytes zero x = []
number_bytes (suc bytes) x = x % 256 ∷ number_bytes bytes (x / 256)

-- A field "u8": one byte.
abbrev pub u8 : ℕ → List ℕ
u8 = number_bytes 1

-- A field "u16": two bytes.
abbrev pub u16 : ℕ → List ℕ
u16 = number_bytes 2

-- A field "u32": four bytes.
abbrev pub u32 : ℕ → List ℕ
u32 = number_bytes 4

-- A field "u64": eight bytes.
abbrev pub u64 : ℕ → List ℕ
u64 = number_bytes 8

-- "0 or 1", "settled u8 (1 or 0)": the byte of a yes or no.
abbrev pub flag : Bool → ℕ
flag false = 0
flag true = 1

-- "The answer is AN, ..": its mark.
abbrev pub AN : ℕ
AN = mark_of 0x41 0x4E

-- "A DE record per returned path": its mark.
abbrev pub DE : ℕ
DE = mark_of 0x44 0x45

-- "The sheet is SH, ..": its mark.
abbrev pub SH : ℕ
SH = mark_of 0x53 0x48

-- "Per node NO": its mark.
abbrev pub NO : ℕ
NO = mark_of 0x4E 0x4F

-- "Per block in job order SE": its mark.
abbrev pub SE : ℕ
SE = mark_of 0x53 0x45

-- optional, kind ("0 name, 1 number"), value
abbrev pub step_bytes : DependencyPathEntry → List ℕ
step_bytes e = u8 (flag e.optional) ++ u8 (flag (is_number e.property)) ++ u64 (value_of e.property)

-- "Entries of 14 bytes: optional u8 .., kind u8 .., value u64, span u32", the span in so many
-- bytes.
abbrev pub entry_bytes : ℕ → DependencyPathEntry → List ℕ
entry_bytes span_bytes e = step_bytes e ++ number_bytes span_bytes e.span

-- "Fields as PA": "identifier u32, reactive u8 (0 or 1), span u32, entry count u8 .., then entries"
unfoldable pub path_field_bytes : ℕ → ReactiveScopeDependency → List ℕ
unfolding number_bytes
path_field_bytes span_bytes d =
    u32 d.identifier.0 ++ u8 (flag d.reactive) ++ number_bytes span_bytes d.span ++ u8 (length d.path)
    ++ concat_map (entry_bytes span_bytes) d.path

-- a path under a mark
unfoldable pub path_bytes : ℕ → ℕ → ReactiveScopeDependency → List ℕ
unfolding number_bytes path_field_bytes
path_bytes span_bytes mark d = u16 mark ++ path_field_bytes span_bytes d

-- "The answer is AN, count u16, rounds u8, settled u8 (1 or 0), then a DE record per returned path,
-- fields as PA."
unfoldable pub answer_bytes : ℕ → Job → Rounds Work → List ℕ
unfolding number_bytes path_bytes returned_paths
answer_bytes span_bytes job p =
    let returned = returned_paths job p.work in
    u16 AN ++ u16 (length returned) ++ u8 p.rounds ++ u8 (flag p.settled) ++ concat_map (path_bytes span_bytes DE) returned

-- The same read back: what an answer holds.

-- What stands in an answer: "count .., rounds .., settled .. returned path", the count being that
-- of the list.
pub record Answered : Type 0 where
  pub paths : List ReactiveScopeDependency
  pub rounds : ℕ
  pub settled : Bool

-- The answer's fields in their order, "fields as PA": read by the readers of a job.
unfoldable pub read_answer : ℕ → ByteReader Answered
unfolding read_mark read_number read_flag read_path
read_answer span_bytes s at =
    and_then (read_mark AN s at) (λ _ count_at.
    and_then (read_u16 s count_at) (λ count rounds_at.
    and_then (read_u8 s rounds_at) (λ rounds settled_at.
    and_then (read_flag s settled_at) (λ settled paths_at.
    mapped (λ paths. record {
      paths = paths;
      rounds = rounds;
      settled =
          settled;
    }) (read_many count (read_path span_bytes DE) s paths_at)))))

-- "Parent u16 (65535 for a root)"
abbrev pub parent_number : Origin → ℕ
parent_number root = root_mark
parent_number (child_of p e) = p.0

-- "Optional u8, kind u8, value u64 (these three 0 for a root)"
abbrev pub origin_bytes : Origin → List ℕ
origin_bytes root = u8 0 ++ u8 0 ++ u64 0
origin_bytes (child_of p e) = step_bytes e

-- "Per node NO, parent u16 .., identifier u32, optional u8, kind u8, value u64 .., span u32, the
-- root's reactive u8".
unfoldable pub node_bytes : ℕ → PropertyPathNode → List ℕ
unfolding number_bytes
node_bytes span_bytes n =
    u16 NO ++ u16 (parent_number n.origin) ++ u32 n.full_path.identifier.0 ++ origin_bytes n.origin
    ++ number_bytes span_bytes n.full_path.span ++ u8 (flag n.full_path.reactive)

-- n bits, the first for node k and worth 1
unfoldable pub bits_from : NodeSet → ℕ → ℕ → ℕ
bits_from s k zero = 0
bits_from s k (suc n) = flag (contains s (record { 0 = k })) + 2 * bits_from s (k + 1) n

-- n bytes of 8 nodes each, the first for nodes k to k + 7
unfoldable pub row_bytes : NodeSet → ℕ → ℕ → List ℕ
unfolding bits_from
row_bytes s k zero = []
row_bytes s k (suc n) = bits_from s k 8 ∷ row_bytes s (k + 8) n

-- "Per block in job order SE, id u32, 64 bytes where node k is bit k mod 8 of byte k div 8, bit 0
-- being worth 1."
unfoldable pub set_bytes : List Block → List NodeSet → List ℕ
unfolding number_bytes row_bytes
set_bytes [] sets = []
set_bytes (b ∷ bs) [] = []
set_bytes (b ∷ bs) (s ∷ sets) = u16 SE ++ u32 b.id.0 ++ row_bytes s 0 64 ++ set_bytes bs sets

-- "SH, nodes u16, blocks u16, rounds u8, settled u8". "The sheet's head gains a u16 at its end:
-- nodes present before the first round" (E4).
abbrev pub sheet_head : ℕ → ℕ → ℕ → Bool → ℕ → List ℕ
sheet_head nodes blocks rounds settled nodes_before =
    u16 SH ++ u16 nodes ++ u16 blocks ++ u8 rounds ++ u8 (flag settled) ++ u16 nodes_before

-- "The sheet is SH, ..; per node ..; per block ..". The nodes before the first round are those with
-- which propagation starts.
unfoldable pub sheet_bytes : ℕ → Job → Started → Rounds Work → List ℕ
unfolding number_bytes node_bytes set_bytes
sheet_bytes span_bytes job start p =
    let w = p.work in
    sheet_head (length w.registry) (length job.blocks) p.rounds p.settled (length start.registry)
    ++ concat_map (node_bytes span_bytes) w.registry ++ set_bytes job.blocks w.sets

-- The two operations.

-- how an operation makes its bytes: of the width of spans, the job, the start of its propagation,
-- and what that came to
abbrev pub Writing : Type 0
Writing = ℕ → Job → Started → Rounds Work → List ℕ

-- The answer tells nothing of the start.
abbrev pub answer_writing : Writing
answer_writing span_bytes job start p = answer_bytes span_bytes job p

-- what an operation does: it writes these bytes, or turns the job back
pub data Verdict : Type 0 where
  writes : List ℕ → Verdict
  turns_back : Refusal → Verdict

-- 1: "The out buffer is shorter than 24,576 bytes." 2: "The job is longer than 32,768 bytes." The
-- two limits are given, since the thin writer has another for 1.
abbrev pub within_lengths : ℕ → ℕ → List ℕ → List ℕ → Verdict → Verdict
within_lengths least_out most_job job out rest =
    cond (ltb (length out) least_out) (turns_back ShortBuffer) (cond (ltb most_job (length job)) (turns_back LongJob) rest)

-- 9: "The reference's registry would pass 512 nodes by the end of propagation."
abbrev pub within_nodes : Rounds Work → List ℕ → Verdict
within_nodes p bytes = cond (ltb node_limit (length p.work.registry)) (turns_back ManyNodes) (writes bytes)

-- A job that was read is propagated, 9 is looked at, and the bytes are written; 3 to 8 and 10 stay
-- what they are.
abbrev pub on_job : JoiningRule → (Job → Started → Rounds Work → List ℕ) → Read Job → Verdict
on_job rule bytes (got job next) = let p = propagated rule job.blocks in within_nodes p (bytes job (start_of job.blocks) p)
on_job rule bytes (refused r) = turns_back r

-- 1: "Shorter than 24,576 bytes."
abbrev pub least_buffer : ℕ
least_buffer = 24576

-- 2: "Longer than 32,768 bytes."
abbrev pub longest_job : ℕ
longest_job = 32768

-- "Span u32", in the job and in what is written.
abbrev pub span_width : ℕ
span_width = 4

-- 1 and 2, then 3 to 8 and 10, and 9: of a job with a header of this mark and spans of so many
-- bytes, under a joining rule; `bytes` says what is written.
unfoldable pub verdict : ℕ → ℕ → JoiningRule → Writing → List ℕ → List ℕ → Verdict
unfolding read_job enter_blocks propagated
verdict head span_bytes rule bytes job out =
    within_lengths least_buffer longest_job job out (on_job rule (bytes span_bytes) (read_job head span_bytes job))

-- "Two operations take a job and an out buffer": the answer.
unfoldable pub answer_of : List ℕ → List ℕ → Verdict
unfolding verdict answer_bytes done_neighbours
answer_of job out = verdict HD span_width done_neighbours answer_writing job out

-- And the sheet.
unfoldable pub sheet_of : List ℕ → List ℕ → Verdict
unfolding verdict sheet_bytes done_neighbours
sheet_of job out = verdict HD span_width done_neighbours sheet_bytes job out

-- "Both report the bytes written"; "the length or minus the refusal number".
abbrev pub number_returned : Verdict → ℤ
number_returned (writes bytes) = pos (length bytes)
number_returned (turns_back r) = neg_ℤ (pos (refusal_number r))

-- "Bytes beyond stay." "Every refusal writes nothing."
abbrev pub buffer_after : Verdict → List ℕ → List ℕ
buffer_after (writes bytes) out = bytes ++ drop (length bytes) out
buffer_after (turns_back r) out = out

-- "Program `answer` reads a job from standard input and writes the answer, or RF and the number as
-- one byte; `sheet` likewise."
abbrev pub program_output : Verdict → List ℕ
program_output (writes bytes) = bytes
program_output (turns_back r) = 0x52 ∷ 0x46 ∷ refusal_number r ∷ []

-- "Program `answer`": its input is the job. A buffer of the least length stands for the program's,
-- which is longer; 1 does not occur, and what is written is the same.
unfoldable pub answer_program : List ℕ → List ℕ
answer_program input = program_output (answer_of input (replicate least_buffer 0))

-- "`sheet` likewise."
unfoldable pub sheet_program : List ℕ → List ℕ
sheet_program input = program_output (sheet_of input (replicate least_buffer 0))

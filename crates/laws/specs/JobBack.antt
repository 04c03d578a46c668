-- A job's bytes read to the job, for any mark of the header and any width of a span, where each
-- number fits its width and no range start is the largest number.
use Rattle.std.specs.Prelude.{ℕ, ◌^◌, ◌≤◌, ◌<◌, ◌≡◌, refl, false, cond, List, ◌++◌, length, eqb}
use Rattle.std.proofs.Common.{arith, sym, ap, subst, ◌∙◌, append_assoc}
use Rattle.entries.specs.declared.BlockId.{BlockId}
use Rattle.entries.specs.declared.Refusal.TheVariants.{ExtraByte, LargestStart}
use Rattle.entries.specs.Path.{ReactiveScopeDependency}
use Rattle.model.specs.Lists.{concat_map}
use Rattle.model.specs.Tests.{eqb_same, eqb_apart}
use Rattle.model.specs.ListLaws.{All, all_map}
use Rattle.model.specs.ReadingBytes.{
  Read,
  got,
  refused,
  ByteReader,
  and_then,
  read_many,
  read_number,
  read_u8,
  read_u16,
  read_mark,
  read_within,
  read_flag,
}
use Rattle.model.specs.RawReads.{RawRead}
use Rattle.model.specs.Job.{
  BL,
  PA,
  RD,
  CA,
  read_path_fields,
  read_path,
  largest_start,
  read_range_start,
  read_raw_read,
  Block,
  block_id,
  read_block_id,
  read_block,
  Header,
  read_header,
  Job,
  read_records,
  has_repeat,
  has_unknown,
  accept_ids,
  read_job,
}
use Rattle.model.specs.Answer.{u8, u16, u32, flag, path_field_bytes, path_bytes}
use Rattle.model.specs.JobBytes.{raw_read_bytes, block_bytes, job_bytes}
use Rattle.laws.specs.ReadBack.{
  ReadsBack,
  reads_whole,
  then_back,
  mapped_back,
  end_back,
  number_back,
  value_back,
  flag_back,
  mark_back,
  many_back,
  PathFits,
  fields_back,
  path_back,
}

-- the id of a block is a u32
abbrev pub IdFits : BlockId → Type 0
IdFits i = i.0 < 256 ^ 4

-- the numbers of a raw read; its range start is not the largest number
pub record RawReadFits (span_bytes : ℕ) (r : RawRead) : Type 0 where
  pub instruction : r.instruction < 256 ^ 4
  pub range_start : r.range_start < largest_start
  pub range_end : r.range_end < 256 ^ 4
  pub scope_start : r.scope_start < 256 ^ 4
  pub scope_end : r.scope_end < 256 ^ 4
  pub path : PathFits span_bytes r.path

pub record BlockFits (span_bytes : ℕ) (b : Block) : Type 0 where
  pub id : IdFits b.id
  pub few : length b.predecessors ≤ 64
  pub predecessors : All IdFits b.predecessors
  pub few_raw : length b.raw_reads < 256
  pub raw : All (RawReadFits span_bytes) b.raw_reads
  pub few_ready : length b.ready_paths < 256
  pub ready : All (PathFits span_bytes) b.ready_paths

pub record JobFits (span_bytes : ℕ) (j : Job) : Type 0 where
  pub scope : IdFits j.scope
  pub some : 1 ≤ length j.blocks
  pub few : length j.blocks ≤ 128
  pub blocks : All (BlockFits span_bytes) j.blocks
  pub few_candidates : length j.candidates ≤ 64
  pub candidates : All (PathFits span_bytes) j.candidates

-- Records.

id_back : (i : BlockId) → IdFits i → ReadsBack read_block_id i (u32 i.0)
id_back i h = mapped_back (read_number 4) block_id i.0 (u32 i.0) (number_back 4 i.0 h)

ids_back : (is : List BlockId) → All IdFits is → ReadsBack (read_many (length is) read_block_id) is (concat_map (λ i. u32 i.0) is)
ids_back is h = many_back read_block_id (λ i. u32 i.0) is (all_map IdFits _ id_back is h)

paths_back : (w mark : ℕ) (ds : List ReactiveScopeDependency) → mark < 256 ^ 2 → All (PathFits w) ds
    → ReadsBack (read_many (length ds) (read_path w mark)) ds (concat_map (path_bytes w mark) ds)
paths_back w mark ds m h = many_back (read_path w mark) (path_bytes w mark) ds
    (all_map (PathFits w) _ (λ d f. path_back w mark d m f) ds h)

start_back : (x : ℕ) → x < largest_start → ReadsBack read_range_start x (u32 x)
unfolding read_range_start
start_back x h = record {
  back = λ front rest.
      ap (λ y. and_then y (λ found next. cond (eqb found largest_start) (refused LargestStart) (got found next)))
      ((number_back 4 x (omega arith)).back front rest)
      ∙ rw (eqb_apart x largest_start (λ e. omega arith));
}

-- nine parts one after the other
nine_parts : (a b c d e f g h i : List ℕ)
    → a ++ b ++ c ++ d ++ e ++ f ++ g ++ h ++ i ≡ a ++ (b ++ (c ++ (d ++ (e ++ (f ++ (g ++ (h ++ i)))))))
nine_parts a b c d e f g h i = simp append_assoc

raw_read_back : (w : ℕ) (r : RawRead) → RawReadFits w r → ReadsBack (read_raw_read w) r (raw_read_bytes w r)
unfolding read_raw_read raw_read_bytes
raw_read_back w r f =
    subst (ReadsBack (read_raw_read w) r) (sym (nine_parts (u16 RD) (u32 r.instruction) (u32 r.range_start) (u32 r.range_end)
    (u8 (flag r.has_scope)) (u32 r.scope_start) (u32 r.scope_end) (u8 (flag r.known_immutable)) (path_field_bytes w r.path)))
    (then_back (read_mark RD) _ tt r _ _ (mark_back RD (omega arith))
    (then_back (read_number 4) _ r.instruction r _ _ (number_back 4 r.instruction f.instruction)
    (then_back read_range_start _ r.range_start r _ _ (start_back r.range_start f.range_start)
    (then_back (read_number 4) _ r.range_end r _ _ (number_back 4 r.range_end f.range_end)
    (then_back read_flag _ r.has_scope r _ _ (flag_back r.has_scope)
    (then_back (read_number 4) _ r.scope_start r _ _ (number_back 4 r.scope_start f.scope_start)
    (then_back (read_number 4) _ r.scope_end r _ _ (number_back 4 r.scope_end f.scope_end)
    (then_back read_flag _ r.known_immutable r _ _ (flag_back r.known_immutable)
    (mapped_back (read_path_fields w) _ r.path _ (fields_back w r.path f.path))))))))))

raw_reads_back : (w : ℕ) (rs : List RawRead) → All (RawReadFits w) rs
    → ReadsBack (read_many (length rs) (read_raw_read w)) rs (concat_map (raw_read_bytes w) rs)
raw_reads_back w rs h = many_back (read_raw_read w) (raw_read_bytes w) rs (all_map (RawReadFits w) _ (raw_read_back w) rs h)

pub block_back : (w : ℕ) (b : Block) → BlockFits w b → ReadsBack (read_block w) b (block_bytes w b)
unfolding read_block block_bytes
block_back w b f =
    let few = f.few in
    let few_raw = f.few_raw in
    let few_ready = f.few_ready in
    simp append_assoc
    (then_back (read_mark BL) _ tt b _ _ (mark_back BL (omega arith))
    (then_back read_block_id _ b.id b _ _ (id_back b.id f.id)
    (then_back (read_within 0 64 read_u8) _ (length b.predecessors) b _ _
    (value_back 1 (length b.predecessors) 0 64 (omega arith) (omega arith) few)
    (then_back read_u8 _ (length b.ready_paths) b _ _ (number_back 1 (length b.ready_paths) (omega arith))
    (then_back read_u8 _ (length b.raw_reads) b _ _ (number_back 1 (length b.raw_reads) (omega arith))
    (then_back (read_many (length b.predecessors) read_block_id) _ b.predecessors b _ _ (ids_back b.predecessors f.predecessors)
    (then_back (read_many (length b.raw_reads) (read_raw_read w)) _ b.raw_reads b _ _ (raw_reads_back w b.raw_reads f.raw)
    (mapped_back (read_many (length b.ready_paths) (read_path w PA)) _ b.ready_paths _
    (paths_back w PA b.ready_paths (omega arith) f.ready)))))))))

-- The fields of HD, written.
abbrev pub header_bytes : ℕ → Header → List ℕ
header_bytes head h = u16 head ++ u16 h.blocks ++ u16 h.candidates ++ u32 h.scope.0

-- the header of a job
abbrev pub header_of : Job → Header
header_of j = record { blocks = length j.blocks; candidates = length j.candidates; scope = j.scope }

pub header_back : (head w : ℕ) (j : Job) → head < 256 ^ 2 → JobFits w j
    → ReadsBack (read_header head) (header_of j) (header_bytes head (header_of j))
unfolding read_header
header_back head w j m f =
    let few = f.few in
    let few_candidates = f.few_candidates in
    simp append_assoc
    (then_back (read_mark head) _ tt (header_of j) _ _ (mark_back head m)
    (then_back (read_within 1 128 read_u16) _ (length j.blocks) (header_of j) _ _
    (value_back 2 (length j.blocks) 1 128 (omega arith) f.some few)
    (then_back (read_within 0 64 read_u16) _ (length j.candidates) (header_of j) _ _
    (value_back 2 (length j.candidates) 0 64 (omega arith) (omega arith) few_candidates)
    (end_back read_block_id _ j.scope _ (id_back j.scope f.scope)))))

-- Jobs.

-- the records in their order, whatever follows the last candidate
abbrev pub read_parts : ℕ → ℕ → ByteReader Job
read_parts head w s at =
    and_then (read_header head s at) (λ header blocks_at.
    and_then (read_many header.blocks (read_block w) s blocks_at) (λ blocks candidates_at.
    and_then (read_many header.candidates (read_path w CA) s candidates_at) (λ candidates next.
    got (record { scope = header.scope; blocks = blocks; candidates = candidates }) next)))

-- a job whose reading has to end where the bytes end
abbrev pub ends_there : List ℕ → Job → ℕ → Read Job
ends_there s j next = cond (eqb next (length s)) (got j next) (refused ExtraByte)

pub then_then : {A B C : Type 0} (x : Read A) (f : A → ℕ → Read B) (g : B → ℕ → Read C)
    → and_then (and_then x f) g ≡ and_then x (λ a next. and_then (f a next) g)
then_then (got a next) f g = refl
then_then (refused r) f g = refl

pub records_parts : (head w : ℕ) (s : List ℕ) → read_records head w s ≡ and_then (read_parts head w s 0) (ends_there s)
unfolding read_records
records_parts head w s = simp then_then

parts_back : (head w : ℕ) (j : Job) → head < 256 ^ 2 → JobFits w j → ReadsBack (read_parts head w) j (job_bytes head w j)
unfolding job_bytes
parts_back head w j m f =
    let blocks = many_back (read_block w) (block_bytes w) j.blocks (all_map (BlockFits w) _ (block_back w) j.blocks f.blocks) in
    let candidates = paths_back w CA j.candidates (omega arith) f.candidates in
    rw (append_assoc (header_bytes head (header_of j)))
    (then_back (read_header head) _ (header_of j) j _ _ (header_back head w j m f)
    (then_back (read_many (length j.blocks) (read_block w)) _ j.blocks j _ _ blocks
    (end_back (read_many (length j.candidates) (read_path w CA)) _ j.candidates _ candidates)))

pub job_back : (head w : ℕ) (j : Job) → head < 256 ^ 2 → JobFits w j
    → read_records head w (job_bytes head w j) ≡ got j (length (job_bytes head w j))
job_back head w j m f =
    let bytes = job_bytes head w j in
    let whole = reads_whole (read_parts head w) j bytes (parts_back head w j m f) in
    rw (records_parts, whole, eqb_same)

-- Refusals 7 and 8 are told by the job alone.
pub job_reads : (head w : ℕ) (j : Job) → head < 256 ^ 2 → JobFits w j → has_repeat j ≡ false → has_unknown j ≡ false
    → read_job head w (job_bytes head w j) ≡ got j (length (job_bytes head w j))
unfolding read_job accept_ids
job_reads head w j m f repeat unknown = rw (job_back head w j m f, repeat, unknown)

-- Where the parts of a block, of a path and of a raw read stand that were read: their heads,
-- predecessors, raw reads, paths, fields and entries.
use Prim.Native.Nat.{ℕ, ◌+◌, ◌*◌, ◌≤◌}
use mathlib.Core.Path.{◌≡◌, refl, sym, subst, ◌∙◌}
use mathlib.Core.List.{List}
use native.Mathlib.Omega.{arith}
use lib.ListN.{length}
use Rattle.entries.specs.declared.BlockId.{BlockId}
use Rattle.entries.specs.declared.DependencyPathEntry.{DependencyPathEntry}
use Rattle.entries.specs.Path.{ReactiveScopeDependency}
use Rattle.model.specs.ReadingBytes.{got, read_many, read_mark}
use Rattle.model.specs.RawReads.{RawRead}
use Rattle.model.specs.Job.{PA, Block, read_block_id, read_entry, read_path_fields, read_path, read_raw_read, read_block}
use Rattle.laws.specs.Fits.{holds_got}
use Rattle.job.specs.Head.{read_path_head, path_of, read_raw_head, raw_read_of, read_block_head}
use Rattle.job.specs.declared.PathHead.{PathHead}
use Rattle.job.specs.declared.RawHead.{RawHead}
use Rattle.job.specs.declared.BlockHead.{BlockHead}
use Rattle.job.proofs.Bounds.{predecessors_most, entries_most}
use Rattle.job.proofs.Ends.{
  ended_at,
  mark_ends,
  id_ends,
  entry_ends,
  path_head_ends,
  raw_head_ends,
  block_head_ends,
  block_head_within,
  many_ends,
}
use Rattle.job.proofs.Heads.{fields_by_head, path_by_fields, raw_read_by_head, block_of, block_by_head}
use Rattle.job.proofs.Many.{many_length, many_ends_behind}
use Rattle.job.proofs.Passing.{mapped_got, then_got, both_got}

-- the parts of a block b whose record starts at a place
pub record BlockParts (s : List ℕ) (at : ℕ) (b : Block) (next : ℕ) : Type 0 where
  pub head : BlockHead
  pub head_read : read_block_head s at ≡ got head (at + 9)
  pub head_within : at + 9 ≤ length s
  pub id : b.id ≡ head.id
  pub predecessors_few : head.predecessors ≤ 64
  pub predecessors_count : length b.predecessors ≡ head.predecessors
  pub reads_count : length b.raw_reads ≡ head.raw
  pub paths_count : length b.ready_paths ≡ head.assumed
  pub predecessors_read : read_many head.predecessors read_block_id s (at + 9) ≡ got b.predecessors (at + 9 + 4 * head.predecessors)
  pub paths_at : ℕ
  pub reads_read : read_many head.raw (read_raw_read 4) s (at + 9 + 4 * head.predecessors) ≡ got b.raw_reads paths_at
  pub paths_read : read_many head.assumed (read_path 4 PA) s paths_at ≡ got b.ready_paths next

module _ (s : List ℕ) (at : ℕ) (b : Block) (next : ℕ) (head : BlockHead) (ids_at : ℕ) (ids : List BlockId) (reads_at : ℕ) (reads : List RawRead)
    (paths_at : ℕ) (paths : List ReactiveScopeDependency) (r₁ : read_block_head s at ≡ got head ids_at)
    (r₂ : read_many head.predecessors read_block_id s ids_at ≡ got ids reads_at)
    (r₃ : read_many head.raw (read_raw_read 4) s reads_at ≡ got reads paths_at)
    (r₄ : read_many head.assumed (read_path 4 PA) s paths_at ≡ got paths next) (same : block_of head ids reads paths ≡ b) where
  ids_place : ids_at ≡ at + 9
  ids_place = ended_at (at + 9) r₁ (block_head_ends s at)

  reads_place : reads_at ≡ at + 9 + 4 * head.predecessors
  reads_place = rw ids_place at (ended_at (ids_at + 4 * head.predecessors) r₂ (many_ends 4 read_block_id s (id_ends s) head.predecessors ids_at))

  block_made : BlockParts s at b next
  block_made = record {
    head = head;
    head_read = rw (← ids_place) r₁;
    head_within = rw (← ids_place) (block_head_within s at r₁);
    id = rw (← same);
    predecessors_few = holds_got (λ (h : BlockHead). h.predecessors ≤ 64) r₁ (predecessors_most s at);
    predecessors_count = rw (← same) (many_length read_block_id s head.predecessors ids_at r₂);
    reads_count = rw (← same) (many_length (read_raw_read 4) s head.raw reads_at r₃);
    paths_count = rw (← same) (many_length (read_path 4 PA) s head.assumed paths_at r₄);
    predecessors_read = rw (← reads_place, ← ids_place, ← same) r₂;
    paths_at = paths_at;
    reads_read = rw (← reads_place, ← same) r₃;
    paths_read = rw (← same) r₄;
  }

pub block_parts : (s : List ℕ) (at : ℕ) {b : Block} {next : ℕ} → read_block 4 s at ≡ got b next → BlockParts s at b next
block_parts s at {b} {next} e =
    let t = then_got (read_block_head s at) _ (sym (block_by_head s at) ∙ e) in
    let u = then_got (read_many t.0.predecessors read_block_id s t.1) _ t.3 in
    let w = both_got (block_of t.0 u.0) (read_many t.0.raw (read_raw_read 4) s u.1) (read_many t.0.assumed (read_path 4 PA) s) u.3 in
    block_made s at b next t.0 t.1 u.0 u.1 w.0 w.1 w.2 t.2 u.2 w.3 w.4 w.5

-- the parts of a path p whose fields start at a place
pub record FieldParts (s : List ℕ) (at : ℕ) (p : ReactiveScopeDependency) (next : ℕ) : Type 0 where
  pub head : PathHead
  pub head_read : read_path_head s at ≡ got head (at + 10)
  pub same : p ≡ path_of head p.path
  pub entries_few : head.entries ≤ 16
  pub entries_count : length p.path ≡ head.entries
  pub entries_read : read_many head.entries (read_entry 4) s (at + 10) ≡ got p.path next
  pub end : next ≡ at + 10 + 14 * head.entries

module _ (s : List ℕ) (at : ℕ) (p : ReactiveScopeDependency) (next : ℕ) (head : PathHead) (entries_at : ℕ) (entries : List DependencyPathEntry)
    (r₁ : read_path_head s at ≡ got head entries_at) (r₂ : read_many head.entries (read_entry 4) s entries_at ≡ got entries next)
    (same : path_of head entries ≡ p) where
  entries_place : entries_at ≡ at + 10
  entries_place = ended_at (at + 10) r₁ (path_head_ends s at)

  fields_made : FieldParts s at p next
  fields_made = record {
    head = head;
    head_read = rw (← entries_place) r₁;
    same = rw (← same);
    entries_few = holds_got (λ (h : PathHead). h.entries ≤ 16) r₁ (entries_most s at);
    entries_count = rw (← same) (many_length (read_entry 4) s head.entries entries_at r₂);
    entries_read = rw (← entries_place, ← same) r₂;
    end = rw (← entries_place) (ended_at (entries_at + 14 * head.entries) r₂ (many_ends 14 (read_entry 4) s (entry_ends s) head.entries entries_at));
  }

pub field_parts : (s : List ℕ) (at : ℕ) {p : ReactiveScopeDependency} {next : ℕ} → read_path_fields 4 s at ≡ got p next → FieldParts s at p next
field_parts s at {p} {next} e =
    let u = then_got (read_path_head s at) _ (sym (fields_by_head s at) ∙ e) in
    let m = mapped_got (path_of u.0) (read_many u.0.entries (read_entry 4) s u.1) u.3 in
    fields_made s at p next u.0 u.1 m.0 u.2 m.1 m.2

-- the parts of a path p whose record starts at a place
pub record PathParts (s : List ℕ) (mark at : ℕ) (p : ReactiveScopeDependency) (next : ℕ) : Type 0 where
  pub marked : read_mark mark s at ≡ got tt (at + 2)
  pub fields_read : read_path_fields 4 s (at + 2) ≡ got p next
  pub head : PathHead
  pub head_read : read_path_head s (at + 2) ≡ got head (at + 12)
  pub same : p ≡ path_of head p.path
  pub entries_few : head.entries ≤ 16
  pub entries_count : length p.path ≡ head.entries
  pub entries_read : read_many head.entries (read_entry 4) s (at + 12) ≡ got p.path next
  pub end : next ≡ at + 12 + 14 * head.entries

pub path_parts : (s : List ℕ) (mark at : ℕ) {p : ReactiveScopeDependency} {next : ℕ} → read_path 4 mark s at ≡ got p next → PathParts s mark at p next
path_parts s mark at {p} {next} e =
    let t = then_got (read_mark mark s at) _ (sym (path_by_fields mark s at) ∙ e) in
    let place : t.1 ≡ at + 2 = ended_at (at + 2) t.2 (mark_ends mark s at) in
    let there : read_path_fields 4 s (at + 2) ≡ got p next = rw (← place) t.3 in
    let f = field_parts s (at + 2) there in
    let twelve : at + 2 + 10 ≡ at + 12 = omega arith in
    record {
      marked = rw (← place) t.2;
      fields_read = there;
      head = f.head;
      head_read = rw (← twelve) f.head_read;
      same = f.same;
      entries_few = f.entries_few;
      entries_count = f.entries_count;
      entries_read = rw (← twelve) f.entries_read;
      end = rw (← twelve) f.end;
    }

-- the parts of a raw read r whose record starts at a place
pub record RawReadParts (s : List ℕ) (at : ℕ) (r : RawRead) (next : ℕ) : Type 0 where
  pub head : RawHead
  pub head_read : read_raw_head s at ≡ got head (at + 24)
  pub same : raw_read_of head r.path ≡ r
  pub fields_read : read_path_fields 4 s (at + 24) ≡ got r.path next

module _ (s : List ℕ) (at : ℕ) (r : RawRead) (next : ℕ) (head : RawHead) (fields_at : ℕ) (d : ReactiveScopeDependency)
    (r₁ : read_raw_head s at ≡ got head fields_at) (r₂ : read_path_fields 4 s fields_at ≡ got d next) (same : raw_read_of head d ≡ r) where
  fields_place : fields_at ≡ at + 24
  fields_place = ended_at (at + 24) r₁ (raw_head_ends s at)

  raw_read_made : RawReadParts s at r next
  raw_read_made = record {
    head = head;
    head_read = rw (← fields_place) r₁;
    same = subst (λ (x : RawRead). raw_read_of head x.path ≡ x) same refl;
    fields_read = rw (← fields_place, ← same) r₂;
  }

pub raw_read_parts : (s : List ℕ) (at : ℕ) {r : RawRead} {next : ℕ} → read_raw_read 4 s at ≡ got r next → RawReadParts s at r next
raw_read_parts s at {r} {next} e =
    let t = then_got (read_raw_head s at) _ (sym (raw_read_by_head s at) ∙ e) in
    let m = mapped_got (raw_read_of t.0) (read_path_fields 4 s t.1) t.3 in
    raw_read_made s at r next t.0 t.1 m.0 t.2 m.1 m.2

-- Paths end behind their start.
pub path_onward : (s : List ℕ) (mark at : ℕ) {d : ReactiveScopeDependency} {next : ℕ} → read_path 4 mark s at ≡ got d next → at ≤ next
path_onward s mark at e = let parts = path_parts s mark at e in let here = parts.end in omega arith

pub paths_onward : (s : List ℕ) (mark n at : ℕ) {ds : List ReactiveScopeDependency} {end : ℕ} → read_many n (read_path 4 mark) s at ≡ got ds end → at ≤ end
paths_onward s mark n at = many_ends_behind (read_path 4 mark) s (λ at d next e. path_onward s mark at e) n at

-- And so do raw reads ..
raw_read_onward : (s : List ℕ) (at : ℕ) {r : RawRead} {next : ℕ} → read_raw_read 4 s at ≡ got r next → at ≤ next
raw_read_onward s at e =
    let parts = raw_read_parts s at e in
    let here = (field_parts s (at + 24) parts.fields_read).end in
    omega arith

pub raw_reads_onward : (s : List ℕ) (n at : ℕ) {rs : List RawRead} {end : ℕ} → read_many n (read_raw_read 4) s at ≡ got rs end → at ≤ end
raw_reads_onward s n at = many_ends_behind (read_raw_read 4) s (λ at r next e. raw_read_onward s at e) n at

-- .. and blocks.
pub block_onward : (s : List ℕ) (at : ℕ) {b : Block} {next : ℕ} → read_block 4 s at ≡ got b next → at ≤ next
block_onward s at {b} {next} e =
    let parts = block_parts s at e in
    let reads = raw_reads_onward s parts.head.raw (at + 9 + 4 * parts.head.predecessors) parts.reads_read in
    let paths = paths_onward s PA parts.head.assumed parts.paths_at parts.paths_read in
    omega arith

pub blocks_onward : (s : List ℕ) (n at : ℕ) {bs : List Block} {end : ℕ} → read_many n (read_block 4) s at ≡ got bs end → at ≤ end
blocks_onward s n at = many_ends_behind (read_block 4) s (λ at b next e. block_onward s at e) n at

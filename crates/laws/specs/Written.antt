-- What reads to a job is that job's bytes, for any mark of the header and any width of a span: from
-- the place where a record begins to the place after it stand the bytes that are written for it.
use Prim.Native.Nat.{ℕ, zero, suc, ◌+◌, ◌*◌, ◌^◌, ◌/◌, ◌%◌, ◌≤◌, ◌<◌}
use Rattle.std.proofs.Common.{add-one, arith, ap, ◌∙◌, append_assoc, append-nil, length-append, leb→le}
use Rattle.std.specs.Prelude.{◌≡◌, Bool, true, false, ◌&&◌, List, [], ◌∷◌, ◌++◌, length, drop, ltb}
use Rattle.std.proofs.Math.Path.{refl}
use Rattle.std.proofs.Math.Seq.{drop-cons, drop-length}
use Rattle.std.proofs.Math.Dec.{eqb, leb}
use Rattle.entries.specs.declared.BlockId.{BlockId}
use Rattle.entries.specs.Path.{ReactiveScopeDependency}
use Rattle.entries.specs.Property.{property_of, is_number, value_of}
use Rattle.model.specs.Lists.{concat_map}
use Rattle.model.specs.Tests.{by_cond, test_passes, eqb-true, ltb_true, and_second}
use Rattle.model.specs.ListLaws.{All, all_get_or}
use Rattle.model.specs.ReadingBytes.{
  got,
  ByteReader,
  read_many,
  read_byte,
  read_number,
  read_u8,
  read_u16,
  read_mark,
  read_within,
  read_flag,
}
use Rattle.model.specs.RawReads.{RawRead}
use Rattle.model.specs.Job.{
  BL,
  PA,
  RD,
  CA,
  read_entry,
  read_path_fields,
  read_path,
  largest_start,
  read_range_start,
  read_raw_read,
  Block,
  block_id,
  read_block_id,
  read_block,
  Header,
  read_header,
  Job,
  read_records,
  accept_ids,
  read_job,
}
use Rattle.model.specs.Answer.{number_bytes, u8, u16, u32, flag, entry_bytes, path_field_bytes, path_bytes}
use Rattle.model.specs.JobBytes.{raw_read_bytes, block_bytes, job_bytes}
use Rattle.laws.specs.JobBack.{header_bytes, read_parts, ends_there, records_parts, job_reads}
use Rattle.laws.specs.Fits.{HoldsAfter, after_then, after_mapped, after_all, after_got, ids_let_through, Acceptable, read_acceptable}

-- Bytes between two places.

-- from a place on stand these bytes, and the next place is the one after them
pub record Stand (s : List ℕ) (at : ℕ) (bytes : List ℕ) (next : ℕ) : Type 0 where
  pub here : drop at s ≡ bytes ++ drop next s
  pub place : next ≡ at + length bytes

pub stand_none : (s : List ℕ) (at : ℕ) → Stand s at [] at
stand_none s at = record { here = refl; place = omega arith }

pub stand_then : {s : List ℕ} {at mid next : ℕ} {xs ys : List ℕ} → Stand s at xs mid → Stand s mid ys next → Stand s at (xs ++ ys) next
stand_then a b = record { here = rw (a.here, b.here, append_assoc); place = rw length-append (omega arith) }

-- a reader whose values stand written where they were read
abbrev pub Written : {A : Type 0} → (A → List ℕ) → List ℕ → ByteReader A → Type 0
Written bytes s read = (at : ℕ) → HoldsAfter (λ a next. Stand s at (bytes a) next) (read s at)

pub written_got : {A : Type 0} (bytes : A → List ℕ) (s : List ℕ) (read : ByteReader A) → Written bytes s read
    → (at : ℕ) {a : A} {next : ℕ} → read s at ≡ got a next → Stand s at (bytes a) next
written_got bytes s read h at e = after_got (λ a next. Stand s at (bytes a) next) (h at) e

-- many values of one form, as many as asked for
many_stand : {A : Type 0} (bytes : A → List ℕ) (s : List ℕ) (read : ByteReader A) → Written bytes s read
    → (n at : ℕ) → HoldsAfter (λ xs next. (length xs ≡ n) × Stand s at (concat_map bytes xs) next) (read_many n read s at)
many_stand bytes s read h zero at = (refl, stand_none s at)
many_stand bytes s read h (suc n) at =
    after_then (λ a next. Stand s at (bytes a) next) _ (read s at) _ (h at) (λ a next first.
    after_mapped _ (λ xs end. (length xs ≡ suc n) × Stand s at (concat_map bytes xs) end) (λ rest. a ∷ rest) (read_many n read s next)
    (many_stand bytes s read h n next) (λ xs end rest. (ap suc rest.0, stand_then first rest.1)))

pub many_written : {A : Type 0} (bytes : A → List ℕ) (s : List ℕ) (read : ByteReader A) → Written bytes s read
    → (n at : ℕ) {xs : List A} {next : ℕ} → read_many n read s at ≡ got xs next → Stand s at (concat_map bytes xs) next
many_written bytes s read h n at e =
    (after_got (λ xs next. (length xs ≡ n) × Stand s at (concat_map bytes xs) next) (many_stand bytes s read h n at) e).1

-- Fields.

-- the lowest byte and the others of a number that they make
low_byte : (low high : ℕ) → low < 256 → (low + 256 * high) % 256 ≡ low
low_byte low high h = omega arith

high_bytes : (low high : ℕ) → low < 256 → (low + 256 * high) / 256 ≡ high
high_bytes low high h = omega arith

flag_number : (x : ℕ) → x ≤ 1 → flag (eqb x 1) ≡ x
flag_number zero h = refl
flag_number (suc zero) h = refl
flag_number (suc (suc x)) h = absurd (omega arith)

-- a property's kind and value
is_number_lem : (kind : Bool) (value : ℕ) → is_number (property_of kind value) ≡ kind
is_number_lem true value = refl
is_number_lem false value = refl

value_of_lem : (kind : Bool) (value : ℕ) → value_of (property_of kind value) ≡ value
value_of_lem true value = refl
value_of_lem false value = refl

module _ (s : List ℕ) (bytes : All (λ b. b < 256) s) where
  byte_stands : (at : ℕ) → HoldsAfter (λ b next. (b < 256) × Stand s at (b ∷ []) next) (read_byte s at)
  unfolding read_byte
  byte_stands at =
      by_cond (HoldsAfter (λ b next. (b < 256) × Stand s at (b ∷ []) next)) (ltb at (length s))
      (λ e.
      let h = ltb_true at (length s) e in
      (all_get_or (λ b. b < 256) s at 0 bytes (omega arith), record { here = rw (add-one, drop-cons s at 0); place = refl }))
      (λ e. tt)

  pub number_stands : (n : ℕ) → Written (number_bytes n) s (read_number n)
  unfolding read_number number_bytes
  number_stands zero at = stand_none s at
  number_stands (suc n) at =
      after_then _ _ (read_byte s at) _ (byte_stands at) (λ low next first.
      after_mapped (λ x end. Stand s next (number_bytes n x) end) (λ x end. Stand s at (number_bytes (suc n) x) end)
      (λ high. low + 256 * high) (read_number n s next) (number_stands n next)
      (λ high end rest. rw (low_byte low high first.0, high_bytes low high first.0) (stand_then first.1 rest)))

  -- a number that was tested against its range
  pub within_stands : (least most n at : ℕ)
      → HoldsAfter (λ x next. (x ≤ most) × Stand s at (number_bytes n x) next) (read_within least most (read_number n) s at)
  unfolding read_within
  within_stands least most n at =
      after_then (λ x next. Stand s at (number_bytes n x) next) _ (read_number n s at) _ (number_stands n at) (λ x next h.
      by_cond (HoldsAfter (λ y end. (y ≤ most) × Stand s at (number_bytes n y) end)) (leb least x && leb x most)
      (λ e. (leb→le x most (test_passes (and_second (leb least x) (leb x most) e)), h)) (λ e. tt))

  pub mark_stands : (mark : ℕ) → Written (λ _. u16 mark) s (read_mark mark)
  unfolding read_mark
  mark_stands mark at =
      after_then (λ x next. Stand s at (u16 x) next) _ (read_number 2 s at) _ (number_stands 2 at) (λ x next h.
      by_cond (HoldsAfter (λ _ end. Stand s at (u16 mark) end)) (eqb x mark)
      (λ e. rw (← eqb-true x mark e) h) (λ e. tt))

  pub flag_stands : Written (λ b. u8 (flag b)) s read_flag
  unfolding read_flag
  flag_stands at =
      after_mapped _ (λ b next. Stand s at (u8 (flag b)) next) (λ x. eqb x 1) (read_within 0 1 read_u8 s at) (within_stands 0 1 1 at)
      (λ x next h. rw (flag_number x h.0) h.1)

  pub id_stands : Written (λ (i : BlockId). u32 i.0) s read_block_id
  id_stands at = after_mapped _ (λ i next. Stand s at (u32 i.0) next) block_id (read_number 4 s at) (number_stands 4 at) (λ x next h. h)

  -- Records.

  pub entry_stands : (w : ℕ) → Written (entry_bytes w) s (read_entry w)
  unfolding read_entry
  entry_stands w at =
      after_then _ _ (read_flag s at) _ (flag_stands at) (λ optional kind_at o.
      after_then _ _ (read_flag s kind_at) _ (flag_stands kind_at) (λ kind value_at k.
      after_then _ _ (read_number 8 s value_at) _ (number_stands 8 value_at) (λ value span_at v.
      after_then _ (λ e next. Stand s at (entry_bytes w e) next) (read_number w s span_at) _ (number_stands w span_at) (λ span next h.
      simp (is_number_lem, value_of_lem) (stand_then (stand_then (stand_then o k) v) h)))))

  fields_stand : (w : ℕ) → Written (path_field_bytes w) s (read_path_fields w)
  unfolding read_path_fields path_field_bytes
  fields_stand w at =
      after_then _ _ (read_number 4 s at) _ (number_stands 4 at) (λ identifier reactive_at i.
      after_then _ _ (read_flag s reactive_at) _ (flag_stands reactive_at) (λ reactive span_at r.
      after_then _ _ (read_number w s span_at) _ (number_stands w span_at) (λ span count_at h.
      after_then _ _ (read_within 0 16 read_u8 s count_at) _ (within_stands 0 16 1 count_at) (λ count entries_at c.
      after_mapped _ (λ d next. Stand s at (path_field_bytes w d) next) _ (read_many count (read_entry w) s entries_at)
      (many_stand (entry_bytes w) s (read_entry w) (entry_stands w) count entries_at) (λ es next e.
      rw e.0 (stand_then (stand_then (stand_then (stand_then i r) h) c.1) e.1))))))

  pub path_stands : (w mark : ℕ) → Written (path_bytes w mark) s (read_path w mark)
  unfolding read_path path_bytes
  path_stands w mark at =
      after_then _ (λ d next. Stand s at (path_bytes w mark d) next) (read_mark mark s at) _ (mark_stands mark at) (λ _ fields_at m.
      after_all (λ d next. Stand s fields_at (path_field_bytes w d) next) _ (read_path_fields w s fields_at) (fields_stand w fields_at)
      (λ d next f. stand_then m f))

  start_stands : Written u32 s read_range_start
  unfolding read_range_start
  start_stands at =
      after_then (λ x next. Stand s at (u32 x) next) _ (read_number 4 s at) _ (number_stands 4 at) (λ x next h.
      by_cond (HoldsAfter (λ y end. Stand s at (u32 y) end)) (eqb x largest_start) (λ e. tt) (λ e. h))

  pub raw_read_stands : (w : ℕ) → Written (raw_read_bytes w) s (read_raw_read w)
  unfolding read_raw_read raw_read_bytes
  raw_read_stands w at =
      after_then _ _ (read_mark RD s at) _ (mark_stands RD at) (λ _ instruction_at m.
      after_then _ _ (read_number 4 s instruction_at) _ (number_stands 4 instruction_at) (λ instruction start_at i.
      after_then _ _ (read_range_start s start_at) _ (start_stands start_at) (λ start end_at a.
      after_then _ _ (read_number 4 s end_at) _ (number_stands 4 end_at) (λ end has_scope_at e.
      after_then _ _ (read_flag s has_scope_at) _ (flag_stands has_scope_at) (λ has_scope scope_start_at h.
      after_then _ _ (read_number 4 s scope_start_at) _ (number_stands 4 scope_start_at) (λ scope_start scope_end_at b.
      after_then _ _ (read_number 4 s scope_end_at) _ (number_stands 4 scope_end_at) (λ scope_end known_at c.
      after_then _ _ (read_flag s known_at) _ (flag_stands known_at) (λ known fields_at k.
      after_mapped _ (λ r next. Stand s at (raw_read_bytes w r) next) _ (read_path_fields w s fields_at) (fields_stand w fields_at)
      (λ d next f.
      stand_then (stand_then (stand_then (stand_then (stand_then (stand_then (stand_then (stand_then m i) a) e) h) b) c) k) f)))))))))

  pub block_stands : (w : ℕ) → Written (block_bytes w) s (read_block w)
  unfolding read_block block_bytes
  block_stands w at =
      after_then _ _ (read_mark BL s at) _ (mark_stands BL at) (λ _ id_at m.
      after_then _ _ (read_block_id s id_at) _ (id_stands id_at) (λ id count_at i.
      after_then _ _ (read_within 0 64 read_u8 s count_at) _ (within_stands 0 64 1 count_at) (λ predecessors assumed_at p.
      after_then _ _ (read_u8 s assumed_at) _ (number_stands 1 assumed_at) (λ assumed raw_at a.
      after_then _ _ (read_u8 s raw_at) _ (number_stands 1 raw_at) (λ raw ids_at r.
      after_then _ _ (read_many predecessors read_block_id s ids_at) _
      (many_stand (λ (i : BlockId). u32 i.0) s read_block_id id_stands predecessors ids_at) (λ ids reads_at is.
      after_then _ _ (read_many raw (read_raw_read w) s reads_at) _
      (many_stand (raw_read_bytes w) s (read_raw_read w) (raw_read_stands w) raw reads_at) (λ reads paths_at rs.
      after_mapped _ (λ b next. Stand s at (block_bytes w b) next) _ (read_many assumed (read_path w PA) s paths_at)
      (many_stand (path_bytes w PA) s (read_path w PA) (path_stands w PA) assumed paths_at) (λ paths next ps.
      rw (is.0, rs.0, ps.0)
      (stand_then
      (stand_then (stand_then (stand_then (stand_then (stand_then (stand_then m i) p.1) a) r) is.1) rs.1) ps.1)))))))))

  pub header_stands : (head : ℕ) → Written (header_bytes head) s (read_header head)
  unfolding read_header
  header_stands head at =
      after_then _ _ (read_mark head s at) _ (mark_stands head at) (λ _ blocks_at m.
      after_then _ _ (read_within 1 128 read_u16 s blocks_at) _ (within_stands 1 128 2 blocks_at) (λ blocks candidates_at b.
      after_then _ _ (read_within 0 64 read_u16 s candidates_at) _ (within_stands 0 64 2 candidates_at) (λ candidates scope_at c.
      after_then _ (λ h next. Stand s at (header_bytes head h) next) (read_block_id s scope_at) _ (id_stands scope_at) (λ scope next i.
      stand_then (stand_then (stand_then m b.1) c.1) i))))

  parts_stand : (head w : ℕ) → Written (job_bytes head w) s (read_parts head w)
  unfolding job_bytes
  parts_stand head w at =
      after_then _ _ (read_header head s at) _ (header_stands head at) (λ header blocks_at h.
      after_then _ _ (read_many header.blocks (read_block w) s blocks_at) _
      (many_stand (block_bytes w) s (read_block w) (block_stands w) header.blocks blocks_at) (λ blocks candidates_at b.
      after_then _ (λ j next. Stand s at (job_bytes head w j) next) (read_many header.candidates (read_path w CA) s candidates_at) _
      (many_stand (path_bytes w CA) s (read_path w CA) (path_stands w CA) header.candidates candidates_at) (λ candidates next c.
      rw (b.0, c.0) (stand_then (stand_then h b.1) c.1))))

  -- the job's bytes are all there are
  abbrev Whole : ℕ → ℕ → Job → ℕ → Type 0
  Whole head w j next = (s ≡ job_bytes head w j) × (next ≡ length s)

  records_whole : (head w : ℕ) → HoldsAfter (Whole head w) (read_records head w s)
  records_whole head w =
      rw records_parts
      (after_then (λ j next. Stand s 0 (job_bytes head w j) next) (Whole head w) (read_parts head w s 0) (ends_there s)
      (parts_stand head w 0)
      (λ j next h. by_cond (HoldsAfter (Whole head w)) (eqb next (length s))
      (λ e. let end = eqb-true next (length s) e in (h.here ∙ rw (end, drop-length, append-nil), end)) (λ e. tt)))

  job_whole : (head w : ℕ) → HoldsAfter (Whole head w) (read_job head w s)
  unfolding read_job
  job_whole head w =
      after_then (Whole head w) (Whole head w) (read_records head w s) accept_ids (records_whole head w)
      (λ j next h. ids_let_through (Whole head w) j next (λ r u. h))

  -- The same of a value that was read.

  pub path_written : (w mark at : ℕ) {d : ReactiveScopeDependency} {next : ℕ} → read_path w mark s at ≡ got d next
      → Stand s at (path_bytes w mark d) next
  path_written w mark = written_got (path_bytes w mark) s (read_path w mark) (path_stands w mark)

  pub paths_written : (w mark n at : ℕ) {ds : List ReactiveScopeDependency} {next : ℕ} → read_many n (read_path w mark) s at ≡ got ds next
      → Stand s at (concat_map (path_bytes w mark) ds) next
  paths_written w mark = many_written (path_bytes w mark) s (read_path w mark) (path_stands w mark)

  pub raw_reads_written : (w n at : ℕ) {rs : List RawRead} {next : ℕ} → read_many n (read_raw_read w) s at ≡ got rs next
      → Stand s at (concat_map (raw_read_bytes w) rs) next
  raw_reads_written w = many_written (raw_read_bytes w) s (read_raw_read w) (raw_read_stands w)

  pub ids_written : (n at : ℕ) {ids : List BlockId} {next : ℕ} → read_many n read_block_id s at ≡ got ids next
      → Stand s at (concat_map (λ (i : BlockId). u32 i.0) ids) next
  ids_written = many_written (λ i. u32 i.0) s read_block_id id_stands

  pub block_written : (w at : ℕ) {b : Block} {next : ℕ} → read_block w s at ≡ got b next → Stand s at (block_bytes w b) next
  block_written w = written_got (block_bytes w) s (read_block w) (block_stands w)

  pub blocks_written : (w n at : ℕ) {bs : List Block} {next : ℕ} → read_many n (read_block w) s at ≡ got bs next
      → Stand s at (concat_map (block_bytes w) bs) next
  blocks_written w = many_written (block_bytes w) s (read_block w) (block_stands w)

  pub header_written : (head at : ℕ) {h : Header} {next : ℕ} → read_header head s at ≡ got h next → Stand s at (header_bytes head h) next
  header_written head = written_got (header_bytes head) s (read_header head) (header_stands head)

pub job_written : (head w : ℕ) (s : List ℕ) → All (λ b. b < 256) s → (j : Job) (end : ℕ) → read_job head w s ≡ got j end
    → s ≡ job_bytes head w j
job_written head w s bytes j end e = (after_got (Whole s bytes head w) (job_whole s bytes head w) e).0

-- the reading of a job ends where the bytes end
pub job_end : (head w : ℕ) (s : List ℕ) → All (λ b. b < 256) s → (j : Job) (end : ℕ) → read_job head w s ≡ got j end → end ≡ length s
job_end head w s bytes j end e = (after_got (Whole s bytes head w) (job_whole s bytes head w) e).1

-- A job that was read is read again from the bytes written for it.
pub job_reads_again : (head w : ℕ) (s : List ℕ) → All (λ b. b < 256) s → (j : Job) (end : ℕ) → read_job head w s ≡ got j end
    → read_job head w (job_bytes head w j) ≡ got j (length (job_bytes head w j))
job_reads_again head w s bytes j end e =
    rw (← job_written head w s bytes j end e) (e ∙ ap (got j) (job_end head w s bytes j end e))

-- Reading and writing are inverse: bytes read to a job if and only if it is one that refusals 3 to
-- 8 and 10 let through and they are its bytes. The reading ends where they end.
pub read_written_inverse : (head w : ℕ) (s : List ℕ) (j : Job)
    → (All (λ b. b < 256) s → (end : ℕ) → read_job head w s ≡ got j end
    → Acceptable w j × (s ≡ job_bytes head w j) × (end ≡ length s))
    × (head < 256 ^ 2 → Acceptable w j → s ≡ job_bytes head w j → read_job head w s ≡ got j (length s))
read_written_inverse head w s j = (
  λ bytes end e. (read_acceptable head w s bytes j end e, job_written head w s bytes j end e, job_end head w s bytes j end e),
  λ m a is. rw is (job_reads head w j m a.fits a.no_repeat a.no_unknown),
)

-- Reading a job refuses by 3 to 8 and 10 only.
use Prim.Native.Nat.{ℕ, zero, suc, ◌≤◌}
use Rattle.std.proofs.Common.{arith}
use Rattle.std.specs.Prelude.{◌≡◌, Bool, true, false, ◌&&◌, cond, List, length, eqb, ltb}
use Rattle.std.proofs.Math.Dec.{leb}
use Rattle.entries.specs.declared.Refusal.{Refusal}
use Rattle.entries.specs.Refusals.{refusal_number}
use Rattle.model.specs.ReadingBytes.{
  Read,
  got,
  refused,
  ByteReader,
  and_then,
  mapped,
  read_many,
  read_byte,
  read_number,
  read_u8,
  read_u16,
  read_mark,
  read_within,
  read_flag,
}
use Rattle.model.specs.Job.{
  BL,
  PA,
  RD,
  CA,
  read_entry,
  read_path_fields,
  read_path,
  largest_start,
  read_range_start,
  read_raw_read,
  read_block_id,
  read_block,
  read_header,
  read_records,
  has_repeat,
  has_unknown,
  accept_ids,
  read_job,
}

-- 3 to 8, or 10
abbrev pub OfReading : Refusal → Type 0
OfReading r = (3 ≤ refusal_number r) × (refusal_number r ≤ 10) × (refusal_number r ≡ 9 → ⊥)

-- a value, or a refusal by one of these
abbrev ByReading : {A : Type 0} → Read A → Type 0
ByReading (got a next) = Unit {0}
ByReading (refused r) = OfReading r

then_by : {A B : Type 0} (x : Read A) (k : A → ℕ → Read B) → ByReading x → ((a : A) (next : ℕ) → ByReading (k a next))
    → ByReading (and_then x k)
then_by (got a next) k h f = f a next
then_by (refused r) k h f = h

mapped_by : {A B : Type 0} (f : A → B) (x : Read A) → ByReading x → ByReading (mapped f x)
mapped_by f (got a next) h = tt
mapped_by f (refused r) h = h

cond_by : {A : Type 0} (b : Bool) (x y : Read A) → ByReading x → ByReading y → ByReading (cond b x y)
cond_by true x y h g = h
cond_by false x y h g = g

module _ (s : List ℕ) where
  many_by : {A : Type 0} (read : ByteReader A) → ((at : ℕ) → ByReading (read s at)) → (n at : ℕ) → ByReading (read_many n read s at)
  many_by read h zero at = tt
  many_by read h (suc n) at = then_by (read s at) _ (h at) (λ a next. mapped_by _ (read_many n read s next) (many_by read h n next))

  byte_by : (at : ℕ) → ByReading (read_byte s at)
  unfolding read_byte
  byte_by at = cond_by (ltb at (length s)) _ _ tt (omega arith)

  number_by : (n at : ℕ) → ByReading (read_number n s at)
  unfolding read_number
  number_by zero at = tt
  number_by (suc n) at = then_by (read_byte s at) _ (byte_by at) (λ low next. mapped_by _ (read_number n s next) (number_by n next))

  mark_by : (mark at : ℕ) → ByReading (read_mark mark s at)
  unfolding read_mark
  mark_by mark at = then_by (read_u16 s at) _ (number_by 2 at) (λ found next. cond_by (eqb found mark) _ _ tt (omega arith))

  within_by : (least most n at : ℕ) → ByReading (read_within least most (read_number n) s at)
  unfolding read_within
  within_by least most n at = then_by (read_number n s at) _ (number_by n at)
      (λ found next. cond_by (leb least found && leb found most) _ _ tt (omega arith))

  flag_by : (at : ℕ) → ByReading (read_flag s at)
  unfolding read_flag
  flag_by at = mapped_by _ (read_within 0 1 read_u8 s at) (within_by 0 1 1 at)

  entry_by : (w at : ℕ) → ByReading (read_entry w s at)
  unfolding read_entry
  entry_by w at =
      then_by (read_flag s at) _ (flag_by at) (λ optional kind_at.
      then_by (read_flag s kind_at) _ (flag_by kind_at) (λ kind value_at.
      then_by (read_number 8 s value_at) _ (number_by 8 value_at) (λ value span_at.
      then_by (read_number w s span_at) _ (number_by w span_at) (λ span next. tt))))

  fields_by : (w at : ℕ) → ByReading (read_path_fields w s at)
  unfolding read_path_fields
  fields_by w at =
      then_by (read_number 4 s at) _ (number_by 4 at) (λ identifier reactive_at.
      then_by (read_flag s reactive_at) _ (flag_by reactive_at) (λ reactive span_at.
      then_by (read_number w s span_at) _ (number_by w span_at) (λ span count_at.
      then_by (read_within 0 16 read_u8 s count_at) _ (within_by 0 16 1 count_at) (λ count entries_at.
      mapped_by _ (read_many count (read_entry w) s entries_at) (many_by (read_entry w) (entry_by w) count entries_at)))))

  path_by : (w mark at : ℕ) → ByReading (read_path w mark s at)
  unfolding read_path
  path_by w mark at = then_by (read_mark mark s at) _ (mark_by mark at) (λ _ fields_at. fields_by w fields_at)

  start_by : (at : ℕ) → ByReading (read_range_start s at)
  unfolding read_range_start
  start_by at = then_by (read_number 4 s at) _ (number_by 4 at) (λ found next. cond_by (eqb found largest_start) _ _ (omega arith) tt)

  raw_read_by : (w at : ℕ) → ByReading (read_raw_read w s at)
  unfolding read_raw_read
  raw_read_by w at =
      then_by (read_mark RD s at) _ (mark_by RD at) (λ _ instruction_at.
      then_by (read_number 4 s instruction_at) _ (number_by 4 instruction_at) (λ instruction start_at.
      then_by (read_range_start s start_at) _ (start_by start_at) (λ start end_at.
      then_by (read_number 4 s end_at) _ (number_by 4 end_at) (λ end has_scope_at.
      then_by (read_flag s has_scope_at) _ (flag_by has_scope_at) (λ has_scope scope_start_at.
      then_by (read_number 4 s scope_start_at) _ (number_by 4 scope_start_at) (λ scope_start scope_end_at.
      then_by (read_number 4 s scope_end_at) _ (number_by 4 scope_end_at) (λ scope_end known_at.
      then_by (read_flag s known_at) _ (flag_by known_at) (λ known fields_at.
      mapped_by _ (read_path_fields w s fields_at) (fields_by w fields_at)))))))))

  id_by : (at : ℕ) → ByReading (read_block_id s at)
  id_by at = mapped_by _ (read_number 4 s at) (number_by 4 at)

  block_by : (w at : ℕ) → ByReading (read_block w s at)
  unfolding read_block
  block_by w at =
      then_by (read_mark BL s at) _ (mark_by BL at) (λ _ id_at.
      then_by (read_block_id s id_at) _ (id_by id_at) (λ id count_at.
      then_by (read_within 0 64 read_u8 s count_at) _ (within_by 0 64 1 count_at) (λ predecessors assumed_at.
      then_by (read_u8 s assumed_at) _ (number_by 1 assumed_at) (λ assumed raw_at.
      then_by (read_u8 s raw_at) _ (number_by 1 raw_at) (λ raw ids_at.
      then_by (read_many predecessors read_block_id s ids_at) _ (many_by read_block_id id_by predecessors ids_at) (λ ids reads_at.
      then_by (read_many raw (read_raw_read w) s reads_at) _ (many_by (read_raw_read w) (raw_read_by w) raw reads_at) (λ reads next.
      mapped_by _ (read_many assumed (read_path w PA) s next) (many_by (read_path w PA) (path_by w PA) assumed next))))))))

  header_by : (mark at : ℕ) → ByReading (read_header mark s at)
  unfolding read_header
  header_by mark at =
      then_by (read_mark mark s at) _ (mark_by mark at) (λ _ blocks_at.
      then_by (read_within 1 128 read_u16 s blocks_at) _ (within_by 1 128 2 blocks_at) (λ blocks candidates_at.
      then_by (read_within 0 64 read_u16 s candidates_at) _ (within_by 0 64 2 candidates_at) (λ candidates scope_at.
      then_by (read_block_id s scope_at) _ (id_by scope_at) (λ scope next. tt))))

  records_by : (head w : ℕ) → ByReading (read_records head w s)
  unfolding read_records
  records_by head w =
      then_by (read_header head s 0) _ (header_by head 0) (λ header blocks_at.
      then_by (read_many header.blocks (read_block w) s blocks_at) _ (many_by (read_block w) (block_by w) header.blocks blocks_at)
      (λ blocks candidates_at.
      then_by (read_many header.candidates (read_path w CA) s candidates_at) _
      (many_by (read_path w CA) (path_by w CA) header.candidates candidates_at) (λ candidates next.
      cond_by (eqb next (length s)) _ _ tt (omega arith))))

  job_by : (head w : ℕ) → ByReading (read_job head w s)
  unfolding read_job accept_ids
  job_by head w = then_by (read_records head w s) accept_ids (records_by head w)
      (λ j next. cond_by (has_repeat j) _ _ (omega arith) (cond_by (has_unknown j) _ _ (omega arith) tt))

pub reading_refuses : (head w : ℕ) (s : List ℕ) (r : Refusal) → read_job head w s ≡ refused r → OfReading r
reading_refuses head w s r e = rw e at (job_by s head w)

-- Fields of fixed widths: where a record ends that was read.
use Prim.Native.Nat.{ℕ, zero, suc, ◌+◌, ◌*◌, ◌≤◌}
use mathlib.Core.Path.{◌≡◌, refl}
use mathlib.Core.Bool.{Bool, true, false, cond, ◌&&◌}
use mathlib.Core.List.{List}
use native.Mathlib.Omega.{arith}
use native.Mathlib.Nat.{add-zero, mul-zero, mul-suc}
use borrow.Author.Tests.{leb-true, leb-false}
use lib.Dec.{eqb, leb}
use lib.ListN.{length}
use Rattle.entries.specs.declared.Refusal.{Refusal}
use Rattle.entries.specs.declared.Refusal.TheVariants.{WrongMark, OutOfRange, LargestStart}
use Rattle.model.specs.ReadingBytes.{Read, got, refused, ByteReader, and_then, mapped, read_many, read_number, read_mark, read_within, read_flag}
use Rattle.model.specs.Job.{BL, RD, read_block_id, read_entry, largest_start, read_range_start}
use Rattle.model.specs.Tests.{decide}
use Rattle.fields.specs.Laws.{number_got, number_missing}
use Rattle.fields.proofs.Steps.{mark_fields, within_fields, flag_fields, start_fields}
use Rattle.job.specs.Head.{read_path_head, read_instruction_and_range, read_scope_and_known, read_raw_head, read_block_head}
use Rattle.job.specs.declared.BlockHead.{BlockHead}
use Rattle.job.proofs.Fields.{entry_fields}

-- a value, if there is one, ends at this place
abbrev pub EndsAt : {A : Type 0} → ℕ → Read A → Type 0
EndsAt end (got a next) = next ≡ end
EndsAt end (refused r) = Unit

pub ended_at : {A : Type 0} (end : ℕ) {x : Read A} {a : A} {n : ℕ} → x ≡ got a n → EndsAt end x → n ≡ end
ended_at end e h = rw e at h

pub ends_then : {A B : Type 0} (m n : ℕ) (x : Read A) (rest : A → ℕ → Read B) → EndsAt m x → ((a : A) → EndsAt n (rest a m)) → EndsAt n (and_then x rest)
ends_then m n (got a k) rest h f = rw h (f a)
ends_then m n (refused r) rest h f = tt

pub ends_mapped : {A B : Type 0} (n : ℕ) (f : A → B) (x : Read A) → EndsAt n x → EndsAt n (mapped f x)
ends_mapped n f (got a k) h = h
ends_mapped n f (refused r) h = tt

ends_tested : {A : Type 0} (n : ℕ) (b : Bool) (a : A) (r : Refusal) → EndsAt n (cond b (got a n) (refused r))
ends_tested n true a r = refl
ends_tested n false a r = tt

pub number_ends : (bytes : ℕ) (s : List ℕ) (at : ℕ) → EndsAt (at + suc bytes) (read_number (suc bytes) s at)
number_ends bytes s at =
    decide (leb (at + suc bytes) (length s))
    (λ t. rw (number_got (suc bytes) s at (leb-true (at + suc bytes) (length s) t)) refl)
    (λ t. rw (number_missing bytes s at (leb-false (at + suc bytes) (length s) t)) tt)

pub mark_ends : (mark : ℕ) (s : List ℕ) (at : ℕ) → EndsAt (at + 2) (read_mark mark s at)
mark_ends mark s at =
    rw mark_fields (ends_then (at + 2) (at + 2) (read_number 2 s at) _ (number_ends 1 s at) (λ found. ends_tested (at + 2) (eqb found mark) tt WrongMark))

pub within_ends : (end least most : ℕ) (read : ByteReader ℕ) (s : List ℕ) (at : ℕ) → EndsAt end (read s at) → EndsAt end (read_within least most read s at)
within_ends end least most read s at h =
    rw within_fields (ends_then end end (read s at) _ h (λ found. ends_tested end (leb least found && leb found most) found OutOfRange))

pub flag_ends : (s : List ℕ) (at : ℕ) → EndsAt (at + 1) (read_flag s at)
flag_ends s at = rw flag_fields
    (ends_mapped (at + 1) _ (read_within 0 1 (read_number 1) s at) (within_ends (at + 1) 0 1 (read_number 1) s at (number_ends 0 s at)))

pub id_ends : (s : List ℕ) (at : ℕ) → EndsAt (at + 4) (read_block_id s at)
id_ends s at = ends_mapped (at + 4) _ (read_number 4 s at) (number_ends 3 s at)

-- a block's predecessors start 9 bytes after its start
pub block_head_ends : (s : List ℕ) (at : ℕ) → EndsAt (at + 9) (read_block_head s at)
unfolding read_block_head
block_head_ends s at =
    let e : at + 2 + 4 + 1 + 1 + 1 ≡ at + 9 = omega arith in
    ends_then (at + 2) (at + 9) (read_mark BL s at) _ (mark_ends BL s at) (λ _.
    ends_then (at + 2 + 4) (at + 9) (read_block_id s (at + 2)) _ (id_ends s (at + 2)) (λ id.
    ends_then (at + 2 + 4 + 1) (at + 9) (read_within 0 64 (read_number 1) s (at + 2 + 4)) _
    (within_ends (at + 2 + 4 + 1) 0 64 (read_number 1) s (at + 2 + 4) (number_ends 0 s (at + 2 + 4))) (λ count.
    ends_then (at + 2 + 4 + 1 + 1) (at + 9) (read_number 1 s (at + 2 + 4 + 1)) _ (number_ends 0 s (at + 2 + 4 + 1)) (λ assumed.
    ends_then (at + 2 + 4 + 1 + 1 + 1) (at + 9) (read_number 1 s (at + 2 + 4 + 1 + 1)) _ (number_ends 0 s (at + 2 + 4 + 1 + 1)) (λ reads. e)))))

-- and no later than at the job's end
abbrev EndsIn : {A : Type 0} → List ℕ → Read A → Type 0
EndsIn s (got a next) = next ≤ length s
EndsIn s (refused r) = Unit

ends_in_after : {A B : Type 0} (s : List ℕ) (x : Read A) (rest : A → ℕ → Read B) → ((a : A) (n : ℕ) → EndsIn s (rest a n)) → EndsIn s (and_then x rest)
ends_in_after s (got a n) rest f = f a n
ends_in_after s (refused r) rest f = tt

ends_in_last : {A B : Type 0} (s : List ℕ) (x : Read A) (f : A → B) → EndsIn s x → EndsIn s (and_then x (λ a n. got (f a) n))
ends_in_last s (got a n) f h = h
ends_in_last s (refused r) f h = tt

number_ends_in : (bytes : ℕ) (s : List ℕ) (at : ℕ) → EndsIn s (read_number (suc bytes) s at)
number_ends_in bytes s at =
    decide (leb (at + suc bytes) (length s))
    (λ t.
    let fits = leb-true (at + suc bytes) (length s) t in
    rw (number_got (suc bytes) s at fits) fits)
    (λ t. rw (number_missing bytes s at (leb-false (at + suc bytes) (length s) t)) tt)

block_head_ends_in : (s : List ℕ) (at : ℕ) → EndsIn s (read_block_head s at)
unfolding read_block_head
block_head_ends_in s at =
    ends_in_after s (read_mark BL s at) _ (λ _ id_at.
    ends_in_after s (read_block_id s id_at) _ (λ id count_at.
    ends_in_after s (read_within 0 64 (read_number 1) s count_at) _ (λ count assumed_at.
    ends_in_after s (read_number 1 s assumed_at) _ (λ assumed raw_at.
    ends_in_last s (read_number 1 s raw_at) _ (number_ends_in 0 s raw_at)))))

pub block_head_within : (s : List ℕ) (at : ℕ) {head : BlockHead} {n : ℕ} → read_block_head s at ≡ got head n → n ≤ length s
block_head_within s at e = rw e at (block_head_ends_in s at)

-- a path's entries start 10 bytes after its head's start, 12 after its mark
pub path_head_ends : (s : List ℕ) (at : ℕ) → EndsAt (at + 10) (read_path_head s at)
unfolding read_path_head
path_head_ends s at =
    let e : at + 4 + 1 + 4 + 1 ≡ at + 10 = omega arith in
    ends_then (at + 4) (at + 10) (read_number 4 s at) _ (number_ends 3 s at) (λ identifier.
    ends_then (at + 4 + 1) (at + 10) (read_flag s (at + 4)) _ (flag_ends s (at + 4)) (λ reactive.
    ends_then (at + 4 + 1 + 4) (at + 10) (read_number 4 s (at + 4 + 1)) _ (number_ends 3 s (at + 4 + 1)) (λ span.
    ends_then (at + 4 + 1 + 4 + 1) (at + 10) (read_within 0 16 (read_number 1) s (at + 4 + 1 + 4)) _
    (within_ends (at + 4 + 1 + 4 + 1) 0 16 (read_number 1) s (at + 4 + 1 + 4) (number_ends 0 s (at + 4 + 1 + 4))) (λ entries. e))))

start_ends : (s : List ℕ) (at : ℕ) → EndsAt (at + 4) (read_range_start s at)
start_ends s at =
    rw start_fields
    (ends_then (at + 4) (at + 4) (read_number 4 s at) _ (number_ends 3 s at) (λ found.
    ends_refused (at + 4) (eqb found largest_start) found LargestStart))
  where
    ends_refused : {A : Type 0} (n : ℕ) (b : Bool) (a : A) (r : Refusal) → EndsAt n (cond b (refused r) (got a n))
    ends_refused n true a r = tt
    ends_refused n false a r = refl

instruction_and_range_ends : (s : List ℕ) (at : ℕ) → EndsAt (at + 14) (read_instruction_and_range s at)
unfolding read_instruction_and_range
instruction_and_range_ends s at =
    let e : at + 2 + 4 + 4 + 4 ≡ at + 14 = omega arith in
    ends_then (at + 2) (at + 14) (read_mark RD s at) _ (mark_ends RD s at) (λ _.
    ends_then (at + 2 + 4) (at + 14) (read_number 4 s (at + 2)) _ (number_ends 3 s (at + 2)) (λ instruction.
    ends_then (at + 2 + 4 + 4) (at + 14) (read_range_start s (at + 2 + 4)) _ (start_ends s (at + 2 + 4)) (λ start.
    ends_then (at + 2 + 4 + 4 + 4) (at + 14) (read_number 4 s (at + 2 + 4 + 4)) _ (number_ends 3 s (at + 2 + 4 + 4)) (λ end. e))))

scope_and_known_ends : (s : List ℕ) (at : ℕ) → EndsAt (at + 10) (read_scope_and_known s at)
unfolding read_scope_and_known
scope_and_known_ends s at =
    let e : at + 1 + 4 + 4 + 1 ≡ at + 10 = omega arith in
    ends_then (at + 1) (at + 10) (read_flag s at) _ (flag_ends s at) (λ has_scope.
    ends_then (at + 1 + 4) (at + 10) (read_number 4 s (at + 1)) _ (number_ends 3 s (at + 1)) (λ start.
    ends_then (at + 1 + 4 + 4) (at + 10) (read_number 4 s (at + 1 + 4)) _ (number_ends 3 s (at + 1 + 4)) (λ end.
    ends_then (at + 1 + 4 + 4 + 1) (at + 10) (read_flag s (at + 1 + 4 + 4)) _ (flag_ends s (at + 1 + 4 + 4)) (λ known. e))))

-- the fields of a raw read's path start 24 bytes after the read's start
pub raw_head_ends : (s : List ℕ) (at : ℕ) → EndsAt (at + 24) (read_raw_head s at)
unfolding read_raw_head
raw_head_ends s at =
    let e : at + 14 + 10 ≡ at + 24 = omega arith in
    ends_then (at + 14) (at + 24) (read_instruction_and_range s at) _ (instruction_and_range_ends s at) (λ range.
    ends_then (at + 14 + 10) (at + 24) (read_scope_and_known s (at + 14)) _ (scope_and_known_ends s (at + 14)) (λ scope. e))

-- "entries of 14 bytes"
pub entry_ends : (s : List ℕ) (at : ℕ) → EndsAt (at + 14) (read_entry 4 s at)
entry_ends s at =
    let e : at + 1 + 1 + 8 + 4 ≡ at + 14 = omega arith in
    rw entry_fields
    (ends_then (at + 1) (at + 14) (read_flag s at) _ (flag_ends s at) (λ optional.
    ends_then (at + 1 + 1) (at + 14) (read_flag s (at + 1)) _ (flag_ends s (at + 1)) (λ kind.
    ends_then (at + 1 + 1 + 8) (at + 14) (read_number 8 s (at + 1 + 1)) _ (number_ends 7 s (at + 1 + 1)) (λ value.
    ends_then (at + 1 + 1 + 8 + 4) (at + 14) (read_number 4 s (at + 1 + 1 + 8)) _ (number_ends 3 s (at + 1 + 1 + 8)) (λ span. e)))))

-- records of one width, one after the other
module _ {A : Type 0} (width : ℕ) (read : ByteReader A) (s : List ℕ) (one : (at : ℕ) → EndsAt (at + width) (read s at)) where
  pub many_ends : (n at : ℕ) → EndsAt (at + width * n) (read_many n read s at)
  many_ends zero at = rw (mul-zero width, add-zero at) refl
  many_ends (suc n) at =
      let end : ℕ = at + width + width * n in
      let e : at + width * suc n ≡ end = rw (mul-suc width n) (omega arith) in
      rw e (ends_then (at + width) end (read s at) _ (one at) (λ a. ends_mapped end _ (read_many n read s (at + width)) (many_ends n (at + width))))

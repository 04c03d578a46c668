-- What holds of every value that a reading can give.
use Prim.Native.Nat.{ℕ, ◌≤◌}
use mathlib.Core.Path.{◌≡◌, refl}
use mathlib.Core.Bool.{Bool, true, false, cond, ◌&&◌}
use mathlib.Core.List.{List}
use borrow.Author.Tests.{leb-true}
use lib.Dec.{leb}
use Rattle.entries.specs.declared.Refusal.{Refusal}
use Rattle.entries.specs.declared.Refusal.TheVariants.{OutOfRange}
use Rattle.model.specs.ReadingBytes.{Read, got, refused, ByteReader, and_then, read_number, read_mark, read_within, read_flag}
use Rattle.model.specs.Job.{BL, Header, read_block_id, read_header}
use Rattle.model.specs.Tests.{and_second}
use Rattle.laws.specs.Fits.{HoldsIfRead, holds_then}
use Rattle.fields.proofs.Steps.{within_fields}
use Rattle.job.specs.Head.{read_path_head, read_block_head}
use Rattle.job.specs.declared.PathHead.{PathHead}
use Rattle.job.specs.declared.BlockHead.{BlockHead}
use Rattle.job.proofs.Fields.{header_fields}

-- where nothing of the first part matters
pub holds_after : {A B : Type 0} (Q : B → Type 0) (x : Read A) (rest : A → ℕ → Read B)
    → ((a : A) (n : ℕ) → HoldsIfRead Q (rest a n)) → HoldsIfRead Q (and_then x rest)
holds_after Q (got a n) rest f = f a n
holds_after Q (refused r) rest f = tt

tested : (P : ℕ → Type 0) (b : Bool) (x n : ℕ) (r : Refusal) → (b ≡ true → P x) → HoldsIfRead P (cond b (got x n) (refused r))
tested P true x n r f = f refl
tested P false x n r f = tt

pub within_most : (least most : ℕ) (read : ByteReader ℕ) (s : List ℕ) (at : ℕ) → HoldsIfRead (λ x. x ≤ most) (read_within least most read s at)
within_most least most read s at =
    rw within_fields
    (holds_after (λ x. x ≤ most) (read s at) _ (λ found next.
    tested (λ x. x ≤ most) (leb least found && leb found most) found next OutOfRange
    (λ h. leb-true found most (and_second (leb least found) (leb found most) h))))

pub blocks_most : (mark : ℕ) (s : List ℕ) (at : ℕ) → HoldsIfRead (λ (h : Header). h.blocks ≤ 128) (read_header mark s at)
blocks_most mark s at =
    let P : Header → Type 0 = λ h. h.blocks ≤ 128 in
    rw header_fields
    (holds_after P (read_mark mark s at) _ (λ _ blocks_at.
    holds_then (λ x. x ≤ 128) P (read_within 1 128 (read_number 2) s blocks_at) _ (within_most 1 128 (read_number 2) s blocks_at) (λ blocks candidates_at few.
    holds_after P (read_within 0 64 (read_number 2) s candidates_at) _ (λ candidates scope_at.
    holds_after P (read_block_id s scope_at) _ (λ scope next. few)))))

pub candidates_most : (mark : ℕ) (s : List ℕ) (at : ℕ) → HoldsIfRead (λ (h : Header). h.candidates ≤ 64) (read_header mark s at)
candidates_most mark s at =
    let P : Header → Type 0 = λ h. h.candidates ≤ 64 in
    rw header_fields
    (holds_after P (read_mark mark s at) _ (λ _ blocks_at.
    holds_after P (read_within 1 128 (read_number 2) s blocks_at) _ (λ blocks candidates_at.
    holds_then (λ x. x ≤ 64) P (read_within 0 64 (read_number 2) s candidates_at) _ (within_most 0 64 (read_number 2) s candidates_at)
    (λ candidates scope_at few.
    holds_after P (read_block_id s scope_at) _ (λ scope next. few)))))

pub predecessors_most : (s : List ℕ) (at : ℕ) → HoldsIfRead (λ (h : BlockHead). h.predecessors ≤ 64) (read_block_head s at)
unfolding read_block_head
predecessors_most s at =
    let P : BlockHead → Type 0 = λ h. h.predecessors ≤ 64 in
    holds_after P (read_mark BL s at) _ (λ _ id_at.
    holds_after P (read_block_id s id_at) _ (λ id count_at.
    holds_then (λ x. x ≤ 64) P (read_within 0 64 (read_number 1) s count_at) _ (within_most 0 64 (read_number 1) s count_at) (λ count assumed_at few.
    holds_after P (read_number 1 s assumed_at) _ (λ assumed raw_at.
    holds_after P (read_number 1 s raw_at) _ (λ raw next. few)))))

pub entries_most : (s : List ℕ) (at : ℕ) → HoldsIfRead (λ (h : PathHead). h.entries ≤ 16) (read_path_head s at)
unfolding read_path_head
entries_most s at =
    let P : PathHead → Type 0 = λ h. h.entries ≤ 16 in
    holds_after P (read_number 4 s at) _ (λ identifier reactive_at.
    holds_after P (read_flag s reactive_at) _ (λ reactive span_at.
    holds_after P (read_number 4 s span_at) _ (λ span entries_at.
    holds_then (λ x. x ≤ 16) P (read_within 0 16 (read_number 1) s entries_at) _ (within_most 0 16 (read_number 1) s entries_at) (λ entries next few. few))))

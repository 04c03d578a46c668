-- The bytes of the blocks: what is to come of them, and that they are those of the job's blocks.
use Prim.Native.Nat.{ℕ, zero, suc, ◌+◌, ◌<◌}
use native.Mathlib.Omega.{arith}
use native.Mathlib.Nat.{zero-add, add-zero}
use mathlib.Core.Path.{◌≡◌, refl, sym, ap, ◌∙◌}
use mathlib.Core.List.{List, [], ◌∷◌, ◌++◌, map, append_assoc, append-nil}
use lib.ListN.{length, get_or, take, length-append, get_or-map}
use lib.Seq.{get_or-take}
use Rattle.entries.specs.declared.BlockId.{BlockId}
use Rattle.model.specs.Job.{Block, ids_of, block_id}
use Rattle.model.specs.Sets.{NodeSet}
use Rattle.model.specs.Answer.{row_bytes, set_bytes}
use Rattle.rows.specs.Rows.{row_of, rows_from, rows_of}
use Rattle.writer.proofs.Bytes.{number_length}
use Rattle.sheet_bytes.specs.Sheet.{set_record, set_records}

row_length : (s : NodeSet) (k n : ℕ) → length (row_bytes s k n) ≡ n
unfolding row_bytes
row_length s k zero = refl
row_length s k (suc n) = ap suc (row_length s (k + 8) n)

pub block_length : (id : BlockId) (s : NodeSet) → length (set_record id s) ≡ 70
block_length id s = simp (length-append, number_length, row_length)

module _ (numbers rows : List ℕ) where
  -- block b + n behind the n blocks from b on
  blocks_last : (n b : ℕ) → set_records numbers rows b n ++ set_record (block_id (get_or numbers (b + n) 0)) (row_of rows (b + n)) ≡ set_records numbers
      rows b (suc n)
  unfolding set_records
  blocks_last zero b = rw (add-zero b) (sym (append-nil (set_record (block_id (get_or numbers b 0)) (row_of rows b))))
  blocks_last (suc n) b =
      let e : b + suc n ≡ suc b + n = omega arith in
      append_assoc (set_record (block_id (get_or numbers b 0)) (row_of rows b)) (set_records numbers rows (suc b) n)
      (set_record (block_id (get_or numbers (b + suc n) 0)) (row_of rows (b + suc n)))
      ∙ ap (λ (ys : List ℕ). set_record (block_id (get_or numbers b 0)) (row_of rows b) ++ ys)
      (ap (λ (k : ℕ). set_records numbers rows (suc b) n ++ set_record (block_id (get_or numbers k 0)) (row_of rows k)) e ∙ blocks_last n (suc b))

  -- the blocks up to b, and block b
  pub blocks_next : (b : ℕ) → set_records numbers rows 0 b ++ set_record (block_id (get_or numbers b 0)) (row_of rows b)
      ≡ set_records numbers rows 0 (b + 1)
  blocks_next b =
      let e : suc b ≡ b + 1 = omega arith in
      ap (λ (k : ℕ). set_records numbers rows 0 b ++ set_record (block_id (get_or numbers k 0)) (row_of rows k)) (sym (zero-add b))
      ∙ blocks_last b 0 ∙ ap (set_records numbers rows 0) e

  pub blocks_none : [] ≡ set_records numbers rows 0 0
  unfolding set_records
  blocks_none = refl

  -- The blocks of a job from block b on.

  blocks_from : (bs : List Block) (b n : ℕ) → length bs ≡ n → ((k : ℕ) → k < n → block_id (get_or numbers (b + k) 0) ≡ get_or (ids_of bs) k (block_id 0))
      → set_records numbers rows b n ≡ set_bytes bs (rows_from rows b n)
  unfolding set_records set_bytes
  blocks_from [] b zero e h = refl
  blocks_from [] b (suc n) e h = absurd (omega arith)
  blocks_from (x ∷ bs) b zero e h = absurd (omega arith)
  blocks_from (x ∷ bs) b (suc n) e h =
      let here : block_id (get_or numbers b 0) ≡ x.id = ap (λ (i : ℕ). block_id (get_or numbers i 0)) (omega arith) ∙ h 0 (omega arith) in
      let rest : set_records numbers rows (suc b) n ≡ set_bytes bs (rows_from rows (suc b) n)
      = blocks_from bs (suc b) n (omega arith) (λ k l. ap (λ (i : ℕ). block_id (get_or numbers i 0)) (omega arith) ∙ h (suc k) (omega arith)) in
      ap (λ (i : BlockId). set_record i (row_of rows b) ++ set_records numbers rows (suc b) n) here ∙ ap
      (λ (ys : List ℕ). set_record x.id (row_of rows b) ++ ys) rest

  pub blocks_are : (bs : List Block) (n : ℕ) → length bs ≡ n → map block_id (take n numbers) ≡ ids_of bs → set_records numbers rows 0 n ≡ set_bytes bs
      (rows_of rows n)
  unfolding rows_of
  blocks_are bs n e ids =
      blocks_from bs 0 n e (λ k l. ap (λ (i : ℕ). block_id (get_or numbers i 0)) (zero-add k)
      ∙ ap block_id (sym (get_or-take n numbers k 0 l))
      ∙ sym (get_or-map block_id (take n numbers) k 0)
      ∙ ap (λ (xs : List BlockId). get_or xs k (block_id 0)) ids)

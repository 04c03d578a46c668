-- The predecessors at a block's place, read again: they are the block's, as many as its head says,
-- and few enough to be stored.
use Prim.Native.Nat.{ℕ}
use mathlib.Core.Path.{◌≡◌, refl, sym, ap, ◌∙◌}
use mathlib.Core.List.{List, ◌∷◌}
use lib.ListN.{length, length-map}
use Rattle.std.specs.Prelude.{Result, Ok, Err, IsOk}
use Rattle.entries.specs.declared.BlockId.{BlockId}
use Rattle.entries.specs.declared.Refusal.{Refusal}
use Rattle.fields.specs.Answer.{got_value}
use Rattle.model.specs.ReadingBytes.{Read, got, refused, and_then, mapped, both, read_many, read_number}
use Rattle.model.specs.Job.{PA, Block, read_block_id, read_path, read_raw_read, read_block, block_id}
use Rattle.laws.specs.Fits.{HoldsIfRead, holds_then, holds_got}
use Rattle.job.specs.Passing.{IsRead, notes, or_none, note_value}
use Rattle.job.specs.Head.{read_block_head}
use Rattle.job.specs.Kept.{block_ids}
use Rattle.job.specs.declared.BlockHead.{BlockHead}
use Rattle.job.proofs.Heads.{block_of, rest_of, block_by_head}
use Rattle.job.proofs.Many.{many_holds, many_length}
use Rattle.job.proofs.Passing.{mapped_got}
use Rattle.job.proofs.ReadAgain.{head_again}
use Rattle.whole_job.specs.Ids.{predecessors_at}

-- the numbers of ids that are read one after the other
numbers_noted : (s : List ℕ) (n at : ℕ) → HoldsIfRead (λ all. block_ids (notes note_value n (read_number 4) s at) ≡ all) (read_many n read_block_id s at)
numbers_noted s =
    many_holds read_block_id s (λ n at all. block_ids (notes note_value n (read_number 4) s at) ≡ all) (λ at. refl)
    (λ n at next a rest e q.
    let number = mapped_got block_id (read_number 4 s at) e in
    rw (number.1, q) (ap (λ (i : BlockId). i ∷ rest) number.2))

holds_both : {A B C : Type 0} (P : A → Type 0) (Q : C → Type 0) (f : A → B → C) → ((a : A) (b : B) → P a → Q (f a b))
    → (x : Read A) (rest : ℕ → Read B) → HoldsIfRead P x → HoldsIfRead Q (both f x rest)
holds_both {B = B} P Q f h (got a n) rest p = any (rest n)
  where
    any : (y : Read B) → HoldsIfRead Q (mapped (f a) y)
    any (got b m) = h a b p
    any (refused r) = tt
holds_both P Q f h (refused r) rest p = tt

-- what holds anyhow holds of a value that was read
all_values : {A : Type 0} (P : Type 0) → P → (x : Read A) → HoldsIfRead (λ a. P) x
all_values P p (got a n) = p
all_values P p (refused r) = tt

-- the predecessors at a block's place are the block's
pub predecessors_are : (s : List ℕ) (at : ℕ) → HoldsIfRead (λ (b : Block). block_ids (predecessors_at s at) ≡ b.predecessors) (read_block 4 s at)
unfolding predecessors_at
predecessors_are s at = rw block_by_head (by_head (read_block_head s at))
  where
    by_head : (x : Read BlockHead)
        → HoldsIfRead
        (λ (b : Block). block_ids (or_none x (λ (head : BlockHead) ids_at. notes note_value head.predecessors (read_number 4) s ids_at)) ≡ b.predecessors)
        (and_then x (λ (head : BlockHead) ids_at.
        and_then (read_many head.predecessors read_block_id s ids_at) (λ ids reads_at. rest_of s head ids reads_at)))
    by_head (got head ids_at) =
        let ids : List BlockId = block_ids (notes note_value head.predecessors (read_number 4) s ids_at) in
        holds_then (λ l. ids ≡ l) (λ (b : Block). ids ≡ b.predecessors) (read_many head.predecessors read_block_id s ids_at) _
        (numbers_noted s head.predecessors ids_at) (λ l reads_at e.
        holds_both (λ reads. ids ≡ l) (λ (b : Block). ids ≡ b.predecessors) (block_of head l) (λ reads paths same. same)
        (read_many head.raw (read_raw_read 4) s reads_at) (read_many head.assumed (read_path 4 PA) s)
        (all_values (ids ≡ l) e (read_many head.raw (read_raw_read 4) s reads_at)))
    by_head (refused r) = tt

-- the head of a block that was read is there
pub head_there : (s : List ℕ) (at : ℕ) (r : Result (BlockHead × ℕ) Refusal) → got_value r ≡ read_block_head s at → IsRead (read_block 4 s at) → IsOk r
head_there s at (Ok x) e b = refl
head_there s at (Err r) e b = head_again s at b (sym e)

-- as many numbers are noted as ids were read
pub count_again : (s : List ℕ) (n at : ℕ) → IsRead (read_many n read_block_id s at) → length (notes note_value n (read_number 4) s at) ≡ n
count_again s n at ids =
    let numbers = notes note_value n (read_number 4) s at in
    sym (length-map numbers block_id)
    ∙ ap length (holds_got (λ all. block_ids numbers ≡ all) ids.read (numbers_noted s n at))
    ∙ many_length read_block_id s n at ids.read

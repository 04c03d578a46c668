-- What was read once can be read again: a block's head and its predecessors, and ids one after the
-- other.
use Prim.Native.Nat.{ℕ, ◌<◌, ◌+◌, ◌-◌}
use mathlib.Core.Path.{◌≡◌, sym, ◌∙◌}
use mathlib.Core.List.{List}
use native.Mathlib.Omega.{arith}
use Rattle.entries.specs.declared.Refusal.{Refusal}
use Rattle.model.specs.ReadingBytes.{got, refused, read_many, read_number}
use Rattle.model.specs.Job.{read_block_id, read_block, block_id}
use Rattle.job.specs.Passing.{IsRead}
use Rattle.job.specs.Head.{read_block_head}
use Rattle.job.specs.declared.BlockHead.{BlockHead}
use Rattle.job.proofs.Passing.{not_both, mapped_got, then_got}
use Rattle.job.proofs.Heads.{block_by_head}
use Rattle.job.proofs.Many.{many_first}

-- the head of a block that was read is no refusal
pub head_again : {B : Type 0} (s : List ℕ) (at : ℕ) {r : Refusal} → IsRead (read_block 4 s at) → read_block_head s at ≡ refused r → B
head_again s at b e = not_both (then_got (read_block_head s at) _ (sym (block_by_head s at) ∙ b.read)).2 e

-- and its predecessors were read
pub ids_again : (s : List ℕ) (at : ℕ) {head : BlockHead} {ids_at : ℕ} → IsRead (read_block 4 s at) → read_block_head s at ≡ got head ids_at
    → IsRead (read_many head.predecessors read_block_id s ids_at)
ids_again s at {head} {ids_at} b e =
    let parts = rw e at (sym (block_by_head s at) ∙ b.read) in
    let t = then_got (read_many head.predecessors read_block_id s ids_at) _ parts in
    record { value = t.0; next = t.1; read = t.2 }

same_place : {A : Type 0} {a b : A} {n m : ℕ} → got a n ≡ got b m → n ≡ m
same_place e = cc

-- ids that were read, from the i-th of n on
module _ (s : List ℕ) (n i at : ℕ) (more : i < n) (ids : IsRead (read_many (n - i) read_block_id s at)) where
  first : (x : ℕ) × (next : ℕ) × (read_number 4 s at ≡ got x next) × IsRead (read_many (n - i - 1) read_block_id s next)
  first =
      let t = many_first read_block_id s (n - i) at (omega arith) ids.read in
      let m = mapped_got block_id (read_number 4 s at) t.3 in
      (m.0, t.1, m.1, record { value = t.2; next = ids.next; read = t.4 })

  -- the first is no refusal, and the others follow it
  pub id_again : {B : Type 0} {r : Refusal} → read_number 4 s at ≡ refused r → B
  id_again e = not_both first.2 e

  pub others_again : {x next : ℕ} → read_number 4 s at ≡ got x next → IsRead (read_many (n - (i + 1)) read_block_id s next)
  others_again e =
      let z : n - i - 1 ≡ n - (i + 1) = omega arith in
      let p : first.1 ≡ _ = same_place (sym first.2 ∙ e) in
      rw (← z, ← p) first.3

-- The ids of the first n blocks, as a list of their own, say what all numbers noted say of them.
use Prim.Native.Nat.{ℕ, zero, suc, ◌+◌, ◌≤◌, ◌<◌}
use native.Mathlib.Omega.{arith}
use mathlib.Core.Path.{◌≡◌, refl, ap, ap₂, ◌∙◌}
use mathlib.Core.List.{List}
use lib.ListN.{length, get_or, take}
use Rattle.std.proofs.lemmas.List.{get_or-take, length-take-le}
use Rattle.entries.specs.declared.BlockId.{BlockId}
use Rattle.model.specs.Job.{read_block_id}
use Rattle.job.specs.Head.{read_block_head}
use Rattle.job.specs.Passing.{or_none, notes}
use Rattle.job.specs.declared.BlockHead.{BlockHead}
use Rattle.edges.specs.Fills.{NotedJob}
use Rattle.edges.proofs.Jobs.{ids_once}
use Rattle.edges.specs.Rows.{ids_from, ids_noted, place_among, IdsOnce, places_noted, row_at, rows_at, RowsFilled}

ids_same : (ids ids' : List ℕ) (k n : ℕ) → ((i : ℕ) → k ≤ i → i < k + n → get_or ids i 0 ≡ get_or ids' i 0) → ids_from ids k n ≡ ids_from ids' k n
ids_same ids ids' k zero same = refl
ids_same ids ids' k (suc n) same =
    rw (same k (omega arith) (omega arith), ids_same ids ids' (suc k) n (λ i l h. same i (omega arith) (omega arith)))

module _ {s ids places : List ℕ} {n : ℕ} (j : NotedJob s ids places n) (told : length ids ≡ 128) {front : List ℕ} (e : front ≡ take n ids) where
  long : n ≤ length ids
  long = let few = j.few in omega arith

  pub front_long : length front ≡ n
  front_long = ap length e ∙ length-take-le n ids long

  front_same : (k : ℕ) → k < n → get_or front k 0 ≡ get_or ids k 0
  front_same k l = ap (λ (xs : List ℕ). get_or xs k 0) e ∙ get_or-take n ids k 0 l

  pub front_noted : ids_noted front (length front) ≡ ids_noted ids n
  unfolding ids_noted
  front_noted = ap (ids_from front 0) front_long ∙ ids_same front ids 0 n (λ k l h. front_same k (omega arith))

  pub front_once : IdsOnce front (length front)
  front_once k l =
      let m = front_long in
      let below : k < n = omega arith in
      ap₂ (λ (xs : List BlockId) (x : ℕ). place_among xs (record { 0 = x })) front_noted (front_same k below)
      ∙ ids_once s ids places n j.job j.blocks j.numbers k below

  front_rows : (b : ℕ) → rows_at s front places (length front) b ≡ rows_at s ids places n b
  unfolding row_at places_noted
  front_rows b =
      ap (λ (xs : List BlockId). or_none (read_block_head s (get_or places b 0))
      (λ (head : BlockHead) at. notes (λ _ i. place_among xs i) head.predecessors read_block_id s at)) front_noted

  pub front_filled : {g h : List ℕ} → RowsFilled (rows_at s front places (length front)) (length front) g h → RowsFilled (rows_at s ids places n) n g h
  front_filled x =
      let m = front_long in
      record {
        long = x.long;
        degree = λ b l. x.degree b (omega arith) ∙ ap length (front_rows b);
        predecessor = λ b i l k.
            let few = ap length (front_rows b) in
            x.predecessor b i (omega arith) (omega arith) ∙ ap (λ (row : List ℕ). get_or row i 0) (front_rows b);
        between = x.between;
      }

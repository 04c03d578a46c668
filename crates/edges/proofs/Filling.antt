-- Rows of predecessors, one block after the other: a row that is stored leaves the rows before it
-- and all between the degrees and the rows as they were.
use Prim.Native.Nat.{ℕ, zero, suc, ◌+◌, ◌*◌, ◌≤◌, ◌<◌}
use native.Mathlib.Omega.{arith}
use native.Mathlib.Decide.{ℕ_discrete}
use mathlib.Core.Path.{◌≡◌, refl, sym, ap, subst, ◌∙◌}
use mathlib.Core.Logic.{◌⊎◌, inl, inr}
use mathlib.Core.List.{List, [], ◌∷◌}
use lib.ListN.{length, get_or, set, length-set}
use lib.Seq.{sets, length-sets, get_or-set_same, get_or-set_other}
use Rattle.model.specs.ReadingBytes.{Read, got, refused}
use Rattle.model.specs.Job.{read_block_id}
use Rattle.job.specs.Head.{read_block_head}
use Rattle.job.specs.Passing.{or_none}
use Rattle.job.specs.declared.BlockHead.{BlockHead}
use Rattle.laws.specs.Fits.{HoldsIfRead}
use Rattle.job.proofs.Bounds.{predecessors_most}
use Rattle.job.proofs.Noting.{notes_few}
use Rattle.graph.specs.Bytes.{degree_in, predecessor_in, RoomFor}
use Rattle.edges.specs.Rows.{ids_noted, place_among, places_noted, row_at, with_row, RowsFilled}

-- An element outside of a list that is stored, and one of it.

pub sets_outside : (vs l : List ℕ) (i j : ℕ) → (j < i) ⊎ (i + length vs ≤ j) → get_or (sets l i vs) j 0 ≡ get_or l j 0
sets_outside [] l i j h = refl
sets_outside (v ∷ vs) l i j (inl h) = sets_outside vs (set l i v) (suc i) j (inl (omega arith)) ∙ get_or-set_other l i j v 0 (λ e. omega arith)
sets_outside (v ∷ vs) l i j (inr h) = sets_outside vs (set l i v) (suc i) j (inr (omega arith)) ∙ get_or-set_other l i j v 0 (λ e. omega arith)

pub sets_inside : (vs l : List ℕ) (i k : ℕ) → i + length vs ≤ length l → k < length vs → get_or (sets l i vs) (i + k) 0 ≡ get_or vs k 0
sets_inside [] l i k room h = absurd (omega arith)
sets_inside (v ∷ vs) l i zero room h =
    let here : i + 0 ≡ i = omega arith in
    ap (λ j. get_or (sets l i (v ∷ vs)) j 0) here ∙ sets_outside vs (set l i v) (suc i) i (inl (omega arith)) ∙ get_or-set_same l i v 0 (omega arith)
sets_inside (v ∷ vs) l i (suc k) room h =
    let there : i + suc k ≡ suc i + k = omega arith in
    let wide = length-set l i v in
    ap (λ j. get_or (sets l i (v ∷ vs)) j 0) there ∙ sets_inside vs (set l i v) (suc i) k (omega arith) (omega arith)

-- A row has at most 64 predecessors.

few_of : (most : ℕ) (x : Read BlockHead) (list : BlockHead → ℕ → List ℕ) → HoldsIfRead (λ (h : BlockHead). h.predecessors ≤ most) x
    → ((a : BlockHead) (n : ℕ) → length (list a n) ≤ a.predecessors) → length (or_none x list) ≤ most
few_of most (got a n) list h f = let l = f a n in omega arith
few_of most (refused r) list h f = omega arith

pub row_few : (s : List ℕ) (at : ℕ) (ids : List ℕ) (n : ℕ) → length (row_at s at ids n) ≤ 64
unfolding row_at places_noted
row_few s at ids n = few_of 64 (read_block_head s at) _ (predecessors_most s at)
    (λ head ids_at. notes_few read_block_id s (λ _ i. place_among (ids_noted ids n) i) head.predecessors ids_at)

-- One row more.

module _ (g : List ℕ) (b : ℕ) (row : List ℕ) (room : RoomFor (b + 1) g) (below : b < 128) (few : length row ≤ 64) where
  wide : length (sets g (2305 + b * 64) row) ≡ length g
  wide = length-sets g (2305 + b * 64) row

  pub with_long : length (with_row g b row) ≡ length g
  with_long = length-set (sets g (2305 + b * 64) row) (1 + b) (length row) ∙ wide

  pub with_degree : degree_in (with_row g b row) b ≡ length row
  with_degree = get_or-set_same (sets g (2305 + b * 64) row) (1 + b) (length row) 0 (let w = wide in omega arith)

  pub with_predecessor : (i : ℕ) → i < length row → predecessor_in (with_row g b row) b i ≡ get_or row i 0
  with_predecessor i h =
      get_or-set_other (sets g (2305 + b * 64) row) (1 + b) (2305 + b * 64 + i) (length row) 0 (λ e. omega arith)
      ∙ sets_inside row g (2305 + b * 64) i (omega arith) h

  pub with_other : (k : ℕ) → (k < 2305 + b * 64) ⊎ (2305 + b * 64 + 64 ≤ k) → (k ≡ 1 + b → ⊥) → get_or (with_row g b row) k 0 ≡ get_or g k 0
  with_other k (inl h) n =
      get_or-set_other (sets g (2305 + b * 64) row) (1 + b) k (length row) 0 n ∙ sets_outside row g (2305 + b * 64) k (inl h)
  with_other k (inr h) n =
      get_or-set_other (sets g (2305 + b * 64) row) (1 + b) k (length row) 0 n ∙ sets_outside row g (2305 + b * 64) k (inr (omega arith))

-- The rows so far.

pub no_rows : (rows : ℕ → List ℕ) (g : List ℕ) → RowsFilled rows 0 g g
no_rows rows g = record {
  long = refl;
  degree = λ b l. absurd (omega arith);
  predecessor = λ b i l h. absurd (omega arith);
  between = λ k h l. refl;
}

module _ (rows : ℕ → List ℕ) (b : ℕ) (g h : List ℕ) (below : b < 128) (room : RoomFor (b + 1) g) (few : (c : ℕ) → length (rows c) ≤ 64)
    (x : RowsFilled rows b g h) where
  room_left : RoomFor (b + 1) h
  room_left = let long = x.long in omega arith

  row_other : (k : ℕ) → (k < 2305 + b * 64) ⊎ (2305 + b * 64 + 64 ≤ k) → (k ≡ 1 + b → ⊥) → get_or (with_row h b (rows b)) k 0 ≡ get_or h k 0
  row_other = with_other h b (rows b) room_left below (few b)

  pub one_row : (k : List ℕ) → k ≡ with_row h b (rows b) → RowsFilled rows (b + 1) g k
  one_row k stored = subst (λ (l : List ℕ). RowsFilled rows (b + 1) g l) (sym stored) (record {
    long = with_long h b (rows b) room_left below (few b) ∙ x.long;
    degree = λ c l. elim (ℕ_discrete c b) [
      | yes e ↦ rw e (with_degree h b (rows b) room_left below (few b))
      | no n ↦ row_other (1 + c) (inl (omega arith)) (λ e. n (omega arith)) ∙ x.degree c (omega (arith, n))
    ];
    predecessor = λ c i l m. elim (ℕ_discrete c b) [
      | yes e ↦ rw e (with_predecessor h b (rows b) room_left below (few b) i (subst (λ d. i < length (rows d)) e m))
      | no n ↦ (
          let most = few c in
          let less : c < b = omega (arith, n) in
          row_other (2305 + c * 64 + i) (inl (omega arith)) (λ e. omega arith)
          ∙ x.predecessor c i less m)
    ];
    between = λ p a l. row_other p (inl (omega arith)) (λ e. omega arith) ∙ x.between p a l;
  })

-- The places noted of predecessors: what is stored from here on with what follows is the whole.
use Prim.Native.Nat.{ℕ, zero, suc, ◌+◌, ◌*◌, ◌-◌, ◌≤◌, ◌<◌}
use native.Mathlib.Omega.{arith}
use native.Mathlib.Nat.{add-zero, zero-add}
use mathlib.Core.Bool.{Bool, true, false, not}
use mathlib.Core.Path.{◌≡◌, refl, sym, ap, ap₂, subst, ◌∙◌}
use mathlib.Core.List.{List, [], ◌∷◌}
use lib.ListN.{length, get_or, set, length-set}
use lib.Seq.{sets}
use Rattle.entries.specs.declared.BlockId.{BlockId}
use Rattle.std.specs.Prelude.{Option, Some, None, cond, eqb, ltb}
use Rattle.std.specs.List.{position, position_or_len}
use Rattle.std.specs.Option.{unwrap_or}
use Rattle.model.specs.Tests.{by_cond, ltb_false}
use Rattle.model.specs.ReadingBytes.{got, read_number}
use Rattle.model.specs.Job.{same_block}
use Rattle.laws.specs.Fits.{holds_got}
use Rattle.id_index.specs.Index.{place_by, leads}
use Rattle.job.specs.Head.{read_block_head}
use Rattle.job.specs.declared.BlockHead.{BlockHead}
use Rattle.job.proofs.Bounds.{predecessors_most}
use Rattle.edges.specs.Rows.{ids_from, ids_noted, place_among, block_among, IdsOnce, places_noted, row_at, with_row}

-- The first place of a number is that of its id, among the ids of all blocks.

ids_shift : (x : ℕ) (xs : List ℕ) (k n : ℕ) → ids_from (x ∷ xs) (suc k) n ≡ ids_from xs k n
ids_shift x xs k zero = refl
ids_shift x xs k (suc n) = ap (λ (l : List BlockId). record { 0 = get_or xs k 0 } ∷ l) (ids_shift x xs (suc k) n)

prefix_place : (t : Bool) {m n : ℕ} → m ≡ n → cond (not t) (1 + m) 0 ≡ cond t 0 (suc n)
prefix_place true e = refl
prefix_place false e = omega arith

pub place_position : (i : BlockId) (ids : List ℕ) → position_or_len (λ x. eqb x i.0) ids ≡ place_among (ids_from ids 0 (length ids)) i
place_position i [] = refl
place_position i (x ∷ xs) =
    prefix_place (eqb x i.0) (place_position i xs ∙ ap (λ (l : List BlockId). place_among l i) (sym (ids_shift x xs 0 (length xs))))

-- Where no id stands twice, the block to which an index leads is the first with the id.
pub place_led : (ids : List ℕ) (n : ℕ) (index : List ℕ) (i : BlockId) {k : ℕ} → IdsOnce ids n → k ≡ place_by ids n index i.0 → k < n
    → k ≡ place_among (ids_noted ids n) i
place_led ids n index i {k} once e l =
    let there : get_or ids k 0 ≡ i.0 = subst (λ k. k < n → get_or ids k 0 ≡ i.0) (sym e) (leads ids n index i.0).there l in
    sym (once k l) ∙ ap (λ x. place_among (ids_noted ids n) (record { 0 = x })) there

-- A place is at most the number of the ids.

place_within : (l : List BlockId) (i : BlockId) → place_among l i ≤ length l
place_within [] i = omega arith
place_within (j ∷ l) i = by_cond (λ p. p ≤ suc (length l)) (same_block j i) (λ e. omega arith) (λ e. let h = place_within l i in omega arith)

ids_count : (ids : List ℕ) (k n : ℕ) → length (ids_from ids k n) ≡ n
ids_count ids k zero = refl
ids_count ids k (suc n) = ap suc (ids_count ids (suc k) n)

pub place_few : (ids : List ℕ) (n : ℕ) {r : ℕ} (i : BlockId) → r ≡ place_among (ids_noted ids n) i → r ≤ n
unfolding ids_noted
place_few ids n {r} i e = let h = place_within (ids_noted ids n) i in let c = ids_count ids 0 n in omega arith

-- A search in all ids finds that place, or is at their end.

pub block_position : (ids : List ℕ) (i : BlockId) → position (λ x. eqb x i.0) ids ≡ block_among (ids_noted ids (length ids)) i
unfolding ids_noted
block_position ids i = ap₂ (λ (k n : ℕ). cond (ltb k n) (Some k) None) (place_position i ids) (sym (ids_count ids 0 (length ids)))

pub among_or_end : (ids : List ℕ) (i : BlockId)
    → unwrap_or (block_among (ids_noted ids (length ids)) i) (length ids) ≡ place_among (ids_noted ids (length ids)) i
unfolding ids_noted
among_or_end ids i =
    let l = ids_from ids 0 (length ids) in
    let within = place_within l i in
    let count = ids_count ids 0 (length ids) in
    by_cond (λ (o : Option ℕ). unwrap_or o (length ids) ≡ place_among l i) (ltb (place_among l i) (length l))
    (λ t. refl) (λ f. let m = ltb_false (place_among l i) (length l) f in omega arith)

-- The places noted.

module _ (s : List ℕ) (ids : List ℕ) (blocks : ℕ) where
  module _ (count i at : ℕ) (some : i < count) where
    again : count - i ≡ suc (count - (i + 1))
    again = omega arith

    pub noted_more : {x next : ℕ} → read_number 4 s at ≡ got x next
        → places_noted s at (count - i) ids blocks ≡ place_among (ids_noted ids blocks) (record { 0 = x }) ∷ places_noted s next (count - (i + 1)) ids blocks
    unfolding places_noted
    noted_more e = rw (again, e)

  pub noted_end : (count i at : ℕ) → count ≤ i → places_noted s at (count - i) ids blocks ≡ []
  unfolding places_noted
  noted_end count i at l = let none : count - i ≡ 0 = omega arith in rw none

-- A list that is left, stored from a place on.
pub record Storing (whole : List ℕ) (from : ℕ) (before now' left : List ℕ) (i : ℕ) : Type 0 where
  pub long : length now' ≡ length before
  pub count : i + length left ≡ length whole
  pub same : sets now' (from + i) left ≡ sets before from whole

pub storing : (whole : List ℕ) (from : ℕ) (g left : List ℕ) → left ≡ whole → Storing whole from g g left 0
storing whole from g left e = record {
  long = refl;
  count = zero-add (length left) ∙ ap length e;
  same = ap (λ k. sets g k left) (add-zero from) ∙ ap (λ (l : List ℕ). sets g from l) e;
}

module _ {whole : List ℕ} {from : ℕ} {before now' left : List ℕ} {i : ℕ} (x : Storing whole from before now' left i) where
  pub storing_end : left ≡ [] → (i ≡ length whole) × (now' ≡ sets before from whole)
  storing_end e =
      (sym (add-zero i) ∙ ap (λ (l : List ℕ). i + length l) (sym e) ∙ x.count, ap (λ (l : List ℕ). sets now' (from + i) l) (sym e) ∙ x.same)

  pub storing_more : {y z : ℕ} {rest : List ℕ} → left ≡ y ∷ rest → z ≡ y → Storing whole from before (set now' (from + i) z) rest (i + 1)
  storing_more {y} {z} {rest} e v =
      let size = ap length e in
      let next : suc (from + i) ≡ from + (i + 1) = omega arith in
      record {
        long = length-set now' (from + i) z ∙ x.long;
        count = let c = x.count in omega (arith, size);
        same = ap (λ k. sets (set now' (from + i) z) k rest) (sym next) ∙ ap (λ z. sets (set now' (from + i) z) (suc (from + i)) rest) v ∙ ap
            (λ (l : List ℕ). sets now' (from + i) l) (sym e) ∙ x.same;
      }

-- The row of the block whose record stands at a place.

pub row_noted : (s : List ℕ) (at : ℕ) (ids : List ℕ) (n : ℕ) {head : BlockHead} {ids_at : ℕ} → read_block_head s at ≡ got head ids_at
    → row_at s at ids n ≡ places_noted s ids_at head.predecessors ids n
unfolding row_at
row_noted s at ids n e = rw e

pub noted_few : (s : List ℕ) (at : ℕ) {head : BlockHead} {ids_at : ℕ} → read_block_head s at ≡ got head ids_at → head.predecessors ≤ 64
noted_few s at e = holds_got (λ (h : BlockHead). h.predecessors ≤ 64) e (predecessors_most s at)

pub row_stored : (g h : List ℕ) (b : ℕ) (row noted : List ℕ) (n : ℕ) → row ≡ noted → n ≡ length noted → h ≡ sets g (2305 + b * 64) noted
    → set h (1 + b) n ≡ with_row g b row
row_stored g h b row noted n same count kept =
    ap (λ (l : List ℕ). set l (1 + b) n) kept
    ∙ ap (λ m. set (sets g (2305 + b * 64) noted) (1 + b) m) count
    ∙ ap (λ (l : List ℕ). with_row g b l) (sym same)

-- The filled bytes as a graph: predecessors are the rows, and successors the blocks, by ascending
-- id, whose rows name a block.
use Prim.Native.Nat.{ℕ, zero, suc, ◌+◌, ◌*◌, ◌-◌, ◌/◌, ◌%◌, ◌≤◌, ◌<◌}
use native.Mathlib.Omega.{arith}
use native.Mathlib.Nat.{zero-add}
use mathlib.Core.Path.{◌≡◌, refl, sym, ap, subst, ◌∙◌}
use mathlib.Core.Logic.{◌⊎◌, inl, inr}
use mathlib.Core.Bool.{Bool, true, false, ◌&&◌, ◌||◌}
use mathlib.Core.List.{List, [], ◌∷◌, map}
use lib.ListN.{length, get_or, set, length-set}
use lib.Seq.{get_or-set_same, get_or-set_other}
use lib.Dec.{eqb, leb, ltb, le→leb, leb→le, lt→ltb}
use Rattle.model.specs.Lists.{select, any_of}
use Rattle.model.specs.ListLaws.{All}
use Rattle.model.specs.Tests.{decide, passes_test, test_passes}
use Rattle.model.specs.Rounds.{places_from}
use Rattle.rows.specs.Members.{bit}
use Rattle.rows.proofs.Words.{zero_bit}
use Rattle.graph.specs.Bytes.{size_in, degree_in, predecessor_in, block_of_rank, is_successor, predecessors_from, successors_from, RoomFor}
use Rattle.graph.proofs.Coming.{none_among}
use Rattle.edges.specs.Rows.{RowsFilled}
use Rattle.edges.specs.Order.{order_from, Ordered}
use Rattle.edges.specs.Successors.{RanksFit, names_as_predecessor, AllMarked}
use Rattle.edges.specs.Fills.{Blank}
use Rattle.edges.proofs.Ordering.{order_more, map_same}

-- Lists by place.

by_place : (f : ℕ → ℕ) (l : List ℕ) (k : ℕ) → ((i : ℕ) → i < length l → f (k + i) ≡ get_or l i 0) → map f (places_from k (length l)) ≡ l
unfolding places_from
by_place f [] k e = refl
by_place f (x ∷ l) k e =
    let here : f k ≡ x = ap f (let z : k ≡ k + 0 = omega arith in z) ∙ e 0 (omega arith) in
    let rest : map f (places_from (suc k) (length l)) ≡ l = by_place f l (suc k)
    (λ i h. ap f (let z : suc k + i ≡ k + suc i = omega arith in z) ∙ e (suc i) (omega arith)) in
    rw (here, rest)

map_select : (f : ℕ → ℕ) (p q : ℕ → Bool) (xs : List ℕ) → All (λ x. p x ≡ q (f x)) xs → map f (select p xs) ≡ select q (map f xs)
map_select f p q [] a = refl
map_select f p q (x ∷ xs) a = decide (p x) (λ t. rw (t, sym a.0 ∙ t) (ap (λ l. f x ∷ l) (map_select f p q xs a.1)))
    (λ e. rw (e, sym a.0 ∙ e) (map_select f p q xs a.1))

places_all : (P : ℕ → Type 0) (k n : ℕ) → ((i : ℕ) → k ≤ i → i < k + n → P i) → All P (places_from k n)
unfolding places_from
places_all P k zero h = tt
places_all P k (suc n) h = (h k (omega arith) (omega arith), places_all P (suc k) n (λ i a b. h i (omega arith) (omega arith)))

within : (a b c : Bool) → a ≡ true → b ≡ true → a && (b && c) ≡ c
within a b c e f = rw (e, f)

-- the block of a rank is one of the order
order_at : (P : ℕ → Type 0) (g : List ℕ) (d first r : ℕ) → first + d ≡ r → r < 128 → All P (order_from g first) → P (block_of_rank g r)
order_at P g zero first r e l a = let here : first ≡ r = omega arith in subst (λ i. P (block_of_rank g i)) here
    (subst (All P) (order_more g first (omega arith)) a).0
order_at P g (suc d) first r e l a = order_at P g d (first + 1) r (omega arith) l (subst (All P) (order_more g first (omega arith)) a).1

module _ (rows : ℕ → List ℕ) (n : ℕ) (order g₀ g₁ g₂ : List ℕ) (most : n ≤ 128) (few : (b : ℕ) → length (rows b) ≤ 64)
    (small : (b i : ℕ) → b < n → get_or (rows b) i 0 < 128)
    (x₁ : RowsFilled rows n g₀ g₁) (x₂ : Ordered g₁ g₂ (128 - n) order) (blank : Blank n g₀) (inside : All (λ j. j < n) order) where
  pub ranked_inside : (r : ℕ) → 128 - n ≤ r → r < 128 → block_of_rank g₂ r < n
  ranked_inside r from r< = order_at (λ j. j < n) g₂ (r - (128 - n)) (128 - n) r (omega arith) r< (subst (All (λ j. j < n)) (sym x₂.ranks) inside)

  degree₂ : (b : ℕ) → b < n → degree_in g₂ b ≡ length (rows b)
  degree₂ b l = x₂.outside (1 + b) (inl (omega arith)) ∙ x₁.degree b l

  predecessor₂ : (b i : ℕ) → b < n → i < length (rows b) → predecessor_in g₂ b i ≡ get_or (rows b) i 0
  predecessor₂ b i l h = let f = few b in x₂.outside (2305 + b * 64 + i) (inr (omega arith)) ∙ x₁.predecessor b i l h

  pub ranks_fit : RanksFit g₂ n
  ranks_fit r from r< =
      let l = ranked_inside r from r< in
      let f = few (block_of_rank g₂ r) in
      let d = degree₂ (block_of_rank g₂ r) l in
      record {
        room = let a = x₁.long in let b = x₂.long in let w = blank.room in omega arith;
        block = omega arith;
        degree = omega arith;
        predecessor = λ i h. rw (predecessor₂ (block_of_rank g₂ r) i l (omega arith)) (small (block_of_rank g₂ r) i l);
      }

  module _ (g₃ : List ℕ) (x₃ : AllMarked g₂ g₃ (128 - n) 128) where
    abbrev g : List ℕ
    g = set g₃ 0 n

    -- the bytes outside the successors' part, behind the size
    before : (p : ℕ) → 0 < p → (p < 257) ⊎ (2305 ≤ p) → get_or g p 0 ≡ get_or g₂ p 0
    before p l o = get_or-set_other g₃ 0 p n 0 (λ e. omega arith) ∙ x₃.outside p o

    length_is : length g₃ ≡ length g₀
    length_is = x₃.long ∙ x₂.long ∙ x₁.long

    pub size_is : size_in g ≡ n
    size_is = get_or-set_same g₃ 0 n 0 (let l = length_is in let w = blank.room in omega arith)

    pub room_is : RoomFor (size_in g) g
    room_is = let l = length_is in let w = blank.room in rw size_is (simp length-set (omega arith))

    pub degree_is : (b : ℕ) → b < n → degree_in g b ≡ length (rows b)
    degree_is b l = before (1 + b) (omega arith) (inl (omega arith)) ∙ degree₂ b l

    pub predecessor_is : (b i : ℕ) → b < n → i < length (rows b) → predecessor_in g b i ≡ get_or (rows b) i 0
    predecessor_is b i l h = let f = few b in before (2305 + b * 64 + i) (omega arith) (inr (omega arith)) ∙ predecessor₂ b i l h

    pub rank_is : (r : ℕ) → r < 128 → block_of_rank g r ≡ block_of_rank g₂ r
    rank_is r l = before (129 + r) (omega arith) (inl (omega arith))

    pub predecessors_are : (b : ℕ) → b < n → predecessors_from g b 0 ≡ rows b
    unfolding predecessors_from
    predecessors_are b l =
        let d : degree_in g b - 0 ≡ length (rows b) = let e = degree_is b l in omega arith in
        ap (λ m. map (predecessor_in g b) (places_from 0 m)) d ∙ by_place (predecessor_in g b) (rows b) 0
        (λ i h. ap (predecessor_in g b) (zero-add i) ∙ predecessor_is b i l h)

    -- Successors.

    no_bits : (b q : ℕ) → b < 128 → q < 128 → is_successor g₂ b q ≡ false
    no_bits b q b< q< =
        let p : ℕ = 257 + b * 16 + q / 8 in
        ap (λ w. bit w (q % 8)) (x₂.outside p (inr (omega arith)) ∙ x₁.between p (omega arith) (omega arith) ∙ blank.zeros p)
        ∙ zero_bit (q % 8)

    predecessors₂ : (b : ℕ) → b < n → predecessors_from g₂ b 0 ≡ rows b
    unfolding predecessors_from
    predecessors₂ b l =
        let d : degree_in g₂ b - 0 ≡ length (rows b) = let e = degree₂ b l in omega arith in
        ap (λ m. map (predecessor_in g₂ b) (places_from 0 m)) d ∙ by_place (predecessor_in g₂ b) (rows b) 0
        (λ i h. ap (predecessor_in g₂ b) (zero-add i) ∙ predecessor₂ b i l h)

    bit_is : (b q : ℕ) → b < 128 → q < 128 → is_successor g b q ≡ leb (128 - n) q && (ltb q 128 && names_as_predecessor g₂ q b)
    bit_is b q b< q< =
        ap (λ w. bit w (q % 8)) (get_or-set_other g₃ 0 (257 + b * 16 + q / 8) n 0 (λ e. omega arith))
        ∙ x₃.bits b q b< q<
        ∙ ap (λ x. x || (leb (128 - n) q && (ltb q 128 && names_as_predecessor g₂ q b))) (no_bits b q b< q<)

    pub bit_below : (b q : ℕ) → b < 128 → q < 128 - n → is_successor g b q ≡ false
    bit_below b q b< l =
        bit_is b q b< (omega arith)
        ∙ ap (λ x. x && (ltb q 128 && names_as_predecessor g₂ q b))
        (decide (leb (128 - n) q) (λ t. let m = leb→le (128 - n) q (test_passes t) in absurd (omega arith)) (λ f. f))

    pub bit_from : (b q : ℕ) → b < 128 → 128 - n ≤ q → q < 128 → is_successor g b q ≡ any_of (eqb b) (rows (block_of_rank g q))
    bit_from b q b< from q< =
        bit_is b q b< q<
        ∙ within (leb (128 - n) q) (ltb q 128) (names_as_predecessor g₂ q b) (passes_test (le→leb (128 - n) q from)) (passes_test (lt→ltb q 128 q<))
        ∙ ap (λ (l : List ℕ). any_of (eqb b) l) (predecessors₂ (block_of_rank g₂ q) (ranked_inside q from q<))
        ∙ ap (λ j. any_of (eqb b) (rows j)) (sym (rank_is q q<))

    order_is : map (block_of_rank g) (places_from (128 - n) (128 - (128 - n))) ≡ order
    unfolding order_from
    order_is = map_same (block_of_rank g) (block_of_rank g₂) (128 - (128 - n)) (128 - n) (λ q a b. rank_is q (omega arith)) ∙ x₂.ranks

    pub successors_are : (b : ℕ) → b < 128 → successors_from g b 0 ≡ select (λ j. any_of (eqb b) (rows j)) order
    unfolding successors_from
    successors_are b b< =
        none_among g b (128 - n) 0 (omega arith) (λ q a l. bit_below b q b< (omega arith))
        ∙ ap (successors_from g b) (zero-add (128 - n))
        ∙ map_select (block_of_rank g) (is_successor g b) (λ j. any_of (eqb b) (rows j)) (places_from (128 - n) (128 - (128 - n)))
        (places_all (λ q. is_successor g b q ≡ any_of (eqb b) (rows (block_of_rank g q))) (128 - n) (128 - (128 - n))
        (λ q a l. bit_from b q b< a (omega arith)))
        ∙ ap (select (λ j. any_of (eqb b) (rows j))) order_is

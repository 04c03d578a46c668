-- What is still to come of a block's neighbours: at a predecessor, at a rank whose bit is set, past
-- ranks whose bits are not, and at the end.
use Prim.Native.Nat.{ℕ, zero, suc, max, ◌+◌, ◌*◌, ◌-◌, ◌/◌, ◌%◌, ◌≤◌, ◌<◌}
use native.Mathlib.Omega.{arith}
use native.Mathlib.Decide.{dec_le}
use native.Mathlib.Numerals.{add-one}
use mathlib.Core.Bool.{Bool, true, false}
use mathlib.Core.Path.{refl, ◌≡◌, sym, ap, ◌∙◌}
use mathlib.Core.List.{List, [], ◌∷◌, map}
use lib.ListN.{length}
use Rattle.model.specs.ListLaws.{All}
use Rattle.model.specs.Tests.{by_cond}
use Rattle.model.specs.Lists.{select}
use Rattle.model.specs.Rounds.{places_from}
use Rattle.rows.specs.Members.{bit}
use Rattle.graph.specs.Bytes.{
  size_in,
  degree_in,
  predecessor_in,
  block_of_rank,
  is_successor,
  predecessors_from,
  successors_from,
  neighbours,
  GraphFits,
  Next,
  HoldsBits,
  NoneBelow,
  LowestAt,
}

-- the places from k to an end
pub places_more : (k n : ℕ) → k < n → places_from k (n - k) ≡ k ∷ places_from (k + 1) (n - (k + 1))
unfolding places_from
places_more k n l = let e : n - k ≡ suc (n - (k + 1)) = omega arith in rw (e, add-one k)

pub places_end : (k n : ℕ) → n ≤ k → places_from k (n - k) ≡ []
unfolding places_from
places_end k n l = let e : n - k ≡ 0 = omega arith in rw e

module _ (g : List ℕ) (b : ℕ) where
  pub predecessor_here : (i : ℕ) → i < degree_in g b → predecessors_from g b i ≡ predecessor_in g b i ∷ predecessors_from g b (i + 1)
  unfolding predecessors_from
  predecessor_here i l = ap (map (predecessor_in g b)) (places_more i (degree_in g b) l)

  pub no_predecessor : (i : ℕ) → degree_in g b ≤ i → predecessors_from g b i ≡ []
  unfolding predecessors_from
  no_predecessor i l = ap (map (predecessor_in g b)) (places_end i (degree_in g b) l)

  successor_here : (r : ℕ) → r < 128 → is_successor g b r ≡ true → successors_from g b r ≡ block_of_rank g r ∷ successors_from g b (r + 1)
  unfolding successors_from
  successor_here r l t = ap (λ (rs : List ℕ). map (block_of_rank g) (select (is_successor g b) rs)) (places_more r 128 l) ∙ rw t

  none_here : (r : ℕ) → r < 128 → is_successor g b r ≡ false → successors_from g b r ≡ successors_from g b (r + 1)
  unfolding successors_from
  none_here r l t = ap (λ (rs : List ℕ). map (block_of_rank g) (select (is_successor g b) rs)) (places_more r 128 l) ∙ rw t

  pub no_successor : (r : ℕ) → 128 ≤ r → successors_from g b r ≡ []
  unfolding successors_from
  no_successor r l = ap (λ (rs : List ℕ). map (block_of_rank g) (select (is_successor g b) rs)) (places_end r 128 l)

  -- n ranks whose bits are not set
  pub none_among : (n r : ℕ) → r + n ≤ 128 → ((j : ℕ) → r ≤ j → j < r + n → is_successor g b j ≡ false) → successors_from g b r ≡ successors_from g b (r + n)
  none_among zero r l h = ap (successors_from g b) (omega arith)
  none_among (suc n) r l h =
      none_here r (omega arith) (h r (omega arith) (omega arith))
      ∙ none_among n (r + 1) (omega arith) (λ j a c. h j (omega arith) (omega arith))
      ∙ ap (successors_from g b) (omega arith)

module _ {g : List ℕ} {b : ℕ} (fits : GraphFits g) (here : b < size_in g) where
  pub predecessor_byte : (i d : ℕ) → d ≡ degree_in g b → i < d → 2305 + b * 64 + i < length g
  predecessor_byte i d e l = let r = fits.room in let h = fits.degree b here in omega arith

  pub predecessor_next : (i d k : ℕ) → d ≡ degree_in g b → i < d → k ≡ predecessor_in g b i → Next g false b i k (i + 1)
  predecessor_next i d k e l found =
      let h = fits.degree b here in
      record {
        inside = rw found (fits.predecessor b i here (omega arith));
        onward = omega arith;
        within = omega arith;
        rest = predecessor_here g b i (omega arith) ∙ rw found;
      }

  -- below the blocks' ranks no bit is set
  pub none_low : (from r : ℕ) → r ≡ max from (128 - size_in g) → successors_from g b from ≡ successors_from g b r
  none_low from r e = elim (dec_le from (128 - size_in g)) [
    | yes l ↦ (
        none_among g b (r - from) from (omega arith) (λ j h less. fits.low b j here (omega arith)) ∙ ap (successors_from g b) (omega arith)
        )
    | no other ↦ ap (successors_from g b) (omega arith)
  ]

  -- the word of rank r
  module _ (r w : ℕ) (small : r < 128) (holds : HoldsBits g b (r / 64) w) where
    in_word : (j : ℕ) → r ≤ j → j < r / 64 * 64 + 64 → is_successor g b j ≡ bit w (j % 64)
    in_word j h l = let e : j ≡ r / 64 * 64 + j % 64 = omega arith in ap (is_successor g b) e ∙ sym (holds (j % 64) (omega arith))

    -- up to bit m of it none is set from that rank on
    pub passed : (m : ℕ) → r % 64 ≤ m → m ≤ 64 → NoneBelow w (r % 64) m → successors_from g b r ≡ successors_from g b (r / 64 * 64 + m)
    passed m a i none =
        none_among g b (r / 64 * 64 + m - r) r (omega arith)
        (λ j h l. in_word j h (omega arith) ∙ none (j % 64) (omega arith) (omega arith))
        ∙ ap (successors_from g b) (omega arith)

    pub successor_next : (start m k : ℕ) → start ≤ r → successors_from g b start ≡ successors_from g b r → LowestAt w (r % 64) m
        → k ≡ block_of_rank g (r / 64 * 64 + m) → Next g true b start k (r / 64 * 64 + m + 1)
    successor_next start m k le same lowest found =
        let a = lowest.above in
        let l = lowest.within in
        let e : (r / 64 * 64 + m) % 64 ≡ m = omega arith in
        let set : is_successor g b (r / 64 * 64 + m) ≡ true = in_word (r / 64 * 64 + m) (omega arith) (omega arith) ∙ rw e lowest.found in
        record {
          inside = rw found (fits.successor b (r / 64 * 64 + m) here (omega arith) set);
          onward = omega arith;
          within = omega arith;
          rest = same ∙ passed m a (omega arith) lowest.none ∙ successor_here g b (r / 64 * 64 + m) (omega arith) set ∙ rw found;
        }

-- All neighbours of a block.

all_places : (P : ℕ → Type 0) (f : ℕ → ℕ) (k n : ℕ) → ((i : ℕ) → k ≤ i → i < k + n → P (f i)) → All P (map f (places_from k n))
unfolding places_from
all_places P f k zero h = tt
all_places P f k (suc n) h = (h k (omega arith) (omega arith), all_places P f (suc k) n (λ i l m. h i (omega arith) (omega arith)))

all_chosen : (P : ℕ → Type 0) (f : ℕ → ℕ) (test : ℕ → Bool) (k n : ℕ) → ((i : ℕ) → i < k + n → test i ≡ true → P (f i))
    → All P (map f (select test (places_from k n)))
unfolding places_from
all_chosen P f test k zero h = tt
all_chosen P f test k (suc n) h =
    let rest = all_chosen P f test (suc k) n (λ i m t. h i (omega arith) t) in
    by_cond (λ (xs : List ℕ). All P (map f xs)) (test k) (λ t. (h k (omega arith) t, rest)) (λ t. rest)

places_count : (f : ℕ → ℕ) (k n : ℕ) → length (map f (places_from k n)) ≡ n
unfolding places_from
places_count f k zero = refl
places_count f k (suc n) = ap suc (places_count f (suc k) n)

chosen_count : (f : ℕ → ℕ) (test : ℕ → Bool) (k n : ℕ) → length (map f (select test (places_from k n))) ≤ n
unfolding places_from
chosen_count f test k zero = omega arith
chosen_count f test k (suc n) =
    let rest = chosen_count f test (suc k) n in
    by_cond (λ (ks : List ℕ). length (map f ks) ≤ suc n) (test k) (λ t. omega arith) (λ t. omega arith)

module _ {g : List ℕ} {b : ℕ} (fits : GraphFits g) (here : b < size_in g) where
  pub neighbours_inside : (backward : Bool) → All (λ k. k < size_in g) (neighbours g backward b)
  unfolding predecessors_from successors_from
  neighbours_inside false = all_places (λ k. k < size_in g) (predecessor_in g b) 0 (degree_in g b - 0) (λ i l m. fits.predecessor b i here (omega arith))
  neighbours_inside true = all_chosen (λ k. k < size_in g) (block_of_rank g) (is_successor g b) 0 128 (λ i m t. fits.successor b i here (omega arith) t)

  pub neighbours_few : (backward : Bool) → length (neighbours g backward b) ≤ 128
  unfolding predecessors_from successors_from
  neighbours_few false =
      let few = fits.degree b here in
      let count = places_count (predecessor_in g b) 0 (degree_in g b - 0) in
      omega arith
  neighbours_few true = chosen_count (block_of_rank g) (is_successor g b) 0 128

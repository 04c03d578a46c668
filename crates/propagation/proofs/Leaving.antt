-- A block is entered and left in the bytes that note the order of a walk, as the definition's visit
-- enters and leaves it.
use Prim.Native.Nat.{ℕ, zero, suc, ◌+◌, ◌-◌, ◌≤◌, ◌<◌}
use native.Mathlib.Omega.{arith}
use mathlib.Core.Path.{◌≡◌, refl, sym, ap, subst, ◌∙◌}
use mathlib.Core.Logic.{◌≢◌}
use mathlib.Core.Bool.{Bool, true, false, cond}
use mathlib.Core.List.{List, [], ◌∷◌, ◌++◌, map}
use lib.ListN.{length, get_or, set, length-set, take, replicate, length-replicate, get_or-map}
use lib.Seq.{get_or-set_same, get_or-set_other, set-get_or, take-set-lt, take-set-le, get_or-take}
use lib.Dec.{eqb, ltb}
use Rattle.model.specs.Tests.{decide, eqb-true, eqb-false, ltb_less, ltb_not_less}
use Rattle.model.specs.ListLaws.{All}
use Rattle.model.specs.Visit.{TraversalState, Unmarked, Active, Done, is_done, enter, leave}
use Rattle.model.specs.Rounds.{places_from}
use Rattle.laws.specs.WalkSteps.{only_done, noted}
use Rattle.propagation.specs.Order.{state_of, marks_of, left_in, block_left, done_above, step_left, steps_from, noted_of, leaving, open_in, Noting}
use Rattle.propagation.proofs.Marks.{map_set, mark_set, marks_cleared, mark_here}

-- Blocks that are not Done.

open_cons : (m : TraversalState) (ms : List TraversalState) → is_done m ≡ false → open_in (m ∷ ms) ≡ suc (open_in ms)
unfolding open_in
open_cons Unmarked ms e = refl
open_cons Active ms e = refl
open_cons Done ms e = absurd (true_not_false e)
  where
    true_not_false : true ≡ false → ⊥
    true_not_false e = subst (λ (b : Bool). cond b ℕ ⊥) e 0

pub open_same : (ms : List TraversalState) (b : ℕ) (m : TraversalState) → is_done (get_or ms b Done) ≡ false → is_done m ≡ false
    → open_in (set ms b m) ≡ open_in ms
unfolding open_in
open_same [] b m e f = refl
open_same (x ∷ ms) zero m e f = open_cons m ms f ∙ sym (open_cons x ms e)
open_same (Unmarked ∷ ms) (suc b) m e f = ap suc (open_same ms b m e f)
open_same (Active ∷ ms) (suc b) m e f = ap suc (open_same ms b m e f)
open_same (Done ∷ ms) (suc b) m e f = open_same ms b m e f

pub open_fewer : (ms : List TraversalState) (b : ℕ) → is_done (get_or ms b Done) ≡ false → open_in ms ≡ suc (open_in (set ms b Done))
unfolding open_in
open_fewer [] b e = open_cons Done [] e
open_fewer (x ∷ ms) zero e = open_cons x ms e
open_fewer (Unmarked ∷ ms) (suc b) e = ap suc (open_fewer ms b e)
open_fewer (Active ∷ ms) (suc b) e = ap suc (open_fewer ms b e)
open_fewer (Done ∷ ms) (suc b) e = open_fewer ms b e

open_all : (n : ℕ) → open_in (replicate n Unmarked) ≡ n
unfolding open_in
open_all zero = refl
open_all (suc n) = ap suc (open_all n)

-- Lists.

all_take : (P : ℕ → Type 0) (n : ℕ) (l : List ℕ) → ((k : ℕ) → k < n → P (get_or l k 0)) → All P (take n l)
all_take P zero l h = tt
all_take P (suc n) [] h = tt
all_take P (suc n) (x ∷ l) h = (h 0 (omega arith), all_take P n l (λ k l. h (suc k) (omega arith)))

map_agree : {A B : Type 0} (f g : A → B) (xs : List A) → All (λ x. f x ≡ g x) xs → map f xs ≡ map g xs
map_agree f g [] a = refl
map_agree f g (x ∷ xs) a = rw (a.0, map_agree f g xs a.1)

map_behind : {A B : Type 0} (f : A → B) (xs ys : List A) → map f (xs ++ ys) ≡ map f xs ++ map f ys
map_behind f [] ys = refl
map_behind f (x ∷ xs) ys = rw (map_behind f xs ys)

places_last : (k n : ℕ) → places_from k (suc n) ≡ places_from k n ++ ((k + n) ∷ [])
unfolding places_from
places_last k zero = let e : k ≡ k + 0 = omega arith in ap (λ (b : ℕ). b ∷ []) e
places_last k (suc n) =
    let e : suc k + n ≡ k + suc n = omega arith in
    ap (λ (l : List ℕ). k ∷ l) (places_last (suc k) n ∙ ap (λ (b : ℕ). places_from (suc k) n ++ (b ∷ [])) e)

places_agree : {B : Type 0} (f g : ℕ → B) (k n : ℕ) → ((i : ℕ) → k ≤ i → i < k + n → f i ≡ g i) → map f (places_from k n) ≡ map g (places_from k n)
unfolding places_from
places_agree f g k zero h = refl
places_agree f g k (suc n) h = rw (h k (omega arith) (omega arith), places_agree f g (suc k) n (λ i a b. h i (omega arith) (omega arith)))

-- The mark of one block is set to one that is not greater than m, and was not greater before.
above_set : (n m : ℕ) (o : List ℕ) (b v : ℕ) → b < n → get_or o b 0 ≤ m → v ≤ m → done_above n m (set o b v) ≡ done_above n m o
unfolding done_above
above_set n m o b v inside old new =
    let f : ℕ → TraversalState = λ x. cond (ltb m x) Done Unmarked in
    let low : f v ≡ f (get_or (take n o) b 0) =
    ap (λ (t : Bool). cond t Done Unmarked) (ltb_not_less m v new ∙ sym (ltb_not_less m (get_or o b 0) old))
    ∙ ap f (sym (get_or-take n o b 0 inside)) in
    ap (map f) (take-set-lt n o b v inside) ∙ map_set f (take n o) b v ∙ ap (set (map f (take n o)) b) (low ∙ sym (get_or-map f (take n o) b 0))
    ∙ set-get_or (map f (take n o)) b (f 0)

above_elsewhere : (n m : ℕ) (o : List ℕ) (j v : ℕ) → n ≤ j → done_above n m (set o j v) ≡ done_above n m o
unfolding done_above
above_elsewhere n m o j v l = ap (map (λ x. cond (ltb m x) Done Unmarked)) (take-set-le n o j v l)

marks_elsewhere : (n : ℕ) (o : List ℕ) (j v : ℕ) → n ≤ j → marks_of n (set o j v) ≡ marks_of n o
unfolding marks_of
marks_elsewhere n o j v l = ap (map state_of) (take-set-le n o j v l)

zeros_at : (m k : ℕ) → get_or (replicate {A = ℕ} m 0) k 0 ≡ 0
zeros_at zero k = refl
zeros_at (suc m) zero = refl
zeros_at (suc m) (suc k) = zeros_at m k

-- Nothing is noted yet.
pub none_noted : (n : ℕ) → n ≤ 128 → Noting n (replicate 257 0)
none_noted n h = record {
  long = length-replicate {A = ℕ} 257 0;
  small = h;
  few = let z = zeros_at 257 256 in let all : open_in (marks_of n (replicate 257 0)) ≡ n = ap open_in (marks_cleared n h) ∙ open_all n in omega arith;
  high = λ k l m. absurd (let z = zeros_at 257 k in omega arith);
  inside = λ i l. absurd (let z = zeros_at 257 256 in omega arith);
  back = λ i l. absurd (let z = zeros_at 257 256 in omega arith);
}

module _ {n : ℕ} {o : List ℕ} (x : Noting n o) {b : ℕ} (inside : b < n) where
  room : b < length o
  room = let l = x.long in let s = x.small in omega arith

  abbrev left : ℕ
  left = left_in o

  -- the block is not Done
  not_done : get_or o b 0 < 2 → is_done (get_or (marks_of n o) b Done) ≡ false
  not_done l = ap is_done (mark_here n o b inside room) ∙ low (get_or o b 0) l
    where
      low : (m : ℕ) → m < 2 → is_done (state_of m) ≡ false
      low zero l = refl
      low (suc zero) l = refl
      low (suc (suc m)) l = absurd (omega arith)

  -- so fewer blocks than there are have been left
  pub left_below : get_or o b 0 < 2 → left < n
  left_below l = let f = open_fewer (marks_of n o) b (not_done l) in let few = x.few in omega arith

  -- a block that has been left is another one
  other_left : get_or o b 0 < 2 → (i : ℕ) → i < left → block_left o i ≢ b
  other_left l i h e =
      let below = left_below l in
      let small = x.small in
      let here : get_or o b 0 ≡ 255 - i = ap (λ (c : ℕ). get_or o c 0) (sym e) ∙ x.back i h in
      omega arith

  module _ (unmarked : get_or o b 0 ≡ 0) where
    entered_left : left_in (set o b 1) ≡ left
    entered_left = let s = x.small in get_or-set_other o b 256 1 0 (λ e. omega arith)

    entered_block : (i : ℕ) → block_left (set o b 1) i ≡ block_left o i
    entered_block i = let s = x.small in get_or-set_other o b (128 + i) 1 0 (λ e. omega arith)

    pub entered_noting : Noting n (set o b 1)
    entered_noting =
        let l = entered_left in
        let below = left_below (let u = unmarked in omega arith) in
        record {
          long = length-set o b 1 ∙ x.long;
          small = x.small;
          few = rw (l, mark_set n o b inside 1, open_same (marks_of n o) b Active (not_done (let u = unmarked in omega arith)) refl) x.few;
          high = λ k h m. decide (eqb k b)
              (λ e. absurd
              (let same : get_or (set o b 1) k 0 ≡ 1 = ap (λ (j : ℕ). get_or (set o b 1) j 0) (eqb-true k b e) ∙ get_or-set_same o b 1 0 room in omega arith))
              (λ e. let same = get_or-set_other o b k 1 0 (eqb-false k b e) in let old = x.high k h (let g = m in omega arith) in omega arith);
          inside = λ i h. let same = entered_block i in let old = x.inside i (omega arith) in omega arith;
          back = λ i h.
              let old = x.back i (omega arith) in
              ap (λ (c : ℕ). get_or (set o b 1) c 0) (entered_block i)
              ∙ get_or-set_other o b (block_left o i) 1 0 (other_left (let u = unmarked in omega arith) i (omega arith)) ∙ old;
        }

    pub entered_is : noted_of n (set o b 1) ≡ enter b (noted_of n o)
    unfolding steps_from
    entered_is =
        let below = left_below (let u = unmarked in omega arith) in
        let small = x.small in
        let steps : map (step_left n (set o b 1)) (places_from 0 (left_in (set o b 1) - 0)) ≡ map (step_left n o) (places_from 0 (left - 0)) =
        ap (λ (l : ℕ). map (step_left n (set o b 1)) (places_from 0 (l - 0))) entered_left
        ∙ places_agree (step_left n (set o b 1)) (step_left n o) 0 (left - 0)
        (λ i a h. λ j. record {
          block = entered_block i j;
          done = above_set n (255 - i) o b 1 inside (let u = unmarked in omega arith) (omega arith) j;
        }) in
        λ j. record { marks = mark_set n o b inside 1 j; work = steps j }

  module _ (active : get_or o b 0 ≡ 1) where
    low : get_or o b 0 < 2
    low = omega arith

    -- before the block's own mark is stored
    abbrev behind : List ℕ
    behind = set (set o (128 + left) b) 256 (left + 1)

    behind_at : (k : ℕ) → k < 128 → get_or behind k 0 ≡ get_or o k 0
    behind_at k l = get_or-set_other (set o (128 + left) b) 256 k (left + 1) 0 (λ e. omega arith) ∙ get_or-set_other o (128 + left) k b 0 (λ e. omega arith)

    behind_long : length behind ≡ 257
    behind_long = length-set (set o (128 + left) b) 256 (left + 1) ∙ length-set o (128 + left) b ∙ x.long

    behind_above : (m : ℕ) → done_above n m behind ≡ done_above n m o
    behind_above m =
        let small = x.small in
        above_elsewhere n m (set o (128 + left) b) 256 (left + 1) (omega arith) ∙ above_elsewhere n m o (128 + left) b (omega arith)

    left_left : left_in (leaving o b) ≡ left + 1
    left_left =
        let small = x.small in
        let long : length (set o (128 + left) b) ≡ 257 = length-set o (128 + left) b ∙ x.long in
        get_or-set_other behind b 256 (255 - left) 0 (λ e. omega arith) ∙ get_or-set_same (set o (128 + left) b) 256 (left + 1) 0 (omega arith)

    left_other : (i : ℕ) → i < left → block_left (leaving o b) i ≡ block_left o i
    left_other i l =
        let small = x.small in
        let below = left_below low in
        get_or-set_other behind b (128 + i) (255 - left) 0 (λ e. omega arith)
        ∙ get_or-set_other (set o (128 + left) b) 256 (128 + i) (left + 1) 0 (λ e. omega arith)
        ∙ get_or-set_other o (128 + left) (128 + i) b 0 (λ e. omega arith)

    left_last : block_left (leaving o b) left ≡ b
    left_last =
        let small = x.small in
        let long = x.long in
        let below = left_below low in
        get_or-set_other behind b (128 + left) (255 - left) 0 (λ e. omega arith)
        ∙ get_or-set_other (set o (128 + left) b) 256 (128 + left) (left + 1) 0 (λ e. omega arith)
        ∙ get_or-set_same o (128 + left) b 0 (omega arith)

    left_mark : get_or (leaving o b) b 0 ≡ 255 - left
    left_mark = let long = behind_long in let r = room in let l = x.long in get_or-set_same behind b (255 - left) 0 (omega arith)

    pub left_elsewhere : (k : ℕ) → k < n → k ≢ b → get_or (leaving o b) k 0 ≡ get_or o k 0
    left_elsewhere k l e = let small = x.small in get_or-set_other behind b k (255 - left) 0 e ∙ behind_at k (omega arith)

    left_marks : marks_of n (leaving o b) ≡ set (marks_of n o) b Done
    left_marks =
        let small = x.small in
        let below = left_below low in
        mark_set n behind b inside (255 - left)
        ∙ ap (λ (ms : List TraversalState). set ms b (state_of (255 - left)))
        (marks_elsewhere n (set o (128 + left) b) 256 (left + 1) (omega arith) ∙ marks_elsewhere n o (128 + left) b (omega arith))
        ∙ ap (set (marks_of n o) b) (done (255 - left) (omega arith))
      where
        done : (m : ℕ) → 2 ≤ m → state_of m ≡ Done
        done zero l = absurd (omega arith)
        done (suc zero) l = absurd (omega arith)
        done (suc (suc m)) l = refl

    -- those that are Done now are those with a greater mark than the block gets
    done_now : done_above n (255 - left) o ≡ map only_done (marks_of n o)
    unfolding done_above marks_of
    done_now =
        map_agree (λ y. cond (ltb (255 - left) y) Done Unmarked) (λ y. only_done (state_of y)) (take n o)
        (all_take (λ y. cond (ltb (255 - left) y) Done Unmarked ≡ only_done (state_of y)) n o (λ k l. by_mark (get_or o k 0) (x.high k l)))
        ∙ sym (map_map (take n o))
      where
        by_mark : (m : ℕ) → (2 ≤ m → 255 - left < m) → cond (ltb (255 - left) m) Done Unmarked ≡ only_done (state_of m)
        by_mark zero h = let s = x.small in let below = left_below low in rw (ltb_not_less (255 - left) 0 (omega arith)) refl
        by_mark (suc zero) h = let s = x.small in let below = left_below low in rw (ltb_not_less (255 - left) 1 (omega arith)) refl
        by_mark (suc (suc m)) h = rw (ltb_less (255 - left) (suc (suc m)) (h (omega arith))) refl

        map_map : (l : List ℕ) → map only_done (map state_of l) ≡ map (λ y. only_done (state_of y)) l
        map_map [] = refl
        map_map (y ∷ l) = rw (map_map l)

    left_steps : steps_from n (leaving o b) 0 ≡ noted b (marks_of n o) (steps_from n o 0)
    unfolding steps_from
    left_steps =
        let small = x.small in
        let below = left_below low in
        let count : left_in (leaving o b) - 0 ≡ suc (left - 0) = let l = left_left in omega arith in
        let f = step_left n (leaving o b) in
        let mark = left_mark in
        let old : (m : ℕ) → 255 - left ≤ m → done_above n m (leaving o b) ≡ done_above n m o =
        λ m l. above_set n m behind b (255 - left) inside (let at = behind_at b (omega arith) in let one = active in omega arith) l ∙ behind_above m in
        ap (λ (k : ℕ). map f (places_from 0 k)) count
        ∙ ap (map f) (places_last 0 (left - 0))
        ∙ map_behind f (places_from 0 (left - 0)) ((0 + (left - 0)) ∷ [])
        ∙ (λ j. places_agree f (step_left n o) 0 (left - 0)
        (λ i a h. λ j. record { block = left_other i (omega arith) j; done = old (255 - i) (omega arith) j }) j ++ (last j ∷ []))
      where
        last : step_left n (leaving o b) (0 + (left - 0)) ≡ record { block = b; done = map only_done (marks_of n o) }
        last =
            let same : 0 + (left - 0) ≡ left = omega arith in
            let small = x.small in
            let below = left_below low in
            ap (step_left n (leaving o b)) same ∙ (λ j. record {
              block = left_last j;
              done = (above_set n (255 - left) behind b (255 - left) inside
                  (let at = behind_at b (omega arith) in let one = active in omega arith) (omega arith)
                  ∙ behind_above (255 - left) ∙ done_now) j;
            })

    pub left_is : noted_of n (leaving o b) ≡ leave noted b (noted_of n o)
    left_is = λ j. record { marks = left_marks j; work = left_steps j }

    pub left_noting : Noting n (leaving o b)
    left_noting =
        let l = left_left in
        let below = left_below low in
        let small = x.small in
        record {
          long = length-set behind b (255 - left) ∙ behind_long;
          small = x.small;
          few = rw (l, left_marks) (let f = open_fewer (marks_of n o) b (not_done low) in let few = x.few in omega arith);
          high = λ k h m. decide (eqb k b)
              (λ e. let same : get_or (leaving o b) k 0 ≡ 255 - left = ap (λ (j : ℕ). get_or (leaving o b) j 0) (eqb-true k b e) ∙ left_mark in omega arith)
              (λ e. let same = left_elsewhere k h (eqb-false k b e) in let old = x.high k h (let g = m in omega arith) in omega arith);
          inside = λ i h. decide (eqb i left)
              (λ e. let same : block_left (leaving o b) i ≡ b = ap (block_left (leaving o b)) (eqb-true i left e) ∙ left_last in omega arith)
              (λ e. let other = eqb-false i left e in let same = left_other i (omega arith) in let old = x.inside i (omega arith) in omega arith);
          back = λ i h. decide (eqb i left)
              (λ e. let at = eqb-true i left e in
              ap (λ (c : ℕ). get_or (leaving o b) c 0) (ap (block_left (leaving o b)) at ∙ left_last) ∙ left_mark ∙ ap (λ (k : ℕ). 255 - k) (sym at))
              (λ e. let other = eqb-false i left e in
              let less : i < left = omega arith in
              ap (λ (c : ℕ). get_or (leaving o b) c 0) (left_other i less)
              ∙ left_elsewhere (block_left o i) (x.inside i less) (other_left low i less) ∙ x.back i less);
        }

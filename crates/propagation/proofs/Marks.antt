-- The marks that the bytes hold: read, stored and cleared.
use Prim.Native.Nat.{ℕ, zero, suc, ◌≤◌, ◌<◌}
use native.Mathlib.Omega.{arith}
use mathlib.Core.Path.{◌≡◌, refl, sym, ap, ◌∙◌}
use mathlib.Core.Bool.{Bool, true, false, cond}
use mathlib.Core.List.{List, [], ◌∷◌, map}
use lib.ListN.{length, get_or, set, take, replicate, get_or-map}
use lib.Seq.{take-set-lt, get_or-take}
use lib.Dec.{ltb}
use Rattle.model.specs.Tests.{ltb_not_less}
use Rattle.model.specs.Visit.{TraversalState, Unmarked, Done, is_marked, is_done}
use Rattle.propagation.specs.Order.{state_of, marks_of, done_above}

pub map_set : (f : ℕ → TraversalState) (l : List ℕ) (i v : ℕ) → map f (set l i v) ≡ set (map f l) i (f v)
map_set f [] i v = refl
map_set f (x ∷ l) zero v = refl
map_set f (x ∷ l) (suc i) v = ap (λ (r : List TraversalState). f x ∷ r) (map_set f l i v)

get_or_any : (l : List ℕ) (i d e : ℕ) → i < length l → get_or l i d ≡ get_or l i e
get_or_any [] i d e h = omega arith
get_or_any (x ∷ l) zero d e h = refl
get_or_any (x ∷ l) (suc i) d e h = get_or_any l i d e (omega arith)

take_replicate : {A : Type 0} (n m : ℕ) (a : A) → n ≤ m → take n (replicate m a) ≡ replicate n a
take_replicate zero m a h = refl
take_replicate (suc n) zero a h = absurd (omega arith)
take_replicate {A} (suc n) (suc m) a h = ap (λ (l : List A). a ∷ l) (take_replicate n m a (omega arith))

map_replicate : (n : ℕ) → map state_of (replicate n 0) ≡ replicate n Unmarked
map_replicate zero = refl
map_replicate (suc n) = ap (λ (l : List TraversalState). Unmarked ∷ l) (map_replicate n)

pub marks_cleared : (n : ℕ) → n ≤ 128 → marks_of n (replicate 257 0) ≡ replicate n Unmarked
unfolding marks_of
marks_cleared n h = ap (map state_of) (take_replicate n 257 0 (omega arith)) ∙ map_replicate n

module _ (n : ℕ) (marks : List ℕ) (b : ℕ) (inside : b < n) where
  pub mark_set : (v : ℕ) → marks_of n (set marks b v) ≡ set (marks_of n marks) b (state_of v)
  unfolding marks_of
  mark_set v = ap (map state_of) (take-set-lt n marks b v inside) ∙ map_set state_of (take n marks) b v

  pub mark_here : b < length marks → get_or (marks_of n marks) b Done ≡ state_of (get_or marks b 0)
  unfolding marks_of
  mark_here room = get_or-map state_of (take n marks) b 2 ∙ ap state_of (get_or-take n marks b 2 inside ∙ get_or_any marks b 2 0 room)

  pub zero_unmarked : b < length marks → get_or marks b 0 ≡ 0 → is_marked (get_or (marks_of n marks) b Done) ≡ false
  zero_unmarked room e = ap is_marked (mark_here room ∙ ap state_of e)

  pub more_marked : b < length marks → (get_or marks b 0 ≡ 0 → ⊥) → is_marked (get_or (marks_of n marks) b Done) ≡ true
  more_marked room h = ap is_marked (mark_here room) ∙ above (get_or marks b 0) h
    where
      above : (m : ℕ) → (m ≡ 0 → ⊥) → is_marked (state_of m) ≡ true
      above zero d = absurd (d refl)
      above (suc zero) d = refl
      above (suc (suc m)) d = refl

  -- a block is Done before one with mark m is left where its own mark is greater
  above_at : (m : ℕ) → is_done (get_or (done_above n m marks) b Unmarked) ≡ is_done (cond (ltb m (get_or marks b 0)) Done Unmarked)
  unfolding done_above
  above_at m =
      let f : ℕ → TraversalState = λ x. cond (ltb m x) Done Unmarked in
      let none : ltb m 0 ≡ false = ltb_not_less m 0 (omega arith) in
      ap (λ (d : TraversalState). is_done (get_or (map f (take n marks)) b d)) (sym (ap (λ (t : Bool). cond t Done Unmarked) none))
      ∙ ap is_done (get_or-map f (take n marks) b 0 ∙ ap f (get_or-take n marks b 0 inside))

  pub below_done : (m : ℕ) → ltb m (get_or marks b 0) ≡ false → is_done (get_or (done_above n m marks) b Unmarked) ≡ false
  below_done m e = above_at m ∙ rw e refl

  pub is_done_lem : (m : ℕ) → ltb m (get_or marks b 0) ≡ true → is_done (get_or (done_above n m marks) b Unmarked) ≡ true
  is_done_lem m e = above_at m ∙ rw e refl

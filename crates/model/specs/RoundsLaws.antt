-- What each join does, a walk does; what a join makes of its block holds of each block that a walk
-- has visited; what each round does, all rounds do. The count of rounds and what `settled` says.
use Prim.Native.Nat.{ℕ, zero, suc, ◌+◌, ◌≤◌, ◌<◌}
use native.Mathlib.Omega.{arith}
use Rattle.std.specs.Prelude.{◌≡◌, Bool, true, false, List, replicate, eqb}
use Rattle.std.proofs.Math.Path.{refl, ap}
use Rattle.std.proofs.Common.{sym, ◌∙◌}
use Rattle.std.proofs.lemmas.List.{get_or-replicate}
use Rattle.model.specs.Tests.{decide, never, eqb-true, eqb-false}
use Rattle.model.specs.ListLaws.{All}
use Rattle.model.specs.Visit.{TraversalState, Unmarked, Done, is_marked, Visited, marked, each, visit}
use Rattle.model.specs.VisitLaws.{
  Preorder,
  each_does,
  visit_does,
  visits_same,
  visits_natural,
  Makes,
  each_makes,
  visit_makes,
  visits_mark,
}
use Rattle.model.specs.Rounds.{places_from, job_order, walk, Rounds, rounds_from}

pub walk_does : {W : Type 0} (R : W → W → Type 0) → Preorder R → (near : ℕ → List ℕ) (join : ℕ → List TraversalState → W → W) →
    ((b : ℕ) (ms : List TraversalState) (w : W) → R w (join b ms w))
    → (n : ℕ) (order : List ℕ) (w : W) → R w (walk n near join order w)
unfolding walk
walk_does R pre near join does n order w =
    each_does R pre (visit near join) (visit_does R pre near join does) order (record { marks = replicate n Unmarked; work = w })

-- what holds of all of n places from k on holds of each
places_all : (P : ℕ → Type 0) (k n : ℕ) → All P (places_from k n) → (b : ℕ) → k ≤ b → b < k + n → P b
unfolding places_from
places_all P k zero a b l u = absurd (omega arith)
places_all P k (suc n) a b l u =
    decide (eqb k b) (λ e. rw (sym (eqb-true k b e)) a.0)
    (λ e. let other = eqb-false k b e in places_all P (suc k) n a.1 b (omega arith) (omega arith))

-- P holds of the work throughout; G holds of a block once it has joined.
module _ {W : Type 0} (P : W → Type 0) (G : W → ℕ → Type 0) (near : ℕ → List ℕ) (join : ℕ → List TraversalState → W → W)
    (keeps : (b : ℕ) (ms : List TraversalState) (w : W) → P w → P (join b ms w))
    (stays : (b : ℕ) (ms : List TraversalState) (w : W) → P w → (a : ℕ) → G w a → G (join b ms w) a)
    (makes : (b : ℕ) (ms : List TraversalState) (w : W) → P w → G (join b ms w) b) (n : ℕ) where
  abbrev start : W → Visited W
  start w = record { marks = replicate n Unmarked; work = w }

  walk_made : (order : List ℕ) (w : W) → P w → Makes P G (start w) (each (visit near join) order (start w))
  walk_made order w p = each_makes P G (visit near join) (visit_makes P G near join keeps stays makes) order (start w) p

  pub walk_proper : (order : List ℕ) (w : W) → P w → P (walk n near join order w)
  unfolding walk
  walk_proper order w p = (walk_made order w p).proper

  pub walk_keeps : (order : List ℕ) (w : W) → P w → (b : ℕ) → G w b → G (walk n near join order w) b
  unfolding walk
  walk_keeps order w p b g = (walk_made order w p).kept b g

  -- a walk in job order visits each of the n blocks
  pub walk_makes : (w : W) → P w → (b : ℕ) → b < n → G (walk n near join (job_order n) w) b
  unfolding walk job_order
  walk_makes w p b l =
      (walk_made (job_order n) w p).made b (ap is_marked (get_or-replicate n b Unmarked Done l))
      (places_all (λ a. marked a (each (visit near join) (job_order n) (start w)) ≡ true) zero n
      (visits_mark P G near join keeps stays makes (job_order n) (start w) p) b (omega arith) (omega arith))

module _ {W : Type 0} (changed : W → Bool) (round : W → W) where
  -- what a round's flag decides
  abbrev onward : ℕ → ℕ → W → Bool → Rounds W
  onward most ran w t = elim t [
    | true ↦ rounds_from changed round most (suc ran) (round w)
    | false ↦ record { work = round w; rounds = suc ran; settled = true }
  ]

  pub rounds_on : (most ran : ℕ) (w : W) → changed (round w) ≡ true → rounds_from changed round
      (suc most) ran w ≡ rounds_from changed round most (suc ran) (round w)
  unfolding rounds_from
  rounds_on most ran w e = ap (onward most ran w) e

  pub rounds_stop : (most ran : ℕ) (w : W) → changed (round w) ≡ false → rounds_from changed round
      (suc most) ran w ≡ record { work = round w; rounds = suc ran; settled = true }
  unfolding rounds_from
  rounds_stop most ran w e = ap (onward most ran w) e

  pub rounds_do : (R : W → W → Type 0) → Preorder R → ((w : W) → R w (round w)) → (most ran : ℕ) (w : W) → R w
      (rounds_from changed round most ran w).work
  unfolding rounds_from
  rounds_do R pre does zero ran w = pre.none w
  rounds_do R pre does (suc most) ran w =
      decide (changed (round w)) (λ e. rw (rounds_on most ran w e)
      (pre.after w (round w) _ (does w) (rounds_do R pre does most (suc ran) (round w))))
      (λ e. rw (rounds_stop most ran w e) (does w))

  -- at most `most` rounds are counted
  pub rounds_most : (most ran : ℕ) (w : W) → (rounds_from changed round most ran w).rounds ≤ ran + most
  unfolding rounds_from
  rounds_most zero ran w = omega arith
  rounds_most (suc most) ran w =
      decide (changed (round w)) (λ e. rw (rounds_on most ran w e) (let h = rounds_most most (suc ran) (round w) in omega arith))
      (λ e. rw (rounds_stop most ran w e) (omega arith))

  -- where it says settled, the last round, from some work, changed nothing
  pub rounds_settled : (most ran : ℕ) (w : W) → (rounds_from changed round most ran w).settled ≡ true → changed
      (rounds_from changed round most ran w).work ≡ false
  unfolding rounds_from
  rounds_settled zero ran w h = never h refl
  rounds_settled (suc most) ran w h =
      decide (changed (round w)) (λ e. rw (rounds_on most ran w e)
      (rounds_settled most (suc ran) (round w) (rw (rounds_on most ran w e) at h)))
      (λ e. rw (rounds_stop most ran w e) e)

-- Two joins that agree on the work that the first keeps give the same walks, and two such rounds
-- the same rounds.

pub walk_same : {W : Type 0} (P : W → Type 0) (near : ℕ → List ℕ) (f g : ℕ → List TraversalState → W → W)
    → ((b : ℕ) (ms : List TraversalState) (w : W) → P w → P (f b ms w)) →
    ((b : ℕ) (ms : List TraversalState) (w : W) → P w → f b ms w ≡ g b ms w)
    → (n : ℕ) (order : List ℕ) (w : W) → P w → walk n near f order w ≡ walk n near g order w
unfolding walk
walk_same P near f g keeps same n order w p = ap (λ x. x.work)
    (visits_same P near f g keeps same order (record { marks = replicate n Unmarked; work = w }) p)

-- and a walk is seen through h as a walk, where each join is
pub walk_natural : {W U : Type 0} (h : W → U) (near : ℕ → List ℕ) (f : ℕ → List TraversalState → W → W)
    (g : ℕ → List TraversalState → U → U) → ((b : ℕ) (ms : List TraversalState) (w : W) → h (f b ms w) ≡ g b ms (h w))
    → (n : ℕ) (order : List ℕ) (w : W) → h (walk n near f order w) ≡ walk n near g order (h w)
unfolding walk
walk_natural h near f g natural n order w =
    visits_natural h near f g natural order (record { marks = replicate n Unmarked; work = w })

pub rounds_same : {W : Type 0} (P : W → Type 0) (changed : W → Bool) (f g : W → W) → ((w : W) → P w → P (f w)) → ((w : W) → P w → f w ≡ g w)
    → (most ran : ℕ) (w : W) → P w → rounds_from changed f most ran w ≡ rounds_from changed g most ran w
unfolding rounds_from
rounds_same P changed f g keeps same zero ran w p = refl
rounds_same P changed f g keeps same (suc most) ran w p =
    let e = same w p in
    decide (changed (f w))
    (λ t.
    rounds_on changed f most ran w t ∙ rounds_same P changed f g keeps same most (suc ran) (f w) (keeps w p)
    ∙ ap (rounds_from changed g most (suc ran)) e ∙ sym (rounds_on changed g most ran w (ap changed (sym e) ∙ t)))
    (λ t. rounds_stop changed f most ran w t ∙ (λ i. record { work = e i; rounds = suc ran; settled = true }) ∙ sym
    (rounds_stop changed g most ran w (ap changed (sym e) ∙ t)))

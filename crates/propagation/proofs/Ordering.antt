-- The blocks that a walk has still to visit, and the order that is noted once none is to come.
use Prim.Native.Nat.{ℕ, zero, suc, ◌+◌, ◌-◌, ◌≤◌, ◌<◌}
use native.Mathlib.Omega.{arith}
use native.Mathlib.Nat.{add-zero, zero-add, sub-zero, le_refl}
use mathlib.Core.Path.{◌≡◌, refl, sym, ap, ◌∙◌}
use mathlib.Core.Bool.{Bool, true, false}
use mathlib.Core.List.{List, [], ◌∷◌, reverse_aux}
use lib.ListN.{replicate}
use Rattle.model.specs.Visit.{Unmarked, Visited, each}
use Rattle.model.specs.Rounds.{places_from, job_order, reverse_job_order, walk}
use Rattle.laws.specs.WalkSteps.{Step, steps_of}
use Rattle.graph.specs.Bytes.{size_in, GraphFits}
use Rattle.graph.proofs.Coming.{places_more, places_end}
use Rattle.propagation.specs.Order.{order_of, in_order, steps_from, noted_of, OrderNoted}
use Rattle.propagation.proofs.Marks.{marks_cleared}
use Rattle.propagation.proofs.Leaving.{none_noted}
use Rattle.propagation.proofs.Visiting.{visit_in, Along, along_by}

-- the last of n blocks first
unfoldable pub falling : ℕ → List ℕ
falling zero = []
falling (suc n) = n ∷ falling n

reversed_onto : (k m : ℕ) → reverse_aux (places_from k m) (falling k) ≡ falling (k + m)
unfolding places_from falling
reversed_onto k zero = ap falling (sym (add-zero k))
reversed_onto k (suc m) = let e : suc k + m ≡ k + suc m = omega arith in reversed_onto (suc k) m ∙ ap falling e

-- the blocks of a walk over n that come after the first i
abbrev pub order_from : Bool → ℕ → ℕ → List ℕ
order_from false n i = places_from i (n - i)
order_from true n i = falling (n - i)

order_start : (backward : Bool) (n : ℕ) → order_from backward n 0 ≡ order_of backward n
unfolding job_order reverse_job_order falling
order_start false n = ap (places_from 0) (sub-zero n)
order_start true n = ap falling (sub-zero n ∙ sym (zero-add n)) ∙ sym (reversed_onto 0 n)

pub order_more : (backward : Bool) (n i : ℕ) → i < n → order_from backward n i ≡ in_order backward n i ∷ order_from backward n (i + 1)
unfolding falling
order_more false n i l = places_more i n l
order_more true n i l =
    let e : n - i ≡ suc (n - (i + 1)) = omega arith in
    let f : n - (i + 1) ≡ n - 1 - i = omega arith in
    ap falling e ∙ ap (λ (b : ℕ). b ∷ falling (n - (i + 1))) f

pub order_end : (backward : Bool) (n i : ℕ) → n ≤ i → order_from backward n i ≡ []
unfolding falling
order_end false n i l = places_end i n l
order_end true n i l = let e : n - i ≡ 0 = omega arith in ap falling e

-- where the visits of a walk lead
abbrev pub walk_end : List ℕ → Bool → Visited (List Step)
walk_end g backward = each (visit_in g backward) (order_of backward (size_in g)) (record { marks = replicate (size_in g) Unmarked; work = [] })

none_left : (n : ℕ) → steps_from n (replicate 257 0) 0 ≡ []
unfolding steps_from places_from
none_left n = refl

pub order_begun : (g : List ℕ) → GraphFits g → (backward : Bool) (n : ℕ) → n ≡ size_in g
    → Along g backward (order_from backward n 0) (walk_end g backward) (replicate 257 0) (replicate 257 0)
order_begun g fits backward n e =
    let x = none_noted (size_in g) fits.size in
    record {
      noting = x;
      active = λ a l one. one;
      fewer = le_refl _;
      rest = ap (λ (bs : List ℕ). each (visit_in g backward) bs (noted_of (size_in g) (replicate 257 0))) (order_start backward n ∙ ap (order_of backward) e)
          ∙ (λ i. each (visit_in g backward) (order_of backward (size_in g))
          (record { marks = marks_cleared (size_in g) fits.size i; work = none_left (size_in g) i }));
    }

pub order_noted : (g : List ℕ) (backward : Bool) (n i : ℕ) {start o : List ℕ} → n ≡ size_in g → n ≤ i
    → Along g backward (order_from backward n i) (walk_end g backward) start o → OrderNoted g backward o
unfolding steps_of walk
order_noted g backward n i {start} {o} e l a =
    let x = a.noting in
    let few = x.few in
    let small = x.small in
    record {
      few = omega arith;
      inside = x.inside;
      back = x.back;
      steps = ap (λ (v : Visited (List Step)). v.work) (sym (along_by (order_end backward n i l) a).rest);
    }

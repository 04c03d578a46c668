-- How many levels there are, and what a caller reads of their number.
use Prim.Native.Nat.{ℕ, zero, suc, ◌/◌, ◌%◌, ◌^◌}
use native.Mathlib.Omega.{arith}
use native.Mathlib.Nat.{pow-succ', div-one, zero-div, div-div-eq-div-mul}
use mathlib.Core.Path.{◌≡◌, refl, sym, ap, ◌∙◌}
use mathlib.Core.Bool.{Bool, true, false, cond}
use mathlib.Core.List.{List, [], ◌∷◌}
use mathlib.Core.Option.{Option}
use lib.ListN.{length, get_or}
use lib.Dec.{eqb}
use Rattle.entries.specs.declared.DependencyPathEntry.{DependencyPathEntry}
use Rattle.model.specs.Lists.{first_flag, rest_flags}
use Rattle.model.specs.Forest.{property_key, Found, child_by_key}
use Rattle.model.specs.Tree.{HoistablePosition, hoistable_key}
use Rattle.hoistable.specs.Levels.{levels_of, number_of}

pub levels_length : (h : Option (Found HoistablePosition)) (es : List DependencyPathEntry) → length (levels_of h es) ≡ suc (length es)
unfolding levels_of
levels_length h [] = refl
levels_length h (e ∷ es) = ap suc (levels_length (child_by_key hoistable_key h (property_key e.property)) es)

-- The lowest bit of a list's number is the first element, and half of it is the number of the
-- others.

pub lowest_bit : (b : Bool) (bs : List Bool) → number_of (b ∷ bs) % 2 ≡ cond b 1 0
unfolding number_of
lowest_bit true bs = omega arith
lowest_bit false bs = omega arith

pub number_first : (bs : List Bool) → eqb (number_of bs % 2) 1 ≡ first_flag bs
unfolding number_of
number_first [] = refl
number_first (true ∷ bs) = rw (lowest_bit true bs)
number_first (false ∷ bs) = rw (lowest_bit false bs)

pub number_later : (bs : List Bool) → number_of bs / 2 ≡ number_of (rest_flags bs)
unfolding number_of
number_later [] = refl
number_later (true ∷ bs) = omega arith
number_later (false ∷ bs) = omega arith

-- bit j of the number is element j
pub number_bit : (bs : List Bool) (j : ℕ) → eqb (number_of bs / 2 ^ j % 2) 1 ≡ get_or bs j false
unfolding number_of
number_bit [] j = rw (zero-div (2 ^ j))
number_bit (b ∷ bs) zero = rw (div-one (number_of (b ∷ bs))) (number_first (b ∷ bs))
number_bit (b ∷ bs) (suc j) =
    ap (λ n. eqb (n % 2) 1) (ap (λ n. number_of (b ∷ bs) / n) (pow-succ' 2 j) ∙ sym (div-div-eq-div-mul (number_of (b ∷ bs)) 2 (2 ^ j)) ∙ ap
    (λ n. n / 2 ^ j) (number_later (b ∷ bs)))
    ∙ number_bit bs j

-- That no neighbour stands twice has at most one proof, so a type can hold it.
use Rattle.std.specs.Prelude.{ℕ, ◌≡◌, List, [], ◌∷◌}
use Rattle.std.specs.Coded.{×_prop, Π_prop, Unit-prop}
use mathlib.Core.HLevel.{⊥_prop}
use Rattle.model.specs.ListLaws.{All, NoRepeats}
use Rattle.graph.specs.Bytes.{neighbours, NeighboursOnce}

all_prop : {A : Type 0} (P : A → Type 0) → ((x : A) → IsProp (P x)) → (xs : List A) → IsProp (All P xs)
all_prop P h [] = Unit-prop
all_prop P h (x ∷ xs) = ×_prop (h x) (all_prop P h xs)

no_repeats_prop : (ks : List ℕ) → IsProp (NoRepeats ks)
no_repeats_prop [] = Unit-prop
no_repeats_prop (k ∷ ks) = ×_prop (all_prop (λ j. j ≡ k → ⊥) (λ j. Π_prop (λ e. ⊥_prop)) ks) (no_repeats_prop ks)

pub once_prop : (g : List ℕ) → IsProp (NeighboursOnce g)
once_prop g = Π_prop (λ backward. Π_prop (λ b. Π_prop (λ l. no_repeats_prop (neighbours g backward b))))

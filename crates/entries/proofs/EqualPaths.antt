-- `are_equal_paths` by pairs: lists of different lengths are not equal, and others are where the
-- entries of each pair are the same.
use Rattle.std.proofs.Common.{◌≡◌, suc, Bool, false, ◌&&◌, List, [], ◌∷◌, length, refl, ap, ◌∙◌, arith}
use Rattle.std.specs.List.{zip, list_all}
use mathlib.Core.Bool.{and-false}
use Rattle.entries.specs.declared.DependencyPathEntry.{DependencyPathEntry}
use Rattle.entries.specs.Path.{same_entry, are_equal_paths}

pub unequal : (xs ys : List DependencyPathEntry) → (length xs ≡ length ys → ⊥) → are_equal_paths xs ys ≡ false
unequal [] [] h = absurd (h refl)
unequal [] (y ∷ ys) h = refl
unequal (x ∷ xs) [] h = refl
unequal (x ∷ xs) (y ∷ ys) h = ap (λ (r : Bool). same_entry x y && r) (unequal xs ys (λ e. h (ap suc e))) ∙ and-false (same_entry x y)

pub by_pairs : (xs ys : List DependencyPathEntry) → length xs ≡ length ys → list_all (λ p. same_entry p.0 p.1) (zip xs ys) ≡ are_equal_paths xs ys
by_pairs [] [] e = refl
by_pairs [] (y ∷ ys) e = absurd (omega arith)
by_pairs (x ∷ xs) [] e = absurd (omega arith)
by_pairs (x ∷ xs) (y ∷ ys) e = ap (λ (r : Bool). same_entry x y && r) (by_pairs xs ys (omega arith))

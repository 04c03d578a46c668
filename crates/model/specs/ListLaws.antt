-- Statements about the elements of a list, and what choosing by a test keeps.
use Rattle.std.specs.Prelude.{ℕ, zero, suc, ◌≡◌, refl, Bool, List, [], ◌∷◌, ◌++◌, map, get_or, set}
use Rattle.model.specs.Lists.{select}
use Rattle.model.specs.Tests.{by_cond}

module _ {A : Type 0} where
  -- of every element
  abbrev pub All : (A → Type 0) → List A → Type 0
  All P [] = Unit {0}
  All P (x ∷ xs) = P x × All P xs

  pub all_map : (P Q : A → Type 0) → ((x : A) → P x → Q x) → (xs : List A) → All P xs → All Q xs
  all_map P Q f [] a = tt
  all_map P Q f (x ∷ xs) a = (f x a.0, all_map P Q f xs a.1)

  pub all_both : (P Q : A → Type 0) (xs : List A) → All P xs → All Q xs → All (λ x. P x × Q x) xs
  all_both P Q [] a b = tt
  all_both P Q (x ∷ xs) a b = ((a.0, b.0), all_both P Q xs a.1 b.1)

  pub all_select : (P : A → Type 0) (test : A → Bool) (xs : List A) → All P xs → All P (select test xs)
  all_select P test [] a = tt
  all_select P test (x ∷ xs) a = by_cond (All P) (test x) (λ e. (a.0, all_select P test xs a.1)) (λ e. all_select P test xs a.1)

  pub select_same : (p q : A → Bool) (xs : List A) → All (λ x. p x ≡ q x) xs → select p xs ≡ select q xs
  select_same p q [] a = refl
  select_same p q (x ∷ xs) a = rw (a.0, select_same p q xs a.1)

  pub all_append : (P : A → Type 0) (xs ys : List A) → All P xs → All P ys → All P (xs ++ ys)
  all_append P [] ys a b = b
  all_append P (x ∷ xs) ys a b = (a.0, all_append P xs ys a.1 b)

  pub all_get_or : (P : A → Type 0) (xs : List A) (k : ℕ) (d : A) → All P xs → P d → P (get_or xs k d)
  all_get_or P [] k d a h = h
  all_get_or P (x ∷ xs) zero d a h = a.0
  all_get_or P (x ∷ xs) (suc k) d a h = all_get_or P xs k d a.1 h

  pub all_set : (P : A → Type 0) (xs : List A) (k : ℕ) (y : A) → All P xs → P y → All P (set xs k y)
  all_set P [] k y a h = tt
  all_set P (x ∷ xs) zero y a h = (h, a.1)
  all_set P (x ∷ xs) (suc k) y a h = (a.0, all_set P xs k y a.1 h)

  -- at a place that was set stands what was set, or the place is outside
  pub set_here : (P : A → Type 0) (xs : List A) (k : ℕ) (y d : A) → P y → P d → P (get_or (set xs k y) k d)
  set_here P [] k y d h o = o
  set_here P (x ∷ xs) zero y d h o = h
  set_here P (x ∷ xs) (suc k) y d h o = set_here P xs k y d h o

pub all_mapped : {A B : Type 0} (P : B → Type 0) (f : A → B) (xs : List A) → ((x : A) → P (f x)) → All P (map f xs)
all_mapped P f [] h = tt
all_mapped P f (x ∷ xs) h = (h x, all_mapped P f xs h)

-- No number stands twice in a list ("each once": document 02, E3).
abbrev pub NoRepeats : List ℕ → Type 0
NoRepeats [] = Unit {0}
NoRepeats (k ∷ ks) = All (λ j. j ≡ k → ⊥) ks × NoRepeats ks

-- What a test chooses from such a list has no repeats either.
pub no_repeats_select : (test : ℕ → Bool) (ks : List ℕ) → NoRepeats ks → NoRepeats (select test ks)
no_repeats_select test [] n = tt
no_repeats_select test (k ∷ ks) n =
    by_cond NoRepeats (test k) (λ e. (all_select (λ j. j ≡ k → ⊥) test ks n.0, no_repeats_select test ks n.1))
    (λ e. no_repeats_select test ks n.1)

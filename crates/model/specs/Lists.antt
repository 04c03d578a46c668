-- Lists: choosing, asking and counting by a test, summing, and joining.
use Rattle.std.specs.Prelude.{ℕ, zero, suc, ◌+◌, Bool, false, ◌||◌, cond, List, [], ◌∷◌, ◌++◌}

module _ {A : Type 0} where
  -- the elements that pass the test, in their order
  abbrev pub select : (A → Bool) → List A → List A
  select test [] = []
  select test (x ∷ xs) = cond (test x) (x ∷ select test xs) (select test xs)

  -- some element passes the test
  abbrev pub any_of : (A → Bool) → List A → Bool
  any_of test [] = false
  any_of test (x ∷ xs) = test x || any_of test xs

  -- how many elements pass the test, counted by place
  abbrev pub count_of : (A → Bool) → List A → ℕ
  count_of test [] = zero
  count_of test (x ∷ xs) = cond (test x) (suc (count_of test xs)) (count_of test xs)

-- the sum of what the elements count
abbrev pub sum_of : {A : Type 0} → (A → ℕ) → List A → ℕ
sum_of f [] = zero
sum_of f (x ∷ xs) = f x + sum_of f xs

-- what each element gives, one after the other
abbrev pub concat_map : {A B : Type 0} → (A → List B) → List A → List B
concat_map f [] = []
concat_map f (x ∷ xs) = f x ++ concat_map f xs

-- the first of some flags; false where there is none
abbrev pub first_flag : List Bool → Bool
first_flag [] = false
first_flag (b ∷ bs) = b

-- and the flags after it
abbrev pub rest_flags : List Bool → List Bool
rest_flags [] = []
rest_flags (b ∷ bs) = bs

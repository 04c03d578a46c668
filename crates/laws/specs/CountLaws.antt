-- Counting by place, and asking whether some element passes.
use Rattle.std.specs.Prelude.{zero, ◌+◌, ◌≤◌, ◌≡◌, refl, Bool, true, false, ◌||◌, List, [], ◌∷◌, ◌++◌, map, length}
use Rattle.std.proofs.Common.{le_refl, arith, sym}
use Rattle.std.proofs.Math.Bool.{or-true}
use Rattle.model.specs.Lists.{any_of, count_of, sum_of}
use Rattle.model.specs.Tests.{decide, never}
use Rattle.model.specs.ListLaws.{All, all_map}

module _ {A : Type 0} where
  pub count_append : (test : A → Bool) (xs ys : List A) → count_of test (xs ++ ys) ≡ count_of test xs + count_of test ys
  count_append test [] ys = omega arith
  count_append test (x ∷ xs) ys = let h = count_append test xs ys in decide (test x) (λ t. rw t (omega arith)) (λ t. rw t h)

  pub count_none : (test : A → Bool) → ((x : A) → test x ≡ false) → (xs : List A) → count_of test xs ≡ zero
  count_none test h [] = refl
  count_none test h (x ∷ xs) = rw (h x) (count_none test h xs)

  -- tests that agree on each element count the same
  pub count_agree : (f g : A → Bool) (xs : List A) → All (λ x. f x ≡ g x) xs → count_of f xs ≡ count_of g xs
  count_agree f g [] h = refl
  count_agree f g (x ∷ xs) h = rw (h.0, count_agree f g xs h.1)

  pub any_agree : (f g : A → Bool) → ((x : A) → f x ≡ g x) → (xs : List A) → any_of f xs ≡ any_of g xs
  any_agree f g h [] = refl
  any_agree f g h (x ∷ xs) = rw (h x, any_agree f g h xs)

  -- each element that passes makes some element pass
  pub any_own : {B : Type 0} (f : B → A → Bool) (xs : List A) → All (λ x. (b : B) → f b x ≡ true → any_of (f b) xs ≡ true) xs
  any_own f [] = tt
  any_own {B} f (x ∷ xs) = (
    λ b e. rw e refl,
    all_map (λ y. (b : B) → f b y ≡ true → any_of (f b) xs ≡ true) (λ y. (b : B) → f b y ≡ true → f b x || any_of (f b) xs ≡ true)
        (λ y h b e. rw (h b e) (or-true (f b x))) xs (any_own f xs),
  )

  -- where some element passes, at least one is counted
  any_count : (test : A → Bool) (xs : List A) → any_of test xs ≡ true → 1 ≤ count_of test xs
  any_count test [] h = never h refl
  any_count test (x ∷ xs) h = decide (test x) (λ t. rw t (omega arith)) (λ t. rw t (any_count test xs (rw t at h)))

pub count_map : {A B : Type 0} (test : B → Bool) (f : A → B) (xs : List A) → count_of test (map f xs) ≡ count_of (λ x. test (f x)) xs
count_map test f [] = refl
count_map test f (x ∷ xs) = decide (test (f x)) (λ t. rw (t, count_map test f xs)) (λ t. rw (t, count_map test f xs))

-- Pairs of two lists that pass a test, counted from either side.

module _ {A B : Type 0} (test : A → B → Bool) where
  pairs_cons : (x : A) (xs : List A) (ys : List B) → sum_of (λ y. count_of (λ z. test z y) (x ∷ xs)) ys ≡ count_of (test x) ys + sum_of
      (λ y. count_of (λ z. test z y) xs) ys
  pairs_cons x xs [] = refl
  pairs_cons x xs (y ∷ ys) = let h = pairs_cons x xs ys in decide (test x y) (λ t. rw t (omega arith)) (λ t. rw t (omega arith))

  pairs_nil : (ys : List B) → sum_of (λ y. count_of (λ z. test z y) []) ys ≡ zero
  pairs_nil [] = refl
  pairs_nil (y ∷ ys) = let h = pairs_nil ys in omega arith

  pairs_swap : (xs : List A) (ys : List B) → sum_of (λ x. count_of (test x) ys) xs ≡ sum_of (λ y. count_of (λ x. test x y) xs) ys
  pairs_swap [] ys = sym (pairs_nil ys)
  pairs_swap (x ∷ xs) ys = let h = pairs_swap xs ys in let c = pairs_cons x xs ys in omega arith

  ones : (ys : List B) (xs : List A) → All (λ y. count_of (λ x. test x y) xs ≡ 1) ys
      → sum_of (λ y. count_of (λ x. test x y) xs) ys ≡ length ys
  ones [] xs h = refl
  ones (y ∷ ys) xs h = let rest = ones ys xs h.1 in let e = h.0 in omega arith

  at_least : (ys : List B) (xs : List A) → All (λ x. any_of (test x) ys ≡ true) xs → length xs ≤ sum_of (λ x. count_of (test x) ys) xs
  at_least ys [] h = le_refl _
  at_least ys (x ∷ xs) h = let rest = at_least ys xs h.1 in let e = any_count (test x) ys h.0 in omega arith

  -- where each y has exactly one x, and each x some y, there are no more x than y
  pub no_more : (xs : List A) (ys : List B) → All (λ y. count_of (λ x. test x y) xs ≡ 1) ys → All (λ x. any_of (test x) ys ≡ true) xs
      → length xs ≤ length ys
  no_more xs ys one some = let low = at_least ys xs some in let swap = pairs_swap xs ys in let high = ones ys xs one in omega arith

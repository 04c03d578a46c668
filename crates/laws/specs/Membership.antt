-- Membership, and statements about some element of a list, by recursion on the list.
use Rattle.std.specs.Prelude.{ℕ, zero, suc, ◌<◌, ◌≡◌, refl, ◌⊎◌, Bool, true, false, ◌||◌, length, get_or}
use Rattle.std.proofs.Common.{not-suc-le-zero, arith, sym, subst, inl, inr}
use mathlib.Core.List.{List, [], ◌∷◌, map, reverse, reverse_aux}
use Rattle.model.specs.Lists.{select, any_of}
use Rattle.model.specs.Tests.{by_cond, never, or_cases, or_second}
use Rattle.model.specs.ListLaws.{All}

pub neither : (a b : Bool) → a || b ≡ false → (a ≡ false) × (b ≡ false)
neither true b e = never refl e
neither false b e = (refl, e)

module _ {A : Type 0} where
  -- of some element
  abbrev pub Some : (A → Type 0) → List A → Type 0
  Some P [] = ⊥
  Some P (x ∷ xs) = P x ⊎ Some P xs

  abbrev pub Member : A → List A → Type 0
  Member a xs = Some (λ x. x ≡ a) xs

  pub all_of : (P : A → Type 0) (xs : List A) → ((x : A) → Member x xs → P x) → All P xs
  all_of P [] f = tt
  all_of P (x ∷ xs) f = (f x (inl refl), all_of P xs (λ y m. f y (inr m)))

  pub all_at : (P : A → Type 0) (xs : List A) (a : A) → All P xs → Member a xs → P a
  all_at P [] a h x'' = elim x'' [ ]
  all_at P (x ∷ xs) a h (inl e) = subst P e h.0
  all_at P (x ∷ xs) a h (inr m) = all_at P xs a h.1 m

  pub some_map : (P Q : A → Type 0) → ((x : A) → P x → Q x) → (xs : List A) → Some P xs → Some Q xs
  some_map P Q f [] x' = elim x' [ ]
  some_map P Q f (x ∷ xs) (inl p) = inl (f x p)
  some_map P Q f (x ∷ xs) (inr s) = inr (some_map P Q f xs s)

  pub some_both : (P Q : A → Type 0) (xs : List A) → All P xs → Some Q xs → Some (λ x. P x × Q x) xs
  some_both P Q [] a x'' = elim x'' [ ]
  some_both P Q (x ∷ xs) a (inl q) = inl (a.0, q)
  some_both P Q (x ∷ xs) a (inr s) = inr (some_both P Q xs a.1 s)

  pub some_of : (P : A → Type 0) (xs : List A) (a : A) → P a → Member a xs → Some P xs
  some_of P xs a p m = some_map (λ x. x ≡ a) P (λ x e. subst P (sym e) p) xs m

  pub some_select : (P : A → Type 0) (test : A → Bool) (xs : List A) → Some (λ x. (test x ≡ true) × P x) xs → Some P (select test xs)
  some_select P test [] x' = elim x' [ ]
  some_select P test (x ∷ xs) (inl h) = by_cond (Some P) (test x) (λ t. inl h.1) (λ t. never h.0 t)
  some_select P test (x ∷ xs) (inr s) = by_cond (Some P) (test x) (λ t. inr (some_select P test xs s)) (λ t. some_select P test xs s)

  -- each that is chosen has passed
  pub all_chosen : (P : A → Type 0) (test : A → Bool) (xs : List A) → All (λ x. test x ≡ true → P x) xs → All P (select test xs)
  all_chosen P test [] a = tt
  all_chosen P test (x ∷ xs) a = by_cond (All P) (test x) (λ t. (a.0 t, all_chosen P test xs a.1)) (λ t. all_chosen P test xs a.1)

  pub select_none : (test : A → Bool) (xs : List A) → All (λ x. test x ≡ false) xs → select test xs ≡ []
  select_none test [] a = refl
  select_none test (x ∷ xs) a = by_cond (λ ys. ys ≡ []) (test x) (λ t. never t a.0) (λ t. select_none test xs a.1)

  pub any_some : (test : A → Bool) (xs : List A) → any_of test xs ≡ true → Some (λ x. test x ≡ true) xs
  any_some test [] h = never h refl
  any_some test (x ∷ xs) h = or_cases (test x) (any_of test xs) h (λ t. inl t) (λ t. inr (any_some test xs t))

  pub some_any : (test : A → Bool) (xs : List A) → Some (λ x. test x ≡ true) xs → any_of test xs ≡ true
  some_any test [] x' = elim x' [ ]
  some_any test (x ∷ xs) (inl t) = rw t
  some_any test (x ∷ xs) (inr s) = or_second (test x) _ (some_any test xs s)

  pub none_any : (test : A → Bool) (xs : List A) → any_of test xs ≡ false → All (λ x. test x ≡ false) xs
  none_any test [] h = tt
  none_any test (x ∷ xs) h = ((neither (test x) (any_of test xs) h).0, none_any test xs (neither (test x) (any_of test xs) h).1)

  pub member_get_or : (xs : List A) (k : ℕ) (d : A) → k < length xs → Member (get_or xs k d) xs
  member_get_or [] k d h = absurd (not-suc-le-zero h)
  member_get_or (x ∷ xs) zero d h = inl refl
  member_get_or (x ∷ xs) (suc k) d h = inr (member_get_or xs k d (omega arith))

  pub all_reverse_aux : (P : A → Type 0) (xs ys : List A) → All P xs → All P ys → All P (reverse_aux xs ys)
  all_reverse_aux P [] ys a b = b
  all_reverse_aux P (x ∷ xs) ys a b = all_reverse_aux P xs (x ∷ ys) a.1 (a.0, b)

  pub all_reverse : (P : A → Type 0) (xs : List A) → All P xs → All P (reverse xs)
  all_reverse P xs a = all_reverse_aux P xs [] a tt

pub all_of_map : {A B : Type 0} (P : B → Type 0) (f : A → B) (xs : List A) → All (λ x. P (f x)) xs → All P (map f xs)
all_of_map P f [] a = tt
all_of_map P f (x ∷ xs) a = (a.0, all_of_map P f xs a.1)

pub all_unmap : {A B : Type 0} (P : B → Type 0) (f : A → B) (xs : List A) → All P (map f xs) → All (λ x. P (f x)) xs
all_unmap P f [] a = tt
all_unmap P f (x ∷ xs) a = (a.0, all_unmap P f xs a.1)

pub some_of_map : {A B : Type 0} (P : B → Type 0) (f : A → B) (xs : List A) → Some (λ x. P (f x)) xs → Some P (map f xs)
some_of_map {A = A} {B = B} P f [] x' = elim x' [ ]
some_of_map P f (x ∷ xs) (inl p) = inl p
some_of_map P f (x ∷ xs) (inr s) = inr (some_of_map P f xs s)

pub some_unmap : {A B : Type 0} (P : B → Type 0) (f : A → B) (xs : List A) → Some P (map f xs) → Some (λ x. P (f x)) xs
some_unmap {A = A} {B = B} P f [] x' = elim x' [ ]
some_unmap P f (x ∷ xs) (inl p) = inl p
some_unmap P f (x ∷ xs) (inr s) = inr (some_unmap P f xs s)

-- Tests over lists of ids and of places: one turn of a loop over the list.
use Rattle.std.proofs.Common.{ℕ, suc, ◌+◌, ◌-◌, ◌<◌, ◌≡◌, Bool, true, false, not, List, [], ◌∷◌, length, get_or, take, drop, refl, sym, ◌∙◌}
use Rattle.std.specs.Prelude.{◌==◌}
use Rattle.std.specs.List.{list_any}
use native.Mathlib.Numerals.{add-one}
use lib.Seq.{drop-cons}
use Rattle.std.proofs.lemmas.List.{take_rest}
use Rattle.model.specs.Lists.{any_of}
use Rattle.model.specs.Tests.{decide, eqb-true, eqb-false, eqb_equal, eqb_apart}
use Rattle.model.specs.Job.{contains_id, repeats, block_id}
use Rattle.job.specs.Kept.{block_ids}
use Rattle.whole_job.specs.Ids.{any_unknown}

-- the test of `contains`
abbrev pub found_in : List ℕ → ℕ → Bool
found_in xs x = list_any (λ y. y == x) xs

either_way : (a b : ℕ) → (a == b) ≡ (b == a)
either_way a b =
    decide (a == b) (λ e. e ∙ sym (eqb_equal b a (sym (eqb-true a b e)))) (λ e. e ∙ sym (eqb_apart b a (λ q. eqb-false a b e (sym q))))

-- a number is found where the block id that it stands for is
pub found_is : (xs : List ℕ) (x : ℕ) → found_in xs x ≡ contains_id (block_ids xs) (block_id x)
found_is [] x = refl
found_is (y ∷ xs) x = rw (either_way y x, found_is xs x)

-- the same of the test that it is not found
pub unknown_is : (known ids : List ℕ) → list_any (λ x. not (found_in known x)) ids ≡ any_unknown (block_ids known) (block_ids ids)
unknown_is known [] = refl
unknown_is known (x ∷ ids) = rw (found_is known x, unknown_is known ids)

module _ (xs : List ℕ) (i : ℕ) where
  -- `contains` of the ids behind this one
  abbrev found_behind : Bool
  found_behind = found_in (take (length xs - (i + 1)) (drop (i + 1) xs)) (get_or xs i 0)

  behind : {b : Bool} → found_behind ≡ b → contains_id (block_ids (drop (suc i) xs)) (block_id (get_or xs i 0)) ≡ b
  behind e = rw (← found_is (drop (suc i) xs) (get_or xs i 0)) (simp (take_rest, add-one) at e)

  pub repeats_here : i < length xs → found_behind ≡ true → repeats (block_ids (drop i xs)) ≡ true
  repeats_here h e = rw (drop-cons xs i 0, behind e)

  pub repeats_next : i < length xs → found_behind ≡ false → repeats (block_ids (drop i xs)) ≡ repeats (block_ids (drop (i + 1) xs))
  repeats_next h e = rw (add-one, drop-cons xs i 0, behind e)

  -- some element passes a test
  pub any_here : (p : ℕ → Bool) → i < length xs → p (get_or xs i 0) ≡ true → any_of p (drop i xs) ≡ true
  any_here p h e = rw (drop-cons xs i 0, e)

  pub any_next : (p : ℕ → Bool) → i < length xs → p (get_or xs i 0) ≡ false → any_of p (drop i xs) ≡ any_of p (drop (i + 1) xs)
  any_next p h e = rw (add-one, drop-cons xs i 0, e)

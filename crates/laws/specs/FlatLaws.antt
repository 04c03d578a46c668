-- A forest as a list of nodes with parent numbers: entering a way down adds it to the forest, and
-- its first dependencies are the forest's.
use Rattle.std.specs.Prelude.{ℕ, suc, ◌≤◌, ◌≡◌, refl, Bool, ◌&&◌, List, [], ◌∷◌, eqb}
use Rattle.std.proofs.Common.{arith, sym, ◌∙◌}
use Rattle.model.specs.Tests.{by_cond, decide, and_first, eqb_same, eqb-true, eqb_apart}
use Rattle.model.specs.Forest.{Key, same_key, Forest, empty, position, chain, add, firsts}
use Rattle.laws.specs.Flat.{Node, grow, fresh, flat_firsts, enter}

module _ {P : Type 0} (test : P → Bool) where
  pub flat_firsts_lem : (xs : List (Node P)) (i p : ℕ) → flat_firsts test xs i p ≡ firsts test (grow xs i p)
  flat_firsts_lem [] i p = refl
  flat_firsts_lem (x ∷ xs) i p =
      rw (flat_firsts_lem xs (suc i) (suc i), flat_firsts_lem xs (suc i) p)
      (decide (eqb x.parent p) (λ e. rw e) (λ e. rw e))

module _ {P : Type 0} (key : P → Key) (merge : P → P → P) where
  fresh_frame : (i p q : ℕ) (ss : List P) → p ≤ i → ¬ (q ≡ p) → grow (fresh i q ss) i p ≡ empty
  fresh_frame i p q [] h n = refl
  fresh_frame i p q (s ∷ ss) h n = rw (eqb_apart q p n) (fresh_frame (suc i) p (suc i) ss (omega arith) (λ e. omega arith))

  -- a way down entered below q leaves what is below p, where both numbers lie before the list
  frame : (xs : List (Node P)) (i p q : ℕ) (ss : List P) → p ≤ i → q ≤ i → ¬ (q ≡ p) → grow (enter key merge xs i q ss) i p ≡ grow xs i p
  frame [] i p q ss h k n = fresh_frame i p q ss h n
  frame (x ∷ xs) i p q [] h k n = refl
  frame (x ∷ xs) i p q (s ∷ ss) h k n =
      by_cond (λ ys. grow ys i p ≡ grow (x ∷ xs) i p) (eqb x.parent q && same_key (key x.here) (key s))
      (λ e. rw (eqb_apart x.parent p (λ g. n (sym (eqb-true x.parent q (and_first _ _ e)) ∙ g)))
      (frame xs (suc i) p (suc i) ss (omega arith) (omega arith) (λ g. omega arith)))
      (λ e. rw (
        frame xs (suc i) (suc i) q (s ∷ ss) (omega arith) (omega arith) (λ g. omega arith),
        frame xs (suc i) p q (s ∷ ss) (omega arith)
            (omega arith) n,
      ))

  add_nil : (f : Forest P) → add key merge f [] ≡ f
  add_nil empty = refl
  add_nil (position n c r) = refl

  grow_fresh : (i p : ℕ) (ss : List P) → p ≤ i → grow (fresh i p ss) i p ≡ chain ss
  grow_fresh i p [] h = refl
  grow_fresh i p (s ∷ ss) h =
      rw (eqb_same p, grow_fresh (suc i) (suc i) ss (omega arith), fresh_frame (suc i) p (suc i) ss (omega arith) (λ e. omega arith))

  -- entering a way down into the list adds it to the forest
  pub grow_enter : (xs : List (Node P)) (i p : ℕ) (ss : List P) → p ≤ i
      → grow (enter key merge xs i p ss) i p ≡ add key merge (grow xs i p) ss
  grow_enter [] i p ss h = grow_fresh i p ss h
  grow_enter (x ∷ xs) i p [] h = sym (add_nil _)
  grow_enter (x ∷ xs) i p (s ∷ ss) h =
      decide (eqb x.parent p)
      (λ e. decide (same_key (key x.here) (key s))
      (λ k. rw (
        e,
        k,
        e,
        grow_enter xs (suc i) (suc i) ss (omega arith),
        frame xs (suc i) p (suc i) ss (omega arith) (omega arith) (λ g. omega arith),
      ))
      (λ k. rw (
        e,
        k,
        e,
        grow_enter xs (suc i) p (s ∷ ss) (omega arith),
        frame xs (suc i) (suc i) p (s ∷ ss) (omega arith) (omega arith) (λ g. omega arith),
      )))
      (λ e. rw (e, e) (grow_enter xs (suc i) p (s ∷ ss) (omega arith)))

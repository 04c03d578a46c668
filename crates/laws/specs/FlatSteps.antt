-- A flat forest one node at a time: a node found by its parent and key, a way down entered position
-- by position, and several ways down entered one after the other.
use Rattle.std.specs.Prelude.{ℕ, zero, suc, ◌+◌, ◌-◌, ◌≤◌, ◌<◌, ◌≡◌, refl, false, ◌&&◌, cond, length, eqb}
use Rattle.std.proofs.Common.{arith, sym, ap, ◌∙◌}
use mathlib.Core.List.{List, [], ◌∷◌, ◌++◌, foldl}
use Rattle.std.proofs.Math.Option.{Option, some, none}
use Rattle.model.specs.Tests.{by_cond, decide, and_first, eqb-true, eqb_apart}
use Rattle.model.specs.Forest.{Key, same_key, Forest, Found, find_key, add_all}
use Rattle.laws.specs.Flat.{Node, grow, enter}
use Rattle.laws.specs.FlatLaws.{grow_enter}

module _ {P : Type 0} where
  -- n nodes from number i on, where node j is v j
  abbrev pub run : (ℕ → Node P) → ℕ → ℕ → List (Node P)
  run v i zero = []
  run v i (suc n) = v i ∷ run v (suc i) n

  pub run_length : (v : ℕ → Node P) (i n : ℕ) → length (run v i n) ≡ n
  run_length v i zero = refl
  run_length v i (suc n) = ap suc (run_length v (suc i) n)

  pub run_same : (v w : ℕ → Node P) (i n : ℕ) → ((j : ℕ) → j < i + n → v j ≡ w j) → run v i n ≡ run w i n
  run_same v w i zero h = refl
  run_same v w i (suc n) h = λ d. h i (omega arith) d ∷ run_same v w (suc i) n (λ j l. h j (omega arith)) d

  pub run_snoc : (v : ℕ → Node P) (i n : ℕ) → run v i (suc n) ≡ run v i n ++ (v (i + n) ∷ [])
  run_snoc v i zero = let e : i + 0 ≡ i = omega arith in rw e
  run_snoc v i (suc n) = let e : i + suc n ≡ suc i + n = omega arith in rw e (ap (λ (l : List (Node P)). v i ∷ l) (run_snoc v (suc i) n))

  -- Each node stands after its parent, in a list that starts after i nodes.
  abbrev pub ParentsBefore : List (Node P) → ℕ → Type 0
  ParentsBefore [] i = Unit {0}
  ParentsBefore (x ∷ xs) i = (x.parent ≤ i) × ParentsBefore xs (suc i)

  pub run_before : (v : ℕ → Node P) (i n : ℕ) → ((j : ℕ) → j < i + n → (v j).parent ≤ j) → ParentsBefore (run v i n) i
  run_before v i zero h = tt
  run_before v i (suc n) h = (h i (omega arith), run_before v (suc i) n (λ j l. h j (omega arith)))

module _ {P : Type 0} (key : P → Key) where
  -- the number of the first node with this parent and key, in a list that starts after i nodes; 0
  -- where there is none
  abbrev pub seek : List (Node P) → ℕ → ℕ → Key → ℕ
  seek [] i p k = zero
  seek (x ∷ xs) i p k = cond (eqb x.parent p && same_key (key x.here) k) (suc i) (seek xs (suc i) p k)

  -- children stand after their parent, so the search may start there
  pub seek_after : (v : ℕ → Node P) (i d n : ℕ) (k : Key) → ((j : ℕ) → j < i + d → (v j).parent ≤ j)
      → seek (run v i (d + n)) i (i + d) k ≡ seek (run v (i + d) n) (i + d) (i + d) k
  seek_after v i zero n k h = let e : i + 0 ≡ i = omega arith in let z : 0 + n ≡ n = omega arith in rw (e, z)
  seek_after v i (suc d) n k h =
      let e : i + suc d ≡ suc i + d = omega arith in
      let z : suc d + n ≡ suc (d + n) = omega arith in
      let low = h i (omega arith) in
      rw (e, z, eqb_apart (v i).parent (suc i + d) (λ g. omega arith)) (seek_after v (suc i) d n k (λ j l. h j (omega arith)))

  -- The position with a number, among N nodes, and the forest below it; none for 0.
  abbrev pub found_at : (ℕ → Node P) → ℕ → ℕ → Option (Found P)
  found_at v N zero = none
  found_at v N (suc j) = some (record { here = (v j).here; children = grow (run v (suc j) (N - suc j)) (suc j) (suc j) })

  -- a key is found in the forest where it is found in the list
  pub grow_find : (v : ℕ → Node P) (N i n p : ℕ) (k : Key) → i + n ≡ N
      → find_key key (grow (run v i n) i p) k ≡ found_at v N (seek (run v i n) i p k)
  grow_find v N i zero p k e = refl
  grow_find v N i (suc n) p k e =
      let rest : n ≡ N - suc i = omega arith in
      decide (eqb (v i).parent p)
      (λ t. decide (same_key (key (v i).here) k)
      (λ s. rw (t, s) (ap (λ m. some (record { here = (v i).here; children = grow (run v (suc i) m) (suc i) (suc i) })) rest))
      (λ s. rw (t, s) (grow_find v N (suc i) n p k (omega arith))))
      (λ t. rw t (grow_find v N (suc i) n p k (omega arith)))

  module _ (merge : P → P → P) where
    -- the number of the position where a way down ends that is entered below number p
    abbrev pub reached : List (Node P) → ℕ → ℕ → List P → ℕ
    reached xs i p [] = p
    reached [] i p (s ∷ ss) = suc i + length ss
    reached (x ∷ xs) i p (s ∷ ss) =
        cond (eqb x.parent p && same_key (key x.here) (key s)) (reached xs (suc i) (suc i) ss)
        (reached xs (suc i) p (s ∷ ss))

    -- it is a new number, or that of a node of the list
    reached_above : (xs : List (Node P)) (i p : ℕ) (s : P) (ss : List P) → i < reached xs i p (s ∷ ss)
    reached_above [] i p s ss = omega arith
    reached_above (x ∷ xs) i p s [] =
        by_cond (λ n. i < n) (eqb x.parent p && same_key (key x.here) (key s)) (λ _. omega arith)
        (λ _. let h = reached_above xs (suc i) p s [] in omega arith)
    reached_above (x ∷ xs) i p s (t ∷ ts) =
        by_cond (λ n. i < n) (eqb x.parent p && same_key (key x.here) (key s))
        (λ _. let h = reached_above xs (suc i) (suc i) t ts in omega arith)
        (λ _. let h = reached_above xs (suc i) p s (t ∷ ts) in omega arith)

    reached_from : (xs : List (Node P)) (i : ℕ) (ss : List P) → i ≤ reached xs i i ss
    reached_from xs i [] = omega arith
    reached_from xs i (s ∷ ss) = let h = reached_above xs i i s ss in omega arith

    reached_new : (i : ℕ) (ss : List P) → reached [] i i ss ≡ i + length ss
    reached_new i [] = omega arith
    reached_new i (s ∷ ss) = omega arith

    -- One position more is entered below the number that was reached.
    abbrev OneMore : List (Node P) → ℕ → ℕ → List P → P → Type 0
    OneMore xs i p ss s =
        (enter key merge xs i p (ss ++ (s ∷ [])) ≡ enter key merge (enter key merge xs i p ss) i (reached xs i p ss) (s ∷ []))
        × (reached xs i p (ss ++ (s ∷ [])) ≡ reached (enter key merge xs i p ss) i (reached xs i p ss) (s ∷ []))

    fresh_more : (i p : ℕ) (ss : List P) (s : P) → p ≤ i → OneMore [] i p ss s
    fresh_more i p [] s h = (refl, refl)
    fresh_more i p (t ∷ ts) s h =
        let more = fresh_more (suc i) (suc i) ts s (omega arith) in
        let apart : eqb p (suc i + length ts) ≡ false = eqb_apart p (suc i + length ts) (λ g. omega arith) in
        let number = reached_new (suc i) ts in (
          rw (apart, ← number) (ap (λ (l : List (Node P)). record { parent = p; here = t } ∷ l) more.0),
          rw (apart, ← number) (sym (reached_new (suc i) (ts ++ (s ∷ []))) ∙ more.1),
        )

    pub one_more : (xs : List (Node P)) (i p : ℕ) (ss : List P) (s : P) → p ≤ i → ParentsBefore xs i → OneMore xs i p ss s
    one_more [] i p ss s h b = fresh_more i p ss s h
    one_more (x ∷ xs) i p [] s h b = (refl, refl)
    one_more (x ∷ xs) i p (t ∷ ts) s h b =
        decide (eqb x.parent p && same_key (key x.here) (key t))
        (λ e.
        let more = one_more xs (suc i) (suc i) ts s (omega arith) b.1 in
        let low = reached_from xs (suc i) ts in
        let is : x.parent ≡ p = eqb-true x.parent p (and_first (eqb x.parent p) _ e) in
        let apart : eqb x.parent (reached xs (suc i) (suc i) ts) ≡ false =
        eqb_apart x.parent (reached xs (suc i) (suc i) ts) (λ g. omega arith) in (
          rw (e, apart) (ap (λ (l : List (Node P)). record { parent = x.parent; here = merge x.here t } ∷ l) more.0),
          rw (e, apart) more.1,
        ))
        (λ e.
        let more = one_more xs (suc i) p (t ∷ ts) s (omega arith) b.1 in
        let low = reached_above xs (suc i) p t ts in
        let own = b.0 in
        let apart : eqb x.parent (reached xs (suc i) p (t ∷ ts)) ≡ false =
        eqb_apart x.parent (reached xs (suc i) p (t ∷ ts)) (λ g. omega arith) in (
          rw (e, apart) (ap (λ (l : List (Node P)). x ∷ l) more.0),
          rw (e, apart) more.1,
        ))

    -- A single position: where it is found nothing is made, ..
    enter_none : (xs : List (Node P)) (i p : ℕ) → enter key merge xs i p [] ≡ xs
    enter_none [] i p = refl
    enter_none (x ∷ xs) i p = refl

    pub one_new : (xs : List (Node P)) (i p : ℕ) (s : P) → seek xs i p (key s) ≡ 0
        → (enter key merge xs i p (s ∷ []) ≡ xs ++ (record { parent = p; here = s } ∷ [])) × (reached xs i p (s ∷ []) ≡ suc i + length xs)
    one_new [] i p s h = (refl, refl)
    one_new (x ∷ xs) i p s h =
        decide (eqb x.parent p && same_key (key x.here) (key s))
        (λ e. let z : suc i ≡ 0 = sym (ap (λ b. cond b (suc i) (seek xs (suc i) p (key s))) e) ∙ h in absurd (omega arith))
        (λ e.
        let rest = one_new xs (suc i) p s (sym (ap (λ b. cond b (suc i) (seek xs (suc i) p (key s))) e) ∙ h) in
        let n = rest.1 in
        (rw e (ap (λ (l : List (Node P)). x ∷ l) rest.0), rw e (omega arith)))

  -- .. nothing changes where the position that is there stays.
  pub one_found : (xs : List (Node P)) (i p : ℕ) (s : P) → ¬ (seek xs i p (key s) ≡ 0)
      → (enter key (λ old new. old) xs i p (s ∷ []) ≡ xs) × (reached (λ old new. old) xs i p (s ∷ []) ≡ seek xs i p (key s))
  one_found [] i p s h = absurd (h refl)
  one_found (x ∷ xs) i p s h =
      decide (eqb x.parent p && same_key (key x.here) (key s))
      (λ e. (rw (e, enter_none (λ old new. old) xs (suc i) (suc i)), rw e))
      (λ e.
      let rest = one_found xs (suc i) p s (λ z. h (ap (λ b. cond b (suc i) (seek xs (suc i) p (key s))) e ∙ z)) in
      (rw e (ap (λ (l : List (Node P)). x ∷ l) rest.0), rw e rest.1))

  module _ (merge : P → P → P) where
    -- Several ways down, one after the other, below the first positions.
    abbrev pub enter_all : List (Node P) → List (List P) → List (Node P)
    enter_all xs ways = foldl (λ ys way. enter key merge ys 0 0 way) xs ways

    pub grow_enter_all : (xs : List (Node P)) (ways : List (List P)) → grow (enter_all xs ways) 0 0 ≡ add_all key merge (grow xs 0 0) ways
    grow_enter_all xs [] = refl
    grow_enter_all xs (w ∷ ways) =
        grow_enter_all (enter key merge xs 0 0 w) ways
        ∙ ap (λ (f : Forest P). add_all key merge f ways) (grow_enter key merge xs 0 0 w (omega arith))

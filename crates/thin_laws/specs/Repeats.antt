-- A list of paths without its repeats: no two are equal, the first of equal paths stays, and the
-- order does. What holds of each path still does, nothing grows, there are no repeats left to drop,
-- and what goes through the list step by step ends the same where a repeat changes nothing.
use Rattle.std.specs.Prelude.{ℕ, ◌≤◌, ◌≡◌, Bool, true, false, ◌&&◌, ◌||◌, length, eqb}
use Rattle.std.proofs.Common.{le_refl, arith, sym, subst, ◌∙◌, inl, inr}
use Rattle.std.proofs.Math.Path.{refl, ap}
use mathlib.Core.List.{List, [], ◌∷◌, ◌++◌, foldl}
use Rattle.entries.specs.declared.DependencyPathEntry.{DependencyPathEntry}
use Rattle.entries.specs.Path.{same_entry, are_equal_paths, ReactiveScopeDependency}
use Rattle.model.specs.Lists.{any_of, sum_of}
use Rattle.model.specs.Tests.{by_cond, decide, never, eqb_same, eqb_equal, eqb-true, beq_same, and_first, and_second, or_second}
use Rattle.model.specs.ListLaws.{All, all_map}
use Rattle.model.proofs.RegistryLaws.{property_same, entry_same, entry_property, entry_optional}
use Rattle.model.specs.Thin.{same_path, thinned_after, thinned_paths}
use Rattle.laws.specs.Membership.{Some, some_map, any_some, some_any, neither}
use Rattle.thin_laws.specs.Statement.{NoRepeats, Sublist, Stays, Once}

-- Equal paths.

and_both : {a b : Bool} → a ≡ true → b ≡ true → a && b ≡ true
and_both p q = rw (p, q)

entry_back : (a b : DependencyPathEntry) → same_entry a b ≡ true → same_entry b a ≡ true
entry_back a b h = rw (entry_property a b h, entry_optional a b h) (and_both (property_same b.property) (beq_same b.optional))

entries_back : (es fs : List DependencyPathEntry) → are_equal_paths es fs ≡ true → are_equal_paths fs es ≡ true
entries_back [] [] h = refl
entries_back [] (f ∷ fs) h = never h refl
entries_back (e ∷ es) [] h = never h refl
entries_back (e ∷ es) (f ∷ fs) h = and_both (entry_back e f (and_first (same_entry e f) _ h))
    (entries_back es fs (and_second (same_entry e f) _ h))

pub same_path_back : (a b : ReactiveScopeDependency) → same_path a b ≡ true → same_path b a ≡ true
same_path_back a b h =
    let first = eqb a.identifier.0 b.identifier.0 in
    let number = eqb-true a.identifier.0 b.identifier.0 (and_first first _ h) in
    and_both (eqb_equal b.identifier.0 a.identifier.0 (sym number)) (entries_back a.path b.path (and_second first _ h))

entries_own : (es : List DependencyPathEntry) → are_equal_paths es es ≡ true
entries_own [] = refl
entries_own (e ∷ es) = and_both (entry_same e) (entries_own es)

same_path_own : (d : ReactiveScopeDependency) → same_path d d ≡ true
same_path_own d = and_both (eqb_same d.identifier.0) (entries_own d.path)

entry_through : (a b c : DependencyPathEntry) → same_entry a b ≡ true → same_entry b c ≡ true → same_entry a c ≡ true
entry_through a b c h g = rw (entry_property a b h, entry_optional a b h) g

entries_through : (es fs gs : List DependencyPathEntry) → are_equal_paths es fs ≡ true → are_equal_paths fs gs ≡ true
    → are_equal_paths es gs ≡ true
entries_through [] [] gs h k = k
entries_through [] (f ∷ fs) gs h k = never h refl
entries_through (e ∷ es) [] gs h k = never h refl
entries_through (e ∷ es) (f ∷ fs) [] h k = never k refl
entries_through (e ∷ es) (f ∷ fs) (g ∷ gs) h k =
    and_both (entry_through e f g (and_first (same_entry e f) _ h) (and_first (same_entry f g) _ k))
    (entries_through es fs gs (and_second (same_entry e f) _ h) (and_second (same_entry f g) _ k))

same_path_through : (a b c : ReactiveScopeDependency) → same_path a b ≡ true → same_path b c ≡ true → same_path a c ≡ true
same_path_through a b c h g =
    let first = eqb a.identifier.0 b.identifier.0 in
    let second = eqb b.identifier.0 c.identifier.0 in
    let number = eqb-true a.identifier.0 b.identifier.0 (and_first first _ h) in
    let next = eqb-true b.identifier.0 c.identifier.0 (and_first second _ g) in
    and_both (eqb_equal a.identifier.0 c.identifier.0 (number ∙ next))
    (entries_through a.path b.path c.path (and_second first _ h) (and_second second _ g))

-- No two of those that stay are equal.

-- none of them equals an earlier one
thinned_new : (earlier ds : List ReactiveScopeDependency) → All (λ d. any_of (same_path d) earlier ≡ false) (thinned_after earlier ds)
unfolding thinned_after
thinned_new earlier [] = tt
thinned_new earlier (d ∷ ds) =
    let New : ReactiveScopeDependency → Type 0 = λ x. any_of (same_path x) earlier ≡ false in
    let rest = all_map _ New (λ x h. (neither (same_path x d) _ h).1) (thinned_after (d ∷ earlier) ds) (thinned_new (d ∷ earlier) ds) in
    by_cond (All New) (any_of (same_path d) earlier) (λ _. rest) (λ new. (new, rest))

-- a path that none of a list equals has no equal in it
none_equal : (d : ReactiveScopeDependency) (xs : List ReactiveScopeDependency) → All (λ x. same_path x d ≡ false) xs
    → any_of (same_path d) xs ≡ false
none_equal d [] a = refl
none_equal d (x ∷ xs) a =
    rw (decide (same_path d x) (λ t. never (same_path_back d x t) a.0) (λ t. t)) (none_equal d xs a.1)

thinned_no_repeats : (earlier ds : List ReactiveScopeDependency) → NoRepeats (thinned_after earlier ds)
unfolding thinned_after
thinned_no_repeats earlier [] = tt
thinned_no_repeats earlier (d ∷ ds) =
    let rest = thinned_no_repeats (d ∷ earlier) ds in
    let kept = thinned_after (d ∷ earlier) ds in
    by_cond NoRepeats (any_of (same_path d) earlier) (λ _. rest)
    (λ _. (none_equal d kept (all_map _ _ (λ x h. (neither (same_path x d) _ h).0) kept (thinned_new (d ∷ earlier) ds)), rest))

-- Each has an equal one that stays, or one that was earlier.

abbrev Held : List ReactiveScopeDependency → List ReactiveScopeDependency → ReactiveScopeDependency → Type 0
Held earlier ts d = any_of (same_path d) ts || any_of (same_path d) earlier ≡ true

any_through : (x d : ReactiveScopeDependency) (es : List ReactiveScopeDependency) → same_path x d ≡ true → any_of (same_path d) es ≡ true
    → any_of (same_path x) es ≡ true
any_through x d es h t = some_any (same_path x) es (some_map _ _ (λ e g. same_path_through x d e h g) es (any_some (same_path d) es t))

thinned_each : (earlier ds : List ReactiveScopeDependency) → All (Held earlier (thinned_after earlier ds)) ds
unfolding thinned_after
thinned_each earlier [] = tt
thinned_each earlier (d ∷ ds) =
    let kept = thinned_after (d ∷ earlier) ds in
    by_cond (λ (ts : List ReactiveScopeDependency). All (Held earlier ts) (d ∷ ds)) (any_of (same_path d) earlier)
    (λ t. (or_second (any_of (same_path d) kept) _ t, all_map _ _ (λ x. dropped t x) ds (thinned_each (d ∷ earlier) ds)))
    (λ _. (
      rw (same_path_own d),
      all_map _ _ (λ x. or_moved (any_of (same_path x) kept) (same_path x d) _) ds (thinned_each (d ∷ earlier) ds),
    ))
  where
    or_moved : (a b c : Bool) → a || (b || c) ≡ true → (b || a) || c ≡ true
    or_moved true true c h = refl
    or_moved true false c h = refl
    or_moved false true c h = refl
    or_moved false false c h = h

    dropped : any_of (same_path d) earlier ≡ true → (x : ReactiveScopeDependency)
        → Held (d ∷ earlier) (thinned_after (d ∷ earlier) ds) x → Held earlier (thinned_after (d ∷ earlier) ds) x
    dropped t x h =
        let kept = any_of (same_path x) (thinned_after (d ∷ earlier) ds) in
        decide (same_path x d) (λ same. or_second kept _ (any_through x d earlier same t)) (λ other. rw other at h)

-- The order stays, and the first of equal paths.

sublist_more : {A : Type 0} (x : A) (ts xs : List A) → Sublist ts xs → Sublist ts (x ∷ xs)
sublist_more x [] xs s = tt
sublist_more x (t ∷ ts) xs s = inr s

thinned_in_order : (earlier ds : List ReactiveScopeDependency) → Sublist (thinned_after earlier ds) ds
unfolding thinned_after
thinned_in_order earlier [] = tt
thinned_in_order earlier (d ∷ ds) =
    let rest = thinned_in_order (d ∷ earlier) ds in
    by_cond (λ (ts : List ReactiveScopeDependency). Sublist ts (d ∷ ds)) (any_of (same_path d) earlier)
    (λ _. sublist_more d (thinned_after (d ∷ earlier) ds) ds rest) (λ _. inl (refl, rest))

first_after : (earlier before : List ReactiveScopeDependency) (d : ReactiveScopeDependency) (after : List ReactiveScopeDependency)
    → any_of (same_path d) earlier ≡ false → any_of (same_path d) before ≡ false
    → Stays before d after (thinned_after earlier (before ++ d ∷ after))
unfolding thinned_after
first_after earlier [] d after new first = record {
  earlier = [];
  later = thinned_after (d ∷ earlier) after;
  there = rw new;
  earlier_part = tt;
  later_part = thinned_in_order (d ∷ earlier) after;
}
first_after earlier (b ∷ bs) d after new first =
    let apart = neither (same_path d b) _ first in
    let s = first_after (b ∷ earlier) bs d after (rw apart.0 new) apart.1 in
    by_cond (Stays (b ∷ bs) d after) (any_of (same_path b) earlier)
    (λ _. record {
      earlier = s.earlier;
      later = s.later;
      there = s.there;
      earlier_part = sublist_more b s.earlier bs s.earlier_part;
      later_part = s.later_part;
    })
    (λ _. record {
      earlier = b ∷ s.earlier;
      later = s.later;
      there = ap (λ (r : List ReactiveScopeDependency). b ∷ r) s.there;
      earlier_part = inl (refl, s.earlier_part);
      later_part = s.later_part;
    })

pub thinned_once : (ds : List ReactiveScopeDependency) → Once ds (thinned_paths ds)
thinned_once ds = record {
  no_repeats = thinned_no_repeats [] ds;
  each_kept = all_map _ _ (λ d h. or_nothing _ h) ds (thinned_each [] ds);
  in_order = thinned_in_order [] ds;
  first_stays = λ before d after e first. subst (λ (xs : List ReactiveScopeDependency). Stays before d after (thinned_paths xs)) (sym e)
      (first_after [] before d after refl first);
}
  where
    or_nothing : (b : Bool) → b || false ≡ true → b ≡ true
    or_nothing true h = refl
    or_nothing false h = h

-- What is dropped and what stays.

pub thinned_all : (P : ReactiveScopeDependency → Type 0) (earlier ds : List ReactiveScopeDependency) → All P ds → All P
    (thinned_after earlier ds)
unfolding thinned_after
thinned_all P earlier [] a = tt
thinned_all P earlier (d ∷ ds) a =
    let rest = thinned_all P (d ∷ earlier) ds a.1 in
    by_cond (All P) (any_of (same_path d) earlier) (λ _. rest) (λ _. (a.0, rest))

pub thinned_length : (earlier ds : List ReactiveScopeDependency) → length (thinned_after earlier ds) ≤ length ds
unfolding thinned_after
thinned_length earlier [] = le_refl _
thinned_length earlier (d ∷ ds) =
    let rest = thinned_length (d ∷ earlier) ds in
    decide (any_of (same_path d) earlier) (λ t. rw t (omega arith)) (λ t. rw t (omega arith))

pub thinned_sum : (f : ReactiveScopeDependency → ℕ) (earlier ds : List ReactiveScopeDependency) → sum_of f
    (thinned_after earlier ds) ≤ sum_of f ds
unfolding thinned_after
thinned_sum f earlier [] = le_refl _
thinned_sum f earlier (d ∷ ds) =
    let rest = thinned_sum f (d ∷ earlier) ds in
    decide (any_of (same_path d) earlier) (λ t. rw t (omega arith)) (λ t. rw t (omega arith))

-- A list without repeats is not changed; `first` has no path that `earlier` has not.
thinned_again_after : (first earlier ds : List ReactiveScopeDependency)
    → ((d : ReactiveScopeDependency) → any_of (same_path d) first ≡ true → any_of (same_path d) earlier ≡ true)
    → thinned_after first (thinned_after earlier ds) ≡ thinned_after earlier ds
unfolding thinned_after
thinned_again_after first earlier [] less = refl
thinned_again_after first earlier (d ∷ ds) less =
    by_cond (λ (r : List ReactiveScopeDependency). thinned_after first r ≡ r) (any_of (same_path d) earlier)
    (λ _. thinned_again_after first (d ∷ earlier) ds (λ x h. or_second (same_path x d) _ (less x h)))
    (λ new. rw (new_there new) (ap (λ (r : List ReactiveScopeDependency). d ∷ r)
    (thinned_again_after (d ∷ first) (d ∷ earlier) ds (λ x h. or_onto (same_path x d) _ _ (less x) h))))
  where
    new_there : any_of (same_path d) earlier ≡ false → any_of (same_path d) first ≡ false
    new_there new = decide (any_of (same_path d) first) (λ t. never (less d t) new) (λ t. t)

    or_onto : (t x y : Bool) → (x ≡ true → y ≡ true) → t || x ≡ true → t || y ≡ true
    or_onto true x y f h = refl
    or_onto false x y f h = f h

pub thinned_again : (ds : List ReactiveScopeDependency) → thinned_after [] (thinned_after [] ds) ≡ thinned_after [] ds
thinned_again ds = thinned_again_after [] [] ds (λ d h. h)

-- Step by step through the list: where a step by a path makes it known, a path that is known stays
-- so, and a step by an equal path changes nothing, the repeats can be dropped. `Holds` is what
-- every step keeps.
module _ {S : Type 0} (step : S → ReactiveScopeDependency → S) (Holds : S → Type 0) (Known : S → ReactiveScopeDependency → Type 0)
    (holds : (s : S) (d : ReactiveScopeDependency) → Holds s → Holds (step s d))
    (own : (s : S) (d : ReactiveScopeDependency) → Holds s → Known (step s d) d)
    (kept : (s : S) (d e : ReactiveScopeDependency) → Known s e → Known (step s d) e)
    (again : (s : S) (d e : ReactiveScopeDependency) → Holds s → Known s e → same_path e d ≡ true → step s d ≡ s) where
  again_some : (s : S) (d : ReactiveScopeDependency) (earlier : List ReactiveScopeDependency) → Holds s → All (Known s) earlier
      → Some (λ e. same_path d e ≡ true) earlier → step s d ≡ s
  again_some s d [] h k x3 = elim x3 [ ]
  again_some s d (e ∷ es) h k (inl same) = again s d e h k.0 (same_path_back d e same)
  again_some s d (e ∷ es) h k (inr more) = again_some s d es h k.1 more

  thinned_steps : (s : S) (earlier ds : List ReactiveScopeDependency) → Holds s → All (Known s) earlier
      → foldl step s (thinned_after earlier ds) ≡ foldl step s ds
  unfolding thinned_after
  thinned_steps s earlier [] h k = refl
  thinned_steps s earlier (d ∷ ds) h k =
      by_cond (λ (r : List ReactiveScopeDependency). foldl step s r ≡ foldl step (step s d) ds) (any_of (same_path d) earlier)
      (λ t. let same = again_some s d earlier h k (any_some (same_path d) earlier t) in
      thinned_steps s (d ∷ earlier) ds h (subst (λ (x : S). Known x d) same (own s d h), k) ∙ ap (λ (x : S). foldl step x ds) (sym same))
      (λ _. thinned_steps (step s d) (d ∷ earlier) ds (holds s d h)
      (own s d h, all_map (Known s) (Known (step s d)) (λ e. kept s d e) earlier k))

  pub thinned_fold : (s : S) (ds : List ReactiveScopeDependency) → Holds s → foldl step s (thinned_after [] ds) ≡ foldl step s ds
  thinned_fold s ds h = thinned_steps s [] ds h tt

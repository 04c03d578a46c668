-- A join keeps the sets of a run's blocks non-nullish where the block on the run before (or after)
-- this one is among the joined neighbours, or where nothing joins. Nothing is said of loops here.
use Rattle.std.specs.Prelude.{ℕ, zero, suc, ◌≡◌, refl, ◌⊎◌, get_or, set}
use Rattle.std.proofs.Common.{arith, ap, subst, inl, inr}
use mathlib.Core.List.{List, [], ◌∷◌, map, foldl}
use Rattle.entries.specs.declared.NodeId.{NodeId}
use Rattle.model.specs.ReadingPaths.{Store}
use Rattle.model.specs.Sets.{NodeSet, contains, intersection}
use Rattle.model.specs.Reduction.{reduce_maybe_optional_chains}
use Rattle.model.specs.Propagation.{Work, set_of, intersection_of, join_with}
use Rattle.model.specs.ListLaws.{All, all_select}
use Rattle.model.specs.SetLaws.{union_all, contains_all}
use Rattle.model.specs.RegistryLaws.{Sound}
use Rattle.model.proofs.ReductionLaws.{reduction_extends, reduction_sound}
use Rattle.model.specs.PropagationLaws.{joined_set}
use Rattle.laws.specs.Membership.{Some, some_map, some_of_map, all_chosen, all_of}
use Rattle.safety.specs.RegistrySafe.{NonNullNode, NonNullSet, set_extends}
use Rattle.safety.specs.ReductionSafe.{reduction_safe}

cons_not_nil : {A : Type 0} {x : A} {xs : List A} → x ∷ xs ≡ [] → ⊥
cons_not_nil e = let z : ◌≡◌ {A = ℕ} 0 1 = cc in omega arith

-- what holds of each node of one of the sets holds of each node of their intersection
module _ (P : NodeId → Type 0) where
  pair_right : (s t : NodeSet) → All P t → All P (intersection s t)
  pair_right s t a = all_chosen P (contains t) s
      (all_of (λ x. contains t x ≡ mathlib.Core.Bool.true → P x) s (λ x m h. contains_all P t x a h))

  fold_all : (s : NodeSet) (ss : List NodeSet) → All P s ⊎ Some (All P) ss → All P (foldl intersection s ss)
  fold_all s [] (inr x'') = elim x'' [ ]
  fold_all s [] (inl a) = a
  fold_all s (t ∷ ts) (inl a) = fold_all (intersection s t) ts (inl (all_select P (contains t) s a))
  fold_all s (t ∷ ts) (inr (inl a)) = fold_all (intersection s t) ts (inl (pair_right s t a))
  fold_all s (t ∷ ts) (inr (inr b)) = fold_all (intersection s t) ts (inr b)

  pub intersection_all : (ss : List NodeSet) → (ss ≡ []) ⊎ Some (All P) ss → All P (intersection_of ss)
  unfolding intersection_of
  intersection_all [] h = tt
  intersection_all (s ∷ ss) (inl e) = absurd (cons_not_nil e)
  intersection_all (s ∷ ss) (inr h) = fold_all s ss h

-- a list after a store: at a place stands what was stored or what stood there
stored : {A : Type 0} (P : A → Type 0) (xs : List A) (b c : ℕ) (y d : A) → (c ≡ b → P y) → P (get_or xs c d) → P (get_or (set xs b y) c d)
stored P [] b c y d f h = h
stored P (x ∷ xs) zero zero y d f h = f refl
stored P (x ∷ xs) zero (suc c) y d f h = h
stored P (x ∷ xs) (suc b) zero y d f h = h
stored P (x ∷ xs) (suc b) (suc c) y d f h = stored P xs b c y d (λ e. f (ap suc e)) h

module _ {X : Type 0} (S : Store X) (On : ℕ → Type 0) where
  -- a sound registry, in which the sets of the blocks of the run are safe
  pub record NonNullOn (w : Work) : Type 0 where
    pub sound : Sound w.registry
    pub safe : (b : ℕ) → On b → NonNullSet S w.registry (set_of w.sets b)

  pub join_safe : (neighbours : List ℕ) (b : ℕ) (w : Work) → NonNullOn w → (On b → (neighbours ≡ []) ⊎ Some On neighbours)
      → NonNullOn (join_with reduce_maybe_optional_chains neighbours b w)
  unfolding join_with
  join_safe neighbours b w h before =
      let s = joined_set neighbours b w in
      let r = reduce_maybe_optional_chains w.registry s in
      record {
        sound = reduction_sound w.registry s h.sound;
        safe = λ c on. stored (NonNullSet S r.registry) w.sets b c r.set []
            (λ e. reduction_safe S w.registry s h.sound
            (union_all (NonNullNode S w.registry) (set_of w.sets b) (intersection_of (map (set_of w.sets) neighbours))
            (h.safe b (subst On e on)) (joined (before (subst On e on)))))
            (set_extends S (set_of w.sets c) (reduction_extends w.registry s) (h.safe c on));
      }
    where
      joined : (neighbours ≡ []) ⊎ Some On neighbours → NonNullSet S w.registry (intersection_of (map (set_of w.sets) neighbours))
      joined (inl e) = intersection_all (NonNullNode S w.registry) (map (set_of w.sets) neighbours)
          (inl (ap (map (set_of w.sets)) e))
      joined (inr s) = intersection_all (NonNullNode S w.registry) (map (set_of w.sets) neighbours)
          (inr (some_of_map (NonNullSet S w.registry) (set_of w.sets) neighbours
          (some_map On (λ c. NonNullSet S w.registry (set_of w.sets c)) (λ c on. h.safe c on) neighbours s)))

-- A way down that is added to a forest a second time, with others in between, changes nothing. So
-- it is with the walks of two candidates that have the same identifier and equal entries.
use Rattle.std.specs.Prelude.{◌≡◌, refl, Bool, true, false, ◌&&◌, ◌||◌, cond, List, [], ◌∷◌, eqb}
use Rattle.std.proofs.Common.{sym, ap, ◌∙◌}
use Rattle.std.proofs.Math.Option.{Option}
use Rattle.entries.specs.declared.DependencyPathEntry.{DependencyPathEntry}
use Rattle.entries.specs.declared.PropertyAccessType.{PropertyAccessType}
use Rattle.entries.specs.declared.PropertyAccessType.TheVariants.{
  OptionalAccess,
  UnconditionalAccess,
  OptionalDependency,
  UnconditionalDependency,
}
use Rattle.entries.specs.Path.{same_entry, are_equal_paths, ReactiveScopeDependency}
use Rattle.entries.specs.Access.{is_optional_access, is_dependency_access, merge_access}
use Rattle.model.specs.Tests.{by_cond, never, eqb-true, and_first, and_second}
use Rattle.model.proofs.RegistryLaws.{entry_property, entry_optional}
use Rattle.model.specs.Forest.{
  Key,
  identifier_key,
  property_key,
  same_key,
  Forest,
  empty,
  position,
  Found,
  find_key,
  child_by_key,
  add,
  add_all,
}
use Rattle.model.specs.Tree.{
  HoistablePosition,
  hoistable_key,
  DependencyPosition,
  dependency_key,
  merge_position,
  ended,
  at_non_null,
  step_access,
  step_to,
  walk_entries,
  root_position,
  walk_candidate,
}
use Rattle.laws.specs.ForestLaws.{key_same}
use Rattle.laws.specs.TreeLaws.{optional_of, dependency_of_lem}

-- Branches of a test.

either_onto : (b : Bool) {A B C D : Type 0} → (A → C) → (B → D) → cond b A B → cond b C D
either_onto true f g h = f h
either_onto false f g h = g h

either_equal : (b : Bool) {A B X : Type 0} {x y z : X} → (A → x ≡ z) → (B → y ≡ z) → cond b A B → cond b x y ≡ z
either_equal true f g h = f h
either_equal false f g h = g h

either_related : {X : Type 0} (R : X → X → Type 0) (b c : Bool) {x y v w : X} → b ≡ c → R x v → R y w → R (cond b x y) (cond c v w)
either_related R true true e f g = f
either_related R true false e f g = never (sym e) refl
either_related R false true e f g = never e refl
either_related R false false e f g = g

-- Forests.

module _ {P : Type 0} (key : P → Key) (merge : P → P → P) where
  -- the way down stands in the forest, and merging its positions changes none
  abbrev Has : Forest P → List P → Type 0
  Has empty [] = Unit {0}
  Has empty (s ∷ ss) = ⊥
  Has (position p c r) [] = Unit {0}
  Has (position p c r) (s ∷ ss) = cond (same_key (key p) (key s)) ((merge p s ≡ p) × Has c ss) (Has r (s ∷ ss))

  -- the second has the first one's key, and merging it after the first changes nothing
  pub record AlikeAt (s t : P) : Type 0 where
    pub same_key : key s ≡ key t
    pub alone : merge s t ≡ s
    pub after : (p : P) → merge (merge p s) t ≡ merge p s

  -- so it is place by place
  abbrev pub Alike : List P → List P → Type 0
  Alike [] [] = Unit {0}
  Alike [] (t ∷ ts) = ⊥
  Alike (s ∷ ss) [] = ⊥
  Alike (s ∷ ss) (t ∷ ts) = AlikeAt s t × Alike ss ts

  has_none : (f : Forest P) → Has f []
  has_none empty = tt
  has_none (position p c r) = tt

  -- what stands there is not changed
  added : (f : Forest P) (w : List P) → Has f w → add key merge f w ≡ f
  added empty [] h = refl
  added empty (s ∷ ss) h = absurd h
  added (position p c r) [] h = refl
  added (position p c r) (s ∷ ss) h =
      either_equal (same_key (key p) (key s)) (λ g i. position (g.0 i) (added c ss g.1 i) r)
      (λ g. ap (position p c) (added r (s ∷ ss) g)) h

  module _ (key-merge : (p s : P) → key (merge p s) ≡ key p) where
    -- what was added stands there
    brought : (f : Forest P) (v w : List P) → Alike v w → Has (add key merge f v) w
    brought f [] [] a = has_none (add key merge f [])
    brought f [] (t ∷ ts) a = absurd a
    brought f (s ∷ ss) [] a = absurd a
    brought empty (s ∷ ss) (t ∷ ts) a = rw (sym a.0.same_key, key_same (key s)) (a.0.alone, brought empty ss ts a.1)
    brought (position p c r) (s ∷ ss) (t ∷ ts) a =
        by_cond (λ (f : Forest P). Has f (t ∷ ts)) (same_key (key p) (key s))
        (λ e. rw (key-merge p s, sym a.0.same_key, e) (a.0.after p, brought c ss ts a.1))
        (λ e. rw (sym a.0.same_key, e) (brought r (s ∷ ss) (t ∷ ts) a))

    module _ (stay : (p s t : P) → merge p s ≡ p → merge (merge p t) s ≡ merge p t) where
      -- it stays there while others are added
      kept : (f : Forest P) (v w : List P) → Has f w → Has (add key merge f v) w
      kept f v [] h = has_none (add key merge f v)
      kept empty v (s ∷ ss) h = absurd h
      kept (position p c r) [] (s ∷ ss) h = h
      kept (position p c r) (t ∷ ts) (s ∷ ss) h =
          by_cond (λ (f : Forest P). Has f (s ∷ ss)) (same_key (key p) (key t))
          (λ e. rw (key-merge p t) (either_onto (same_key (key p) (key s)) (λ g. (stay p s t g.0, kept c ts ss g.1)) (λ g. g) h))
          (λ e. either_onto (same_key (key p) (key s)) (λ g. g) (kept r (t ∷ ts) (s ∷ ss)) h)

      kept_all : (f : Forest P) (vs : List (List P)) (w : List P) → Has f w → Has (add_all key merge f vs) w
      kept_all f [] w h = h
      kept_all f (v ∷ vs) w h = kept_all (add key merge f v) vs w (kept f v w h)

      -- A way down added a second time, with others in between.
      pub added_again : (f : Forest P) (v w : List P) (vs : List (List P)) → Alike v w
          → add key merge (add_all key merge (add key merge f v) vs) w ≡ add_all key merge (add key merge f v) vs
      added_again f v w vs a = added (add_all key merge (add key merge f v) vs) w (kept_all (add key merge f v) vs w (brought f v w a))

-- Access kinds: merging one again changes nothing, whatever was merged in between.

and_exchange : (a b c : Bool) → (a && b) && c ≡ (a && c) && b
and_exchange true true c = sym (and_yes c)
  where
    and_yes : (x : Bool) → x && true ≡ x
    and_yes true = refl
    and_yes false = refl
and_exchange true false true = refl
and_exchange true false false = refl
and_exchange false b c = refl

or_exchange : (a b c : Bool) → (a || b) || c ≡ (a || c) || b
or_exchange true b c = refl
or_exchange false true true = refl
or_exchange false true false = refl
or_exchange false false true = refl
or_exchange false false false = refl

and_twice : (a b : Bool) → (a && b) && b ≡ a && b
and_twice true true = refl
and_twice true false = refl
and_twice false b = refl

or_twice : (a b : Bool) → (a || b) || b ≡ a || b
or_twice true b = refl
or_twice false true = refl
or_twice false false = refl

access_exchange : (a b c : PropertyAccessType) → merge_access (merge_access a b) c ≡ merge_access (merge_access a c) b
access_exchange a b c = rw (
  optional_of (is_optional_access a && is_optional_access b) (is_dependency_access a || is_dependency_access b),
  dependency_of_lem (is_optional_access a && is_optional_access b) (is_dependency_access a || is_dependency_access b),
  optional_of (is_optional_access a && is_optional_access c) (is_dependency_access a || is_dependency_access c),
  dependency_of_lem (is_optional_access a && is_optional_access c) (is_dependency_access a || is_dependency_access c),
  and_exchange (is_optional_access a) (is_optional_access b) (is_optional_access c),
  or_exchange (is_dependency_access a) (is_dependency_access b) (is_dependency_access c),
)

access_self : (a : PropertyAccessType) → merge_access a a ≡ a
access_self OptionalAccess = refl
access_self UnconditionalAccess = refl
access_self OptionalDependency = refl
access_self UnconditionalDependency = refl

access_twice : (a b : PropertyAccessType) → merge_access (merge_access a b) b ≡ merge_access a b
access_twice a b = rw (
  optional_of (is_optional_access a && is_optional_access b) (is_dependency_access a || is_dependency_access b),
  dependency_of_lem (is_optional_access a && is_optional_access b) (is_dependency_access a || is_dependency_access b),
  and_twice (is_optional_access a) (is_optional_access b),
  or_twice (is_dependency_access a) (is_dependency_access b),
)

-- Positions of the dependency tree.

merged_stays : (p s t : DependencyPosition) → merge_position p s ≡ p → merge_position (merge_position p t) s ≡ merge_position p t
merged_stays p s t e =
    let whole : merge_access (merge_access p.access t.access) s.access ≡ merge_access p.access t.access = access_exchange
    p.access t.access s.access ∙ ap (λ (q : DependencyPosition). merge_access q.access t.access) e in
    λ i. record { key = p.key; access = whole i; span = p.span; reactive = p.reactive }

-- positions with one key and one access; spans and reactive do not matter
positions_alike : (p q : DependencyPosition) → p.key ≡ q.key → p.access ≡ q.access → AlikeAt dependency_key merge_position p q
positions_alike p q k a =
    let own : merge_access p.access q.access ≡ p.access = ap (merge_access p.access) (sym a) ∙ access_self p.access in
    let alone : merge_position p q ≡ p = λ i. record { key = p.key; access = own i; span = p.span; reactive = p.reactive } in
    record {
      same_key = k;
      alone = alone;
      after = λ r.
          let x = r.access in
          let again : merge_access (merge_access x p.access) q.access ≡ merge_access x p.access = ap
          (merge_access (merge_access x p.access)) (sym a) ∙ access_twice x p.access in
          λ i. record { key = r.key; access = again i; span = r.span; reactive = r.reactive };
    }

-- The walks of two candidates.

abbrev AlikeWalks : List DependencyPosition → List DependencyPosition → Type 0
AlikeWalks = Alike dependency_key merge_position

ends_alike : (p q : DependencyPosition) → p.key ≡ q.key → p.access ≡ q.access → AlikeWalks (ended p ∷ []) (ended q ∷ [])
ends_alike p q k a = (positions_alike (ended p) (ended q) k (ap (λ (x : PropertyAccessType). merge_access x OptionalDependency) a), tt)

entries_alike : {h g : Option (Found HoistablePosition)} → h ≡ g → (p q : DependencyPosition) → p.key ≡ q.key → p.access ≡ q.access
    → (es fs : List DependencyPathEntry) → are_equal_paths es fs ≡ true → AlikeWalks (walk_entries h p es) (walk_entries g q fs)
unfolding walk_entries
entries_alike there p q k a [] [] same = ends_alike p q k a
entries_alike there p q k a [] (f ∷ fs) same = never same refl
entries_alike there p q k a (e ∷ es) [] same = never same refl
entries_alike {h} {g} there p q k a (e ∷ es) (f ∷ fs) same =
    let equal = and_first (same_entry e f) _ same in
    let property = entry_property e f equal in
    let optional = entry_optional e f equal in
    let step = ap (λ (o : Option (Found HoistablePosition)). step_access (at_non_null o)) there in
    either_related AlikeWalks (at_non_null h || e.optional) (at_non_null g || f.optional) (λ i. at_non_null (there i) || optional i) (
      positions_alike p q k a,
      entries_alike {h = child_by_key hoistable_key h (property_key e.property)} {g =
          child_by_key hoistable_key g (property_key f.property)}
          (λ i. child_by_key hoistable_key (there i) (property_key (property i)))
          (step_to e (step_access (at_non_null h))) (step_to f (step_access (at_non_null g))) (ap property_key property) step es fs
          (and_second (same_entry e f) _ same),
    )
    (ends_alike p q k a)

candidates_alike : (t : Forest HoistablePosition) (d e : ReactiveScopeDependency) → eqb d.identifier.0 e.identifier.0 ≡ true
    → are_equal_paths d.path e.path ≡ true → AlikeWalks (walk_candidate t d) (walk_candidate t e)
unfolding walk_candidate
candidates_alike t d e same equal =
    let number : d.identifier.0 ≡ e.identifier.0 = eqb-true d.identifier.0 e.identifier.0 same in
    let key : identifier_key d.identifier ≡ identifier_key e.identifier = λ i. identifier_key (record { 0 = number i }) in
    entries_alike (ap (find_key hoistable_key t) key) (root_position d) (root_position e) key refl d.path e.path equal

-- The walk of a candidate with the same identifier and equal entries, added after others, does not
-- change the dependency tree.
pub walk_again : (t : Forest HoistablePosition) (f : Forest DependencyPosition) (d e : ReactiveScopeDependency)
    (vs : List (List DependencyPosition)) → eqb d.identifier.0 e.identifier.0 ≡ true
    → are_equal_paths d.path e.path ≡ true
    → add dependency_key merge_position
    (add_all dependency_key merge_position (add dependency_key merge_position f (walk_candidate t d)) vs)
    (walk_candidate t e) ≡ add_all dependency_key merge_position (add dependency_key merge_position f (walk_candidate t d)) vs
walk_again t f d e vs same equal = added_again dependency_key merge_position (λ p s. refl) merged_stays f (walk_candidate t d)
    (walk_candidate t e) vs (candidates_alike t d e same equal)

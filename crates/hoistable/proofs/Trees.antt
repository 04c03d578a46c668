-- What the hoistable tree says along a candidate's names is what the paths decide: each level by
-- the first path that reaches it.
use Prim.Native.Nat.{ℕ}
use native.Mathlib.Omega.{arith}
use mathlib.Core.Path.{◌≡◌, refl, sym, ap, ◌∙◌}
use mathlib.Core.Bool.{Bool, true, false, not, cond, not-not}
use mathlib.Core.List.{List, [], ◌∷◌, ◌++◌, map, map-append}
use mathlib.Core.Option.{none}
use Rattle.entries.specs.declared.IdentifierId.{IdentifierId}
use Rattle.entries.specs.declared.DependencyPathEntry.{DependencyPathEntry}
use Rattle.entries.specs.declared.HoistableAccessType.TheVariants.{Optional, NonNull}
use Rattle.entries.specs.Path.{ReactiveScopeDependency}
use Rattle.model.specs.Lists.{select}
use Rattle.model.specs.Tests.{by_cond, decide}
use Rattle.model.specs.Sets.{NodeSet}
use Rattle.model.specs.Registry.{PropertyPathRegistry, full_path_of}
use Rattle.model.specs.Forest.{Key, identifier_key, property_key, same_key, Forest, empty, position, find_key, chain, add, add_all}
use Rattle.model.specs.Tree.{
  HoistablePosition,
  hoistable_key,
  hoistable_positions,
  hoistable_entries,
  hoistable_tree,
  ordered,
  first_made,
  access_before,
  access_is_non_null,
  starts_optional,
}
use Rattle.laws.specs.ForestLaws.{key_true, key_apart}
use Rattle.laws.specs.TreeLaws.{name_keys}
use Rattle.hoistable.specs.declared.Levels.{Levels}
use Rattle.hoistable.specs.Levels.{levels_of, non_null_levels, number_of}
use Rattle.hoistable.specs.Agreement.{agreed, levels_along, over, decided, HoldsLevels}

-- Several lists, the first ones first.

pub over_none : (xs : List Bool) → over xs [] ≡ xs
over_none [] = refl
over_none (x ∷ xs) = refl

over_assoc : (xs ys zs : List Bool) → over (over xs ys) zs ≡ over xs (over ys zs)
over_assoc [] ys zs = refl
over_assoc (x ∷ xs) [] zs = refl
over_assoc (x ∷ xs) (y ∷ ys) [] = refl
over_assoc (x ∷ xs) (y ∷ ys) (z ∷ zs) = ap (λ bs. x ∷ bs) (over_assoc xs ys zs)

abbrev over_all : List Bool → List (List Bool) → List Bool
over_all xs [] = xs
over_all xs (y ∷ ys) = over_all (over xs y) ys

over_all_lem : (xs : List Bool) (ys : List (List Bool)) → over_all xs ys ≡ over xs (over_all [] ys)
over_all_lem xs [] = sym (over_none xs)
over_all_lem xs (y ∷ ys) = over_all_lem (over xs y) ys ∙ over_assoc xs y (over_all [] ys) ∙ ap (over xs) (sym (over_all_lem y ys))

over_append : (xs : List Bool) (ys zs : List (List Bool)) → over_all xs (ys ++ zs) ≡ over (over_all xs ys) (over_all [] zs)
over_append xs [] zs = over_all_lem xs zs
over_append xs (y ∷ ys) zs = over_append (over xs y) ys zs

-- The positions along keys.

abbrev is_optional : HoistablePosition → Bool
is_optional p = not (access_is_non_null p.access)

-- of a forest: whether each is Optional
abbrev tree_levels : Forest HoistablePosition → List Key → List Bool
tree_levels empty ks = []
tree_levels (position p c r) [] = []
tree_levels (position p c r) (k ∷ ks) = cond (same_key p.key k) (is_optional p ∷ tree_levels c ks) (tree_levels r (k ∷ ks))

-- of a way down
abbrev way_levels : List HoistablePosition → List Key → List Bool
way_levels [] ks = []
way_levels (p ∷ ps) [] = []
way_levels (p ∷ ps) (k ∷ ks) = cond (same_key p.key k) (is_optional p ∷ way_levels ps ks) []

chain_levels : (ps : List HoistablePosition) (ks : List Key) → tree_levels (chain ps) ks ≡ way_levels ps ks
chain_levels [] ks = refl
chain_levels (p ∷ ps) [] = refl
chain_levels (p ∷ ps) (k ∷ ks) = ap (λ bs. cond (same_key p.key k) (is_optional p ∷ bs) []) (chain_levels ps ks)

-- a way down that is added decides the levels after those that the forest has
add_levels : (f : Forest HoistablePosition) (ps : List HoistablePosition) (ks : List Key) → tree_levels (add hoistable_key first_made f ps) ks ≡ over
    (tree_levels f ks) (way_levels ps ks)
add_levels empty ps ks = chain_levels ps ks
add_levels (position n c r) [] ks = sym (over_none (tree_levels (position n c r) ks))
add_levels (position n c r) (p ∷ ps) [] = by_cond (λ f. tree_levels f [] ≡ []) (same_key n.key p.key) (λ _. refl) (λ _. refl)
add_levels (position n c r) (p ∷ ps) (k ∷ ks) =
    decide (same_key n.key p.key)
    (λ e. decide (same_key n.key k)
    (λ g. rw (e, sym (key_true n.key p.key e), g) (ap (λ bs. is_optional n ∷ bs) (add_levels c ps ks)))
    (λ g. rw (e, sym (key_true n.key p.key e), g) (sym (over_none (tree_levels r (k ∷ ks))))))
    (λ e. decide (same_key n.key k)
    (λ g. let apart : same_key p.key k ≡ false = rw (sym (key_true n.key k g)) (key_apart n.key p.key e) in rw (e, g, apart))
    (λ g. rw (e, g) (add_levels r (p ∷ ps) (k ∷ ks))))

abbrev way_levels_at : List Key → List HoistablePosition → List Bool
way_levels_at ks ps = way_levels ps ks

all_levels : (f : Forest HoistablePosition) (ws : List (List HoistablePosition)) (ks : List Key)
    → tree_levels (add_all hoistable_key first_made f ws) ks ≡ over_all (tree_levels f ks) (map (way_levels_at ks) ws)
all_levels f [] ks = refl
all_levels f (w ∷ ws) ks = all_levels (add hoistable_key first_made f w) ws ks ∙ ap (λ bs. over_all bs (map (way_levels_at ks) ws)) (add_levels f w ks)

-- The positions of a path along a candidate's names.

before_optional : (ds : List DependencyPathEntry) → not (access_is_non_null (access_before ds)) ≡ starts_optional ds
before_optional ds = go (starts_optional ds)
  where
    go : (b : Bool) → not (access_is_non_null (cond b Optional NonNull)) ≡ b
    go true = refl
    go false = refl

abbrev position_before : Key → List DependencyPathEntry → HoistablePosition
position_before k ds = record { key = k; access = access_before ds }

path_levels : (j k : Key) (ds es : List DependencyPathEntry) → way_levels (position_before j ds ∷ hoistable_entries ds) (k ∷ name_keys es) ≡ cond (same_key j k)
    (agreed ds es) []
path_levels j k [] es = refl
path_levels j k (d ∷ ds) [] = ap (λ b. cond (same_key j k) (b ∷ []) []) (before_optional (d ∷ ds))
path_levels j k (d ∷ ds) (e ∷ es) =
    ap (λ b. cond (same_key j k) (b ∷ way_levels (position_before (property_key d.property) ds ∷ hoistable_entries ds) (name_keys (e ∷ es))) [])
    (before_optional (d ∷ ds))
    ∙ ap (λ bs. cond (same_key j k) (d.optional ∷ bs) []) (path_levels (property_key d.property) (property_key e.property) ds es)

paths_levels : (i : IdentifierId) (es : List DependencyPathEntry) (ds : List ReactiveScopeDependency)
    → map (way_levels_at (identifier_key i ∷ name_keys es)) (map hoistable_positions ds) ≡ map (levels_along i es) ds
paths_levels i es [] = refl
paths_levels i es (d ∷ ds) = λ j. path_levels (identifier_key d.identifier) (identifier_key i) d.path es j ∷ paths_levels i es ds j

-- "Paths with an optional first entry ahead": what all decide is what those decide, and then the
-- others.
decided_split : (i : IdentifierId) (es : List DependencyPathEntry) (xs ys : List Bool) (ds : List ReactiveScopeDependency)
    → decided i es xs ys ds
    ≡ over (over_all xs (map (levels_along i es) (select (λ d. starts_optional d.path) ds)))
    (over_all ys (map (levels_along i es) (select (λ d. not (starts_optional d.path)) ds)))
unfolding decided
decided_split i es xs ys [] = refl
decided_split i es xs ys (d ∷ ds) =
    decide (starts_optional d.path)
    (λ e. rw e (decided_split i es (over xs (levels_along i es d)) ys ds))
    (λ e. rw e (decided_split i es xs (over ys (levels_along i es d)) ds))

tree_decided : (i : IdentifierId) (es : List DependencyPathEntry) (ds : List ReactiveScopeDependency) → tree_levels (hoistable_tree ds)
    (identifier_key i ∷ name_keys es) ≡ decided i es [] [] ds
unfolding hoistable_tree ordered
tree_decided i es ds =
    let p : ReactiveScopeDependency → Bool = λ d. starts_optional d.path in
    let q : ReactiveScopeDependency → Bool = λ d. not (starts_optional d.path) in
    all_levels empty (map hoistable_positions (ordered ds)) (identifier_key i ∷ name_keys es)
    ∙ ap (over_all []) (paths_levels i es (ordered ds) ∙ map-append (levels_along i es) (select p ds) (select q ds))
    ∙ over_append [] (map (levels_along i es) (select p ds)) (map (levels_along i es) (select q ds))
    ∙ sym (decided_split i es [] [] ds)

-- Levels that the tree does not have add nothing to the number.

pub none_levels : (es : List DependencyPathEntry) → number_of (levels_of none es) ≡ 0
unfolding number_of levels_of
none_levels [] = refl
none_levels (e ∷ es) = let h = none_levels es in omega arith

tree_none : (f : Forest HoistablePosition) → tree_levels f [] ≡ []
tree_none empty = refl
tree_none (position p c r) = refl

levels_number : (f : Forest HoistablePosition) (k : Key) (es : List DependencyPathEntry) → number_of (levels_of (find_key hoistable_key f k) es) ≡ number_of
    (map not (tree_levels f (k ∷ name_keys es)))
unfolding number_of levels_of
levels_number empty k es = none_levels es
levels_number (position p c r) k [] =
    decide (same_key p.key k) (λ e. rw (e, tree_none c, not-not (access_is_non_null p.access))) (λ e. rw e (levels_number r k []))
levels_number (position p c r) k (e ∷ es) =
    decide (same_key p.key k)
    (λ g. rw (g, not-not (access_is_non_null p.access), levels_number c (property_key e.property) es))
    (λ g. rw g (levels_number r k (e ∷ es)))

-- What is NonNull in the tree is what the paths do not decide to be Optional.
module _ (reg : PropertyPathRegistry) (set : NodeSet) (i : IdentifierId) (es : List DependencyPathEntry) where
  turned_number : number_of (map not (decided i es [] [] (map (full_path_of reg) set))) ≡ number_of (non_null_levels reg set i es)
  unfolding non_null_levels
  turned_number =
      let ds = map (full_path_of reg) set in
      ap (λ xs. number_of (map not xs)) (sym (tree_decided i es ds)) ∙ sym (levels_number (hoistable_tree ds) (identifier_key i) es)

  -- a number that turns each bit of the list that the code holds
  pub decided_number : {v : Levels} {r : ℕ} → HoldsLevels (decided i es [] [] (map (full_path_of reg) set)) v →
      ((xs : List Bool) → HoldsLevels xs v → r ≡ number_of (map not xs)) → r ≡ number_of (non_null_levels reg set i es)
  decided_number h turns = turns (decided i es [] [] (map (full_path_of reg) set)) h ∙ turned_number

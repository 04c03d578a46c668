-- The tree's part of safety: where each hoistable path reads to a non-nullish value, no returned
-- path throws. Each position of the hoistable tree has a non-nullish value, and a candidate's entry
-- is plain only where the value before it is that of such a position.
use Rattle.std.specs.Prelude.{◌≡◌, refl, true, false, ◌&&◌, ◌||◌}
use Rattle.std.proofs.Common.{sym, subst, ◌∙◌}
use Rattle.std.proofs.Math.Bool.{Bool, not, and-true}
use mathlib.Core.List.{List, [], ◌∷◌, map}
use Rattle.std.proofs.Math.Option.{Option, some, none}
use Rattle.entries.specs.declared.PropertyLiteral.{PropertyLiteral}
use Rattle.entries.specs.declared.DependencyPathEntry.{DependencyPathEntry}
use Rattle.entries.specs.Path.{ReactiveScopeDependency}
use Rattle.model.specs.Tests.{by_cond, never}
use Rattle.model.specs.ListLaws.{All, all_map, all_both, all_select, all_append}
use Rattle.model.specs.ReadingPaths.{Value, null, undefined, value, Store, throws, reads_to, read_from, Throws, NonNullish}
use Rattle.entries.specs.Access.{is_optional_access}
use Rattle.model.specs.Forest.{Key, identifier_key, property_key, same_key, Forest, empty, position, Found, find_key, child_by_key, firsts}
use Rattle.model.specs.Tree.{
  starts_optional,
  ordered,
  HoistablePosition,
  hoistable_key,
  hoistable_entries,
  hoistable_positions,
  first_made,
  hoistable_tree,
  DependencyPosition,
  dependency_key,
  is_dependency,
  merge_position,
  ended,
  at_non_null,
  step_access,
  step_to,
  walk_entries,
  root_position,
  walk_candidate,
  dependency_tree,
  key_identifier,
  key_property,
  entry_of,
  dependency_of,
  derive_minimal_dependencies,
}
use Rattle.laws.specs.Membership.{all_of, all_of_map}
use Rattle.safety.specs.ReadingPathsLaws.{NonNull, NoThrow, nullish_not}
use Rattle.laws.specs.ForestLaws.{key_true, Along, WayAlong, firsts_along, along_add_all}
use Rattle.laws.specs.TreeLaws.{optional_of, Properties, Rooted, ways_rooted}

both_false : {A : Type 0} (a b : Bool) → (a ≡ false → A) → (b ≡ false → A) → a && b ≡ false → A
both_false true b f g h = g h
both_false false b f g h = f refl

module _ {X : Type 0} (S : Store X) where
  -- the value that a way down has come to: none at its start
  abbrev Base : Type 0
  Base = Option (Value X)

  abbrev property_at : Value X → PropertyLiteral → Value X
  property_at null p = undefined
  property_at undefined p = undefined
  property_at (value x) p = S.of_property x p

  abbrev next : Base → Key → Base
  next b (identifier_key i) = some (S.of_identifier i)
  next none (property_key p) = none
  next (some v) (property_key p) = some (property_at v p)

  abbrev Solid : Base → Type 0
  Solid none = Unit {0}
  Solid (some v) = NonNullish {X = X} (reads_to v)

  -- a hoistable position's own value is non-nullish; so is the value before a dependency position
  -- that is not optional
  abbrev SolidHere : Base → HoistablePosition → Type 0
  SolidHere b n = Solid (next b n.key)

  abbrev SolidBefore : Base → DependencyPosition → Type 0
  SolidBefore b p = is_optional_access p.access ≡ false → Solid b

  abbrev HoistableAlong : Base → Forest HoistablePosition → Type 0
  HoistableAlong = Along hoistable_key next SolidHere

  -- A path that reads to a non-nullish value has only such on its way.

  solid_entries : (v : Value X) (es : List DependencyPathEntry) → NonNullish (read_from S v es) → NonNullish {X = X} (reads_to v)
      × WayAlong hoistable_key next SolidHere (some v) (hoistable_entries es)
  solid_entries v [] h = (h, tt)
  solid_entries null (e ∷ es) h = absurd (nullish_not S e h)
  solid_entries undefined (e ∷ es) h = absurd (nullish_not S e h)
  solid_entries (value x) (e ∷ es) h = (tt, solid_entries (S.of_property x e.property) es h)

  solid_path : (d : ReactiveScopeDependency) → NonNull S d → WayAlong hoistable_key next SolidHere none (hoistable_positions d)
  solid_path d h = solid_entries (S.of_identifier d.identifier) d.path h

  hoistable_along : (hs : List ReactiveScopeDependency) → All (NonNull S) hs → HoistableAlong none (hoistable_tree hs)
  unfolding hoistable_tree ordered
  hoistable_along hs safe =
      let ahead : ReactiveScopeDependency → Bool = λ d. starts_optional d.path in
      let behind : ReactiveScopeDependency → Bool = λ d. not (starts_optional d.path) in
      along_add_all hoistable_key next SolidHere first_made (λ a b. refl) (λ b n s g h. g) none empty
      (map hoistable_positions (ordered hs)) tt
      (all_of_map (WayAlong hoistable_key next SolidHere none) hoistable_positions (ordered hs)
      (all_map (NonNull S) (λ d. WayAlong hoistable_key next SolidHere none (hoistable_positions d)) solid_path (ordered hs)
      (all_append (NonNull S) (Rattle.model.specs.Lists.select ahead hs) (Rattle.model.specs.Lists.select behind hs)
      (all_select (NonNull S) ahead hs safe) (all_select (NonNull S) behind hs safe))))

  -- A walk's plain entries have a non-nullish base.

  ended_before : (b : Base) (p : DependencyPosition) → SolidBefore b p → SolidBefore b (ended p)
  ended_before b p h e = h (sym (optional_of (is_optional_access p.access && true) (is_dependency p || true) ∙ and-true
      (is_optional_access p.access)) ∙ e)

  merged_before : (b : Base) (p q : DependencyPosition) → SolidBefore b p → SolidBefore b q → SolidBefore b (merge_position p q)
  merged_before b p q g h e =
      both_false (is_optional_access p.access) (is_optional_access q.access) g h
      (sym (optional_of (is_optional_access p.access && is_optional_access q.access) (is_dependency p || is_dependency q)) ∙ e)

  -- what is known of the hoistable tree's place, where the walk has come to the value of b
  abbrev Cursor : Base → Option (Found HoistablePosition) → Type 0
  Cursor b none = Unit {0}
  Cursor b (some f) = Solid b × HoistableAlong b f.children

  step_solid : (b : Base) (h : Option (Found HoistablePosition)) → Cursor b h → is_optional_access (step_access (at_non_null h)) ≡ false
      → Solid b
  step_solid b none k e = never refl e
  step_solid b (some f) k e = k.0

  find_cursor : (b : Base) (f : Forest HoistablePosition) (k : Key) → HoistableAlong b f → Cursor (next b k) (find_key hoistable_key f k)
  find_cursor b empty k h = tt
  find_cursor b (position n c r) k h =
      by_cond (Cursor (next b k)) (same_key n.key k)
      (λ e. subst (λ j. Solid (next b j) × HoistableAlong (next b j) c) (key_true n.key k e) (h.0, h.1))
      (λ _. find_cursor b r k h.2)

  child_cursor : (b : Base) (h : Option (Found HoistablePosition)) (k : Key) → Cursor b h
      → Cursor (next b k) (child_by_key hoistable_key h k)
  child_cursor b none k c = tt
  child_cursor b (some f) k c = find_cursor b f.children k c.1

  walk_before : (b : Base) (h : Option (Found HoistablePosition)) (p : DependencyPosition) (es : List DependencyPathEntry)
      → SolidBefore b p → Cursor (next b p.key) h
      → WayAlong dependency_key next SolidBefore b (walk_entries h p es)
  unfolding walk_entries
  walk_before b h p [] w c = (ended_before b p w, tt)
  walk_before b h p (e ∷ es) w c =
      by_cond (WayAlong dependency_key next SolidBefore b) (at_non_null h || e.optional)
      (λ _. (
        w,
        walk_before (next b p.key) (child_by_key hoistable_key h (property_key e.property)) (step_to e (step_access (at_non_null h))) es
            (step_solid (next b p.key) h c) (child_cursor (next b p.key) h (property_key e.property) c),
      ))
      (λ _. (ended_before b p w, tt))

  -- A path whose plain entries have a non-nullish base does not throw.

  nullish_calm : (o : Bool) → (o ≡ false → ⊥) → Throws {X = X} (elim o [ true ↦ reads_to undefined | false ↦ throws ]) → ⊥
  nullish_calm true f t = t
  nullish_calm false f t = f refl

  calm_entries : (v : Value X) (ps : List DependencyPosition) → Properties (map dependency_key ps)
      → WayAlong dependency_key next SolidBefore (some v) ps → Throws (read_from S v (map entry_of ps)) → ⊥
  calm_entries v [] k h t = t
  calm_entries null (p ∷ ps) k h t = nullish_calm (is_optional_access p.access) h.0 t
  calm_entries undefined (p ∷ ps) k h t = nullish_calm (is_optional_access p.access) h.0 t
  calm_entries (value x) (p ∷ ps) k h t = go p.key k h.1 (λ w. calm_entries w ps) t
    where
      go : (q : Key) → Properties (q ∷ map dependency_key ps) → WayAlong dependency_key next SolidBefore (next (some (value x)) q) ps
          → ((w : Value X) → Properties (map dependency_key ps) → WayAlong dependency_key next SolidBefore (some w) ps → Throws
          (read_from S w (map entry_of ps)) → ⊥)
          → Throws (read_from S (S.of_property x (key_property q)) (map entry_of ps)) → ⊥
      go (identifier_key i) k h f t = k
      go (property_key q) k h f t = f (S.of_property x q) k h t

  calm_path : (ps : List DependencyPosition) → Rooted (map dependency_key ps) → WayAlong dependency_key next SolidBefore none ps
      → NoThrow S (dependency_of ps)
  calm_path [] k h t = k
  calm_path (p ∷ ps) k h t = go p.key k h.1 t
    where
      go : (q : Key) → Rooted (q ∷ map dependency_key ps) → WayAlong dependency_key next SolidBefore (next none q) ps
          → Throws (read_from S (S.of_identifier (key_identifier q)) (map entry_of ps)) → ⊥
      go (identifier_key i) k h t = calm_entries (S.of_identifier i) ps k h t
      go (property_key q) k h t = k

  pub tree_safe : (hs cs : List ReactiveScopeDependency) → All (NonNull S) hs → All (NoThrow S) (derive_minimal_dependencies hs cs)
  unfolding derive_minimal_dependencies dependency_tree walk_candidate
  tree_safe hs cs safe =
      let tree = dependency_tree hs cs in
      let ways = firsts is_dependency tree in
      let walks = all_of (λ c. WayAlong dependency_key next SolidBefore none (walk_candidate (hoistable_tree hs) c)) cs
      (λ c m. walk_before none _ (root_position c) c.path (λ _. tt)
      (find_cursor none (hoistable_tree hs) (identifier_key c.identifier) (hoistable_along hs safe))) in
      let along = along_add_all dependency_key next SolidBefore merge_position (λ p q. refl) merged_before none empty
      (map (walk_candidate (hoistable_tree hs)) cs) tt
      (all_of_map (WayAlong dependency_key next SolidBefore none) (walk_candidate (hoistable_tree hs)) cs walks) in
      all_of_map (NoThrow S) dependency_of ways
      (all_map (λ ps. Rooted (map dependency_key ps) × WayAlong dependency_key next SolidBefore none ps)
      (λ ps. NoThrow S (dependency_of ps)) (λ ps k. calm_path ps k.0 k.1) ways
      (all_both (λ ps. Rooted (map dependency_key ps)) (WayAlong dependency_key next SolidBefore none) ways
      (ways_rooted (hoistable_tree hs) cs) (firsts_along dependency_key next SolidBefore is_dependency none tree along)))

-- What the trees return, for every list of hoistable paths and every list of candidates: each
-- candidate has exactly one returned path with its identifier and a prefix of its property names,
-- and each returned path is one for some candidate.
use Rattle.std.specs.Prelude.{◌≡◌, refl, Bool, true, false, ◌&&◌, ◌||◌, cond, List, [], ◌∷◌, ◌++◌, map, eqb}
use Rattle.std.proofs.Common.{ap, ◌∙◌}
use Rattle.std.proofs.Math.Bool.{or-true}
use Rattle.std.proofs.Math.Option.{Option}
use Rattle.entries.specs.declared.DependencyPathEntry.{DependencyPathEntry}
use Rattle.entries.specs.Path.{same_property, ReactiveScopeDependency, prefix_of_names, prefix_of}
use Rattle.model.specs.Lists.{any_of, count_of}
use Rattle.model.specs.Tests.{by_cond}
use Rattle.model.specs.ListLaws.{All, all_map}
use Rattle.entries.specs.Access.{is_optional_access, is_dependency_access, access_of}
use Rattle.model.specs.Forest.{Key, identifier_key, property_key, same_key, Forest, empty, Found, find_key, child_by_key, add_all, firsts}
use Rattle.model.specs.Tree.{
  HoistablePosition,
  hoistable_key,
  hoistable_tree,
  DependencyPosition,
  dependency_key,
  is_dependency,
  merge_position,
  ended,
  at_non_null,
  step_access,
  step_to,
  walk_entries,
  root_position,
  walk_candidate,
  dependency_tree,
  key_identifier,
  key_property,
  entry_of,
  dependency_of,
  derive_minimal_dependencies,
}
use Rattle.laws.specs.Membership.{all_of, all_of_map, all_unmap}
use Rattle.laws.specs.CountLaws.{count_map, count_agree, any_agree, any_own}
use Rattle.laws.specs.ForestLaws.{
  begins,
  Beginnings,
  beginnings_map,
  beginnings_both,
  beginnings_append,
  beginnings_own,
  covered,
  count_firsts,
  firsts_within,
  distinct_add_all,
  within_add_all,
  covered_each,
}

-- Accesses.

pub optional_of : (o d : Bool) → is_optional_access (access_of o d) ≡ o
optional_of true true = refl
optional_of true false = refl
optional_of false true = refl
optional_of false false = refl

pub dependency_of_lem : (o d : Bool) → is_dependency_access (access_of o d) ≡ d
dependency_of_lem true true = refl
dependency_of_lem true false = refl
dependency_of_lem false true = refl
dependency_of_lem false false = refl

ended_dependency : (p : DependencyPosition) → is_dependency (ended p) ≡ true
ended_dependency p = dependency_of_lem (is_optional_access p.access && true) (is_dependency p || true) ∙ or-true (is_dependency p)

merged_dependency : (p q : DependencyPosition) → is_dependency (merge_position p q) ≡ (is_dependency p || is_dependency q)
merged_dependency p q = dependency_of_lem (is_optional_access p.access && is_optional_access q.access) (is_dependency p || is_dependency q)

-- The walk is a beginning of the candidate's way down, and its end is a dependency.

-- the keys of a path's names
abbrev pub name_keys : List DependencyPathEntry → List Key
name_keys [] = []
name_keys (e ∷ es) = property_key e.property ∷ name_keys es

abbrev pub way_of : ReactiveScopeDependency → List Key
way_of d = identifier_key d.identifier ∷ name_keys d.path

-- what follows the walk's keys on that way
record Follows (ps : List DependencyPosition) (way : List Key) : Type 0 where
  rest : List Key
  whole : map dependency_key ps ++ rest ≡ way

walk_follows : (h : Option (Found HoistablePosition)) (p : DependencyPosition) (es : List DependencyPathEntry) → Follows
    (walk_entries h p es) (p.key ∷ name_keys es)
unfolding walk_entries
walk_follows h p [] = record { rest = []; whole = refl }
walk_follows h p (e ∷ es) =
    by_cond (λ ps. Follows ps (p.key ∷ property_key e.property ∷ name_keys es)) (at_non_null h || e.optional)
    (λ _. let r = walk_follows (child_by_key hoistable_key h (property_key e.property)) (step_to e (step_access (at_non_null h))) es in
    record { rest = r.rest; whole = ap (λ (ks : List Key). p.key ∷ ks) r.whole })
    (λ _. record { rest = property_key e.property ∷ name_keys es; whole = refl })

walk_ends : (h : Option (Found HoistablePosition)) (p : DependencyPosition) (es : List DependencyPathEntry) → any_of is_dependency
    (walk_entries h p es) ≡ true
unfolding walk_entries
walk_ends h p [] = rw (ended_dependency p)
walk_ends h p (e ∷ es) =
    by_cond (λ ps. any_of is_dependency ps ≡ true) (at_non_null h || e.optional)
    (λ _. rw (walk_ends (child_by_key hoistable_key h (property_key e.property)) (step_to e (step_access (at_non_null h))) es)
    (or-true (is_dependency p)))
    (λ _. rw (ended_dependency p))

-- A way down is an identifier and then properties, so that the returned path has its keys.

abbrev pub Properties : List Key → Type 0
Properties [] = Unit {0}
Properties (identifier_key i ∷ ks) = ⊥
Properties (property_key p ∷ ks) = Properties ks

abbrev pub Rooted : List Key → Type 0
Rooted [] = ⊥
Rooted (identifier_key i ∷ ks) = Properties ks
Rooted (property_key p ∷ ks) = ⊥

names_begin : (ps : List DependencyPosition) (es : List DependencyPathEntry) → Properties (map dependency_key ps) → prefix_of_names
    (map entry_of ps) es ≡ begins (map dependency_key ps) (name_keys es)
names_begin [] es h = refl
names_begin (p ∷ ps) [] h = refl
names_begin (p ∷ ps) (e ∷ es) h = go p.key h (names_begin ps es)
  where
    go : (k : Key) → Properties (k ∷ map dependency_key ps) →
        (Properties (map dependency_key ps) → prefix_of_names (map entry_of ps) es ≡ begins (map dependency_key ps) (name_keys es))
        → same_property (key_property k) e.property && prefix_of_names (map entry_of ps) es ≡ same_key k
        (property_key e.property) && begins (map dependency_key ps) (name_keys es)
    go (identifier_key i) g f = absurd g
    go (property_key q) g f = rw (f g)

prefix_begins : (ps : List DependencyPosition) (c : ReactiveScopeDependency) → Rooted (map dependency_key ps) → prefix_of
    (dependency_of ps) c ≡ begins (map dependency_key ps) (way_of c)
prefix_begins [] c h = absurd h
prefix_begins (p ∷ ps) c h = go p.key h
  where
    go : (k : Key) → Rooted (k ∷ map dependency_key ps)
        → eqb (key_identifier k).0 c.identifier.0 && prefix_of_names (map entry_of ps) c.path ≡ same_key k
        (identifier_key c.identifier) && begins (map dependency_key ps) (name_keys c.path)
    go (identifier_key i) g = rw (names_begin ps c.path g)
    go (property_key q) g = absurd g

beginnings_properties : (es : List DependencyPathEntry) → Beginnings (name_keys es) Properties
beginnings_properties [] = tt
beginnings_properties (e ∷ es) = (tt, beginnings_properties es)

-- The tree of the candidates' walks.

-- a beginning of some candidate's way down
abbrev Begun : List ReactiveScopeDependency → List Key → Type 0
Begun cs ks = any_of (λ c. begins ks (way_of c)) cs ≡ true

-- an identifier and then properties, and such a beginning
abbrev Proper : List ReactiveScopeDependency → List Key → Type 0
Proper cs ks = Rooted ks × Begun cs ks

module _ (t : Forest HoistablePosition) (cs : List ReactiveScopeDependency) where
  abbrev tree : Forest DependencyPosition
  tree = add_all dependency_key merge_position empty (map (walk_candidate t) cs)

  abbrev ways : List (List DependencyPosition)
  ways = firsts is_dependency tree

  candidate_follows : (c : ReactiveScopeDependency) → Follows (walk_candidate t c) (way_of c)
  unfolding walk_candidate
  candidate_follows c = walk_follows (find_key hoistable_key t (identifier_key c.identifier)) (root_position c) c.path

  candidate_ends : (c : ReactiveScopeDependency) → any_of is_dependency (walk_candidate t c) ≡ true
  unfolding walk_candidate
  candidate_ends c = walk_ends (find_key hoistable_key t (identifier_key c.identifier)) (root_position c) c.path

  walk_proper : (c : ReactiveScopeDependency) → ((ks : List Key) → begins ks (way_of c) ≡ true → Begun cs ks) → Beginnings
      (map dependency_key (walk_candidate t c)) (Proper cs)
  walk_proper c own =
      let w = candidate_follows c in
      beginnings_append (Proper cs) (map dependency_key (walk_candidate t c)) w.rest
      (rw w.whole (beginnings_both Rooted (Begun cs) (way_of c) (tt, beginnings_properties c.path)
      (beginnings_map (λ ks. begins ks (way_of c) ≡ true) (Begun cs) own (way_of c) (beginnings_own (way_of c)))))

  ways_proper : All (λ ps. Proper cs (map dependency_key ps)) ways
  ways_proper =
      firsts_within dependency_key is_dependency tree (Proper cs)
      (within_add_all dependency_key merge_position (λ p q. refl) (Proper cs) empty (map (walk_candidate t) cs) tt
      (all_of_map (λ w. Beginnings (map dependency_key w) (Proper cs)) (walk_candidate t) cs
      (all_map (λ c. (ks : List Key) → begins ks (way_of c) ≡ true → Begun cs ks)
      (λ c. Beginnings (map dependency_key (walk_candidate t c)) (Proper cs)) walk_proper cs (any_own (λ ks c. begins ks (way_of c)) cs))))

  pub ways_rooted : All (λ ps. Rooted (map dependency_key ps)) ways
  ways_rooted = all_map (λ ps. Proper cs (map dependency_key ps)) (λ ps. Rooted (map dependency_key ps)) (λ ps f. f.0) ways ways_proper

  each_covered : All (λ w. (ks : List Key) → covered dependency_key is_dependency tree (map dependency_key w ++ ks) ≡ true)
      (map (walk_candidate t) cs)
  each_covered =
      covered_each dependency_key merge_position (λ p q. refl) is_dependency merged_dependency empty (map (walk_candidate t) cs)
      (all_of_map (λ w. any_of is_dependency w ≡ true) (walk_candidate t) cs
      (all_of (λ c. any_of is_dependency (walk_candidate t c) ≡ true) cs (λ c m. candidate_ends c)))

  one_way : (c : ReactiveScopeDependency) →
      ((ks : List Key) → covered dependency_key is_dependency tree (map dependency_key (walk_candidate t c) ++ ks) ≡ true)
      → count_of (λ d. prefix_of d c) (map dependency_of ways) ≡ 1
  one_way c h =
      let w = candidate_follows c in
      count_map (λ d. prefix_of d c) dependency_of ways
      ∙ count_agree (λ ps. prefix_of (dependency_of ps) c) (λ ps. begins (map dependency_key ps) (way_of c)) ways
      (all_map (λ ps. Proper cs (map dependency_key ps))
      (λ ps. prefix_of (dependency_of ps) c ≡ begins (map dependency_key ps) (way_of c)) (λ ps f. prefix_begins ps c f.0) ways ways_proper)
      ∙ count_firsts dependency_key is_dependency tree
      (distinct_add_all dependency_key merge_position (λ p q. refl) empty (map (walk_candidate t) cs) tt) (way_of c)
      ∙ ap (λ (b : Bool). cond b 1 0) (rw w.whole at (h w.rest))

  ways_one : All (λ c. count_of (λ d. prefix_of d c) (map dependency_of ways) ≡ 1) cs
  ways_one =
      all_map (λ c. (ks : List Key) → covered dependency_key is_dependency tree (map dependency_key (walk_candidate t c) ++ ks) ≡ true)
      (λ c. count_of (λ d. prefix_of d c) (map dependency_of ways) ≡ 1) one_way cs
      (all_unmap (λ w. (ks : List Key) → covered dependency_key is_dependency tree (map dependency_key w ++ ks) ≡ true)
      (walk_candidate t) cs each_covered)

  ways_some : All (λ d. any_of (prefix_of d) cs ≡ true) (map dependency_of ways)
  ways_some =
      all_of_map (λ d. any_of (prefix_of d) cs ≡ true) dependency_of ways
      (all_map (λ ps. Proper cs (map dependency_key ps)) (λ ps. any_of (prefix_of (dependency_of ps)) cs ≡ true)
      (λ ps f. any_agree (prefix_of (dependency_of ps)) (λ c. begins (map dependency_key ps) (way_of c))
      (λ c. prefix_begins ps c f.0) cs ∙ f.1) ways ways_proper)

-- Each candidate has one returned path with its identifier and a prefix of its names ..
pub returned_one : (hs cs : List ReactiveScopeDependency)
    → All (λ c. count_of (λ d. prefix_of d c) (derive_minimal_dependencies hs cs) ≡ 1) cs
unfolding derive_minimal_dependencies dependency_tree
returned_one hs cs = ways_one (hoistable_tree hs) cs

-- .. and each returned path is one for some candidate.
pub returned_some : (hs cs : List ReactiveScopeDependency) → All (λ d. any_of (prefix_of d) cs ≡ true) (derive_minimal_dependencies hs cs)
unfolding derive_minimal_dependencies dependency_tree
returned_some hs cs = ways_some (hoistable_tree hs) cs

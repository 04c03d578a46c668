-- A path that is entered a second time, with others in between, leads to the same node, makes none,
-- and changes neither the registry nor a set with that node. Spans and reactive of the second may
-- differ.
use Rattle.std.specs.Prelude.{ℕ, ◌+◌, ◌≡◌, refl, ◌⊎◌, Bool, true, List, [], ◌∷◌, ◌++◌, eqb}
use Rattle.std.proofs.Common.{arith, add-zero, sym, ap, ◌∙◌, inl, inr}
use Rattle.entries.specs.declared.NodeId.{NodeId}
use Rattle.entries.specs.declared.DependencyPathEntry.{DependencyPathEntry}
use Rattle.entries.specs.Path.{same_entry, are_equal_paths, ReactiveScopeDependency}
use Rattle.model.specs.Tests.{never, eqb_same, eqb-true, and_first, and_second}
use Rattle.model.specs.Registry.{
  Origin,
  root,
  child_of,
  PropertyPathNode,
  PropertyPathRegistry,
  is_root_for,
  is_child,
  is_child_by,
  find,
  ensure,
  Reached,
  find_or_make,
  root_node,
  child_node,
  full_path_of,
  after_making,
  walk_from,
  own_mark,
  get_or_create_property,
}
use Rattle.model.specs.Sets.{contains, insert}
use Rattle.model.specs.SetLaws.{Ascending, insert_from, contains_insert, insert_again, contains_inserted}
use Rattle.model.specs.Stage.{PathsEntered, enter_path, enter_paths}
use Rattle.model.specs.RegistryLaws.{Extends}
use Rattle.model.proofs.RegistryLaws.{
  entry_property,
  entry_optional,
  extends_refl,
  extends_trans,
  extends_length,
  WasFound,
  WasMade,
  found_or_made,
  find_extends,
  reached_inside,
  made_first,
  root_own,
  child_own,
  walk_extends,
  path_extends,
  found,
}

-- Equal entries are children by the same test.

entry_alike : (e f g : DependencyPathEntry) → same_entry e f ≡ true → same_entry g f ≡ same_entry g e
entry_alike e f g h = rw (entry_property e f h, entry_optional e f h)

child_alike : (p : NodeId) (e f : DependencyPathEntry) → same_entry e f ≡ true → is_child_by p f ≡ is_child_by p e
child_alike p e f h = λ i n. go n.origin i
  where
    go : (o : Origin) → is_child p f o ≡ is_child p e o
    go root = refl
    go (child_of q g) = rw (entry_alike e f g h)

module _ (test : PropertyPathNode → Bool) (new : PropertyPathNode) (own : test new ≡ true) (reg : PropertyPathRegistry) where
  -- what was found or made is found afterwards
  find_ensured : find test (ensure test new reg) ≡ find test reg
  find_ensured = go (found_or_made test new reg)
    where
      go : WasFound test new reg ⊎ WasMade test new reg → find test (ensure test new reg) ≡ find test reg
      go (inl f) = ap (find test) f.same
      go (inr m) = ap (find test) m.appended ∙ made_first test new own reg m.last ∙ sym m.last

  -- and later, whatever new node is offered then
  found_later : (offered : PropertyPathNode) {b : PropertyPathRegistry} → Extends (ensure test new reg) b → find_or_make test
      offered b ≡ record { registry = b; node = record { 0 = find test reg }; made = 0 }
  found_later offered {b} x =
      let inside = reached_inside test new own reg in
      let longer = extends_length x in
      found test offered b (record { 0 = find test reg }) (omega arith) (find_extends test x (rw find_ensured inside) ∙ find_ensured)

-- A walk by equal entries, in a registry that has what the first walk left.
walk_repeated : (at : Reached) (es fs : List DependencyPathEntry) → are_equal_paths es fs ≡ true → {b : PropertyPathRegistry}
    → Extends (walk_from own_mark at es).registry b
    → walk_from own_mark (record { registry = b; node = at.node; made = 0 }) fs
    ≡ record { registry = b; node = (walk_from own_mark at es).node; made = 0 }
unfolding walk_from
walk_repeated at [] [] h {b} x = refl
walk_repeated at [] (f ∷ fs) h {b} x = never h refl
walk_repeated at (e ∷ es) [] h {b} x = never h refl
walk_repeated at (e ∷ es) (f ∷ fs) h {b} x =
    let test = is_child_by at.node e in
    let d = full_path_of at.registry at.node in
    let new = child_node at.node d e in
    let offered = child_node at.node (full_path_of b at.node) f in
    let next = after_making at.made (find_or_make test new at.registry) in
    let there : find_or_make (is_child_by at.node f) offered b ≡ record { registry = b; node = next.node; made = 0 } = ap
    (λ t. find_or_make t offered b) (child_alike at.node e f (and_first (same_entry e f) _ h)) ∙ found_later test new
    (child_own at.node d e) at.registry offered (extends_trans (walk_extends own_mark next es) x) in
    ap (λ (r : Reached). walk_from own_mark (after_making 0 r) fs) there ∙ walk_repeated next es fs (and_second (same_entry e f) _ h) x

-- A path with the same identifier and equal entries, entered in a registry that has what the first
-- left, leads to the first one's node and makes none.
pub entered_again : (reg b : PropertyPathRegistry) (d e : ReactiveScopeDependency) → eqb d.identifier.0 e.identifier.0 ≡ true
    → are_equal_paths d.path e.path ≡ true → Extends (get_or_create_property reg d).registry b
    → get_or_create_property b e ≡ record { registry = b; node = (get_or_create_property reg d).node; made = 0 }
unfolding get_or_create_property walk_from
entered_again reg b d e same equal x =
    let test = is_root_for d.identifier in
    let new = root_node d.identifier d.reactive d.span in
    let number : d.identifier.0 ≡ e.identifier.0 = eqb-true d.identifier.0 e.identifier.0 same in
    let offered = root_node e.identifier e.reactive e.span in
    let first = find_or_make test new reg in
    let there : find_or_make (is_root_for e.identifier) offered b ≡ record { registry = b; node = first.node; made = 0 } = ap
    (λ (n : ℕ). find_or_make (is_root_for (record { 0 = n })) offered b) (sym number) ∙ found_later test new
    (root_own d.identifier d.reactive d.span) reg offered (extends_trans (walk_extends own_mark first d.path) x) in
    ap (λ (r : Reached). walk_from own_mark r e.path) there ∙ walk_repeated first d.path e.path equal x

-- So it changes neither the registry nor a set with that node, and nothing is made for it.
pub enters_nothing : (reg : PropertyPathRegistry) (p : PathsEntered) (d e : ReactiveScopeDependency)
    → eqb d.identifier.0 e.identifier.0 ≡ true → are_equal_paths d.path e.path ≡ true
    → Extends (get_or_create_property reg d).registry p.registry → Ascending p.set
    → contains p.set (get_or_create_property reg d).node ≡ true
    → enter_path p e ≡ p
enters_nothing reg p d e same equal x up there =
    let k = (get_or_create_property reg d).node in
    ap (λ (r : Reached). record { registry = r.registry; set = insert r.node p.set; made = p.made + r.made })
    (entered_again reg p.registry d e same equal x)
    ∙ (λ i. record { registry = p.registry; set = insert_again 0 k p.set up there i; made = add-zero p.made i })

-- The same where other paths come before it.
enters_nothing_later : (reg : PropertyPathRegistry) (p : PathsEntered) (d e : ReactiveScopeDependency)
    (es fs : List ReactiveScopeDependency) → eqb d.identifier.0 e.identifier.0 ≡ true → are_equal_paths d.path e.path ≡ true
    → Extends (get_or_create_property reg d).registry p.registry → Ascending p.set
    → contains p.set (get_or_create_property reg d).node ≡ true
    → enter_paths p (es ++ e ∷ fs) ≡ enter_paths p (es ++ fs)
unfolding get_or_create_property
enters_nothing_later reg p d e [] fs same equal x up there =
    ap (λ (q : PathsEntered). enter_paths q fs) (enters_nothing reg p d e same equal x up there)
enters_nothing_later reg p d e (c ∷ es) fs same equal x up there =
    let at = get_or_create_property p.registry c in
    enters_nothing_later reg (enter_path p c) d e es fs same equal (extends_trans x (path_extends own_mark p.registry c))
    (insert_from 0 at.node p.set (omega arith) up)
    (contains_insert at.node (get_or_create_property reg d).node p.set there)

-- Of two paths of a list with the same identifier and equal entries, the later one changes neither
-- the registry nor the set, and nothing is made for it.
pub entered_twice : (p : PathsEntered) (d e : ReactiveScopeDependency) (before between after : List ReactiveScopeDependency)
    → eqb d.identifier.0 e.identifier.0 ≡ true → are_equal_paths d.path e.path ≡ true → Ascending p.set
    → enter_paths p (before ++ d ∷ between ++ e ∷ after) ≡ enter_paths p (before ++ d ∷ between ++ after)
entered_twice p d e [] between after same equal up =
    let at = get_or_create_property p.registry d in
    enters_nothing_later p.registry (enter_path p d) d e between after same equal (extends_refl at.registry)
    (insert_from 0 at.node p.set (omega arith) up)
    (rw (contains_inserted at.node at.node p.set, eqb_same at.node.0))
entered_twice p d e (c ∷ before) between after same equal up =
    let at = get_or_create_property p.registry c in
    entered_twice (enter_path p c) d e before between after same equal (insert_from 0 at.node p.set (omega arith) up)

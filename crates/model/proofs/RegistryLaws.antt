-- A registry keeps its nodes at their places. In a sound one a node is the only one with its
-- identifier, or with its parent and entry, and a child's path is its parent's and one entry more.
-- Finding or making keeps it sound, tells how much longer the registry is, and a node's own path
-- leads back to it.
use Rattle.std.specs.Prelude.{
  ℕ,
  zero,
  suc,
  ◌+◌,
  ◌≤◌,
  ◌<◌,
  ◌≡◌,
  refl,
  ◌⊎◌,
  Bool,
  true,
  false,
  List,
  [],
  ◌∷◌,
  ◌++◌,
  eqb,
}
use Rattle.std.proofs.Common.{
  le_refl,
  not-suc-le-zero,
  arith,
  sym,
  ◌∙◌,
  inl,
  inr,
  append_assoc,
  append-nil,
  length-append,
}
use Rattle.std.proofs.Math.Nat.{le_trans}
use Rattle.std.proofs.Math.Path.{ap, subst}
use Rattle.std.proofs.Math.ListN.{length, get_or-append}
use Rattle.std.proofs.Math.Seq.{get_or-append_seam}
use Rattle.entries.specs.declared.IdentifierId.{IdentifierId}
use Rattle.entries.specs.declared.NodeId.{NodeId}
use Rattle.entries.specs.declared.PropertyLiteral.{PropertyLiteral}
use Rattle.entries.specs.declared.PropertyLiteral.TheVariants.{String, Number}
use Rattle.entries.specs.declared.DependencyPathEntry.{DependencyPathEntry}
use Rattle.entries.specs.Path.{same_property, same_entry, ReactiveScopeDependency}
use Rattle.model.specs.Tests.{decide, never, eqb_same, eqb-true, eqb-false, beq_same, beq_true, and_first, and_second}
use Rattle.model.specs.Registry.{
  Origin,
  root,
  child_of,
  PropertyPathNode,
  PropertyPathRegistry,
  is_root,
  is_root_for,
  is_child,
  is_child_by,
  find,
  ensure,
  Reached,
  find_or_make,
  root_node,
  child_node,
  full_path_of,
  get_or_create_identifier,
  get_or_create_property_entry,
  with_optional,
  makes,
  after_making,
  step_from,
  walk_from,
  walk_path,
  own_mark,
  get_or_create_property,
}
use Rattle.model.specs.RegistryLaws.{node_at, Extends, Child, StandsAsRoot, StandsAsChild, StandsAt, Sound, Proper}

-- Equal entries.

pub property_same : (p : PropertyLiteral) → same_property p p ≡ true
property_same (String a) = eqb_same a
property_same (Number a) = eqb_same a

pub property_true : (p q : PropertyLiteral) → same_property p q ≡ true → p ≡ q
property_true (String a) (String b) e = ap String (eqb-true a b e)
property_true (String a) (Number b) e = never e refl
property_true (Number a) (String b) e = never e refl
property_true (Number a) (Number b) e = ap Number (eqb-true a b e)

pub entry_same : (e : DependencyPathEntry) → same_entry e e ≡ true
entry_same e = rw (property_same e.property, beq_same e.optional)

pub entry_property : (f e : DependencyPathEntry) → same_entry f e ≡ true → f.property ≡ e.property
entry_property f e h = property_true f.property e.property (and_first (same_property f.property e.property) _ h)

pub entry_optional : (f e : DependencyPathEntry) → same_entry f e ≡ true → f.optional ≡ e.optional
entry_optional f e h = beq_true f.optional e.optional (and_second (same_property f.property e.property) _ h)

-- Places.

pub extends_refl : (reg : PropertyPathRegistry) → Extends reg reg
extends_refl reg = record { later = []; appended = sym (append-nil reg) }

pub extends_trans : {a b c : PropertyPathRegistry} → Extends a b → Extends b c → Extends a c
extends_trans {a} x y = record {
  later = x.later ++ y.later;
  appended = y.appended ∙ ap (λ r. r ++ y.later) x.appended
      ∙ append_assoc a x.later y.later;
}

pub extends_length : {a b : PropertyPathRegistry} → Extends a b → length a ≤ length b
extends_length {a} {b} x = let e = ap length x.appended ∙ length-append a x.later in omega arith

pub extends_node : {a b : PropertyPathRegistry} (k : ℕ) → Extends a b → k < length a → node_at b k ≡ node_at a k
extends_node {a} {b} k x h = ap (λ r. node_at r k) x.appended ∙ get_or-append a x.later _ k h

pub extends_path : {a b : PropertyPathRegistry} (k : NodeId) → Extends a b → k.0 < length a → full_path_of b k ≡ full_path_of a k
extends_path k x h = ap (λ n. n.full_path) (extends_node k.0 x h)

-- Finding or making.

module _ (test : PropertyPathNode → Bool) where
  -- a node that passes, before any other
  pub find_first : (reg : PropertyPathRegistry) (k : ℕ) → k < length reg → test (node_at reg k) ≡ true →
      ((j : ℕ) → j < k → test (node_at reg j) ≡ false) → find test reg ≡ k
  find_first [] k h t before = absurd (not-suc-le-zero h)
  find_first (n ∷ ns) zero h t before = rw t
  find_first (n ∷ ns) (suc k) h t before = rw (before zero (omega arith))
      (ap suc (find_first ns k (omega arith) t (λ j le. before (suc j) (omega arith))))

  pub find_before : (reg : PropertyPathRegistry) (j : ℕ) → j < find test reg → test (node_at reg j) ≡ false
  find_before [] j h = absurd (not-suc-le-zero h)
  find_before (n ∷ ns) zero h = decide (test n) (λ t. absurd (not-suc-le-zero (rw t at h))) (λ t. t)
  find_before (n ∷ ns) (suc j) h =
      decide (test n) (λ t. absurd (not-suc-le-zero (rw t at h)))
      (λ t. let le : suc j < suc (find test ns) = rw t at h in find_before ns j (omega arith))

  -- the node was there
  pub record WasFound (new : PropertyPathNode) (reg : PropertyPathRegistry) : Type 0 where
    pub same : ensure test new reg ≡ reg
    pub inside : find test reg < length reg
    pub passes : test (node_at reg (find test reg)) ≡ true
    pub none : makes test reg ≡ 0

  -- it was made
  pub record WasMade (new : PropertyPathNode) (reg : PropertyPathRegistry) : Type 0 where
    pub appended : ensure test new reg ≡ reg ++ (new ∷ [])
    pub last : find test reg ≡ length reg
    pub one : makes test reg ≡ 1

  pub found_or_made : (new : PropertyPathNode) (reg : PropertyPathRegistry) → WasFound new reg ⊎ WasMade new reg
  found_or_made new [] = inr (record { appended = refl; last = refl; one = refl })
  found_or_made new (n ∷ ns) = decide (test n)
      (λ t. inl (record { same = rw t; inside = rw t (omega arith); passes = rw t t; none = rw t }))
      (λ t. go t (found_or_made new ns))
    where
      go : test n ≡ false → WasFound new ns ⊎ WasMade new ns → WasFound new (n ∷ ns) ⊎ WasMade new (n ∷ ns)
      go t (inl f) = inl (record {
        same = rw t (ap (λ r. n ∷ r) f.same);
        inside = rw t
            (let le = f.inside in omega arith);
        passes = rw t f.passes;
        none = rw t f.none;
      })
      go t (inr m) = inr
          (record { appended = rw t (ap (λ r. n ∷ r) m.appended); last = rw t (ap suc m.last); one = rw t m.one })

  -- One node is made, or none, and exactly so much longer is the registry.
  pub makes_longer : (new : PropertyPathNode) (reg : PropertyPathRegistry)
      → (let at = find_or_make test new reg in (length at.registry ≡ length reg + at.made) × (at.made ≤ 1))
  makes_longer new reg = go (found_or_made new reg)
    where
      go : WasFound new reg ⊎ WasMade new reg → (length (ensure test new reg) ≡ length reg + makes test reg) × (makes test reg ≤ 1)
      go (inl f) = let same = ap length f.same in let none = f.none in (omega arith, omega arith)
      go (inr m) =
          let longer = ap length m.appended ∙ length-append reg (new ∷ []) in
          let one = m.one in
          (omega arith, omega arith)

  pub ensure_extends : (new : PropertyPathNode) (reg : PropertyPathRegistry) → Extends reg (ensure test new reg)
  ensure_extends new reg = go (found_or_made new reg)
    where
      go : WasFound new reg ⊎ WasMade new reg → Extends reg (ensure test new reg)
      go (inl f) = rw f.same (extends_refl reg)
      go (inr m) = record { later = new ∷ []; appended = m.appended }

  -- where it is found in a registry, it is found in each that extends it
  pub find_extends : {a b : PropertyPathRegistry} → Extends a b → find test a < length a → find test b ≡ find test a
  find_extends {a} {b} x h =
      find_first b (find test a) (let le = extends_length x in omega arith)
      (rw (extends_node (find test a) x h) (go (found_or_made (node_at a zero) a)))
      (λ j le. rw (extends_node j x (omega arith)) (find_before a j le))
    where
      go : WasFound (node_at a zero) a ⊎ WasMade (node_at a zero) a → test (node_at a (find test a)) ≡ true
      go (inl f) = f.passes
      go (inr m) = absurd (let e = m.last in omega arith)

-- Sound registries.

pub sound_empty : Sound []
sound_empty k h = absurd (not-suc-le-zero h)

stands_extends : {a b : PropertyPathRegistry} → Extends a b → (k : ℕ) → k < length a → (o : Origin) (d : ReactiveScopeDependency)
    → StandsAt a k o d → StandsAt b k o d
stands_extends {a} {b} x k h root d s = record
    { path = s.path; only = find_extends (is_root_for d.identifier) x (rw s.only h) ∙ s.only }
stands_extends {a} {b} x k h (child_of p e) d s =
    record {
      after = s.after;
      child = subst (λ d'. Child d' e d) (sym (extends_path p x (let le = s.after in omega arith))) s.child;
      only = find_extends (is_child_by p e) x (rw s.only h) ∙ s.only;
    }

-- a node that is made where it was not found
sound_made : (reg : PropertyPathRegistry) (new : PropertyPathNode) → Sound reg → StandsAt (reg ++ (new ∷ [])) (length reg)
    new.origin new.full_path → Sound (reg ++ (new ∷ []))
sound_made reg new s made k h =
    let more : length (reg ++ (new ∷ [])) ≡ length reg + 1 = length-append reg (new ∷ []) in
    go (lt_or_eq k (length reg) (omega arith))
  where
    after : PropertyPathRegistry
    after = reg ++ (new ∷ [])

    x : Extends reg after
    x = record { later = new ∷ []; appended = refl }

    lt_or_eq : (a b : ℕ) → a < b + 1 → (a < b) ⊎ (a ≡ b)
    lt_or_eq a b h = decide (eqb a b) (λ e. inr (eqb-true a b e)) (λ e. inl (let ne = eqb-false a b e in omega arith))

    go : (k < length reg) ⊎ (k ≡ length reg) → StandsAt after k (node_at after k).origin (node_at after k).full_path
    go (inl le) = rw (extends_node k x le) (stands_extends x k le (node_at reg k).origin (node_at reg k).full_path (s k le))
    go (inr e) = rw (e, get_or-append_seam reg new [] (node_at [] zero)) made

module _ (test : PropertyPathNode → Bool) (new : PropertyPathNode) (own : test new ≡ true) (reg : PropertyPathRegistry) where
  -- the node reached, found or made
  pub reached_inside : find test reg < length (ensure test new reg)
  reached_inside = go (found_or_made test new reg)
    where
      go : WasFound test new reg ⊎ WasMade test new reg → find test reg < length (ensure test new reg)
      go (inl f) = rw f.same f.inside
      go (inr m) = rw (m.appended, length-append reg (new ∷ []), m.last) (omega arith)

  pub reached_passes : test (node_at (ensure test new reg) (find test reg)) ≡ true
  reached_passes = go (found_or_made test new reg)
    where
      go : WasFound test new reg ⊎ WasMade test new reg → test (node_at (ensure test new reg) (find test reg)) ≡ true
      go (inl f) = rw f.same f.passes
      go (inr m) = rw (m.appended, m.last, get_or-append_seam reg new [] (node_at [] zero)) own

  -- of a registry in which none passes, the new node is the first
  pub made_first : find test reg ≡ length reg → find test (reg ++ (new ∷ [])) ≡ length reg
  made_first last =
      find_first test (reg ++ (new ∷ [])) (length reg) (rw (length-append reg (new ∷ [])) (omega arith))
      (rw (get_or-append_seam reg new [] (node_at [] zero)) own)
      (λ j le. rw (get_or-append reg (new ∷ []) (node_at [] zero) j le) (find_before test reg j (rw last le)))

  pub ensure_sound : Sound reg → (find test reg ≡ length reg → StandsAt (reg ++ (new ∷ [])) (length reg) new.origin
      new.full_path) → Sound (ensure test new reg)
  ensure_sound s stands = go (found_or_made test new reg)
    where
      go : WasFound test new reg ⊎ WasMade test new reg → Sound (ensure test new reg)
      go (inl f) = subst Sound (sym f.same) s
      go (inr m) = subst Sound (sym m.appended) (sound_made reg new s (stands m.last))

-- Roots.

pub record RootReached (i : IdentifierId) (reg : PropertyPathRegistry) (at : Reached) : Type 0 where
  pub proper : Proper at
  pub extends : Extends reg at.registry
  pub identifier : (full_path_of at.registry at.node).identifier ≡ i
  pub path : (full_path_of at.registry at.node).path ≡ []

pub root_own : (i : IdentifierId) (r : Bool) (s : ℕ) → is_root_for i (root_node i r s) ≡ true
root_own i r s = eqb_same i.0

stands_root : (reg : PropertyPathRegistry) (k : ℕ) (o : Origin) (d : ReactiveScopeDependency) → is_root o ≡ true → StandsAt reg k o d
    → d.path ≡ []
stands_root reg k root d t s = s.path
stands_root reg k (child_of p e) d t s = never t refl

pub root_reached : (reg : PropertyPathRegistry) (i : IdentifierId) (r : Bool) (s : ℕ) → Sound reg → RootReached i reg
    (get_or_create_identifier reg i r s)
root_reached reg i r s h =
    let test = is_root_for i in
    let new = root_node i r s in
    let own = root_own i r s in
    let inside = reached_inside test new own reg in
    let passes = reached_passes test new own reg in
    let sound = ensure_sound test new own reg h (λ last. record { path = refl; only = made_first test new own reg last }) in
    let n = node_at (ensure test new reg) (find test reg) in
    let number : n.full_path.identifier.0 ≡ i.0 = eqb-true _ _ (and_second (is_root n.origin) _ passes) in
    record {
      proper = record { sound = sound; inside = inside };
      extends = ensure_extends test new reg;
      identifier = λ j. record { 0 = number j };
      path = stands_root (ensure test new reg) (find test reg) n.origin n.full_path (and_first (is_root n.origin) _ passes)
          (sound (find test reg) inside);
    }

-- Children.

pub record ChildReached (reg : PropertyPathRegistry) (p : NodeId) (e : DependencyPathEntry) (at : Reached) : Type 0 where
  pub proper : Proper at
  pub extends : Extends reg at.registry
  pub entry : DependencyPathEntry
  pub same : same_entry entry e ≡ true
  pub child : Child (full_path_of reg p) entry (full_path_of at.registry at.node)

pub child_own : (p : NodeId) (d : ReactiveScopeDependency) (e : DependencyPathEntry) → is_child_by p e (child_node p d e) ≡ true
child_own p d e = rw (eqb_same p.0, entry_same e)

stands_child : (reg : PropertyPathRegistry) (k : ℕ) (p : NodeId) (e : DependencyPathEntry) (o : Origin)
    (d : ReactiveScopeDependency) → is_child p e o ≡ true → StandsAt reg k o d
    → (f : DependencyPathEntry) × (same_entry f e ≡ true) × Child (full_path_of reg p) f d
stands_child reg k p e root d t s = never t refl
stands_child reg k p e (child_of q f) d t s =
    let number : q.0 ≡ p.0 = eqb-true q.0 p.0 (and_first (eqb q.0 p.0) _ t) in
    (f, and_second (eqb q.0 p.0) _ t, subst (λ n. Child (full_path_of reg (record { 0 = n })) f d) number s.child)

pub child_reached : (reg : PropertyPathRegistry) (p : NodeId) (e : DependencyPathEntry) → Sound reg → p.0 < length reg
    → ChildReached reg p e (get_or_create_property_entry reg p e)
child_reached reg p e h le =
    let test = is_child_by p e in
    let new = child_node p (full_path_of reg p) e in
    let own = child_own p (full_path_of reg p) e in
    let inside = reached_inside test new own reg in
    let made : Extends reg (reg ++ (new ∷ [])) = record { later = new ∷ []; appended = refl } in
    let sound = ensure_sound test new own reg h (λ last. record {
      after = le;
      child = subst (λ d. Child d e new.full_path) (sym (extends_path p made le))
          (record { identifier = refl; reactive = refl; path = refl; span = refl });
      only = made_first test new own reg last;
    }) in
    let extends = ensure_extends test new reg in
    let n = node_at (ensure test new reg) (find test reg) in
    let (f, same, child) = stands_child (ensure test new reg) (find test reg) p e n.origin n.full_path
    (reached_passes test new own reg) (sound (find test reg) inside) in
    record {
      proper = record { sound = sound; inside = inside };
      extends = extends;
      entry = f;
      same = same;
      child = subst (λ d. Child d f n.full_path) (extends_path p extends le) child;
    }

-- Walks.

pub step_proper : (mark : NodeId → DependencyPathEntry → Bool) (at : Reached) (e : DependencyPathEntry) → Proper at
    → Proper (step_from mark at e)
step_proper mark at e h =
    let next = (child_reached at.registry at.node (with_optional e (mark at.node e)) h.sound h.inside).proper in
    record { sound = next.sound; inside = next.inside }

pub walk_proper : (mark : NodeId → DependencyPathEntry → Bool) (at : Reached) (es : List DependencyPathEntry) → Proper at → Proper
    (walk_from mark at es)
unfolding walk_from
walk_proper mark at [] h = h
walk_proper mark at (e ∷ es) h = walk_proper mark (step_from mark at e) es (step_proper mark at e h)

pub walk_extends : (mark : NodeId → DependencyPathEntry → Bool) (at : Reached) (es : List DependencyPathEntry) → Extends
    at.registry (walk_from mark at es).registry
unfolding walk_from
walk_extends mark at [] = extends_refl at.registry
walk_extends mark at (e ∷ es) = extends_trans
    (ensure_extends (is_child_by at.node (with_optional e (mark at.node e))) _ at.registry) (walk_extends mark (step_from mark at e) es)

pub path_proper : (mark : NodeId → DependencyPathEntry → Bool) (reg : PropertyPathRegistry) (d : ReactiveScopeDependency)
    → Sound reg → Proper (walk_path mark reg d)
path_proper mark reg d h = walk_proper mark _ d.path (root_reached reg d.identifier d.reactive d.span h).proper

pub path_extends : (mark : NodeId → DependencyPathEntry → Bool) (reg : PropertyPathRegistry) (d : ReactiveScopeDependency)
    → Extends reg (walk_path mark reg d).registry
path_extends mark reg d = extends_trans (ensure_extends (is_root_for d.identifier) _ reg) (walk_extends mark _ d.path)

-- A walk has made as many nodes as the registry is longer by.
pub walk_longer : (mark : NodeId → DependencyPathEntry → Bool) (at : Reached) (es : List DependencyPathEntry)
    → length (walk_from mark at es).registry + at.made ≡ length at.registry + (walk_from mark at es).made
unfolding walk_from
walk_longer mark at [] = refl
walk_longer mark at (e ∷ es) =
    let marked = with_optional e (mark at.node e) in
    let test = is_child_by at.node marked in
    let new = child_node at.node (full_path_of at.registry at.node) marked in
    let walked = walk_from mark (step_from mark at e) es in
    let one = (makes_longer test new at.registry).0 in
    let rest : length walked.registry + (at.made + makes test at.registry) ≡ length (ensure test new at.registry) + walked.made =
    walk_longer mark (step_from mark at e) es in
    omega arith

pub path_longer : (mark : NodeId → DependencyPathEntry → Bool) (reg : PropertyPathRegistry) (d : ReactiveScopeDependency)
    → length (walk_path mark reg d).registry ≡ length reg + (walk_path mark reg d).made
path_longer mark reg d =
    let rest = walk_longer mark (get_or_create_identifier reg d.identifier d.reactive d.span) d.path in
    let one = (makes_longer (is_root_for d.identifier) (root_node d.identifier d.reactive d.span) reg).0 in
    omega arith

-- and so has a path that is entered
pub property_longer : (reg : PropertyPathRegistry) (d : ReactiveScopeDependency)
    → (let at = get_or_create_property reg d in length at.registry ≡ length reg + at.made)
unfolding get_or_create_property
property_longer reg d = path_longer own_mark reg d

walk_append : (mark : NodeId → DependencyPathEntry → Bool) (at : Reached) (xs ys : List DependencyPathEntry) → walk_from mark at
    (xs ++ ys) ≡ walk_from mark (walk_from mark at xs) ys
unfolding walk_from
walk_append mark at [] ys = refl
walk_append mark at (x ∷ xs) ys = walk_append mark (step_from mark at x) xs ys

-- what is found is reached, and nothing is made
pub found : (test : PropertyPathNode → Bool) (new : PropertyPathNode) (reg : PropertyPathRegistry) (k : NodeId) → k.0 < length reg
    → find test reg ≡ k.0
    → find_or_make test new reg ≡ record { registry = reg; node = k; made = 0 }
found test new reg k h e = go (found_or_made test new reg)
  where
    go : WasFound test new reg ⊎ WasMade test new reg → find_or_make test new reg ≡ record { registry = reg; node = k; made = 0 }
    go (inl f) = λ i. record { registry = f.same i; node = record { 0 = e i }; made = f.none i }
    go (inr m) = absurd (let l = m.last in omega arith)

-- A walk that makes nothing goes the same way in each registry that extends its own.

-- what was there is found again
found_again : (test : PropertyPathNode → Bool) (new new' : PropertyPathNode) {a b : PropertyPathRegistry} → Extends a b → Extends
    (ensure test new a) a
    → (find_or_make test new a ≡ record { registry = a; node = record { 0 = find test a }; made = 0 }) ×
    (find_or_make test new' b ≡ record { registry = b; node = record { 0 = find test a }; made = 0 })
found_again test new new' {a} {b} x back = go (found_or_made test new a)
  where
    go : WasFound test new a ⊎ WasMade test new a
        → (find_or_make test new a ≡ record { registry = a; node = record { 0 = find test a }; made = 0 }) ×
        (find_or_make test new' b ≡ record { registry = b; node = record { 0 = find test a }; made = 0 })
    go (inl f) =
        let longer = extends_length x in
        let inside = f.inside in (
          found test new a (record { 0 = find test a }) inside refl,
          found test new' b (record { 0 = find test a }) (omega arith)
              (find_extends test x inside),
        )
    go (inr m) = absurd (let shorter = extends_length back in let longer = ap length m.appended ∙ length-append a
        (new ∷ []) in omega arith)

walk_again_from : (mark : NodeId → DependencyPathEntry → Bool) {a b : PropertyPathRegistry} → Extends a b → (q : NodeId)
    (es : List DependencyPathEntry) {k : NodeId}
    → walk_from mark (record { registry = a; node = q; made = 0 }) es ≡ record { registry = a; node = k; made = 0 } → walk_from mark
    (record { registry = b; node = q; made = 0 }) es ≡ record { registry = b; node = k; made = 0 }
unfolding walk_from
walk_again_from mark {a} {b} x q [] e = λ i. record { registry = b; node = (e i).node; made = 0 }
walk_again_from mark {a} {b} x q (f ∷ fs) {k} e =
    let g = with_optional f (mark q f) in
    let new = child_node q (full_path_of a q) g in
    let new' = child_node q (full_path_of b q) g in
    let test = is_child_by q g in
    let back = subst (λ (r : Reached). Extends (ensure test new a) r.registry) e
    (walk_extends mark (after_making 0 (find_or_make test new a)) fs) in
    let there = found_again test new new' x back in
    ap (λ (at : Reached). walk_from mark (after_making 0 at) fs) there.1 ∙ walk_again_from mark x (record { 0 = find test a }) fs
    (sym (ap (λ (at : Reached). walk_from mark (after_making 0 at) fs) there.0) ∙ e)

pub walk_extended : (mark : NodeId → DependencyPathEntry → Bool) {a b : PropertyPathRegistry} → Extends a b →
    (d : ReactiveScopeDependency) {k : NodeId}
    → walk_path mark a d ≡ record { registry = a; node = k; made = 0 } → walk_path mark b d ≡ record { registry = b; node = k; made = 0 }
walk_extended mark {a} {b} x d {k} e =
    let new = root_node d.identifier d.reactive d.span in
    let test = is_root_for d.identifier in
    let back = subst (λ (r : Reached). Extends (ensure test new a) r.registry) e (walk_extends mark (find_or_make test new a) d.path) in
    let there = found_again test new new x back in
    ap (λ (at : Reached). walk_from mark at d.path) there.1 ∙ walk_again_from mark x (record { 0 = find test a }) d.path
    (sym (ap (λ (at : Reached). walk_from mark at d.path) there.0) ∙ e)

-- A node's own path, walked from its root under its own marks, leads to the node, and makes
-- nothing.
pub leads_back : (reg : PropertyPathRegistry) → Sound reg → (below : ℕ) (k : NodeId) → k.0 < below → k.0 < length reg → (r : Bool) (s : ℕ)
    → walk_from own_mark (get_or_create_identifier reg (full_path_of reg k).identifier r s)
    (full_path_of reg k).path ≡ record { registry = reg; node = k; made = 0 }
unfolding walk_from
leads_back reg h zero k lt le r s = absurd (not-suc-le-zero lt)
leads_back reg h (suc below) k lt le r s =
    go (node_at reg k.0).origin (full_path_of reg k) (h k.0 le) (λ p pk. leads_back reg h below p (omega arith) (omega arith) r s)
  where
    go : (o : Origin) (d : ReactiveScopeDependency) → StandsAt reg k.0 o d
        → ((p : NodeId) → p.0 < k.0 → walk_from own_mark (get_or_create_identifier reg (full_path_of reg p).identifier r s)
        (full_path_of reg p).path ≡ record { registry = reg; node = p; made = 0 })
        → walk_from own_mark (get_or_create_identifier reg d.identifier r s) d.path ≡ record { registry = reg; node = k; made = 0 }
    go root d st parent = rw st.path (found (is_root_for d.identifier) (root_node d.identifier r s) reg k le st.only)
    go (child_of p e) d st parent =
        rw (st.child.path, st.child.identifier)
        (walk_append own_mark _ (full_path_of reg p).path (e ∷ []) ∙ ap (λ at. walk_from own_mark at (e ∷ [])) (parent p st.after)
        ∙ ap (after_making 0) (found (is_child_by p e) (child_node p (full_path_of reg p) e) reg k le st.only))

-- A node's path walked again from its root, under any marks.

-- a node's root is there, so that asking for it makes nothing, whatever reactive and span are given
root_there : (reg : PropertyPathRegistry) → Sound reg → (k : NodeId) → k.0 < length reg → (r : Bool) (s : ℕ)
    → (get_or_create_identifier reg (full_path_of reg k).identifier r s).registry ≡ reg
root_there reg h k le r s = go (found_or_made (is_root_for i) (root_node i r s) reg)
  where
    i : IdentifierId
    i = (full_path_of reg k).identifier

    -- the node's own path, walked from that root, ends in the registry as it is
    back : Extends (get_or_create_identifier reg i r s).registry reg
    back = subst (Extends (get_or_create_identifier reg i r s).registry)
        (ap (λ (x : Reached). x.registry) (leads_back reg h (suc k.0) k (le_refl _) le r s))
        (walk_extends own_mark (get_or_create_identifier reg i r s) (full_path_of reg k).path)

    go : WasFound (is_root_for i) (root_node i r s) reg ⊎ WasMade (is_root_for i) (root_node i r s) reg
        → (get_or_create_identifier reg i r s).registry ≡ reg
    go (inl f) = f.same
    go (inr m) = absurd (let shorter = extends_length back in let longer = ap length m.appended ∙ length-append reg
        (root_node i r s ∷ []) in omega arith)

root_any : (reg : PropertyPathRegistry) → Sound reg → (k : NodeId) → k.0 < length reg → (r r' : Bool) (s s' : ℕ)
    → get_or_create_identifier reg (full_path_of reg k).identifier r s ≡ get_or_create_identifier reg (full_path_of reg k).identifier r' s'
root_any reg h k le r r' s s' =
    let same = root_there reg h k le r s ∙ sym (root_there reg h k le r' s') in
    let test = is_root_for (full_path_of reg k).identifier in
    λ i. record { registry = same i; node = record { 0 = find test reg }; made = makes test reg }

module _ (mark : NodeId → DependencyPathEntry → Bool) (reg : PropertyPathRegistry) (h : Sound reg) (k : NodeId)
    (le : k.0 < length reg) where
  pub again_root : (node_at reg k.0).origin ≡ root → walk_path mark reg (full_path_of reg k) ≡ record { registry = reg; node = k; made = 0 }
  unfolding walk_from
  again_root o =
      let st : StandsAsRoot reg k.0 (full_path_of reg k) = subst (λ x. StandsAt reg k.0 x (full_path_of reg k)) o (h k.0 le) in
      rw st.path (found (is_root_for (full_path_of reg k).identifier)
      (root_node (full_path_of reg k).identifier (full_path_of reg k).reactive (full_path_of reg k).span) reg k le st.only)

  pub again_child : (p : NodeId) (e : DependencyPathEntry) → (node_at reg k.0).origin ≡ child_of p e → walk_path mark reg
      (full_path_of reg k) ≡ step_from mark (walk_path mark reg (full_path_of reg p)) e
  unfolding walk_from
  again_child p e o =
      let d = full_path_of reg k in
      let dp = full_path_of reg p in
      let st : StandsAsChild reg k.0 p e d = subst (λ x. StandsAt reg k.0 x d) o (h k.0 le) in
      let inside : p.0 < length reg = le_trans st.after (let l = le in omega arith) in
      ap (λ es. walk_from mark (get_or_create_identifier reg d.identifier d.reactive d.span) es) st.child.path
      ∙ walk_append mark (get_or_create_identifier reg d.identifier d.reactive d.span) dp.path (e ∷ [])
      ∙ ap (λ at. walk_from mark (walk_from mark at dp.path) (e ∷ []))
      (ap (λ i. get_or_create_identifier reg i d.reactive d.span) st.child.identifier ∙ root_any reg h p inside d.reactive
      dp.reactive d.span dp.span)

  -- a child is found by its parent and entry
  pub child_found : (p : NodeId) (e : DependencyPathEntry) → (node_at reg k.0).origin ≡ child_of p e → find (is_child_by p e) reg ≡ k.0
  child_found p e o = let st : StandsAsChild reg k.0 p e (full_path_of reg k) = subst
      (λ x. StandsAt reg k.0 x (full_path_of reg k)) o (h k.0 le) in st.only

  -- and its parent stands before it
  pub child_after : (p : NodeId) (e : DependencyPathEntry) → (node_at reg k.0).origin ≡ child_of p e → p.0 < k.0
  child_after p e o = let st : StandsAsChild reg k.0 p e (full_path_of reg k) = subst
      (λ x. StandsAt reg k.0 x (full_path_of reg k)) o (h k.0 le) in st.after

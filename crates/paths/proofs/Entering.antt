-- The entries that are left of a path: what enters them from the node reached so far enters the
-- whole.
use Prim.Native.Nat.{ℕ, suc, ◌+◌, ◌-◌, ◌≤◌, ◌<◌}
use native.Mathlib.Omega.{arith}
use mathlib.Core.Path.{◌≡◌, refl, sym, ap, subst, ◌∙◌}
use mathlib.Core.Bool.{Bool}
use mathlib.Core.List.{List, ◌∷◌}
use lib.ListN.{length}
use Rattle.std.specs.Prelude.{Result, Ok, Err}
use Rattle.entries.specs.declared.Refusal.TheVariants.{ManyNodes}
use Rattle.entries.specs.declared.IdentifierId.{IdentifierId}
use Rattle.entries.specs.declared.NodeId.{NodeId}
use Rattle.entries.specs.declared.Refusal.{Refusal}
use Rattle.entries.specs.declared.DependencyPathEntry.{DependencyPathEntry}
use Rattle.model.specs.ReadingBytes.{Read, got, refused, mapped, both, read_many}
use Rattle.model.specs.Job.{read_entry, read_path_fields}
use Rattle.job.specs.declared.PathHead.{PathHead}
use Rattle.job.specs.Head.{read_path_head, path_of}
use Rattle.job.proofs.Heads.{fields_by_head}
use Rattle.job.proofs.Many.{many_first}
use Rattle.job.proofs.Passing.{not_both, mapped_got}
use Rattle.model.specs.Registry.{node_limit, PropertyPathRegistry, Reached, full_path_of, is_root_for, is_child_by, root_node, child_node, walk_from, own_mark}
use Rattle.model.specs.Registry.{get_or_create_identifier, get_or_create_property_entry, after_making, get_or_create_property}
use Rattle.model.proofs.RegistryLaws.{entry_same, extends_length, makes_longer, reached_inside, walk_extends}
use Rattle.model.specs.Tests.{eqb_same}
use Rattle.registry.specs.Words.{count_in, registry_of, Held}
use Rattle.registry.proofs.View.{registry_length}
use Rattle.paths.specs.declared.EnteredPath.{EnteredPath}
use Rattle.job.specs.Passing.{IsRead}
use Rattle.paths.specs.Enters.{walk_own, Enters}

-- no reading of what was read is refused
pub not_refused : {A B : Type 0} {x : Read A} {r : Refusal} → IsRead x → x ≡ refused r → B
not_refused i e = not_both i.read e

-- a record that is made of another
pub enters_mapped : {A B : Type 0} (f : A → B) (x : Read A) (reach : B → Reached) (r : Result EnteredPath Refusal) (ws os : List ℕ)
    → Enters x (λ a. reach (f a)) r ws os → Enters (mapped f x) reach r ws os
enters_mapped f (got a n) reach (Ok p) ws os h = h
enters_mapped f (got a n) reach (Err e) ws os h = h
enters_mapped f (refused q) reach r ws os h = absurd h

-- wherever it would lead, there is no room
pub enters_full : {A : Type 0} (x : Read A) (reach : A → Reached) (ws os : List ℕ) → IsRead x
    → ((a : A) → node_limit < length (reach a).registry) → Enters x reach (Err ManyNodes) ws os
enters_full (got a n) reach ws os i h = (refl, h a)
enters_full (refused q) reach ws os i h = not_refused i refl

-- Node k of the words was reached from a registry, and it was found or made.
pub record Made (reg : PropertyPathRegistry) (want : Reached) (ws : List ℕ) (k : NodeId) (made : ℕ) : Type 0 where
  pub inside : k.0 < count_in ws
  pub is : want ≡ record { registry = registry_of ws; node = k; made = made }
  pub longer : count_in ws ≡ length reg + made

made_at : (reg : PropertyPathRegistry) (want : Reached) → want.node.0 < length want.registry → length want.registry ≡ length reg + want.made
    → (ws : List ℕ) (k : NodeId) (made : ℕ) → want ≡ record { registry = registry_of ws; node = k; made = made } → Made reg want ws k made
made_at reg want within longer ws k made is =
    let size = registry_length ws in
    let l = subst (λ (x : Reached). x.node.0 < length x.registry) is within in
    let m = subst (λ (x : Reached). length x.registry ≡ length reg + x.made) is longer in
    record { inside = omega arith; is = is; longer = omega arith }

pub root_made_at : (reg : PropertyPathRegistry) (i : IdentifierId) (reactive : Bool) (span : ℕ) (ws : List ℕ) (k : NodeId) (made : ℕ)
    → get_or_create_identifier reg i reactive span ≡ record { registry = registry_of ws; node = k; made = made }
    → Made reg (get_or_create_identifier reg i reactive span) ws k made
root_made_at reg i reactive span =
    made_at reg (get_or_create_identifier reg i reactive span) (reached_inside (is_root_for i) (root_node i reactive span) (eqb_same i.0) reg)
    (makes_longer (is_root_for i) (root_node i reactive span) reg).0

pub child_made_at : (reg : PropertyPathRegistry) (p : NodeId) (e : DependencyPathEntry) (ws : List ℕ) (k : NodeId) (made : ℕ)
    → get_or_create_property_entry reg p e ≡ record { registry = registry_of ws; node = k; made = made }
    → Made reg (get_or_create_property_entry reg p e) ws k made
child_made_at reg p e =
    made_at reg (get_or_create_property_entry reg p e)
    (reached_inside (is_child_by p e) (child_node p (full_path_of reg p) e) (rw (eqb_same p.0) (entry_same e)) reg)
    (makes_longer (is_child_by p e) (child_node p (full_path_of reg p) e) reg).0

-- The entries that are left.

pub record Entering {A : Type 0} (whole : Read A) (reach : A → Reached) (s ws : List ℕ) (node : NodeId) (made at left : ℕ) : Type 0 where
  pub inside : node.0 < count_in ws
  pub among : made ≤ count_in ws
  pub there : IsRead (read_many left (read_entry 4) s at)
  pub on : (r : Result EnteredPath Refusal) (us ps : List ℕ) → Enters (read_many left (read_entry 4) s at) (walk_own (registry_of ws) node made) r us ps
      → Enters whole reach r us ps

pub entering_start : (s ws : List ℕ) (node : NodeId) (made at count left : ℕ) → left ≡ count → node.0 < count_in ws → made ≤ count_in ws
    → IsRead (read_many count (read_entry 4) s at)
    → Entering (read_many count (read_entry 4) s at) (walk_own (registry_of ws) node made) s ws node made at left
entering_start s ws node made at count left all inside among there =
    rw all (record { inside = inside; among = among; there = there; on = λ r us ps h. h })

module _ {A : Type 0} {whole : Read A} {reach : A → Reached} {s ws : List ℕ} {node : NodeId} {made at left : ℕ}
    (x : Entering whole reach s ws node made at left) where
  pub entering_end : left ≡ 0 → (os : List ℕ) → Held ws os → Enters whole reach (Ok (record { node = node; made = made; next = at })) ws os
  unfolding walk_from
  entering_end none os held = x.on (Ok (record { node = node; made = made; next = at })) ws os (rw none ((held, refl), refl))

  module _ (some : 0 < left) where
    more : left ≡ suc (left - 1)
    more = omega arith

    -- the first of the entries that are left was read
    first : (e : DependencyPathEntry) × (next : ℕ) × (es : List DependencyPathEntry) × (read_entry 4 s at ≡ got e next)
        × (read_many (left - 1) (read_entry 4) s next ≡ got es x.there.next) × (e ∷ es ≡ x.there.value)
    first = many_first (read_entry 4) s left at some x.there.read

    pub entry_there : {B : Type 0} {r : Refusal} → read_entry 4 s at ≡ refused r → B
    entry_there e = not_both first.3 e

    module _ {e : DependencyPathEntry} {next : ℕ} (read : read_entry 4 s at ≡ got e next) where
      rest : read_many left (read_entry 4) s at ≡ mapped (λ es. e ∷ es) (read_many (left - 1) (read_entry 4) s next)
      rest =
          ap (λ n. read_many n (read_entry 4) s at) more
          ∙ ap (λ y. both (λ first rest. first ∷ rest) y (read_many (left - 1) (read_entry 4) s)) read

      rest_there : IsRead (read_many (left - 1) (read_entry 4) s next)
      rest_there =
          let m = mapped_got (λ es. e ∷ es) (read_many (left - 1) (read_entry 4) s next) (sym rest ∙ x.there.read) in
          record { value = m.0; next = x.there.next; read = m.1 }

      abbrev child : Reached
      child = get_or_create_property_entry (registry_of ws) node e

      -- what enters the entries after this one enters those from it on
      step : (r : Result EnteredPath Refusal) (us ps : List ℕ)
          → Enters (read_many (left - 1) (read_entry 4) s next) (λ es. walk_from own_mark (after_making made child) es) r us ps
          → Enters whole reach r us ps
      unfolding walk_from
      step r us ps h =
          x.on r us ps (rw rest (enters_mapped (λ es. e ∷ es) (read_many (left - 1) (read_entry 4) s next) (walk_own (registry_of ws) node made) r us ps h))

      pub entering_full : (us ps : List ℕ) → node_limit < length child.registry → Enters whole reach (Err ManyNodes) us ps
      entering_full us ps full =
          step (Err ManyNodes) us ps
          (enters_full (read_many (left - 1) (read_entry 4) s next) (λ es. walk_from own_mark (after_making made child) es) us ps rest_there
          (λ es. let longer = extends_length (walk_extends own_mark (after_making made child) es) in omega arith))

      pub entering_more : (vs : List ℕ) (k : NodeId) (made_here n : ℕ) → Made (registry_of ws) child vs k made_here → n + 1 ≡ left
          → Entering whole reach s vs k (made + made_here) next n
      entering_more vs k made_here n m fewer = let rest : n ≡ left - 1 = omega arith in rw rest (record {
        inside = m.inside;
        among = let few = x.among in let size = registry_length ws in let longer = m.longer in omega arith;
        there = rest_there;
        on =
            λ r us ps h.
            step r us ps
            (subst (λ (y : Reached). Enters (read_many (left - 1) (read_entry 4) s next) (λ es. walk_from own_mark (after_making made y) es) r us ps)
            (sym m.is) h);
      })

-- The whole path: its head, and its entries from its root.

module _ (s : List ℕ) (at : ℕ) (there : IsRead (read_path_fields 4 s at)) where
  pub head_there : {B : Type 0} {r : Refusal} → read_path_head s at ≡ refused r → B
  head_there {r = r} e =
      let none : read_path_fields 4 s at ≡ refused r = rw (fields_by_head, e) in
      not_refused there none

  module _ {head : PathHead} {entries_at : ℕ} (read : read_path_head s at ≡ got head entries_at) where
    parts : read_path_fields 4 s at ≡ mapped (path_of head) (read_many head.entries (read_entry 4) s entries_at)
    parts = rw (fields_by_head, read)

    pub entries_there : IsRead (read_many head.entries (read_entry 4) s entries_at)
    entries_there =
        let m = mapped_got (path_of head) (read_many head.entries (read_entry 4) s entries_at) (sym parts ∙ there.read) in
        record { value = m.0; next = there.next; read = m.1 }

    module _ (reg : PropertyPathRegistry) where
      abbrev root : Reached
      root = get_or_create_identifier reg head.identifier head.reactive head.span

      path_entered : (r : Result EnteredPath Refusal) (us ps : List ℕ)
          → Enters (read_many head.entries (read_entry 4) s entries_at) (λ es. walk_from own_mark root es) r us ps
          → Enters (read_path_fields 4 s at) (get_or_create_property reg) r us ps
      unfolding get_or_create_property
      path_entered r us ps h =
          rw parts (enters_mapped (path_of head) (read_many head.entries (read_entry 4) s entries_at) (get_or_create_property reg) r us ps h)

      pub path_full : (us ps : List ℕ) → node_limit < length root.registry → Enters (read_path_fields 4 s at) (get_or_create_property reg) (Err ManyNodes) us ps
      path_full us ps full =
          path_entered (Err ManyNodes) us ps
          (enters_full (read_many head.entries (read_entry 4) s entries_at) (λ es. walk_from own_mark root es) us ps entries_there
          (λ es. let longer = extends_length (walk_extends own_mark root es) in omega arith))

      pub path_rooted : (vs : List ℕ) (k : NodeId) (made : ℕ) → root ≡ record { registry = registry_of vs; node = k; made = made }
          → (r : Result EnteredPath Refusal) (us ps : List ℕ)
          → Enters (read_many head.entries (read_entry 4) s entries_at) (walk_own (registry_of vs) k made) r us ps
          → Enters (read_path_fields 4 s at) (get_or_create_property reg) r us ps
      path_rooted vs k made is r us ps h =
          path_entered r us ps
          (subst (λ (y : Reached). Enters (read_many head.entries (read_entry 4) s entries_at) (λ es. walk_from own_mark y es) r us ps) (sym is) h)

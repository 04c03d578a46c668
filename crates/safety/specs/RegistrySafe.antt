-- A path that reads to a non-nullish value leads, under any optional marks, to a node whose path
-- does so too.
use Rattle.std.specs.Prelude.{◌<◌, Bool, length}
use Rattle.std.proofs.Common.{sym, subst}
use mathlib.Core.List.{List, [], ◌∷◌}
use Rattle.entries.specs.declared.NodeId.{NodeId}
use Rattle.entries.specs.declared.DependencyPathEntry.{DependencyPathEntry}
use Rattle.entries.specs.Path.{ReactiveScopeDependency}
use Rattle.model.specs.ReadingPaths.{Value, null, undefined, value, Store, read_from, NonNullish}
use Rattle.model.specs.Registry.{
  PropertyPathRegistry,
  Reached,
  full_path_of,
  with_optional,
  step_from,
  walk_from,
  walk_path,
  get_or_create_identifier,
}
use Rattle.model.specs.RegistryLaws.{Extends, Sound, Proper}
use Rattle.model.proofs.RegistryLaws.{extends_path, extends_length, root_reached, child_reached, step_proper, entry_property}
use Rattle.model.specs.Sets.{NodeSet}
use Rattle.model.specs.ListLaws.{All, all_map}
use Rattle.safety.specs.ReadingPathsLaws.{NonNull, Reaches, reaches_root, reaches_safe, reaches_next, nullish_not}

module _ {X : Type 0} (S : Store X) where
  -- a node of the registry whose path reads to a non-nullish value
  pub record NonNullNode (reg : PropertyPathRegistry) (k : NodeId) : Type 0 where
    pub inside : k.0 < length reg
    pub safe : NonNull S (full_path_of reg k)

  abbrev pub NonNullSet : PropertyPathRegistry → NodeSet → Type 0
  NonNullSet reg s = All (NonNullNode reg) s

  pub node_extends : {a b : PropertyPathRegistry} (k : NodeId) → Extends a b → NonNullNode a k → NonNullNode b k
  node_extends k x n = record {
    inside = native.Mathlib.Nat.le_trans n.inside (extends_length x);
    safe = subst (NonNull S)
        (sym (extends_path k x n.inside)) n.safe;
  }

  pub set_extends : {a b : PropertyPathRegistry} (s : NodeSet) → Extends a b → NonNullSet a s → NonNullSet b s
  set_extends {a} {b} s x h = all_map (NonNullNode a) (NonNullNode b) (λ k n. node_extends k x n) s h

  walk_safe : (mark : NodeId → DependencyPathEntry → Bool) (at : Reached) (es : List DependencyPathEntry) (v : Value X) → Proper at
      → Reaches S (full_path_of at.registry at.node) v → NonNullish (read_from S v es) → NonNullNode
      (walk_from mark at es).registry (walk_from mark at es).node
  unfolding walk_from
  walk_safe mark at [] v p r h = record { inside = p.inside; safe = reaches_safe S (full_path_of at.registry at.node) v r h }
  walk_safe mark at (e ∷ es) null p r h = absurd (nullish_not S e h)
  walk_safe mark at (e ∷ es) undefined p r h = absurd (nullish_not S e h)
  walk_safe mark at (e ∷ es) (value x) p r h =
      let e' = with_optional e (mark at.node e) in
      let next = step_from mark at e in
      let c = child_reached at.registry at.node e' p.sound p.inside in
      walk_safe mark next es (S.of_property x e.property) (step_proper mark at e p)
      (reaches_next S (full_path_of at.registry at.node) (full_path_of next.registry next.node) x c.entry e.property r
      c.child.identifier c.child.path
      (entry_property c.entry e' c.same)) h

  pub path_safe : (mark : NodeId → DependencyPathEntry → Bool) (reg : PropertyPathRegistry) (d : ReactiveScopeDependency)
      → Sound reg → NonNull S d
      → NonNullNode (walk_path mark reg d).registry (walk_path mark reg d).node
  path_safe mark reg d s h =
      let r = root_reached reg d.identifier d.reactive d.span s in
      let at = get_or_create_identifier reg d.identifier d.reactive d.span in
      walk_safe mark at d.path (S.of_identifier d.identifier) r.proper
      (reaches_root S (full_path_of at.registry at.node) d.identifier r.identifier r.path) h

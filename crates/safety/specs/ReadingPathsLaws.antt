-- Reading: a non-nullish value is reached from a non-nullish base only, one entry at a time,
-- whatever the entries' optional marks.
use Rattle.std.specs.Prelude.{◌≡◌, Bool, true, false, List, [], ◌∷◌, ◌++◌}
use Rattle.std.proofs.Common.{sym, ap, subst, ◌∙◌, append-nil, append_assoc}
use Rattle.entries.specs.declared.IdentifierId.{IdentifierId}
use Rattle.entries.specs.declared.PropertyLiteral.{PropertyLiteral}
use Rattle.entries.specs.declared.DependencyPathEntry.{DependencyPathEntry}
use Rattle.entries.specs.Path.{ReactiveScopeDependency}
use Rattle.model.specs.ReadingPaths.{Value, undefined, value, Store, throws, reads_to, at_nullish, read_from, read, Throws, NonNullish}

module _ {X : Type 0} (S : Store X) where
  -- the path reads to a value neither null nor undefined
  abbrev pub NonNull : ReactiveScopeDependency → Type 0
  NonNull d = NonNullish (read S d)

  -- it does not throw
  abbrev pub NoThrow : ReactiveScopeDependency → Type 0
  NoThrow d = Throws (read S d) → ⊥

  pub nullish_not : (e : DependencyPathEntry) → NonNullish {X = X} (at_nullish e) → ⊥
  nullish_not e h = go e.optional h
    where
      go : (b : Bool) → NonNullish {X = X} (elim b [ true ↦ reads_to undefined | false ↦ throws ]) → ⊥
      go true h = h
      go false h = h

  -- a path that reaches a value: what is read on from there is read from that value
  abbrev pub Reaches : ReactiveScopeDependency → Value X → Type 0
  Reaches d v = (es : List DependencyPathEntry) → read_from S (S.of_identifier d.identifier) (d.path ++ es) ≡ read_from S v es

  pub reaches_root : (d : ReactiveScopeDependency) (i : IdentifierId) → d.identifier ≡ i → d.path ≡ [] → Reaches d (S.of_identifier i)
  reaches_root d i e p es = rw (e, p)

  pub reaches_safe : (d : ReactiveScopeDependency) (v : Value X) → Reaches d v → NonNullish (reads_to v) → NonNull d
  reaches_safe d v r h = subst NonNullish (sym (r []) ∙ ap (λ p. read_from S (S.of_identifier d.identifier) p) (append-nil d.path)) h

  -- one entry on, whatever its mark
  pub reaches_next : (d d' : ReactiveScopeDependency) (x : X) (f : DependencyPathEntry) (p : PropertyLiteral) → Reaches d (value x)
      → d'.identifier ≡ d.identifier
      → d'.path ≡ d.path ++ (f ∷ []) → f.property ≡ p → Reaches d' (S.of_property x p)
  reaches_next d d' x f p r i path q es = rw (i, path, append_assoc, ← q) (r (f ∷ es))

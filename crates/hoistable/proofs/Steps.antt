-- How far a path agrees with a candidate: one that is a root, and one with an entry more.
use Prim.Native.Nat.{ℕ, ◌+◌, ◌*◌, ◌/◌, ◌≤◌}
use native.Mathlib.Omega.{arith}
use Rattle.std.specs.Prelude.{Option, Some, None, IfSome}
use mathlib.Core.Path.{◌≡◌, refl, sym, ap, subst, ◌∙◌}
use mathlib.Core.Bool.{Bool, true, false, ◌&&◌, cond, and_assoc}
use mathlib.Core.List.{List, [], ◌∷◌, ◌++◌}
use lib.ListN.{length, drop, length-append}
use lib.Seq.{drop-drop}
use lib.Dec.{eqb}
use Rattle.entries.specs.declared.IdentifierId.{IdentifierId}
use Rattle.entries.specs.declared.DependencyPathEntry.{DependencyPathEntry}
use Rattle.entries.specs.Path.{prefix_of_names, ReactiveScopeDependency}
use Rattle.model.specs.Tests.{decide, and_first, and_second}
use Rattle.model.specs.RegistryLaws.{Child}
use Rattle.hoistable.specs.declared.Levels.{Levels}
use Rattle.hoistable.specs.declared.Agreement.{Agreement}
use Rattle.hoistable.specs.Levels.{number_of, weight_of}
use Rattle.hoistable.specs.declared.Entries.{Entries}
use Rattle.hoistable.specs.Candidate.{entries_at, Reads, AreRead}
use Rattle.hoistable.specs.Agreement.{agreed, levels_along, next_same, HoldsLevels, Small, NextIs, RestRead, RestAgrees, Agrees}
use Rattle.hoistable.proofs.Names.{reads_at}
use Rattle.hoistable.proofs.Numbers.{holds_small, prefix_snoc, agreed_length, agreed_apart, agreed_number, agreed_weight}

-- What `Agrees` says of a path, by the path's identifier j and entries ds.

abbrev has_names : IdentifierId → List DependencyPathEntry → IdentifierId → List DependencyPathEntry → Bool
has_names i es j ds = eqb j.0 i.0 && prefix_of_names ds es

abbrev along_names : IdentifierId → List DependencyPathEntry → IdentifierId → List DependencyPathEntry → List Bool
along_names i es j ds = cond (eqb j.0 i.0) (agreed ds es) []

module _ {s : List ℕ} {i : IdentifierId} {es : List DependencyPathEntry} {d d' : ReactiveScopeDependency} {r : Agreement} {e : DependencyPathEntry}
    (few : length es ≤ 16) (child : Child d e d') (a : Agrees s i es d r) where
  -- the child's path by its parent's
  along : levels_along i es d' ≡ along_names i es d.identifier (d.path ++ (e ∷ []))
  along = λ j. along_names i es (child.identifier j) (child.path j)

  has : has_names i es d'.identifier d'.path ≡ has_names i es d.identifier d.path && next_same e.property (drop (length d.path) es)
  has = (λ j. has_names i es (child.identifier j) (child.path j)) ∙ ap (λ b. eqb d.identifier.0 i.0 && b) (prefix_snoc d.path es e) ∙ sym
      (and_assoc (eqb d.identifier.0 i.0) (prefix_of_names d.path es) (next_same e.property (drop (length d.path) es)))

  -- the names parted before
  pub further_apart : r.rest ≡ None → Agrees s i es d' r
  further_apart apart = record {
    levels = subst (λ bs. HoldsLevels bs r.levels) (sym (along ∙ unchanged)) a.levels;
    rest = subst (RestAgrees s i es d') (sym apart) (has ∙ ap (λ b. b && next_same e.property (drop (length d.path) es)) parted);
  }
    where
      parted : eqb d.identifier.0 i.0 && prefix_of_names d.path es ≡ false
      parted = subst (RestAgrees s i es d) apart a.rest

      unchanged : along_names i es d.identifier (d.path ++ (e ∷ [])) ≡ levels_along i es d
      unchanged = decide (eqb d.identifier.0 i.0)
          (λ t. rw t (agreed_apart d.path es e (sym (ap (λ b. b && prefix_of_names d.path es) t) ∙ parted))) (λ t. rw t)

  module _ {entries : Entries} (whole : r.rest ≡ Some entries) where
    agreed_so_far : RestAgrees s i es d (Some entries)
    agreed_so_far = subst (RestAgrees s i es d) whole a.rest

    both : eqb d.identifier.0 i.0 && prefix_of_names d.path es ≡ true
    both = agreed_so_far.0

    root : eqb d.identifier.0 i.0 ≡ true
    root = and_first (eqb d.identifier.0 i.0) (prefix_of_names d.path es) both

    prefix : prefix_of_names d.path es ≡ true
    prefix = and_second (eqb d.identifier.0 i.0) (prefix_of_names d.path es) both

    before : HoldsLevels (agreed d.path es) r.levels
    before = subst (λ b. HoldsLevels (cond b (agreed d.path es) []) r.levels) root a.levels

    -- what the candidate's entries say of the next name, they say where they are those behind the
    -- names
    pub next_here : (found : Option Entries) → NextIs e.property (entries_at entries.left s entries.at) s found
        → NextIs e.property (drop (length d.path) es) s found
    next_here found = subst (λ xs. NextIs e.property xs s found) (reads_at agreed_so_far.1)

    -- the code's numbers with the entry, and whether its name is the candidate's next
    module _ (levels : Levels) (same : Bool) (next : next_same e.property (drop (length d.path) es) ≡ same)
        (end : levels.end ≡ cond same (2 * r.levels.end) r.levels.end)
        (optional : levels.optional ≡ r.levels.optional + cond e.optional (r.levels.end / 2) 0) where
      held : HoldsLevels (agreed (d.path ++ (e ∷ [])) es) levels
      held = record {
        few = let l = agreed_length (d.path ++ (e ∷ [])) es in omega arith;
        end = end ∙ rw before.end (sym
            (agreed_weight d.path es e prefix ∙ ap (λ b. cond b (2 * weight_of (agreed d.path es)) (weight_of (agreed d.path es))) next));
        optional = optional ∙ rw (before.optional, before.end) (sym (agreed_number d.path es e prefix));
      }

      held_along : HoldsLevels (levels_along i es d') levels
      held_along = subst (λ bs. HoldsLevels bs levels) (sym (along ∙ ap (λ b. cond b (agreed (d.path ++ (e ∷ [])) es) []) root)) held

      has_next : eqb d'.identifier.0 i.0 && prefix_of_names d'.path es ≡ same
      has_next = has ∙ ap (λ b. b && next_same e.property (drop (length d.path) es)) both ∙ next

    pub further_on : (levels : Levels) (rest : Entries) → NextIs e.property (drop (length d.path) es) s (Some rest) → levels.end ≡ 2 * r.levels.end
        → levels.optional ≡ r.levels.optional + cond e.optional (r.levels.end / 2) 0 → Agrees s i es d' (record { levels = levels; rest = Some rest })
    further_on levels rest next end optional = record {
      levels = held_along levels true next.0 end optional;
      rest = (
        has_next levels true next.0 end optional,
        subst (λ xs. Reads rest.left s rest.at xs)
            (drop-drop 1 (length d.path) es ∙ ap (λ n. drop n es) (sym (length-append d.path (e ∷ [])) ∙ ap length (sym child.path))) next.1,
      );
    }

    pub further_parted : (levels : Levels) → NextIs e.property (drop (length d.path) es) s None → levels.end ≡ r.levels.end
        → levels.optional ≡ r.levels.optional + cond e.optional (r.levels.end / 2) 0 → Agrees s i es d' (record { levels = levels; rest = None })
    further_parted levels next end optional =
        record { levels = held_along levels false next end optional; rest = has_next levels false next end optional }

-- where the names have not parted
pub rest_read : {s : List ℕ} (r : Agreement) {entries : Entries} → r.rest ≡ Some entries → RestRead s r → AreRead entries.left s entries.at
rest_read {s} r whole h = subst (λ o. IfSome o (λ rest. AreRead rest.left s rest.at)) whole h

pub agrees_small : {s : List ℕ} {i : IdentifierId} {es : List DependencyPathEntry} {d : ReactiveScopeDependency} {r : Agreement} → Agrees s i es d r
    → Small r.levels
agrees_small {i} {es} {d} a = holds_small {bs = levels_along i es d} a.levels

pub agrees_rest : {s : List ℕ} {i : IdentifierId} {es : List DependencyPathEntry} {d : ReactiveScopeDependency} {r : Agreement} → Agrees s i es d r
    → RestRead s r
agrees_rest {s} {i} {es} {d} {r} a = go r.rest a.rest
  where
    go : (o : Option Entries) → RestAgrees s i es d o → IfSome o (λ rest. AreRead rest.left s rest.at)
    go (Some x) h = subst (Reads x.left s x.at) (sym (reads_at h.1)) h.1
    go None h = tt

-- A root.

module _ (s : List ℕ) (i : IdentifierId) (es : List DependencyPathEntry) (d : ReactiveScopeDependency) (none : d.path ≡ []) where
  pub root_same : eqb d.identifier.0 i.0 ≡ true → (entries : Entries) → Reads entries.left s entries.at es
      → Agrees s i es d (record { levels = record { end = 2; optional = 0 }; rest = Some entries })
  unfolding number_of weight_of
  root_same same entries reads = record {
    levels = rw (same, none) (record { few = omega arith; end = refl; optional = refl });
    rest = (rw (same, none), rw none reads);
  }

  pub root_other : eqb d.identifier.0 i.0 ≡ false → (v : Levels) → HoldsLevels [] v → Agrees s i es d (record { levels = v; rest = None })
  root_other other v h = record { levels = rw other h; rest = rw other }

-- The paths that are left of a set: what they decide beside what is known, all of them decide.
use Prim.Native.Nat.{ℕ, ◌%◌, ◌<◌}
use native.Mathlib.Omega.{arith}
use mathlib.Core.Path.{◌≡◌, refl, sym, ap, subst, ◌∙◌}
use mathlib.Core.Bool.{Bool, false, cond}
use mathlib.Core.List.{List, [], ◌∷◌, map}
use lib.Dec.{eqb}
use Rattle.entries.specs.declared.IdentifierId.{IdentifierId}
use Rattle.entries.specs.declared.NodeId.{NodeId}
use Rattle.entries.specs.declared.DependencyPathEntry.{DependencyPathEntry}
use Rattle.entries.specs.Path.{same_property, ReactiveScopeDependency}
use Rattle.rows.specs.Members.{members_of}
use Rattle.model.specs.Sets.{NodeSet}
use Rattle.registry.specs.Words.{count_in, registry_of}
use Rattle.registry.proofs.View.{registry_length}
use Rattle.model.specs.ListLaws.{All}
use Rattle.model.specs.Tests.{decide}
use Rattle.model.specs.Registry.{full_path_of}
use Rattle.model.specs.ReductionLaws.{Members}
use Rattle.model.specs.Tree.{starts_optional}
use Rattle.hoistable.specs.declared.Levels.{Levels}
use Rattle.hoistable.specs.Levels.{number_of}
use Rattle.hoistable.specs.Agreement.{agreed, levels_along, over, decided, HoldsLevels}
use Rattle.hoistable.proofs.Walks.{lowest_bit}
use Rattle.hoistable.proofs.Trees.{over_none}

-- The lowest bit of what a path decides says whether its first entry is optional.

agreed_bit : (ds es : List DependencyPathEntry) → number_of (agreed ds es) % 2 ≡ cond (starts_optional ds) 1 0
agreed_bit [] es = lowest_bit false []
agreed_bit (d ∷ ds) [] = lowest_bit d.optional []
agreed_bit (d ∷ ds) (e ∷ es) = lowest_bit d.optional (cond (same_property d.property e.property) (agreed ds es) [])

module _ (i : IdentifierId) (es : List DependencyPathEntry) (xs ys : List Bool) (d : ReactiveScopeDependency) (ds : List ReactiveScopeDependency) where
  decides_ahead : number_of (levels_along i es d) % 2 ≡ 1 → decided i es xs ys (d ∷ ds) ≡ decided i es (over xs (levels_along i es d)) ys ds
  unfolding decided number_of
  decides_ahead bit =
      decide (eqb d.identifier.0 i.0)
      (λ t. decide (starts_optional d.path) (λ o. rw o)
      (λ o. let one = sym (ap (λ b. number_of (cond b (agreed d.path es) []) % 2) t) ∙ bit in let none = agreed_bit d.path es ∙ ap
      (λ b. cond b 1 0) o in absurd (omega arith)))
      (λ t. let one : 0 ≡ 1 = sym (ap (λ b. number_of (cond b (agreed d.path es) []) % 2) t) ∙ bit in absurd (omega arith))

  decides_rest : ¬ (number_of (levels_along i es d) % 2 ≡ 1) → decided i es xs ys (d ∷ ds) ≡ decided i es xs (over ys (levels_along i es d)) ds
  unfolding decided
  decides_rest bit =
      decide (starts_optional d.path)
      (λ o. decide (eqb d.identifier.0 i.0)
      (λ t. absurd (bit (ap (λ b. number_of (cond b (agreed d.path es) []) % 2) t ∙ agreed_bit d.path es ∙ ap (λ b. cond b 1 0) o)))
      (λ t. rw (o, t, over_none xs, over_none ys)))
      (λ o. rw o)

-- The paths that are left.

-- `left` are the members whose paths are left
pub record Deciding (i : IdentifierId) (es : List DependencyPathEntry) (ws : List ℕ) (whole : List Bool) (v w : Levels) (left : NodeSet) : Type 0 where
  pub xs : List Bool
  pub ys : List Bool
  pub ahead : HoldsLevels xs v
  pub rest : HoldsLevels ys w
  pub inside : All (λ k. k.0 < count_in ws) left
  pub on : decided i es xs ys (map (full_path_of (registry_of ws)) left) ≡ whole

-- what `over` ensures of its result
abbrev Over : Levels → Levels → Levels → Type 0
Over v w q = (xs ys : List Bool) → HoldsLevels xs v → HoldsLevels ys w → HoldsLevels (over xs ys) q

pub deciding_start : (i : IdentifierId) (es : List DependencyPathEntry) (ws set : List ℕ) (left : NodeSet) {v w : Levels}
    → Members (registry_of ws) (members_of set) → left ≡ members_of set → HoldsLevels [] v → HoldsLevels [] w
    → Deciding i es ws (decided i es [] [] (map (full_path_of (registry_of ws)) (members_of set))) v w left
deciding_start i es ws set left members all v w = rw all (record {
  xs = [];
  ys = [];
  ahead = v;
  rest = w;
  inside = subst (λ n. All (λ k. k.0 < n) (members_of set)) (registry_length ws) members.inside;
  on = refl;
})

module _ {i : IdentifierId} {es : List DependencyPathEntry} {ws : List ℕ} {whole : List Bool} {v w : Levels} {left : NodeSet}
    (a : Deciding i es ws whole v w left) where
  pub deciding_end : left ≡ [] → {q : Levels} → Over v w q → HoldsLevels whole q
  unfolding decided
  deciding_end none {q} o =
      subst (λ bs. HoldsLevels bs q) (sym (ap (λ ks. decided i es a.xs a.ys (map (full_path_of (registry_of ws)) ks)) none) ∙ a.on)
      (o a.xs a.ys a.ahead a.rest)

  module _ {k : NodeId} {ks : NodeSet} (next : left ≡ k ∷ ks) where
    all : (k.0 < count_in ws) × All (λ j. j.0 < count_in ws) ks
    all = subst (All (λ j. j.0 < count_in ws)) next a.inside

    pub deciding_inside : k.0 < count_in ws
    deciding_inside = all.0

    abbrev path : ReactiveScopeDependency
    path = full_path_of (registry_of ws) k

    onward : decided i es a.xs a.ys (path ∷ map (full_path_of (registry_of ws)) ks) ≡ whole
    onward = sym (ap (λ js. decided i es a.xs a.ys (map (full_path_of (registry_of ws)) js)) next) ∙ a.on

    -- the path's levels, as the code has them, go to those ahead or to the others by their lowest
    -- bit
    module _ (levels : Levels) (held : HoldsLevels (levels_along i es path) levels) (q : Levels) where
      pub deciding_ahead : levels.optional % 2 ≡ 1 → Over v levels q → Deciding i es ws whole q w ks
      deciding_ahead bit o = record {
        xs = over a.xs (levels_along i es path);
        ys = a.ys;
        ahead = o a.xs (levels_along i es path) a.ahead held;
        rest = a.rest;
        inside = all.1;
        on = sym (decides_ahead i es a.xs a.ys path _ (ap (λ n. n % 2) (sym held.optional) ∙ bit)) ∙ onward;
      }

      pub deciding_rest : ¬ (levels.optional % 2 ≡ 1) → Over w levels q → Deciding i es ws whole v q ks
      deciding_rest bit o = record {
        xs = a.xs;
        ys = over a.ys (levels_along i es path);
        ahead = a.ahead;
        rest = o a.ys (levels_along i es path) a.rest held;
        inside = all.1;
        on = sym (decides_rest i es a.xs a.ys path _ (λ t. bit (ap (λ n. n % 2) held.optional ∙ t))) ∙ onward;
      }

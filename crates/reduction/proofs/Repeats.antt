-- The passes that are left of a reduction.
use Prim.Native.Nat.{ℕ, ◌≤◌, ◌<◌}
use native.Mathlib.Omega.{arith}
use mathlib.Core.Path.{◌≡◌, sym, ap, subst, ◌∙◌}
use mathlib.Core.Bool.{Bool, true, false}
use mathlib.Core.List.{List}
use lib.ListN.{length}
use Rattle.rows.specs.Members.{members_of}
use Rattle.registry.specs.Words.{registry_of, Held}
use Rattle.model.specs.Tests.{decide}
use Rattle.model.specs.Sets.{NodeSet}
use Rattle.model.specs.Registry.{node_limit, PropertyPathRegistry}
use Rattle.model.specs.RegistryLaws.{Extends}
use Rattle.model.proofs.RegistryLaws.{extends_length}
use Rattle.model.specs.Reduction.{PassState, Reduced, left_by, pass, optional_marks_of, reduce_maybe_optional_chains}
use Rattle.model.specs.ReductionLaws.{Members}
use Rattle.model.proofs.ReductionLaws.{
  members_extends,
  pass_extends,
  pass_shrunk,
  pass_less,
  reduction_extends,
  reduction_repeats,
  reduced_extends,
  reduced_already,
}
use Rattle.reduction.specs.Reduces.{KnownReduced, pass_of}

-- the reduction of the set `s` in the registry of these words is the one asked for
pub record Repeating (end : Reduced) (ws s : List ℕ) : Type 0 where
  pub members : Members (registry_of ws) (members_of s)
  pub left : reduce_maybe_optional_chains (registry_of ws) (members_of s) ≡ end

-- the optional marks of the set
abbrev pub marks_left : List ℕ → List ℕ → ℕ
marks_left ws s = optional_marks_of (registry_of ws) (members_of s)

module _ {end : Reduced} {ws os s : List ℕ} (held : Held ws os) (a : Repeating end ws s) where
  abbrev reg : PropertyPathRegistry
  reg = registry_of ws

  abbrev passed : PassState
  passed = pass reg (members_of s)

  -- a pass makes no node that the reduction does not make
  pub repeating_full : node_limit < length passed.registry → node_limit < length end.registry
  repeating_full past =
      let on = reduction_repeats reg (members_of s) held.sound a.members in
      let most : length passed.registry ≤ length end.registry =
      decide passed.changed
      (λ e.
      let longer = extends_length (reduction_extends passed.registry passed.set) in
      let same = ap (λ (x : Reduced). length x.registry) (sym (on.0 e) ∙ a.left) in
      omega arith)
      (λ e. let same = ap (λ (x : Reduced). length x.registry) (sym (on.1 e) ∙ a.left) in omega arith) in
      omega arith

  module _ (vs ps t : List ℕ) {changed : Bool} (after : Held vs ps) (to : passed ≡ pass_of (registry_of vs) t changed) where
    flag : passed.changed ≡ changed
    flag = ap (λ (x : PassState). x.changed) to

    pub repeating_end : changed ≡ false → end ≡ record { registry = registry_of vs; set = members_of t }
    repeating_end e = sym a.left ∙ (reduction_repeats reg (members_of s) held.sound a.members).1 (flag ∙ e) ∙ ap left_by to

    pub repeating_more : changed ≡ true → Repeating end vs t
    repeating_more e = record {
      members = subst (λ (x : PassState). Members x.registry x.set) to (pass_shrunk reg (members_of s) held.sound a.members).members;
      left = ap (λ (x : PassState). reduce_maybe_optional_chains x.registry x.set) (sym to)
          ∙ sym ((reduction_repeats reg (members_of s) held.sound a.members).0 (flag ∙ e)) ∙ a.left;
    }

    -- a set that is known to be reduced stays so while the passes make nodes
    pub known_more : {known : Bool} (b : NodeSet) → KnownReduced known reg b → KnownReduced known (registry_of vs) b
    known_more b k e =
        let longer = subst (λ (x : PassState). Extends reg x.registry) to (pass_extends reg (members_of s)) in
        let was = k e in
        (members_extends b longer was.0, reduced_extends reg b held.sound was.0 longer was.1)

    -- the pass left a set that is known to be reduced
    pub repeating_known : {known : Bool} (b : NodeSet) → changed ≡ true → KnownReduced known reg b → known ≡ true → b ≡ members_of t
        → end ≡ record { registry = registry_of vs; set = b }
    repeating_known {known} b e k known-so same =
        let then = known_more {known = known} b k known-so in
        sym (repeating_more e).left ∙ ap (reduce_maybe_optional_chains (registry_of vs)) (sym same)
        ∙ reduced_already (registry_of vs) b after.sound then.0 then.1

    pub repeating_less : changed ≡ true → marks_left vs t < marks_left ws s
    repeating_less e =
        let less = pass_less reg (members_of s) held.sound a.members (flag ∙ e) in
        let same = ap (λ (x : PassState). optional_marks_of x.registry x.set) to in
        omega arith

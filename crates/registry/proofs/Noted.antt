-- The set of the nodes with an optional entry, kept while nodes are made.
use Prim.Native.Nat.{ℕ, ◌+◌, ◌/◌, ◌%◌, ◌≤◌, ◌<◌}
use native.Mathlib.Omega.{arith}
use mathlib.Core.Path.{◌≡◌, refl, sym, ap, ◌∙◌, subst}
use mathlib.Core.Bool.{Bool, false, ◌||◌}
use mathlib.Core.List.{List, [], ◌∷◌, ◌++◌}
use lib.ListN.{length, replicate, length-replicate, get_or-replicate, length-append, get_or-append, get_or-eq_default}
use lib.Seq.{get_or-append_seam}
use lib.Dec.{eqb}
use Rattle.entries.specs.declared.NodeId.{NodeId}
use Rattle.entries.specs.declared.DependencyPathEntry.{DependencyPathEntry}
use Rattle.model.specs.Lists.{any_of}
use Rattle.model.specs.Tests.{decide, eqb_same, eqb-true, eqb-false, or_swap}
use Rattle.model.specs.Sets.{NodeSet, same_node, contains}
use Rattle.model.specs.SetLaws.{contains_inserted}
use Rattle.model.specs.Registry.{PropertyPathRegistry, PropertyPathNode, full_path_of}
use Rattle.model.specs.RegistryLaws.{node_at, Sound}
use Rattle.model.proofs.RegistryLaws.{sound_empty}
use Rattle.model.specs.Reduction.{has_optional}
use Rattle.rows.specs.Members.{members_of}
use Rattle.registry.specs.declared.Node.{Node}
use Rattle.registry.specs.declared.Node.TheVariants.{Root, Child}
use Rattle.registry.specs.Nodes.{node_over, optional_over, noted_with}
use Rattle.registry.specs.Words.{quarter, end_in, count_in, nodes_of, registry_of, Held, HoldsNone}
use Rattle.registry.proofs.Quarters.{no_quarter}
use Rattle.registry.proofs.View.{registry_length, registry_snoc}
use Rattle.registry.proofs.Buckets.{none_linked}

abbrev optional? : DependencyPathEntry → Bool
optional? e = e.optional

any_snoc : (es : List DependencyPathEntry) (e : DependencyPathEntry) → any_of optional? (es ++ (e ∷ [])) ≡ (e.optional || any_of optional? es)
any_snoc [] e = refl
any_snoc (x ∷ es) e = ap (λ b. x.optional || b) (any_snoc es e) ∙ or_swap x.optional e.optional (any_of optional? es)

-- a place behind the last node has none
past_none : (reg : PropertyPathRegistry) (k : NodeId) → length reg ≤ k.0 → has_optional reg k ≡ false
past_none reg k h = ap (λ (n : PropertyPathNode). any_of optional? n.full_path.path) (get_or-eq_default reg _ h)

module _ (reg : PropertyPathRegistry) (n : Node) (os : NodeSet) (noted : (k : NodeId) → contains os k ≡ has_optional reg k) where
  abbrev more : PropertyPathRegistry
  more = reg ++ (node_over reg n ∷ [])

  -- the new node has one where its entry is, or its parent has one
  new_optional : (m : Node) → any_of optional? (node_over reg m).full_path.path ≡ optional_over os m
  new_optional (Root i r s) = refl
  new_optional (Child p e) = any_snoc (full_path_of reg p).path e ∙ ap (λ b. e.optional || b) (sym (noted p))

  at_new : (k : NodeId) → k.0 ≡ length reg → has_optional more k ≡ optional_over os n
  at_new k e =
      ap (λ (i : ℕ). any_of optional? (node_at more i).full_path.path) e
      ∙ ap (λ (m : PropertyPathNode). any_of optional? m.full_path.path) (get_or-append_seam reg (node_over reg n) [] _) ∙ new_optional n

  at_old : (j : NodeId) → ¬ (j.0 ≡ length reg) → has_optional more j ≡ has_optional reg j
  at_old j other =
      decide (lib.Dec.ltb j.0 (length reg))
      (λ l. ap (λ (m : PropertyPathNode). any_of optional? m.full_path.path)
      (get_or-append reg (node_over reg n ∷ []) _ j.0 (Rattle.model.specs.Tests.ltb_true j.0 (length reg) l)))
      (λ l.
      let past = Rattle.model.specs.Tests.ltb_false j.0 (length reg) l in
      let size = length-append reg (node_over reg n ∷ []) in
      past_none more j (omega arith) ∙ sym (past_none reg j (omega arith)))

  noted_more : (k : NodeId) → k.0 ≡ length reg → (j : NodeId) → contains (noted_with os n k) j ≡ has_optional more j
  noted_more k e j =
      decide (same_node k j)
      (λ t.
      let here : j.0 ≡ length reg = sym (eqb-true k.0 j.0 t) ∙ e in
      let none : contains os j ≡ false = noted j ∙ past_none reg j (omega arith) in
      decide (optional_over os n)
      (λ o. rw o (contains_inserted k j os ∙ rw t (sym (at_new j here ∙ o))))
      (λ o. rw o (none ∙ sym (at_new j here ∙ o))))
      (λ t.
      let apart = eqb-false k.0 j.0 t in
      let other = at_old j (λ here. omega arith) in
      decide (optional_over os n)
      (λ o. rw o (contains_inserted k j os ∙ rw t (noted j ∙ sym other)))
      (λ o. rw o (noted j ∙ sym other)))

-- of the words
pub noted_new : (ws vs os ps : List ℕ) (n : Node) (k : NodeId) → Held ws os → k.0 ≡ count_in ws → nodes_of vs ≡ nodes_of ws ++ (n ∷ [])
    → members_of ps ≡ noted_with (members_of os) n k
    → (j : NodeId) → contains (members_of ps) j ≡ has_optional (registry_of vs) j
noted_new ws vs os ps n k h e nodes members j =
    ap (λ s. contains s j) members ∙ noted_more (registry_of ws) n (members_of os) h.noted k (e ∙ sym (registry_length ws)) j
    ∙ ap (λ r. has_optional r j) (sym (registry_snoc ws vs n nodes))

-- words that count no node
none_held : (ws os : List ℕ) → length ws ≡ 1665 → count_in ws ≡ 0 → ((b : ℕ) → b < 512 → end_in ws b ≡ 0) → length os ≡ 8 → members_of os ≡ []
    → HoldsNone ws os
none_held ws os long none ends eight empty = (
  record {
    sized = record { long = long; room = omega arith };
    linked = none_linked ws none ends;
    packed = λ k l. absurd (omega arith);
    eight = eight;
    sound = subst Sound (sym nothing) sound_empty;
    noted = λ k. ap (λ s. contains s k) empty ∙ sym (ap (λ r. has_optional r k) nothing ∙ past_none [] k (omega arith));
  },
  nothing,
)
  where
    nothing : registry_of ws ≡ []
    nothing = go (registry_of ws) (registry_length ws ∙ none)
      where
        go : (r : PropertyPathRegistry) → length r ≡ 0 → r ≡ []
        go [] e = refl
        go (n ∷ r) e = absurd (omega arith)

-- words that are all 0, and a set with no member
pub zeros_hold_none : (os : List ℕ) → length os ≡ 8 → members_of os ≡ [] → HoldsNone (replicate 1665 0) os
zeros_hold_none os =
    none_held (replicate 1665 0) os (length-replicate {A = ℕ} 1665 0) (get_or-replicate 1665 1536 0 0 (omega arith))
    (λ b l. ap (λ (w : ℕ). quarter w (b % 4)) (get_or-replicate 1665 (1537 + b / 4) 0 0 (omega arith)) ∙ no_quarter (b % 4))

-- The passes of a reduction are enough: in a sound registry each change takes an optional mark out
-- of the set's paths, so a further pass changes nothing (`reduction_reduced`), more passes change
-- nothing (`reduction_more`), and the reduction is the repetition that document 01 describes
-- (`reduction_repeats`) and nothing else is (`reduction_only`). A reduced set stays so when nodes
-- are made, and reducing it again changes nothing.
use Prim.Native.Nat.{ℕ, zero, suc, ◌+◌, ◌≤◌, ◌<◌}
use Rattle.std.proofs.Common.{le_refl, le_trans, not-suc-le-zero, sym, subst, ◌∙◌}
use native.Mathlib.Omega.{arith}
use Rattle.std.specs.Prelude.{◌≡◌, ◌||◌, cond, List, [], ◌∷◌, ◌++◌, eqb}
use Rattle.std.proofs.Math.Path.{refl, ap}
use Rattle.std.proofs.Math.Bool.{Bool, true, false, not, or-false}
use Rattle.std.proofs.Math.ListN.{length}
use Rattle.entries.specs.declared.NodeId.{NodeId}
use Rattle.entries.specs.declared.DependencyPathEntry.{DependencyPathEntry}
use Rattle.entries.specs.Path.{ReactiveScopeDependency}
use Rattle.model.specs.Lists.{select}
use Rattle.model.specs.Sets.{NodeSet, same_node, contains, insert, remove}
use Rattle.model.specs.Registry.{
  step_from,
  PropertyPathRegistry,
  Reached,
  full_path_of,
  get_or_create_identifier,
  get_or_create_property_entry,
  with_optional,
  after_making,
  walk_from,
  walk_path,
  own_mark,
}
use Rattle.model.specs.Reduction.{
  PassState,
  Reduced,
  left_by,
  reduced_mark,
  reduce_node,
  reduce_nodes,
  pass_start,
  has_optional,
  pass,
  passes,
  optional_marks,
  optional_marks_of,
  reduce_maybe_optional_chains,
}
use Rattle.model.specs.Tests.{by_cond, decide, never, eqb_same, eqb-true, eqb-false, eqb_apart, and_first}
use Rattle.model.specs.ListLaws.{All, all_map, all_both, all_select, select_same}
use Rattle.model.specs.SetLaws.{
  same_node_lem,
  From,
  from_above,
  insert_from,
  select_from,
  insert_all,
  contains_all,
  contains_insert,
  contains_select,
  all_contained,
  sum_insert,
  sum_remove,
  sum_same,
}
use Rattle.model.specs.RegistryLaws.{Extends, Sound, Proper}
use Rattle.model.proofs.RegistryLaws.{
  extends_refl,
  extends_trans,
  extends_length,
  extends_path,
  entry_optional,
  root_reached,
  child_reached,
  step_proper,
  path_proper,
  path_extends,
  walk_extended,
  leads_back,
}
use Rattle.model.specs.ReductionLaws.{Members, Repeats, IsReduced, LeadsBack}

-- Optional marks.

abbrev mark_value : Bool → ℕ
mark_value true = 1
mark_value false = 0

marks_snoc : (es : List DependencyPathEntry) (e : DependencyPathEntry) → optional_marks
    (es ++ (e ∷ [])) ≡ optional_marks es + mark_value e.optional
unfolding optional_marks
marks_snoc [] e = go e.optional
  where
    go : (b : Bool) → cond b 1 0 ≡ 0 + mark_value b
    go true = refl
    go false = refl
marks_snoc (x ∷ es) e = let h = marks_snoc es e in decide x.optional (λ t. rw t (omega arith)) (λ t. rw t h)

marks_cons : (e : DependencyPathEntry) (es : List DependencyPathEntry) → optional_marks (e ∷ es) ≡ mark_value
    e.optional + optional_marks es
unfolding optional_marks
marks_cons e es = decide e.optional (λ t. rw t (omega arith)) (λ t. rw t (omega arith))

-- the optional marks of a node's path
abbrev marks_at : PropertyPathRegistry → NodeId → ℕ
marks_at reg k = optional_marks (full_path_of reg k).path

abbrev marks_reached : Reached → ℕ
marks_reached at = marks_at at.registry at.node

child_marks : (at : Reached) (e : DependencyPathEntry) → Proper at → marks_reached
    (get_or_create_property_entry at.registry at.node e) ≡ marks_reached at + mark_value e.optional
child_marks at e h =
    let c = child_reached at.registry at.node e h.sound h.inside in
    ap optional_marks c.child.path ∙ marks_snoc (full_path_of at.registry at.node).path c.entry ∙ ap
    (λ b. marks_reached at + mark_value b) (entry_optional c.entry e c.same)

-- Walks that only take marks away.

abbrev Lowers : (NodeId → DependencyPathEntry → Bool) → Type 0
Lowers mark = (k : NodeId) (e : DependencyPathEntry) → mark k e ≡ true → e.optional ≡ true

-- a walk that takes none away is the walk under the entries' own marks
record Lowered (mark : NodeId → DependencyPathEntry → Bool) (at : Reached) (es : List DependencyPathEntry) : Type 0 where
  fewer : marks_reached (walk_from mark at es) ≤ marks_reached at + optional_marks es
  kept : marks_reached (walk_from mark at es) ≡ marks_reached at + optional_marks es → walk_from mark at es ≡ walk_from own_mark at es

walk_lowers : (mark : NodeId → DependencyPathEntry → Bool) → Lowers mark → (at : Reached) (es : List DependencyPathEntry)
    → Proper at → Lowered mark at es
unfolding walk_from optional_marks
walk_lowers mark low at [] h = record { fewer = omega arith; kept = λ e. refl }
walk_lowers mark low at (e ∷ es) h =
    let o = mark at.node e in
    go o e.optional refl refl (walk_lowers mark low (step_from mark at e) es (step_proper mark at e h)) (child_marks at (with_optional e o) h)
  where
    next : Bool → Reached
    next o = after_making at.made (get_or_create_property_entry at.registry at.node (with_optional e o))

    all : optional_marks (e ∷ es) ≡ mark_value e.optional + optional_marks es
    all = marks_cons e es

    -- the entry keeps its mark
    same : (o : Bool) → mark at.node e ≡ o → e.optional ≡ o → Lowered mark (next o) es → marks_reached
        (next o) ≡ marks_reached at + mark_value o → Lowered mark at (e ∷ es)
    same o m t r here =
        let whole = all in
        let here-marks = ap (λ b. marks_reached (walk_from mark (next b) es)) m in
        let value = ap mark_value t in
        let less = r.fewer in
        record {
          fewer = omega arith;
          kept = λ k. ap (λ b. walk_from mark (next b) es) m ∙ r.kept (omega arith) ∙ sym (ap (λ b. walk_from own_mark (next b) es) t);
        }

    go : (o b : Bool) → mark at.node e ≡ o → e.optional ≡ b → Lowered mark (next (mark at.node e)) es → marks_reached
        (next (mark at.node e)) ≡ marks_reached at + mark_value (mark at.node e) → Lowered mark at (e ∷ es)
    go true false m t r here = never (low at.node e m) t
    go true true m t r here = same true m t (subst (λ o. Lowered mark (next o) es) m r)
        (subst (λ o. marks_reached (next o) ≡ marks_reached at + mark_value o) m here)
    go false false m t r here = same false m t (subst (λ o. Lowered mark (next o) es) m r)
        (subst (λ o. marks_reached (next o) ≡ marks_reached at + mark_value o) m here)
    go false true m t r here =
        let whole = all in
        let gone = ap mark_value m in
        let value = ap mark_value t in
        let less = r.fewer in
        record { fewer = omega arith; kept = λ k. absurd (omega arith) }

-- One node.

lowers : (s : NodeSet) → Lowers (reduced_mark s)
lowers s k e h = and_first e.optional _ h

-- A walk that comes back to its node takes no mark away, and one that does not takes one away at
-- least.
node_lowered : (s : NodeSet) (reg : PropertyPathRegistry) (k : NodeId) → Sound reg → k.0 < length reg
    → (marks_reached (walk_path (reduced_mark s) reg (full_path_of reg k)) ≤ marks_at reg k)
    × (same_node (walk_path (reduced_mark s) reg (full_path_of reg k)).node k ≡ false → marks_reached
    (walk_path (reduced_mark s) reg (full_path_of reg k)) < marks_at reg k)
unfolding optional_marks
node_lowered s reg k h le =
    let d = full_path_of reg k in
    let r = root_reached reg d.identifier d.reactive d.span h in
    let start = get_or_create_identifier reg d.identifier d.reactive d.span in
    let low = walk_lowers (reduced_mark s) (lowers s) start d.path r.proper in
    let less = low.fewer in
    let none : marks_reached start ≡ 0 = ap optional_marks r.path in
    let after = marks_reached (walk_from (reduced_mark s) start d.path) in (
      omega arith,
      λ moved. decide (eqb after (marks_at reg k))
          (λ e.
          let same = eqb-true after (marks_at reg k) e in
          let back = low.kept (omega arith) ∙ leads_back reg h (suc k.0) k (le_refl _) le d.reactive d.span in
          never (ap (λ at. same_node at.node k) back ∙ eqb_same k.0) moved)
          (λ e. let other = eqb-false after (marks_at reg k) e in omega arith),
    )

pub members_extends : {a b : PropertyPathRegistry} (s : NodeSet) → Extends a b → Members a s → Members b s
members_extends {a} {b} s x m =
    let le = extends_length x in
    record { ascending = m.ascending; inside = all_map (λ k. k.0 < length a) (λ k. k.0 < length b) (λ k h. omega arith) s m.inside }

marks_extends : {a b : PropertyPathRegistry} (s : NodeSet) → Extends a b → Members a s → optional_marks_of b s ≡ optional_marks_of a s
unfolding optional_marks_of
marks_extends {a} {b} s x m =
    sum_same (marks_at b) (marks_at a) s
    (all_map (λ k. k.0 < length a) (λ k. marks_at b k ≡ marks_at a k)
    (λ k h. ap (λ d. optional_marks d.path) (extends_path k x h)) s m.inside)

-- No step of a reduction takes a node out of the registry, sound or not.

pub node_extends : (r : PassState) (k : NodeId) → Extends r.registry (reduce_node r k).registry
unfolding reduce_node
node_extends r k = path_extends (reduced_mark r.set) r.registry (full_path_of r.registry k)

pub nodes_extend : (r : PassState) (ks : List NodeId) → Extends r.registry (reduce_nodes r ks).registry
nodes_extend r [] = extends_refl r.registry
nodes_extend r (k ∷ ks) = extends_trans (node_extends r k) (nodes_extend (reduce_node r k) ks)

pub pass_extends : (reg : PropertyPathRegistry) (s : NodeSet) → Extends reg (pass reg s).registry
unfolding pass
pass_extends reg s = nodes_extend (pass_start reg s) (select (has_optional reg) s)

-- A sound registry stays sound.

pub node_sound : (r : PassState) (k : NodeId) → Sound r.registry → Sound (reduce_node r k).registry
unfolding reduce_node
node_sound r k h = (path_proper (reduced_mark r.set) r.registry (full_path_of r.registry k) h).sound

nodes_sound : (r : PassState) (ks : List NodeId) → Sound r.registry → Sound (reduce_nodes r ks).registry
nodes_sound r [] h = h
nodes_sound r (k ∷ ks) h = nodes_sound (reduce_node r k) ks (node_sound r k h)

pub pass_sound : (reg : PropertyPathRegistry) (s : NodeSet) → Sound reg → Sound (pass reg s).registry
unfolding pass
pass_sound reg s h = nodes_sound (pass_start reg s) (select (has_optional reg) s) h

-- What reducing does to the set: `changed` is paid for by a mark.
pub record Shrunk (r r' : PassState) : Type 0 where
  pub members : Members r'.registry r'.set
  pub paid : optional_marks_of r'.registry r'.set + mark_value r'.changed ≤ optional_marks_of r.registry
      r.set + mark_value r.changed

shrunk_trans : {a b c : PassState} → Shrunk a b → Shrunk b c → Shrunk a c
shrunk_trans x y = record { members = y.members; paid = le_trans y.paid x.paid }

-- the set after a node of it was walked again
module _ (r : PassState) (k : NodeId) (h : Sound r.registry) (m : Members r.registry r.set)
    (has : contains r.set k ≡ true) where
  at : Reached
  at = walk_path (reduced_mark r.set) r.registry (full_path_of r.registry k)

  inside : k.0 < length r.registry
  inside = contains_all (λ j. j.0 < length r.registry) r.set k m.inside has

  extends : Extends r.registry at.registry
  unfolding at
  extends = path_extends (reduced_mark r.set) r.registry (full_path_of r.registry k)

  proper : Proper at
  unfolding at
  proper = path_proper (reduced_mark r.set) r.registry (full_path_of r.registry k) h

  moved_set : NodeSet
  moved_set = insert at.node (remove k r.set)

  kept_members : Members at.registry r.set
  kept_members = members_extends r.set extends m

  moved_members : Members at.registry moved_set
  unfolding moved_set
  moved_members =
      let gone : NodeId → Bool = λ x. not (same_node x k) in
      record {
        ascending = insert_from zero at.node (remove k r.set) (omega arith) (select_from zero gone r.set m.ascending);
        inside = insert_all (λ j. j.0 < length at.registry) at.node (remove k r.set) proper.inside
            (all_select (λ j. j.0 < length at.registry) gone r.set kept_members.inside);
      }

  moved_marks : same_node at.node k ≡ false → optional_marks_of at.registry moved_set < optional_marks_of r.registry r.set
  unfolding optional_marks_of moved_set at
  moved_marks moved =
      let in-set = sum_insert (marks_at at.registry) at.node (remove k r.set) in
      let out-of-set = sum_remove (marks_at at.registry) k r.set has in
      let less = (node_lowered r.set r.registry k h inside).1 moved in
      let kept = marks_extends r.set extends m in
      let own : marks_at at.registry k ≡ marks_at r.registry k = ap (λ d. optional_marks d.path) (extends_path k extends inside) in
      omega arith

  node_shrunk : Shrunk r (reduce_node r k)
  unfolding reduce_node at moved_set
  node_shrunk = decide (same_node at.node k)
      (λ e. record {
        members = rw e kept_members;
        paid = rw e (let kept = marks_extends r.set extends m in let no_more = go r.changed in omega arith);
      })
      (λ e. record {
        members = rw e moved_members;
        paid = rw e (let less = moved_marks e in let most = at_most_one (r.changed || true) in omega arith);
      })
    where
      go : (b : Bool) → mark_value (b || false) ≡ mark_value b
      go true = refl
      go false = refl

      at_most_one : (b : Bool) → mark_value b ≤ 1
      at_most_one true = omega arith
      at_most_one false = omega arith

  -- the nodes above k are still in the set
  node_keeps : (j : NodeId) → k.0 < j.0 → contains r.set j ≡ true → contains (reduce_node r k).set j ≡ true
  unfolding reduce_node at
  node_keeps j above c =
      by_cond (λ s. contains s j ≡ true) (same_node at.node k) (λ e. c)
      (λ e. contains_insert at.node j (remove k r.set)
      (contains_select (λ x. not (same_node x k)) j r.set (rw (eqb_apart j.0 k.0 (λ same. omega arith))) c))

-- A pass.

nodes_shrunk : (r : PassState) (b : ℕ) (ks : List NodeId) → Sound r.registry → Members r.registry r.set → From b ks → All
    (λ k. contains r.set k ≡ true) ks → Shrunk r (reduce_nodes r ks)
nodes_shrunk r b [] h m f c = record { members = m; paid = le_refl _ }
nodes_shrunk r b (k ∷ ks) h m f c =
    let one = node_shrunk r k h m c.0 in
    let still = all_map (λ j. (k.0 < j.0) × (contains r.set j ≡ true)) (λ j. contains (reduce_node r k).set j ≡ true)
    (λ j x. node_keeps r k h m c.0 j x.0 x.1) ks
    (all_both (λ j. k.0 < j.0) (λ j. contains r.set j ≡ true) ks (from_above (suc k.0) ks f.1) c.1) in
    shrunk_trans one (nodes_shrunk (reduce_node r k) (suc k.0) ks (node_sound r k h) one.members f.1 still)

pub pass_shrunk : (reg : PropertyPathRegistry) (s : NodeSet) → Sound reg → Members reg s → Shrunk (pass_start reg s) (pass reg s)
unfolding pass
pass_shrunk reg s h m =
    nodes_shrunk (pass_start reg s) zero (select (has_optional reg) s) h m (select_from zero (has_optional reg) s m.ascending)
    (all_select (λ k. contains s k ≡ true) (has_optional reg) s (all_contained s))

-- Passes.

module _ (most : ℕ) (reg : PropertyPathRegistry) (s : NodeSet) where
  -- what the flag of the first pass decides
  abbrev onward : Bool → Reduced
  onward t = elim t [ true ↦ passes most (pass reg s).registry (pass reg s).set | false ↦ left_by (pass reg s) ]

  pub passes_on : (pass reg s).changed ≡ true → passes (suc most) reg s ≡ passes most (pass reg s).registry (pass reg s).set
  unfolding passes
  passes_on e = ap onward e

  pub passes_stop : (pass reg s).changed ≡ false → passes (suc most) reg s ≡ left_by (pass reg s)
  unfolding passes
  passes_stop e = ap onward e

pub passes_extend : (most : ℕ) (reg : PropertyPathRegistry) (s : NodeSet) → Extends reg (passes most reg s).registry
unfolding passes
passes_extend zero reg s = extends_refl reg
passes_extend (suc most) reg s =
    decide (pass reg s).changed
    (λ e. rw (passes_on most reg s e) (extends_trans (pass_extends reg s) (passes_extend most (pass reg s).registry (pass reg s).set)))
    (λ e. rw (passes_stop most reg s e) (pass_extends reg s))

passes_sound : (most : ℕ) (reg : PropertyPathRegistry) (s : NodeSet) → Sound reg → Sound (passes most reg s).registry
unfolding passes
passes_sound zero reg s h = h
passes_sound (suc most) reg s h =
    decide (pass reg s).changed (λ e. rw (passes_on most reg s e)
    (passes_sound most (pass reg s).registry (pass reg s).set (pass_sound reg s h)))
    (λ e. rw (passes_stop most reg s e) (pass_sound reg s h))

-- the marks that are left after a pass that changed something
pub pass_less : (reg : PropertyPathRegistry) (s : NodeSet) → Sound reg → Members reg s → (pass reg s).changed ≡ true
    → optional_marks_of (pass reg s).registry (pass reg s).set < optional_marks_of reg s
pass_less reg s h m e = let paid = (pass_shrunk reg s h m).paid in let one = ap mark_value e in omega arith

-- the passes do as such a function does, where the set's marks are fewer than the passes
passes_same : (v : PropertyPathRegistry → NodeSet → Reduced) → Repeats v → (most : ℕ) (reg : PropertyPathRegistry) (s : NodeSet)
    → Sound reg → Members reg s
    → optional_marks_of reg s < most → passes most reg s ≡ v reg s
passes_same v r zero reg s h m lt = absurd (not-suc-le-zero lt)
passes_same v r (suc most) reg s h m lt =
    let p = pass_shrunk reg s h m in
    decide (pass reg s).changed
    (λ e. let less = pass_less reg s h m e in
    passes_on most reg s e ∙ passes_same v r most (pass reg s).registry (pass reg s).set (pass_sound reg s h) p.members
    (omega arith) ∙ sym ((r reg s h m).0 e))
    (λ e. passes_stop most reg s e ∙ sym ((r reg s h m).1 e))

-- two numbers of passes that are each enough give the same
passes_enough : (a b : ℕ) (reg : PropertyPathRegistry) (s : NodeSet) → Sound reg → Members reg s → optional_marks_of reg s < a
    → optional_marks_of reg s < b → passes a reg s ≡ passes b reg s
passes_enough zero b reg s h m la lb = absurd (not-suc-le-zero la)
passes_enough (suc a) zero reg s h m la lb = absurd (not-suc-le-zero lb)
passes_enough (suc a) (suc b) reg s h m la lb =
    let p = pass_shrunk reg s h m in
    decide (pass reg s).changed
    (λ e. let less = pass_less reg s h m e in
    passes_on a reg s e ∙ passes_enough a b (pass reg s).registry (pass reg s).set (pass_sound reg s h) p.members (omega arith)
    (omega arith) ∙ sym (passes_on b reg s e))
    (λ e. passes_stop a reg s e ∙ sym (passes_stop b reg s e))

-- a set of the registry's nodes comes out
passes_members : (most : ℕ) (reg : PropertyPathRegistry) (s : NodeSet) → Sound reg → Members reg s
    → Members (passes most reg s).registry (passes most reg s).set
unfolding passes
passes_members zero reg s h m = m
passes_members (suc most) reg s h m =
    let p = pass_shrunk reg s h m in
    decide (pass reg s).changed
    (λ e. rw (passes_on most reg s e) (passes_members most (pass reg s).registry (pass reg s).set (pass_sound reg s h) p.members))
    (λ e. rw (passes_stop most reg s e) p.members)

-- The reduction.

pub reduction_extends : (reg : PropertyPathRegistry) (s : NodeSet) → Extends reg (reduce_maybe_optional_chains reg s).registry
unfolding reduce_maybe_optional_chains
reduction_extends reg s = passes_extend (suc (optional_marks_of reg s)) reg s

pub reduction_sound : (reg : PropertyPathRegistry) (s : NodeSet) → Sound reg → Sound (reduce_maybe_optional_chains reg s).registry
unfolding reduce_maybe_optional_chains
reduction_sound reg s h = passes_sound (suc (optional_marks_of reg s)) reg s h

module _ (reg : PropertyPathRegistry) (s : NodeSet) (h : Sound reg) (m : Members reg s) where
  -- more passes change nothing
  pub reduction_more : (more : ℕ) → passes (suc (optional_marks_of reg s) + more) reg s ≡ reduce_maybe_optional_chains reg s
  unfolding reduce_maybe_optional_chains
  reduction_more more = passes_enough (suc (optional_marks_of reg s) + more) (suc (optional_marks_of reg s)) reg s h m (omega arith) (le_refl _)

  -- a set of the registry's nodes comes out
  pub reduction_members : Members (reduce_maybe_optional_chains reg s).registry (reduce_maybe_optional_chains reg s).set
  unfolding reduce_maybe_optional_chains
  reduction_members = passes_members (suc (optional_marks_of reg s)) reg s h m

-- "Passes repeat until one changes nothing": the reduction does so ..
pub reduction_repeats : Repeats reduce_maybe_optional_chains
unfolding reduce_maybe_optional_chains
reduction_repeats reg s h m =
    let p = pass_shrunk reg s h m in (
      λ e. let less = pass_less reg s h m e in
          passes_on (optional_marks_of reg s) reg s e
          ∙ passes_enough (optional_marks_of reg s) (suc (optional_marks_of (pass reg s).registry (pass reg s).set))
          (pass reg s).registry (pass reg s).set (pass_sound reg s h) p.members less (le_refl _),
      λ e. passes_stop (optional_marks_of reg s) reg s e,
    )

-- .. and nothing else does.
pub reduction_only : (v : PropertyPathRegistry → NodeSet → Reduced) → Repeats v → (reg : PropertyPathRegistry) (s : NodeSet)
    → Sound reg → Members reg s
    → reduce_maybe_optional_chains reg s ≡ v reg s
unfolding reduce_maybe_optional_chains
reduction_only v r reg s h m = passes_same v r (suc (optional_marks_of reg s)) reg s h m (le_refl _)

-- Sets that are reduced already.

-- a walk that comes back to its node took no mark away, so it is the walk under the path's own
-- marks
pub node_back : (s : NodeSet) (reg : PropertyPathRegistry) (k : NodeId) → Sound reg → k.0 < length reg → same_node
    (walk_path (reduced_mark s) reg (full_path_of reg k)).node k ≡ true → LeadsBack reg s k
unfolding optional_marks
node_back s reg k h le same =
    let d = full_path_of reg k in
    let r = root_reached reg d.identifier d.reactive d.span h in
    let start = get_or_create_identifier reg d.identifier d.reactive d.span in
    let low = walk_lowers (reduced_mark s) (lowers s) start d.path r.proper in
    let none : marks_reached start ≡ 0 = ap optional_marks r.path in
    let to = walk_from (reduced_mark s) start d.path in
    let back : marks_reached to ≡ marks_at reg k =
    ap (marks_at to.registry) (same_node_lem to.node k same) ∙ ap (λ (p : ReactiveScopeDependency). optional_marks p.path)
    (extends_path k (path_extends (reduced_mark s) reg d) le) in
    low.kept (omega arith) ∙ leads_back reg h (suc k.0) k (le_refl _) le d.reactive d.span

pub node_still : (r : PassState) (k : NodeId) → LeadsBack r.registry r.set k → reduce_node r k ≡ r
unfolding reduce_node
node_still r k e =
    ap (λ (at : Reached). record {
      registry = at.registry;
      set = cond (same_node at.node k) r.set
          (insert at.node (remove k r.set));
      changed = r.changed || not (same_node at.node k);
    }) e
    ∙ rw (eqb_same k.0, or-false r.changed)

nodes_still : (r : PassState) (ks : List NodeId) → All (LeadsBack r.registry r.set) ks → reduce_nodes r ks ≡ r
nodes_still r [] a = refl
nodes_still r (k ∷ ks) a = ap (λ (x : PassState). reduce_nodes x ks) (node_still r k a.0) ∙ nodes_still r ks a.1

-- where the flag says that nothing has changed, each node led back
nodes_back : (r : PassState) (ks : List NodeId) → Sound r.registry → All (λ k. k.0 < length r.registry) ks
    → (reduce_nodes r ks).changed ≡ false
    → (r.changed ≡ false) × All (LeadsBack r.registry r.set) ks
unfolding reduce_node
nodes_back r [] h a e = (e, tt)
nodes_back r (k ∷ ks) h a e =
    let longer = extends_length (node_extends r k) in
    let rest = nodes_back (reduce_node r k) ks (node_sound r k h)
    (all_map (λ j. j.0 < length r.registry) (λ j. j.0 < length (reduce_node r k).registry) (λ j l. omega arith) ks a.1) e in
    let at = walk_path (reduced_mark r.set) r.registry (full_path_of r.registry k) in
    let flags = neither r.changed (same_node at.node k) rest.0 in
    let back = node_back r.set r.registry k h a.0 flags.1 in
    (flags.0, (back, subst (λ (x : PassState). All (LeadsBack x.registry x.set) ks) (node_still r k back) rest.1))
  where
    neither : (b c : Bool) → b || not c ≡ false → (b ≡ false) × (c ≡ true)
    neither true c f = never refl f
    neither false true f = (refl, refl)
    neither false false f = never refl f

module _ (reg : PropertyPathRegistry) (s : NodeSet) (h : Sound reg) (m : Members reg s) where
  pass_back : (pass reg s).changed ≡ false → All (LeadsBack reg s) (select (has_optional reg) s)
  unfolding pass
  pass_back e = (nodes_back (pass_start reg s) (select (has_optional reg) s) h
      (all_select (λ k. k.0 < length reg) (has_optional reg) s m.inside) e).1

  -- a pass that changes nothing makes nothing
  pass_still : (pass reg s).changed ≡ false → IsReduced reg s
  unfolding pass
  pass_still e = nodes_still (pass_start reg s) (select (has_optional reg) s) (pass_back e)

  -- it stays so when nodes are made
  pub reduced_extends : {reg' : PropertyPathRegistry} → Extends reg reg' → IsReduced reg s → IsReduced reg' s
  unfolding pass
  reduced_extends {reg'} x e =
      let path : (k : NodeId) → k.0 < length reg → full_path_of reg' k ≡ full_path_of reg k = λ k l. extends_path k x l in
      let same = select_same (has_optional reg) (has_optional reg') s
      (all_map (λ k. k.0 < length reg) (λ k. has_optional reg k ≡ has_optional reg' k) (λ k l. rw (path k l)) s m.inside) in
      let inside = all_select (λ k. k.0 < length reg) (has_optional reg) s m.inside in
      nodes_still (pass_start reg' s) (select (has_optional reg') s)
      (subst (All (LeadsBack reg' s)) same
      (all_map (λ k. (k.0 < length reg) × LeadsBack reg s k) (LeadsBack reg' s)
      (λ k b. rw (path k b.0) (walk_extended (reduced_mark s) x (full_path_of reg k) b.1)) (select (has_optional reg) s)
      (all_both (λ k. k.0 < length reg) (LeadsBack reg s) (select (has_optional reg) s) inside
      (pass_back (ap (λ (r : PassState). r.changed) e)))))

  -- and the reduction leaves it as it is
  pub reduced_already : IsReduced reg s → reduce_maybe_optional_chains reg s ≡ record { registry = reg; set = s }
  unfolding reduce_maybe_optional_chains
  reduced_already e = passes_stop (optional_marks_of reg s) reg s (ap (λ (r : PassState). r.changed) e) ∙ ap left_by e

passes_reduced : (most : ℕ) (reg : PropertyPathRegistry) (s : NodeSet) → Sound reg → Members reg s → optional_marks_of reg s < most
    → IsReduced (passes most reg s).registry (passes most reg s).set
passes_reduced zero reg s h m lt = absurd (not-suc-le-zero lt)
passes_reduced (suc most) reg s h m lt =
    decide (pass reg s).changed
    (λ e.
    let less = pass_less reg s h m e in
    rw (passes_on most reg s e) (passes_reduced most (pass reg s).registry (pass reg s).set (pass_sound reg s h)
    (pass_shrunk reg s h m).members (omega arith)))
    (λ e. let still = pass_still reg s h m e in rw (passes_stop most reg s e)
    (subst (λ (r : PassState). IsReduced r.registry r.set) (sym still) still))

-- What a reduction returns is reduced.
pub reduction_reduced : (reg : PropertyPathRegistry) (s : NodeSet) → Sound reg → Members reg s → IsReduced
    (reduce_maybe_optional_chains reg s).registry (reduce_maybe_optional_chains reg s).set
unfolding reduce_maybe_optional_chains
reduction_reduced reg s h m = passes_reduced (suc (optional_marks_of reg s)) reg s h m (le_refl _)

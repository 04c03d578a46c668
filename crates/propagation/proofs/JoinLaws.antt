-- A block's join, from what its calls leave or from nothing's joining a reduced set.
use Prim.Native.Nat.{ℕ, ◌<◌}
use mathlib.Core.Path.{◌≡◌, refl, sym, ap, ap₂, subst, ◌∙◌}
use Rattle.std.specs.Prelude.{Ok, Err}
use Rattle.entries.specs.declared.Refusal.{Refusal}
use Rattle.entries.specs.declared.Refusal.TheVariants.{ManyNodes}
use mathlib.Core.Bool.{Bool, true, false, ◌||◌, not, or-false}
use mathlib.Core.List.{List, [], map}
use lib.ListN.{length, set}
use lib.Seq.{get_or-set_same, set-get_or}
use Rattle.model.specs.ListLaws.{All}
use Rattle.model.specs.Sets.{NodeSet, union, same_set}
use Rattle.model.specs.Registry.{node_limit}
use Rattle.model.specs.Reduction.{Reduced, reduce_maybe_optional_chains}
use Rattle.model.specs.ReductionLaws.{Members, IsReduced}
use Rattle.model.proofs.ReductionLaws.{reduced_already}
use Rattle.model.specs.Propagation.{Work, set_of, JoiningRule, intersection_of, join_with, join}
use Rattle.model.specs.PropagationLaws.{ProperWork, joined_set}
use Rattle.model.proofs.PropagationLaws.{members_set_of, members_joined, join_proper}
use Rattle.rows.specs.Members.{members_of}
use Rattle.rows.specs.Rows.{row_of, rows_of, RowSet}
use Rattle.rows.proofs.Rows.{row_at, rows_count}
use Rattle.rows.proofs.Members.{same_self, same_lists}
use Rattle.registry.specs.Words.{registry_of, Held}
use Rattle.reduction.specs.Reduces.{KnownReduced}
use Rattle.graph.specs.Bytes.{size_in}
use Rattle.propagation.specs.declared.Walk.{Walk}
use Rattle.propagation.specs.Rules.{rule_of}
use Rattle.propagation.specs.Order.{done_before}
use Rattle.propagation.specs.Joins.{
  work_of,
  join_in,
  neighbours_to_join,
  sets_to_join,
  RowsStand,
  Ready,
  ReducedBefore,
  AllReduced,
  HoldsWork,
  Has,
  Idle,
  Joins,
}
use Rattle.propagation.proofs.Idling.{union_has, has_union, idle_union}
use Rattle.propagation.proofs.Reductions.{walk_ready, stands_proper}

-- Where nothing new joins a set that is reduced already, the work stays.
pub idle_still : (rule : JoiningRule) {g : List ℕ} (backward : Bool) {b : ℕ} (o : List ℕ) {sets ws os : List ℕ} → Ready g sets ws os
    → AllReduced (size_in g) sets ws → b < size_in g → Idle rule g backward o sets b → (changed : Bool)
    → join_in rule g backward b (done_before (size_in g) o b) (work_of (size_in g) sets ws changed) ≡ work_of (size_in g) sets ws changed
unfolding join_in join join_with work_of sets_to_join
idle_still rule {g} backward {b} o {sets} {ws} ready before inside idle changed =
    let rows = rows_of sets (size_in g) in
    let own = set_of rows b in
    let reg = registry_of ws in
    let members : Members reg own = members_set_of (work_of (size_in g) sets ws changed) (stands_proper ready.stands changed) b in
    let by : Reduced → Work = λ r. record { registry = r.registry; sets = set rows b r.set; changed = changed || not (same_set own r.set) } in
    ap (λ (s : NodeSet). by (reduce_maybe_optional_chains reg s))
    (has_union own (intersection_of (map (set_of rows) (neighbours_to_join rule g backward b o))) members.ascending idle)
    ∙ ap by (reduced_already reg own ready.stands.held.sound members (before b inside))
    ∙ rw (set-get_or rows b [], same_self own, or-false changed)

-- What is known once the set that is to be reduced is made.
pub record Made (rule : JoiningRule) (g : List ℕ) (backward : Bool) (b : ℕ) (o sets ws os own found all : List ℕ) : Type 0 where
  pub ready : Ready g sets ws os
  pub inside : b < size_in g
  pub own_is : members_of own ≡ row_of sets b
  pub found_is : members_of found ≡ intersection_of (sets_to_join rule g backward b o sets)
  pub all_is : members_of all ≡ union (members_of own) (members_of found)

pub walk_made : (w : Walk) {b : ℕ} {sets ws os own found all : List ℕ} → RowsStand (size_in w.graph.bytes.now) sets ws os
    → b < size_in w.graph.bytes.now → members_of own ≡ row_of sets b
    → members_of found ≡ intersection_of (sets_to_join (rule_of w.joining) w.graph.bytes.now w.backward b w.order.now sets)
    → members_of all ≡ union (members_of own) (members_of found)
    → Made (rule_of w.joining) w.graph.bytes.now w.backward b w.order.now sets ws os own found all
walk_made w stands inside own-is found-is all-is =
    record { ready = walk_ready w stands; inside = inside; own_is = own-is; found_is = found-is; all_is = all-is }

abbrev want : JoiningRule → List ℕ → Bool → ℕ → List ℕ → List ℕ → List ℕ → Bool → Work
want rule g backward b o sets ws changed = join_in rule g backward b (done_before (size_in g) o b) (work_of (size_in g) sets ws changed)

module _ {rule : JoiningRule} {g : List ℕ} {backward : Bool} {b : ℕ} {o sets ws os own found all : List ℕ}
    (made : Made rule g backward b o sets ws os own found all) where
  own_row : members_of own ≡ set_of (rows_of sets (size_in g)) b
  own_row = made.own_is ∙ sym (row_at sets (size_in g) b made.inside)

  abbrev reduced : Reduced
  reduced = reduce_maybe_optional_chains (registry_of ws) (members_of all)

  module _ (changed : Bool) where
    proper : ProperWork (work_of (size_in g) sets ws changed)
    proper = stands_proper made.ready.stands changed

    joined_is : members_of all ≡ joined_set (neighbours_to_join rule g backward b o) b (work_of (size_in g) sets ws changed)
    unfolding work_of sets_to_join
    joined_is = made.all_is ∙ ap₂ union own_row made.found_is

    pub join_members : Members (registry_of ws) (members_of all)
    unfolding work_of
    join_members = subst (Members (registry_of ws)) (sym joined_is)
        (members_joined (neighbours_to_join rule g backward b o) b (work_of (size_in g) sets ws changed) proper)

    -- the block's own set is reduced where all are
    pub join_known : {later : Bool} → ReducedBefore later (size_in g) sets ws → KnownReduced later (registry_of ws) (members_of own)
    unfolding work_of
    join_known before e = (
      subst (Members (registry_of ws)) (sym own_row) (members_set_of (work_of (size_in g) sets ws changed) proper b),
      subst (IsReduced (registry_of ws))
          (sym own_row) (before e b made.inside),
    )

    -- what a reduced set makes of the work
    abbrev joined_by : Reduced → Work
    joined_by r = record {
      registry = r.registry;
      sets = set (rows_of sets (size_in g)) b r.set;
      changed = changed || not
          (same_set (set_of (rows_of sets (size_in g)) b) r.set);
    }

    want_is : want rule g backward b o sets ws changed ≡ joined_by reduced
    unfolding join_in join join_with work_of
    want_is = ap (λ (s : NodeSet). joined_by (reduce_maybe_optional_chains (registry_of ws) s)) (sym joined_is)

    pub join_full : node_limit < length reduced.registry → node_limit < length (want rule g backward b o sets ws changed).registry
    join_full full = subst (λ (w : Work). node_limit < length w.registry) (sym want_is) full

    module _ (r vs ps : List ℕ) (held : Held vs ps × (reduced ≡ record { registry = registry_of vs; set = members_of r })) where
      module _ {ts : List ℕ} (stored : RowSet sets ts b (members_of r))
          (same : Bool) (same-is : same ≡ same_set (members_of own) (members_of r)) {c : Bool} (now : changed || not same ≡ c) where
        flag : changed || not (same_set (set_of (rows_of sets (size_in g)) b) (members_of r)) ≡ c
        flag = ap (λ (t : Bool). changed || not t) (sym (same-is ∙ ap (λ (s : NodeSet). same_set s (members_of r)) own_row)) ∙ now

        became : want rule g backward b o sets ws changed ≡ work_of (size_in g) ts vs c
        unfolding work_of
        became = want_is ∙ ap joined_by held.1 ∙ (λ i. record { registry = registry_of vs; sets = sym (stored.rows (size_in g)) i; changed = flag i })

        pub join_holds : HoldsWork (want rule g backward b o sets ws changed) (size_in g) c ts vs ps
        unfolding join_in join work_of
        join_holds = record {
          stands = record {
            lent = rw stored.long made.ready.stands.lent;
            held = held.0;
            members = subst (λ (w : Work). All (Members w.registry) w.sets) became
                (join_proper (neighbours_to_join rule g backward b o) b (work_of (size_in g) sets ws changed) proper).members;
          };
          same = became;
        }

    length_rows : b < length (rows_of sets (size_in g))
    length_rows = rw (rows_count sets (size_in g)) made.inside

-- The join's answers.

module _ {rule : JoiningRule} {g : List ℕ} {backward : Bool} {b : ℕ} {o sets ws os own found all : List ℕ}
    (made : Made rule g backward b o sets ws os own found all) where
  -- nothing new joins
  pub joined_nothing : AllReduced (size_in g) sets ws → same_set (members_of own) (members_of all) ≡ true
      → Joins rule g backward b o sets ws (Ok (record { changed = false; idle = true })) sets ws os
  joined_nothing before none =
      let idle : Idle rule g backward o sets b =
      subst (λ (s : NodeSet). Has s (intersection_of (sets_to_join rule g backward b o sets)))
      (sym (made.all_is ∙ ap (union (members_of own)) made.found_is) ∙ sym (same_lists (members_of own) (members_of all) none) ∙ own_row made)
      (union_has (members_of own) (intersection_of (sets_to_join rule g backward b o sets))) in
      record {
        stands = made.ready.stands;
        same = λ changed.
            idle_still rule backward o made.ready before made.inside idle changed ∙ ap (work_of (size_in g) sets ws) (sym (or-false changed));
        own = set_of (rows_of sets (size_in g)) b;
        rows = sym (set-get_or (rows_of sets (size_in g)) b []);
        still = λ t. refl;
        idle = λ t. idle;
      }

  -- the registry has no room
  pub joined_full : node_limit < length (reduced made).registry → {e : Refusal} → e ≡ ManyNodes → (ts vs ps : List ℕ)
      → Joins rule g backward b o sets ws (Err e) ts vs ps
  joined_full full is ts vs ps = (is, λ changed. join_full made changed full)

  module _ (r vs ps : List ℕ) (to : Held vs ps × (reduced made ≡ record { registry = registry_of vs; set = members_of r })) where
    -- the reduced set is stored
    pub joined_set_lem : {ts : List ℕ} → RowSet sets ts b (members_of r) → (same whole : Bool)
        → same ≡ same_set (members_of own) (members_of r) → whole ≡ same_set (members_of all) (members_of r)
        → Joins rule g backward b o sets ws (Ok (record { changed = not same; idle = whole })) ts vs ps
    unfolding sets_to_join
    joined_set_lem {ts} stored same whole same-is whole_is =
        let rows = rows_of sets (size_in g) in
        let set_is = members_of r in
        record {
          stands = (join_holds made false r vs ps to stored same same-is refl).stands;
          same = λ changed. (join_holds made changed r vs ps to stored same same-is refl).same;
          own = set_is;
          rows = stored.rows (size_in g);
          still = λ t.
              stored.rows (size_in g) ∙ ap (set rows b)
              (sym (same_lists (members_of own) set_is (sym same-is ∙ not_false_true same t)) ∙ own_row made) ∙ set-get_or rows b [];
          idle = λ t. idle_stored (same_lists (members_of all) set_is (sym whole_is ∙ t));
        }
      where
        not_false_true : (t : Bool) → not t ≡ false → t ≡ true
        not_false_true true e = refl
        not_false_true false e = sym e

        idle_stored : members_of all ≡ members_of r → Idle rule g backward o ts b
        idle_stored is =
            let rows = rows_of sets (size_in g) in
            let js = neighbours_to_join rule g backward b o in
            let s = members_of r in
            let has : Has s (intersection_of (map (set_of rows) js)) =
            subst (λ (x : NodeSet). Has x (intersection_of (map (set_of rows) js))) (sym (made.all_is ∙ ap (union (members_of own)) made.found_is) ∙ is)
            (union_has (members_of own) (intersection_of (map (set_of rows) js))) in
            subst (λ (rs : List NodeSet). Has (set_of rs b) (intersection_of (map (set_of rs) js))) (sym (stored.rows (size_in g)))
            (subst (λ (x : NodeSet). Has x (intersection_of (map (set_of (set rows b s)) js))) (sym (get_or-set_same rows b s [] (length_rows made false)))
            (idle_union rows b s js (length_rows made false) has))

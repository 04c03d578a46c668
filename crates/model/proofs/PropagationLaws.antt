-- Along a job's propagation the registry stays sound and each set is an ascending set of its nodes,
-- so each reduction ends by a pass that changed nothing; no step makes the registry shorter, and
-- nothing but a reduction makes it longer; a block that has joined has a reduced set from then on.
-- What is said to have been made as paths are entered is how much longer the registry is.
use Prim.Native.Nat.{ℕ, zero, ◌+◌, ◌<◌}
use Rattle.std.proofs.Common.{arith, sym, ◌∙◌, get_or-set_other}
use Rattle.std.specs.Prelude.{◌≡◌, refl, ◌||◌, length, eqb}
use Rattle.std.proofs.Math.Path.{ap, subst}
use Rattle.std.proofs.Math.Bool.{not}
use mathlib.Core.List.{List, [], ◌∷◌, ◌++◌, map, foldl}
use Rattle.std.proofs.Math.ListN.{set}
use Rattle.entries.specs.Path.{ReactiveScopeDependency}
use Rattle.model.specs.Tests.{decide, eqb-true, eqb-false}
use Rattle.model.specs.Sets.{NodeSet, contains, union, intersection, same_set}
use Rattle.model.specs.Registry.{PropertyPathRegistry, own_mark, get_or_create_property}
use Rattle.model.specs.Reduction.{Reduced, pass, reduce_maybe_optional_chains}
use Rattle.model.specs.Visit.{TraversalState}
use Rattle.model.specs.Rounds.{walk, job_order, reverse_job_order}
use Rattle.model.specs.Propagation.{
  Work,
  set_of,
  JoiningRule,
  Reducer,
  round_start,
  intersection_of,
  join_with,
  join,
  Graph,
  forward,
  backward,
  round,
  has_changed,
  propagate_with,
  propagate_non_null,
}
use Rattle.model.specs.Job.{Block, assumed_of}
use Rattle.model.specs.Stage.{
  PathsEntered,
  enter_path,
  enter_paths,
  none_entered,
  enter_block,
  Started,
  enter_blocks,
  start_of,
  graph_of,
  propagated,
}
use Rattle.model.specs.ListLaws.{All, all_map, all_select, all_get_or, all_set, set_here, all_mapped}
use Rattle.model.specs.SetLaws.{insert_from, select_from, union_from, insert_all, union_all}
use Rattle.model.specs.RegistryLaws.{Extends, Sound}
use Rattle.model.proofs.RegistryLaws.{property_longer, extends_refl, extends_trans, sound_empty, path_proper, path_extends}
use Rattle.model.specs.ReductionLaws.{Members, Repeats, IsReduced}
use Rattle.model.proofs.ReductionLaws.{
  members_extends,
  reduction_members,
  reduction_extends,
  reduction_sound,
  reduction_only,
  reduced_extends,
  reduction_reduced,
}
use Rattle.model.specs.VisitLaws.{Preorder}
use Rattle.model.specs.RoundsLaws.{walk_does, rounds_do, walk_same, rounds_same}
use Rattle.model.specs.PropagationLaws.{ProperWork, joined_set, ReducedAt, after_reductions, OnlyReduced}

-- Joining.

pub members_empty : (reg : PropertyPathRegistry) → Members reg []
members_empty reg = record { ascending = tt; inside = tt }

pub members_union : (reg : PropertyPathRegistry) (s t : NodeSet) → Members reg s → Members reg t → Members reg (union s t)
members_union reg s t a b =
    record { ascending = union_from s t a.ascending; inside = union_all (λ k. k.0 < length reg) s t a.inside b.inside }

members_intersections : (reg : PropertyPathRegistry) (s : NodeSet) (ss : List NodeSet) → Members reg s → Members reg
    (foldl intersection s ss)
members_intersections reg s [] m = m
members_intersections reg s (t ∷ ts) m =
    members_intersections reg (intersection s t) ts
    (record {
      ascending = select_from zero (contains t) s m.ascending;
      inside = all_select (λ k. k.0 < length reg)
          (contains t) s m.inside;
    })

members_intersection : (reg : PropertyPathRegistry) (ss : List NodeSet) → All (Members reg) ss → Members reg (intersection_of ss)
unfolding intersection_of
members_intersection reg [] a = members_empty reg
members_intersection reg (s ∷ ss) a = members_intersections reg s ss a.0

pub members_set_of : (w : Work) → ProperWork w → (b : ℕ) → Members w.registry (set_of w.sets b)
members_set_of w p b = all_get_or (Members w.registry) w.sets b [] p.members (members_empty w.registry)

pub members_joined : (neighbours : List ℕ) (b : ℕ) (w : Work) → ProperWork w → Members w.registry (joined_set neighbours b w)
members_joined neighbours b w p =
    members_union w.registry (set_of w.sets b) _ (members_set_of w p b)
    (members_intersection w.registry (map (set_of w.sets) neighbours)
    (all_mapped (Members w.registry) (set_of w.sets) neighbours (members_set_of w p)))

pub join_extends : (neighbours : List ℕ) (b : ℕ) (w : Work) → Extends w.registry
    (join_with reduce_maybe_optional_chains neighbours b w).registry
unfolding join_with
join_extends neighbours b w = reduction_extends w.registry (joined_set neighbours b w)

pub join_proper : (neighbours : List ℕ) (b : ℕ) (w : Work) → ProperWork w → ProperWork (join_with reduce_maybe_optional_chains neighbours b w)
unfolding join_with
join_proper neighbours b w p =
    let s = joined_set neighbours b w in
    let r = reduce_maybe_optional_chains w.registry s in
    let x = reduction_extends w.registry s in
    record {
      sound = reduction_sound w.registry s p.sound;
      members = all_set (Members r.registry) w.sets b r.set
          (all_map (Members w.registry) (Members r.registry) (λ t m. members_extends t x m) w.sets p.members)
          (reduction_members w.registry s p.sound (members_joined neighbours b w p));
    }

-- Blocks whose sets are reduced already.

reduced_empty : (reg : PropertyPathRegistry) → IsReduced reg []
unfolding pass
reduced_empty reg = refl

module _ (neighbours : List ℕ) (b : ℕ) (w : Work) (p : ProperWork w) where
  -- the set of a block that joins is reduced
  pub join_reduces : ReducedAt (join_with reduce_maybe_optional_chains neighbours b w) b
  unfolding join_with
  join_reduces =
      let s = joined_set neighbours b w in
      let r = reduce_maybe_optional_chains w.registry s in
      set_here (IsReduced r.registry) w.sets b r.set []
      (reduction_reduced w.registry s p.sound (members_joined neighbours b w p)) (reduced_empty r.registry)

  -- and the set of any other stays so
  pub join_keeps_reduced : (a : ℕ) → ReducedAt w a → ReducedAt (join_with reduce_maybe_optional_chains neighbours b w) a
  unfolding join_with
  join_keeps_reduced a h =
      let r = reduce_maybe_optional_chains w.registry (joined_set neighbours b w) in
      decide (eqb a b) (λ e. subst (ReducedAt (join_with reduce_maybe_optional_chains neighbours b w)) (sym (eqb-true a b e)) join_reduces)
      (λ e. rw (get_or-set_other w.sets b a r.set [] (eqb-false a b e))
      (reduced_extends w.registry (set_of w.sets a) p.sound (members_set_of w p a) (join_extends neighbours b w) h))

-- Rounds.

-- what holds between the work before and after each join, and does not look at `changed`, holds
-- between that before and after all rounds
module _ (v : Reducer) (R : Work → Work → Type 0) (order : Preorder R)
    (joins : (neighbours : List ℕ) (b : ℕ) (w : Work) → R w (join_with v neighbours b w))
    (starts : (w : Work) → R w (round_start w.registry w.sets)) where
  walk_joins : (rule : JoiningRule) (near : ℕ → List ℕ) (n : ℕ) (bs : List ℕ) (w : Work) → R w
      (walk n near (join v rule near) bs w)
  unfolding join
  walk_joins rule near n bs w = walk_does R order near (join v rule near)
      (λ b ms u. joins (rule ms (near b)) b u) n bs w

  round_does : (rule : JoiningRule) (g : Graph) (w : Work) → R w (round v rule g w)
  unfolding round forward backward
  round_does rule g w =
      let start = round_start w.registry w.sets in
      let mid = forward v rule g start in
      order.after w start _ (starts w)
      (order.after start mid _ (walk_joins rule g.predecessors g.size (job_order g.size) start)
      (walk_joins rule g.successors g.size (reverse_job_order g.size) mid))

  pub propagation_does : (rule : JoiningRule) (g : Graph) (reg : PropertyPathRegistry) (sets : List NodeSet) → R
      (round_start reg sets) (propagate_with v rule g reg sets).work
  unfolding propagate_with
  propagation_does rule g reg sets = rounds_do has_changed (round v rule g) R order
      (round_does rule g) 100 zero (round_start reg sets)

-- Propagation only adds nodes, so a registry that has passed the limit of refusal 9 stays beyond
-- it.
pub propagation_extends : (rule : JoiningRule) (g : Graph) (reg : PropertyPathRegistry) (sets : List NodeSet) → Extends reg
    (propagate_non_null rule g reg sets).work.registry
unfolding propagate_non_null
propagation_extends =
    propagation_does reduce_maybe_optional_chains (λ u w. Extends u.registry w.registry)
    (record { none = λ w. extends_refl w.registry; after = λ u v w a b. extends_trans a b })
    join_extends (λ w. extends_refl w.registry)

reductions_append : (v : Reducer) (reg : PropertyPathRegistry) (ss ts : List NodeSet)
    → after_reductions v reg (ss ++ ts) ≡ after_reductions v (after_reductions v reg ss) ts
reductions_append v reg [] ts = refl
reductions_append v reg (s ∷ ss) ts = reductions_append v (v reg s).registry ss ts

-- And it adds them by reduction alone ("how many nodes reduction adds", E4): whatever the reducer,
-- the registry at the end is that of the start after some reductions.
pub only_reduction_adds : (v : Reducer) (rule : JoiningRule) (g : Graph) (reg : PropertyPathRegistry) (sets : List NodeSet)
    → OnlyReduced v reg (propagate_with v rule g reg sets).work.registry
unfolding join_with
only_reduction_adds v =
    propagation_does v (λ u w. OnlyReduced v u.registry w.registry)
    (record { none = λ w. ([], refl); after = λ t u w a b. after t.registry u.registry w.registry a b })
    (λ neighbours b w. (joined_set neighbours b w ∷ [], refl)) (λ w. ([], refl))
  where
    after : (t u w : PropertyPathRegistry) → OnlyReduced v t u → OnlyReduced v u w → OnlyReduced v t w
    after t u w a b = (
      a.0 ++ b.0,
      b.1 ∙ ap (λ r. after_reductions v r b.0) a.1 ∙ sym (reductions_append v t a.0 b.0),
    )

abbrev KeepsProper : Work → Work → Type 0
KeepsProper u w = ProperWork u → ProperWork w

keeps_order : Preorder KeepsProper
keeps_order = record { none = λ w p. p; after = λ u v w a b p. b (a p) }

starts_proper : (w : Work) → KeepsProper w (round_start w.registry w.sets)
starts_proper w p = record { sound = p.sound; members = p.members }

pub propagation_proper : (rule : JoiningRule) (g : Graph) (reg : PropertyPathRegistry) (sets : List NodeSet) → ProperWork
    (round_start reg sets) → ProperWork (propagate_non_null rule g reg sets).work
unfolding propagate_non_null
propagation_proper rule g reg sets p =
    propagation_does reduce_maybe_optional_chains KeepsProper keeps_order join_proper starts_proper rule g reg sets p

-- Propagation with another reduction.

module _ (v : Reducer) (repeats : Repeats v) (rule : JoiningRule) where
  join_same : (near : ℕ → List ℕ) (b : ℕ) (ms : List TraversalState) (w : Work) → ProperWork w
      → join reduce_maybe_optional_chains rule near b ms w ≡ join v rule near b ms w
  unfolding join join_with
  join_same near b ms w p =
      let ns = rule ms (near b) in
      ap (λ (r : Reduced). record {
        registry = r.registry;
        sets = set w.sets b r.set;
        changed = w.changed || not (same_set (set_of w.sets b) r.set);
      })
      (reduction_only v repeats w.registry (joined_set ns b w) p.sound (members_joined ns b w p))

  walk_proper_same : (near : ℕ → List ℕ) (n : ℕ) (order : List ℕ) (w : Work) → ProperWork w
      → walk n near (join reduce_maybe_optional_chains rule near) order w ≡ walk n near (join v rule near) order w
  unfolding join
  walk_proper_same near n order w p =
      walk_same ProperWork near (join reduce_maybe_optional_chains rule near) (join v rule near)
      (λ b ms u q. join_proper (rule ms (near b)) b u q) (join_same near) n order w p

  round_same : (g : Graph) (w : Work) → ProperWork w → round reduce_maybe_optional_chains rule g w ≡ round v rule g w
  unfolding round forward backward
  round_same g w p =
      let start = round_start w.registry w.sets in
      let mid = forward reduce_maybe_optional_chains rule g start in
      walk_proper_same g.successors g.size (reverse_job_order g.size) mid
      (walk_joins reduce_maybe_optional_chains KeepsProper keeps_order join_proper starts_proper rule g.predecessors g.size
      (job_order g.size) start (starts_proper w p))
      ∙ ap (backward v rule g) (walk_proper_same g.predecessors g.size (job_order g.size) start (starts_proper w p))

  -- Any reduction that repeats passes until one changes nothing gives the same propagation: how
  -- many passes are allowed is no part of it.
  pub propagation_only : (g : Graph) (reg : PropertyPathRegistry) (sets : List NodeSet) → ProperWork (round_start reg sets)
      → propagate_non_null rule g reg sets ≡ propagate_with v rule g reg sets
  unfolding propagate_non_null propagate_with
  propagation_only g reg sets p =
      rounds_same ProperWork has_changed (round reduce_maybe_optional_chains rule g) (round v rule g)
      (λ w q. round_does reduce_maybe_optional_chains KeepsProper keeps_order join_proper starts_proper rule g w q) (round_same g)
      100 zero (round_start reg sets) p

-- The start.

pub record Filled (reg : PropertyPathRegistry) (e : PathsEntered) : Type 0 where
  pub sound : Sound e.registry
  pub extends : Extends reg e.registry
  pub members : Members e.registry e.set

pub paths_filled : (e : PathsEntered) (ds : List ReactiveScopeDependency) → Sound e.registry → Members e.registry e.set
    → Filled e.registry (enter_paths e ds)
unfolding get_or_create_property
paths_filled e [] h m = record { sound = h; extends = extends_refl e.registry; members = m }
paths_filled e (d ∷ ds) h m =
    let at = get_or_create_property e.registry d in
    let p = path_proper own_mark e.registry d h in
    let x = path_extends own_mark e.registry d in
    let old = members_extends e.set x m in
    let rest = paths_filled (enter_path e d) ds p.sound (record {
      ascending = insert_from zero at.node e.set (omega arith) old.ascending;
      inside = insert_all (λ k. k.0 < length at.registry) at.node e.set p.inside old.inside;
    }) in
    record { sound = rest.sound; extends = extends_trans x rest.extends; members = rest.members }

pub record Begun (reg : PropertyPathRegistry) (st : Started) : Type 0 where
  pub sound : Sound st.registry
  pub extends : Extends reg st.registry
  pub members : All (Members st.registry) st.sets

pub blocks_begun : (reg : PropertyPathRegistry) (bs : List Block) → Sound reg → Begun reg (enter_blocks reg bs)
unfolding enter_blocks
blocks_begun reg [] h = record { sound = h; extends = extends_refl reg; members = tt }
blocks_begun reg (b ∷ bs) h =
    let e = enter_block reg b in
    let first = paths_filled (none_entered reg) (assumed_of b) h (members_empty reg) in
    let rest = blocks_begun e.registry bs first.sound in
    record {
      sound = rest.sound;
      extends = extends_trans first.extends
          rest.extends;
      members = (members_extends e.set rest.extends first.members, rest.members);
    }

-- Paths are entered one list after the other.
pub paths_append : (e : PathsEntered) (ds es : List ReactiveScopeDependency) → enter_paths e (ds ++ es) ≡ enter_paths (enter_paths e ds) es
paths_append e [] es = refl
paths_append e (d ∷ ds) es = paths_append (enter_path e d) ds es

-- What was made for paths, and for all blocks, is how much longer the registry is.
pub paths_longer : (e : PathsEntered) (ds : List ReactiveScopeDependency)
    → length (enter_paths e ds).registry + e.made ≡ length e.registry + (enter_paths e ds).made
paths_longer e [] = refl
paths_longer e (d ∷ ds) =
    let at = get_or_create_property e.registry d in
    let all = enter_paths (enter_path e d) ds in
    let one = property_longer e.registry d in
    let rest : length all.registry + (e.made + at.made) ≡ length at.registry + all.made = paths_longer (enter_path e d) ds in
    omega arith

pub blocks_longer : (reg : PropertyPathRegistry) (bs : List Block)
    → length (enter_blocks reg bs).registry ≡ length reg + (enter_blocks reg bs).made
unfolding enter_blocks
blocks_longer reg [] = omega arith
blocks_longer reg (b ∷ bs) =
    let e = enter_block reg b in
    let first : length e.registry + 0 ≡ length reg + e.made = paths_longer (none_entered reg) (assumed_of b) in
    let rest = blocks_longer e.registry bs in
    omega arith

-- A job's propagation.

pub start_proper : (bs : List Block) → ProperWork (round_start (start_of bs).registry (start_of bs).sets)
start_proper bs = let begun = blocks_begun [] bs sound_empty in record { sound = begun.sound; members = begun.members }

pub propagated_proper : (rule : JoiningRule) (bs : List Block) → ProperWork (propagated rule bs).work
unfolding propagated
propagated_proper rule bs = propagation_proper rule (graph_of bs) (start_of bs).registry (start_of bs).sets (start_proper bs)

-- The nodes present before the first round keep their numbers; those made later stand behind them.
pub propagated_extends : (rule : JoiningRule) (bs : List Block) → Extends (start_of bs).registry (propagated rule bs).work.registry
unfolding propagated
propagated_extends rule bs = propagation_extends rule (graph_of bs) (start_of bs).registry (start_of bs).sets

-- And these were made by reductions, one after the other, of some sets, and by nothing else.
pub propagated_reduces : (rule : JoiningRule) (bs : List Block)
    → OnlyReduced reduce_maybe_optional_chains (start_of bs).registry (propagated rule bs).work.registry
unfolding propagated propagate_non_null
propagated_reduces rule bs = only_reduction_adds reduce_maybe_optional_chains rule (graph_of bs) (start_of bs).registry
    (start_of bs).sets

-- the same with any reduction that repeats passes until one changes nothing
pub propagated_only : (v : Reducer) → Repeats v → (rule : JoiningRule) (bs : List Block)
    → propagated rule bs ≡ propagate_with v rule (graph_of bs) (start_of bs).registry (start_of bs).sets
unfolding propagated
propagated_only v r rule bs = propagation_only v r rule (graph_of bs) (start_of bs).registry (start_of bs).sets
    (start_proper bs)

-- The steps of a walk that are still to come, and where they lead.
use Prim.Native.Nat.{ℕ, ◌+◌, ◌-◌, ◌≤◌, ◌<◌}
use native.Mathlib.Nat.{le_refl, le_trans, lt_of_lt_of_le}
use mathlib.Core.Path.{◌≡◌, refl, sym, ap, ap₂, subst, ◌∙◌}
use mathlib.Core.Bool.{Bool, ◌&&◌, not, cond}
use mathlib.Core.List.{List, [], ◌∷◌, map}
use lib.ListN.{length, get_or, get_or-map}
use Rattle.model.specs.ListLaws.{All, select_same}
use Rattle.model.specs.Registry.{node_limit}
use Rattle.model.proofs.RegistryLaws.{extends_length}
use Rattle.model.specs.Visit.{TraversalState, Unmarked, Active, Done, is_done}
use Rattle.model.specs.VisitLaws.{Preorder}
use Rattle.model.specs.RoundsLaws.{walk_does}
use Rattle.model.specs.Propagation.{Work, JoiningRule, done_neighbours, join_with, join}
use Rattle.model.proofs.PropagationLaws.{join_extends}
use Rattle.model.specs.Reduction.{reduce_maybe_optional_chains}
use Rattle.model.specs.Strict.{all_done, strict_neighbours}
use Rattle.laws.specs.WalkSteps.{only_done, Step, take_steps, walk_steps}
use Rattle.graph.specs.Bytes.{size_in, neighbours}
use Rattle.graph.proofs.Coming.{places_more, places_end}
use Rattle.propagation.specs.declared.Joining.{Joining}
use Rattle.propagation.specs.declared.Joining.TheVariants.{DoneNeighbours, StrictNeighbours}
use Rattle.propagation.specs.Rules.{rule_of}
use Rattle.propagation.specs.Order.{order_of, left_in, block_left, done_above, step_left, steps_from, OrderNoted}
use Rattle.propagation.specs.Joins.{work_of, join_in, RowsStand, Ready, ReducedBefore, Clean, Flags, StepsTo}
use Rattle.propagation.specs.Propagates.{walk_in}
use Rattle.propagation.proofs.Reductions.{stands_proper, reduced_work, reduced_rows, stays_reduced}
use Rattle.propagation.proofs.Stepping.{step_end}

-- No step takes a node away.

abbrev pub Adds : Work → Work → Type 0
Adds u w = length u.registry ≤ length w.registry

pub adds_order : Preorder Adds
adds_order = record { none = λ w. le_refl _; after = λ u v w a b. le_trans a b }

module _ (rule : JoiningRule) (g : List ℕ) (backward : Bool) where
  join_adds : (b : ℕ) (ms : List TraversalState) (w : Work) → Adds w (join_in rule g backward b ms w)
  unfolding join_in join
  join_adds b ms w = extends_length (join_extends (rule ms (neighbours g backward b)) b w)

  steps_add : (steps : List Step) (w : Work) → Adds w (take_steps (join_in rule g backward) steps w)
  steps_add [] w = le_refl _
  steps_add (s ∷ steps) w = le_trans (join_adds s.block s.done w) (steps_add steps (join_in rule g backward s.block s.done w))

  pub walk_adds : (w : Work) → Adds w (walk_in rule g backward w)
  unfolding walk_in
  walk_adds w = walk_does Adds adds_order (neighbours g backward) (join_in rule g backward) join_adds (size_in g) (order_of backward (size_in g)) w

-- A rule asks of a mark only whether it is Done.

only_done_lem : (m : TraversalState) → is_done (only_done m) ≡ is_done m
only_done_lem Unmarked = refl
only_done_lem Active = refl
only_done_lem Done = refl

done_at : (ms : List TraversalState) (b : ℕ) → is_done (get_or (map only_done ms) b Unmarked) ≡ is_done (get_or ms b Unmarked)
done_at ms b = ap is_done (get_or-map only_done ms b Unmarked) ∙ only_done_lem (get_or ms b Unmarked)

all_done_lem : (ms : List TraversalState) (bs : List ℕ) → all_done (map only_done ms) bs ≡ all_done ms bs
all_done_lem ms [] = refl
all_done_lem ms (b ∷ bs) = ap₂ (λ (x y : Bool). x && y) (done_at ms b) (all_done_lem ms bs)

rule_asks : (joining : Joining) (ms : List TraversalState) (bs : List ℕ) → rule_of joining (map only_done ms) bs ≡ rule_of joining ms bs
unfolding done_neighbours strict_neighbours
rule_asks DoneNeighbours ms bs = select_same (λ b. is_done (get_or (map only_done ms) b Unmarked)) (λ b. is_done (get_or ms b Unmarked)) bs (each bs)
  where
    each : (cs : List ℕ) → All (λ b. is_done (get_or (map only_done ms) b Unmarked) ≡ is_done (get_or ms b Unmarked)) cs
    each [] = tt
    each (c ∷ cs) = (done_at ms c, each cs)
rule_asks StrictNeighbours ms bs = ap (λ (t : Bool). cond t bs []) (all_done_lem ms bs)

join_asks : (joining : Joining) (g : List ℕ) (backward : Bool) (b : ℕ) (ms : List TraversalState) (w : Work)
    → join_in (rule_of joining) g backward b (map only_done ms) w ≡ join_in (rule_of joining) g backward b ms w
unfolding join_in join
join_asks joining g backward b ms w =
    ap (λ (ns : List ℕ). join_with reduce_maybe_optional_chains ns b w) (rule_asks joining ms (neighbours g backward b))

-- The loop over the steps: those from number i on lead from what the arrays hold to `end`.
pub record Along (joining : Joining) (g : List ℕ) (backward later : Bool) (o : List ℕ) (other₀ : List Bool) (sets₀ : List ℕ) (i : ℕ)
    (end : Work) (dirty other : List Bool) (sets ws os : List ℕ) (c : Bool) : Type 0 where
  pub stands : RowsStand (size_in g) sets ws os
  pub before : ReducedBefore later (size_in g) sets ws
  pub flags : Flags (rule_of joining) g backward o dirty other sets
  pub others : (q : List ℕ) → Clean (rule_of joining) g (not backward) q other₀ sets₀ → Clean (rule_of joining) g (not backward) q other sets
  pub rest : take_steps (join_in (rule_of joining) g backward) (steps_from (size_in g) o i) (work_of (size_in g) sets ws c) ≡ end

pub walk_begun : (joining : Joining) {g : List ℕ} (backward : Bool) {o : List ℕ} {dirty other : List Bool} {sets ws os : List ℕ} {later : Bool}
    → Ready g sets ws os → ReducedBefore later (size_in g) sets ws → OrderNoted g backward o
    → Flags (rule_of joining) g backward o dirty other sets → (c : Bool)
    → Along joining g backward later o other sets 0 (walk_in (rule_of joining) g backward (work_of (size_in g) sets ws c)) dirty other sets ws os c
unfolding walk_in
walk_begun joining {g} backward {o} {dirty} {other} {sets} {ws} ready before order flags c = record {
  stands = ready.stands;
  before = before;
  flags = flags;
  others = λ q h. h;
  rest = ap (λ (steps : List Step). take_steps (join_in (rule_of joining) g backward) steps (work_of (size_in g) sets ws c)) (sym order.steps)
      ∙ sym (walk_steps (neighbours g backward) (join_in (rule_of joining) g backward) (join_asks joining g backward) (size_in g)
      (order_of backward (size_in g)) (work_of (size_in g) sets ws c));
}

steps_more : (n : ℕ) (o : List ℕ) (i : ℕ) → i < left_in o → steps_from n o i ≡ step_left n o i ∷ steps_from n o (i + 1)
unfolding steps_from
steps_more n o i l = ap (map (step_left n o)) (places_more i (left_in o) l)

steps_end : (n : ℕ) (o : List ℕ) (i : ℕ) → left_in o ≤ i → steps_from n o i ≡ []
unfolding steps_from
steps_end n o i l = ap (map (step_left n o)) (places_end i (left_in o) l)

module _ {joining : Joining} {g : List ℕ} {backward later : Bool} {o : List ℕ} {other₀ : List Bool} {sets₀ : List ℕ} {i : ℕ} {end : Work}
    {dirty other : List Bool} {sets ws os : List ℕ} {c : Bool} (a : Along joining g backward later o other₀ sets₀ i end dirty other sets ws os c) where
  pub walk_over : left_in o ≤ i → StepsTo (rule_of joining) g backward o other₀ sets₀ end c dirty other sets ws os
  walk_over l = record {
    holds = record {
      stands = a.stands;
      same = sym (ap (λ (steps : List Step). take_steps (join_in (rule_of joining) g backward) steps (work_of (size_in g) sets ws c))
          (sym (steps_end (size_in g) o i l))
          ∙ a.rest);
    };
    flags = a.flags;
    others = a.others;
  }

  module _ (order : OrderNoted g backward o) (more : i < left_in o) (b : ℕ) (is : b ≡ block_left o i) where
    -- the step of block b comes next
    comes : take_steps (join_in (rule_of joining) g backward) (steps_from (size_in g) o (i + 1)) (step_end (rule_of joining) g backward b o sets ws c) ≡ end
    comes =
        let w = work_of (size_in g) sets ws c in
        let mark : get_or o b 0 ≡ 255 - i = ap (λ (k : ℕ). get_or o k 0) is ∙ order.back i more in
        ap (take_steps (join_in (rule_of joining) g backward) (steps_from (size_in g) o (i + 1)))
        (ap₂ (λ (k m : ℕ). join_in (rule_of joining) g backward k (done_above (size_in g) m o) w) is mark)
        ∙ ap (λ (steps : List Step). take_steps (join_in (rule_of joining) g backward) steps w) (sym (steps_more (size_in g) o i more)) ∙ a.rest

    pub walk_full : node_limit < length (step_end (rule_of joining) g backward b o sets ws c).registry → node_limit < length end.registry
    walk_full full =
        subst (λ (w : Work). node_limit < length w.registry) comes
        (lt_of_lt_of_le full
        (steps_add (rule_of joining) g backward (steps_from (size_in g) o (i + 1)) (step_end (rule_of joining) g backward b o sets ws c)))

    pub walk_more : {c' : Bool} {dirty' other' : List Bool} {sets' ws' os' : List ℕ}
        → StepsTo (rule_of joining) g backward o other sets (step_end (rule_of joining) g backward b o sets ws c) c' dirty' other' sets' ws' os'
        → Along joining g backward later o other₀ sets₀ (i + 1) end dirty' other' sets' ws' os' c'
    walk_more {c'} {dirty'} {other'} {sets'} {ws'} to = record {
      stands = to.holds.stands;
      before = λ t. reduced_rows (size_in g) sets' ws' c' (step_end (rule_of joining) g backward b o sets ws c) to.holds.same
          (λ k l. stays_reduced (rule_of joining) g backward b (done_above (size_in g) (get_or o b 0) o) (work_of (size_in g) sets ws c)
          (stands_proper a.stands c) k (reduced_work (size_in g) sets ws c (a.before t) k l));
      flags = to.flags;
      others = λ q clean. to.others q (a.others q clean);
      rest = ap (take_steps (join_in (rule_of joining) g backward) (steps_from (size_in g) o (i + 1))) (sym to.holds.same) ∙ comes;
    }

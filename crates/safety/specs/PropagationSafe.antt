-- The sets of a run's blocks stay non-nullish through walks and rounds: where a block of the run is
-- joined, the run's block beside it is among the joined ones, or nothing joins. Under the rule of
-- Done neighbours this needs that each neighbour is Done then, for which there must be no loop
-- (`VisitOrder`). The strict rule joins all neighbours or none, so it asks nothing of loops.
use Prim.Native.Nat.{ℕ, zero, ◌<◌}
use Rattle.std.specs.Prelude.{◌≡◌, refl, ◌⊎◌, List, [], get_or}
use Rattle.std.proofs.Common.{ap}
use Rattle.std.proofs.Math.Logic.{inl, inr}
use Rattle.model.specs.ReadingPaths.{Store}
use Rattle.model.specs.Tests.{by_cond}
use Rattle.model.specs.Sets.{NodeSet}
use Rattle.model.specs.Registry.{PropertyPathRegistry}
use Rattle.model.specs.Visit.{TraversalState, Unmarked, is_done}
use Rattle.model.specs.Rounds.{job_order, reverse_job_order, walk}
use Rattle.model.specs.Reduction.{reduce_maybe_optional_chains}
use Rattle.model.specs.Propagation.{
  Work,
  JoiningRule,
  done_neighbours,
  join,
  Graph,
  forward,
  backward,
  round_start,
  round,
  has_changed,
  propagate_with,
  propagate_non_null,
}
use Rattle.model.specs.Strict.{all_done, strict_neighbours}
use Rattle.model.specs.ListLaws.{All}
use Rattle.model.specs.VisitLaws.{Preorder}
use Rattle.model.specs.RoundsLaws.{walk_does, rounds_do}
use Rattle.laws.specs.Membership.{Some, some_both, some_select, all_reverse}
use Rattle.laws.specs.Places.{order_below}
use Rattle.laws.specs.VisitOrder.{Reach, IsDone, walk_keeps}
use Rattle.safety.specs.JoinSafe.{NonNullOn, join_safe}

-- What is known of a run in one direction: neighbours are blocks of the graph, and beside a block
-- of the run stands another of it, or no block.
pub record Beside (On : ℕ → Type 0) (n : ℕ) (near : ℕ → List ℕ) : Type 0 where
  pub in_graph : (b : ℕ) → All (λ c. c < n) (near b)
  pub beside : (b : ℕ) → On b → (near b ≡ []) ⊎ Some On (near b)

module _ {X : Type 0} (S : Store X) (On : ℕ → Type 0) where
  -- a join of the Done neighbours keeps the run's sets non-nullish where all neighbours are Done
  done_join : (n : ℕ) (near : ℕ → List ℕ) → Beside On n near → (b : ℕ) (marks : List TraversalState) (w : Work) → b < n → All
      (IsDone marks) (near b) → NonNullOn S On w
      → NonNullOn S On (join reduce_maybe_optional_chains done_neighbours near b marks w)
  unfolding join done_neighbours
  done_join n near d b marks w i done h = join_safe S On (done_neighbours marks (near b)) b w h (λ on. go (d.beside b on))
    where
      go : (near b ≡ []) ⊎ Some On (near b) → (done_neighbours marks (near b) ≡ []) ⊎ Some On (done_neighbours marks (near b))
      go (inl e) = inl (ap (done_neighbours marks) e)
      go (inr s) = inr (some_select On (λ c. is_done (get_or marks c Unmarked)) (near b) (some_both (IsDone marks) On (near b) done s))

  -- and a join by the strict rule whatever the marks are
  strict_join : (n : ℕ) (near : ℕ → List ℕ) → Beside On n near → (b : ℕ) (marks : List TraversalState) (w : Work)
      → NonNullOn S On w → NonNullOn S On (join reduce_maybe_optional_chains strict_neighbours near b marks w)
  unfolding join strict_neighbours
  strict_join n near d b marks w h =
      join_safe S On (strict_neighbours marks (near b)) b w h
      (λ on. by_cond (λ ns. (ns ≡ []) ⊎ Some On ns) (all_done marks (near b)) (λ e. d.beside b on) (λ e. inl refl))

  -- what is kept from one work to another
  abbrev Kept : Work → Work → Type 0
  Kept u w = NonNullOn S On u → NonNullOn S On w

  kept_order : Preorder Kept
  kept_order = record { none = λ w p. p; after = λ u v w a b p. b (a p) }

  -- Under the rule, walks over n blocks with these neighbours keep the run's sets non-nullish.
  abbrev pub SafeWalks : JoiningRule → ℕ → (ℕ → List ℕ) → Type 0
  SafeWalks rule n near = (order : List ℕ) → All (λ b. b < n) order → (w : Work) → Kept w
      (walk n near (join reduce_maybe_optional_chains rule near) order w)

  -- over a graph without loops
  pub done_walks : (n : ℕ) (near : ℕ → List ℕ) → Beside On n near → ((b : ℕ) → Reach near b b → ⊥) → SafeWalks done_neighbours n near
  done_walks n near d no_loop order i w h = walk_keeps (NonNullOn S On) n near (join reduce_maybe_optional_chains done_neighbours near)
      d.in_graph (done_join n near d) no_loop order w i h

  -- over any graph
  pub strict_walks : (n : ℕ) (near : ℕ → List ℕ) → Beside On n near → SafeWalks strict_neighbours n near
  strict_walks n near d order i w h = walk_does Kept kept_order near (join reduce_maybe_optional_chains strict_neighbours near)
      (strict_join n near d) n order w h

  -- rounds under any rule whose walks do so
  module _ (rule : JoiningRule) (g : Graph) (back : SafeWalks rule g.size g.predecessors)
      (onward : SafeWalks rule g.size g.successors) where
    round_safe : (w : Work) → Kept w (round reduce_maybe_optional_chains rule g w)
    unfolding round forward backward reverse_job_order
    round_safe w h =
        let start = round_start w.registry w.sets in
        onward (reverse_job_order g.size) (all_reverse (λ b. b < g.size) (job_order g.size) (order_below g.size))
        (forward reduce_maybe_optional_chains rule g start)
        (back (job_order g.size) (order_below g.size) start (record { sound = h.sound; safe = h.safe }))

    pub propagation_safe : (reg : PropertyPathRegistry) (sets : List NodeSet) → NonNullOn S On (round_start reg sets)
        → NonNullOn S On (propagate_non_null rule g reg sets).work
    unfolding propagate_non_null propagate_with
    propagation_safe reg sets h = rounds_do has_changed (round reduce_maybe_optional_chains rule g) Kept kept_order round_safe 100 zero
        (round_start reg sets) h

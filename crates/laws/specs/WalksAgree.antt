-- In a graph without loops each neighbour of a block is Done when the block is joined
-- (`VisitOrder`). So two joins that agree there give the same walk, and two joining rules that
-- agree there the same propagation.
use Prim.Native.Nat.{ℕ, zero, ◌<◌}
use Rattle.std.specs.Prelude.{◌≡◌, refl}
use Rattle.std.proofs.Common.{sym, ◌∙◌}
use Rattle.std.proofs.Math.Path.{ap}
use mathlib.Core.List.{List}
use Rattle.model.specs.Sets.{NodeSet}
use Rattle.model.specs.Registry.{PropertyPathRegistry}
use Rattle.model.specs.Visit.{TraversalState}
use Rattle.model.specs.Rounds.{job_order, reverse_job_order, walk}
use Rattle.model.specs.Propagation.{
  Work,
  JoiningRule,
  Reducer,
  join_with,
  join,
  Graph,
  forward,
  backward,
  round_start,
  round,
  has_changed,
  propagate_with,
}
use Rattle.model.specs.ListLaws.{All}
use Rattle.model.specs.RoundsLaws.{walk_natural, rounds_same}
use Rattle.laws.specs.Membership.{all_reverse}
use Rattle.laws.specs.Places.{order_below}
use Rattle.laws.specs.VisitOrder.{Reach, IsDone, walk_keeps}

-- what is asked of one direction of a graph: neighbours are blocks of it, and it has no loop
pub record LoopFree (n : ℕ) (near : ℕ → List ℕ) : Type 0 where
  pub in_graph : (b : ℕ) → All (λ c. c < n) (near b)
  pub no_loop : (b : ℕ) → Reach near b b → ⊥

-- The two walks are walked as one, over pairs of works that stay equal.
module _ {W : Type 0} (n : ℕ) (near : ℕ → List ℕ) (free : LoopFree n near) (f g : ℕ → List TraversalState → W → W)
    (same : (b : ℕ) (marks : List TraversalState) (w : W) → All (IsDone marks) (near b) → f b marks w ≡ g b marks w) where
  record Pair : Type 0 where
    one : W
    other : W

  abbrev join_both : ℕ → List TraversalState → Pair → Pair
  join_both b marks p = record { one = f b marks p.one; other = g b marks p.other }

  pub walks_agree : (order : List ℕ) → All (λ b. b < n) order → (w : W) → walk n near f order w ≡ walk n near g order w
  walks_agree order i w =
      let p : Pair = record { one = w; other = w } in
      sym (walk_natural (λ (q : Pair). q.one) near join_both f (λ b ms q. refl) n order p)
      ∙ walk_keeps (λ (q : Pair). q.one ≡ q.other) n near join_both free.in_graph
      (λ b marks q l done e. ap (f b marks) e ∙ same b marks q.other done) free.no_loop order p i refl
      ∙ walk_natural (λ (q : Pair). q.other) near join_both g (λ b ms q. refl) n order p

module _ (reduce : Reducer) (f g : JoiningRule)
    (same : (marks : List TraversalState) (bs : List ℕ) → All (IsDone marks) bs → f marks bs ≡ g marks bs) (h : Graph)
    (back : LoopFree h.size h.predecessors) (onward : LoopFree h.size h.successors) where
  joins_agree : (near : ℕ → List ℕ) (b : ℕ) (marks : List TraversalState) (w : Work) → All (IsDone marks) (near b)
      → join reduce f near b marks w ≡ join reduce g near b marks w
  unfolding join
  joins_agree near b marks w done = ap (λ (ns : List ℕ). join_with reduce ns b w) (same marks (near b) done)

  round_agrees : (w : Work) → round reduce f h w ≡ round reduce g h w
  unfolding round forward backward reverse_job_order
  round_agrees w =
      let start = round_start w.registry w.sets in
      walks_agree h.size h.successors onward (join reduce f h.successors) (join reduce g h.successors)
      (joins_agree h.successors) (reverse_job_order h.size)
      (all_reverse (λ b. b < h.size) (job_order h.size) (order_below h.size)) (forward reduce f h start)
      ∙ ap (backward reduce g h)
      (walks_agree h.size h.predecessors back (join reduce f h.predecessors) (join reduce g h.predecessors)
      (joins_agree h.predecessors) (job_order h.size) (order_below h.size) start)

  pub rules_agree : (reg : PropertyPathRegistry) (sets : List NodeSet)
      → propagate_with reduce f h reg sets ≡ propagate_with reduce g h reg sets
  unfolding propagate_with
  rules_agree reg sets = rounds_same (λ w. Unit {0}) has_changed (round reduce f h) (round reduce g h) (λ w u. tt)
      (λ w u. round_agrees w) 100 zero (round_start reg sets) tt

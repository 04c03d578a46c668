-- What the rows are between two joins, and which sets are reduced already: a join keeps those that
-- are, and after a forward walk all of them are.
use Prim.Native.Nat.{ℕ, ◌<◌}
use mathlib.Core.Path.{◌≡◌, subst}
use mathlib.Core.Bool.{Bool, false}
use mathlib.Core.List.{List}
use Rattle.model.specs.Visit.{TraversalState}
use Rattle.model.specs.RoundsLaws as laws
use Rattle.model.specs.Propagation.{Work, JoiningRule, join}
use Rattle.model.specs.PropagationLaws.{ProperWork, ReducedAt}
use Rattle.model.proofs.PropagationLaws.{join_proper, join_reduces, join_keeps_reduced}
use Rattle.graph.specs.Bytes.{size_in, neighbours}
use Rattle.propagation.specs.declared.Walk.{Walk}
use Rattle.propagation.specs.Joins.{work_of, join_in, RowsStand, Ready, AllReduced}
use Rattle.propagation.specs.Order.{order_of}
use Rattle.propagation.specs.Propagates.{walk_in}

-- In a graph that can be walked, rows that stand are ready.
pub walk_ready : (w : Walk) {sets ws os : List ℕ} → RowsStand (size_in w.graph.bytes.now) sets ws os → Ready w.graph.bytes.now sets ws os
walk_ready w s = record { fits = w.graph.fits; once = w.once; both_ways = w.both_ways; stands = s }

pub stands_proper : {n : ℕ} {sets ws os : List ℕ} → RowsStand n sets ws os → (c : Bool) → ProperWork (work_of n sets ws c)
unfolding work_of
stands_proper s c = record { sound = s.held.sound; members = s.members }

-- of the rows, and of the work that they hold
pub reduced_work : (n : ℕ) (sets ws : List ℕ) (c : Bool) → AllReduced n sets ws → (b : ℕ) → b < n → ReducedAt (work_of n sets ws c) b
unfolding work_of
reduced_work n sets ws c a b l = a b l

pub reduced_rows : (n : ℕ) (sets ws : List ℕ) (c : Bool) (w : Work) → w ≡ work_of n sets ws c → ((b : ℕ) → b < n → ReducedAt w b) → AllReduced n sets ws
unfolding work_of
reduced_rows n sets ws c w e a b l = subst (λ (u : Work). ReducedAt u b) e (a b l)

module _ (rule : JoiningRule) (g : List ℕ) (backward : Bool) where
  keeps : (b : ℕ) (ms : List TraversalState) (w : Work) → ProperWork w → ProperWork (join_in rule g backward b ms w)
  unfolding join_in join
  keeps b ms w p = join_proper (rule ms (neighbours g backward b)) b w p

  pub stays_reduced : (b : ℕ) (ms : List TraversalState) (w : Work) → ProperWork w → (a : ℕ) → ReducedAt w a → ReducedAt (join_in rule g backward b ms w) a
  unfolding join_in join
  stays_reduced b ms w p a h = join_keeps_reduced (rule ms (neighbours g backward b)) b w p a h

  makes : (b : ℕ) (ms : List TraversalState) (w : Work) → ProperWork w → ReducedAt (join_in rule g backward b ms w) b
  unfolding join_in join
  makes b ms w p = join_reduces (rule ms (neighbours g backward b)) b w p

  pub walk_keeps_reduced : (w : Work) → ProperWork w → (b : ℕ) → ReducedAt w b → ReducedAt (walk_in rule g backward w) b
  unfolding walk_in
  walk_keeps_reduced = laws.walk_keeps ProperWork ReducedAt (neighbours g backward) (join_in rule g backward) keeps stays_reduced makes (size_in g)
      (order_of backward (size_in g))

  pub walk_stays_proper : (w : Work) → ProperWork w → ProperWork (walk_in rule g backward w)
  unfolding walk_in
  walk_stays_proper = laws.walk_proper ProperWork ReducedAt (neighbours g backward) (join_in rule g backward) keeps stays_reduced makes (size_in g)
      (order_of backward (size_in g))

pub walk_reduces : (rule : JoiningRule) (g : List ℕ) (w : Work) → ProperWork w → (b : ℕ) → b < size_in g → ReducedAt (walk_in rule g false w) b
unfolding walk_in
walk_reduces rule g = laws.walk_makes ProperWork ReducedAt (neighbours g false) (join_in rule g false) (keeps rule g false) (stays_reduced rule g false)
    (makes rule g false) (size_in g)

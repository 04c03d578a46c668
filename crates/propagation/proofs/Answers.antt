-- What a caller learns from the rounds that `propagate_non_null` ran.
use Prim.Native.Nat.{ℕ}
use mathlib.Core.Path.{◌≡◌, ap}
use mathlib.Core.List.{List}
use Rattle.model.specs.Rounds.{Rounds}
use Rattle.model.specs.Propagation.{Work}
use Rattle.rows.specs.Rows.{rows_of}
use Rattle.registry.specs.Words.{registry_of}
use Rattle.entries.specs.declared.RoundsRun.{RoundsRun}
use Rattle.propagation.specs.Joins.{work_of}
use Rattle.propagation.specs.Propagates.{HoldsRounds}

module _ {want : Rounds Work} {n : ℕ} {run : RoundsRun} {sets ws os : List ℕ} (h : HoldsRounds want n run sets ws os) where
  pub propagated_registry : want.work.registry ≡ registry_of ws
  unfolding work_of
  propagated_registry = ap (λ (x : Rounds Work). x.work.registry) h.same

  pub propagated_sets : want.work.sets ≡ rows_of sets n
  unfolding work_of
  propagated_sets = ap (λ (x : Rounds Work). x.work.sets) h.same

  pub propagated_rounds : want.rounds ≡ run.rounds
  propagated_rounds = ap (λ (x : Rounds Work). x.rounds) h.same

  pub propagated_settled : want.settled ≡ run.settled
  propagated_settled = ap (λ (x : Rounds Work). x.settled) h.same

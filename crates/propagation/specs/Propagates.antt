-- What a walk and a round leave, and what propagation leaves.
use Rattle.std.specs.Prelude.{ℕ, ◌<◌, ◌≡◌, Bool, true, false, not, Result, Ok, Err, List, length}
use Rattle.entries.specs.declared.Refusal.{Refusal}
use Rattle.entries.specs.declared.Refusal.TheVariants.{ManyNodes}
use Rattle.model.specs.Registry.{node_limit}
use Rattle.model.specs.Rounds.{walk, Rounds}
use Rattle.model.specs.Propagation.{Work, JoiningRule}
use Rattle.graph.specs.Bytes.{size_in, neighbours}
use Rattle.propagation.specs.Order.{order_of, OrderNoted}
use Rattle.propagation.specs.Joins.{work_of, join_in, RowsStand, HoldsWork, Clean}
use Rattle.entries.specs.declared.RoundsRun.{RoundsRun}

-- the model's walk, in the graph that the bytes hold
unfoldable pub walk_in : JoiningRule → List ℕ → Bool → Work → Work
walk_in rule g backward w = walk (size_in g) (neighbours g backward) (join_in rule g backward) (order_of backward (size_in g)) w

-- The orders of both walks, and the dirty marks for each.
pub record Orders (rule : JoiningRule) (g forward backward : List ℕ) (dirty-forward dirty-backward : List Bool) (sets : List ℕ)
    : Type 0 where
  pub forth : OrderNoted g false forward
  pub back : OrderNoted g true backward
  pub long_forth : length dirty-forward ≡ 128
  pub long_back : length dirty-backward ≡ 128
  pub clean_forth : Clean rule g false forward dirty-forward sets
  pub clean_back : Clean rule g true backward dirty-backward sets

-- A round that found room.
pub record TurnsTo (rule : JoiningRule) (g forward backward : List ℕ) (want : Work) (changed : Bool)
    (dirty-forward dirty-backward : List Bool) (sets ws os : List ℕ) : Type 0 where
  pub holds : HoldsWork want (size_in g) changed sets ws os
  pub orders : Orders rule g forward backward dirty-forward dirty-backward sets

-- What a round leaves; or its work has no room.
abbrev pub Turns : JoiningRule → List ℕ → List ℕ → List ℕ → Work → Result Bool Refusal → List Bool → List Bool → List ℕ → List ℕ → List ℕ
    → Type 0
Turns rule g forward backward want (Ok c) dirty-forward dirty-backward sets ws os =
    TurnsTo rule g forward backward want c dirty-forward dirty-backward sets ws os
Turns rule g forward backward want (Err e) dirty-forward dirty-backward sets ws os = (e ≡ ManyNodes) × (node_limit < length want.registry)

-- "The number of rounds run and whether the last one changed nothing", with the work that the
-- arrays hold: a set has changed in the last round unless it settled
abbrev pub rounds_of : ℕ → List ℕ → List ℕ → RoundsRun → Rounds Work
rounds_of n sets ws run = record { work = work_of n sets ws (not run.settled); rounds = run.rounds; settled = run.settled }

-- the arrays hold the work that was to be reached, and the run is its rounds
pub record HoldsRounds (want : Rounds Work) (n : ℕ) (run : RoundsRun) (sets ws os : List ℕ) : Type 0 where
  pub stands : RowsStand n sets ws os
  pub same : want ≡ rounds_of n sets ws run

-- What propagation leaves: the work that was to be reached and its rounds; or that has no room.
abbrev pub Propagates : Rounds Work → ℕ → Result RoundsRun Refusal → List ℕ → List ℕ → List ℕ → Type 0
Propagates want n (Ok run) sets ws os = HoldsRounds want n run sets ws os
Propagates want n (Err e) sets ws os = (e ≡ ManyNodes) × (node_limit < length want.work.registry)

-- What passes the rest from here passes the whole.
use Rattle.std.proofs.Common.{ℕ, ◌-◌, Result}
use Rattle.entries.specs.declared.Refusal.{Refusal}
use Rattle.job.specs.Passing.{PassesMany}
use Rattle.job.proofs.past_many.Given as goal

abbrev pub invariant-loop : goal.invariant-loop
invariant-loop g l =
    (r : Result ℕ Refusal) → PassesMany (goal.F-post g l.past) (l.count - l.counter) l.at r → PassesMany (goal.F-post g l.past) l.count l.start r

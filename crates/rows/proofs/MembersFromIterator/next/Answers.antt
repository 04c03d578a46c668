-- The walk over a set's members meets what it says of itself: by `Ahead`, what lies before it is
-- the member found and what lies behind that one.
use native.Mathlib.Omega.{arith}
use mathlib.Core.Path.{sym, ◌∙◌}
use Rattle.rows.proofs.Ahead.{next_at}
use Rattle.rows.proofs.MembersFromIterator.next.Goals as goal

pub overflow_add-self : goal.overflow_add-self
overflow_add-self c =
    let a = next_at c.args.self.now.set.now.words c.args.self.now.from c.in_ok-k.k (sym c.next.ensures ∙ c.in_ok-k.was) in
    record { fits = omega arith }

pub returns-clause-steps : goal.returns-clause-steps
returns-clause-steps c =
    (next_at c.args.self.now.set.now.words c.args.self.now.from c.in_ok-k.k (sym c.next.ensures ∙ c.in_ok-k.was)).rest

pub returns-clause-goes : goal.returns-clause-goes
returns-clause-goes c =
    let a = next_at c.args.self.now.set.now.words c.args.self.now.from c.in_ok-k.k (sym c.next.ensures ∙ c.in_ok-k.was) in
    record { on = λ _. (tt, tt, rw a.rest (omega arith)); keeps = tt; rests = λ _. tt }

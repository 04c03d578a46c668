-- Where the names have parted, the path decides what it did. Else its last level is followed by the
-- entry, and there is a level more where the candidate's next name is the entry's.
use Prim.Native.Nat.{◌*◌}
use native.Mathlib.Nat.{mul_comm}
use mathlib.Core.Path.{ap, ◌∙◌}
use Rattle.std.specs.Prelude.{Some, None}
use Rattle.hoistable.proofs.Steps.{further_apart, next_here, further_on, further_parted}
use Rattle.hoistable.proofs.further.Goals as goal

pub returns-in_default : goal.returns-in_default
returns-in_default c i es d d' few child a = further_apart few child a c.in_default.is

pub returns-in-Some-after_name : goal.returns-in-Some-after_name
returns-in-Some-after_name c i es d d' few child a =
    let turned = c.followed_by-levels.ensures in
    further_on few child a c.in-Some.is _ _ (next_here few child a c.in-Some.is (Some _) c.in-Some-after_name.ensures)
    (mul_comm c.followed_by-levels.result.end 2 ∙ ap (λ m. 2 * m) turned.0) turned.1

pub returns-in-None : goal.returns-in-None
returns-in-None c i es d d' few child a =
    let turned = c.followed_by-levels.ensures in
    further_parted few child a c.in-Some.is _ (next_here few child a c.in-Some.is None c.in-None.ensures) turned.0 turned.1

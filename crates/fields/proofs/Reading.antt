-- From an answer of the code to the reading that it stands for.
use mathlib.Core.Path.{◌≡◌, sym, ap, ◌∙◌}
use Rattle.model.specs.ReadingBytes.{Read}

-- an answer r, of which the code found that it is v, is what the reading x gives
pub seen : {E A : Type 0} (f : E → Read A) {r v : E} {x : Read A} → f r ≡ x → r ≡ v → x ≡ f v
seen f e m = sym e ∙ ap f m

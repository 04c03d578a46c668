-- A child has its entry, and a root as many zeros.
use mathlib.Core.Path.{◌≡◌, refl, sym, ap, ◌∙◌}
use Rattle.model.specs.Registry.{root}
use Rattle.model.specs.Answer.{number_bytes, origin_bytes}
use Rattle.registry.specs.Nodes.{origin_of}
use Rattle.writer.proofs.Bytes.{puts_as}
use Rattle.sheet_bytes.proofs.put_origin.Goals as goal

zeros : number_bytes 10 0 ≡ origin_bytes root
unfolding number_bytes
zeros = refl

pub returns-in-Root : goal.returns-in-Root
returns-in-Root c = puts_as (zeros ∙ ap (λ n. origin_bytes (origin_of n)) (sym c.in-Root.is)) c.number.ensures

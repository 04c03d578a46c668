-- The joining rules that the code knows.
use Rattle.std.specs.Prelude.{Bool, true, false}
use Rattle.model.specs.Propagation.{JoiningRule, done_neighbours}
use Rattle.model.specs.Strict.{strict_neighbours}
use Rattle.propagation.specs.declared.Joining.{Joining}
use Rattle.propagation.specs.declared.Joining.TheVariants as joining

-- the definition's rule: of document 01, and of document 02's E2
abbrev pub rule_of : Joining → JoiningRule
rule_of joining.DoneNeighbours = done_neighbours
rule_of joining.StrictNeighbours = strict_neighbours

-- "Every neighbour is Done" is asked: one that is not keeps all from joining
abbrev pub asks_all : Joining → Bool
asks_all joining.DoneNeighbours = false
asks_all joining.StrictNeighbours = true

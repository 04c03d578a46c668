-- The key of a tree's position, as the definitions have it.
use Rattle.model.specs.Forest as forest
use Rattle.job.specs.declared.Key.{Key}
use Rattle.job.specs.declared.Key.TheVariants.{Identifier, Property}

abbrev pub key_in : Key → forest.Key
key_in (Identifier i) = forest.identifier_key i
key_in (Property p) = forest.property_key p

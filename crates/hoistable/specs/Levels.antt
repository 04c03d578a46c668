-- The levels of a candidate are its root and the positions after each of its entries. At which of
-- them the hoistable tree is NonNull, as a list and as a number.
use Rattle.std.specs.Prelude.{ℕ, ◌+◌, ◌*◌, Bool, List, [], ◌∷◌, map}
use Rattle.std.proofs.Math.Option.{Option}
use Rattle.entries.specs.declared.IdentifierId.{IdentifierId}
use Rattle.entries.specs.declared.DependencyPathEntry.{DependencyPathEntry}
use Rattle.model.specs.Answer.{flag}
use Rattle.model.specs.Sets.{NodeSet}
use Rattle.model.specs.Registry.{PropertyPathRegistry, full_path_of}
use Rattle.model.specs.Forest.{identifier_key, property_key, Found, find_key, child_by_key}
use Rattle.model.specs.Tree.{HoistablePosition, hoistable_key, hoistable_tree, at_non_null}

-- for each level from a position of the hoistable tree on, down the names of the entries: the tree
-- has a position there, and it is NonNull
unfoldable pub levels_of : Option (Found HoistablePosition) → List DependencyPathEntry → List Bool
levels_of h [] = at_non_null h ∷ []
levels_of h (e ∷ es) = at_non_null h ∷ levels_of (child_by_key hoistable_key h (property_key e.property)) es

-- the same for all levels of a candidate, in the tree that a set of nodes builds
unfoldable pub non_null_levels : PropertyPathRegistry → NodeSet → IdentifierId → List DependencyPathEntry → List Bool
unfolding levels_of
non_null_levels reg set i es = levels_of (find_key hoistable_key (hoistable_tree (map (full_path_of reg) set)) (identifier_key i)) es

-- a list as a number: bit j is 1 where element j is true
unfoldable pub number_of : List Bool → ℕ
number_of [] = 0
number_of (b ∷ bs) = flag b + 2 * number_of bs

-- what the bit after those of a list is worth
unfoldable pub weight_of : List Bool → ℕ
weight_of [] = 1
weight_of (b ∷ bs) = 2 * weight_of bs

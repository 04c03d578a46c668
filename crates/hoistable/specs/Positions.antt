-- The hoistable tree in words, as a flat forest.
use Rattle.std.specs.Prelude.{
  ℕ,
  ◌-◌,
  ◌/◌,
  ◌%◌,
  ◌≤◌,
  ◌<◌,
  ◌≡◌,
  Bool,
  true,
  false,
  not,
  cond,
  List,
  [],
  ◌∷◌,
  map,
  length,
  get_or,
  eqb,
  Option,
  Some,
  None,
  IfSome,
}
use Rattle.std.proofs.Math.Option as Maybe
use Rattle.entries.specs.declared.DependencyPathEntry.{DependencyPathEntry}
use Rattle.entries.specs.declared.HoistableAccessType.{HoistableAccessType}
use Rattle.entries.specs.declared.HoistableAccessType.TheVariants.{Optional, NonNull}
use Rattle.entries.specs.Path.{ReactiveScopeDependency}
use Rattle.model.specs.Lists.{select}
use Rattle.model.specs.Sets.{NodeSet}
use Rattle.model.specs.Registry.{full_path_of}
use Rattle.model.specs.Forest.{Key, identifier_key, property_key, Forest, Found}
use Rattle.model.specs.Tree.{HoistablePosition, hoistable_key, hoistable_positions, hoistable_tree, first_made, starts_optional}
use Rattle.laws.specs.Flat as Flat
use Rattle.laws.specs.FlatSteps.{run, seek, found_at, reached, enter_all}
use Rattle.registry.specs.declared.Node.{Node}
use Rattle.registry.specs.declared.Node.TheVariants.{Root, Child}
use Rattle.registry.specs.Words.{stored_node, registry_of}

-- the key of a node's position
abbrev pub key_of : Node → Key
key_of (Root i r s) = identifier_key i
key_of (Child p e) = property_key e.property

-- the access of a position, by whether it is Optional
abbrev pub access_of : Bool → HoistableAccessType
access_of optional = cond optional Optional NonNull

-- a position by its key and its access
abbrev pub position_of : Key → HoistableAccessType → HoistablePosition
position_of k a = record { key = k; access = a }

-- A word of the tree: the node that made the position (10 bits), the number of its parent (10
-- bits), and whether it is Optional (a bit). The node that a word's position was made by.
abbrev pub maker_in : ℕ → ℕ
maker_in word = word % 1024

-- the number of its parent
abbrev pub parent_in : ℕ → ℕ
parent_in word = word / 1024 % 1024

-- whether it is Optional
abbrev pub optional_in : ℕ → Bool
optional_in word = eqb (word / 1048576) 1

-- A word with these parts.
pub record IsWord (word k parent : ℕ) (optional : Bool) : Type 0 where
  pub maker : maker_in word ≡ k
  pub above : parent_in word ≡ parent
  pub mark : optional_in word ≡ optional

-- The position of a word, with its parent's number.
abbrev pub node_of : List ℕ → ℕ → Flat.Node HoistablePosition
node_of ws word = record {
  parent = parent_in word;
  here =
      position_of (key_of (stored_node ws (maker_in word))) (access_of (optional_in word));
}

-- Position j of the words.
abbrev pub position_at : List ℕ → List ℕ → ℕ → Flat.Node HoistablePosition
position_at ws hoist j = node_of ws (get_or hoist j 0)

-- How many positions the words hold, as the last word says.
abbrev pub positions_in : List ℕ → ℕ
positions_in hoist = get_or hoist (length hoist - 1) 0

-- All positions of the words.
unfoldable pub flat_of : List ℕ → List ℕ → List (Flat.Node HoistablePosition)
flat_of ws hoist = run (position_at ws hoist) 0 (positions_in hoist)

-- The number of the first position below a number that has this key; 0 where there is none.
unfoldable pub number_below : List ℕ → List ℕ → ℕ → Key → ℕ
number_below ws hoist p k = seek hoistable_key (run (position_at ws hoist) p (positions_in hoist - p)) p p k

-- the number of a position, where there is one, and else 0
abbrev pub number_in : Option ℕ → ℕ
number_in None = 0
number_in (Some number) = number

-- it is the number of a position of the words
abbrev pub Stands : List ℕ → Option ℕ → Type 0
Stands hoist position = IfSome position (λ number. (0 < number) × (number ≤ positions_in hoist))

-- The position with a number, and the forest below it; none for 0.
abbrev pub found_in : List ℕ → List ℕ → ℕ → Maybe.Option (Found HoistablePosition)
found_in ws hoist number = found_at hoistable_key (position_at ws hoist) (positions_in hoist) number

-- No more words than 512 positions and their number need, and no more positions than there are
-- words before the last; each has a maker's number below 512, and stands behind its parent.
pub record HoldsPositions (hoist : List ℕ) : Type 0 where
  pub short : length hoist ≤ 513
  pub room : positions_in hoist < length hoist
  pub makers : (j : ℕ) → j < positions_in hoist → maker_in (get_or hoist j 0) < 512
  pub parents : (j : ℕ) → j < positions_in hoist → parent_in (get_or hoist j 0) ≤ j

-- A way down is entered below number p, and ends at number r.
pub record Entered (ws before after : List ℕ) (p : ℕ) (way : List HoistablePosition) (r : ℕ) : Type 0 where
  pub held : HoldsPositions after
  pub flat : flat_of ws after ≡ Flat.enter hoistable_key first_made (flat_of ws before) 0 p way
  pub number : r ≡ reached hoistable_key first_made (flat_of ws before) 0 p way
  pub within : r ≤ positions_in after

-- The same, where there was room for it.
abbrev pub Enters : List ℕ → List ℕ → List ℕ → ℕ → List HoistablePosition → Option ℕ → Type 0
Enters ws before after p way number = IfSome number (λ r. Entered ws before after p way r)

-- The position with a key and those of the entries after it, with the access of the last.
abbrev pub positions_from : Key → List DependencyPathEntry → HoistableAccessType → List HoistablePosition
positions_from k [] a = position_of k a ∷ []
positions_from k (e ∷ es) a = position_of k (access_of e.optional) ∷ positions_from (property_key e.property) es a

-- The positions of a whole path, with the access of the last.
abbrev pub positions_to : ReactiveScopeDependency → HoistableAccessType → List HoistablePosition
positions_to d a = positions_from (identifier_key d.identifier) d.path a

-- a test, or its opposite
abbrev pub as_said : Bool → Bool → Bool
as_said true test = test
as_said false test = not test

-- The ways down of those paths whose first entry is optional as said.
abbrev pub ways_of : Bool → List ReactiveScopeDependency → List (List HoistablePosition)
ways_of ahead ds = map hoistable_positions (select (λ d. as_said ahead (starts_optional d.path)) ds)

-- They are entered, one after the other.
pub record EntersPaths (ws before after : List ℕ) (ahead : Bool) (ds : List ReactiveScopeDependency) : Type 0 where
  pub held : HoldsPositions after
  pub flat : flat_of ws after ≡ enter_all hoistable_key first_made (flat_of ws before) (ways_of ahead ds)

-- The words hold a tree.
pub record HoldsTree (ws hoist : List ℕ) (t : Forest HoistablePosition) : Type 0 where
  pub held : HoldsPositions hoist
  pub tree : Flat.grow (flat_of ws hoist) 0 0 ≡ t

-- A tree that is given is that of the set; of none nothing is said.
abbrev pub MayHoldTree : List ℕ → Option (List ℕ) → NodeSet → Type 0
MayHoldTree ws tree set = IfSome tree (λ hoist. HoldsTree ws hoist (hoistable_tree (map (full_path_of (registry_of ws)) set)))

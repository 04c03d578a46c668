-- Document 02, E4 (where nodes come from), computed: whether a node was made, the nodes before the
-- first round and at the end, and sheets byte by byte.
use Rattle.std.specs.Prelude.{ℕ, ◌≡◌, refl, true, List, [], ◌∷◌, ◌++◌, length, replicate}
use Rattle.model.specs.Registry.{
  PropertyPathRegistry,
  Reached,
  full_path_of,
  get_or_create_identifier,
  get_or_create_property_entry,
  walk_from,
  walk_path,
  get_or_create_property,
}
use Rattle.model.specs.Sets.{NodeSet}
use Rattle.model.specs.Reduction.{reduced_mark}
use Rattle.model.specs.Propagation.{JoiningRule, done_neighbours}
use Rattle.model.specs.Job.{Block}
use Rattle.model.specs.Stage.{enter_paths, none_entered, enter_blocks, start_of, propagated}
use Rattle.model.specs.Answer.{least_buffer, writes, sheet_of}
use Rattle.model.specs.Strict.{strict_neighbours}
use Rattle.model.specs.Examples.{optional, plain, one, block}
use Rattle.model.specs.ThinExamples as thin_examples

-- "Whether the node was made", for a root, a child, a whole path, and a path that a reduction walks
-- again.

-- the registry of 1, and of 1 and 1.10
abbrev of_root : PropertyPathRegistry
of_root = (get_or_create_identifier [] (record { 0 = 1 }) true 1).registry

abbrev of_root_and_child : PropertyPathRegistry
of_root_and_child = (get_or_create_property_entry of_root (record { 0 = 0 }) (plain 10)).registry

pub root_was_made : (get_or_create_identifier [] (record { 0 = 1 }) true 1).made ≡ 1
root_was_made = refl

pub root_was_found : (get_or_create_identifier of_root (record { 0 = 1 }) true 1).made ≡ 0
root_was_found = refl

pub child_was_made : (get_or_create_property_entry of_root (record { 0 = 0 }) (plain 10)).made ≡ 1
child_was_made = refl

pub child_was_found : (get_or_create_property_entry of_root_and_child (record { 0 = 0 }) (plain 10)).made ≡ 0
child_was_found = refl

-- 1?.10 is another node than 1.10
pub other_mark_was_made : (get_or_create_property_entry of_root_and_child (record { 0 = 0 }) (optional 10)).made ≡ 1
other_mark_was_made = refl

-- of 1.10.11 all three nodes, those of its two entries, and that of the last; of 1.10 none
pub path_makes_all : (get_or_create_property [] (one (plain 10 ∷ plain 11 ∷ []))).made ≡ 3
unfolding get_or_create_property
path_makes_all = refl

pub path_makes_two : (get_or_create_property of_root (one (plain 10 ∷ plain 11 ∷ []))).made ≡ 2
unfolding get_or_create_property
path_makes_two = refl

pub path_makes_one : (get_or_create_property of_root_and_child (one (plain 10 ∷ plain 11 ∷ []))).made ≡ 1
unfolding get_or_create_property
path_makes_one = refl

pub path_makes_none : (get_or_create_property of_root_and_child (one (plain 10 ∷ []))).made ≡ 0
unfolding get_or_create_property
path_makes_none = refl

-- a node's path walked again from its root, under the marks that a set leaves
abbrev again : NodeSet → ℕ → PropertyPathRegistry → Reached
again s k reg = walk_path (reduced_mark s) reg (full_path_of reg (record { 0 = k }))

abbrev node_zero : NodeSet
node_zero = record { 0 = 0 } ∷ []

-- 1?.10?.11 beside 1 becomes 1.10?.11, for which 1.10 is made too; 1?.10 beside 1 becomes 1.10,
-- which may be there already
pub again_makes_two : (again node_zero 2 (enter_paths (none_entered []) (one (optional 10 ∷ optional 11 ∷ []) ∷ [])).registry).made ≡ 2
unfolding get_or_create_property walk_from
again_makes_two = refl

pub again_makes_one : (again node_zero 1 (enter_paths (none_entered []) (one (optional 10 ∷ []) ∷ [])).registry).made ≡ 1
unfolding get_or_create_property walk_from
again_makes_one = refl

pub again_makes_none :
    (again node_zero 2 (enter_paths (none_entered []) (one (plain 10 ∷ []) ∷ one (optional 10 ∷ []) ∷ [])).registry).made ≡ 0
unfolding get_or_create_property walk_from
again_makes_none = refl

-- The nodes present before the first round, and those at the end.

-- so many before, which entering made, and so many at the end
abbrev NodesBeforeAndAfter : JoiningRule → List Block → ℕ → ℕ → Type 0
NodesBeforeAndAfter rule blocks before after =
    let start = start_of blocks in
    (length start.registry ≡ before) × (start.made ≡ before) × (length (propagated rule blocks).work.registry ≡ after)

-- the smallest: 1 and 1?.10
pub one_is_added : NodesBeforeAndAfter done_neighbours (block 7 [] (one [] ∷ one (optional 10 ∷ []) ∷ []) ∷ []) 2 3
unfolding enter_blocks propagated done_neighbours
one_is_added = (refl, refl, refl)

-- 1.10 is there already
pub none_is_added : NodesBeforeAndAfter done_neighbours (block 7 [] (one [] ∷ one (plain 10 ∷ []) ∷ one (optional 10 ∷ []) ∷ []) ∷ []) 3 3
unfolding enter_blocks propagated done_neighbours
none_is_added = (refl, refl, refl)

-- By the existing propagation block 1, its own predecessor, takes 1 over from block 0, and its
-- 1?.10 reduces; by the strict one it takes nothing over. (Block 2 keeps 1?.10 from coming to
-- block 0.) What was entered is the same.
abbrev own_predecessor : List Block
own_predecessor = block 0 [] (one [] ∷ []) ∷ block 1 (1 ∷ 0 ∷ []) (one (optional 10 ∷ []) ∷ []) ∷ block 2 (0 ∷ []) [] ∷ []

pub added_by_existing : NodesBeforeAndAfter done_neighbours own_predecessor 2 3
unfolding enter_blocks propagated done_neighbours
added_by_existing = (refl, refl, refl)

pub none_added_by_strict : NodesBeforeAndAfter strict_neighbours own_predecessor 2 2
unfolding enter_blocks propagated strict_neighbours
none_added_by_strict = (refl, refl, refl)

-- Sheets.

-- the sheet of document 01's job in hex, with the count of raw reads: one node, there before the
-- first round
pub example_sheet :
    sheet_of thin_examples.thin (replicate least_buffer 0)
    ≡ writes (
    0x53 ∷ 0x48 ∷ 1 ∷ 0 ∷ 1 ∷ 0 ∷ 1 ∷ 1 ∷ 1 ∷ 0 ∷
    0x4E ∷ 0x4F ∷ 255 ∷ 255 ∷ 1 ∷ 0 ∷ 0 ∷ 0 ∷ replicate 10 0 ++ (0 ∷ 0 ∷ 0 ∷ 0 ∷ 1 ∷
    0x53 ∷ 0x45 ∷ 7 ∷ 0 ∷ 0 ∷ 0 ∷ 1 ∷ replicate 63 0)
    )
unfolding sheet_of
example_sheet = refl

-- one block, which assumes 1 and 1?.10, and candidate 1.10
abbrev pub smallest : List ℕ
smallest =
    0x48 ∷ 0x44 ∷ 1 ∷ 0 ∷ 1 ∷ 0 ∷ 7 ∷ 0 ∷ 0 ∷ 0 ∷
    0x42 ∷ 0x4C ∷ 7 ∷ 0 ∷ 0 ∷ 0 ∷ 0 ∷ 2 ∷ 0 ∷
    0x50 ∷ 0x41 ∷ 1 ∷ 0 ∷ 0 ∷ 0 ∷ 1 ∷ 0 ∷ 0 ∷ 0 ∷ 0 ∷ 0 ∷
    0x50 ∷ 0x41 ∷ 1 ∷ 0 ∷ 0 ∷ 0 ∷ 1 ∷ 0 ∷ 0 ∷ 0 ∷ 0 ∷ 1 ∷ 1 ∷ 0 ∷ 10 ∷ 0 ∷ 0 ∷ 0 ∷ 0 ∷ 0 ∷ 0 ∷ 0 ∷ 3 ∷ 0 ∷ 0 ∷ 0 ∷
    0x43 ∷ 0x41 ∷ 1 ∷ 0 ∷ 0 ∷ 0 ∷ 1 ∷ 5 ∷ 0 ∷ 0 ∷ 0 ∷ 1 ∷ 0 ∷ 0 ∷ 10 ∷ 0 ∷ 0 ∷ 0 ∷ 0 ∷ 0 ∷ 0 ∷ 0 ∷ 6 ∷ 0 ∷ 0 ∷ 0 ∷ []

-- 3 nodes, 1 block, 2 rounds, settled, 2 nodes before the first round; then 1, 1?.10 and 1.10, and
-- the block's set, of 1 and 1.10
pub smallest_sheet :
    sheet_of smallest (replicate least_buffer 0)
    ≡ writes (
    0x53 ∷ 0x48 ∷ 3 ∷ 0 ∷ 1 ∷ 0 ∷ 2 ∷ 1 ∷ 2 ∷ 0 ∷
    0x4E ∷ 0x4F ∷ 255 ∷ 255 ∷ 1 ∷ 0 ∷ 0 ∷ 0 ∷ replicate 10 0 ++ (0 ∷ 0 ∷ 0 ∷ 0 ∷ 1 ∷
    0x4E ∷ 0x4F ∷ 0 ∷ 0 ∷ 1 ∷ 0 ∷ 0 ∷ 0 ∷ 1 ∷ 0 ∷ 10 ∷ 0 ∷ 0 ∷ 0 ∷ 0 ∷ 0 ∷ 0 ∷ 0 ∷ 3 ∷ 0 ∷ 0 ∷ 0 ∷ 1 ∷
    0x4E ∷ 0x4F ∷ 0 ∷ 0 ∷ 1 ∷ 0 ∷ 0 ∷ 0 ∷ 0 ∷ 0 ∷ 10 ∷ 0 ∷ 0 ∷ 0 ∷ 0 ∷ 0 ∷ 0 ∷ 0 ∷ 3 ∷ 0 ∷ 0 ∷ 0 ∷ 1 ∷
    0x53 ∷ 0x45 ∷ 7 ∷ 0 ∷ 0 ∷ 0 ∷ 5 ∷ replicate 63 0)
    )
unfolding sheet_of
smallest_sheet = refl

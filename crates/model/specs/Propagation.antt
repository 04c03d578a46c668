-- Document 01, module 4 (Propagation): `propagate_non_null`, over the registry and the blocks'
-- sets.
use Rattle.std.specs.Prelude.{ℕ, zero, Bool, false, ◌||◌, not, get_or, set}
use mathlib.Core.List.{List, [], ◌∷◌, map, foldl}
use Rattle.model.specs.Lists.{select}
use Rattle.model.specs.Sets.{NodeSet, union, intersection, same_set}
use Rattle.model.specs.Registry.{PropertyPathRegistry}
use Rattle.model.specs.Reduction.{Reduced, reduce_maybe_optional_chains}
use Rattle.model.specs.Visit.{TraversalState, Unmarked, is_done}
use Rattle.model.specs.Rounds.{job_order, reverse_job_order, walk, Rounds, rounds_from}

-- the registry, each block's set in job order, and whether a join of this round changed its set
pub record Work : Type 0 where
  pub registry : PropertyPathRegistry
  pub sets : List NodeSet
  pub changed : Bool

-- A block's set ("its set"), by the block's place; a place that is no block has none.
abbrev pub set_of : List NodeSet → ℕ → NodeSet
set_of sets b = get_or sets b []

-- which neighbours of a block join, by the marks at that moment
abbrev pub JoiningRule : Type 0
JoiningRule = List TraversalState → List ℕ → List ℕ

-- "Its Done neighbours .. Active neighbours are ignored."
unfoldable pub done_neighbours : JoiningRule
done_neighbours marks bs = select (λ b. is_done (get_or marks b Unmarked)) bs

-- The intersection of some sets, and of none the empty one: "the intersection of its Done
-- neighbours' sets (none Done: nothing joins)".
unfoldable pub intersection_of : List NodeSet → NodeSet
intersection_of [] = []
intersection_of (s ∷ ss) = foldl intersection s ss

-- how a set is reduced: `reduce_maybe_optional_chains`, and in the laws any other function that
-- does so
abbrev pub Reducer : Type 0
Reducer = PropertyPathRegistry → NodeSet → Reduced

-- "Joins its set with the intersection .., reduces it": the neighbours to be joined are given.
unfoldable pub join_with : Reducer → List ℕ → ℕ → Work → Work
unfolding intersection_of
join_with reduce neighbours b w =
    let r = reduce w.registry (union (set_of w.sets b) (intersection_of (map (set_of w.sets) neighbours))) in
    record {
      registry = r.registry;
      sets = set w.sets b r.set;
      changed = w.changed || not (same_set (set_of w.sets b) r.set);
    }

-- "Then joins its set with the intersection of its Done neighbours' sets .., reduces it": the rule
-- says which of a block's neighbours join.
unfoldable pub join : Reducer → JoiningRule → (ℕ → List ℕ) → ℕ → List TraversalState → Work → Work
unfolding join_with
join reduce rule near b marks w = join_with reduce (rule marks (near b)) b w

-- how many blocks there are, and the neighbours of each, by place
pub record Graph : Type 0 where
  pub size : ℕ
  pub predecessors : ℕ → List ℕ
  pub successors : ℕ → List ℕ

-- "Forward takes blocks in job order with predecessors in job order"
unfoldable pub forward : Reducer → JoiningRule → Graph → Work → Work
unfolding walk job_order join
forward reduce rule g w = walk g.size g.predecessors (join reduce rule g.predecessors) (job_order g.size) w

-- "Backward takes reverse job order with successors by ascending id."
unfoldable pub backward : Reducer → JoiningRule → Graph → Work → Work
unfolding walk reverse_job_order join
backward reduce rule g w = walk g.size g.successors (join reduce rule g.successors) (reverse_job_order g.size) w

-- A round starts with no set changed.
abbrev pub round_start : PropertyPathRegistry → List NodeSet → Work
round_start reg sets = record { registry = reg; sets = sets; changed = false }

-- "Rounds of a forward and a backward walk"
unfoldable pub round : Reducer → JoiningRule → Graph → Work → Work
unfolding forward backward
round reduce rule g w = backward reduce rule g (forward reduce rule g (round_start w.registry w.sets))

-- "The round that changes nothing": whether a join of this one changed its set.
abbrev pub has_changed : Work → Bool
has_changed w = w.changed

-- "At most 100 rounds"
unfoldable pub propagate_with : Reducer → JoiningRule → Graph → PropertyPathRegistry → List NodeSet → Rounds Work
unfolding rounds_from round
propagate_with reduce rule g reg sets = rounds_from has_changed (round reduce rule g) 100 zero (round_start reg sets)

-- Module 4, with the reduction of module 3.
unfoldable pub propagate_non_null : JoiningRule → Graph → PropertyPathRegistry → List NodeSet → Rounds Work
unfolding propagate_with reduce_maybe_optional_chains
propagate_non_null rule g reg sets = propagate_with reduce_maybe_optional_chains rule g reg sets

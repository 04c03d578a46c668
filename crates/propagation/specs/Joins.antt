-- The work that the lent arrays hold, which neighbours are to be joined, what a join leaves, and
-- which joins would have no effect.
use Rattle.std.specs.Prelude.{
  ℕ,
  ◌≤◌,
  ◌<◌,
  ◌≡◌,
  Bool,
  true,
  false,
  ◌||◌,
  not,
  Result,
  Ok,
  Err,
  List,
  ◌∷◌,
  map,
  length,
  get_or,
  set,
  take,
  eqb,
}
use Rattle.model.specs.Lists.{any_of}
use Rattle.model.specs.ListLaws.{All, NoRepeats}
use Rattle.model.specs.Sets.{NodeSet, contains}
use Rattle.model.specs.Registry.{node_limit}
use Rattle.model.specs.Reduction.{reduce_maybe_optional_chains}
use Rattle.model.specs.ReductionLaws.{Members, IsReduced}
use Rattle.model.specs.Visit.{TraversalState}
use Rattle.model.specs.Propagation.{Work, set_of, JoiningRule, intersection_of, join}
use Rattle.rows.specs.Rows.{Lent, rows_of}
use Rattle.registry.specs.Words.{registry_of, Held}
use Rattle.graph.specs.Bytes.{size_in, neighbours, GraphFits, NeighboursOnce, NeighboursMutual}
use Rattle.entries.specs.declared.Refusal.{Refusal}
use Rattle.entries.specs.declared.Refusal.TheVariants.{ManyNodes}
use Rattle.propagation.specs.declared.Joined.{Joined}
use Rattle.propagation.specs.Order.{done_before}

-- the work of n blocks
unfoldable pub work_of : ℕ → List ℕ → List ℕ → Bool → Work
work_of n sets ws changed = record { registry = registry_of ws; sets = rows_of sets n; changed = changed }

-- the model's join under a rule, in the graph that the bytes hold
unfoldable pub join_in : JoiningRule → List ℕ → Bool → ℕ → List TraversalState → Work → Work
join_in rule g backward b marks w = join reduce_maybe_optional_chains rule (neighbours g backward) b marks w

-- "The neighbours to be joined" (document 02, E3): those of a block that the rule chooses by the
-- marks of the moment at which it is left
abbrev pub neighbours_to_join : JoiningRule → List ℕ → Bool → ℕ → List ℕ → List ℕ
neighbours_to_join rule g backward b o = rule (done_before (size_in g) o b) (neighbours g backward b)

-- their sets
unfoldable pub sets_to_join : JoiningRule → List ℕ → Bool → ℕ → List ℕ → List ℕ → List NodeSet
sets_to_join rule g backward b o sets = map (set_of (rows_of sets (size_in g))) (neighbours_to_join rule g backward b o)

-- What gathering among n blocks leaves: the first `count` places are these, "each once". What
-- stands behind them is of no account.
pub record Gathers (want : List ℕ) (n count : ℕ) (places : List ℕ) : Type 0 where
  pub few : count ≤ 128
  pub long : length places ≡ 128
  pub same : take count places ≡ want
  pub inside : All (λ b. b < n) (take count places)
  pub once : NoRepeats (take count places)

-- What the lent arrays are between two joins: each of n rows is a set of the registry's nodes.
pub record RowsStand (n : ℕ) (sets ws os : List ℕ) : Type 0 where
  pub lent : Lent n sets
  pub held : Held ws os
  pub members : All (Members (registry_of ws)) (rows_of sets n)

-- the same, with a graph of these blocks
pub record Ready (g sets ws os : List ℕ) : Type 0 where
  pub fits : GraphFits g
  pub once : NeighboursOnce g
  pub both_ways : NeighboursMutual g
  pub stands : RowsStand (size_in g) sets ws os

-- a pass over any of n rows changes nothing and makes nothing
abbrev pub AllReduced : ℕ → List ℕ → List ℕ → Type 0
AllReduced n sets ws = (b : ℕ) → b < n → IsReduced (registry_of ws) (set_of (rows_of sets n) b)

-- the same in a walk that is later than the first
abbrev pub ReducedBefore : Bool → ℕ → List ℕ → List ℕ → Type 0
ReducedBefore later n sets ws = later ≡ true → AllReduced n sets ws

-- the arrays hold the work that was to be reached
pub record HoldsWork (want : Work) (n : ℕ) (changed : Bool) (sets ws os : List ℕ) : Type 0 where
  pub stands : RowsStand n sets ws os
  pub same : want ≡ work_of n sets ws changed

-- A set has all nodes of another.
abbrev pub Has : NodeSet → NodeSet → Type 0
Has s t = All (λ k. contains s k ≡ true) t

-- Nothing new joins a block: its set has all that its neighbours' intersection has.
abbrev pub Idle : JoiningRule → List ℕ → Bool → List ℕ → List ℕ → ℕ → Type 0
Idle rule g backward o sets b = Has (set_of (rows_of sets (size_in g)) b) (intersection_of (sets_to_join rule g backward b o sets))

-- Nothing new joins a block that is not dirty.
abbrev pub Clean : JoiningRule → List ℕ → Bool → List ℕ → List Bool → List ℕ → Type 0
Clean rule g backward o dirty sets = (b : ℕ) → b < size_in g → get_or dirty b false ≡ false → Idle rule g backward o sets b

-- These blocks are dirty, and those that were.
pub record MarksDirty (bs : List ℕ) (before after : List Bool) : Type 0 where
  pub long : length after ≡ 128
  pub others : (b : ℕ) → get_or after b false ≡ false → get_or before b false ≡ false
  pub these : (b : ℕ) → get_or after b false ≡ false → any_of (eqb b) bs ≡ false

-- The dirty marks after a join of block b, in its walk's direction and in the other: where its set
-- has changed, those blocks are marked that it joins, and the block itself in the other direction.
pub record Touched (g : List ℕ) (backward : Bool) (b : ℕ) (changed : Bool) (dirty other dirty' other' : List Bool) : Type 0 where
  pub new : changed ≡ true → MarksDirty (neighbours g (not backward) b) dirty dirty' × MarksDirty (b ∷ neighbours g backward b) other other'
  pub old : changed ≡ false → (dirty' ≡ dirty) × (other' ≡ other)

-- A join that found room: its block's set is another or the same, and no other set changes.
pub record JoinedTo (rule : JoiningRule) (g : List ℕ) (backward : Bool) (b : ℕ) (o sets ws : List ℕ) (r : Joined) (sets' ws' os' : List ℕ)
    : Type 0 where
  pub stands : RowsStand (size_in g) sets' ws' os'
  pub same : (changed : Bool) → join_in rule g backward b (done_before (size_in g) o b) (work_of (size_in g) sets ws changed)
      ≡ work_of (size_in g) sets' ws' (changed || r.changed)
  pub own : NodeSet
  pub rows : rows_of sets' (size_in g) ≡ set (rows_of sets (size_in g)) b own
  pub still : r.changed ≡ false → rows_of sets' (size_in g) ≡ rows_of sets (size_in g)
  pub idle : r.idle ≡ true → Idle rule g backward o sets' b

-- What a join leaves; or the definition's registry, which has no limit, is beyond the limit.
abbrev pub Joins : JoiningRule → List ℕ → Bool → ℕ → List ℕ → List ℕ → List ℕ → Result Joined Refusal → List ℕ → List ℕ → List ℕ → Type 0
Joins rule g backward b o sets ws (Ok r) sets' ws' os' = JoinedTo rule g backward b o sets ws r sets' ws' os'
Joins rule g backward b o sets ws (Err e) sets' ws' os' = (e ≡ ManyNodes) × ((changed : Bool)
    → node_limit < length (join_in rule g backward b (done_before (size_in g) o b) (work_of (size_in g) sets ws changed)).registry)

-- The dirty marks of a walk's direction and of the other one.
pub record Flags (rule : JoiningRule) (g : List ℕ) (backward : Bool) (o : List ℕ) (dirty other : List Bool) (sets : List ℕ)
    : Type 0 where
  pub long : length dirty ≡ 128
  pub other_long : length other ≡ 128
  pub clean : Clean rule g backward o dirty sets

-- A step or a walk that found room: the work that was to be reached, with dirty marks that are
-- right in both directions, whatever order the other one has.
pub record StepsTo (rule : JoiningRule) (g : List ℕ) (backward : Bool) (o : List ℕ) (other : List Bool) (sets : List ℕ) (want : Work)
    (changed : Bool) (dirty' other' : List Bool) (sets' ws' os' : List ℕ) : Type 0 where
  pub holds : HoldsWork want (size_in g) changed sets' ws' os'
  pub flags : Flags rule g backward o dirty' other' sets'
  pub others : (q : List ℕ) → Clean rule g (not backward) q other sets → Clean rule g (not backward) q other' sets'

-- What a step or a walk leaves; or its work has no room. The definition has no limit and goes on to
-- its end.
abbrev pub Steps : JoiningRule → List ℕ → Bool → List ℕ → List Bool → List ℕ → Work → Result Bool Refusal → List Bool → List Bool → List ℕ
    → List ℕ → List ℕ → Type 0
Steps rule g backward o other sets want (Ok c) dirty' other' sets' ws' os' =
    StepsTo rule g backward o other sets want c dirty' other' sets' ws' os'
Steps rule g backward o other sets want (Err e) dirty' other' sets' ws' os' = (e ≡ ManyNodes) × (node_limit < length want.registry)

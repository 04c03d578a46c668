-- The levels from a position of the words on: what the tree has there, and the candidate's next
-- entry.
use Prim.Native.Nat.{ℕ, zero, suc, ◌+◌, ◌*◌, ◌-◌, ◌≤◌, ◌<◌}
use native.Mathlib.Omega.{arith}
use Rattle.std.specs.Prelude.{Some, None}
use Rattle.std.specs.Prelude as std
use denote.Bor.{Bor}
use mathlib.Core.Path.{◌≡◌, refl, sym, ap, subst, ◌∙◌}
use mathlib.Core.List.{List, map}
use mathlib.Core.Option.{Option}
use lib.ListN.{length, get_or, drop}
use Rattle.entries.specs.declared.IdentifierId.{IdentifierId}
use Rattle.entries.specs.declared.DependencyPathEntry.{DependencyPathEntry}
use Rattle.model.specs.Answer.{flag}
use Rattle.model.specs.Job.{read_entry}
use Rattle.model.specs.Sets.{NodeSet}
use Rattle.model.specs.Registry.{full_path_of}
use Rattle.model.specs.Forest.{Key, identifier_key, property_key, Forest, Found, find_key, child_by_key}
use Rattle.model.specs.Tree.{HoistablePosition, hoistable_key, hoistable_tree, access_is_non_null, at_non_null}
use Rattle.job.proofs.Many.{many_length}
use Rattle.laws.specs.Flat as Flat
use Rattle.laws.specs.FlatSteps.{run, seek, grow_find}
use Rattle.registry.specs.Words.{registry_of}
use Rattle.hoistable.specs.Levels.{levels_of, non_null_levels, number_of}
use Rattle.hoistable.specs.declared.Entries.{Entries}
use Rattle.hoistable.specs.Candidate.{entries_at, Reads, Candidate}
use Rattle.hoistable.specs.Agreement.{Follows}
use Rattle.hoistable.specs.Positions.{
  access_of,
  optional_in,
  position_at,
  positions_in,
  flat_of,
  number_below,
  number_in,
  Stands,
  found_in,
  HoldsTree,
  MayHoldTree,
}
use Rattle.hoistable.proofs.Walks.{levels_length}
use Rattle.hoistable.proofs.Numbers.{number_below_lem, weight_most}
use Rattle.hoistable.proofs.Names.{reads_at}
use Rattle.hoistable.proofs.Trees.{none_levels}

-- What the tree has at a number and below it.

module _ (ws hoist : List ℕ) where
  pub at_number : (number : ℕ) → ¬ (number ≡ 0)
      → flag (access_is_non_null (access_of (optional_in (get_or hoist (number - 1) 0)))) ≡ flag (at_non_null (found_in ws hoist number))
  at_number zero some = absurd (some refl)
  at_number (suc j) some = let e : suc j - 1 ≡ j = omega arith in ap (λ i. flag (access_is_non_null (access_of (optional_in (get_or hoist i 0))))) e

  pub below_number : (number : ℕ) (k : Key) → ¬ (number ≡ 0) → number ≤ positions_in hoist
      → child_by_key hoistable_key (found_in ws hoist number) k ≡ found_in ws hoist (number_below ws hoist number k)
  unfolding number_below
  below_number zero k some low = absurd (some refl)
  below_number (suc j) k some low =
      grow_find hoistable_key (position_at ws hoist) (positions_in hoist) (suc j) (positions_in hoist - suc j) (suc j) k (omega arith)

  pub root_number : (k : Key) → find_key hoistable_key (Flat.grow (flat_of ws hoist) 0 0) k ≡ found_in ws hoist (number_below ws hoist 0 k)
  unfolding flat_of number_below
  root_number k =
      let n = positions_in hoist in
      let all : n - 0 ≡ n = omega arith in
      let e : 0 + n ≡ n = omega arith in
      grow_find hoistable_key (position_at ws hoist) n 0 n 0 k e
      ∙ ap (λ m. found_in ws hoist (seek hoistable_key (run (position_at ws hoist) 0 m) 0 0 k)) (sym all)

-- A candidate's levels fit their number.
levels_low : (h : Option (Found HoistablePosition)) (es : List DependencyPathEntry) → length es ≤ 16 → number_of (levels_of h es) < 131072
levels_low h es few =
    let long = levels_length h es in
    let below = number_below_lem (levels_of h es) in
    let most = weight_most (levels_of h es) 17 (omega arith) in
    omega arith

-- The entries that are left.

module _ {left : ℕ} {s : List ℕ} {at : ℕ} (c : Candidate left s at) where
  entries_few : length (entries_at left s at) ≤ 16
  entries_few = let long = many_length (read_entry 4) s left at c.reads.read in let few = c.few in omega arith

  pub levels_small : (h : Option (Found HoistablePosition)) {n : ℕ} → n ≡ number_of (levels_of h (entries_at left s at)) → n < 131072
  levels_small h {n} is = let l = levels_low h (entries_at left s at) entries_few in omega arith

  -- no entry is left
  pub levels_last : Follows (entries_at left s at) s left None → (h : Option (Found HoistablePosition))
      → flag (at_non_null h) ≡ number_of (levels_of h (entries_at left s at))
  unfolding levels_of number_of
  levels_last none h = rw none.0 (omega arith)

  -- one is left, and others behind it
  module _ {e : DependencyPathEntry} {rest : Entries} (next : Follows (entries_at left s at) s left (Some (e, rest))) where
    same_rest : drop 1 (entries_at left s at) ≡ entries_at rest.left s rest.at
    same_rest = sym (reads_at next.1)

    pub candidate_later : Candidate rest.left s rest.at
    candidate_later = record { few = let few = c.few in let more = next.2 in omega arith; reads = subst (Reads rest.left s rest.at) same_rest next.1 }

    pub levels_more : (h : Option (Found HoistablePosition)) (here below : ℕ) → here ≡ flag (at_non_null h)
        → below ≡ number_of (levels_of (child_by_key hoistable_key h (property_key e.property)) (entries_at rest.left s rest.at))
        → here + below * 2 ≡ number_of (levels_of h (entries_at left s at))
    unfolding levels_of number_of
    levels_more h here below is more = rw (next.0, same_rest) (omega arith)

-- A position, and no position.

pub stands_here : (hoist : List ℕ) (position : std.Option ℕ) {number : ℕ} → position ≡ Some number → Stands hoist position
    → (0 < number) × (number ≤ positions_in hoist)
stands_here hoist position is = subst (Stands hoist) is

pub levels_above : (ws hoist : List ℕ) (position : std.Option ℕ) (es : List DependencyPathEntry) → position ≡ None
    → 0 ≡ number_of (levels_of (found_in ws hoist (number_in position)) es)
levels_above ws hoist position es none = sym (ap (λ o. number_of (levels_of (found_in ws hoist (number_in o)) es)) none ∙ none_levels es)

-- the tree that is given is that of the set
pub tree_given : {ws : List ℕ} (tree : std.Option (Bor (List ℕ))) (set : NodeSet) {hoist : Bor (List ℕ)} → tree ≡ Some hoist
    → MayHoldTree ws (std.option_copied tree) set → HoldsTree ws hoist.now (hoistable_tree (map (full_path_of (registry_of ws)) set))
tree_given {ws} tree set is = subst (λ t. MayHoldTree ws (std.option_copied t) set) is

-- The levels from the root's number on are the candidate's.
pub tree_levels : {ws hoist : List ℕ} (set : NodeSet) (i : IdentifierId) {number : ℕ} (es : List DependencyPathEntry)
    → HoldsTree ws hoist (hoistable_tree (map (full_path_of (registry_of ws)) set)) → number ≡ number_below ws hoist 0 (identifier_key i)
    → number_of (levels_of (found_in ws hoist number) es) ≡ number_of (non_null_levels (registry_of ws) set i es)
unfolding non_null_levels
tree_levels {ws} {hoist} set i es holds is =
    ap (λ (h : Option (Found HoistablePosition)). number_of (levels_of h es))
    (ap (found_in ws hoist) is ∙ sym (root_number ws hoist (identifier_key i))
    ∙ ap (λ (t : Forest HoistablePosition). find_key hoistable_key t (identifier_key i)) holds.tree)

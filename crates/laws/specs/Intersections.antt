-- "Exactly the intersection" (document 02, E3): a node is in `intersection_of` some sets exactly
-- where it is in each of them, and of no sets there is none.
use Rattle.std.specs.Prelude.{◌≡◌, refl, true}
use mathlib.Core.List.{List, [], ◌∷◌, foldl}
use Rattle.entries.specs.declared.NodeId.{NodeId}
use Rattle.model.specs.ListLaws.{All, all_select}
use Rattle.model.specs.Sets.{NodeSet, contains, intersection}
use Rattle.model.specs.SetLaws.{contains_all, contains_select, all_contained}
use Rattle.model.specs.Propagation.{intersection_of}
use Rattle.laws.specs.Membership.{all_of, all_chosen}

-- a node is in each of the sets
abbrev pub InEach : NodeId → List NodeSet → Type 0
InEach k ss = All (λ s. contains s k ≡ true) ss

from_fold : (s : NodeSet) (ss : List NodeSet) (k : NodeId) → contains (foldl intersection s ss) k ≡ true → InEach k (s ∷ ss)
from_fold s [] k h = (h, tt)
from_fold s (t ∷ ts) k h =
    let in_pair = from_fold (intersection s t) ts k h in
    let in-first = all_select (λ x. contains s x ≡ true) (contains t) s (all_contained s) in
    let in-second = all_chosen (λ x. contains t x ≡ true) (contains t) s
    (all_of (λ x. contains t x ≡ true → contains t x ≡ true) s (λ x m e. e)) in (
      contains_all (λ x. contains s x ≡ true) (intersection s t) k in-first in_pair.0,
      (contains_all (λ x. contains t x ≡ true) (intersection s t) k in-second in_pair.0, in_pair.1),
    )

to_fold : (s : NodeSet) (ss : List NodeSet) (k : NodeId) → InEach k (s ∷ ss) → contains (foldl intersection s ss) k ≡ true
to_fold s [] k a = a.0
to_fold s (t ∷ ts) k a = to_fold (intersection s t) ts k (contains_select (contains t) k s a.1.0 a.0, a.1.1)

pub intersection_in_each : (ss : List NodeSet) (k : NodeId) → contains (intersection_of ss) k ≡ true → InEach k ss
unfolding intersection_of
intersection_in_each [] k h = tt
intersection_in_each (s ∷ ss) k h = from_fold s ss k h

pub each_in_intersection : (s : NodeSet) (ss : List NodeSet) (k : NodeId) → InEach k (s ∷ ss) → contains (intersection_of (s ∷ ss)) k ≡ true
unfolding intersection_of
each_in_intersection s ss k a = to_fold s ss k a

pub none_in_intersection : intersection_of [] ≡ []
unfolding intersection_of
none_in_intersection = refl

-- The paths of a set's members entered one after the other.
use Prim.Native.Nat.{ℕ, ◌<◌}
use Rattle.std.specs.Prelude.{Option, Some, None, OnSome}
use mathlib.Core.Path.{◌≡◌, refl, sym, ap, subst, ◌∙◌}
use mathlib.Core.Bool.{Bool, true, false, not, beq}
use mathlib.Core.List.{List, [], ◌∷◌, ◌++◌, map, map-append}
use lib.ListN.{length}
use Rattle.entries.specs.declared.NodeId.{NodeId}
use Rattle.entries.specs.declared.HoistableAccessType.TheVariants.{NonNull}
use Rattle.entries.specs.Path.{ReactiveScopeDependency}
use Rattle.rows.specs.Members.{members_of}
use Rattle.model.specs.Sets.{NodeSet}
use Rattle.registry.specs.Words.{count_in, registry_of}
use Rattle.registry.proofs.View.{registry_length}
use Rattle.model.specs.ListLaws.{All}
use Rattle.model.specs.Lists.{select}
use Rattle.model.specs.Tests.{decide}
use Rattle.model.specs.Registry.{full_path_of}
use Rattle.model.specs.ReductionLaws.{Members}
use Rattle.model.specs.Tree.{HoistablePosition, hoistable_key, hoistable_positions, hoistable_tree, ordered, first_made, starts_optional}
use Rattle.laws.specs.Flat as Flat
use Rattle.laws.specs.FlatSteps.{enter_all, grow_enter_all}
use Rattle.hoistable.specs.Positions.{as_said, ways_of, positions_to, positions_in, flat_of, HoldsPositions, Entered, EntersPaths, HoldsTree}
use Rattle.hoistable.proofs.Ways.{path_way}

-- One path.

module _ {ws before after : List ℕ} {ahead : Bool} {d : ReactiveScopeDependency} where
  pub path_entered : {r : ℕ} → as_said ahead (starts_optional d.path) ≡ true → Entered ws before after 0 (positions_to d NonNull) r
      → EntersPaths ws before after ahead (d ∷ [])
  path_entered said e = record {
    held = e.held;
    flat = rw said (e.flat ∙ ap (Flat.enter hoistable_key first_made (flat_of ws before) 0 0) (path_way d));
  }

-- the test of the code
pub said_by : (said starts : Bool) {want : Bool} → beq starts said ≡ want → as_said said starts ≡ want
said_by true true e = e
said_by true false e = e
said_by false true e = e
said_by false false e = e

pub path_passed : {ws hoist : List ℕ} {ahead : Bool} {d : ReactiveScopeDependency} → as_said ahead (starts_optional d.path) ≡ false
    → HoldsPositions hoist → EntersPaths ws hoist hoist ahead (d ∷ [])
path_passed said held = record { held = held; flat = rw said }

-- The paths that are left.

ways_first : (xs : List (Flat.Node HoistablePosition)) (ahead : Bool) (d : ReactiveScopeDependency) (ds : List ReactiveScopeDependency)
    → enter_all hoistable_key first_made xs (ways_of ahead (d ∷ ds))
    ≡ enter_all hoistable_key first_made (enter_all hoistable_key first_made xs (ways_of ahead (d ∷ []))) (ways_of ahead ds)
ways_first xs ahead d ds = decide (as_said ahead (starts_optional d.path)) (λ e. rw e) (λ e. rw e)

-- `left` are the members whose paths are left
pub record Entering (ws start set : List ℕ) (ahead : Bool) (hoist : List ℕ) (left : NodeSet) : Type 0 where
  pub held : HoldsPositions hoist
  pub long : length hoist ≡ length start
  pub inside : All (λ k. k.0 < count_in ws) left
  pub on : enter_all hoistable_key first_made (flat_of ws hoist) (ways_of ahead (map (full_path_of (registry_of ws)) left))
      ≡ enter_all hoistable_key first_made (flat_of ws start) (ways_of ahead (map (full_path_of (registry_of ws)) (members_of set)))

pub entering : (ws set : List ℕ) (ahead : Bool) (hoist : List ℕ) (left : NodeSet) → HoldsPositions hoist → Members (registry_of ws) (members_of set)
    → left ≡ members_of set → Entering ws hoist set ahead hoist left
entering ws set ahead hoist left held members all = rw all (record {
  held = held;
  long = refl;
  inside = subst (λ n. All (λ k. k.0 < n) (members_of set)) (registry_length ws) members.inside;
  on = refl;
})

module _ {ws start set : List ℕ} {ahead : Bool} {hoist : List ℕ} {left : NodeSet} (x : Entering ws start set ahead hoist left) where
  pub entering_end : left ≡ [] → EntersPaths ws start hoist ahead (map (full_path_of (registry_of ws)) (members_of set))
  entering_end none = record {
    held = x.held;
    flat = sym (ap (λ ks. enter_all hoistable_key first_made (flat_of ws hoist) (ways_of ahead (map (full_path_of (registry_of ws)) ks))) none) ∙ x.on;
  }

  module _ {k : NodeId} {ks : NodeSet} (next : left ≡ k ∷ ks) where
    all : (k.0 < count_in ws) × All (λ j. j.0 < count_in ws) ks
    all = subst (All (λ j. j.0 < count_in ws)) next x.inside

    pub entering_inside : k.0 < count_in ws
    entering_inside = all.0

    pub entering_more : {after : List ℕ} → length after ≡ length hoist
        → EntersPaths ws hoist after ahead (full_path_of (registry_of ws) k ∷ []) → Entering ws start set ahead after ks
    entering_more long e = record {
      held = e.held;
      long = long ∙ x.long;
      inside = all.1;
      on = ap (λ xs. enter_all hoistable_key first_made xs (ways_of ahead (map (full_path_of (registry_of ws)) ks))) e.flat
          ∙ sym (ways_first (flat_of ws hoist) ahead (full_path_of (registry_of ws) k) (map (full_path_of (registry_of ws)) ks))
          ∙ sym (ap (λ js. enter_all hoistable_key first_made (flat_of ws hoist) (ways_of ahead (map (full_path_of (registry_of ws)) js))) next)
          ∙ x.on;
    }

-- "Paths with an optional first entry ahead, order otherwise kept": the tree of all.

enter_all_append : (xs : List (Flat.Node HoistablePosition)) (us vs : List (List HoistablePosition))
    → enter_all hoistable_key first_made xs (us ++ vs) ≡ enter_all hoistable_key first_made (enter_all hoistable_key first_made xs us) vs
enter_all_append xs [] vs = refl
enter_all_append xs (u ∷ us) vs = enter_all_append (Flat.enter hoistable_key first_made xs 0 0 u) us vs

pub tree_built : {ws none middle : List ℕ} (after : List ℕ) {ds : List ReactiveScopeDependency} → positions_in none ≡ 0
    → EntersPaths ws none middle true ds → (room : Option Unit) → OnSome room (EntersPaths ws middle after false ds)
    → OnSome room (HoldsTree ws after (hoistable_tree ds))
unfolding flat_of hoistable_tree ordered
tree_built after zero first None second = tt
tree_built {ws} {none} after {ds = ds} zero first (Some u) second = record {
  held = second.held;
  tree = ap (λ xs. Flat.grow xs 0 0)
      (second.flat ∙ ap (λ xs. enter_all hoistable_key first_made xs (ways_of false ds)) first.flat
      ∙ sym (enter_all_append (flat_of ws none) (ways_of true ds) (ways_of false ds))
      ∙ ap (enter_all hoistable_key first_made (flat_of ws none))
      (sym (map-append hoistable_positions (select (λ d. starts_optional d.path) ds) (select (λ d. not (starts_optional d.path)) ds))))
      ∙ grow_enter_all hoistable_key first_made (flat_of ws none) (map hoistable_positions (ordered ds))
      ∙ rw zero;
}

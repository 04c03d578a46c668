-- The search for a step's position among the children of its parent, which is then merged or made.
use Prim.Native.Nat.{ℕ, ◌+◌, ◌-◌, ◌≤◌, ◌<◌}
use native.Mathlib.Omega.{arith}
use mathlib.Core.Path.{◌≡◌, sym, ap, subst, ◌∙◌}
use mathlib.Core.Bool.{true, false}
use mathlib.Core.List.{List, [], ◌∷◌}
use Rattle.std.proofs.Common.{Option, Some, None}
use lib.ListN.{length, get_or, set, length-set}
use lib.Seq.{get_or-set_same, get_or-set_other}
use lib.Dec.{eqb}
use Rattle.entries.specs.declared.PropertyAccessType.{PropertyAccessType}
use Rattle.model.specs.Tests.{decide, eqb-true, eqb-false}
use Rattle.model.specs.Tree.{DependencyPosition, merge_position}
use Rattle.laws.specs.Flat.{Node}
use Rattle.tree.specs.Words.{parent_in, child_in, sibling_in, pack, position_as, position_of, node_of, link_of, merged_word}
use Rattle.tree.specs.Tree.{count_in, Apart, Next, Leads, Sized, matches, entered_from, Finds, Misses, Appendable, Appends, Enters}
use Rattle.tree.proofs.Linking.{skip_to, leads_by, linked_same}
use Rattle.tree.proofs.Packed.{
  packed_parent,
  pack_low,
  packed_position,
  position_access,
  merged_node,
  merged_child,
  merged_sibling,
  other_parent,
}
use Rattle.tree.proofs.Entering.{count_kept, entered_past, entered_merged}
use Rattle.tree.proofs.Appending.{vs_count, appended_sized, entered_appended}

-- The link leads to the first child behind `last`, which is the child passed last, or the parent
-- where none was passed.
pub record Seeking (s ws : List ℕ) (step last : ℕ) (link : Option ℕ) : Type 0 where
  pub sized : Sized ws
  pub behind : parent_in step ≤ last
  pub within : last ≤ count_in ws
  pub own : parent_in step < last → parent_in (get_or ws (last - 1) 0) ≡ parent_in step
  pub next : Leads ws last (parent_in step) link
  pub is : (ss : List DependencyPosition) → entered_from s ws (parent_in step) (parent_in step) (position_of s step ∷ ss)
      ≡ entered_from s ws last (parent_in step) (position_of s step ∷ ss)

module _ {s ws : List ℕ} {step last : ℕ} {link : Option ℕ} (x : Seeking s ws step last link) where
  abbrev q : DependencyPosition
  q = position_of s step

  -- positions with another parent are passed
  to_place : (l : ℕ) → last ≤ l → l ≤ count_in ws → Apart ws (parent_in step) last l → (ss : List DependencyPosition)
      → entered_from s ws (parent_in step) (parent_in step) (q ∷ ss) ≡ entered_from s ws l (parent_in step) (q ∷ ss)
  to_place l h k apart ss =
      x.is ss
      ∙ skip_to ws (parent_in step) (λ i. entered_from s ws i (parent_in step) (q ∷ ss))
      (λ j m ne. entered_past s ws j (parent_in step) q m (other_parent s (get_or ws j 0) step ne) ss) last l h k apart

-- The link leads to a child.
module _ {s ws : List ℕ} {step last number : ℕ} (x : Seeking s ws step last (Some number)) where
  child : Next ws last (parent_in step) number
  child = x.next.1

  some : 0 < number
  some = x.next.0

  here : number - 1 < count_in ws
  here = let w = child.within in omega (arith, some)

  pub seeking_below : parent_in (get_or ws (number - 1) 0) ≡ parent_in step
  seeking_below = child.own some

  -- it is passed, and its link leads on
  pub seeking_past : (on : Option ℕ) → matches (node_of s (get_or ws (number - 1) 0)) (parent_in step) (position_of s step) ≡ false
      → on ≡ link_of (sibling_in (get_or ws (number - 1) 0)) → Seeking s ws step number on
  seeking_past on t is =
      let b = x.behind in
      let h = child.behind some in
      let n = some in
      let place : number - 1 + 1 ≡ number = omega arith in
      record {
        sized = x.sized;
        behind = omega arith;
        within = child.within;
        own = λ l. seeking_below;
        next = leads_by (sibling_in (get_or ws (number - 1) 0)) is (subst (λ n. Next ws n (parent_in step) (sibling_in (get_or ws (number - 1) 0))) place
            (subst (λ p. Next ws (number - 1 + 1) p (sibling_in (get_or ws (number - 1) 0))) seeking_below (x.sized.linked.siblings (number - 1) here)));
        is = λ ss. to_place x (number - 1) (omega arith) (omega (arith, here)) (child.first some) ss
            ∙ entered_past s ws (number - 1) (parent_in step) (position_of s step) here t ss
            ∙ ap (λ i. entered_from s ws i (parent_in step) (position_of s step ∷ ss)) place;
      }

  pub seeking_found : matches (node_of s (get_or ws (number - 1) 0)) (parent_in step) (position_of s step) ≡ true → Finds s ws step number
  seeking_found t =
      let h = child.behind some in
      record {
        some = some;
        within = child.within;
        found = t;
        there = to_place x (number - 1) (omega arith) (omega (arith, here)) (child.first some);
      }

pub seeking_over : {s ws : List ℕ} {step last : ℕ} → Seeking s ws step last None → Misses s ws step last
seeking_over {s} {ws} {step} x = record {
  none = to_place x (count_in ws) x.within (omega arith) (x.next.none (omega arith));
  last = record { behind = x.behind; within = x.within; own = x.own; end = x.next.none (omega arith) };
}

-- The step's position is merged where it was found, or made.
module _ {s ws : List ℕ} (parent place : ℕ) (access : PropertyAccessType) (step : ℕ) (sized : Sized ws) (p< : parent < 65536)
    (q< : place < 65536) (packed : step ≡ pack parent place access) where
  is_step : {vs : List ℕ} {k : ℕ} → Enters s ws vs (parent_in step) (position_of s step) k → Enters s ws vs parent (position_as s parent place access) k
  is_step {vs} {k} e =
      let parent_is : parent_in step ≡ parent = ap parent_in packed ∙ packed_parent parent place access p< q< in
      let position-is : (position_of s step) ≡ position_as s parent place access = ap (position_of s) packed ∙ packed_position parent place access p< q< s in
      subst (λ p. Enters s ws vs p (position_as s parent place access) k) parent_is
      (subst (λ (r : DependencyPosition). Enters s ws vs (parent_in step) r k) position-is e)

  module _ {number : ℕ} (x : Finds s ws step number) where
    abbrev i : ℕ
    i = number - 1

    abbrev merged : List ℕ
    merged = set ws i (merged_word (get_or ws i 0) access)

    inside : i < count_in ws
    inside = let w = x.within in let n = x.some in omega arith

    merged_count : count_in merged ≡ count_in ws
    merged_count = let h = inside in let r = sized.room in count_kept ws i _ (omega arith)

    -- a field that merging keeps
    field_kept : (f : ℕ → ℕ) → f (merged_word (get_or ws i 0) access) ≡ f (get_or ws i 0) → (j : ℕ) → j < count_in ws
        → f (get_or merged j 0) ≡ f (get_or ws j 0)
    field_kept f e j h =
        let r = sized.room in
        decide (eqb i j)
        (λ t.
        let same = eqb-true i j t in
        subst (λ k. f (get_or merged k 0) ≡ f (get_or ws k 0)) same (ap f (get_or-set_same ws i _ 0 (omega (arith, inside))) ∙ e))
        (λ t. ap f (get_or-set_other ws i j _ 0 (λ z. eqb-false i j t (sym z))))

    merged_sized : Sized merged
    merged_sized =
        let w = get_or ws i 0 in
        record {
          short = rw length-set sized.short;
          room = rw (merged_count, length-set) sized.room;
          linked = linked_same ws merged merged_count
              (field_kept parent_in (ap (λ (y : Node DependencyPosition). y.parent) (merged_node w access [])))
              (field_kept child_in (merged_child w access)) (field_kept sibling_in (merged_sibling w access)) sized.linked;
        }

    pub enters_merged : (vs : List ℕ) → vs ≡ merged → Enters s ws vs parent (position_as s parent place access) number
    enters_merged vs stored =
        let within = x.within in
        let some = x.some in
        let next : i + 1 ≡ number = omega arith in
        let told : (position_of s step).access ≡ access =
        ap (λ (r : DependencyPosition). r.access) (ap (position_of s) packed ∙ packed_position parent place access p< q< s)
        ∙ position_access s parent place access in
        let is : node_of s (merged_word (get_or ws i 0) access) ≡ record {
          parent = parent_in (get_or ws i 0);
          here = merge_position (position_of s (get_or ws i 0)) (position_of s step);
        } =
        rw told (merged_node (get_or ws i 0) access s) in
        let count : count_in vs ≡ count_in ws = ap count_in stored ∙ merged_count in
        is_step (record {
          sized = subst Sized (sym stored) merged_sized;
          few = omega arith;
          some = some;
          within = omega arith;
          is = λ ss. x.there ss
              ∙ subst (λ k. entered_from s ws i (parent_in step) (position_of s step ∷ ss) ≡ entered_from s vs k k ss) next
              (subst (λ us. entered_from s ws i (parent_in step) (position_of s step ∷ ss) ≡ entered_from s us (i + 1) (i + 1) ss) (sym stored)
              (entered_merged s ws i (parent_in step) (position_of s step) inside sized.room (merged_word (get_or ws i 0) access) is x.found ss));
        })

  module _ {last : ℕ} (room : count_in ws + 1 < length ws) (x : Misses s ws step last) where
    pub appendable : Appendable ws last step
    appendable = record { sized = sized; room = room; last = x.last; low = rw packed (pack_low parent place access p< q<) }

    pub enters_made : (vs : List ℕ) (k : ℕ) → Appends ws vs last step k → Enters s ws vs parent (position_as s parent place access) k
    enters_made vs k a =
        let count : count_in vs ≡ count_in ws + 1 = ap count_in a.is ∙ vs_count ws last step appendable in
        let is_last = a.last in
        is_step (record {
          sized = subst Sized (sym a.is) (appended_sized ws last step appendable);
          few = omega arith;
          some = omega arith;
          within = omega arith;
          is = λ ss. x.none ss
              ∙ subst (λ n. entered_from s ws (count_in ws) (parent_in step) (position_of s step ∷ ss) ≡ entered_from s vs n n ss) (sym a.last)
              (subst (λ us. entered_from s ws (count_in ws) (parent_in step) (position_of s step ∷ ss)
              ≡ entered_from s us (count_in ws + 1) (count_in ws + 1) ss)
              (sym a.is)
              (entered_appended ws last step appendable s ss));
        })

-- The words to which a step's position is appended: they are linked, and it stands behind all.
use Prim.Native.Nat.{ℕ, ◌+◌, ◌*◌, ◌-◌, ◌<◌}
use native.Mathlib.Omega.{arith}
use mathlib.Core.Path.{◌≡◌, sym, ap, ◌∙◌}
use mathlib.Core.List.{List, [], ◌∷◌}
use lib.ListN.{length, get_or, set, length-set}
use lib.Seq.{get_or-set_same, get_or-set_other}
use lib.Dec.{eqb}
use Rattle.model.specs.Tests.{decide, eqb-true, eqb-false, eqb_equal, eqb_apart}
use Rattle.model.specs.Tree.{DependencyPosition}
use Rattle.laws.specs.Flat.{Node}
use Rattle.tree.specs.Words.{parent_in, child_in, sibling_in, position_of, node_of, link_in, linked_word}
use Rattle.tree.specs.Tree.{count_in, Linked, Sized, entered_from, linked_words, Appendable}
use Rattle.tree.proofs.Linking.{no_child, no_sibling, linked_more}
use Rattle.tree.proofs.Packed.{linked_node, child_set, sibling_beside, sibling_set, child_beside}
use Rattle.tree.proofs.Entering.{count_stored, entered_made}

module _ (ws : List ℕ) (l step : ℕ) (a : Appendable ws l step) where
  abbrev end : ℕ
  end = count_in ws

  abbrev p : ℕ
  p = parent_in step

  abbrev us : List ℕ
  us = linked_words ws p l (end + 1)

  abbrev vs : List ℕ
  vs = set (set us end step) (length ws - 1) (end + 1)

  us_long : length us ≡ length ws
  unfolding linked_words
  us_long = decide (eqb l 0) (λ t. rw t) (λ t. rw t (length-set ws (l - 1) _))

  us_at : (j : ℕ) → j + 1 ≡ l → get_or us j 0 ≡ linked_word (eqb l p) (get_or ws j 0) (end + 1)
  unfolding linked_words
  us_at j e =
      let room = a.room in
      let within = a.last.within in
      let place : l - 1 ≡ j = omega arith in
      rw (eqb_apart l 0 (λ z. omega arith), place) (get_or-set_same ws j (linked_word (eqb l p) (get_or ws j 0) (end + 1)) 0 (omega arith))

  us_other : (j : ℕ) → ¬ (j + 1 ≡ l) → get_or us j 0 ≡ get_or ws j 0
  unfolding linked_words
  us_other j ne =
      decide (eqb l 0) (λ t. rw t)
      (λ t. let some = eqb-false l 0 t in rw t (get_or-set_other ws (l - 1) j _ 0 (λ e. ne (omega (arith, some)))))

  vs_old : (j : ℕ) → j < end → get_or vs j 0 ≡ get_or us j 0
  vs_old j h =
      let room = a.room in
      get_or-set_other (set us end step) (length ws - 1) j (end + 1) 0 (λ e. omega arith) ∙ get_or-set_other us end j step 0 (λ e. omega arith)

  vs_new : get_or vs end 0 ≡ step
  vs_new =
      let room = a.room in
      let long = us_long in
      get_or-set_other (set us end step) (length ws - 1) end (end + 1) 0 (λ e. omega arith) ∙ get_or-set_same us end step 0 (omega arith)

  pub vs_count : count_in vs ≡ end + 1
  vs_count =
      let room = a.room in
      let long = length-set us end step ∙ us_long in
      count_stored (set us end step) (length ws - 1) (end + 1) (omega arith)

  vs_long : length vs ≡ length ws
  vs_long = length-set (set us end step) (length ws - 1) (end + 1) ∙ length-set us end step ∙ us_long

  node_old : (s : List ℕ) (j : ℕ) → j < end → node_of s (get_or vs j 0) ≡ node_of s (get_or ws j 0)
  node_old s j h =
      ap (node_of s) (vs_old j h)
      ∙ decide (eqb (j + 1) l)
      (λ t. ap (node_of s) (us_at j (eqb-true (j + 1) l t)) ∙ linked_node s (eqb l p) (get_or ws j 0) (end + 1))
      (λ t. ap (node_of s) (us_other j (eqb-false (j + 1) l t)))

  parent_old : (j : ℕ) → j < end → parent_in (get_or vs j 0) ≡ parent_in (get_or ws j 0)
  parent_old j h = ap (λ (x : Node DependencyPosition). x.parent) (node_old [] j h)

  -- the word of the position behind which it is linked
  module _ (j : ℕ) (h : j < end) (is : j + 1 ≡ l) where
    place : l - 1 ≡ j
    place = omega arith

    as_child : l ≡ p → get_or vs j 0 ≡ get_or ws j 0 + (end + 1) * 17179869184
    as_child e = vs_old j h ∙ us_at j is ∙ rw (eqb_equal l p e)

    as_sibling : ¬ (l ≡ p) → get_or vs j 0 ≡ get_or ws j 0 + (end + 1) * 35184372088832
    as_sibling ne = vs_old j h ∙ us_at j is ∙ rw (eqb_apart l p ne)

    child_free : l ≡ p → child_in (get_or ws j 0) ≡ 0
    child_free e = ap (λ i. child_in (get_or ws i 0)) (sym place) ∙ no_child ws a.sized.linked p l a.last (omega arith) e

    sibling_free : ¬ (l ≡ p) → sibling_in (get_or ws j 0) ≡ 0
    sibling_free ne = ap (λ i. sibling_in (get_or ws i 0)) (sym place) ∙ no_sibling ws a.sized.linked p l a.last (omega arith) ne

  kept_or : {A : Type 0} (f : ℕ → A) (j : ℕ) → j < end → (l ≡ p → j + 1 ≡ l → f (get_or vs j 0) ≡ f (get_or ws j 0))
      → (¬ (l ≡ p) → j + 1 ≡ l → f (get_or vs j 0) ≡ f (get_or ws j 0)) → f (get_or vs j 0) ≡ f (get_or ws j 0)
  kept_or f j h child sibling =
      decide (eqb (j + 1) l)
      (λ t. let is = eqb-true (j + 1) l t in decide (eqb l p) (λ u. child (eqb-true l p u) is) (λ u. sibling (eqb-false l p u) is))
      (λ t. ap f (vs_old j h ∙ us_other j (eqb-false (j + 1) l t)))

  vs_linked : Linked vs
  vs_linked =
      let room = a.room in
      let short = a.sized.short in
      let low = a.low in
      linked_more ws vs a.sized.linked p l a.last vs_count parent_old (ap parent_in vs_new)
      (ap child_in vs_new ∙ omega arith) (ap sibling_in vs_new ∙ omega arith)
      (λ j h ne. kept_or child_in j h (λ e is. absurd (ne (is, e))) (λ e is. ap child_in (as_sibling j h is e) ∙ child_beside (get_or ws j 0) (end + 1)))
      (λ j h is e. ap child_in (as_child j h is e) ∙ child_set (get_or ws j 0) (end + 1) (child_free j h is e) (omega arith))
      (λ j h ne. kept_or sibling_in j h
      (λ e is. ap sibling_in (as_child j h is e) ∙ sibling_beside (get_or ws j 0) (end + 1) (child_free j h is e) (omega arith))
      (λ e is. absurd (ne (is, e))))
      (λ j h is e. ap sibling_in (as_sibling j h is e) ∙ sibling_set (get_or ws j 0) (end + 1) (sibling_free j h is e))

  pub appended_sized : Sized vs
  appended_sized =
      let room = a.room in
      record {
        short = rw vs_long a.sized.short;
        room = rw (vs_count, vs_long) room;
        linked = vs_linked;
      }

  -- what the code asks where it links
  pub link_free : 0 < l → link_in (eqb l p) (get_or ws (l - 1) 0) ≡ 0
  link_free some =
      decide (eqb l p)
      (λ t. rw t (no_child ws a.sized.linked p l a.last some (eqb-true l p t)))
      (λ t. rw t (no_sibling ws a.sized.linked p l a.last some (eqb-false l p t)))

  pub entered_appended : (s : List ℕ) (ss : List DependencyPosition)
      → entered_from s ws end p (position_of s step ∷ ss) ≡ entered_from s vs (end + 1) (end + 1) ss
  entered_appended s = entered_made s ws vs p (position_of s step) vs_count (node_old s) (ap (node_of s) vs_new)

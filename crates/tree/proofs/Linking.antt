-- The links of the positions: kept by merging, and by a position more that is linked behind the
-- last child of its parent.
use Prim.Native.Nat.{ℕ, zero, suc, ◌+◌, ◌-◌, ◌≤◌, ◌<◌}
use native.Mathlib.Omega.{arith}
use native.Mathlib.Nat.{add-zero}
use mathlib.Core.Path.{◌≡◌, sym, ap, subst, ◌∙◌}
use mathlib.Core.List.{List}
use Rattle.std.proofs.Common.{Option}
use lib.ListN.{get_or}
use borrow.Author.Tests.{leb-true, leb-false}
use lib.Dec.{eqb, leb}
use Rattle.model.specs.Tests.{decide, eqb-true, eqb-false}
use Rattle.tree.specs.Words.{parent_in, child_in, sibling_in, link_of}
use Rattle.tree.specs.Tree.{count_in, Apart, Next, Leads, Linked, LastChild}

-- What does not change at a position that has another parent is the same at the first position
-- that has this one.
module _ {A : Type 0} (ws : List ℕ) (p : ℕ) (f : ℕ → A) (step : (j : ℕ) → j < count_in ws → ¬ (parent_in (get_or ws j 0) ≡ p) → f j ≡ f (j + 1)) where
  skip : (n i : ℕ) → i + n ≤ count_in ws → Apart ws p i (i + n) → f i ≡ f (i + n)
  skip zero i h a = ap f (sym (add-zero i))
  skip (suc n) i h a =
      let e : i + 1 + n ≡ i + suc n = omega arith in
      step i (omega arith) (a i (omega arith) (omega arith)) ∙ skip n (i + 1) (omega arith) (λ j l m. a j (omega arith) (omega arith)) ∙ ap f e

  pub skip_to : (i l : ℕ) → i ≤ l → l ≤ count_in ws → Apart ws p i l → f i ≡ f l
  skip_to i l h k a =
      let e : i + (l - i) ≡ l = omega arith in
      skip (l - i) i (omega arith) (λ j x y. a j x (omega arith)) ∙ ap f e

-- words that say the same of each position
module _ (ws vs : List ℕ) (count : count_in vs ≡ count_in ws) (parent : (j : ℕ) → j < count_in ws → parent_in (get_or vs j 0) ≡ parent_in (get_or ws j 0)) where
  next_same : {i p number : ℕ} → Next ws i p number → Next vs i p number
  next_same {number = number} x =
      let within = x.within in
      record {
        within = omega arith;
        behind = x.behind;
        own = λ h. parent (number - 1) (omega arith) ∙ x.own h;
        first = λ h j l m e. x.first h j l m (sym (parent j (omega arith)) ∙ e);
        none = λ h j l m e. x.none h j l (omega arith) (sym (parent j (omega arith)) ∙ e);
      }

  pub linked_same : ((j : ℕ) → j < count_in ws → child_in (get_or vs j 0) ≡ child_in (get_or ws j 0))
      → ((j : ℕ) → j < count_in ws → sibling_in (get_or vs j 0) ≡ sibling_in (get_or ws j 0)) → Linked ws → Linked vs
  linked_same child sibling x = record {
    parents = λ j l. let m : j < count_in ws = omega arith in rw (parent j m) (x.parents j m);
    children = λ j l. let m : j < count_in ws = omega arith in rw (child j m) (next_same (x.children j m));
    siblings = λ j l. let m : j < count_in ws = omega arith in rw (parent j m, sibling j m) (next_same (x.siblings j m));
  }

-- Where no child of p stands behind l, which is p or a child of it, the link of l is 0.
module _ (ws : List ℕ) (linked : Linked ws) (p l : ℕ) (x : LastChild ws p l) (some : 0 < l) where
  no_next : {q e : ℕ} → q ≡ p → Next ws l q e → e ≡ 0
  no_next {q} {e} same n =
      decide (eqb e 0) (λ t. eqb-true e 0 t)
      (λ t.
      let ne = eqb-false e 0 t in
      let within = n.within in
      let behind = n.behind (omega (arith, ne)) in
      absurd (x.end (e - 1) (omega arith) (omega arith) (n.own (omega arith) ∙ same)))

  back : l - 1 + 1 ≡ l
  back = omega arith

  inside : l - 1 < count_in ws
  inside = let w = x.within in omega arith

  pub no_child : l ≡ p → child_in (get_or ws (l - 1) 0) ≡ 0
  no_child e = no_next e (subst (λ k. Next ws k k (child_in (get_or ws (l - 1) 0))) back (linked.children (l - 1) inside))

  pub no_sibling : ¬ (l ≡ p) → sibling_in (get_or ws (l - 1) 0) ≡ 0
  no_sibling ne =
      let b = x.behind in
      no_next (x.own (omega (arith, ne)))
      (subst (λ k. Next ws k (parent_in (get_or ws (l - 1) 0)) (sibling_in (get_or ws (l - 1) 0))) back (linked.siblings (l - 1) inside))

-- One position more, below p, which is linked behind number l.
module _ (ws vs : List ℕ) (linked : Linked ws) (p l : ℕ) (x : LastChild ws p l) (count : count_in vs ≡ count_in ws + 1)
    (old : (j : ℕ) → j < count_in ws → parent_in (get_or vs j 0) ≡ parent_in (get_or ws j 0)) (new : parent_in (get_or vs (count_in ws) 0) ≡ p) where
  abbrev n : ℕ
  n = count_in ws

  -- what leads to a position still does, and where there was none there still is none with another
  -- parent
  next_kept : {i q e : ℕ} → (q ≡ p → 0 < e) → Next ws i q e → Next vs i q e
  next_kept {i} {q} {e} h y =
      let within = y.within in
      record {
        within = omega arith;
        behind = y.behind;
        own = λ k. old (e - 1) (omega arith) ∙ y.own k;
        first = λ k j a b t. y.first k j a b (sym (old j (omega arith)) ∙ t);
        none = λ k j a b t. decide (eqb j n)
            (λ here. let some = h (sym t ∙ ap (λ i. parent_in (get_or vs i 0)) (eqb-true j n here) ∙ new) in absurd (omega arith))
            (λ other. let ne = eqb-false j n other in y.none k j a (omega (arith, ne)) (sym (old j (omega (arith, ne))) ∙ t));
      }

  -- where there was none there is the new one
  next_new : {i q e : ℕ} → q ≡ p → e ≡ n + 1 → i ≤ n → Apart ws p i n → Next vs i q e
  next_new {i} {q} {e} same is h a =
      let place : e - 1 ≡ n = omega arith in
      record {
        within = omega arith;
        behind = λ k. omega arith;
        own = λ k. ap (λ j. parent_in (get_or vs j 0)) place ∙ new ∙ sym same;
        first = λ k j b c t. a j b (omega arith) (sym (old j (omega arith)) ∙ t ∙ same);
        none = λ k. absurd (omega arith);
      }

  -- behind it there is none
  next_none : {q e : ℕ} → e ≡ 0 → Next vs (n + 1) q e
  next_none z = record {
    within = omega arith;
    behind = λ k. absurd (omega arith);
    own = λ k. absurd (omega arith);
    first = λ k. absurd (omega arith);
    none = λ k j a b. absurd (omega arith);
  }

  module _ (first : child_in (get_or vs n 0) ≡ 0) (next : sibling_in (get_or vs n 0) ≡ 0)
      (child-kept : (j : ℕ) → j < n → ¬ (j + 1 ≡ l × l ≡ p) → child_in (get_or vs j 0) ≡ child_in (get_or ws j 0))
      (child-new : (j : ℕ) → j < n → j + 1 ≡ l → l ≡ p → child_in (get_or vs j 0) ≡ n + 1)
      (sibling-kept : (j : ℕ) → j < n → ¬ (j + 1 ≡ l × ¬ (l ≡ p)) → sibling_in (get_or vs j 0) ≡ sibling_in (get_or ws j 0))
      (sibling-new : (j : ℕ) → j < n → j + 1 ≡ l → ¬ (l ≡ p) → sibling_in (get_or vs j 0) ≡ n + 1) where
    -- the first child of p is not changed where p has one
    child_there : (j : ℕ) → j < n → j + 1 ≡ p → ¬ (l ≡ p) → 0 < child_in (get_or ws j 0)
    child_there j h is other =
        let b = x.behind in
        let w = x.within in
        decide (eqb (child_in (get_or ws j 0)) 0)
        (λ t.
        let z = eqb-true (child_in (get_or ws j 0)) 0 t in
        absurd ((linked.children j h).none (omega arith) (l - 1) (omega (arith, other)) (omega (arith, other)) (x.own (omega (arith, other)) ∙ sym is)))
        (λ t. let ne = eqb-false (child_in (get_or ws j 0)) 0 t in omega (arith, ne))

    children_more : (j : ℕ) → j < n → Next vs (j + 1) (j + 1) (child_in (get_or vs j 0))
    children_more j h =
        decide (eqb (j + 1) p)
        (λ t.
        let is = eqb-true (j + 1) p t in
        decide (eqb l p)
        (λ u.
        let same = eqb-true l p u in
        next_new is (child-new j h (omega arith) same) (omega arith) (λ k a b. x.end k (omega arith) b))
        (λ u.
        let other = eqb-false l p u in
        rw (child-kept j h (λ e. other e.1)) (next_kept (λ e. child_there j h is other) (linked.children j h))))
        (λ t.
        let apart = eqb-false (j + 1) p t in
        rw (child-kept j h (λ e. apart (e.0 ∙ e.1))) (next_kept (λ e. absurd (apart e)) (linked.children j h)))

    -- nor is the next sibling of a child of p that is not the last
    sibling_there : (j : ℕ) → j < n → ¬ (j + 1 ≡ l × ¬ (l ≡ p)) → parent_in (get_or ws j 0) ≡ p → 0 < sibling_in (get_or ws j 0)
    sibling_there j h ne is =
        let behind = linked.parents j h in
        let b = x.behind in
        let w = x.within in
        decide (leb l j)
        (λ t. let m = leb-true l j t in absurd (x.end j m h is))
        (λ t.
        let m = leb-false l j t in
        decide (eqb (j + 1) l)
        (λ u. let e = eqb-true (j + 1) l u in absurd (ne (e, λ f. omega arith)))
        (λ u.
        let more = eqb-false (j + 1) l u in
        decide (eqb (sibling_in (get_or ws j 0)) 0)
        (λ v.
        let z = eqb-true (sibling_in (get_or ws j 0)) 0 v in
        absurd ((linked.siblings j h).none (omega arith) (l - 1) (omega (arith, more)) (omega arith) (x.own (omega arith) ∙ sym is)))
        (λ v. let some = eqb-false (sibling_in (get_or ws j 0)) 0 v in omega (arith, some))))

    siblings_more : (j : ℕ) → j < n → Next vs (j + 1) (parent_in (get_or vs j 0)) (sibling_in (get_or vs j 0))
    siblings_more j h =
        rw (old j h)
        (decide (eqb (j + 1) l)
        (λ t.
        let is = eqb-true (j + 1) l t in
        decide (eqb l p)
        (λ u.
        let kept : ¬ (j + 1 ≡ l × ¬ (l ≡ p)) = λ e. e.1 (eqb-true l p u) in
        rw (sibling-kept j h kept) (next_kept (sibling_there j h kept) (linked.siblings j h)))
        (λ u.
        let other = eqb-false l p u in
        let b = x.behind in
        let place : l - 1 ≡ j = omega arith in
        next_new (ap (λ i. parent_in (get_or ws i 0)) (sym place) ∙ x.own (omega (arith, other))) (sibling-new j h is other) (omega arith)
        (λ k a c. x.end k (omega arith) c)))
        (λ t.
        let kept : ¬ (j + 1 ≡ l × ¬ (l ≡ p)) = λ e. eqb-false (j + 1) l t e.0 in
        rw (sibling-kept j h kept) (next_kept (sibling_there j h kept) (linked.siblings j h))))

    at_new : (P : ℕ → Type 0) → ((j : ℕ) → j < n → P j) → P n → (j : ℕ) → j < count_in vs → P j
    at_new P f z j h = decide (eqb j n) (λ t. subst P (sym (eqb-true j n t)) z) (λ t. let ne = eqb-false j n t in f j (omega (arith, ne)))

    pub linked_more : Linked vs
    linked_more =
        let b = x.behind in
        let w = x.within in
        record {
          parents = at_new (λ j. parent_in (get_or vs j 0) ≤ j) (λ j h. rw (old j h) (linked.parents j h)) (rw new (omega arith));
          children = at_new (λ j. Next vs (j + 1) (j + 1) (child_in (get_or vs j 0))) children_more (next_none first);
          siblings = at_new (λ j. Next vs (j + 1) (parent_in (get_or vs j 0)) (sibling_in (get_or vs j 0))) siblings_more (next_none next);
        }

-- The first child of a number, as the code finds it.
module _ (ws : List ℕ) (linked : Linked ws) (parent : ℕ) where
  pub first_root : parent ≡ 0 → ¬ (count_in ws ≡ 0) → Next ws parent parent 1
  first_root z some =
      let h : 0 < count_in ws = omega (arith, some) in
      let top = linked.parents 0 h in
      record {
        within = omega arith;
        behind = λ _. omega arith;
        own = λ _. omega arith;
        first = λ _ j a b. absurd (omega arith);
        none = λ k. absurd (omega arith);
      }

  pub first_link : ¬ (parent ≡ 0) → parent ≤ count_in ws → (link : ℕ) → link ≡ child_in (get_or ws (parent - 1) 0) → Next ws parent parent link
  first_link ne h link is =
      let place : parent - 1 + 1 ≡ parent = omega (arith, ne) in
      rw is (subst (λ n. Next ws n n (child_in (get_or ws (parent - 1) 0))) place (linked.children (parent - 1) (omega (arith, ne))))

-- the link that says the number leads there
pub leads : {ws : List ℕ} {i p : ℕ} (number : ℕ) → Next ws i p number → Leads ws i p (link_of number)
leads zero x = x
leads (suc n) x = (omega arith, x)

pub leads_by : {ws : List ℕ} {i p : ℕ} {link : Option ℕ} (number : ℕ) → link ≡ link_of number → Next ws i p number → Leads ws i p link
leads_by {ws} {i} {p} number e x = subst (λ (l : Option ℕ). Leads ws i p l) (sym e) (leads number x)

-- Selections from one ascending list of nodes: what they contain, and what each operation on sets
-- makes of them.
use Prim.Native.Nat.{ℕ, suc, ◌<◌}
use native.Mathlib.Omega.{arith}
use mathlib.Core.Bool.{Bool, true, false, ◌&&◌, ◌||◌, not, cond, and-true, and-false, or-false, or_assoc, or-true}
use mathlib.Core.Path.{◌≡◌, refl, sym, ◌∙◌, ap}
use mathlib.Core.List.{[], ◌∷◌}
use borrow.Author.Tests.{lt-ltb, le-ltb, eq-eqb, ne_eqb, eqb-true, eqb-false}
use Rattle.entries.specs.declared.NodeId.{NodeId}
use Rattle.model.specs.Lists.{select}
use Rattle.model.specs.ListLaws.{All, all_map, all_select, select_same}
use Rattle.model.specs.Sets.{NodeSet, same_node, contains, insert, remove, union, intersection}
use Rattle.model.specs.SetLaws.{From, same_node_lem, from_above, select_from, contains_all, all_contained}
use Rattle.model.specs.Tests.{decide, never}

same_swap : (a b : NodeId) → same_node a b ≡ same_node b a
same_swap a b =
    decide (same_node a b) (λ e. rw (eqb-true a.0 b.0 e))
    (λ e. e ∙ sym (ne_eqb b.0 a.0 (λ h. eqb-false a.0 b.0 e (sym h))))

select_twice : (p q : NodeId → Bool) (s : NodeSet) → select q (select p s) ≡ select (λ x. p x && q x) s
select_twice p q [] = refl
select_twice p q (x ∷ xs) =
    decide (p x) (λ e. rw e (ap (λ (r : NodeSet). cond (q x) (x ∷ r) r) (select_twice p q xs))) (λ e. rw e (select_twice p q xs))

-- what a selection contains

contains_chosen : (b : Bool) (x k : NodeId) (r : NodeSet) → contains (cond b (x ∷ r) r) k ≡ (b && same_node x k) || contains r k
contains_chosen true x k r = refl
contains_chosen false x k r = refl

pub contains_selected : (p : NodeId → Bool) (s : NodeSet) (k : NodeId) → contains (select p s) k ≡ p k && contains s k
contains_selected p [] k = sym (and-false (p k))
contains_selected p (x ∷ xs) k =
    contains_chosen (p x) x k (select p xs) ∙ rw (contains_selected p xs k)
    (decide (same_node x k) (λ e. rw (e, same_node_lem x k e) (here (p k) (contains xs k))) (λ e. rw e (later (p x) (p k && contains xs k))))
  where
    here : (b c : Bool) → (b && true) || (b && c) ≡ b && (true || c)
    here true c = refl
    here false c = refl

    later : (b c : Bool) → (b && false) || c ≡ c
    later true c = refl
    later false c = refl

-- Of a node of the list, a selection contains what its test takes. So beside another test, to ask
-- for it is to ask the test.
beside : (f : Bool → Bool → Bool) (p q : NodeId → Bool) (s : NodeSet)
    → select (λ x. f (p x) (contains (select q s) x)) s ≡ select (λ x. f (p x) (q x)) s
beside f p q s =
    select_same (λ x. f (p x) (contains (select q s) x)) (λ x. f (p x) (q x)) s
    (all_map (λ x. contains s x ≡ true) (λ x. f (p x) (contains (select q s) x) ≡ f (p x) (q x))
    (λ x h. ap (f (p x)) (contains_selected q s x ∙ rw h (and-true (q x)))) s (all_contained s))

-- the operations on selections

pub remove_selected : (p : NodeId → Bool) (s : NodeSet) (k : NodeId) → remove k (select p s) ≡ select (λ x. p x && not (same_node x k)) s
remove_selected p s k = select_twice p (λ x. not (same_node x k)) s

pub intersection_selected : (p q : NodeId → Bool) (s : NodeSet) → intersection (select p s) (select q s) ≡ select (λ x. p x && q x) s
intersection_selected p q s = select_twice p (contains (select q s)) s ∙ beside (λ a b. a && b) p q s

insert_low : (b : ℕ) (k : NodeId) (s : NodeSet) → From b s → k.0 < b → insert k s ≡ k ∷ s
insert_low b k [] f l = refl
insert_low b k (x ∷ xs) f l = let le = f.0 in rw (lt-ltb k.0 x.0 (omega arith))

-- k behind x goes behind it, whether x is chosen or not
insert_past : (b : Bool) (k x : NodeId) (r : NodeSet) → x.0 < k.0 → insert k (cond b (x ∷ r) r) ≡ cond b (x ∷ insert k r) (insert k r)
insert_past true k x r l = rw (le-ltb k.0 x.0 (omega arith), ne_eqb x.0 k.0 (λ e. omega arith))
insert_past false k x r l = refl

-- x itself stands in front of what is above it, whether it was chosen or not
insert_same : (b : Bool) (x : NodeId) (r : NodeSet) → From (suc x.0) r → insert x (cond b (x ∷ r) r) ≡ x ∷ r
insert_same true x r f = rw (le-ltb x.0 x.0 (omega arith), eq-eqb x.0 x.0 refl)
insert_same false x r f = insert_low (suc x.0) x r f (omega arith)

pub insert_selected : (p : NodeId → Bool) (b : ℕ) (s : NodeSet) (k : NodeId) → From b s → contains s k ≡ true
    → insert k (select p s) ≡ select (λ x. p x || same_node x k) s
insert_selected p b [] k f h = never h refl
insert_selected p b (x ∷ xs) k f h = decide (same_node x k) here (λ e. later e (insert_selected p (suc x.0) xs k f.1 (rw e at h)))
  where
    above : All (λ y. x.0 < y.0) xs
    above = from_above (suc x.0) xs f.1

    others : x ≡ k → All (λ y. p y ≡ p y || same_node y k) xs
    others same =
        let n = ap (λ (m : NodeId). m.0) same in
        all_map (λ y. x.0 < y.0) (λ y. p y ≡ p y || same_node y k) (λ y l. rw (ne_eqb y.0 k.0 (λ d. omega arith), or-false (p y))) xs above

    here : same_node x k ≡ true → insert k (select p (x ∷ xs)) ≡ select (λ y. p y || same_node y k) (x ∷ xs)
    here e =
        let same = same_node_lem x k e in
        ap (λ (n : NodeId). insert n (select p (x ∷ xs))) (sym same)
        ∙ insert_same (p x) x (select p xs) (select_from (suc x.0) p xs f.1)
        ∙ rw (e, or-true (p x)) (ap (λ (r : NodeSet). x ∷ r) (select_same p (λ y. p y || same_node y k) xs (others same)))

    later : same_node x k ≡ false → insert k (select p xs) ≡ select (λ y. p y || same_node y k) xs
        → insert k (select p (x ∷ xs)) ≡ select (λ y. p y || same_node y k) (x ∷ xs)
    later e i =
        insert_past (p x) k x (select p xs) (contains_all (λ y. x.0 < y.0) xs k above (rw e at h))
        ∙ rw (e, or-false (p x)) (ap (λ (r : NodeSet). cond (p x) (x ∷ r) r) i)

-- the union with a list of nodes of s
union_listed : (p : NodeId → Bool) (b : ℕ) (s t : NodeSet) → From b s → All (λ k. contains s k ≡ true) t
    → union (select p s) t ≡ select (λ x. p x || contains t x) s
union_listed p b s [] f a = λ i. select (λ x. sym (or-false (p x)) i) s
union_listed p b s (y ∷ ys) f a =
    ap (λ (r : NodeSet). union r ys) (insert_selected p b s y f a.0)
    ∙ union_listed (λ x. p x || same_node x y) b s ys f a.1
    ∙ (λ i. select (λ x. regrouped x i) s)
  where
    regrouped : (x : NodeId) → (p x || same_node x y) || contains ys x ≡ p x || (same_node y x || contains ys x)
    regrouped x = or_assoc (p x) (same_node x y) (contains ys x) ∙ ap (λ (c : Bool). p x || (c || contains ys x)) (same_swap x y)

pub union_selected : (p q : NodeId → Bool) (b : ℕ) (s : NodeSet) → From b s → union (select p s) (select q s) ≡ select (λ x. p x || q x) s
union_selected p q b s f =
    union_listed p b s (select q s) f (all_select (λ k. contains s k ≡ true) q s (all_contained s)) ∙ beside (λ a b. a || b) p q s

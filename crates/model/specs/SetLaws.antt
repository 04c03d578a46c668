-- Ascending sets stay ascending, what they contain, and sums over them.
use Rattle.std.specs.Prelude.{ℕ, zero, suc, ◌+◌, ◌≤◌, ◌≡◌, refl, Bool, true, ◌||◌, not, ltb}
use Rattle.std.proofs.Common.{le_refl, le_trans, arith, sym, ap, subst, ◌∙◌}
use Rattle.std.proofs.Math.Bool.{or_self_left}
use mathlib.Core.List.{[], ◌∷◌}
use Rattle.entries.specs.declared.NodeId.{NodeId}
use Rattle.model.specs.Lists.{select, sum_of}
use Rattle.model.specs.Sets.{NodeSet, same_node, contains, insert, remove, union}
use Rattle.model.specs.Tests.{
  by_cond,
  decide,
  never,
  eqb_same,
  eqb-true,
  eqb-false,
  eqb_apart,
  ltb_true,
  ltb_false,
  ltb_not_less,
  or_swap,
  or_second,
  or_cases,
}
use Rattle.model.specs.ListLaws.{All, all_map}

pub same_node_lem : (a b : NodeId) → same_node a b ≡ true → a ≡ b
same_node_lem a b e = let n : a.0 ≡ b.0 = eqb-true a.0 b.0 e in λ i. record { 0 = n i }

-- ascending, with no node below b
abbrev pub From : ℕ → NodeSet → Type 0
From b [] = Unit {0}
From b (x ∷ xs) = (b ≤ x.0) × From (suc x.0) xs

abbrev pub Ascending : NodeSet → Type 0
Ascending s = From zero s

pub from_down : (a b : ℕ) (s : NodeSet) → a ≤ b → From b s → From a s
from_down a b [] h f = tt
from_down a b (x ∷ xs) h f = (le_trans h f.0, f.1)

pub insert_from : (b : ℕ) (k : NodeId) (s : NodeSet) → b ≤ k.0 → From b s → From b (insert k s)
insert_from b k [] h f = (h, tt)
insert_from b k (x ∷ xs) h f =
    by_cond (From b) (ltb k.0 x.0) (λ e. (h, (ltb_true k.0 x.0 e, f.1)))
    (λ e. (
      f.0,
      by_cond (From (suc x.0)) (same_node x k) (λ t. f.1)
          (λ t. let le = ltb_false k.0 x.0 e in let ne = eqb-false x.0 k.0 t in insert_from (suc x.0) k xs
          (omega arith) f.1),
    ))

pub select_from : (b : ℕ) (test : NodeId → Bool) (s : NodeSet) → From b s → From b (select test s)
select_from b test [] f = tt
select_from b test (x ∷ xs) f =
    by_cond (From b) (test x) (λ e. (f.0, select_from (suc x.0) test xs f.1))
    (λ e. from_down b (suc x.0) (select test xs) (let le = f.0 in omega arith) (select_from (suc x.0) test xs f.1))

pub union_from : (s t : NodeSet) → Ascending s → Ascending (union s t)
union_from s [] f = f
union_from s (x ∷ xs) f = union_from (insert x s) xs (insert_from zero x s (omega arith) f)

-- each node of an ascending list is above its start
pub from_above : (b : ℕ) (s : NodeSet) → From b s → All (λ k. b ≤ k.0) s
from_above b [] f = tt
from_above b (x ∷ xs) f = (
  f.0,
  all_map (λ k. suc x.0 ≤ k.0) (λ k. b ≤ k.0) (λ k h. let le = f.0 in omega arith) xs
      (from_above (suc x.0) xs f.1),
)

-- What holds of each node holds of each node of the set made.
module _ (P : NodeId → Type 0) where
  pub insert_all : (k : NodeId) (s : NodeSet) → P k → All P s → All P (insert k s)
  insert_all k [] p a = (p, tt)
  insert_all k (x ∷ xs) p a =
      by_cond (All P) (ltb k.0 x.0) (λ e. (p, a))
      (λ e. (a.0, by_cond (All P) (same_node x k) (λ t. a.1) (λ t. insert_all k xs p a.1)))

  pub union_all : (s t : NodeSet) → All P s → All P t → All P (union s t)
  union_all s [] a b = a
  union_all s (x ∷ xs) a b = union_all (insert x s) xs (insert_all x s b.0 a) b.1

  pub contains_all : (s : NodeSet) (k : NodeId) → All P s → contains s k ≡ true → P k
  contains_all [] k a h = never h refl
  contains_all (x ∷ xs) k a h =
      or_cases (same_node x k) (contains xs k) h (λ e. subst P (same_node_lem x k e) a.0) (λ e. contains_all xs k a.1 e)

-- What is contained.

pub contains_same : (k : NodeId) (s : NodeSet) → contains (k ∷ s) k ≡ true
contains_same k s = rw (eqb_same k.0) refl

pub contains_insert : (k j : NodeId) (s : NodeSet) → contains s j ≡ true → contains (insert k s) j ≡ true
contains_insert k j [] h = never h refl
contains_insert k j (x ∷ xs) h =
    by_cond (λ r. contains r j ≡ true) (ltb k.0 x.0) (λ e. or_second (same_node k j) _ h)
    (λ e. or_cases (same_node x j) (contains xs j) h (λ t. rw t refl)
    (λ t. or_second (same_node x j) _ (by_cond (λ r. contains r j ≡ true) (same_node x k) (λ u. t) (λ u. contains_insert k j xs t))))

-- inserting a node that is in the set changes nothing
pub insert_again : (b : ℕ) (k : NodeId) (s : NodeSet) → From b s → contains s k ≡ true → insert k s ≡ s
insert_again b k [] f h = never h refl
insert_again b k (x ∷ xs) f h =
    or_cases (same_node x k) (contains xs k) h (λ t. let same = eqb-true x.0 k.0 t in rw (ltb_not_less k.0 x.0 (omega arith), t))
    (λ t. let above : suc x.0 ≤ k.0 = contains_all (λ j. suc x.0 ≤ j.0) xs k (from_above (suc x.0) xs f.1) t in
    rw (ltb_not_less k.0 x.0 (omega arith), eqb_apart x.0 k.0 (λ e. absurd (omega arith)))
    (ap (λ (r : NodeSet). x ∷ r) (insert_again (suc x.0) k xs f.1 t)))

-- inserting adds the node and nothing else
pub contains_inserted : (k j : NodeId) (s : NodeSet) → contains (insert k s) j ≡ (same_node k j || contains s j)
contains_inserted k j [] = refl
contains_inserted k j (x ∷ xs) =
    by_cond (λ r. contains r j ≡ (same_node k j || (same_node x j || contains xs j))) (ltb k.0 x.0) (λ e. refl)
    (λ e. by_cond (λ r. same_node x j || contains r j ≡ (same_node k j || (same_node x j || contains xs j))) (same_node x k)
    (λ t. ap (λ y. same_node y j || contains xs j) (same_node_lem x k t) ∙ sym
    (ap (λ y. same_node k j || (same_node y j || contains xs j)) (same_node_lem x k t) ∙ or_self_left (same_node k j) (contains xs j)))
    (λ t. ap (λ y. same_node x j || y) (contains_inserted k j xs) ∙ or_swap (same_node x j) (same_node k j) (contains xs j)))

pub contains_select : (test : NodeId → Bool) (j : NodeId) (s : NodeSet) → test j ≡ true → contains s j ≡ true → contains
    (select test s) j ≡ true
contains_select test j [] t h = never h refl
contains_select test j (x ∷ xs) t h =
    or_cases (same_node x j) (contains xs j) h
    (λ e. by_cond (λ r. contains r j ≡ true) (test x) (λ u. rw e refl)
    (λ u. never (subst (λ n. test n ≡ true) (sym (same_node_lem x j e)) t) u))
    (λ e. by_cond (λ r. contains r j ≡ true) (test x) (λ u. or_second (same_node x j) _ (contains_select test j xs t e))
    (λ u. contains_select test j xs t e))

pub all_contained : (s : NodeSet) → All (λ k. contains s k ≡ true) s
all_contained [] = tt
all_contained (x ∷ xs) = (
  contains_same x xs,
  all_map (λ k. contains xs k ≡ true) (λ k. contains (x ∷ xs) k ≡ true)
      (λ k h. or_second (same_node x k) _ h) xs (all_contained xs),
)

-- Sums over a set.
module _ (f : NodeId → ℕ) where
  pub sum_insert : (k : NodeId) (s : NodeSet) → sum_of f (insert k s) ≤ f k + sum_of f s
  sum_insert k [] = le_refl _
  sum_insert k (x ∷ xs) =
      by_cond (λ r. sum_of f r ≤ f k + (f x + sum_of f xs)) (ltb k.0 x.0) (λ e. le_refl _)
      (λ e. by_cond (λ r. f x + sum_of f r ≤ f k + (f x + sum_of f xs)) (same_node x k) (λ t. omega arith)
      (λ t. let h = sum_insert k xs in omega arith))

  pub sum_select : (test : NodeId → Bool) (s : NodeSet) → sum_of f (select test s) ≤ sum_of f s
  sum_select test [] = le_refl _
  sum_select test (x ∷ xs) =
      let h = sum_select test xs in
      by_cond (λ r. sum_of f r ≤ f x + sum_of f xs) (test x) (λ e. omega arith) (λ e. omega arith)

  pub sum_remove : (k : NodeId) (s : NodeSet) → contains s k ≡ true → sum_of f (remove k s) + f k ≤ sum_of f s
  sum_remove k [] h = never h refl
  sum_remove k (x ∷ xs) h =
      decide (same_node x k)
      (λ e. let same = ap f (same_node_lem x k e) in let le = sum_select (λ y. not (same_node y k)) xs in rw e (omega arith))
      (λ e. or_cases (same_node x k) (contains xs k) h (λ t. never t e) (λ t. let le = sum_remove k xs t in rw e (omega arith)))

pub sum_same : (f g : NodeId → ℕ) (s : NodeSet) → All (λ k. f k ≡ g k) s → sum_of f s ≡ sum_of g s
sum_same f g [] a = refl
sum_same f g (x ∷ xs) a = let h = sum_same f g xs a.1 in let e = a.0 in omega arith

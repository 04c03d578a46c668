-- A way down entered into the words, one position at a time: what is passed, merged or made leaves
-- the rest of the way to be entered behind it.
use Prim.Native.Nat.{ℕ, zero, suc, ◌+◌, ◌-◌, ◌≤◌, ◌<◌}
use native.Mathlib.Omega.{arith}
use native.Mathlib.Numerals.{add-one}
use native.Mathlib.Nat.{add-zero, zero-add, suc-add}
use mathlib.Core.Path.{◌≡◌, refl, sym, ap, ◌∙◌}
use mathlib.Core.Bool.{true, false, cond}
use mathlib.Core.List.{List, [], ◌∷◌, ◌++◌, append_assoc}
use lib.ListN.{length, get_or, set, length-set}
use lib.Seq.{get_or-set_same, get_or-set_other}
use Rattle.model.specs.Tree.{DependencyPosition, merge_position}
use Rattle.laws.specs.Flat.{Node}
use Rattle.tree.specs.Words.{parent_in, position_of, node_of, nodes_from}
use Rattle.tree.specs.Tree.{count_in, nodes_of, entered, matches, nodes_after, entered_from}

-- The count, in the last word.

pub count_stored : (ws : List ℕ) (i v : ℕ) → i + 1 ≡ length ws → count_in (set ws i v) ≡ v
count_stored ws i v last =
    let place : length (set ws i v) - 1 ≡ i = omega (arith, length-set ws i v) in
    ap (λ n. get_or (set ws i v) n 0) place ∙ get_or-set_same ws i v 0 (omega arith)

pub count_kept : (ws : List ℕ) (i v : ℕ) → i + 1 < length ws → count_in (set ws i v) ≡ count_in ws
count_kept ws i v before =
    ap (λ n. get_or (set ws i v) (n - 1) 0) (length-set ws i v) ∙ get_or-set_other ws i (length ws - 1) v 0 (λ e. omega arith)

-- Nodes in words.

module _ (s ws : List ℕ) where
  nodes_add : (m k i : ℕ) → nodes_from s ws i (m + k) ≡ nodes_from s ws i m ++ nodes_from s ws (i + m) k
  nodes_add zero k i = rw (zero-add k, add-zero i)
  nodes_add (suc m) k i =
      let e : i + suc m ≡ suc i + m = omega arith in
      rw (suc-add m k, e) (ap (λ (l : List (Node DependencyPosition)). node_of s (get_or ws i 0) ∷ l) (nodes_add m k (suc i)))

  -- stores at m are not seen by the nodes before it
  nodes_below : (m v i n : ℕ) → i + n ≤ m → nodes_from s (set ws m v) i n ≡ nodes_from s ws i n
  nodes_below m v i zero h = refl
  nodes_below m v i (suc n) h = rw (get_or-set_other ws m i v 0 (λ e. omega arith), nodes_below m v (suc i) n (omega arith))

  -- and not by those behind it
  nodes_above : (m v i n : ℕ) → m < i → nodes_from s (set ws m v) i n ≡ nodes_from s ws i n
  nodes_above m v i zero h = refl
  nodes_above m v i (suc n) h = rw (get_or-set_other ws m i v 0 (λ e. omega arith), nodes_above m v (suc i) n (omega arith))

  -- a node more
  nodes_snoc : (i : ℕ) → nodes_from s ws 0 (i + 1) ≡ nodes_from s ws 0 i ++ (node_of s (get_or ws i 0) ∷ [])
  nodes_snoc i = rw (zero-add i) at (nodes_add i 1 0)

nodes_stored : (s ws : List ℕ) (m v : ℕ) → m < length ws → nodes_from s (set ws m v) 0 (m + 1) ≡ nodes_from s ws 0 m ++ (node_of s v ∷ [])
nodes_stored s ws m v h = nodes_snoc s (set ws m v) m ∙ rw (nodes_below s ws m v 0 m (omega arith), get_or-set_same ws m v 0 h)

-- A whole way down, and one of no positions.

entered_nil : (xs : List (Node DependencyPosition)) (i p : ℕ) → entered xs i p [] ≡ xs
entered_nil [] i p = refl
entered_nil (x ∷ xs) i p = refl

pub entered_start : (s ws : List ℕ) (ss : List DependencyPosition) → entered (nodes_of s ws) 0 0 ss ≡ entered_from s ws 0 0 ss
unfolding nodes_of
entered_start s ws ss = let e : count_in ws - 0 ≡ count_in ws = omega arith in rw e

pub entered_over : (s ws : List ℕ) (p : ℕ) → p ≤ count_in ws → entered_from s ws p p [] ≡ nodes_of s ws
unfolding nodes_of
entered_over s ws p h =
    let split : p + (count_in ws - p) ≡ count_in ws = omega arith in
    ap (λ (l : List (Node DependencyPosition)). nodes_from s ws 0 p ++ l) (entered_nil (nodes_after s ws p) p p)
    ∙ sym (rw (split, zero-add p) at (nodes_add s ws p (count_in ws - p) 0))

-- One position.
module _ (s ws : List ℕ) (i p : ℕ) (q : DependencyPosition) (h : i < count_in ws) where
  abbrev word : ℕ
  word = get_or ws i 0

  at_position : (ss : List DependencyPosition) → entered_from s ws i p (q ∷ ss)
      ≡ nodes_from s ws 0 i ++ cond (matches (node_of s word) p q)
      (record { parent = parent_in word; here = merge_position (position_of s word) q } ∷ entered (nodes_after s ws (i + 1)) (i + 1) (i + 1) ss)
      (node_of s word ∷ entered (nodes_after s ws (i + 1)) (i + 1) p (q ∷ ss))
  at_position ss = let e : count_in ws - i ≡ suc (count_in ws - (i + 1)) = omega arith in rw (e, add-one i)

  -- it is passed
  pub entered_past : matches (node_of s word) p q ≡ false → (ss : List DependencyPosition) → entered_from s ws i p (q ∷ ss) ≡ entered_from s ws
      (i + 1) p (q ∷ ss)
  entered_past t ss =
      at_position ss
      ∙ rw t
      (sym (append_assoc (nodes_from s ws 0 i) (node_of s word ∷ []) _)
      ∙ ap (λ (l : List (Node DependencyPosition)). l ++ entered (nodes_after s ws (i + 1)) (i + 1) p (q ∷ ss)) (sym (nodes_snoc s ws i)))

  -- it is merged
  module _ (room : count_in ws < length ws) (v : ℕ)
      (is : node_of s v ≡ record { parent = parent_in word; here = merge_position (position_of s word) q }) where
    pub entered_merged : matches (node_of s word) p q ≡ true → (ss : List DependencyPosition) → entered_from s ws i p (q ∷ ss) ≡ entered_from s (set ws i v)
        (i + 1) (i + 1) ss
    entered_merged t ss =
        at_position ss
        ∙ rw (t, ← is, count_kept ws i v (omega arith), nodes_above s ws i v (i + 1) (count_in ws - (i + 1)) (omega arith))
        (sym (append_assoc (nodes_from s ws 0 i) (node_of s v ∷ []) _)
        ∙ ap (λ (l : List (Node DependencyPosition)). l ++ entered (nodes_after s ws (i + 1)) (i + 1) (i + 1) ss)
        (sym (nodes_stored s ws i v (omega arith))))

-- A position is made behind all.
nodes_same : (s ws vs : List ℕ) (i n : ℕ) → ((j : ℕ) → j < i + n → node_of s (get_or vs j 0) ≡ node_of s (get_or ws j 0))
    → nodes_from s vs i n ≡ nodes_from s ws i n
nodes_same s ws vs i zero h = refl
nodes_same s ws vs i (suc n) h = rw (h i (omega arith), nodes_same s ws vs (suc i) n (λ j l. h j (omega arith)))

pub entered_made : (s ws vs : List ℕ) (p : ℕ) (q : DependencyPosition) → count_in vs ≡ count_in ws + 1
    → ((j : ℕ) → j < count_in ws → node_of s (get_or vs j 0) ≡ node_of s (get_or ws j 0))
    → node_of s (get_or vs (count_in ws) 0) ≡ record { parent = p; here = q } → (ss : List DependencyPosition)
    → entered_from s ws (count_in ws) p (q ∷ ss) ≡ entered_from s vs (count_in ws + 1) (count_in ws + 1) ss
entered_made s ws vs p q count old new ss =
    let n = count_in ws in
    let none : n - n ≡ 0 = omega arith in
    let none' : n + 1 - (n + 1) ≡ 0 = omega arith in
    let same = nodes_same s ws vs 0 n (λ j l. old j (omega arith)) in
    rw (none, count, none', nodes_snoc s vs n, same, ← add-one n, new) (sym (append_assoc (nodes_from s ws 0 n) (record { parent = p; here = q } ∷ []) _))

-- What the members of words are, and what becomes of them as the words change.
use Prim.Native.Nat.{ℕ, zero, suc, ◌+◌, ◌*◌, ◌/◌, ◌%◌, ◌^◌, ◌≤◌, ◌<◌}
use native.Mathlib.Omega.{arith}
use native.Mathlib.Nat.{one-mul, mod-eq_of_lt}
use native.Mathlib.Decide.{ℕ_discrete}
use mathlib.Core.Bool.{Bool, true, false, ◌&&◌, ◌||◌, not, and-true, or-false}
use mathlib.Core.Path.{◌≡◌, refl, sym, ◌∙◌, ap}
use mathlib.Core.List.{List, [], ◌∷◌}
use lib.ListN.{length, get_or, set}
use lib.Seq.{get_or-set_same, get_or-set_other, ext_get_or}
use lib.Bits.{bit_or, bit_and}
use lib.Pow.{pow-lt}
use lib.Dec.{eqb}
use lib.Pointwise.{pointwise, bytes_decides}
use borrow.Author.Tests.{eq-eqb, ne_eqb}
use Rattle.entries.specs.declared.NodeId.{NodeId}
use Rattle.model.specs.Lists.{select}
use Rattle.model.specs.ListLaws.{All, all_map, all_select, select_same}
use Rattle.model.specs.Sets.{NodeSet, same_node, contains, insert, remove, union, intersection, same_set}
use Rattle.model.specs.SetLaws.{From, Ascending, same_node_lem, select_from, contains_all}
use Rattle.model.specs.Tests.{decide, never, and_first, and_second, or_second}
use Rattle.rows.specs.Members.{bit, has_bit, nodes_from, members_from, members_of}
use Rattle.rows.proofs.Words.{or_bit, and_bit, without, without_bit, power_bit, zero_bit, words_same}
use Rattle.rows.proofs.Selections.{contains_selected, remove_selected, intersection_selected, insert_selected, union_selected}

-- the nodes from a place on

pub nodes_ascending : (k n : ℕ) → From k (nodes_from k n)
nodes_ascending k zero = tt
nodes_ascending k (suc n) = (omega arith, nodes_ascending (suc k) n)

pub nodes_below : (end k n : ℕ) → k + n ≤ end → All (λ j. j.0 < end) (nodes_from k n)
nodes_below end k zero l = tt
nodes_below end k (suc n) l = (omega arith, nodes_below end (suc k) n (omega arith))

nodes_contain : (k n : ℕ) (j : NodeId) → k ≤ j.0 → j.0 < k + n → contains (nodes_from k n) j ≡ true
nodes_contain k zero j a b = let z : ⊥ = omega arith in elim z [ ]
nodes_contain k (suc n) j a b = elim (ℕ_discrete k j.0) [
  | yes e ↦ rw (eq-eqb k j.0 e)
  | no d ↦ or_second (eqb k j.0) (contains (nodes_from (suc k) n) j) (nodes_contain (suc k) n j (omega (arith, d)) (omega arith))
]

-- the members of any words

pub members_ascending : (ws : List ℕ) → Ascending (members_of ws)
unfolding members_from
members_ascending ws = select_from 0 (λ j. has_bit ws j.0) (nodes_from 0 512) (nodes_ascending 0 512)

pub members_below : (ws : List ℕ) → All (λ k. k.0 < 512) (members_of ws)
unfolding members_from
members_below ws = all_select (λ k. k.0 < 512) (λ j. has_bit ws j.0) (nodes_from 0 512) (nodes_below 512 0 512 (omega arith))

pub member_below : (ws : List ℕ) (k : NodeId) → contains (members_of ws) k ≡ true → k.0 < 512
member_below ws k h = contains_all (λ j. j.0 < 512) (members_of ws) k (members_below ws) h

pub contains_members : (ws : List ℕ) (k : NodeId) → k.0 < 512 → contains (members_of ws) k ≡ has_bit ws k.0
unfolding members_from
contains_members ws k l =
    contains_selected (λ j. has_bit ws j.0) (nodes_from 0 512) k
    ∙ rw (nodes_contain 0 512 k (omega arith) (omega arith)) (and-true (has_bit ws k.0))

-- to know the members it is enough to know each bit
pub members_by : (ws : List ℕ) (p : NodeId → Bool) → ((j : NodeId) → j.0 < 512 → has_bit ws j.0 ≡ p j) → members_of ws ≡ select p (nodes_from 0 512)
unfolding members_from
members_by ws p h =
    select_same (λ j. has_bit ws j.0) p (nodes_from 0 512)
    (all_map (λ j. j.0 < 512) (λ j. has_bit ws j.0 ≡ p j) h (nodes_from 0 512) (nodes_below 512 0 512 (omega arith)))

-- the first eight words alone count
pub members_same : (a b : List ℕ) → ((i : ℕ) → i < 8 → get_or a i 0 ≡ get_or b i 0) → members_of a ≡ members_of b
unfolding members_from has_bit
members_same a b h = members_by a (λ j. has_bit b j.0) (λ j l. ap (λ (w : ℕ). bit w (j.0 % 64)) (h (j.0 / 64) (omega arith)))

pub no_members : (ws : List ℕ) → ((i : ℕ) → i < 8 → get_or ws i 0 ≡ 0) → members_of ws ≡ []
unfolding has_bit
no_members ws h =
    members_by ws (λ j. false) (λ j l. ap (λ (w : ℕ). bit w (j.0 % 64)) (h (j.0 / 64) (omega arith)) ∙ zero_bit (j.0 % 64))
    ∙ none (nodes_from 0 512)
  where
    none : (s : NodeSet) → select (λ j. false) s ≡ []
    none [] = refl
    none (x ∷ xs) = none xs

-- `1 << (k % 64)` as the code has it: no bit of the power is lost
abbrev pub bit_of : NodeId → ℕ
bit_of k = 1 * 2 ^ (k.0 % 64) % 2 ^ 64

bit_exact : (k : NodeId) → bit_of k ≡ 2 ^ (k.0 % 64)
bit_exact k = rw (one-mul (2 ^ (k.0 % 64))) (mod-eq_of_lt (pow-lt {i = k.0 % 64} {j = 64} (omega arith)))

-- the word of node k changed by an operation with the bit of k

module _ (op : ℕ → ℕ → ℕ) (f : Bool → Bool → Bool)
    (op_bit : (a b m : ℕ) → bit (op a b) m ≡ f (bit a m) (bit b m)) (f-false : (b : Bool) → f b false ≡ b)
    (ws : List ℕ) (k : NodeId) (long : length ws ≡ 8) (small : k.0 < 512) where
  changed : ℕ → List ℕ
  changed bits = set ws (k.0 / 64) (op (get_or ws (k.0 / 64) 0) bits)

  changed_bit : (j : NodeId) → has_bit (changed (2 ^ (k.0 % 64))) j.0 ≡ f (has_bit ws j.0) (same_node j k)
  unfolding has_bit changed
  changed_bit j = elim (ℕ_discrete (j.0 / 64) (k.0 / 64)) [
    | yes e ↦
        ap (λ (i : ℕ). bit (get_or (changed (2 ^ (k.0 % 64))) i 0) (j.0 % 64)) e
        ∙ ap (λ (w : ℕ). bit w (j.0 % 64)) (get_or-set_same ws (k.0 / 64) (op (get_or ws (k.0 / 64) 0) (2 ^ (k.0 % 64))) 0 (omega arith))
        ∙ op_bit (get_or ws (k.0 / 64) 0) (2 ^ (k.0 % 64)) (j.0 % 64)
        ∙ ap (f (bit (get_or ws (k.0 / 64) 0) (j.0 % 64))) (power_bit (k.0 % 64) (j.0 % 64) ∙ place_same e)
        ∙ ap (λ (i : ℕ). f (bit (get_or ws i 0) (j.0 % 64)) (same_node j k)) (sym e)
    | no d ↦
        ap (λ (w : ℕ). bit w (j.0 % 64)) (get_or-set_other ws (k.0 / 64) (j.0 / 64) (op (get_or ws (k.0 / 64) 0) (2 ^ (k.0 % 64))) 0 d)
        ∙ sym (ap (f (has_bit ws j.0)) (ne_eqb j.0 k.0 (λ e. d (omega arith))) ∙ f-false (has_bit ws j.0))
  ]
    where
      place_same : j.0 / 64 ≡ k.0 / 64 → eqb (k.0 % 64) (j.0 % 64) ≡ same_node j k
      place_same e = elim (ℕ_discrete j.0 k.0) [
        | yes d ↦ eq-eqb (k.0 % 64) (j.0 % 64) (omega arith) ∙ sym (eq-eqb j.0 k.0 d)
        | no d ↦ ne_eqb (k.0 % 64) (j.0 % 64) (λ h. d (omega arith)) ∙ sym (ne_eqb j.0 k.0 d)
      ]

  bit_changed : members_of (set ws (k.0 / 64) (op (get_or ws (k.0 / 64) 0) (bit_of k)))
      ≡ select (λ j. f (has_bit ws j.0) (same_node j k)) (nodes_from 0 512)
  unfolding changed
  bit_changed =
      ap (λ (bits : ℕ). members_of (changed bits)) (bit_exact k)
      ∙ members_by (changed (2 ^ (k.0 % 64))) (λ j. f (has_bit ws j.0) (same_node j k)) (λ j l. changed_bit j)

module _ (ws : List ℕ) (k : NodeId) (long : length ws ≡ 8) (small : k.0 < 512) where
  pub inserted : members_of (set ws (k.0 / 64) (bit_or (get_or ws (k.0 / 64) 0) (bit_of k))) ≡ insert k (members_of ws)
  unfolding members_from
  inserted =
      bit_changed bit_or (λ a b. a || b) or_bit or-false ws k long small
      ∙ sym (insert_selected (λ j. has_bit ws j.0) 0 (nodes_from 0 512) k (nodes_ascending 0 512)
      (nodes_contain 0 512 k (omega arith) (omega arith)))

  pub removed : members_of (set ws (k.0 / 64) (without (get_or ws (k.0 / 64) 0) (bit_of k))) ≡ remove k (members_of ws)
  unfolding members_from
  removed =
      bit_changed without (λ a b. a && not b) without_bit and-true ws k long small
      ∙ sym (remove_selected (λ j. has_bit ws j.0) (nodes_from 0 512) k)

-- what holds of each of eight words
abbrev pub Eight : (ℕ → Type 0) → Type 0
Eight P = P 0 × P 1 × P 2 × P 3 × P 4 × P 5 × P 6 × P 7

pub word_at : (P : ℕ → Type 0) → Eight P → (i : ℕ) → i < 8 → P i
word_at P w zero l = w.0
word_at P w (suc zero) l = w.1
word_at P w (suc (suc zero)) l = w.2
word_at P w (suc (suc (suc zero))) l = w.3
word_at P w (suc (suc (suc (suc zero)))) l = w.4
word_at P w (suc (suc (suc (suc (suc zero))))) l = w.5
word_at P w (suc (suc (suc (suc (suc (suc zero)))))) l = w.6
word_at P w (suc (suc (suc (suc (suc (suc (suc zero))))))) l = w.7
word_at P w (suc (suc (suc (suc (suc (suc (suc (suc i)))))))) l = let z : ⊥ = omega arith in elim z [ ]

-- The words of c are those of a and b by an operation.
abbrev pub Wordwise : (ℕ → ℕ → ℕ) → List ℕ → List ℕ → List ℕ → Type 0
Wordwise op a b c = Eight (λ i. get_or c i 0 ≡ op (get_or a i 0) (get_or b i 0))

wordwise_members : (op : ℕ → ℕ → ℕ) (f : Bool → Bool → Bool) → ((a b m : ℕ) → bit (op a b) m ≡ f (bit a m) (bit b m)) → (a b c : List ℕ)
    → Wordwise op a b c → members_of c ≡ select (λ j. f (has_bit a j.0) (has_bit b j.0)) (nodes_from 0 512)
unfolding has_bit
wordwise_members op f op_bit a b c w =
    members_by c (λ j. f (has_bit a j.0) (has_bit b j.0))
    (λ j l.
    ap (λ (w : ℕ). bit w (j.0 % 64)) (word_at (λ i. get_or c i 0 ≡ op (get_or a i 0) (get_or b i 0)) w (j.0 / 64) (omega arith))
    ∙ op_bit (get_or a (j.0 / 64) 0) (get_or b (j.0 / 64) 0) (j.0 % 64))

pub united : (a b c : List ℕ) → Wordwise bit_or a b c → members_of c ≡ union (members_of a) (members_of b)
unfolding members_from
united a b c w =
    wordwise_members bit_or (λ x y. x || y) or_bit a b c w
    ∙ sym (union_selected (λ j. has_bit a j.0) (λ j. has_bit b j.0) 0 (nodes_from 0 512) (nodes_ascending 0 512))

pub intersected : (a b c : List ℕ) → Wordwise bit_and a b c → members_of c ≡ intersection (members_of a) (members_of b)
unfolding members_from
intersected a b c w =
    wordwise_members bit_and (λ x y. x && y) and_bit a b c w
    ∙ sym (intersection_selected (λ j. has_bit a j.0) (λ j. has_bit b j.0) (nodes_from 0 512))

-- equal sets

pub same_self : (s : NodeSet) → same_set s s ≡ true
same_self [] = refl
same_self (x ∷ xs) = rw (eq-eqb x.0 x.0 refl) (same_self xs)

pub same_lists : (s t : NodeSet) → same_set s t ≡ true → s ≡ t
same_lists [] [] e = refl
same_lists [] (y ∷ ys) e = never e refl
same_lists (x ∷ xs) [] e = never e refl
same_lists (x ∷ xs) (y ∷ ys) e =
    ap (λ (n : NodeId). n ∷ xs) (same_node_lem x y (and_first (same_node x y) (same_set xs ys) e))
    ∙ ap (λ (l : NodeSet). y ∷ l) (same_lists xs ys (and_second (same_node x y) (same_set xs ys) e))

module _ (a b : List ℕ) (i : ℕ) (at : i < 8) (fa : get_or a i 0 < 2 ^ 64) (fb : get_or b i 0 < 2 ^ 64) where
  -- words of equal sets are equal: bit m of word i is the bit of node i * 64 + m
  word_same : members_of a ≡ members_of b → get_or a i 0 ≡ get_or b i 0
  unfolding has_bit
  word_same e = words_same 64 (get_or a i 0) (get_or b i 0) fa fb (λ m l.
      let q : (i * 64 + m) / 64 ≡ i = omega arith in
      let r : (i * 64 + m) % 64 ≡ m = omega arith in
      rw (q, r) at (bits_same (i * 64 + m) (omega arith)))
    where
      bits_same : (n : ℕ) → n < 512 → has_bit a n ≡ has_bit b n
      bits_same n l =
          sym (contains_members a (record { 0 = n }) l)
          ∙ ap (λ (s : NodeSet). contains s (record { 0 = n })) e
          ∙ contains_members b (record { 0 = n }) l

-- two values with the same members are equal
pub members_injective : (a b : List ℕ) → length a ≡ 8 → length b ≡ 8 → ((i : ℕ) → get_or a i 0 < 2 ^ 64) → ((i : ℕ) → get_or b i 0 < 2 ^ 64)
    → members_of a ≡ members_of b → a ≡ b
members_injective a b la lb fa fb e = ext_get_or 0 a b (la ∙ sym lb) (λ i l. word_same a b i (omega arith) (fa i) (fb i) e)

-- `==` on the words of two sets
pub words_equal : (a b : List ℕ) → length a ≡ 8 → length b ≡ 8 → ((i : ℕ) → get_or a i 0 < 2 ^ 64) → ((i : ℕ) → get_or b i 0 < 2 ^ 64)
    → pointwise eqb a b ≡ same_set (members_of a) (members_of b)
words_equal a b la lb fa fb =
    decide (pointwise eqb a b)
    (λ e. e ∙ sym (ap (λ (ws : List ℕ). same_set (members_of ws) (members_of b)) ((bytes_decides a b).0 e) ∙ same_self (members_of b)))
    (λ e. e ∙ sym (decide (same_set (members_of a) (members_of b))
    (λ h. never ((bytes_decides a b).1 (members_injective a b la lb fa fb (same_lists (members_of a) (members_of b) h))) e)
    (λ h. h)))

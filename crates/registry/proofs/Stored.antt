-- What the words hold after a node more has been stored.
use Prim.Native.Nat.{ℕ, zero, suc, ◌+◌, ◌*◌, ◌≤◌, ◌<◌}
use native.Mathlib.Omega.{arith}
use native.Mathlib.Numerals.{add-one}
use native.Mathlib.Nat.{add-zero, zero-add, not-suc-le-zero}
use mathlib.Core.Path.{◌≡◌, refl, sym, ◌∙◌, ap, subst}
use mathlib.Core.Logic.{◌≢◌}
use mathlib.Core.Bool.{false}
use mathlib.Core.List.{List, [], ◌∷◌, ◌++◌}
use lib.ListN.{length, get_or, set, length-set}
use lib.Seq.{get_or-set_same, get_or-set_other, lt-length-set}
use lib.Dec.{eqb}
use Rattle.model.specs.Tests.{decide, eqb-true, eqb-false}
use Rattle.registry.specs.declared.Node.{Node}
use Rattle.registry.specs.Nodes.{same_key, find_node}
use Rattle.registry.specs.Words.{unpack, stored_node, count_in, nodes_from, nodes_of, Packed, PackedAt, NodesPacked}

nodes_length : (ws : List ℕ) (k n : ℕ) → length (nodes_from ws k n) ≡ n
nodes_length ws k zero = refl
nodes_length ws k (suc n) = ap suc (nodes_length ws (suc k) n)

pub nodes_of_length : (ws : List ℕ) → length (nodes_of ws) ≡ count_in ws
unfolding nodes_of
nodes_of_length ws = nodes_length ws 0 (count_in ws)

nodes_at : (ws : List ℕ) (k n i : ℕ) (d : Node) → i < n → get_or (nodes_from ws k n) i d ≡ stored_node ws (k + i)
nodes_at ws k zero i d l = absurd (not-suc-le-zero l)
nodes_at ws k (suc n) zero d l = rw (add-zero k)
nodes_at ws k (suc n) (suc i) d l = let e : k + suc i ≡ suc k + i = omega arith in rw e (nodes_at ws (suc k) n i d (omega arith))

pub nodes_of_at : (ws : List ℕ) (k : ℕ) → k < count_in ws → get_or (nodes_of ws) k (stored_node ws k) ≡ stored_node ws k
unfolding nodes_of
nodes_of_at ws k l = nodes_at ws 0 (count_in ws) k (stored_node ws k) l ∙ ap (stored_node ws) (zero-add k)

nodes_same : (ws vs : List ℕ) (k n : ℕ) → ((j : ℕ) → j < k + n → stored_node ws j ≡ stored_node vs j) → nodes_from ws k n ≡ nodes_from vs k n
nodes_same ws vs k zero h = refl
nodes_same ws vs k (suc n) h = simp (h k (omega arith), nodes_same ws vs (suc k) n (λ j l. h j (omega arith)))

nodes_snoc : (ws : List ℕ) (k n : ℕ) → nodes_from ws k (suc n) ≡ nodes_from ws k n ++ (stored_node ws (k + n) ∷ [])
nodes_snoc ws k zero = rw (add-zero k)
nodes_snoc ws k (suc n) = ap (λ (l : List Node). stored_node ws k ∷ l) (let e : k + suc n ≡ suc k + n = omega arith in rw e (nodes_snoc ws (suc k) n))

-- a node in three words at place k, e in word q of the ends, and k + 1 as the number of nodes
abbrev pub stored : List ℕ → ℕ → ℕ → ℕ → ℕ → ℕ → ℕ → List ℕ
stored ws k q e h v s = set (set (set (set (set ws (k * 3) h) (k * 3 + 1) v) (k * 3 + 2) s) (1537 + q) e) 1536 (k + 1)

module _ (ws : List ℕ) (k q e h v s : ℕ) (room : k < 512) (small : q < 128) (long : length ws ≡ 1665) where
  pub stored_count : count_in (stored ws k q e h v s) ≡ k + 1
  stored_count =
      let same : length (set (set (set (set ws (k * 3) h) (k * 3 + 1) v) (k * 3 + 2) s) (1537 + q) e) ≡ 1665 = simp length-set long in
      get_or-set_same (set (set (set (set ws (k * 3) h) (k * 3 + 1) v) (k * 3 + 2) s) (1537 + q) e) 1536 (k + 1) 0 (omega arith)

  pub elsewhere : (i : ℕ) → i < k * 3 → get_or (stored ws k q e h v s) i 0 ≡ get_or ws i 0
  elsewhere i l =
      let a : i ≢ k * 3 = λ z. omega arith in
      let c : i ≢ k * 3 + 1 = λ z. omega arith in
      let d : i ≢ k * 3 + 2 = λ z. omega arith in
      let f : i ≢ 1537 + q = λ z. omega arith in
      let g : i ≢ 1536 = λ z. omega arith in
      simp get_or-set_other

  pub first_word : get_or (stored ws k q e h v s) (k * 3) 0 ≡ h
  first_word =
      let a : k * 3 ≢ k * 3 + 1 = λ z. omega arith in
      let c : k * 3 ≢ k * 3 + 2 = λ z. omega arith in
      let d : k * 3 ≢ 1537 + q = λ z. omega arith in
      let f : k * 3 ≢ 1536 = λ z. omega arith in
      let l : k * 3 < length ws = omega arith in
      simp (get_or-set_other, get_or-set_same)

  pub second_word : get_or (stored ws k q e h v s) (k * 3 + 1) 0 ≡ v
  second_word =
      let a : k * 3 + 1 ≢ k * 3 + 2 = λ z. omega arith in
      let d : k * 3 + 1 ≢ 1537 + q = λ z. omega arith in
      let f : k * 3 + 1 ≢ 1536 = λ z. omega arith in
      let l : k * 3 + 1 < length ws = omega arith in
      simp (get_or-set_other, get_or-set_same, lt-length-set)

  pub third_word : get_or (stored ws k q e h v s) (k * 3 + 2) 0 ≡ s
  third_word =
      let d : k * 3 + 2 ≢ 1537 + q = λ z. omega arith in
      let f : k * 3 + 2 ≢ 1536 = λ z. omega arith in
      let l : k * 3 + 2 < length ws = omega arith in
      simp (get_or-set_other, get_or-set_same, lt-length-set)

  -- any word behind the nodes and their number
  pub ends_word : get_or (stored ws k q e h v s) (1537 + q) 0 ≡ e
  ends_word =
      let d : 1537 + q ≢ 1536 = λ z. omega arith in
      let l : 1537 + q < length ws = omega arith in
      simp (get_or-set_other, get_or-set_same, lt-length-set)

  pub other_ends : (c : ℕ) → c ≢ q → get_or (stored ws k q e h v s) (1537 + c) 0 ≡ get_or ws (1537 + c) 0
  other_ends c other =
      let a : 1537 + c ≢ k * 3 = λ z. omega arith in
      let d : 1537 + c ≢ k * 3 + 1 = λ z. omega arith in
      let f : 1537 + c ≢ k * 3 + 2 = λ z. omega arith in
      let g : 1537 + c ≢ 1537 + q = λ z. other (omega arith) in
      let i : 1537 + c ≢ 1536 = λ z. omega arith in
      simp get_or-set_other

  stored_below : (j : ℕ) → j < k → stored_node (stored ws k q e h v s) j ≡ stored_node ws j
  stored_below j l = rw (elsewhere (j * 3) (omega arith), elsewhere (j * 3 + 1) (omega arith), elsewhere (j * 3 + 2) (omega arith))

  stored_at : stored_node (stored ws k q e h v s) k ≡ unpack h v s
  stored_at = rw (first_word, second_word, third_word)

  stored_nodes : nodes_from (stored ws k q e h v s) 0 (suc k) ≡ nodes_from ws 0 k ++ (unpack h v s ∷ [])
  stored_nodes =
      nodes_snoc (stored ws k q e h v s) 0 k
      ∙ rw (zero-add k, stored_at, nodes_same (stored ws k q e h v s) ws 0 k (λ j l. stored_below j (omega arith)))

  pub stored_long : length (stored ws k q e h v s) ≡ 1665
  stored_long = simp length-set long

  -- the nodes stay packed
  pub packed_more : k ≡ count_in ws → NodesPacked ws → Packed h v s → NodesPacked (stored ws k q e h v s)
  packed_more at old new j l =
      decide (eqb j k)
      (λ t. subst (λ x. PackedAt (stored ws k q e h v s) x) (sym (eqb-true j k t)) (rw (first_word, second_word, third_word) new))
      (λ t.
      let ne = eqb-false j k t in
      let counted = stored_count in
      rw (elsewhere (j * 3) (omega arith), elsewhere (j * 3 + 1) (omega arith), elsewhere (j * 3 + 2) (omega arith)) (old j (omega arith)))

pub pushed : (ws : List ℕ) (q e h v s : ℕ) (n : Node) → count_in ws < 512 → q < 128 → length ws ≡ 1665 → unpack h v s ≡ n
    → nodes_of (stored ws (count_in ws) q e h v s) ≡ nodes_of ws ++ (n ∷ [])
unfolding nodes_of
pushed ws q e h v s n room small long is =
    ap (nodes_from (stored ws (count_in ws) q e h v s) 0) (stored_count ws (count_in ws) q e h v s room small long ∙ add-one (count_in ws))
    ∙ stored_nodes ws (count_in ws) q e h v s room small long ∙ ap (λ (m : Node). nodes_from ws 0 (count_in ws) ++ (m ∷ [])) is

-- Where no node has the key, the search gives how many there are.

none_from : (ws : List ℕ) (n : Node) (k m : ℕ) → ((j : ℕ) → k ≤ j → j < k + m → same_key (stored_node ws j) n ≡ false) → find_node (nodes_from ws k m) n ≡ m
none_from ws n k zero h = refl
none_from ws n k (suc m) h = rw (h k (omega arith) (omega arith)) (ap suc (none_from ws n (suc k) m (λ j a l. h j (omega arith) (omega arith))))

pub none_found : (ws : List ℕ) (n : Node) → ((j : ℕ) → j < count_in ws → same_key (stored_node ws j) n ≡ false) → find_node (nodes_of ws) n ≡ count_in ws
unfolding nodes_of
none_found ws n h = none_from ws n 0 (count_in ws) (λ j a l. h j (omega arith))

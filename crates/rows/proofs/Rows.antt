-- The rows after eight words of one of them are stored, and what every row has.
use Prim.Native.Nat.{ℕ, zero, suc, ◌+◌, ◌*◌, ◌-◌, ◌≤◌, ◌<◌}
use native.Mathlib.Omega.{arith}
use native.Mathlib.Nat.{zero-add}
use native.Mathlib.Decide.{dec_lt}
use mathlib.Core.Path.{◌≡◌, refl, sym, ◌∙◌, ap}
use mathlib.Core.List.{List, [], ◌++◌}
use lib.ListN.{length, get_or, set, take, drop, get_or-append}
use lib.Seq.{get_or-set_same, get_or-set_other, get_or-take, get_or-drop, get_or-append-add, length-take-le, paste, length-paste, length_paste_head}
use Rattle.model.specs.ListLaws.{All}
use Rattle.model.specs.Sets.{NodeSet}
use Rattle.model.specs.SetLaws.{Ascending}
use Rattle.rows.specs.Members.{members_of}
use Rattle.rows.specs.Rows.{Lent, RowSet, row_of, rows_from, rows_of}
use Rattle.rows.proofs.Members.{Eight, word_at, members_same, members_ascending, members_below}

-- what every row has

pub row_ascending : (ws : List ℕ) (b : ℕ) → Ascending (row_of ws b)
unfolding row_of
row_ascending ws b = members_ascending (drop (b * 8) ws)

pub row_below : (ws : List ℕ) (b : ℕ) → All (λ k. k.0 < 512) (row_of ws b)
unfolding row_of
row_below ws b = members_below (drop (b * 8) ws)

-- among the first n rows

rows_at : (ws : List ℕ) (k n b : ℕ) → b < n → get_or (rows_from ws k n) b [] ≡ row_of ws (k + b)
rows_at ws k zero b l = let z : ⊥ = omega arith in elim z [ ]
rows_at ws k (suc n) zero l = ap (row_of ws) (omega arith)
rows_at ws k (suc n) (suc b) l = rows_at ws (suc k) n b (omega arith) ∙ ap (row_of ws) (omega arith)

pub row_at : (ws : List ℕ) (n b : ℕ) → b < n → get_or (rows_of ws n) b [] ≡ row_of ws b
unfolding rows_of
row_at ws n b l = rows_at ws 0 n b l ∙ ap (row_of ws) (zero-add b)

rows_length : (ws : List ℕ) (k n : ℕ) → length (rows_from ws k n) ≡ n
rows_length ws k zero = refl
rows_length ws k (suc n) = ap suc (rows_length ws (suc k) n)

pub rows_count : (ws : List ℕ) (n : ℕ) → length (rows_of ws n) ≡ n
unfolding rows_of
rows_count ws n = rows_length ws 0 n

-- a row is known by its words
pub row_same : (vs ws : List ℕ) (b : ℕ) → ((i : ℕ) → i < 8 → get_or vs i 0 ≡ get_or ws (b * 8 + i) 0) → members_of vs ≡ row_of ws b
unfolding row_of
row_same vs ws b h = members_same vs (drop (b * 8) ws) (λ i l. h i l ∙ sym (get_or-drop (b * 8) ws i 0))

-- a copy of a row's words
pub row_copied : (vs ws : List ℕ) (b : ℕ) → Eight (λ i. get_or vs i 0 ≡ get_or ws (b * 8 + i) 0) → members_of vs ≡ row_of ws b
row_copied vs ws b w = row_same vs ws b (λ i l. word_at (λ i. get_or vs i 0 ≡ get_or ws (b * 8 + i) 0) w i l)

-- one row changed, and no other

module _ (ws vs : List ℕ) (b : ℕ) (s : NodeSet) (this : row_of vs b ≡ s) (other : (q : ℕ) → (q ≡ b → ⊥) → row_of vs q ≡ row_of ws q) where
  behind : (k n : ℕ) → b < k → rows_from vs k n ≡ rows_from ws k n
  behind k zero l = refl
  behind k (suc n) l = rw (other k (λ e. omega arith), behind (suc k) n (omega arith))

  among : (k n i : ℕ) → k + i ≡ b → rows_from vs k n ≡ set (rows_from ws k n) i s
  among k zero i e = refl
  among k (suc n) zero e = let here : k ≡ b = omega arith in rw (ap (row_of vs) here ∙ this, behind (suc k) n (omega arith))
  among k (suc n) (suc i) e = rw (other k (λ h. omega arith), among (suc k) n i (omega arith))

  pub one_row : (n : ℕ) → rows_of vs n ≡ set (rows_of ws n) b s
  unfolding rows_of
  one_row n = among 0 n b (zero-add b)

-- a list into which the first n of another's elements were copied

module _ (ws : List ℕ) (at : ℕ) (l : List ℕ) (n : ℕ) (room : at + n ≤ length ws) (enough : n ≤ length l) where
  head_length : length (take at ws ++ take n l) ≡ at + n
  head_length = length_paste_head ws at l n (omega arith) enough

  copied_before : (j : ℕ) → j < at → get_or (paste ws at l n) j 0 ≡ get_or ws j 0
  copied_before j h =
      let a = head_length in
      let b : length (take at ws) ≡ at = length-take-le at ws (omega arith) in
      get_or-append (take at ws ++ take n l) (drop (at + n) ws) 0 j (omega arith)
      ∙ get_or-append (take at ws) (take n l) 0 j (omega arith)
      ∙ get_or-take at ws j 0 h

  copied_in : (i : ℕ) → i < n → get_or (paste ws at l n) (at + i) 0 ≡ get_or l i 0
  copied_in i h =
      let a = head_length in
      let b : length (take at ws) ≡ at = length-take-le at ws (omega arith) in
      get_or-append (take at ws ++ take n l) (drop (at + n) ws) 0 (at + i) (omega arith)
      ∙ ap (λ (k : ℕ). get_or (take at ws ++ take n l) (k + i) 0) (sym b)
      ∙ get_or-append-add (take at ws) (take n l) i 0
      ∙ get_or-take n l i 0 h

  copied_behind : (j : ℕ) → at + n ≤ j → get_or (paste ws at l n) j 0 ≡ get_or ws j 0
  copied_behind j h =
      let e : j ≡ length (take at ws ++ take n l) + (j - (at + n)) = let a = head_length in omega arith in
      ap (λ (k : ℕ). get_or (paste ws at l n) k 0) e
      ∙ get_or-append-add (take at ws ++ take n l) (drop (at + n) ws) (j - (at + n)) 0
      ∙ get_or-drop (at + n) ws (j - (at + n)) 0
      ∙ ap (λ (k : ℕ). get_or ws k 0) (omega arith)

pub row_stored : (ws : List ℕ) (b : ℕ) (l : List ℕ) → Lent (b + 1) ws → length l ≡ 8 → RowSet ws (paste ws (b * 8) l 8) b (members_of l)
unfolding row_of
row_stored ws b l lent full =
    record {
      long = length-paste ws (b * 8) l 8 room enough;
      rows = one_row ws (paste ws (b * 8) l 8) b (members_of l) this other;
    }
  where
    room : b * 8 + 8 ≤ length ws
    room = omega arith

    enough : 8 ≤ length l
    enough = omega arith

    this : row_of (paste ws (b * 8) l 8) b ≡ members_of l
    this = sym (row_same l (paste ws (b * 8) l 8) b (λ i h. sym (copied_in ws (b * 8) l 8 room enough i h)))

    elsewhere : (q i : ℕ) → (q ≡ b → ⊥) → i < 8 → get_or (paste ws (b * 8) l 8) (q * 8 + i) 0 ≡ get_or ws (q * 8 + i) 0
    elsewhere q i n h = elim (dec_lt q b) [
      | yes a ↦ copied_before ws (b * 8) l 8 room enough (q * 8 + i) (omega arith)
      | no a ↦ copied_behind ws (b * 8) l 8 room enough (q * 8 + i) (omega (arith, a, n))
    ]

    other : (q : ℕ) → (q ≡ b → ⊥) → row_of (paste ws (b * 8) l 8) q ≡ row_of ws q
    other q n = row_same (drop (q * 8) (paste ws (b * 8) l 8)) ws q (λ i h. get_or-drop (q * 8) (paste ws (b * 8) l 8) i 0 ∙ elsewhere q i n h)

-- what a store in row b leaves in it and in each other row

module _ (ws vs : List ℕ) (b : ℕ) (s : NodeSet) (stored : RowSet ws vs b s) where
  pub this_row : row_of vs b ≡ s
  this_row =
      let n = rows_count ws (b + 1) in
      sym (row_at vs (b + 1) b (omega arith))
      ∙ ap (λ (r : List NodeSet). get_or r b []) (stored.rows (b + 1))
      ∙ get_or-set_same (rows_of ws (b + 1)) b s [] (omega arith)

  pub other_row : (q : ℕ) → (q ≡ b → ⊥) → row_of vs q ≡ row_of ws q
  other_row q d =
      sym (row_at vs (q + 1) q (omega arith))
      ∙ ap (λ (r : List NodeSet). get_or r q []) (stored.rows (q + 1))
      ∙ get_or-set_other (rows_of ws (q + 1)) b q s [] d
      ∙ row_at ws (q + 1) q (omega arith)

-- The sets that lent words hold, a row of eight words for each.
use Rattle.std.specs.Prelude.{ℕ, zero, suc, ◌*◌, ◌≤◌, ◌≡◌, List, [], ◌∷◌, length, drop, set}
use Rattle.model.specs.Sets.{NodeSet}
use Rattle.rows.specs.Members.{members_of}

-- Lent words have room for n rows.
abbrev pub Lent : ℕ → List ℕ → Type 0
Lent n ws = n * 8 ≤ length ws

-- Row b: the set in the eight words from b * 8 on.
unfoldable pub row_of : List ℕ → ℕ → NodeSet
row_of ws b = members_of (drop (b * 8) ws)

-- n rows from row b on
abbrev pub rows_from : List ℕ → ℕ → ℕ → List NodeSet
rows_from ws b zero = []
rows_from ws b (suc n) = row_of ws b ∷ rows_from ws (suc b) n

-- the first n rows
unfoldable pub rows_of : List ℕ → ℕ → List NodeSet
rows_of ws n = rows_from ws 0 n

-- what a store of a set in row b leaves, among however many rows
pub record RowSet (entry exit : List ℕ) (b : ℕ) (s : NodeSet) : Type 0 where
  pub long : length exit ≡ length entry
  pub rows : (n : ℕ) → rows_of exit n ≡ set (rows_of entry n) b s

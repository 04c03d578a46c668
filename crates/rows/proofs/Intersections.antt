-- The intersection of rows: of the rows passed, met word by word, and of those still to come.
use Prim.Native.Nat.{ℕ, zero, suc, ◌≤◌, ◌<◌}
use native.Mathlib.Omega.{arith}
use mathlib.Core.Path.{refl, ◌≡◌, ap}
use mathlib.Core.List.{List, [], ◌∷◌, map, foldl}
use lib.ListN.{length, get_or, drop}
use Rattle.model.specs.ListLaws.{All}
use Rattle.model.specs.Sets.{NodeSet, intersection}
use Rattle.model.specs.Propagation.{intersection_of}
use Rattle.rows.specs.Members.{members_of}
use Rattle.rows.specs.Rows.{row_of}

-- what holds of every place, at one of them
pub all_at : (P : ℕ → Type 0) (places : List ℕ) (i : ℕ) → All P places → i < length places → P (get_or places i 0)
all_at P [] i a l = absurd (omega arith)
all_at P (b ∷ bs) zero a l = a.0
all_at P (b ∷ bs) (suc i) a l = all_at P bs i a.1 (omega arith)

-- The loop over the places: the rows of those from i on are still to come.
pub record Met (ws places found : List ℕ) (i : ℕ) : Type 0 where
  pub within : i ≤ length places
  pub rest : foldl intersection (members_of found) (map (row_of ws) (drop i places)) ≡ intersection_of (map (row_of ws) places)

-- of no place
pub none_met : (ws places : List ℕ) → length places ≡ 0 → [] ≡ intersection_of (map (row_of ws) places)
unfolding intersection_of
none_met ws [] e = refl
none_met ws (p ∷ ps) e = absurd (omega arith)

pub met_first : (ws places found : List ℕ) → 0 < length places → members_of found ≡ row_of ws (get_or places 0 0) → Met ws places found 1
unfolding intersection_of
met_first ws [] found l e = absurd (omega arith)
met_first ws (p ∷ ps) found l e = record {
  within = omega arith;
  rest = ap (λ (s : NodeSet). foldl intersection s (map (row_of ws) ps)) e;
}

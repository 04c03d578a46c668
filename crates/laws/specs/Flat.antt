-- A forest as a list of nodes with parent numbers, in the order in which they were made. Node k's
-- number is k + 1, and 0 is the parent of the first positions. A node stands after its parent, so
-- that one pass over the list enters a way down.
use Rattle.std.specs.Prelude.{ℕ, suc, Bool, ◌&&◌, cond, List, [], ◌∷◌, ◌++◌, map, eqb}
use Rattle.model.specs.Forest.{Key, same_key, Forest, empty, position}

-- A position with the number of its parent.
pub record Node (P : Type 0) : Type 0 where
  pub parent : ℕ
  pub here : P

module _ {P : Type 0} where
  -- the forest below number p, in a list that starts after i nodes
  abbrev pub grow : List (Node P) → ℕ → ℕ → Forest P
  grow [] i p = empty
  grow (x ∷ xs) i p = cond (eqb x.parent p) (position x.here (grow xs (suc i) (suc i)) (grow xs (suc i) p)) (grow xs (suc i) p)

  -- new nodes for a way down from number p, after i nodes
  abbrev pub fresh : ℕ → ℕ → List P → List (Node P)
  fresh i p [] = []
  fresh i p (s ∷ ss) = record { parent = p; here = s } ∷ fresh (suc i) (suc i) ss

  module _ (test : P → Bool) where
    -- the ways down from number p to the first nodes that pass the test
    abbrev pub flat_firsts : List (Node P) → ℕ → ℕ → List (List P)
    flat_firsts [] i p = []
    flat_firsts (x ∷ xs) i p =
        cond (eqb x.parent p)
        (map (λ w. x.here ∷ w) (cond (test x.here) ([] ∷ []) (flat_firsts xs (suc i) (suc i))) ++ flat_firsts xs (suc i) p)
        (flat_firsts xs (suc i) p)

  module _ (key : P → Key) (merge : P → P → P) where
    -- a way down from number p is entered: the node of that parent and key is merged with the
    -- position, another is made last
    abbrev pub enter : List (Node P) → ℕ → ℕ → List P → List (Node P)
    enter [] i p ss = fresh i p ss
    enter (x ∷ xs) i p [] = x ∷ xs
    enter (x ∷ xs) i p (s ∷ ss) =
        cond (eqb x.parent p && same_key (key x.here) (key s))
        (record { parent = x.parent; here = merge x.here s } ∷ enter xs (suc i) (suc i) ss)
        (x ∷ enter xs (suc i) p (s ∷ ss))

-- The forest that the words of a tree hold, and what the operations on it leave.
use Rattle.std.specs.Prelude.{
  ℕ,
  zero,
  suc,
  ◌+◌,
  ◌-◌,
  ◌≤◌,
  ◌<◌,
  ◌≡◌,
  Bool,
  true,
  cond,
  ◌&&◌,
  Option,
  Some,
  None,
  Result,
  Ok,
  Err,
  List,
  ◌∷◌,
  ◌++◌,
  map,
  length,
  get_or,
  set,
  eqb,
  leb,
}
use Rattle.entries.specs.Path.{ReactiveScopeDependency}
use Rattle.model.specs.Lists.{concat_map}
use Rattle.model.specs.Answer.{DE, path_bytes, span_width}
use Rattle.model.specs.Forest.{Forest, empty, position, same_key, add, firsts}
use Rattle.model.specs.Tree.{
  DependencyPosition,
  dependency_key,
  merge_position,
  is_dependency,
  root_position,
  key_identifier,
  entry_of,
  dependency_of,
}
use Rattle.tree.specs.declared.Position.{Position}
use Rattle.writer.specs.declared.Writer.{Writer}
use Rattle.writer.specs.Writes.{HasRoom, Puts}
use Rattle.laws.specs.Flat.{Node, grow, enter, flat_firsts}
use Rattle.tree.specs.Words.{parent_in, child_in, sibling_in, position_of, node_of, nodes_from, way_positions, linked_word}
use Rattle.tree.specs.Walk.{walk_by, bits_of, path_at}

-- how many positions there are, as the last word says
abbrev pub count_in : List ℕ → ℕ
count_in ws = get_or ws (length ws - 1) 0

-- all positions, with their parents
unfoldable pub nodes_of : List ℕ → List ℕ → List (Node DependencyPosition)
nodes_of s ws = nodes_from s ws 0 (count_in ws)

-- the forest that the words hold, over the job's bytes
unfoldable pub forest_of : List ℕ → List ℕ → Forest DependencyPosition
forest_of s ws = grow (nodes_of s ws) 0 0

-- how many positions the longest way down has
abbrev pub height : {P : Type 0} → Forest P → ℕ
height empty = zero
height (position p c r) = cond (leb (suc (height c)) (height r)) (height r) (suc (height c))

-- no position from place i on and before place l has the parent p
abbrev pub Apart : List ℕ → ℕ → ℕ → ℕ → Type 0
Apart ws p i l = (j : ℕ) → i ≤ j → j < l → ¬ (parent_in (get_or ws j 0) ≡ p)

-- The number of the first position from place i on that has the parent p; 0 where there is none.
pub record Next (ws : List ℕ) (i p number : ℕ) : Type 0 where
  pub within : number ≤ count_in ws
  pub behind : 0 < number → i < number
  pub own : 0 < number → parent_in (get_or ws (number - 1) 0) ≡ p
  pub first : 0 < number → Apart ws p i (number - 1)
  pub none : number ≤ 0 → Apart ws p i (count_in ws)

-- A link leads to that position: its number, or none.
abbrev pub Leads : List ℕ → ℕ → ℕ → Option ℕ → Type 0
Leads ws i p None = Next ws i p 0
Leads ws i p (Some number) = (0 < number) × Next ws i p number

-- A position stands behind its parent, and its links lead to its first child and to the next child
-- of its parent.
pub record Linked (ws : List ℕ) : Type 0 where
  pub parents : (j : ℕ) → j < count_in ws → parent_in (get_or ws j 0) ≤ j
  pub children : (j : ℕ) → j < count_in ws → Next ws (j + 1) (j + 1) (child_in (get_or ws j 0))
  pub siblings : (j : ℕ) → j < count_in ws → Next ws (j + 1) (parent_in (get_or ws j 0)) (sibling_in (get_or ws j 0))

-- no more words than links have numbers for, no more positions than there are words before the
-- last, and their links
pub record Sized (ws : List ℕ) : Type 0 where
  pub short : length ws ≤ 2048
  pub room : count_in ws < length ws
  pub linked : Linked ws

-- The words hold a tree in which no way down is longer than a candidate's.
pub record Held (s ws : List ℕ) : Type 0 where
  pub sized : Sized ws
  pub low : height (forest_of s ws) ≤ 17

-- the node has this parent and the key of this position
abbrev pub matches : Node DependencyPosition → ℕ → DependencyPosition → Bool
matches x p q = eqb x.parent p && same_key x.here.key q.key

-- a way down entered below number p into nodes that start after i nodes
abbrev pub entered : List (Node DependencyPosition) → ℕ → ℕ → List DependencyPosition → List (Node DependencyPosition)
entered = enter dependency_key merge_position

-- the positions from a number on
abbrev pub nodes_after : List ℕ → List ℕ → ℕ → List (Node DependencyPosition)
nodes_after s ws i = nodes_from s ws i (count_in ws - i)

-- the nodes after a way down is entered below number p, where those before number i are passed
abbrev pub entered_from : List ℕ → List ℕ → ℕ → ℕ → List DependencyPosition → List (Node DependencyPosition)
entered_from s ws i p ss = nodes_from s ws 0 i ++ entered (nodes_after s ws i) i p ss

-- Number l is the last child of p, or p itself where p has no child.
pub record LastChild (ws : List ℕ) (p l : ℕ) : Type 0 where
  pub behind : p ≤ l
  pub within : l ≤ count_in ws
  pub own : p < l → parent_in (get_or ws (l - 1) 0) ≡ p
  pub end : Apart ws p l (count_in ws)

-- A way down that goes on with the step's position is entered below its parent at the position of
-- this number, which has the same parent and key.
pub record Finds (s ws : List ℕ) (step number : ℕ) : Type 0 where
  pub some : 0 < number
  pub within : number ≤ count_in ws
  pub found : matches (node_of s (get_or ws (number - 1) 0)) (parent_in step) (position_of s step) ≡ true
  pub there : (ss : List DependencyPosition)
      → entered_from s ws (parent_in step) (parent_in step) (position_of s step ∷ ss)
      ≡ entered_from s ws (number - 1) (parent_in step) (position_of s step ∷ ss)

-- It is entered behind all positions, and this is the last child of its parent.
pub record Misses (s ws : List ℕ) (step l : ℕ) : Type 0 where
  pub none : (ss : List DependencyPosition)
      → entered_from s ws (parent_in step) (parent_in step) (position_of s step ∷ ss)
      ≡ entered_from s ws (count_in ws) (parent_in step) (position_of s step ∷ ss)
  pub last : LastChild ws (parent_in step) l

-- Where a way down that goes on with the step's position is entered.
abbrev pub Seeks : List ℕ → List ℕ → ℕ → Result ℕ ℕ → Type 0
Seeks s ws step (Ok number) = Finds s ws step number
Seeks s ws step (Err l) = Misses s ws step l

-- the words where number l has a link more: to the first child where it is the parent p, else to
-- the next sibling
unfoldable pub linked_words : List ℕ → ℕ → ℕ → ℕ → List ℕ
linked_words ws p l number = cond (eqb l 0) ws (set ws (l - 1) (linked_word (eqb l p) (get_or ws (l - 1) 0) number))

-- What making the step's position asks: room, the last child of its parent, and a word without
-- links.
pub record Appendable (ws : List ℕ) (l step : ℕ) : Type 0 where
  pub sized : Sized ws
  pub room : count_in ws + 1 < length ws
  pub last : LastChild ws (parent_in step) l
  pub low : step < 17179869184

-- The step's word stands behind the positions that were there, and is linked.
pub record Appends (before after : List ℕ) (l step number : ℕ) : Type 0 where
  pub last : number ≡ count_in before + 1
  pub is : after ≡ set (set (linked_words before (parent_in step) l (count_in before + 1)) (count_in before) step) (length before - 1)
      (count_in before + 1)

-- A way down goes on below number p with the position q: that stands at this number now, merged or
-- made, and the rest of the way is to be entered below it.
pub record Enters (s before after : List ℕ) (p : ℕ) (q : DependencyPosition) (number : ℕ) : Type 0 where
  pub sized : Sized after
  pub few : count_in after ≤ count_in before + 1
  pub some : 0 < number
  pub within : number ≤ count_in after
  pub is : (ss : List DependencyPosition) → entered_from s before p p (q ∷ ss) ≡ entered_from s after number number ss

-- The candidate at a place is added, with the flags that are bits of a number.
pub record Adds (s before after : List ℕ) (at levels : ℕ) : Type 0 where
  pub held : Held s after
  pub few : count_in after ≤ count_in before + 17
  pub is : forest_of s after ≡ add dependency_key merge_position (forest_of s before)
      (walk_by (bits_of 17 levels) (root_position (path_at s at)) (path_at s at).path)

-- what a path takes of a position
abbrev pub parts_of : DependencyPosition → Position
parts_of p = record { identifier = key_identifier p.key; reactive = p.reactive; entry = entry_of p }

-- "Returned are the first dependencies on each way down, roots and children in order of first
-- insertion": of the forest that the words hold.
unfoldable pub returned_of : List ℕ → List ℕ → List ReactiveScopeDependency
returned_of s ws = map dependency_of (firsts is_dependency (forest_of s ws))

-- the paths of the ways down from number p to the first dependencies, each behind the positions
-- already passed
abbrev pub returned_from : List DependencyPosition → List (Node DependencyPosition) → ℕ → ℕ → List ReactiveScopeDependency
returned_from before xs i p = map (λ w. dependency_of (before ++ w)) (flat_firsts is_dependency xs i p)

-- the paths that go through a way down to a parent and on to positions from a number on
unfoldable pub paths_from : List ℕ → List ℕ → ℕ → ℕ → List ℕ → ℕ → List ReactiveScopeDependency
paths_from s ws parent i way depth = returned_from (way_positions s way depth) (nodes_after s ws i) i parent

-- The positions of a way down of this depth stay.
pub record KeepsWay (before after : List ℕ) (depth : ℕ) : Type 0 where
  pub long : length after ≡ length before
  pub same : (j : ℕ) → j < depth → get_or after j 0 ≡ get_or before j 0

-- The records of these paths are written one after the other, and this is how many they are.
pub record Derives (paths : List ReactiveScopeDependency) (before after : Writer) (count : ℕ) : Type 0 where
  pub puts : Puts before after (length (concat_map (path_bytes span_width DE) paths)) (concat_map (path_bytes span_width DE) paths)
  pub counts : count ≡ length paths

-- What deriving below a parent asks: no way down is too long for the words of a way, and the
-- records have their room.
pub record Derivable (s ws : List ℕ) (parent : ℕ) (way : List ℕ) (depth : ℕ) (w : Writer) : Type 0 where
  pub sized : Sized ws
  pub within : parent ≤ count_in ws
  pub long : length way ≡ 17
  pub low : depth + height (grow (nodes_after s ws parent) parent parent) ≤ 17
  pub room : HasRoom w (length (concat_map (path_bytes span_width DE) (paths_from s ws parent parent way depth)))

-- The steps of a block's visit, and loops that visit one block after another.
use Prim.Native.Nat.{ℕ, ◌≤◌, ◌<◌}
use native.Mathlib.Omega.{arith}
use native.Mathlib.Nat.{le_refl, le_trans}
use mathlib.Core.Path.{◌≡◌, refl, sym, ap, subst, ◌∙◌}
use mathlib.Core.Logic.{◌≢◌}
use mathlib.Core.Bool.{Bool, false}
use mathlib.Core.List.{List, [], ◌∷◌}
use lib.ListN.{length, get_or, set}
use lib.Seq.{get_or-set_same, get_or-set_other}
use Rattle.model.specs.Visit.{Done, is_marked, Visited, unmarked_in, leave, each, visit}
use Rattle.model.specs.VisitLaws.{unmarked_enter, visit_marks, visit_recurs}
use Rattle.laws.specs.WalkSteps.{Step, noted}
use Rattle.model.specs.ListLaws.{All}
use Rattle.graph.specs.Bytes.{size_in, neighbours, GraphFits}
use Rattle.graph.proofs.Coming.{neighbours_inside}
use Rattle.propagation.specs.Order.{marks_of, noted_of, leaving, left_in, Noting, Notes}
use Rattle.propagation.proofs.Marks.{mark_set, zero_unmarked, more_marked}
use Rattle.propagation.proofs.Leaving.{left_below, entered_noting, entered_is, left_elsewhere, left_is, left_noting}

-- the definition's visit, which notes the steps
abbrev pub visit_in : List ℕ → Bool → ℕ → Visited (List Step) → Visited (List Step)
visit_in g backward b v = visit (neighbours g backward) noted b v

-- A loop that visits blocks: the visits of the blocks `bs`, those still to come, lead from what the
-- bytes hold to `end`. What was Active at the start is so, and no more blocks are unmarked.
pub record Along (g : List ℕ) (backward : Bool) (bs : List ℕ) (end : Visited (List Step)) (start o : List ℕ) : Type 0 where
  pub noting : Noting (size_in g) o
  pub active : (a : ℕ) → a < size_in g → get_or start a 0 ≡ 1 → get_or o a 0 ≡ 1
  pub fewer : unmarked_in (marks_of (size_in g) o) ≤ unmarked_in (marks_of (size_in g) start)
  pub rest : each (visit_in g backward) bs (noted_of (size_in g) o) ≡ end

pub along_start : {g : List ℕ} {backward : Bool} {o : List ℕ} → Noting (size_in g) o → (bs : List ℕ)
    → Along g backward bs (each (visit_in g backward) bs (noted_of (size_in g) o)) o o
along_start x bs = record { noting = x; active = λ a l e. e; fewer = le_refl _; rest = refl }

module _ {g : List ℕ} {backward : Bool} {end : Visited (List Step)} {start o : List ℕ} where
  -- the same with the blocks to come in another form
  pub along_by : {bs cs : List ℕ} → bs ≡ cs → Along g backward bs end start o → Along g backward cs end start o
  along_by e a = subst (λ (bs : List ℕ). Along g backward bs end start o) e a

  module _ {b : ℕ} {bs : List ℕ} (a : Along g backward (b ∷ bs) end start o) (inside : b < size_in g) where
    -- a block that is marked already is passed over
    pub along_marked : (get_or o b 0 ≡ 0 → ⊥) → Along g backward bs end start o
    along_marked marked-here =
        let long = a.noting.long in
        let small = a.noting.small in
        let here = more_marked (size_in g) o b inside (omega arith) marked-here in
        record {
          noting = a.noting;
          active = a.active;
          fewer = a.fewer;
          rest = ap (each (visit_in g backward) bs) (sym ((visit_recurs (neighbours g backward) noted b (noted_of (size_in g) o)).0 here)) ∙ a.rest;
        }

    -- another is visited
    pub along_more : {o' : List ℕ} → Notes (visit_in g backward b (noted_of (size_in g) o)) (size_in g) o o' → Along g backward bs end start o'
    along_more {o'} h = record {
      noting = h.noting;
      active = λ c l e. h.active c l (a.active c l e);
      fewer = le_trans (subst (λ (v : Visited (List Step)). unmarked_in v.marks ≤ unmarked_in (marks_of (size_in g) o)) h.same
          (visit_marks (neighbours g backward) noted b (noted_of (size_in g) o))) a.fewer;
      rest = ap (each (visit_in g backward) bs) (sym h.same) ∙ a.rest;
    }

-- What a visit requires.
pub record Enters (g : List ℕ) (b : ℕ) (o : List ℕ) : Type 0 where
  pub inside : b < size_in g
  pub noting : Noting (size_in g) o
  pub unmarked : get_or o b 0 ≡ 0

-- The loop over the neighbours of block b: those left are still to be visited, and are blocks.
pub record Neighbouring (g : List ℕ) (backward : Bool) (b : ℕ) (entered o left : List ℕ) : Type 0 where
  pub along : Along g backward left (each (visit_in g backward) (neighbours g backward b) (noted_of (size_in g) entered)) entered o
  pub inside : All (λ k. k < size_in g) left

-- the same with the neighbours left in another form
pub neighbouring_by : {g : List ℕ} {backward : Bool} {b : ℕ} {entered o ks js : List ℕ} → ks ≡ js → Neighbouring g backward b entered o ks
    → Neighbouring g backward b entered o js
neighbouring_by {g} {backward} {b} {entered} {o} e a = subst (Neighbouring g backward b entered o) e a

module _ {g : List ℕ} {backward : Bool} {b : ℕ} {entered o : List ℕ} {k : ℕ} {ks : List ℕ} (a : Neighbouring g backward b entered o (k ∷ ks)) where
  pub neighbouring_marked : (get_or o k 0 ≡ 0 → ⊥) → Neighbouring g backward b entered o ks
  neighbouring_marked marked = record { along = along_marked a.along a.inside.0 marked; inside = a.inside.1 }

  pub neighbouring_more : {o' : List ℕ} → Notes (visit_in g backward k (noted_of (size_in g) o)) (size_in g) o o' → Neighbouring g backward b entered o' ks
  neighbouring_more h = record { along = along_more a.along a.inside.0 h; inside = a.inside.1 }

module _ {g : List ℕ} {b : ℕ} {o : List ℕ} (e : Enters g b o) where
  room : b < length o
  room = let l = e.noting.long in let s = e.noting.small in let i = e.inside in omega arith

  pub block_inside : b < 257
  block_inside = let l = e.noting.long in let r = room in omega arith

  unmarked_here : is_marked (get_or (marks_of (size_in g) o) b Done) ≡ false
  unmarked_here = zero_unmarked (size_in g) o b e.inside room e.unmarked

  entered_fewer : unmarked_in (marks_of (size_in g) (set o b 1)) < unmarked_in (marks_of (size_in g) o)
  entered_fewer = rw (mark_set (size_in g) o b e.inside 1) (let one = unmarked_enter (marks_of (size_in g) o) b unmarked_here in omega arith)

  pub neighbours_start : GraphFits g → (backward : Bool) → Neighbouring g backward b (set o b 1) (set o b 1) (neighbours g backward b)
  neighbours_start fits backward = record {
    along = along_start (entered_noting e.noting e.inside e.unmarked) (neighbours g backward b);
    inside = neighbours_inside fits e.inside backward;
  }

  module _ {backward : Bool} {o' left : List ℕ} (a : Neighbouring g backward b (set o b 1) o' left) where
    -- the block is still Active
    still_active : get_or o' b 0 ≡ 1
    still_active = a.along.active b e.inside (get_or-set_same o b 1 0 room)

    pub leave_room : left_in o' < 128
    leave_room =
        let one = still_active in
        let below = left_below a.along.noting e.inside (omega arith) in
        let small = a.along.noting.small in
        omega arith

    pub call_falls : unmarked_in (marks_of (size_in g) o') < unmarked_in (marks_of (size_in g) o)
    call_falls = let f = a.along.fewer in let l = entered_fewer in omega arith

    -- no neighbour is still to come: the block is left
    pub visit_ends : left ≡ [] → Notes (visit_in g backward b (noted_of (size_in g) o)) (size_in g) o (leaving o' b)
    visit_ends none = record {
      noting = left_noting a.along.noting e.inside still_active;
      same =
          (visit_recurs (neighbours g backward) noted b (noted_of (size_in g) o)).1 unmarked_here
          ∙ ap (λ (v : Visited (List Step)). leave noted b (each (visit_in g backward) (neighbours g backward b) v))
          (sym (entered_is e.noting e.inside e.unmarked))
          ∙ ap (leave noted b) (sym (along_by none a.along).rest)
          ∙ sym (left_is a.along.noting e.inside still_active);
      active = λ c l one.
          let other : c ≢ b = λ same. let zero : get_or o c 0 ≡ 0 = ap (λ (k : ℕ). get_or o k 0) same ∙ e.unmarked in omega arith in
          left_elsewhere a.along.noting e.inside still_active c l other ∙ a.along.active c l (get_or-set_other o b c 1 0 other ∙ one);
    }

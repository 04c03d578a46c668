-- In a graph without loops each neighbour of a block is Done when the block is joined. So what each
-- such join keeps, a walk keeps.
use Rattle.std.specs.Prelude.{ℕ, zero, suc, ◌≤◌, ◌<◌, ◌≡◌, refl, ◌⊎◌, ◌≢◌, Bool, true, false, List, [], ◌∷◌, length, get_or, set, eqb}
use native.Mathlib.Nat.{le_refl, le_trans}
use Rattle.std.proofs.Common.{arith, sym, ap, subst, ◌∙◌, inl, inr, length-set, get_or-set_same, get_or-set_other}
use Rattle.std.proofs.Math.ListN.{replicate}
use Rattle.std.proofs.lemmas.List.{length-replicate}
use Rattle.model.specs.Visit.{
  TraversalState,
  Unmarked,
  Active,
  Done,
  is_marked,
  is_done,
  Visited,
  unmarked_in,
  marked,
  enter,
  leave,
  each,
  visit,
}
use Rattle.model.specs.Rounds.{walk}
use Rattle.model.specs.Tests.{decide, never, eqb-true, eqb-false}
use Rattle.model.specs.ListLaws.{All, all_map}
use Rattle.model.specs.VisitLaws.{unmarked_enter, visit_marks, visit_recurs}
use Rattle.laws.specs.Membership.{Member, all_of}

-- a block reached by one step or more
pub data Reach (near : ℕ → List ℕ) : ℕ → ℕ → Type 0 where
  one : {a b : ℕ} → Member b (near a) → Reach near a b
  more : {a b c : ℕ} → Reach near a b → Member c (near b) → Reach near a c

-- Marks, each asked of a block of the graph.

abbrev is_active : TraversalState → Bool
is_active Unmarked = false
is_active Active = true
is_active Done = false

abbrev mark_at : List TraversalState → ℕ → TraversalState
mark_at marks b = get_or marks b Unmarked

abbrev pub IsDone : List TraversalState → ℕ → Type 0
IsDone marks b = is_done (mark_at marks b) ≡ true

abbrev IsActive : List TraversalState → ℕ → Type 0
IsActive marks b = is_active (mark_at marks b) ≡ true

-- `marked` asks with another default
marked_at : (marks : List TraversalState) (b : ℕ) → b < length marks → get_or marks b Done ≡ mark_at marks b
marked_at [] b h = absurd (native.Mathlib.Nat.not-suc-le-zero h)
marked_at (m ∷ ms) zero h = refl
marked_at (m ∷ ms) (suc b) h = marked_at ms b (omega arith)

marked_done : (m : TraversalState) → is_marked m ≡ true → (is_active m ≡ true → ⊥) → is_done m ≡ true
marked_done Unmarked t f = never t refl
marked_done Active t f = absurd (f refl)
marked_done Done t f = refl

unmarked_not_done : (m : TraversalState) → is_marked m ≡ false → is_done m ≡ true → ⊥
unmarked_not_done Unmarked t d = never d refl
unmarked_not_done Active t d = never d refl
unmarked_not_done Done t d = never refl t

-- the mark of a block after another, or the same, has been set
set_cases : (marks : List TraversalState) (b a : ℕ) (m : TraversalState) → b < length marks →
    ((a ≡ b) × (mark_at (set marks b m) a ≡ m)) ⊎ ((a ≢ b) × (mark_at (set marks b m) a ≡ mark_at marks a))
set_cases marks b a m h =
    decide (eqb a b)
    (λ e. let same = eqb-true a b e in inl (same, ap (mark_at (set marks b m)) same ∙ get_or-set_same marks b m Unmarked h))
    (λ e. let other = eqb-false a b e in inr (other, get_or-set_other marks b a m Unmarked other))

-- What a visit leaves as it was.
record Later (n : ℕ) (old new : List TraversalState) : Type 0 where
  size : length new ≡ n
  active : (a : ℕ) → IsActive new a → IsActive old a
  done : (a : ℕ) → IsDone old a → IsDone new a

later_refl : (n : ℕ) (marks : List TraversalState) → length marks ≡ n → Later n marks marks
later_refl n marks h = record { size = h; active = λ a x. x; done = λ a x. x }

later_trans : {n : ℕ} {a b c : List TraversalState} → Later n a b → Later n b c → Later n a c
later_trans x y = record { size = y.size; active = λ a h. x.active a (y.active a h); done = λ a h. y.done a (x.done a h) }

module _ {W : Type 0} (P : W → Type 0) (n : ℕ) (near : ℕ → List ℕ) (join : ℕ → List TraversalState → W → W)
    (in_graph : (b : ℕ) → All (λ c. c < n) (near b))
    (joins : (b : ℕ) (marks : List TraversalState) (w : W) → b < n → All (IsDone marks) (near b) → P w → P (join b marks w))
    (no_loop : (b : ℕ) → Reach near b b → ⊥) where
  -- every active block leads to b
  abbrev Above : Visited W → ℕ → Type 0
  Above v b = (a : ℕ) → IsActive v.marks a → Reach near a b

  record Ordered (v v' : Visited W) : Type 0 where
    kept : P v'.work
    later : Later n v.marks v'.marks

  ordered_refl : (v : Visited W) → P v.work → length v.marks ≡ n → Ordered v v
  ordered_refl v p h = record { kept = p; later = later_refl n v.marks h }

  abbrev Orders : ℕ → Type 0
  Orders k = (b : ℕ) (v : Visited W) → unmarked_in v.marks ≤ k → length v.marks ≡ n → b < n → P v.work → Above v b
      → Ordered v (visit near join b v) × IsDone (visit near join b v).marks b

  each_orders : (k : ℕ) → Orders k → (bs : List ℕ) (v : Visited W) → unmarked_in v.marks ≤ k → length v.marks ≡ n → All
      (λ b. b < n) bs → P v.work → All (Above v) bs
      → Ordered v (each (visit near join) bs v) × All (IsDone (each (visit near join) bs v).marks) bs
  each_orders k orders [] v u h i p a = (ordered_refl v p h, tt)
  each_orders k orders (b ∷ bs) v u h i p a =
      let first = orders b v u h i.0 p a.0 in
      let v' = visit near join b v in
      let later = first.0.later in
      let rest = each_orders k orders bs v' (le_trans (visit_marks near join b v) u) later.size i.1 first.0.kept
      (all_map (Above v) (Above v') (λ c up d x. up d (later.active d x)) bs a.1) in
      (record { kept = rest.0.kept; later = later_trans later rest.0.later }, (rest.0.later.done b first.1, rest.1))

  -- what was Done stays Done when another block is entered
  enter_later : (v : Visited W) (b : ℕ) → length v.marks ≡ n → b < n → marked b v ≡ false → (a : ℕ) → IsDone v.marks a
      → IsDone (enter b v).marks a
  enter_later v b h i t a d = go (set_cases v.marks b a Active (rw h i))
    where
      go : ((a ≡ b) × (mark_at (set v.marks b Active) a ≡ Active)) ⊎
          ((a ≢ b) × (mark_at (set v.marks b Active) a ≡ mark_at v.marks a)) → IsDone (enter b v).marks a
      go (inl e) = absurd (unmarked_not_done (mark_at v.marks b) (ap is_marked (sym (marked_at v.marks b (rw h i))) ∙ t)
          (subst (IsDone v.marks) e.0 d))
      go (inr e) = ap is_done e.1 ∙ d

  -- an active block is the one entered, or was active before
  enter_active : (v : Visited W) (b : ℕ) → length v.marks ≡ n → b < n → (a : ℕ) → IsActive (enter b v).marks a → (a ≡ b)
      ⊎ IsActive v.marks a
  enter_active v b h i a x = go (set_cases v.marks b a Active (rw h i))
    where
      go : ((a ≡ b) × (mark_at (set v.marks b Active) a ≡ Active)) ⊎
          ((a ≢ b) × (mark_at (set v.marks b Active) a ≡ mark_at v.marks a)) → (a ≡ b) ⊎ IsActive v.marks a
      go (inl e) = inl e.0
      go (inr e) = inr (sym (ap is_active e.1) ∙ x)

  enter_above : (v : Visited W) (b : ℕ) → length v.marks ≡ n → b < n → Above v b → All (Above (enter b v)) (near b)
  enter_above v b h i up = all_of (Above (enter b v)) (near b) (λ c m a x. go c m a (enter_active v b h i a x))
    where
      go : (c : ℕ) → Member c (near b) → (a : ℕ) → (a ≡ b) ⊎ IsActive v.marks a → Reach near a c
      go c m a (inl e) = subst (λ d. Reach near d c) (sym e) (one m)
      go c m a (inr x) = more (up a x) m

  -- the block is left: it is Done, and no longer active
  leave_ordered : (v mid : Visited W) (b : ℕ) → length v.marks ≡ n → b < n → marked b v ≡ false → Ordered (enter b v) mid → All
      (IsDone mid.marks) (near b)
      → Ordered v (leave join b mid) × IsDone (leave join b mid).marks b
  leave_ordered v mid b h i t o d = (
    record {
      kept = joins b mid.marks mid.work i d o.kept;
      later = record { size = length-set mid.marks b Done ∙ o.later.size; active = active; done = done };
    },
    ap is_done (get_or-set_same mid.marks b Done Unmarked inside),
  )
    where
      inside : b < length mid.marks
      inside = rw o.later.size i

      active : (a : ℕ) → IsActive (leave join b mid).marks a → IsActive v.marks a
      active a x = go (set_cases mid.marks b a Done inside)
        where
          before : (a ≢ b) → (a ≡ b) ⊎ IsActive v.marks a → IsActive v.marks a
          before other (inl e) = absurd (other e)
          before other (inr y) = y

          go : ((a ≡ b) × (mark_at (set mid.marks b Done) a ≡ Done)) ⊎
              ((a ≢ b) × (mark_at (set mid.marks b Done) a ≡ mark_at mid.marks a)) → IsActive v.marks a
          go (inl e) = never (sym (ap is_active e.1) ∙ x) refl
          go (inr e) = before e.0 (enter_active v b h i a (o.later.active a (sym (ap is_active e.1) ∙ x)))

      done : (a : ℕ) → IsDone v.marks a → IsDone (leave join b mid).marks a
      done a x = go (set_cases mid.marks b a Done inside)
        where
          go : ((a ≡ b) × (mark_at (set mid.marks b Done) a ≡ Done)) ⊎
              ((a ≢ b) × (mark_at (set mid.marks b Done) a ≡ mark_at mid.marks a)) → IsDone (leave join b mid).marks a
          go (inl e) = ap is_done e.1
          go (inr e) = ap is_done e.1 ∙ o.later.done a (enter_later v b h i t a x)

  -- where the block is marked already, it is not active, since an active block leads to it
  already : (b : ℕ) (v : Visited W) → length v.marks ≡ n → b < n → P v.work → Above v b → marked b v ≡ true → Ordered v
      (visit near join b v) × IsDone (visit near join b v).marks b
  already b v h i p up t =
      rw ((visit_recurs near join b v).0 t) (
        ordered_refl v p h,
        marked_done (mark_at v.marks b) (ap is_marked (sym (marked_at v.marks b (rw h i))) ∙ t)
            (λ x. no_loop b (up b x)),
      )

  visit_orders : (k : ℕ) → Orders k
  visit_orders zero b v u h i p up =
      already b v h i p up (decide (marked b v) (λ t. t) (λ t. absurd (let less = unmarked_enter v.marks b t in omega arith)))
  visit_orders (suc k) b v u h i p up =
      decide (marked b v) (already b v h i p up)
      (λ t.
      let less = unmarked_enter v.marks b t in
      let inner = each_orders k (visit_orders k) (near b) (enter b v) (omega arith) (length-set v.marks b Active ∙ h)
      (in_graph b) p (enter_above v b h i up) in
      rw ((visit_recurs near join b v).1 t) (leave_ordered v (each (visit near join) (near b) (enter b v)) b h i t inner.0 inner.1))

  replicate_idle : (m a : ℕ) → IsActive (replicate m Unmarked) a → ⊥
  replicate_idle zero a x = never x refl
  replicate_idle (suc m) zero x = never x refl
  replicate_idle (suc m) (suc a) x = replicate_idle m a x

  -- a walk starts with no block marked
  pub walk_keeps : (order : List ℕ) (w : W) → All (λ b. b < n) order → P w → P (walk n near join order w)
  unfolding walk
  walk_keeps order w i p =
      let start : Visited W = record { marks = replicate n Unmarked; work = w } in
      (each_orders (unmarked_in start.marks) (visit_orders (unmarked_in start.marks)) order start (le_refl _)
      (length-replicate n Unmarked) i p
      (all_of (Above start) order (λ b m a x. absurd (replicate_idle n a x)))).0.kept

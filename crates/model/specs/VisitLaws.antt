-- The depth of a visit is enough: `visit` satisfies the recursion that names no depth, and nothing
-- else does. What holds between the work before and after each join holds between the work before
-- and after a visit, a walk and all rounds. What a join makes of its block, and every join keeps,
-- holds of each block that a visit marks.
use Prim.Native.Nat.{ℕ, zero, suc, ◌≤◌}
use Rattle.std.proofs.Math.Nat.{le_refl}
use Rattle.std.proofs.Common.{le_trans, arith, subst, ◌∙◌, get_or-set_other}
use Rattle.std.specs.Prelude.{◌≡◌, true, false, List, [], ◌∷◌, get_or, eqb}
use Rattle.std.proofs.Math.Path.{refl, sym, ap}
use Rattle.std.proofs.Math.ListN.{set}
use Rattle.model.specs.Tests.{decide, never, eqb-true, eqb-false}
use Rattle.model.specs.ListLaws.{All, set_here}
use Rattle.model.specs.Visit.{
  TraversalState,
  Unmarked,
  Active,
  Done,
  is_marked,
  Visited,
  unmarked_in,
  marked,
  enter,
  leave,
  each,
  visit_within,
  visit,
}

-- Marks.

unmarked_cons : (m : TraversalState) (ms : List TraversalState) → is_marked m ≡ true → unmarked_in (m ∷ ms) ≡ unmarked_in ms
unfolding unmarked_in
unmarked_cons Unmarked ms e = never e refl
unmarked_cons Active ms e = refl
unmarked_cons Done ms e = refl

unmarked_set : (ms : List TraversalState) (b : ℕ) (m : TraversalState) → is_marked m ≡ true → unmarked_in (set ms b m) ≤ unmarked_in ms
unfolding unmarked_in
unmarked_set [] b m e = omega arith
unmarked_set (Unmarked ∷ ms) zero m e = omega (arith, unmarked_cons m ms e)
unmarked_set (Active ∷ ms) zero m e = omega (arith, unmarked_cons m ms e)
unmarked_set (Done ∷ ms) zero m e = omega (arith, unmarked_cons m ms e)
unmarked_set (Unmarked ∷ ms) (suc b) m e = omega (arith, unmarked_set ms b m e)
unmarked_set (Active ∷ ms) (suc b) m e = unmarked_set ms b m e
unmarked_set (Done ∷ ms) (suc b) m e = unmarked_set ms b m e

-- entering an unmarked block marks one
pub unmarked_enter : (ms : List TraversalState) (b : ℕ) → is_marked (get_or ms b Done) ≡ false → unmarked_in ms ≡ suc
    (unmarked_in (set ms b Active))
unfolding unmarked_in
unmarked_enter [] b e = never refl e
unmarked_enter (Unmarked ∷ ms) zero e = refl
unmarked_enter (Active ∷ ms) zero e = never refl e
unmarked_enter (Done ∷ ms) zero e = never refl e
unmarked_enter (Unmarked ∷ ms) (suc b) e = ap suc (unmarked_enter ms b e)
unmarked_enter (Active ∷ ms) (suc b) e = unmarked_enter ms b e
unmarked_enter (Done ∷ ms) (suc b) e = unmarked_enter ms b e

none_unmarked : {W : Type 0} (b : ℕ) (v : Visited W) → unmarked_in v.marks ≤ 0 → marked b v ≡ true
none_unmarked b v h = decide (marked b v) (λ e. e) (λ e. absurd (let one = unmarked_enter v.marks b e in omega arith))

-- Steps after which no more blocks are unmarked than before.

abbrev pub Marks : {W : Type 0} → (ℕ → Visited W → Visited W) → Type 0
Marks {W} step = (b : ℕ) (v : Visited W) → unmarked_in (step b v).marks ≤ unmarked_in v.marks

-- two steps that agree wherever at most k blocks are unmarked
abbrev AgreeTo : {W : Type 0} → ℕ → (f g : ℕ → Visited W → Visited W) → Type 0
AgreeTo {W} k f g = (b : ℕ) (v : Visited W) → unmarked_in v.marks ≤ k → f b v ≡ g b v

pub each_marks : {W : Type 0} (step : ℕ → Visited W → Visited W) → Marks step → (bs : List ℕ) (v : Visited W) → unmarked_in
    (each step bs v).marks ≤ unmarked_in v.marks
each_marks step h [] v = le_refl _
each_marks step h (b ∷ bs) v = le_trans (each_marks step h bs (step b v)) (h b v)

each_agree : {W : Type 0} (k : ℕ) (f g : ℕ → Visited W → Visited W) → Marks f → AgreeTo k f g → (bs : List ℕ) (v : Visited W)
    → unmarked_in v.marks ≤ k → each f bs v ≡ each g bs v
each_agree k f g h same [] v le = refl
each_agree k f g h same (b ∷ bs) v le = each_agree k f g h same bs (f b v) (le_trans (h b v) le) ∙ ap (each g bs) (same b v le)

module _ {W : Type 0} (near : ℕ → List ℕ) (join : ℕ → List TraversalState → W → W) where
  -- the equation of the recursion, which `v` satisfies with `w` for the inner visits
  abbrev pub Recurs : (v w : ℕ → Visited W → Visited W) → Type 0
  Recurs v w = (b : ℕ) (x : Visited W) →
      (marked b x ≡ true → v b x ≡ x) × (marked b x ≡ false → v b x ≡ leave join b (each w (near b) (enter b x)))

  within_step : (most : ℕ) → Recurs (visit_within (suc most) near join) (visit_within most near join)
  unfolding visit_within
  within_step most b x = ((λ e. rw (e, visit_within)), (λ e. rw (e, visit_within)))

  within_marks : (most : ℕ) → Marks (visit_within most near join)
  unfolding visit_within
  within_marks zero b x = le_refl _
  within_marks (suc most) b x =
      let inner = each_marks (visit_within most near join) (within_marks most) (near b) (enter b x) in
      decide (marked b x) (λ e. rw ((within_step most b x).0 e) (le_refl _))
      (λ e. rw ((within_step most b x).1 e)
      (le_trans (unmarked_set (each (visit_within most near join) (near b) (enter b x)).marks b Done refl)
      (le_trans inner (unmarked_set x.marks b Active refl))))

  within_marked : (most b : ℕ) (x : Visited W) → marked b x ≡ true → visit_within most near join b x ≡ x
  unfolding visit_within
  within_marked zero b x e = refl
  within_marked (suc most) b x e = (within_step most b x).0 e

  -- two depths that are each enough give the same
  within_enough : (f g b : ℕ) (x : Visited W) → unmarked_in x.marks ≤ f → unmarked_in x.marks ≤ g
      → visit_within f near join b x ≡ visit_within g near join b x
  within_enough zero g b x hf hg = within_marked zero b x (none_unmarked b x hf) ∙ sym (within_marked g b x (none_unmarked b x hf))
  within_enough (suc f) zero b x hf hg = within_marked (suc f) b x (none_unmarked b x hg) ∙ sym
      (within_marked zero b x (none_unmarked b x hg))
  within_enough (suc f) (suc g) b x hf hg =
      let k = unmarked_in (enter b x).marks in
      decide (marked b x) (λ e. within_marked (suc f) b x e ∙ sym (within_marked (suc g) b x e))
      (λ e.
      let fewer = unmarked_enter x.marks b e in
      (within_step f b x).1 e
      ∙ ap (leave join b) (each_agree k (visit_within f near join) (visit_within g near join) (within_marks f)
      (λ n y le. within_enough f g n y (omega arith) (omega arith)) (near b) (enter b x) (le_refl _))
      ∙ sym ((within_step g b x).1 e))

  pub visit_marks : Marks (visit near join)
  unfolding visit
  visit_marks b x = within_marks (unmarked_in x.marks) b x

  -- `visit` satisfies the recursion that names no depth ..
  pub visit_recurs : Recurs (visit near join) (visit near join)
  unfolding visit
  visit_recurs b x = (
    within_marked (unmarked_in x.marks) b x,
    λ e.
        let k = unmarked_in (enter b x).marks in
        ap (λ (most : ℕ). visit_within most near join b x) (unmarked_enter x.marks b e)
        ∙ (within_step k b x).1 e
        ∙ ap (leave join b) (each_agree k (visit_within k near join) (visit near join) (within_marks k)
        (λ n y le. within_enough k (unmarked_in y.marks) n y le (le_refl _)) (near b) (enter b x) (le_refl _)),
  )

  -- .. more depth changes nothing ..
  pub visit_more : (most b : ℕ) (x : Visited W) → unmarked_in x.marks ≤ most → visit_within most near join b x ≡ visit near join b x
  unfolding visit
  visit_more most b x le = within_enough most (unmarked_in x.marks) b x le (le_refl _)

  only_to : (v : ℕ → Visited W → Visited W) → Recurs v v → (k : ℕ) → AgreeTo k (visit near join) v
  only_to v r zero b x le = (visit_recurs b x).0 (none_unmarked b x le) ∙ sym ((r b x).0 (none_unmarked b x le))
  only_to v r (suc k) b x le =
      decide (marked b x) (λ e. (visit_recurs b x).0 e ∙ sym ((r b x).0 e))
      (λ e.
      let fewer = unmarked_enter x.marks b e in
      (visit_recurs b x).1 e ∙ ap (leave join b)
      (each_agree k (visit near join) v visit_marks (only_to v r k) (near b) (enter b x) (omega arith)) ∙ sym ((r b x).1 e))

  -- .. and no other function satisfies it.
  pub visit_only : (v : ℕ → Visited W → Visited W) → Recurs v v → (b : ℕ) (x : Visited W) → visit near join b x ≡ v b x
  visit_only v r b x = only_to v r (unmarked_in x.marks) b x (le_refl _)

-- What each join does, a visit does.

-- a relation between the work before and after a step
pub record Preorder {W : Type 0} (R : W → W → Type 0) : Type 0 where
  pub none : (w : W) → R w w
  pub after : (u v w : W) → R u v → R v w → R u w

module _ {W : Type 0} (R : W → W → Type 0) (order : Preorder R) where
  pub each_does : (step : ℕ → Visited W → Visited W) → ((b : ℕ) (x : Visited W) → R x.work (step b x).work) → (bs : List ℕ)
      (x : Visited W) → R x.work (each step bs x).work
  each_does step h [] x = order.none x.work
  each_does step h (b ∷ bs) x = order.after x.work (step b x).work _ (h b x) (each_does step h bs (step b x))

  module _ (near : ℕ → List ℕ) (join : ℕ → List TraversalState → W → W)
      (does : (b : ℕ) (ms : List TraversalState) (w : W) → R w (join b ms w)) where
    within_does : (most b : ℕ) (x : Visited W) → R x.work (visit_within most near join b x).work
    unfolding visit_within
    within_does zero b x = order.none x.work
    within_does (suc most) b x =
        let mid = each (visit_within most near join) (near b) (enter b x) in
        let inner = each_does (visit_within most near join) (within_does most) (near b) (enter b x) in
        decide (marked b x) (λ e. rw ((within_step near join most b x).0 e) (order.none x.work))
        (λ e. rw ((within_step near join most b x).1 e) (order.after x.work mid.work _ inner (does b mid.marks mid.work)))

    pub visit_does : (b : ℕ) (x : Visited W) → R x.work (visit near join b x).work
    unfolding visit
    visit_does b x = within_does (unmarked_in x.marks) b x

-- Two joins that agree on the work that the first keeps give the same visits.
module _ {W : Type 0} (P : W → Type 0) (near : ℕ → List ℕ) (f g : ℕ → List TraversalState → W → W)
    (keeps : (b : ℕ) (ms : List TraversalState) (w : W) → P w → P (f b ms w))
    (same : (b : ℕ) (ms : List TraversalState) (w : W) → P w → f b ms w ≡ g b ms w) where
  each_same : (u v : ℕ → Visited W → Visited W) → ((b : ℕ) (x : Visited W) → P x.work → P (u b x).work) →
      ((b : ℕ) (x : Visited W) → P x.work → u b x ≡ v b x)
      → (bs : List ℕ) (x : Visited W) → P x.work → each u bs x ≡ each v bs x
  each_same u v k s [] x p = refl
  each_same u v k s (b ∷ bs) x p = each_same u v k s bs (u b x) (k b x p) ∙ ap (each v bs) (s b x p)

  abbrev Keeps : W → W → Type 0
  Keeps u w = P u → P w

  keeps_order : Preorder Keeps
  keeps_order = record { none = λ w p. p; after = λ u v w a b p. b (a p) }

  within_same : (most b : ℕ) (x : Visited W) → P x.work → visit_within most near f b x ≡ visit_within most near g b x
  unfolding visit_within
  within_same zero b x p = refl
  within_same (suc most) b x p =
      let mid = each (visit_within most near f) (near b) (enter b x) in
      let kept = each_does Keeps keeps_order (visit_within most near f) (within_does Keeps keeps_order near f keeps most) (near b)
      (enter b x) p in
      decide (marked b x) (λ e. (within_step near f most b x).0 e ∙ sym ((within_step near g most b x).0 e))
      (λ e.
      (within_step near f most b x).1 e
      ∙ (λ i. record { marks = set mid.marks b Done; work = same b mid.marks mid.work kept i })
      ∙ ap (leave g b) (each_same (visit_within most near f) (visit_within most near g)
      (within_does Keeps keeps_order near f keeps most) (within_same most) (near b) (enter b x) p)
      ∙ sym ((within_step near g most b x).1 e))

  pub visits_same : (bs : List ℕ) (x : Visited W) → P x.work → each (visit near f) bs x ≡ each (visit near g) bs x
  unfolding visit
  visits_same bs x p = each_same (visit near f) (visit near g) (visit_does Keeps keeps_order near f keeps)
      (λ b y q. within_same (unmarked_in y.marks) b y q) bs x p

-- What is seen of the work through h, where each join is seen as a join: a visit is seen as a
-- visit.
module _ {W U : Type 0} (h : W → U) (near : ℕ → List ℕ) (f : ℕ → List TraversalState → W → W) (g : ℕ → List TraversalState → U → U)
    (natural : (b : ℕ) (ms : List TraversalState) (w : W) → h (f b ms w) ≡ g b ms (h w)) where
  abbrev through : Visited W → Visited U
  through x = record { marks = x.marks; work = h x.work }

  each_natural : (u : ℕ → Visited W → Visited W) (v : ℕ → Visited U → Visited U)
      → ((b : ℕ) (x : Visited W) → through (u b x) ≡ v b (through x))
      → (bs : List ℕ) (x : Visited W) → through (each u bs x) ≡ each v bs (through x)
  each_natural u v s [] x = refl
  each_natural u v s (b ∷ bs) x = each_natural u v s bs (u b x) ∙ ap (each v bs) (s b x)

  within_natural : (most b : ℕ) (x : Visited W) → through (visit_within most near f b x) ≡ visit_within most near g b (through x)
  unfolding visit_within
  within_natural zero b x = refl
  within_natural (suc most) b x =
      let mid = each (visit_within most near f) (near b) (enter b x) in
      decide (marked b x) (λ e. ap through ((within_step near f most b x).0 e) ∙ sym ((within_step near g most b (through x)).0 e))
      (λ e.
      ap through ((within_step near f most b x).1 e)
      ∙ (λ i. record { marks = set mid.marks b Done; work = natural b mid.marks mid.work i })
      ∙ ap (leave g b) (each_natural (visit_within most near f) (visit_within most near g) (within_natural most) (near b) (enter b x))
      ∙ sym ((within_step near g most b (through x)).1 e))

  pub visits_natural : (bs : List ℕ) (x : Visited W) → h (each (visit near f) bs x).work ≡ (each (visit near g) bs (through x)).work
  unfolding visit
  visits_natural bs x = ap (λ (y : Visited U). y.work)
      (each_natural (visit near f) (visit near g) (λ b y. within_natural (unmarked_in y.marks) b y) bs x)

-- What a join makes of its block.

marked_set : (ms : List TraversalState) (b : ℕ) (m : TraversalState) → is_marked m ≡ true → (a : ℕ) → is_marked
    (get_or ms a Done) ≡ true → is_marked (get_or (set ms b m) a Done) ≡ true
marked_set ms b m t a e =
    decide (eqb a b) (λ s. rw (eqb-true a b s) (set_here (λ x. is_marked x ≡ true) ms b m Done t refl))
    (λ o. rw (get_or-set_other ms b a m Done (eqb-false a b o)) e)

-- P holds of the work throughout; G holds of a block once it has joined.
module _ {W : Type 0} (P : W → Type 0) (G : W → ℕ → Type 0) where
  -- from one step to another: where G held it holds, and it holds of the blocks marked in between
  pub record Makes (v v' : Visited W) : Type 0 where
    pub proper : P v'.work
    pub kept : (a : ℕ) → G v.work a → G v'.work a
    pub marks : (a : ℕ) → marked a v ≡ true → marked a v' ≡ true
    pub made : (a : ℕ) → marked a v ≡ false → marked a v' ≡ true → G v'.work a

  makes_none : (v : Visited W) → P v.work → Makes v v
  makes_none v p = record { proper = p; kept = λ a g. g; marks = λ a m. m; made = λ a o m. never m o }

  makes_after : {u v w : Visited W} → Makes u v → Makes v w → Makes u w
  makes_after {v = v} x y = record {
    proper = y.proper;
    kept = λ a g. y.kept a (x.kept a g);
    marks = λ a m. y.marks a (x.marks a m);
    made = λ a o m. decide (marked a v) (λ t. y.kept a (x.made a o t)) (λ f. y.made a f m);
  }

  pub each_makes : (step : ℕ → Visited W → Visited W) → ((b : ℕ) (v : Visited W) → P v.work → Makes v (step b v)) → (bs : List ℕ)
      (v : Visited W) → P v.work → Makes v (each step bs v)
  each_makes step h [] v p = makes_none v p
  each_makes step h (b ∷ bs) v p = let one = h b v p in makes_after one (each_makes step h bs (step b v) one.proper)

  module _ (near : ℕ → List ℕ) (join : ℕ → List TraversalState → W → W)
      (keeps : (b : ℕ) (ms : List TraversalState) (w : W) → P w → P (join b ms w))
      (stays : (b : ℕ) (ms : List TraversalState) (w : W) → P w → (a : ℕ) → G w a → G (join b ms w) a)
      (makes : (b : ℕ) (ms : List TraversalState) (w : W) → P w → G (join b ms w) b) where
    -- the block is entered, and left after its neighbours
    around : (b : ℕ) (v mid : Visited W) → Makes (enter b v) mid → Makes v (leave join b mid)
    around b v mid x = record {
      proper = keeps b mid.marks mid.work x.proper;
      kept = λ a g. stays b mid.marks mid.work x.proper a (x.kept a g);
      marks = λ a m. marked_set mid.marks b Done refl a (x.marks a (marked_set v.marks b Active refl a m));
      made = λ a o m. decide (eqb a b)
          (λ s. subst (G (leave join b mid).work) (sym (eqb-true a b s)) (makes b mid.marks mid.work x.proper))
          (λ f. let other = eqb-false a b f in
          stays b mid.marks mid.work x.proper a
          (x.made a (ap is_marked (get_or-set_other v.marks b a Active Done other) ∙ o)
          (ap is_marked (sym (get_or-set_other mid.marks b a Done Done other)) ∙ m)));
    }

    within_makes : (most b : ℕ) (v : Visited W) → P v.work → Makes v (visit_within most near join b v)
    unfolding visit_within
    within_makes zero b v p = makes_none v p
    within_makes (suc most) b v p =
        decide (marked b v) (λ e. rw ((within_step near join most b v).0 e) (makes_none v p))
        (λ e. rw ((within_step near join most b v).1 e)
        (around b v _ (each_makes (visit_within most near join) (within_makes most) (near b) (enter b v) p)))

    pub visit_makes : (b : ℕ) (v : Visited W) → P v.work → Makes v (visit near join b v)
    unfolding visit
    visit_makes b v p = within_makes (unmarked_in v.marks) b v p

    visit_marked : (b : ℕ) (v : Visited W) → marked b (visit near join b v) ≡ true
    visit_marked b v =
        decide (marked b v) (λ e. rw ((visit_recurs near join b v).0 e) e)
        (λ e. rw ((visit_recurs near join b v).1 e)
        (set_here (λ x. is_marked x ≡ true) (each (visit near join) (near b) (enter b v)).marks b Done Done refl refl))

    pub visits_mark : (bs : List ℕ) (v : Visited W) → P v.work → All (λ b. marked b (each (visit near join) bs v) ≡ true) bs
    visits_mark [] v p = tt
    visits_mark (b ∷ bs) v p =
        let next = visit near join b v in
        let one = visit_makes b v p in
        ((each_makes (visit near join) visit_makes bs next one.proper).marks b (visit_marked b v), visits_mark bs next one.proper)

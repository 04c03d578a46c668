-- Which blocks a walk leaves in which order, and which are Done then, depends on the graph alone.
-- So a walk is the joins of these steps, one after the other.
use Rattle.std.specs.Prelude.{ℕ, ◌≡◌, cond}
use Rattle.std.proofs.Math.Path.{refl, sym, ap}
use Rattle.std.proofs.Common.{◌∙◌}
use mathlib.Core.List.{List, [], ◌∷◌, ◌++◌, map, foldl}
use Rattle.model.specs.Visit.{TraversalState, Unmarked, Done, is_done}
use Rattle.model.specs.Rounds.{walk}
use Rattle.model.specs.RoundsLaws.{walk_proper, walk_natural}

-- A mark as far as a join asks for it: Done, or not.
abbrev pub only_done : TraversalState → TraversalState
only_done m = cond (is_done m) Done Unmarked

-- A block that a walk leaves, and which blocks are Done at that moment.
pub record Step : Type 0 where
  pub block : ℕ
  pub done : List TraversalState

-- The work of noting the steps: one more behind the others.
abbrev pub noted : ℕ → List TraversalState → List Step → List Step
noted b marks steps = steps ++ (record { block = b; done = map only_done marks } ∷ [])

-- the steps of a walk
unfoldable pub steps_of : ℕ → (ℕ → List ℕ) → List ℕ → List Step
steps_of n near order = walk n near noted order []

-- A step's join.
abbrev pub take_step : {W : Type 0} → (ℕ → List TraversalState → W → W) → W → Step → W
take_step join w s = join s.block s.done w

-- the joins of some steps, in their order
abbrev pub take_steps : {W : Type 0} → (ℕ → List TraversalState → W → W) → List Step → W → W
take_steps join steps w = foldl (take_step join) w steps

steps_behind : {W : Type 0} (join : ℕ → List TraversalState → W → W) (steps more : List Step) (w : W)
    → take_steps join (steps ++ more) w ≡ take_steps join more (take_steps join steps w)
steps_behind join [] more w = refl
steps_behind join (s ∷ steps) more w = steps_behind join steps more (take_step join w s)

-- The work and the steps are walked as one: the work stays what the steps so far make of the start.
module _ {W : Type 0} (near : ℕ → List ℕ) (join : ℕ → List TraversalState → W → W)
    (asks : (b : ℕ) (ms : List TraversalState) (w : W) → join b (map only_done ms) w ≡ join b ms w) where
  record Both : Type 0 where
    work : W
    steps : List Step

  abbrev join_both : ℕ → List TraversalState → Both → Both
  join_both b ms x = record { work = join b ms x.work; steps = noted b ms x.steps }

  pub walk_steps : (n : ℕ) (order : List ℕ) (w : W) → walk n near join order w ≡ take_steps join (steps_of n near order) w
  unfolding steps_of
  walk_steps n order w =
      let start : Both = record { work = w; steps = [] } in
      sym (walk_natural (λ (x : Both). x.work) near join_both join (λ b ms x. refl) n order start)
      ∙ walk_proper (λ (x : Both). x.work ≡ take_steps join x.steps w) (λ x b. Unit {0}) near join_both
      (λ b ms x e. sym (asks b ms x.work) ∙ ap (join b (map only_done ms)) e
      ∙ sym (steps_behind join x.steps (record { block = b; done = map only_done ms } ∷ []) w))
      (λ b ms x p a g. g) (λ b ms x p. tt) n order start refl
      ∙ ap (λ (steps : List Step). take_steps join steps w)
      (walk_natural (λ (x : Both). x.steps) near join_both noted (λ b ms x. refl) n order start)

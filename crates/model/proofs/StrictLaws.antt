-- The strict joining rule beside the existing one: where every neighbour is Done they join the
-- same, and else the strict one joins none.
use Rattle.std.specs.Prelude.{ℕ, ◌≡◌, Bool, true, false, get_or}
use Rattle.std.proofs.Math.Path.{refl, sym, ap}
use Rattle.std.proofs.Common.{◌∙◌}
use Rattle.std.proofs.Math.Bool.{cond}
use mathlib.Core.List.{List, [], ◌∷◌}
use Rattle.model.specs.Tests.{and_first, and_second}
use Rattle.model.specs.Visit.{TraversalState, Unmarked, is_done}
use Rattle.model.specs.Propagation.{done_neighbours}
use Rattle.model.specs.Strict.{all_done, strict_neighbours}

module _ (marks : List TraversalState) where
  -- "Every neighbour is Done": then the Done ones are all.
  pub done_all : (bs : List ℕ) → all_done marks bs ≡ true → done_neighbours marks bs ≡ bs
  unfolding done_neighbours
  done_all [] e = refl
  done_all (b ∷ bs) e =
      let here = and_first (is_done (get_or marks b Unmarked)) (all_done marks bs) e in
      rw (here, done_all bs (and_second (is_done (get_or marks b Unmarked)) (all_done marks bs) e))

  -- so the strict rule joins what the existing one joins, which is all ..
  pub strict_joins : (bs : List ℕ) → all_done marks bs ≡ true → strict_neighbours marks bs ≡ done_neighbours marks bs
  unfolding strict_neighbours
  strict_joins bs e = ap (λ (t : Bool). cond t bs []) e ∙ sym (done_all bs e)

  -- .. and else none
  pub strict_none : (bs : List ℕ) → all_done marks bs ≡ false → strict_neighbours marks bs ≡ []
  unfolding strict_neighbours
  strict_none bs e = ap (λ (t : Bool). cond t bs []) e

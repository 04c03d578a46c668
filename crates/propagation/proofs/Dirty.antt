-- Blocks marked dirty, one after the other, and what holds of the blocks that are not.
use Prim.Native.Nat.{ℕ, ◌<◌}
use native.Mathlib.Omega.{arith}
use mathlib.Core.Path.{◌≡◌, refl, sym, ap, subst, ◌∙◌}
use mathlib.Core.Logic.{◌≢◌}
use mathlib.Core.Bool.{Bool, true, false, ◌||◌}
use mathlib.Core.List.{List, [], ◌∷◌}
use lib.ListN.{length, get_or, set, length-set}
use lib.Seq.{get_or-set_same, get_or-set_other}
use lib.Dec.{eqb}
use Rattle.model.specs.Tests.{never, eqb_apart}
use Rattle.model.specs.Lists.{any_of}
use Rattle.model.specs.ListLaws.{All}
use Rattle.propagation.specs.Joins.{MarksDirty}

-- a block that is not dirty once block k is, is another one, and was not dirty
pub not_marked : (dirty : List Bool) (k b : ℕ) → k < length dirty → get_or (set dirty k true) b false ≡ false
    → (b ≢ k) × (get_or dirty b false ≡ false)
not_marked dirty k b room e =
    let other : b ≢ k =
    λ same. never (ap (λ (j : ℕ). get_or (set dirty k true) j false) same ∙ get_or-set_same dirty k true false room) e in
    (other, sym (get_or-set_other dirty k b true false other) ∙ e)

-- The loop over blocks: those left are still to be marked, and are at most 128.
pub record Marking (bs : List ℕ) (before dirty : List Bool) (left : List ℕ) : Type 0 where
  pub long : length dirty ≡ 128
  pub others : (k : ℕ) → get_or dirty k false ≡ false → get_or before k false ≡ false
  pub rest : (k : ℕ) → get_or dirty k false ≡ false → any_of (eqb k) bs ≡ any_of (eqb k) left
  pub inside : All (λ k. k < 128) left

pub marking_start : (bs : List ℕ) (dirty : List Bool) → length dirty ≡ 128 → All (λ k. k < 128) bs → Marking bs dirty dirty bs
marking_start bs dirty long inside = record { long = long; others = λ k e. e; rest = λ k e. refl; inside = inside }

module _ {bs : List ℕ} {before dirty : List Bool} where
  -- the same with the blocks left in another form
  pub marking_by : {ks js : List ℕ} → ks ≡ js → Marking bs before dirty ks → Marking bs before dirty js
  marking_by e m = subst (Marking bs before dirty) e m

  pub marking_more : {k : ℕ} {ks : List ℕ} → Marking bs before dirty (k ∷ ks) → Marking bs before (set dirty k true) ks
  marking_more {k} {ks} m =
      let long = m.long in
      let here = m.inside.0 in
      record {
        long = length-set dirty k true ∙ long;
        others = λ j e. m.others j (not_marked dirty k j (omega arith) e).1;
        rest = λ j e.
            let was = not_marked dirty k j (omega arith) e in
            m.rest j was.1 ∙ ap (λ (t : Bool). t || any_of (eqb j) ks) (eqb_apart j k was.0);
        inside = m.inside.1;
      }

  pub marking_ends : Marking bs before dirty [] → MarksDirty bs before dirty
  marking_ends m = record { long = m.long; others = m.others; these = m.rest }

-- one block more
pub also_dirty : {bs : List ℕ} {before after : List Bool} (b : ℕ) → b < 128 → MarksDirty bs before after → MarksDirty (b ∷ bs) before (set after b true)
also_dirty {bs} {before} {after} b inside m =
    let long = m.long in
    record {
      long = length-set after b true ∙ long;
      others = λ k e. m.others k (not_marked after b k (omega arith) e).1;
      these = λ k e.
          let was = not_marked after b k (omega arith) e in
          ap (λ (t : Bool). t || any_of (eqb k) bs) (eqb_apart k b was.0) ∙ m.these k was.1;
    }

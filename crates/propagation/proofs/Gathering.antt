-- The neighbours gathered so far, with the Done ones among those still to come; and where one that
-- is not Done keeps all from joining, none. Their sets are the rows at their places.
use Prim.Native.Nat.{ℕ, ◌+◌, ◌≤◌, ◌<◌}
use native.Mathlib.Omega.{arith}
use native.Mathlib.Numerals.{add-one}
use mathlib.Core.Path.{◌≡◌, refl, sym, ap, ap₂, subst, ◌∙◌}
use mathlib.Core.Logic.{◌⊎◌, inl, inr}
use mathlib.Core.Bool.{Bool, true, false, ◌&&◌, not, cond}
use mathlib.Core.List.{List, [], ◌∷◌, ◌++◌, map}
use lib.ListN.{length, get_or, set, length-set, take}
use lib.Dec.{ltb}
use lib.Seq.{append_snoc, take-set-le, take-suc-set}
use Rattle.model.specs.ListLaws.{All, all_map, all_append, NoRepeats, no_repeats_select}
use Rattle.model.specs.Tests.{by_cond, decide}
use Rattle.model.specs.Visit.{TraversalState, Unmarked, is_done}
use Rattle.model.specs.Propagation.{set_of, done_neighbours, intersection_of}
use Rattle.model.specs.Strict.{all_done, strict_neighbours}
use Rattle.model.proofs.StrictLaws.{strict_joins, strict_none}
use Rattle.rows.specs.Rows.{Lent, row_of, rows_of}
use Rattle.rows.proofs.Rows.{row_at}
use Rattle.graph.specs.Bytes.{size_in, neighbours, GraphFits, NeighboursOnce}
use Rattle.graph.proofs.Coming.{neighbours_inside, neighbours_few}
use Rattle.propagation.specs.declared.Joining.{Joining}
use Rattle.propagation.specs.declared.Joining.TheVariants.{DoneNeighbours, StrictNeighbours}
use Rattle.propagation.specs.Rules.{rule_of, asks_all}
use Rattle.propagation.specs.Order.{done_before}
use Rattle.propagation.specs.Joins.{sets_to_join, neighbours_to_join, Gathers}
use Rattle.propagation.proofs.Marks.{below_done, is_done_lem}

append_none : {A : Type 0} (xs : List A) → xs ++ [] ≡ xs
append_none [] = refl
append_none (x ∷ xs) = ap (λ (l : List _). x ∷ l) (append_none xs)

-- A rule chooses none twice.
rule_once : (joining : Joining) (ms : List TraversalState) (bs : List ℕ) → NoRepeats bs → NoRepeats (rule_of joining ms bs)
unfolding done_neighbours strict_neighbours
rule_once DoneNeighbours ms bs o = no_repeats_select (λ b. is_done (get_or ms b Unmarked)) bs o
rule_once StrictNeighbours ms bs o = by_cond NoRepeats (all_done ms bs) (λ e. o) (λ e. tt)

-- Whether a neighbour that is not Done is among these and keeps all from joining.
abbrev kept_back : Joining → List TraversalState → List ℕ → Bool
kept_back joining ms bs = asks_all joining && not (all_done ms bs)

-- The rule chooses none where one keeps all back, and else the Done ones.
rule_is : (joining : Joining) (ms : List TraversalState) (bs : List ℕ) → rule_of joining ms bs ≡ cond (kept_back joining ms bs) []
    (done_neighbours ms bs)
rule_is DoneNeighbours ms bs = refl
rule_is StrictNeighbours ms bs = decide (all_done ms bs) (λ e. strict_joins ms bs e ∙ rw e) (λ e. strict_none ms bs e ∙ rw e)

-- one that is Done, or under a rule that does not ask for all, keeps none back
not_kept : (joining : Joining) (ms : List TraversalState) (k : ℕ) (bs : List ℕ) → asks_all joining ≡ false ⊎ is_done
    (get_or ms k Unmarked) ≡ true → kept_back joining ms (k ∷ bs) ≡ kept_back joining ms bs
not_kept joining ms k bs (inl e) = rw e
not_kept joining ms k bs (inr done) = rw done

-- The loop over a block's neighbours: those left are still to come. There is room for all of them.
pub record Gathering (joining : Joining) (g : List ℕ) (backward : Bool) (b : ℕ) (o places : List ℕ) (count : ℕ) (left : List ℕ) : Type 0 where
  pub room : count + length left ≤ 128
  pub long : length places ≡ 128
  pub inside : All (λ k. k < size_in g) (take count places)
  pub coming : All (λ k. k < size_in g) left
  pub rest : cond (kept_back joining (done_before (size_in g) o b) left) [] (take count places ++ done_neighbours (done_before (size_in g) o b) left)
      ≡ neighbours_to_join (rule_of joining) g backward b o

module _ (joining : Joining) {g : List ℕ} (fits : GraphFits g) (backward : Bool) {b : ℕ} (here : b < size_in g) (o places : List ℕ) where
  pub gathering_start : length places ≡ 128 → Gathering joining g backward b o places 0 (neighbours g backward b)
  gathering_start long =
      let few = neighbours_few fits here backward in
      record {
        room = omega arith;
        long = long;
        inside = tt;
        coming = neighbours_inside fits here backward;
        rest = sym (rule_is joining (done_before (size_in g) o b) (neighbours g backward b));
      }

-- the same with the neighbours to come in another form
pub gathering_by : {joining : Joining} {g : List ℕ} {backward : Bool} {b : ℕ} {o places : List ℕ} {count : ℕ} {ks js : List ℕ} → ks ≡ js
    → Gathering joining g backward b o places count ks → Gathering joining g backward b o places count js
gathering_by {joining} {g} {backward} {b} {o} {places} {count} e a = subst (Gathering joining g backward b o places count) e a

module _ (joining : Joining) (g : List ℕ) (backward : Bool) (b : ℕ) (o : List ℕ) (distinct : NeighboursOnce g) (here : b < size_in g) where
  gathers : (m : ℕ) (ps : List ℕ) → length ps ≡ 128 → take m ps ≡ neighbours_to_join (rule_of joining) g backward b o → m ≤ 128
      → All (λ k. k < size_in g) (take m ps) → Gathers (neighbours_to_join (rule_of joining) g backward b o) (size_in g) m ps
  gathers m ps long same few inside = record {
    few = few;
    long = long;
    same = same;
    inside = inside;
    once = subst NoRepeats (sym same) (rule_once joining (done_before (size_in g) o b) (neighbours g backward b) (distinct backward b here));
  }

module _ {joining : Joining} {g : List ℕ} {backward : Bool} {b : ℕ} {o places : List ℕ} {count : ℕ} where
  module _ (distinct : NeighboursOnce g) (here : b < size_in g) where
    -- none is to come
    pub gathered_all : Gathering joining g backward b o places count [] → Gathers (neighbours_to_join (rule_of joining) g backward b o) (size_in g) count places
    unfolding done_neighbours
    gathered_all a =
        let room = a.room in
        gathers joining g backward b o distinct here count places a.long
        (sym (append_none (take count places)) ∙ ap (λ (t : Bool). cond t [] (take count places ++ [])) (sym (none_kept joining)) ∙ a.rest)
        (omega arith) a.inside
      where
        none_kept : (j : Joining) → kept_back j (done_before (size_in g) o b) [] ≡ false
        none_kept DoneNeighbours = refl
        none_kept StrictNeighbours = refl

    -- one is not Done, where all are asked for: whatever was stored, none is gathered
    pub gathered_none : {k : ℕ} {ks : List ℕ} → Gathering joining g backward b o places count (k ∷ ks) → asks_all joining ≡ true
        → ltb (get_or o b 0) (get_or o k 0) ≡ false → (ps : List ℕ)
        → length ps ≡ 128 → Gathers (neighbours_to_join (rule_of joining) g backward b o) (size_in g) 0 ps
    gathered_none {k} {ks} a all low ps long =
        let bs = k ∷ ks in
        let kept : kept_back joining (done_before (size_in g) o b) bs ≡ true = rw (all, below_done (size_in g) o k a.coming.0 (get_or o b 0) low) in
        gathers joining g backward b o distinct here 0 ps long
        (ap (λ (t : Bool). cond t [] (take count places ++ done_neighbours (done_before (size_in g) o b) bs)) (sym kept) ∙ a.rest)
        (omega arith) tt

  module _ {k : ℕ} {ks : List ℕ} (a : Gathering joining g backward b o places count (k ∷ ks)) where
    -- what the bytes hold once a neighbour stands behind those gathered
    abbrev stored : List ℕ
    stored = set places count k

    -- a Done one is gathered
    pub gathering_more : ltb (get_or o b 0) (get_or o k 0) ≡ true → Gathering joining g backward b o stored (count + 1) ks
    unfolding done_neighbours
    gathering_more done =
        let room = a.room in
        let long = a.long in
        let inside = a.coming.0 in
        let chosen = done_neighbours (done_before (size_in g) o b) ks in
        let one : take (count + 1) stored ≡ take count places ++ k ∷ [] =
        ap (λ (m : ℕ). take m stored) (add-one count) ∙ take-suc-set places count k (omega arith) in
        record {
          room = omega arith;
          long = length-set places count k ∙ long;
          inside = subst (All (λ k. k < size_in g)) (sym one) (all_append (λ k. k < size_in g) (take count places) (k ∷ []) a.inside (inside, tt));
          coming = a.coming.1;
          rest = ap₂ (λ (t : Bool) (l : List ℕ). cond t [] l)
              (sym (not_kept joining (done_before (size_in g) o b) k ks (inr (is_done_lem (size_in g) o k inside (get_or o b 0) done))))
              (ap (λ (l : List ℕ). l ++ chosen) one
              ∙ append_snoc (take count places) k chosen
              ∙ rw (is_done_lem (size_in g) o k inside (get_or o b 0) done))
              ∙ a.rest;
        }

    -- another is passed, where not all are asked for
    pub gathering_passed : ltb (get_or o b 0) (get_or o k 0) ≡ false → asks_all joining ≡ false → Gathering joining g backward b o stored count ks
    unfolding done_neighbours
    gathering_passed low some =
        let room = a.room in
        let same : take count stored ≡ take count places = take-set-le count places count k (omega arith) in
        record {
          room = omega arith;
          long = length-set places count k ∙ a.long;
          inside = subst (All (λ k. k < size_in g)) (sym same) a.inside;
          coming = a.coming.1;
          rest = ap₂ (λ (t : Bool) (l : List ℕ). cond t [] l) (sym (not_kept joining (done_before (size_in g) o b) k ks (inl some)))
              (ap (λ (l : List ℕ). l ++ done_neighbours (done_before (size_in g) o b) ks) same
              ∙ rw (below_done (size_in g) o k a.coming.0 (get_or o b 0) low)) ∙ a.rest;
        }

-- Their sets are the rows at their places.
module _ (joining : Joining) (g : List ℕ) (backward : Bool) (b : ℕ) (o : List ℕ) {count : ℕ} {places : List ℕ}
    (found : Gathers (neighbours_to_join (rule_of joining) g backward b o) (size_in g) count places) where
  -- what the intersection of rows asks
  pub gathered_rows : (sets : List ℕ) → Lent (size_in g) sets
      → All (λ k. Lent (k + 1) sets) (take count places) × NoRepeats (take count places)
  gathered_rows sets lent = (
    all_map (λ k. k < size_in g) (λ k. Lent (k + 1) sets) (λ k l. omega arith) (take count places) found.inside,
    found.once,
  )

  row_sets : (sets bs : List ℕ) → All (λ k. k < size_in g) bs → map (row_of sets) bs ≡ map (set_of (rows_of sets (size_in g))) bs
  row_sets sets [] a = refl
  row_sets sets (k ∷ ks) a = rw (row_at sets (size_in g) k a.0, row_sets sets ks a.1)

  pub gathered_sets : (sets : List ℕ) → intersection_of (map (row_of sets) (take count places)) ≡ intersection_of
      (sets_to_join (rule_of joining) g backward b o sets)
  unfolding sets_to_join
  gathered_sets sets = ap intersection_of (row_sets sets (take count places) found.inside ∙ ap (map (set_of (rows_of sets (size_in g)))) found.same)

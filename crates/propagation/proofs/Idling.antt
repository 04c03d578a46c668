-- Joins without effect: where a set has all that the intersection has, the union with it is the
-- set.
use Prim.Native.Nat.{ℕ, ◌<◌}
use mathlib.Core.Path.{◌≡◌, refl, sym, ap, subst, ◌∙◌}
use mathlib.Core.Logic.{◌≢◌}
use mathlib.Core.Bool.{Bool, true, false, ◌||◌, not}
use mathlib.Core.List.{List, [], ◌∷◌, map}
use lib.ListN.{length, get_or, set}
use lib.Seq.{get_or-set_same, get_or-set_other}
use lib.Dec.{eqb}
use Rattle.entries.specs.declared.NodeId.{NodeId}
use Rattle.model.specs.Tests.{decide, never, eqb_same, eqb-true, eqb-false, or_cases, or_second}
use Rattle.model.specs.ListLaws.{all_map}
use Rattle.model.specs.Sets.{NodeSet, contains, insert, union}
use Rattle.model.specs.SetLaws.{Ascending, contains_insert, contains_inserted, insert_again, all_contained}
use Rattle.model.specs.Propagation.{set_of, done_neighbours, intersection_of}
use Rattle.laws.specs.Membership.{neither, some_map, any_some, all_at, all_unmap}
use Rattle.laws.specs.Intersections.{intersection_in_each}
use Rattle.model.specs.Lists.{select, any_of}
use Rattle.model.specs.Visit.{TraversalState, Unmarked, is_done}
use Rattle.model.specs.Strict.{all_done, strict_neighbours}
use Rattle.rows.specs.Rows.{rows_of}
use Rattle.graph.specs.Bytes.{size_in, neighbours, NeighboursMutual}
use Rattle.propagation.specs.declared.Joining.{Joining}
use Rattle.propagation.specs.declared.Joining.TheVariants.{DoneNeighbours, StrictNeighbours}
use Rattle.propagation.specs.Rules.{rule_of}
use Rattle.propagation.specs.Order.{done_before}
use Rattle.propagation.specs.Joins.{neighbours_to_join, sets_to_join, Has, Idle, Clean, MarksDirty}

-- a union has what the first set has ..
union_keeps : (s t : NodeSet) (k : NodeId) → contains s k ≡ true → contains (union s t) k ≡ true
union_keeps s [] k h = h
union_keeps s (x ∷ t) k h = union_keeps (insert x s) t k (contains_insert x k s h)

-- .. and what the second has
pub union_has : (s t : NodeSet) → Has (union s t) t
union_has s [] = tt
union_has s (x ∷ t) =
    let here = contains_inserted x x s ∙ ap (λ (e : Bool). e || contains s x) (eqb_same x.0) in
    (union_keeps (insert x s) t x here, union_has (insert x s) t)

-- a set that has another is its union with that
pub has_union : (s t : NodeSet) → Ascending s → Has s t → union s t ≡ s
has_union s [] f h = refl
has_union s (x ∷ t) f h = ap (λ (r : NodeSet). union r t) (insert_again 0 x s f h.0) ∙ has_union s t f h.1

-- the sets of other blocks than b
pub sets_elsewhere : (rows : List NodeSet) (b : ℕ) (s : NodeSet) (bs : List ℕ) → any_of (eqb b) bs ≡ false
    → map (set_of (set rows b s)) bs ≡ map (set_of rows) bs
sets_elsewhere rows b s [] e = refl
sets_elsewhere rows b s (c ∷ bs) e =
    let apart = neither (eqb b c) (any_of (eqb b) bs) e in
    rw (get_or-set_other rows b c s [] (λ same. eqb-false b c apart.0 (sym same)), sets_elsewhere rows b s bs apart.1)

-- The set of block b becomes one that has what joined it. Then it has what would join it now, even
-- where the block is its own neighbour.
pub idle_union : (rows : List NodeSet) (b : ℕ) (s : NodeSet) (bs : List ℕ) → b < length rows → Has s (intersection_of (map (set_of rows) bs))
    → Has s (intersection_of (map (set_of (set rows b s)) bs))
idle_union rows b s bs room has =
    decide (any_of (eqb b) bs)
    (λ t. let found = intersection_of (map (set_of (set rows b s)) bs) in
    all_map (λ k. contains found k ≡ true) (λ k. contains s k ≡ true)
    (λ k h. subst (λ (r : NodeSet). contains r k ≡ true) (get_or-set_same rows b s [] room)
    (all_at (λ c. contains (set_of (set rows b s) c) k ≡ true) bs b
    (all_unmap (λ r. contains r k ≡ true) (set_of (set rows b s)) bs (intersection_in_each (map (set_of (set rows b s)) bs) k h))
    (some_map (λ c. eqb b c ≡ true) (λ c. c ≡ b) (λ c e. sym (eqb-true b c e)) bs (any_some (eqb b) bs t)))) found (all_contained found))
    (λ e. subst (λ (ss : List NodeSet). Has s (intersection_of ss)) (sym (sets_elsewhere rows b s bs e)) has)

-- A rule chooses among a block's neighbours.
any_chosen : (test p : ℕ → Bool) (bs : List ℕ) → any_of test (select p bs) ≡ true → any_of test bs ≡ true
any_chosen test p [] h = never h refl
any_chosen test p (c ∷ bs) h =
    decide (p c)
    (λ t. or_cases (test c) (any_of test (select p bs)) (rw t at h) (λ e. rw e refl) (λ e. or_second (test c) (any_of test bs) (any_chosen test p bs e)))
    (λ t. or_second (test c) (any_of test bs) (any_chosen test p bs (rw t at h)))

rule_chooses : (joining : Joining) (ms : List TraversalState) (bs : List ℕ) (b : ℕ) → any_of (eqb b) (rule_of joining ms bs) ≡ true
    → any_of (eqb b) bs ≡ true
unfolding done_neighbours strict_neighbours
rule_chooses DoneNeighbours ms bs b h = any_chosen (eqb b) (λ c. is_done (get_or ms c Unmarked)) bs h
rule_chooses StrictNeighbours ms bs b h = decide (all_done ms bs) (λ t. rw t at h) (λ t. never (rw t at h) refl)

-- The set of block b changes. That of another block, of which b is no neighbour, still has what
-- joins it.
module _ (joining : Joining) (g : List ℕ) (both_ways : NeighboursMutual g) (b : ℕ) (inside : b < size_in g) (sets sets' : List ℕ) (own : NodeSet)
    (rows : rows_of sets' (size_in g) ≡ set (rows_of sets (size_in g)) b own) where
  idle_elsewhere : (backward : Bool) (q : List ℕ) (c : ℕ) → c < size_in g → c ≢ b → any_of (eqb c) (neighbours g (not backward) b) ≡ false
      → Idle (rule_of joining) g backward q sets c → Idle (rule_of joining) g backward q sets' c
  unfolding sets_to_join
  idle_elsewhere backward q c l other apart idle =
      let js = neighbours_to_join (rule_of joining) g backward c q in
      let none : any_of (eqb b) js ≡ false =
      decide (any_of (eqb b) js)
      (λ t. never (both_ways backward b c inside l (rule_chooses joining (done_before (size_in g) q c) (neighbours g backward c) b t)) apart)
      (λ e. e) in
      let old = rows_of sets (size_in g) in
      subst (λ (rs : List NodeSet). Has (set_of rs c) (intersection_of (map (set_of rs) js))) (sym rows)
      (subst (λ (s : NodeSet). Has s (intersection_of (map (set_of (set old b own)) js))) (sym (get_or-set_other old b c own [] other))
      (subst (λ (ss : List NodeSet). Has (set_of old c) (intersection_of ss)) (sym (sets_elsewhere old b own js none)) idle))

  -- so the blocks that are not marked dirty then are clean, but for block b
  pub clean_elsewhere : (backward : Bool) (q : List ℕ) {bs : List ℕ} {dirty dirty' : List Bool} → MarksDirty bs dirty dirty'
      → ((c : ℕ) → any_of (eqb c) bs ≡ false → any_of (eqb c) (neighbours g (not backward) b) ≡ false)
      → Clean (rule_of joining) g backward q dirty sets → (c : ℕ) → c < size_in g → c ≢ b → get_or dirty' c false ≡ false
      → Idle (rule_of joining) g backward q sets' c
  clean_elsewhere backward q m covers clean c l other e =
      idle_elsewhere backward q c l other (covers c (m.these c e)) (clean c l (m.others c e))

-- The graph of a job whose blocks were noted: the rows are its predecessors by place, and the order
-- is that of ascending ids.
use Prim.Native.Nat.{ℕ, zero, suc, ◌+◌, ◌*◌, ◌-◌, ◌≤◌, ◌<◌}
use native.Mathlib.Omega.{arith}
use native.Mathlib.Nat.{zero-add}
use mathlib.Core.Path.{◌≡◌, refl, sym, ap, subst, ◌∙◌}
use mathlib.Core.Bool.{Bool, true, false, not}
use mathlib.Core.List.{List, [], ◌∷◌, map}
use lib.ListN.{length, get_or, set, drop, replicate, length-replicate}
use lib.Seq.{get_or-drop}
use lib.Dec.{eqb, leb, ltb, leb→le, le→leb}
use Rattle.entries.specs.declared.BlockId.{BlockId}
use Rattle.model.specs.Lists.{select, any_of}
use Rattle.model.specs.ListLaws.{All, all_map, all_get_or, NoRepeats}
use Rattle.model.specs.Tests.{decide, never, passes_test, test_passes, eqb_same, eqb_equal, eqb-true, eqb_apart, ltb_true, ltb_false}
use Rattle.model.specs.ReadingBytes.{got, read_many}
use Rattle.model.specs.Job.{Block, Job, read_block_id, same_block, contains_id, ids_of}
use Rattle.model.specs.Rounds.{places_from, job_order}
use Rattle.model.specs.Stage.{block_at, place_of, predecessors_of, insert_by_id, sort_by_id, by_ascending_id, successors_of}
use Rattle.job.specs.Passing.{notes}
use Rattle.job.specs.Kept.{BlocksAt, blocks_of}
use Rattle.job.proofs.Many.{many_all}
use Rattle.job.proofs.BlocksAt.{blocks_read, job_accepted, same_job, block_there}
use Rattle.job.proofs.RecordParts.{block_parts}
use Rattle.laws.specs.Membership.{Member, some_map, any_some, some_any}
use Rattle.laws.specs.GraphLaws.{
  ProperBlocks,
  proper_blocks,
  place_own,
  place_known,
  known_at,
  same_block_lem,
  predecessors_inside,
  predecessor_succeeds,
  successor_predecessor,
  predecessors_once,
  successors_once,
}
use Rattle.graph.specs.Bytes.{neighbours}
use Rattle.edges.specs.Rows.{ids_from, ids_noted, place_among, place_among_lem, IdsOnce, places_noted, rows_at, RowsFilled}
use Rattle.edges.specs.Order.{insert_by_number, sort_by_number, Ordered}
use Rattle.edges.specs.Successors.{RanksFit, AllMarked}
use Rattle.edges.specs.Fills.{IdsAt, NotedJob, Blank, HoldsGraph}
use Rattle.edges.proofs.Noting.{row_noted}
use Rattle.edges.proofs.Filling.{row_few}
use Rattle.edges.proofs.Ordering.{sort_all, places_below}
use Rattle.edges.proofs.Graphs.{
  ranks_fit,
  ranked_inside,
  size_is,
  room_is,
  degree_is,
  predecessor_is,
  rank_is,
  predecessors_are,
  bit_below,
  successors_are,
}

-- Blocks among neighbours.

member_of : (b : ℕ) {bs cs : List ℕ} → bs ≡ cs → any_of (eqb b) bs ≡ true → Member b cs
member_of b {bs} e h = subst (Member b) e (some_map (λ c. eqb b c ≡ true) (λ c. c ≡ b) (λ c t. sym (eqb-true b c t)) bs (any_some (eqb b) bs h))

among : (b : ℕ) {bs cs : List ℕ} → cs ≡ bs → Member b cs → any_of (eqb b) bs ≡ true
among b {bs} {cs} e m = subst (λ (xs : List ℕ). any_of (eqb b) xs ≡ true) e
    (some_any (eqb b) cs (some_map (λ c. c ≡ b) (λ c. eqb b c ≡ true) (λ c t. eqb_equal b c (sym t)) cs m))

-- Ids by the numbers noted.

ids_listed : (bs : List Block) (ids : List ℕ) (k : ℕ) → ((m : ℕ) → m < length bs → get_or ids (k + m) 0 ≡ (block_at bs m).id.0) → ids_from ids k
    (length bs) ≡ ids_of bs
ids_listed [] ids k noted = refl
ids_listed (c ∷ cs) ids k noted =
    let here : get_or ids k 0 ≡ c.id.0 = ap (λ m. get_or ids m 0) (let z : k ≡ k + 0 = omega arith in z) ∙ noted 0 (omega arith) in
    let rest : ids_from ids (suc k) (length cs) ≡ ids_of cs = ids_listed cs ids (suc k)
    (λ m l. ap (λ m. get_or ids m 0) (let z : suc k + m ≡ k + suc m = omega arith in z) ∙ noted (suc m) (omega arith)) in
    rw (here, rest)

-- Order by the numbers noted.

module _ (bs : List Block) (ids : List ℕ) (noted : (k : ℕ) → k < length bs → get_or ids k 0 ≡ (block_at bs k).id.0) where
  insert_same : (k : ℕ) (js : List ℕ) → k < length bs → All (λ j. j < length bs) js → insert_by_number ids k js ≡ insert_by_id bs k js
  insert_same k [] l a = refl
  insert_same k (j ∷ js) l a = rw (noted k l, noted j a.0, insert_same k js l a.1)

  insert_inside : (k : ℕ) (js : List ℕ) → k < length bs → All (λ j. j < length bs) js → All (λ j. j < length bs) (insert_by_id bs k js)
  insert_inside k [] l a = (l, tt)
  insert_inside k (j ∷ js) l a =
      decide (ltb (block_at bs k).id.0 (block_at bs j).id.0) (λ e. rw e (l, a)) (λ e. rw e (a.0, insert_inside k js l a.1))

  sort_inside : (ks : List ℕ) → All (λ j. j < length bs) ks → All (λ j. j < length bs) (sort_by_id bs ks)
  sort_inside [] a = tt
  sort_inside (k ∷ ks) a = insert_inside k (sort_by_id bs ks) a.0 (sort_inside ks a.1)

  sort_same : (ks : List ℕ) → All (λ j. j < length bs) ks → sort_by_number ids ks ≡ sort_by_id bs ks
  sort_same [] a = refl
  sort_same (k ∷ ks) a = ap (insert_by_number ids k) (sort_same ks a.1) ∙ insert_same k (sort_by_id bs ks) a.0 (sort_inside ks a.1)

-- A list of ids read, and their places noted.

notes_ids : (f : BlockId → ℕ) (s : List ℕ) (n at : ℕ) {all : List BlockId} {end : ℕ} → read_many n read_block_id s at ≡ got all end → notes
    (λ _ i. f i) n read_block_id s at ≡ map f all
notes_ids f s =
    many_all read_block_id s (λ n at all. notes (λ _ i. f i) n read_block_id s at ≡ map f all) (λ at. refl) (λ n at next a rest e q. rw (e, q))

block_first : (l : List Block) (b : ℕ) (a : Block) (rest : List Block) (d : Block) → drop b l ≡ a ∷ rest → get_or l b d ≡ a
block_first l b a rest d e = let z : b ≡ b + 0 = omega arith in ap (λ k. get_or l k d) z ∙ sym (get_or-drop b l 0 d) ∙ ap (λ (l : List Block). get_or l 0 d) e

map_same : {A : Type 0} (f g : A → ℕ) → ((x : A) → f x ≡ g x) → (xs : List A) → map f xs ≡ map g xs
map_same f g e [] = refl
map_same f g e (x ∷ xs) = rw (e x, map_same f g e xs)

any_map : {A : Type 0} (p : ℕ → Bool) (q : A → Bool) (f : A → ℕ) (xs : List A) → All (λ x. p (f x) ≡ q x) xs → any_of p (map f xs) ≡ any_of q xs
any_map p q f [] a = refl
any_map p q f (x ∷ xs) a = rw (a.0, any_map p q f xs a.1)

select_all : (p q : ℕ → Bool) (xs : List ℕ) → All (λ x. p x ≡ q x) xs → select p xs ≡ select q xs
select_all p q [] a = refl
select_all p q (x ∷ xs) a = rw (a.0, select_all p q xs a.1)

-- The job.

module _ (s ids places : List ℕ) (n : ℕ) (j : Job) (at : BlocksAt s n places j) (noted : IdsAt ids j) where
  abbrev bs : List Block
  bs = j.blocks

  pub proper : ProperBlocks bs
  proper =
      let a = job_accepted j at in
      subst (λ (k : Job). ProperBlocks k.blocks) (same_job j at) (proper_blocks a.job a.no_repeat a.no_unknown)

  pub place_is : (i : BlockId) → place_among (ids_noted ids n) i ≡ place_of bs i
  unfolding ids_noted
  place_is i =
      ap (λ k. place_among (ids_from ids 0 k) i) (sym at.count)
      ∙ ap (λ (l : List BlockId). place_among l i) (ids_listed bs ids 0 (λ k l. ap (λ k. get_or ids k 0) (zero-add k) ∙ noted k l))
      ∙ place_among_lem bs i

  -- no id stands twice
  pub ids_once : IdsOnce ids n
  ids_once k l =
      let count = at.count in
      let below : k < length bs = omega arith in
      place_is (record { 0 = get_or ids k 0 }) ∙ ap (λ i. place_of bs (record { 0 = i })) (noted k below) ∙ place_own bs k proper.distinct below

  pub row_is : (b : ℕ) → b < n → rows_at s ids places n b ≡ predecessors_of bs b
  unfolding predecessors_of places_noted
  row_is b l =
      let t = block_there j at b l in
      let p = block_parts s (get_or places b 0) t.2 in
      let here : block_at bs b ≡ t.0 = block_first bs b t.0 (drop (suc b) bs) _ t.3 in
      row_noted s (get_or places b 0) ids n p.head_read
      ∙ notes_ids (place_among (ids_noted ids n)) s p.head.predecessors (get_or places b 0 + 9) p.predecessors_read
      ∙ ap (λ (c : Block). map (place_among (ids_noted ids n)) c.predecessors) (sym here)
      ∙ map_same (place_among (ids_noted ids n)) (place_of bs) place_is (block_at bs b).predecessors

  pub row_inside : (b : ℕ) → b < n → All (λ c. c < n) (rows_at s ids places n b)
  row_inside b l = subst (All (λ c. c < n)) (sym (row_is b l))
      (subst (λ m. All (λ c. c < m) (predecessors_of bs b)) at.count (predecessors_inside bs proper b))

  places_inside : (k m : ℕ) → k + m ≤ length bs → All (λ i. i < length bs) (places_from k m)
  unfolding places_from
  places_inside k zero l = tt
  places_inside k (suc m) l = (omega arith, places_inside (suc k) m (omega arith))

  pub order_is : sort_by_number ids (places_from 0 n) ≡ by_ascending_id bs
  unfolding by_ascending_id job_order
  order_is = ap (λ m. sort_by_number ids (places_from 0 m)) (sym at.count) ∙ sort_same bs ids noted (places_from 0 (length bs))
      (places_inside 0 (length bs) (omega arith))

  -- block b is at the place of an id where it has that id
  same_place : (b : ℕ) → b < length bs → (i : BlockId) → Member i (ids_of bs) → eqb b (place_of bs i) ≡ same_block (block_at bs b).id i
  same_place b l i m =
      decide (same_block (block_at bs b).id i)
      (λ t. eqb_equal b (place_of bs i) (sym (place_own bs b proper.distinct l) ∙ ap (place_of bs) (same_block_lem (block_at bs b).id i t)) ∙ sym t)
      (λ f. eqb_apart b (place_of bs i) (λ e. never (rw (ap (λ k. (block_at bs k).id) e ∙ (place_known bs i m).1) (eqb_same i.0)) f) ∙ sym f)

  names_same : (b c : ℕ) → b < length bs → any_of (eqb b) (predecessors_of bs c) ≡ contains_id (block_at bs c).predecessors (block_at bs b).id
  unfolding predecessors_of
  names_same b c l =
      any_map (eqb b) (same_block (block_at bs b).id) (place_of bs) (block_at bs c).predecessors
      (all_map (λ i. Member i (ids_of bs)) (λ i. eqb b (place_of bs i) ≡ same_block (block_at bs b).id i) (same_place b l) (block_at bs c).predecessors
      (known_at bs proper c))

  pub sorted_inside : All (λ k. k < n) (by_ascending_id bs)
  unfolding by_ascending_id job_order
  sorted_inside = subst (λ m. All (λ k. k < m) (by_ascending_id bs)) at.count
      (sort_inside bs ids noted (places_from 0 (length bs)) (places_inside 0 (length bs) (omega arith)))

  pub successors_named : (b : ℕ) → b < length bs → select (λ c. any_of (eqb b) (rows_at s ids places n c)) (by_ascending_id bs) ≡ successors_of bs b
  unfolding successors_of
  successors_named b l =
      select_all (λ c. any_of (eqb b) (rows_at s ids places n c)) (λ c. contains_id (block_at bs c).predecessors (block_at bs b).id) (by_ascending_id bs)
      (all_map (λ c. c < n) (λ c. any_of (eqb b) (rows_at s ids places n c) ≡ contains_id (block_at bs c).predecessors (block_at bs b).id)
      (λ c h. ap (λ (r : List ℕ). any_of (eqb b) r) (row_is c h) ∙ names_same b c l) (by_ascending_id bs) sorted_inside)

-- Zeros are blank.

pub zeros_read : (n p : ℕ) → ◌≡◌ {A = ℕ} (get_or (replicate n 0) p 0) 0
zeros_read zero p = refl
zeros_read (suc n) zero = refl
zeros_read (suc n) (suc p) = zeros_read n p

pub zeros_blank : (n m : ℕ) → 2305 + n * 64 ≤ m → Blank n (replicate m 0)
zeros_blank n m l = record { zeros = zeros_read m; room = simp length-replicate l }

-- The filled bytes hold the job's graph.

module _ (s ids places : List ℕ) (n : ℕ) (job : NotedJob s ids places n) (g₀ g₁ g₂ : List ℕ) (blank : Blank n g₀)
    (x₁ : RowsFilled (rows_at s ids places n) n g₀ g₁) (x₂ : Ordered g₁ g₂ (128 - n) (sort_by_number ids (places_from 0 n))) where
  few : (b : ℕ) → length (rows_at s ids places n b) ≤ 64
  few b = row_few s (get_or places b 0) ids n

  row_below : (b : ℕ) → b < n → All (λ c. c < n) (rows_at s ids places n b)
  row_below = row_inside s ids places n job.job job.blocks job.numbers

  small : (b i : ℕ) → b < n → get_or (rows_at s ids places n b) i 0 < 128
  small b i l =
      let most = job.few in
      all_get_or (λ x. x < 128) (rows_at s ids places n b) i 0
      (all_map (λ c. c < n) (λ c. c < 128) (λ c h. omega arith) (rows_at s ids places n b) (row_below b l)) (omega arith)

  inside : All (λ k. k < n) (sort_by_number ids (places_from 0 n))
  inside = sort_all (λ k. k < n) ids (places_from 0 n) (places_below n 0 n (omega arith))

  -- the ranks that are read while successors are marked
  pub graph_ranks : RanksFit g₂ n
  graph_ranks = ranks_fit (rows_at s ids places n) n (sort_by_number ids (places_from 0 n)) g₀ g₁ g₂ job.few few small x₁ x₂ blank inside

  module _ (g₃ : List ℕ) (x₃ : AllMarked g₂ g₃ (128 - n) 128) where
    held_predecessors : (b : ℕ) → b < n → neighbours (set g₃ 0 n) false b ≡ predecessors_of job.job.blocks b
    held_predecessors b l =
        predecessors_are (rows_at s ids places n) n (sort_by_number ids (places_from 0 n)) g₀ g₁ g₂ job.few few small x₁ x₂ blank inside
        g₃ x₃ b l
        ∙ row_is s ids places n job.job job.blocks job.numbers b l

    held_successors : (b : ℕ) → b < n → neighbours (set g₃ 0 n) true b ≡ successors_of job.job.blocks b
    held_successors b l =
        let count = job.blocks.count in
        let most = job.few in
        successors_are (rows_at s ids places n) n (sort_by_number ids (places_from 0 n)) g₀ g₁ g₂ most few small x₁ x₂ blank inside
        g₃ x₃ b (omega arith)
        ∙ ap (select (λ c. any_of (eqb b) (rows_at s ids places n c))) (order_is s ids places n job.job job.blocks job.numbers)
        ∙ successors_named s ids places n job.job job.blocks job.numbers b (omega arith)

    held_once : (backward : Bool) (b : ℕ) → b < n → NoRepeats (neighbours (set g₃ 0 n) backward b)
    held_once false b l = subst NoRepeats (sym (held_predecessors b l))
        (predecessors_once job.job.blocks (proper s ids places n job.job job.blocks job.numbers) b)
    held_once true b l = subst NoRepeats (sym (held_successors b l))
        (successors_once job.job.blocks b)

    held_both_ways : (backward : Bool) (b c : ℕ) → b < n → c < n → any_of (eqb b) (neighbours (set g₃ 0 n) backward c) ≡ true
        → any_of (eqb c) (neighbours (set g₃ 0 n) (not backward) b) ≡ true
    held_both_ways false b c l h e =
        let bs = job.job.blocks in
        let count = job.blocks.count in
        among c (sym (held_successors b l))
        (predecessor_succeeds bs (proper s ids places n job.job job.blocks job.numbers) b c (omega arith)
        (member_of b (held_predecessors c h) e))
    held_both_ways true b c l h e =
        let bs = job.job.blocks in
        let count = job.blocks.count in
        among c (sym (held_predecessors b l))
        (successor_predecessor bs (proper s ids places n job.job job.blocks job.numbers) c b (omega arith)
        (member_of b (held_successors c h) e))

    job_held : HoldsGraph job.job.blocks (set g₃ 0 n)
    job_held =
        let at = job.blocks in
        let most = job.few in
        let count = at.count in
        let rows = rows_at s ids places n in
        let order = sort_by_number ids (places_from 0 n) in
        let size = size_is rows n order g₀ g₁ g₂ most few small x₁ x₂ blank inside g₃ x₃ in
        let degree = degree_is rows n order g₀ g₁ g₂ most few small x₁ x₂ blank inside g₃ x₃ in
        let predecessor = predecessor_is rows n order g₀ g₁ g₂ most few small x₁ x₂ blank inside g₃ x₃ in
        let rank = rank_is rows n order g₀ g₁ g₂ most few small x₁ x₂ blank inside g₃ x₃ in
        let below = bit_below rows n order g₀ g₁ g₂ most few small x₁ x₂ blank inside g₃ x₃ in
        record {
          fits = record {
            room = room_is rows n order g₀ g₁ g₂ most few small x₁ x₂ blank inside g₃ x₃;
            size = omega arith;
            degree = λ b l. let f = few b in let d = degree b (omega arith) in omega arith;
            predecessor = λ b i l h.
                let b< : b < n = omega arith in
                let d = degree b b< in
                rw (predecessor b i b< (omega arith), size) (all_below (rows_at s ids places n b) i n (row_below b b<) (omega arith));
            successor = λ b r l r< e.
                rw size (decide (leb (128 - n) r)
                (λ t. rw (rank r r<) (ranked_inside rows n order g₀ g₁ g₂ most few small x₁ x₂ blank inside r
                (leb→le (128 - n) r (test_passes t)) r<))
                (λ f. never e (below b r (omega arith) (not_from (128 - n) r f))));
            low = λ b r l h. below b r (omega arith) (omega arith);
          };
          once = λ backward b l. held_once backward b (omega arith);
          both_ways = λ backward b c l h. held_both_ways backward b c (omega arith) (omega arith);
          size = size ∙ sym count;
          predecessors = λ b l. held_predecessors b (omega arith);
          successors = λ b l. held_successors b (omega arith);
        }
      where
        all_below : (l : List ℕ) (i m : ℕ) → All (λ c. c < m) l → i < length l → get_or l i 0 < m
        all_below [] i m a h = elim h [ ]
        all_below (x ∷ l) zero m a h = a.0
        all_below (x ∷ l) (suc i) m a h = all_below l i m a.1 (omega arith)

        not_from : (a r : ℕ) → leb a r ≡ false → r < a
        not_from a r f = decide (ltb r a) (λ t. ltb_true r a t) (λ e. let l = ltb_false r a e in never (passes_test (le→leb a r l)) f)

    pub graph_held : HoldsGraph (blocks_of s) (set g₃ 0 n)
    graph_held = subst (λ (bs : List Block). HoldsGraph bs (set g₃ 0 n)) (sym (blocks_read job.job job.blocks)) job_held

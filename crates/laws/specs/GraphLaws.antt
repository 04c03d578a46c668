-- The graph of blocks that refusals 7 and 8 let pass: its edges are the predecessors that the
-- blocks name, a block's place is its own, successors are the converse of predecessors, and no
-- neighbour of a block stands twice.
use Rattle.std.specs.Prelude.{ℕ, zero, suc, ◌<◌, ◌≡◌, refl, ◌⊎◌, true, not, List, [], ◌∷◌, map, ltb}
use Rattle.std.proofs.Common.{not-suc-le-zero, arith, subst, ◌∙◌, inl, inr}
use Rattle.std.proofs.Math.Path.{sym, ap}
use Rattle.std.proofs.Math.Bool.{false}
use Rattle.std.proofs.Math.ListN.{length}
use Rattle.std.proofs.lemmas.Bool.{not-false}
use Rattle.entries.specs.declared.BlockId.{BlockId}
use Rattle.model.specs.Lists.{any_of}
use Rattle.model.specs.Tests.{by_cond, decide, never, eqb_same, eqb-true}
use Rattle.model.specs.ListLaws.{All, all_map, all_both, all_select, all_get_or, NoRepeats, no_repeats_select}
use Rattle.model.specs.Rounds.{job_order}
use Rattle.model.specs.Job.{Block, Job, same_block, contains_id, repeats, ids_of, has_repeat, has_unknown}
use Rattle.model.specs.Stage.{block_at, place_of, predecessors_of, insert_by_id, sort_by_id, by_ascending_id, successors_of}
use Rattle.laws.specs.Membership.{
  Some,
  Member,
  neither,
  all_at,
  all_of,
  some_map,
  some_of,
  some_both,
  some_select,
  all_chosen,
  select_none,
  any_some,
  some_any,
  none_any,
  member_get_or,
  all_of_map,
  some_of_map,
  some_unmap,
}
use Rattle.laws.specs.VisitOrder.{Reach, one, more}
use Rattle.laws.specs.Places.{order_below, order_member, order_once}

-- Ids.

pub same_block_lem : (a b : BlockId) → same_block a b ≡ true → a ≡ b
same_block_lem a b e = let n : a.0 ≡ b.0 = eqb-true a.0 b.0 e in λ i. record { 0 = n i }

pub contains_member : (ids : List BlockId) (i : BlockId) → contains_id ids i ≡ true → Member i ids
contains_member ids i h = some_map (λ x. same_block i x ≡ true) (λ x. x ≡ i) (λ x e. sym (same_block_lem i x e)) ids
    (any_some (same_block i) ids h)

pub member_contains : (ids : List BlockId) (i : BlockId) → Member i ids → contains_id ids i ≡ true
member_contains ids i m = some_any (same_block i) ids
    (some_map (λ x. x ≡ i) (λ x. same_block i x ≡ true) (λ x e. rw e (eqb_same i.0)) ids m)

-- Places.

member_id : (b : Block) (bs : List Block) → Member b bs → Member b.id (ids_of bs)
member_id b bs m = some_of_map (λ i. i ≡ b.id) (λ (c : Block). c.id) bs
    (some_map (λ c. c ≡ b) (λ c. c.id ≡ b.id) (λ c e. ap (λ (x : Block). x.id) e) bs m)

-- where no id stands twice the first block's stands no later
first_apart : (c : Block) (cs : List Block) (i : BlockId) → repeats (ids_of (c ∷ cs)) ≡ false → Member i (ids_of cs) → same_block
    c.id i ≡ false
first_apart c cs i d m =
    decide (same_block c.id i)
    (λ e. never (subst (λ k. contains_id (ids_of cs) k ≡ true) (sym (same_block_lem c.id i e)) (member_contains (ids_of cs) i m))
    (neither (contains_id (ids_of cs) c.id) (repeats (ids_of cs)) d).0)
    (λ e. e)

later_distinct : (c : Block) (cs : List Block) → repeats (ids_of (c ∷ cs)) ≡ false → repeats (ids_of cs) ≡ false
later_distinct c cs d = (neither (contains_id (ids_of cs) c.id) (repeats (ids_of cs)) d).1

-- each block's id leads to its place
pub place_own : (bs : List Block) (k : ℕ) → repeats (ids_of bs) ≡ false → k < length bs → place_of bs (block_at bs k).id ≡ k
place_own [] k d h = absurd (not-suc-le-zero h)
place_own (c ∷ cs) zero d h = rw (eqb_same c.id.0)
place_own (c ∷ cs) (suc k) d h =
    rw (first_apart c cs (block_at cs k).id d (member_id (block_at cs k) cs (member_get_or cs k _ (omega arith))))
    (ap suc (place_own cs k (later_distinct c cs d) (omega arith)))

-- a block has a place
member_place : (b : Block) (bs : List Block) → Member b bs → (k : ℕ) × (k < length bs) × (block_at bs k ≡ b)
member_place b [] x' = elim x' [ ]
member_place b (c ∷ cs) (inl e) = (zero, omega arith, e)
member_place b (c ∷ cs) (inr m) = let (k, h, e) = member_place b cs m in (suc k, omega arith, e)

-- and is found there
pub place_member : (b : Block) (bs : List Block) → repeats (ids_of bs) ≡ false → Member b bs → (place_of bs b.id < length bs) ×
    (block_at bs (place_of bs b.id) ≡ b)
place_member b bs d m =
    let (k, h, e) = member_place b bs m in
    let own : place_of bs b.id ≡ k = ap (λ (c : Block). place_of bs c.id) (sym e) ∙ place_own bs k d h in
    rw own (h, e)

-- the place of a known id
pub place_known : (bs : List Block) (i : BlockId) → Member i (ids_of bs) → (place_of bs i < length bs)
    × ((block_at bs (place_of bs i)).id ≡ i)
place_known [] i x' = elim x' [ ]
place_known (c ∷ cs) i (inl h) = rw (ap (λ k. same_block k i) h ∙ eqb_same i.0) (omega arith, h)
place_known (c ∷ cs) i (inr m) =
    let rest = place_known cs i m in
    let inside = rest.0 in
    decide (same_block c.id i) (λ e. rw e (omega arith, same_block_lem c.id i e)) (λ e. rw e (omega arith, rest.1))

-- a block with a predecessor is a block of the job
names_inside : (bs : List Block) (k : ℕ) (P : BlockId → Type 0) → Some P (block_at bs k).predecessors → k < length bs
names_inside [] k P s = elim s [ ]
names_inside (c ∷ cs) zero P s = omega arith
names_inside (c ∷ cs) (suc k) P s = let rest = names_inside cs k P s in omega arith

-- All blocks, by ascending id.

module _ (P : ℕ → Type 0) (bs : List Block) where
  insert_all : (k : ℕ) (js : List ℕ) → P k → All P js → All P (insert_by_id bs k js)
  insert_all k [] h a = (h, tt)
  insert_all k (j ∷ js) h a = by_cond (All P) (ltb (block_at bs k).id.0 (block_at bs j).id.0) (λ t. (h, a))
      (λ t. (a.0, insert_all k js h a.1))

  sort_all : (ks : List ℕ) → All P ks → All P (sort_by_id bs ks)
  sort_all [] a = tt
  sort_all (k ∷ ks) a = insert_all k (sort_by_id bs ks) a.0 (sort_all ks a.1)

  insert_some : (k : ℕ) (js : List ℕ) → P k ⊎ Some P js → Some P (insert_by_id bs k js)
  insert_some k [] h = h
  insert_some k (j ∷ js) (inl p) = by_cond (Some P) (ltb (block_at bs k).id.0 (block_at bs j).id.0) (λ t. inl p)
      (λ t. inr (insert_some k js (inl p)))
  insert_some k (j ∷ js) (inr (inl p)) = by_cond (Some P) (ltb (block_at bs k).id.0 (block_at bs j).id.0) (λ t. inr (inl p)) (λ t. inl p)
  insert_some k (j ∷ js) (inr (inr s)) = by_cond (Some P) (ltb (block_at bs k).id.0 (block_at bs j).id.0) (λ t. inr (inr s))
      (λ t. inr (insert_some k js (inr s)))

  sort_some : (ks : List ℕ) → Some P ks → Some P (sort_by_id bs ks)
  sort_some [] x' = elim x' [ ]
  sort_some (k ∷ ks) (inl p) = insert_some k (sort_by_id bs ks) (inl p)
  sort_some (k ∷ ks) (inr s) = insert_some k (sort_by_id bs ks) (inr (sort_some ks s))

module _ (bs : List Block) where
  insert_once : (k : ℕ) (js : List ℕ) → All (λ j. j ≡ k → ⊥) js → NoRepeats js → NoRepeats (insert_by_id bs k js)
  insert_once k [] a n = (tt, tt)
  insert_once k (j ∷ js) a n =
      by_cond NoRepeats (ltb (block_at bs k).id.0 (block_at bs j).id.0) (λ t. (a, n))
      (λ t. (insert_all (λ i. i ≡ j → ⊥) bs k js (λ e. a.0 (sym e)) n.0, insert_once k js a.1 n.1))

  sort_once : (ks : List ℕ) → NoRepeats ks → NoRepeats (sort_by_id bs ks)
  sort_once [] n = tt
  sort_once (k ∷ ks) n = insert_once k (sort_by_id bs ks) (sort_all (λ j. j ≡ k → ⊥) bs ks n.0) (sort_once ks n.1)

  -- By their definition no successor of a block stands twice, whatever the blocks name.
  pub successors_once : (b : ℕ) → NoRepeats (successors_of bs b)
  unfolding successors_of by_ascending_id
  successors_once b =
      no_repeats_select (λ c. contains_id (block_at bs c).predecessors (block_at bs b).id) (by_ascending_id bs)
      (sort_once (job_order (length bs)) (order_once (length bs)))

-- The edges.

-- no id stands twice, nor a predecessor within one block, and each predecessor is a block
pub record ProperBlocks (bs : List Block) : Type 0 where
  pub distinct : repeats (ids_of bs) ≡ false
  pub predecessors_distinct : All (λ b. repeats b.predecessors ≡ false) bs
  pub known : All (λ b. All (λ i. Member i (ids_of bs)) b.predecessors) bs

-- the blocks of a job that refusals 7 and 8 let pass
pub proper_blocks : (j : Job) → has_repeat j ≡ false → has_unknown j ≡ false → ProperBlocks j.blocks
unfolding has_repeat has_unknown
proper_blocks j r u =
    let ids = ids_of j.blocks in
    let unknown = (neither (any_of (λ (b : Block). any_of (λ i. not (contains_id ids i)) b.predecessors) j.blocks)
    (not (contains_id ids j.scope)) u).0 in
    record {
      distinct = (neither (repeats ids) _ r).0;
      predecessors_distinct = none_any (λ (b : Block). repeats b.predecessors) j.blocks (neither (repeats ids) _ r).1;
      known = all_map (λ (b : Block). any_of (λ i. not (contains_id ids i)) b.predecessors ≡ false)
          (λ b. All (λ i. Member i ids) b.predecessors)
          (λ b h. all_map (λ i. not (contains_id ids i) ≡ false) (λ i. Member i ids)
          (λ i e. contains_member ids i (not-false (contains_id ids i) e)) b.predecessors
          (none_any (λ i. not (contains_id ids i)) b.predecessors h))
          j.blocks (none_any (λ (b : Block). any_of (λ i. not (contains_id ids i)) b.predecessors) j.blocks unknown);
    }

module _ (bs : List Block) (ok : ProperBlocks bs) where
  pub known_at : (b : ℕ) → All (λ i. Member i (ids_of bs)) (block_at bs b).predecessors
  known_at b = all_get_or (λ c. All (λ i. Member i (ids_of bs)) c.predecessors) bs b _ ok.known tt

  pub predecessors_inside : (b : ℕ) → All (λ c. c < length bs) (predecessors_of bs b)
  unfolding predecessors_of
  predecessors_inside b =
      all_of_map (λ c. c < length bs) (place_of bs) (block_at bs b).predecessors
      (all_map (λ i. Member i (ids_of bs)) (λ i. place_of bs i < length bs) (λ i m. (place_known bs i m).0)
      (block_at bs b).predecessors (known_at b))

  -- an edge of the graph is one of the job ..
  pub predecessor_precedes : (c b : ℕ) → Member c (predecessors_of bs b) → Member (block_at bs c).id (block_at bs b).predecessors
  unfolding predecessors_of
  predecessor_precedes c b m =
      some_map (λ i. (Member i (ids_of bs)) × (place_of bs i ≡ c)) (λ i. i ≡ (block_at bs c).id)
      (λ i h. sym (place_known bs i h.0).1 ∙ ap (λ k. (block_at bs k).id) h.1) (block_at bs b).predecessors
      (some_both (λ i. Member i (ids_of bs)) (λ i. place_of bs i ≡ c) (block_at bs b).predecessors (known_at b)
      (some_unmap (λ k. k ≡ c) (place_of bs) (block_at bs b).predecessors m))

  pub predecessor_block : (c b : ℕ) → Member c (predecessors_of bs b) → b < length bs
  predecessor_block c b m = names_inside bs b (λ i. i ≡ (block_at bs c).id) (predecessor_precedes c b m)

  -- .. and the other way round
  pub precedes_predecessor : (a : Block) (b : ℕ) → Member a bs → Member a.id (block_at bs b).predecessors → Member
      (place_of bs a.id) (predecessors_of bs b)
  unfolding predecessors_of
  precedes_predecessor a b m p = some_of_map (λ k. k ≡ place_of bs a.id) (place_of bs) (block_at bs b).predecessors
      (some_map (λ i. i ≡ a.id) (λ i. place_of bs i ≡ place_of bs a.id) (λ i e. ap (place_of bs) e) (block_at bs b).predecessors p)

  -- A successor is a block that names this one.
  pub successors_inside : (b : ℕ) → All (λ c. c < length bs) (successors_of bs b)
  unfolding successors_of by_ascending_id
  successors_inside b =
      all_select (λ c. c < length bs) (λ c. contains_id (block_at bs c).predecessors (block_at bs b).id) (by_ascending_id bs)
      (sort_all (λ c. c < length bs) bs (job_order (length bs)) (order_below (length bs)))

  pub successor_precedes : (b c : ℕ) → Member c (successors_of bs b) → Member (block_at bs b).id (block_at bs c).predecessors
  unfolding successors_of
  successor_precedes b c m =
      contains_member (block_at bs c).predecessors (block_at bs b).id
      (all_at (λ k. contains_id (block_at bs k).predecessors (block_at bs b).id ≡ true) (successors_of bs b) c
      (all_chosen (λ k. contains_id (block_at bs k).predecessors (block_at bs b).id ≡ true)
      (λ k. contains_id (block_at bs k).predecessors (block_at bs b).id) (by_ascending_id bs)
      (all_of _ (by_ascending_id bs) (λ k n t. t))) m)

  pub precedes_successor : (b : ℕ) (P : ℕ → Type 0) (c : ℕ) → c < length bs → P c → Member (block_at bs b).id
      (block_at bs c).predecessors → Some P (successors_of bs b)
  unfolding successors_of by_ascending_id
  precedes_successor b P c h p n =
      some_select P (λ k. contains_id (block_at bs k).predecessors (block_at bs b).id) (by_ascending_id bs)
      (sort_some (λ k. (contains_id (block_at bs k).predecessors (block_at bs b).id ≡ true) × P k) bs (job_order (length bs))
      (some_of (λ k. (contains_id (block_at bs k).predecessors (block_at bs b).id ≡ true) × P k) (job_order (length bs)) c
      (member_contains (block_at bs c).predecessors (block_at bs b).id n, p) (order_member (length bs) c h)))

  -- so each is a successor of its predecessors
  pub predecessor_succeeds : (b c : ℕ) → c < length bs → Member b (predecessors_of bs c) → Member c (successors_of bs b)
  predecessor_succeeds b c l m = precedes_successor b (λ k. k ≡ c) c l refl (predecessor_precedes b c m)

  pub no_successor : (b : ℕ) → All (λ c. Member (block_at bs b).id c.predecessors → ⊥) bs → successors_of bs b ≡ []
  unfolding successors_of by_ascending_id
  no_successor b none =
      select_none (λ k. contains_id (block_at bs k).predecessors (block_at bs b).id) (by_ascending_id bs)
      (sort_all (λ k. contains_id (block_at bs k).predecessors (block_at bs b).id ≡ false) bs (job_order (length bs))
      (all_map (λ k. k < length bs) _ (λ k h. apart k h) (job_order (length bs)) (order_below (length bs))))
    where
      apart : (k : ℕ) → k < length bs → contains_id (block_at bs k).predecessors (block_at bs b).id ≡ false
      apart k h =
          decide (contains_id (block_at bs k).predecessors (block_at bs b).id)
          (λ e. absurd (all_at (λ c. Member (block_at bs b).id c.predecessors → ⊥) bs (block_at bs k) none (member_get_or bs k _ h)
          (contains_member (block_at bs k).predecessors (block_at bs b).id e)))
          (λ e. e)

  -- Going on by successors from a block of the job is going back by predecessors.

  pub successor_predecessor : (b c : ℕ) → b < length bs → Member c (successors_of bs b) → Member b (predecessors_of bs c)
  successor_predecessor b c h m =
      subst (λ k. Member k (predecessors_of bs c)) (place_own bs b ok.distinct h)
      (precedes_predecessor (block_at bs b) c (member_get_or bs b _ h) (successor_precedes b c m))

  pub reach_inside : {a b : ℕ} → Reach (successors_of bs) a b → b < length bs
  reach_inside {a} {b} (one m) = all_at (λ c. c < length bs) (successors_of bs a) b (successors_inside a) m
  reach_inside {b = c} (more {b = b} r m) = all_at (λ c. c < length bs) (successors_of bs b) c (successors_inside b) m

  reach_first : {a b c : ℕ} → Member b (predecessors_of bs a) → Reach (predecessors_of bs) b c → Reach (predecessors_of bs) a c
  reach_first m (one n) = more (one m) n
  reach_first m (more r n) = more (reach_first m r) n

  pub reach_back : {a b : ℕ} → a < length bs → Reach (successors_of bs) a b → Reach (predecessors_of bs) b a
  reach_back {a} {b} h (one m) = one (successor_predecessor a b h m)
  reach_back {b = c} h (more {b = b} r m) = reach_first (successor_predecessor b c (reach_inside r) m) (reach_back h r)

  -- No predecessor of a block stands twice.

  -- known ids with one place are one id
  place_apart : (i k : BlockId) → Member i (ids_of bs) → Member k (ids_of bs) → same_block i k ≡ false → place_of bs k ≡ place_of bs i → ⊥
  place_apart i k here there apart e =
      let same : k ≡ i = sym (place_known bs k there).1 ∙ ap (λ p. (block_at bs p).id) e ∙ (place_known bs i here).1 in
      never (ap (same_block i) same ∙ eqb_same i.0) apart

  ids_once : (ids : List BlockId) → All (λ i. Member i (ids_of bs)) ids → repeats ids ≡ false → NoRepeats (map (place_of bs) ids)
  ids_once [] known r = tt
  ids_once (i ∷ ids) known r =
      let apart = neither (contains_id ids i) (repeats ids) r in (
        all_of_map (λ p. p ≡ place_of bs i → ⊥) (place_of bs) ids
            (all_map (λ k. Member k (ids_of bs) × (same_block i k ≡ false)) (λ k. place_of bs k ≡ place_of bs i → ⊥)
            (λ k h. place_apart i k known.0 h.0 h.1) ids
            (all_both (λ k. Member k (ids_of bs)) (λ k. same_block i k ≡ false) ids known.1 (none_any (same_block i) ids apart.0))),
        ids_once ids known.1 apart.1,
      )

  -- By refusal 7 no id of a predecessor stands twice, and by refusal 8 each has a place of its own.
  pub predecessors_once : (b : ℕ) → NoRepeats (predecessors_of bs b)
  unfolding predecessors_of
  predecessors_once b =
      ids_once (block_at bs b).predecessors (known_at b)
      (all_get_or (λ c. repeats c.predecessors ≡ false) bs b _ ok.predecessors_distinct refl)

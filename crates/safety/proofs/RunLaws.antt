-- A run, by places: beside each of its blocks stands another of its blocks, or no block stands
-- there; and without loops no block is reached from itself.
use Rattle.std.specs.Prelude.{ℕ, ◌<◌, ◌≡◌, refl, ◌⊎◌, List, [], ◌∷◌, ◌++◌, map, length}
use Rattle.std.proofs.Common.{sym, ap, subst}
use Rattle.std.proofs.Math.Logic.{inl, inr}
use Rattle.entries.specs.declared.BlockId.{BlockId}
use Rattle.model.specs.Job.{Block}
use Rattle.model.specs.Stage.{block_at, place_of, predecessors_of, successors_of, graph_of}
use Rattle.model.specs.ListLaws.{All}
use Rattle.laws.specs.Membership.{Some, Member, all_at, some_of, member_get_or}
use Rattle.safety.specs.Runs.{Precedes, Linked, WithoutLoops, NoPredecessor, NoSuccessor, FirstHas, LastHas, RunVia}
use Rattle.laws.specs.VisitOrder.{Reach, one, more}
use Rattle.safety.specs.PropagationSafe.{Beside}
use Rattle.laws.specs.GraphLaws.{
  ProperBlocks,
  place_member,
  predecessors_inside,
  predecessor_precedes,
  predecessor_block,
  precedes_predecessor,
  successors_inside,
  precedes_successor,
  no_successor,
  reach_inside,
  reach_back,
}

-- a block with the block before it, after it
before : (a : Block) (s : List Block) (b : Block) → Linked (a ∷ s) → Member b s → (c : Block) × Member c (a ∷ s) × Precedes c b
before a [] b l x'' = elim x'' [ ]
before a (c ∷ s) b l (inl e) = (a, inl refl, subst (Precedes a) e l.0)
before a (c ∷ s) b l (inr m) = let (d, n, p) = before c s b l.1 m in (d, inr n, p)

pub starts_or_before : (s : List Block) (b : Block) → Linked s → FirstHas NoPredecessor s → Member b s → NoPredecessor b ⊎
    ((c : Block) × Member c s × Precedes c b)
starts_or_before [] b l f _ = elim f [ ]
starts_or_before (a ∷ s) b l f (inl e) = inl (subst NoPredecessor e f)
starts_or_before (a ∷ s) b l f (inr m) = inr (before a s b l m)

pub ends_or_after : (P : Block → Type 0) (s : List Block) (b : Block) → Linked s → LastHas P s → Member b s → P b ⊎
    ((c : Block) × Member c s × Precedes b c)
ends_or_after P [] b l f _ = elim f [ ]
ends_or_after P (a ∷ []) b l f (inr m) = elim m [ ]
ends_or_after P (a ∷ []) b l f (inl e) = inl (subst P e f)
ends_or_after P (a ∷ (c ∷ s)) b l f (inl e) = inr (c, inr (inl refl), subst (λ x. Precedes x c) e l.0)
ends_or_after P (a ∷ (c ∷ s)) b l f (inr m) = up (ends_or_after P (c ∷ s) b l.1 f m)
  where
    up : P b ⊎ ((d : Block) × Member d (c ∷ s) × Precedes b d) → P b ⊎ ((d : Block) × Member d (a ∷ (c ∷ s)) × Precedes b d)
    up (inl p) = inl p
    up (inr h) = inr (h.0, inr h.1, h.2)

-- A block reached by predecessors begins a control sequence to where it was reached from.
module _ (bs : List Block) (ok : ProperBlocks bs) where
  record Sequence (a b : ℕ) : Type 0 where
    between : List Block
    linked : Linked (block_at bs b ∷ (between ++ (block_at bs a ∷ [])))
    blocks : All (λ c. Member c bs) (block_at bs b ∷ (between ++ (block_at bs a ∷ [])))

  inside_block : (c b : ℕ) → Member c (predecessors_of bs b) → Member (block_at bs c) bs
  inside_block c b m = member_get_or bs c _ (all_at (λ k. k < length bs) (predecessors_of bs b) c (predecessors_inside bs ok b) m)

  reach_sequence : {a b : ℕ} → Reach (predecessors_of bs) a b → Sequence a b
  reach_sequence {a} {b} (one m) = record {
    between = [];
    linked = (predecessor_precedes bs ok b a m, tt);
    blocks = (inside_block b a m, (member_get_or bs a _ (predecessor_block bs ok b a m), tt));
  }
  reach_sequence {b = c} (more {b = b} r m) =
      let s = reach_sequence r in
      record {
        between = block_at bs b
            ∷ s.between;
        linked = (predecessor_precedes bs ok c b m, s.linked);
        blocks = (inside_block c b m, s.blocks);
      }

  module _ (free : WithoutLoops bs) where
    pub no_loop_back : (b : ℕ) → Reach (predecessors_of bs) b b → ⊥
    no_loop_back b r = let s = reach_sequence r in free (block_at bs b) [] s.between []
        (record { blocks = s.blocks; some = tt; linked = s.linked })

    pub no_loop_onward : (b : ℕ) → Reach (successors_of bs) b b → ⊥
    no_loop_onward b r = no_loop_back b (reach_back bs ok (reach_inside bs ok r) r)

-- The places of a run's blocks, with or without loops.
abbrev pub OnRun : List Block → List Block → ℕ → Type 0
OnRun bs s k = Member (block_at bs k) s

module _ (bs : List Block) (via : BlockId) (ok : ProperBlocks bs) (s : List Block) (run : RunVia bs via s) where
  on_place : (c : Block) → Member c s → (place_of bs c.id < length bs) × OnRun bs s (place_of bs c.id) ×
      (block_at bs (place_of bs c.id) ≡ c)
  on_place c m =
      let p = place_member c bs ok.distinct (all_at (λ b. Member b bs) s c run.sequence.blocks m) in
      (p.0, subst (λ b. Member b s) (sym p.1) m, p.1)

  pub back : Beside (OnRun bs s) (graph_of bs).size (graph_of bs).predecessors
  unfolding graph_of predecessors_of
  back = record {
    in_graph = predecessors_inside bs ok;
    beside = λ b on. go b
        (starts_or_before s (block_at bs b) run.sequence.linked run.starts on);
  }
    where
      go : (b : ℕ) → NoPredecessor (block_at bs b) ⊎ ((c : Block) × Member c s × Precedes c (block_at bs b)) →
          (predecessors_of bs b ≡ []) ⊎ Some (OnRun bs s) (predecessors_of bs b)
      go b (inl e) = inl (ap (map (place_of bs)) e)
      go b (inr h) =
          let c = h.0 in
          inr (some_of (OnRun bs s) (predecessors_of bs b) (place_of bs c.id) (on_place c h.1).1
          (precedes_predecessor bs ok c b (all_at (λ d. Member d bs) s c run.sequence.blocks h.1) h.2))

  pub onward : Beside (OnRun bs s) (graph_of bs).size (graph_of bs).successors
  unfolding graph_of
  onward = record {
    in_graph = successors_inside bs ok;
    beside = λ b m. go b
        (ends_or_after (NoSuccessor bs) s (block_at bs b) run.sequence.linked run.ends m);
  }
    where
      go : (b : ℕ) → NoSuccessor bs (block_at bs b) ⊎ ((c : Block) × Member c s × Precedes (block_at bs b) c) →
          (successors_of bs b ≡ []) ⊎ Some (OnRun bs s) (successors_of bs b)
      go b (inl none) = inl (no_successor bs ok b none)
      go b (inr h) =
          let c = h.0 in
          let p = on_place c h.1 in
          inr (precedes_successor bs ok b (OnRun bs s) (place_of bs c.id) p.0 p.1
          (subst (Precedes (block_at bs b)) (sym p.2) h.2))

  pub on_via : OnRun bs s (place_of bs via)
  on_via = go s run.passes (λ c m. (on_place c m).1)
    where
      go : (t : List Block) → Some (λ b. b.id ≡ via) t → ((c : Block) → Member c t → OnRun bs s (place_of bs c.id)) → OnRun bs s
          (place_of bs via)
      go [] x'' f = elim x'' [ ]
      go (c ∷ t) (inl e) f = subst (λ i. OnRun bs s (place_of bs i)) e (f c (inl refl))
      go (c ∷ t) (inr r) f = go t r (λ d m. f d (inr m))

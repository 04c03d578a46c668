-- Graphs that agree on their blocks give the same propagation: a place that is no block counts as
-- marked, so its neighbours are never asked for.
use Prim.Native.Nat.{ℕ, zero, suc, ◌<◌}
use native.Mathlib.Omega.{arith}
use Rattle.std.specs.Prelude.{◌≡◌, false, length, get_or}
use Rattle.std.proofs.Math.Path.{refl, ap}
use Rattle.std.proofs.Common.{◌∙◌}
use mathlib.Core.List.{List, [], ◌∷◌}
use Rattle.std.proofs.Math.ListN.{set, replicate, length-set}
use Rattle.std.proofs.lemmas.List.{length-replicate}
use Rattle.model.specs.Tests.{decide, never}
use Rattle.model.specs.Sets.{NodeSet}
use Rattle.model.specs.Registry.{PropertyPathRegistry}
use Rattle.model.specs.Visit.{
  TraversalState,
  Unmarked,
  Done,
  is_marked,
  Visited,
  unmarked_in,
  marked,
  enter,
  leave,
  each,
  visit_within,
  visit,
}
use Rattle.model.specs.Rounds.{job_order, reverse_job_order, walk, rounds_from}
use Rattle.model.specs.Reduction.{reduce_maybe_optional_chains}
use Rattle.model.specs.Propagation.{
  Work,
  JoiningRule,
  join_with,
  join,
  Graph,
  round_start,
  forward,
  backward,
  round,
  has_changed,
  propagate_with,
  propagate_non_null,
}

unmarked_inside : (ms : List TraversalState) (b : ℕ) → is_marked (get_or ms b Done) ≡ false → b < length ms
unmarked_inside [] b e = never refl e
unmarked_inside (m ∷ ms) zero e = omega arith
unmarked_inside (m ∷ ms) (suc b) e = let l = unmarked_inside ms b e in omega arith

module _ {W : Type 0} where
  -- a step leaves as many marks as there were
  abbrev Keeps : (ℕ → Visited W → Visited W) → Type 0
  Keeps step = (b : ℕ) (x : Visited W) → length (step b x).marks ≡ length x.marks

  each_keeps : (step : ℕ → Visited W → Visited W) → Keeps step → (bs : List ℕ) (x : Visited W) → length
      (each step bs x).marks ≡ length x.marks
  each_keeps step k [] x = refl
  each_keeps step k (b ∷ bs) x = each_keeps step k bs (step b x) ∙ k b x

  within_keeps : (near : ℕ → List ℕ) (join : ℕ → List TraversalState → W → W) (most : ℕ) → Keeps (visit_within most near join)
  unfolding visit_within
  within_keeps near join zero b x = refl
  within_keeps near join (suc most) b x =
      decide (marked b x) (λ e. rw (e, visit_within))
      (λ e. rw (e, visit_within)
      (length-set (each (visit_within most near join) (near b) (enter b x)).marks b Done
      ∙ each_keeps (visit_within most near join) (within_keeps near join most) (near b) (enter b x)
      ∙ length-set x.marks b _))

  each_agrees : (n : ℕ) (u v : ℕ → Visited W → Visited W) → Keeps u → ((b : ℕ) (x : Visited W) → length x.marks ≡ n → u b x ≡ v b x)
      → (bs : List ℕ) (x : Visited W) → length x.marks ≡ n → each u bs x ≡ each v bs x
  each_agrees n u v k s [] x l = refl
  each_agrees n u v k s (b ∷ bs) x l = each_agrees n u v k s bs (u b x) (k b x ∙ l) ∙ ap (each v bs) (s b x l)

  -- neighbours and joins that agree on n blocks
  module _ (n : ℕ) (near near' : ℕ → List ℕ) (join join' : ℕ → List TraversalState → W → W)
      (nears : (b : ℕ) → b < n → near b ≡ near' b)
      (joins : (b : ℕ) (ms : List TraversalState) (w : W) → b < n → join b ms w ≡ join' b ms w) where
    within_agrees : (most b : ℕ) (x : Visited W) → length x.marks ≡ n → visit_within most near join b x ≡ visit_within most near' join' b x
    unfolding visit_within
    within_agrees zero b x l = refl
    within_agrees (suc most) b x l =
        decide (marked b x) (λ e. rw (e, visit_within))
        (λ e.
        let inside = unmarked_inside x.marks b e in
        let less : b < n = omega arith in
        let mid = each (visit_within most near join) (near b) (enter b x) in
        let same : mid ≡ each (visit_within most near' join') (near' b) (enter b x) =
        ap (λ (bs : List ℕ). each (visit_within most near join) bs (enter b x)) (nears b less)
        ∙ each_agrees n (visit_within most near join) (visit_within most near' join') (within_keeps near join most)
        (within_agrees most) (near' b) (enter b x) (length-set x.marks b _ ∙ l) in
        rw (e, visit_within)
        ((λ i. record { marks = set mid.marks b Done; work = joins b mid.marks mid.work less i }) ∙ ap (leave join' b) same))

    walk_agrees : (order : List ℕ) (w : W) → walk n near join order w ≡ walk n near' join' order w
    unfolding walk visit
    walk_agrees order w =
        ap (λ (v : Visited W). v.work)
        (each_agrees n (visit near join) (visit near' join') (λ b x. within_keeps near join (unmarked_in x.marks) b x)
        (λ b x l. within_agrees (unmarked_in x.marks) b x l) order (record { marks = replicate n Unmarked; work = w })
        (length-replicate n Unmarked))

pub record Agree (g h : Graph) : Type 0 where
  pub size : g.size ≡ h.size
  pub predecessors : (b : ℕ) → b < g.size → g.predecessors b ≡ h.predecessors b
  pub successors : (b : ℕ) → b < g.size → g.successors b ≡ h.successors b

module _ (rule : JoiningRule) {g h : Graph} (a : Agree g h) where
  round_agrees : (w : Work) → round reduce_maybe_optional_chains rule g w ≡ round reduce_maybe_optional_chains rule h w
  unfolding round forward backward join
  round_agrees w =
      let start = round_start w.registry w.sets in
      let mid = forward reduce_maybe_optional_chains rule g start in
      walk_agrees g.size g.successors h.successors (join reduce_maybe_optional_chains rule g.successors)
      (join reduce_maybe_optional_chains rule h.successors) a.successors
      (λ b ms u l. ap (λ (bs : List ℕ). join_with reduce_maybe_optional_chains (rule ms bs) b u) (a.successors b l))
      (reverse_job_order g.size) mid
      ∙ ap (λ (n : ℕ). walk n h.successors (join reduce_maybe_optional_chains rule h.successors) (reverse_job_order n) mid) a.size
      ∙ ap (backward reduce_maybe_optional_chains rule h)
      (walk_agrees g.size g.predecessors h.predecessors (join reduce_maybe_optional_chains rule g.predecessors)
      (join reduce_maybe_optional_chains rule h.predecessors) a.predecessors
      (λ b ms u l. ap (λ (bs : List ℕ). join_with reduce_maybe_optional_chains (rule ms bs) b u) (a.predecessors b l))
      (job_order g.size) start
      ∙ ap (λ (n : ℕ). walk n h.predecessors (join reduce_maybe_optional_chains rule h.predecessors) (job_order n) start) a.size)

  pub propagation_agrees : (reg : PropertyPathRegistry) (sets : List NodeSet)
      → propagate_non_null rule g reg sets ≡ propagate_non_null rule h reg sets
  unfolding propagate_non_null propagate_with
  propagation_agrees reg sets i = rounds_from has_changed (λ w. round_agrees w i) 100 zero (round_start reg sets)

-- A round, and the rounds that are still to come.
use Prim.Native.Nat.{ℕ, suc, ◌+◌, ◌-◌, ◌≤◌, ◌<◌}
use native.Mathlib.Omega.{arith}
use native.Mathlib.Nat.{le_refl, le_trans, lt_of_lt_of_le}
use native.Mathlib.Numerals.{add-one}
use mathlib.Core.Path.{◌≡◌, refl, sym, ap, subst, ◌∙◌}
use mathlib.Core.Bool.{Bool, true, false}
use mathlib.Core.List.{List}
use lib.ListN.{length, get_or, replicate, length-replicate, get_or-replicate}
use lib.Dec.{ltb}
use Rattle.std.specs.Prelude.{Result, Ok, Err}
use Rattle.entries.specs.declared.Refusal.{Refusal}
use Rattle.model.specs.Tests.{decide, never}
use Rattle.model.specs.Registry.{node_limit}
use Rattle.model.specs.Rounds.{Rounds, rounds_from}
use Rattle.model.specs.RoundsLaws as laws
use Rattle.model.specs.Reduction.{reduce_maybe_optional_chains}
use Rattle.model.specs.Propagation.{Work, JoiningRule, round_start, forward, backward, round, has_changed, propagate_with, propagate_non_null}
use Rattle.model.specs.PropagationLaws.{ProperWork, ReducedAt}
use Rattle.rows.specs.Rows.{rows_of}
use Rattle.registry.specs.Words.{registry_of}
use Rattle.graph.specs.Bytes.{size_in, graph_in}
use Rattle.propagation.specs.Order.{OrderNoted}
use Rattle.propagation.specs.Joins.{work_of, join_in, RowsStand, AllReduced, ReducedBefore, HoldsWork, StepsTo, Steps}
use Rattle.propagation.specs.Propagates.{walk_in, Orders, TurnsTo, Turns, HoldsRounds}
use Rattle.propagation.proofs.Reductions.{stands_proper, reduced_rows, walk_keeps_reduced, walk_stays_proper, walk_reduces}
use Rattle.propagation.proofs.Walking.{Adds, adds_order, walk_adds}

-- One round.

abbrev pub round_in : JoiningRule → List ℕ → Work → Work
round_in rule g w = round reduce_maybe_optional_chains rule (graph_in g) w

module _ (rule : JoiningRule) (g : List ℕ) where
  two_walks : (w : Work) → round_in rule g w ≡ walk_in rule g true (walk_in rule g false (round_start w.registry w.sets))
  unfolding round forward backward graph_in walk_in join_in
  two_walks w = refl

  round_adds : (w : Work) → Adds w (round_in rule g w)
  round_adds w =
      subst (Adds w) (sym (two_walks w))
      (le_trans (walk_adds rule g false (round_start w.registry w.sets))
      (walk_adds rule g true (walk_in rule g false (round_start w.registry w.sets))))

  -- after a round each block's set is reduced
  round_reduces : (w : Work) → ProperWork w → (b : ℕ) → b < size_in g → ReducedAt (round_in rule g w) b
  round_reduces w p b l =
      let start = round_start w.registry w.sets in
      let q : ProperWork start = record { sound = p.sound; members = p.members } in
      subst (λ (u : Work). ReducedAt u b) (sym (two_walks w))
      (walk_keeps_reduced rule g true (walk_in rule g false start) (walk_stays_proper rule g false start q) b (walk_reduces rule g start q b l))

  module _ (sets ws : List ℕ) where
    -- a round does not look at whether a set has changed before it
    from_unchanged : (c : Bool)
        → round_in rule g (work_of (size_in g) sets ws c) ≡ walk_in rule g true (walk_in rule g false (work_of (size_in g) sets ws false))
    unfolding work_of
    from_unchanged c = two_walks (work_of (size_in g) sets ws c)

    pub round_full : node_limit < length (walk_in rule g false (work_of (size_in g) sets ws false)).registry
        → node_limit < length (round_in rule g (work_of (size_in g) sets ws true)).registry
    round_full full =
        subst (λ (w : Work). node_limit < length w.registry) (sym (from_unchanged true))
        (lt_of_lt_of_le full (walk_adds rule g true (walk_in rule g false (work_of (size_in g) sets ws false))))

    module _ (f bk : List ℕ) (dirty other : List Bool) where
      -- after its forward walk each set is reduced
      pub round_halfway : {os : List ℕ} → RowsStand (size_in g) sets ws os → {c : Bool} {ts vs ps : List ℕ} → HoldsWork
          (walk_in rule g false (work_of (size_in g) sets ws false)) (size_in g) c ts vs ps → AllReduced (size_in g) ts vs
      round_halfway s {c} {ts} {vs} h = reduced_rows (size_in g) ts vs c (walk_in rule g false (work_of (size_in g) sets ws false)) h.same
          (walk_reduces rule g (work_of (size_in g) sets ws false) (stands_proper s false))

      module _ (orders : Orders rule g f bk dirty other sets) {c : Bool} {d' o' : List Bool} {ts vs ps : List ℕ}
          (h : StepsTo rule g false f other sets (walk_in rule g false (work_of (size_in g) sets ws false)) c d' o' ts vs ps) where
        leads : walk_in rule g true (work_of (size_in g) ts vs c) ≡ round_in rule g (work_of (size_in g) sets ws true)
        leads = ap (walk_in rule g true) (sym h.holds.same) ∙ sym (from_unchanged true)

        pub round_done : (r : Result Bool Refusal) (o'' d'' : List Bool) (us xs os : List ℕ)
            → Steps rule g true bk d' ts (walk_in rule g true (work_of (size_in g) ts vs c)) r o'' d'' us xs os
            → Turns rule g f bk (round_in rule g (work_of (size_in g) sets ws true)) r d'' o'' us xs os
        round_done (Ok c'') o'' d'' us xs os k = record {
          holds = subst (λ (w : Work). HoldsWork w (size_in g) c'' us xs os) leads k.holds;
          orders = record {
            forth = orders.forth;
            back = orders.back;
            long_forth = k.flags.other_long;
            long_back = k.flags.long;
            clean_forth = k.others f h.flags.clean;
            clean_back = k.flags.clean;
          };
        }
        round_done (Err e) o'' d'' us xs os k = (k.0, subst (λ (w : Work). node_limit < length w.registry) leads k.1)

-- The loop over rounds: `ran` of them are run, and those still allowed lead to `end`.
pub record Rounding (rule : JoiningRule) (g f bk : List ℕ) (end : Rounds Work) (dirty other : List Bool) (sets ws os : List ℕ) (ran : ℕ) : Type 0 where
  pub orders : Orders rule g f bk dirty other sets
  pub stands : RowsStand (size_in g) sets ws os
  pub before : ReducedBefore (ltb 0 ran) (size_in g) sets ws
  pub rest : rounds_from has_changed (round_in rule g) (100 - ran) ran (work_of (size_in g) sets ws true) ≡ end

pub rounds_start : (rule : JoiningRule) (g f bk sets ws os : List ℕ) → RowsStand (size_in g) sets ws os → size_in g ≤ 128 → OrderNoted g false f
    → OrderNoted g true bk
    → Rounding rule g f bk (propagate_non_null rule (graph_in g) (registry_of ws) (rows_of sets (size_in g))) (replicate 128 true) (replicate 128 true)
    sets ws os 0
unfolding propagate_non_null propagate_with rounds_from round work_of
rounds_start rule g f bk sets ws os s few forth back = record {
  orders = record {
    forth = forth;
    back = back;
    long_forth = length-replicate {A = Bool} 128 true;
    long_back = length-replicate {A = Bool} 128 true;
    clean_forth = λ b l e. absurd (all_dirty b l e);
    clean_back = λ b l e. absurd (all_dirty b l e);
  };
  stands = s;
  before = λ t. never t refl;
  rest = refl;
}
  where
    all_dirty : (b : ℕ) → b < size_in g → get_or (replicate {A = Bool} 128 true) b false ≡ false → ⊥
    all_dirty b l e = never (get_or-replicate {A = Bool} 128 b true false (omega arith)) e

module _ {rule : JoiningRule} {g f bk : List ℕ} {end : Rounds Work} {dirty other : List Bool} {sets ws os : List ℕ} {ran : ℕ}
    (r : Rounding rule g f bk end dirty other sets ws os ran) where
  abbrev now : Work
  now = work_of (size_in g) sets ws true

  pub rounds_over : ran ≡ 100 → HoldsRounds end (size_in g) (record { rounds = 100; settled = false }) sets ws os
  unfolding rounds_from
  rounds_over l = record { stands = r.stands; same = sym r.rest ∙ ap (λ (k : ℕ). rounds_from has_changed (round_in rule g) (100 - k) k now) l }

  module _ (more : ran < 100) where
    next_round : rounds_from has_changed (round_in rule g) (suc (100 - (ran + 1))) ran now ≡ end
    next_round = let one : suc (100 - (ran + 1)) ≡ 100 - ran = omega arith in ap (λ (k : ℕ). rounds_from has_changed (round_in rule g) k ran now) one ∙ r.rest

    -- no later round takes a node of this one away
    after_round : Adds (round_in rule g now) end.work
    after_round =
        subst (λ (x : Rounds Work). Adds (round_in rule g now) x.work) next_round
        (decide (has_changed (round_in rule g now))
        (λ e. subst (λ (x : Rounds Work). Adds (round_in rule g now) x.work) (sym (laws.rounds_on has_changed (round_in rule g) (100 - (ran + 1)) ran now e))
        (laws.rounds_do has_changed (round_in rule g) Adds adds_order (round_adds rule g) (100 - (ran + 1)) (suc ran) (round_in rule g now)))
        (λ e. subst (λ (x : Rounds Work). Adds (round_in rule g now) x.work)
        (sym (laws.rounds_stop has_changed (round_in rule g) (100 - (ran + 1)) ran now e)) (le_refl _)))

    pub rounds_full : node_limit < length (round_in rule g now).registry → node_limit < length end.work.registry
    rounds_full full = lt_of_lt_of_le full after_round

    module _ {c : Bool} {d' o' : List Bool} {ts vs ps : List ℕ} (turned : TurnsTo rule g f bk (round_in rule g now) c d' o' ts vs ps) where
      held : HoldsWork (round_in rule g now) (size_in g) c ts vs ps
      held = turned.holds

      module _ (t : Bool) (is : c ≡ t) where
        left : round_in rule g now ≡ work_of (size_in g) ts vs t
        left = held.same ∙ ap (work_of (size_in g) ts vs) is

        flag : has_changed (round_in rule g now) ≡ t
        unfolding work_of
        flag = ap has_changed left

      pub rounds_more : c ≡ true → Rounding rule g f bk end d' o' ts vs ps (ran + 1)
      rounds_more e = record {
        orders = turned.orders;
        stands = held.stands;
        before = λ t. reduced_rows (size_in g) ts vs c (round_in rule g now) held.same (round_reduces rule g now (stands_proper r.stands true));
        rest =
            ap (λ (k : ℕ). rounds_from has_changed (round_in rule g) (100 - (ran + 1)) k (work_of (size_in g) ts vs true)) (add-one ran)
            ∙ ap (rounds_from has_changed (round_in rule g) (100 - (ran + 1)) (suc ran)) (sym (left true e))
            ∙ sym (laws.rounds_on has_changed (round_in rule g) (100 - (ran + 1)) ran now (flag true e)) ∙ next_round;
      }

      pub rounds_settled : c ≡ false → HoldsRounds end (size_in g) (record { rounds = ran + 1; settled = true }) ts vs ps
      rounds_settled e = record {
        stands = held.stands;
        same =
            sym next_round ∙ laws.rounds_stop has_changed (round_in rule g) (100 - (ran + 1)) ran now (flag false e)
            ∙ (λ i. record { work = left false e i; rounds = sym (add-one ran) i; settled = true });
      }

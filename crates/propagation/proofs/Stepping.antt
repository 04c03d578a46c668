-- A step: a block that is passed over, and one that is joined, with the dirty marks after it.
use Prim.Native.Nat.{ℕ, ◌<◌}
use native.Mathlib.Omega.{arith}
use mathlib.Core.Path.{◌≡◌, refl, sym, ap, subst, ◌∙◌}
use mathlib.Core.Logic.{◌≢◌}
use mathlib.Core.Bool.{Bool, true, false, ◌||◌, not}
use mathlib.Core.List.{List, map}
use lib.ListN.{length, get_or, set, length-set}
use lib.Seq.{get_or-set_same, get_or-set_other}
use lib.Dec.{eqb}
use Rattle.model.specs.Tests.{decide, eqb-true, eqb-false}
use Rattle.model.specs.Lists.{any_of}
use Rattle.model.specs.Sets.{NodeSet}
use Rattle.model.specs.Propagation.{Work, set_of, JoiningRule, intersection_of}
use Rattle.laws.specs.Membership.{neither}
use Rattle.rows.specs.Rows.{rows_of}
use Rattle.graph.specs.Bytes.{size_in, neighbours}
use Rattle.propagation.specs.declared.Joining.{Joining}
use Rattle.propagation.specs.declared.Joined.{Joined}
use Rattle.propagation.specs.Rules.{rule_of}
use Rattle.propagation.specs.Order.{done_before}
use Rattle.propagation.specs.Joins.{
  work_of,
  join_in,
  neighbours_to_join,
  sets_to_join,
  Ready,
  AllReduced,
  Has,
  Idle,
  Clean,
  Touched,
  JoinedTo,
  Flags,
  StepsTo,
}
use Rattle.propagation.proofs.Idling.{clean_elsewhere}
use Rattle.propagation.proofs.JoinLaws.{idle_still}

-- the work that a step is to reach
abbrev pub step_end : JoiningRule → List ℕ → Bool → ℕ → List ℕ → List ℕ → List ℕ → Bool → Work
step_end rule g backward b o sets ws changed = join_in rule g backward b (done_before (size_in g) o b) (work_of (size_in g) sets ws changed)

-- a block that is not dirty is passed over
pub step_passed : (joining : Joining) {g : List ℕ} (backward : Bool) (b : ℕ) (o : List ℕ) {dirty other : List Bool} {sets ws os : List ℕ} (changed : Bool)
    → Ready g sets ws os → AllReduced (size_in g) sets ws → b < size_in g → Flags (rule_of joining) g backward o dirty other sets → get_or dirty b false ≡ false
    → StepsTo (rule_of joining) g backward o other sets (step_end (rule_of joining) g backward b o sets ws changed) changed dirty other sets ws os
step_passed joining backward b o changed ready before inside flags clean = record {
  holds = record {
    stands = ready.stands;
    same = idle_still (rule_of joining) backward o ready before inside (flags.clean b inside clean) changed;
  };
  flags = flags;
  others = λ q c. c;
}

-- the same sets, in other words
same_idle : (rule : JoiningRule) (g : List ℕ) (backward : Bool) (q sets sets' : List ℕ) (c : ℕ) → rows_of sets' (size_in g) ≡ rows_of sets (size_in g)
    → Idle rule g backward q sets c → Idle rule g backward q sets' c
unfolding sets_to_join
same_idle rule g backward q sets sets' c e idle =
    subst (λ (rs : List NodeSet). Has (set_of rs c) (intersection_of (map (set_of rs) (neighbours_to_join rule g backward c q)))) (sym e) idle

module _ (joining : Joining) {g : List ℕ} (backward : Bool) (b : ℕ) (o : List ℕ) {dirty other : List Bool} {sets ws os : List ℕ} (ready : Ready g sets ws os)
    (inside : b < size_in g) (flags : Flags (rule_of joining) g backward o dirty other sets) {r : Joined} {sets' ws' os' : List ℕ}
    (to : JoinedTo (rule_of joining) g backward b o sets ws r sets' ws' os')
    {dirty' other' : List Bool} (touched : Touched g backward b r.changed dirty other dirty' other') where
  own_clean : (c : ℕ) → c < size_in g → c ≢ b → get_or dirty' c false ≡ false → Idle (rule_of joining) g backward o sets' c
  own_clean c l apart e =
      decide r.changed
      (λ t. clean_elsewhere joining g ready.both_ways b inside sets sets' to.own to.rows backward o (touched.new t).0 (λ k h. h)
      flags.clean c l apart e)
      (λ t. same_idle (rule_of joining) g backward o sets sets' c (to.still t)
      (flags.clean c l (ap (λ (d : List Bool). get_or d c false) (sym (touched.old t).0) ∙ e)))

  other_clean : (q : List ℕ) → Clean (rule_of joining) g (not backward) q other sets → Clean (rule_of joining) g (not backward) q other' sets'
  other_clean q clean c l e =
      decide r.changed
      (λ t.
      let m = (touched.new t).1 in
      let apart = neither (eqb c b) (any_of (eqb c) (neighbours g backward b)) (m.these c e) in
      clean_elsewhere joining g ready.both_ways b inside sets sets' to.own to.rows (not backward) q m
      (λ k h. subst (λ (d : Bool). any_of (eqb k) (neighbours g d b) ≡ false) (sym (twice backward))
      (neither (eqb k b) (any_of (eqb k) (neighbours g backward b)) h).1) clean c l (eqb-false c b apart.0) e)
      (λ t. same_idle (rule_of joining) g (not backward) q sets sets' c (to.still t)
      (clean c l (ap (λ (d : List Bool). get_or d c false) (sym (touched.old t).1) ∙ e)))
    where
      twice : (d : Bool) → not (not d) ≡ d
      twice true = refl
      twice false = refl

  lengths : (length dirty' ≡ 128) × (length other' ≡ 128)
  lengths =
      decide r.changed (λ t. ((touched.new t).0.long, (touched.new t).1.long))
      (λ t. (ap length (touched.old t).0 ∙ flags.long, ap length (touched.old t).1 ∙ flags.other_long))

  -- the block's own mark is stored last: false only where nothing new would join it
  pub step_joined : (changed v : Bool) → (v ≡ false → r.idle ≡ true)
      → StepsTo (rule_of joining) g backward o other sets (step_end (rule_of joining) g backward b o sets ws changed) (changed || r.changed)
      (set dirty' b v) other' sets' ws' os'
  step_joined changed v idle =
      let few = ready.fits.size in
      let long = lengths.0 in
      record {
        holds = record { stands = to.stands; same = to.same changed };
        flags = record {
          long = length-set dirty' b v ∙ lengths.0;
          other_long = lengths.1;
          clean = λ c l e. decide (eqb c b)
              (λ t. let same = eqb-true c b t in
              subst (Idle (rule_of joining) g backward o sets') (sym same)
              (to.idle (idle (sym (get_or-set_same dirty' b v false (omega arith)) ∙ ap (λ (k : ℕ). get_or (set dirty' b v) k false) (sym same) ∙ e))))
              (λ t. let apart = eqb-false c b t in own_clean c l apart (sym (get_or-set_other dirty' b c v false apart) ∙ e));
        };
        others = other_clean;
      }

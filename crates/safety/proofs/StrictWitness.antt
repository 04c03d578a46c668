-- The strict answer beside the existing one: a job with a loop, a store and a run that meet all
-- hypotheses of `strict_demand_3`; and P3 of document 01 under both rules.
use Rattle.std.specs.Prelude.{ℕ, ◌≡◌, refl, List, [], ◌∷◌, get_or}
use Rattle.std.proofs.Common.{arith, ap, inl, inr}
use Rattle.model.specs.ListLaws.{All}
use Rattle.model.specs.ReadingPaths.{read, Throws}
use Rattle.model.specs.Job.{Block, Job, assumed_of, read_job}
use Rattle.model.specs.JobBytes.{job_bytes}
use Rattle.model.specs.Tree.{derive_minimal_dependencies}
use Rattle.model.specs.Answer.{Verdict, writes, turns_back, answer_of, sheet_of, read_answer}
use Rattle.model.specs.Strict.{strict_answer_of, strict_sheet_of}
use Rattle.safety.specs.Runs.{WithoutLoops, Run, AssumedHold}
use Rattle.safety.specs.Statement.{AnyBlocks, Demand3}
use Rattle.safety.proofs.Demand3.{strict_demand_3}
use Rattle.safety.specs.Notation.{
  path5,
  path5_10,
  block,
  job_of,
  bytes_of,
  buffer,
  all_bytes,
  not_named,
  answered_meets,
  Returns5,
  Returns5_10,
}
use Rattle.safety.proofs.Witness.{store}
use Rattle.safety.proofs.Counterexamples.{nothing, p3, avoiding, p3_run, p3_assumed, p3_returns}

-- A loop: 1 (after 0, 2) assumes 5, and 2 (after 1) goes back to it; 3 (after 1) comes behind it.
-- The scope block is 2, inside the loop.

abbrev before : Block
before = block 0 [] []

abbrev head : Block
head = block 1 (0 ∷ 2 ∷ []) (path5 ∷ [])

abbrev body : Block
body = block 2 (1 ∷ []) []

abbrev behind : Block
behind = block 3 (1 ∷ []) []

abbrev pub looped : Job
looped = job_of 2 (before ∷ head ∷ body ∷ behind ∷ [])

pub looped_returns : Returns5_10 strict_answer_of looped 2
unfolding job_bytes read_job strict_answer_of read_answer
looped_returns = record { bytes = all_bytes (bytes_of looped) refl; reads = refl; answers = refl; holds = refl }

-- The run 0, 1, 2, 1, 2, 1, 3 goes round it twice.
abbrev pub twice_round : List Block
twice_round = before ∷ head ∷ body ∷ head ∷ body ∷ head ∷ behind ∷ []

pub looped_run : Run looped twice_round
looped_run = record {
  sequence = record {
    blocks = (
      inl refl,
      (
        inr (inl refl),
        (
          inr (inr (inl refl)),
          (inr (inl refl), (inr (inr (inl refl)), (inr (inl refl), (inr (inr (inr (inl refl))), tt)))),
        ),
      ),
    );
    some = tt;
    linked = (inl refl, (inl refl, (inr (inl refl), (inl refl, (inr (inl refl), (inl refl, tt))))));
  };
  starts = refl;
  ends = not_named looped.blocks behind refl;
  passes = inr (inr (inl refl));
}

pub looped_assumed : AssumedHold store twice_round
looped_assumed = (tt, ((tt, tt), (tt, ((tt, tt), (tt, ((tt, tt), (tt, tt)))))))

pub looped_has_a_loop : WithoutLoops looped.blocks → ⊥
looped_has_a_loop free = free head (before ∷ []) (body ∷ []) (body ∷ head ∷ behind ∷ []) looped_run.sequence

-- So the theorem speaks of this job, this store and this run, and of the path 5.10.

pub strict_met : Demand3 AnyBlocks looped (path5_10 ∷ [])
strict_met = answered_meets strict_demand_3 looped_returns

pub looped_no_throw : All (λ d. Throws (read store d) → ⊥) (path5_10 ∷ [])
looped_no_throw = strict_met.safety tt (Unit {0}) store twice_round looped_run looped_assumed

-- The strict rule is no stock answer: only propagation brings 5 to the scope block, which itself
-- assumes nothing. By that alone 5 would be returned, and not 5.10.
pub body_alone : derive_minimal_dependencies (assumed_of body) looped.candidates ≡ path5 ∷ []
unfolding derive_minimal_dependencies
body_alone = refl

-- P3, with scope block 3, on the run 0, 1, 3, 1, 4 and where nothing is there. The strict answer
-- returns 5 after 1 round ..
p3_strict_returns : Returns5 strict_answer_of p3 1
unfolding job_bytes read_job strict_answer_of read_answer
p3_strict_returns = record { bytes = all_bytes (bytes_of p3) refl; reads = refl; answers = refl; holds = refl }

-- .. and the existing one 5.10 after 2, which throws; 5 does not.
pub record P3UnderBoth : Type 0 where
  pub existing : Returns5_10 answer_of p3 2
  pub existing_throws : Throws (read nothing path5_10)
  pub strict : Returns5 strict_answer_of p3 1
  pub strict_does_not : Throws (read nothing path5) → ⊥
  pub run : Run p3 avoiding
  pub assumed : AssumedHold nothing avoiding

pub p3_under_both : P3UnderBoth
p3_under_both = record {
  existing = p3_returns;
  existing_throws = tt;
  strict = p3_strict_returns;
  strict_does_not = ((answered_meets strict_demand_3 p3_strict_returns).safety tt (Unit {0}) nothing avoiding p3_run p3_assumed).0;
  run = p3_run;
  assumed = p3_assumed;
}

-- So loop-freedom is needed for `Strict-same`: on P3 answers and sheets differ, the rounds already.

abbrev byte_at : ℕ → Verdict → ℕ
byte_at k (writes bytes) = get_or bytes k 0
byte_at k (turns_back r) = 0

pub p3_answers_differ : strict_answer_of (bytes_of p3) buffer ≡ answer_of (bytes_of p3) buffer → ⊥
unfolding job_bytes strict_answer_of answer_of
p3_answers_differ e = let rounds : ◌≡◌ {A = ℕ} 1 2 = ap (byte_at 4) e in omega arith

pub p3_sheets_differ : strict_sheet_of (bytes_of p3) buffer ≡ sheet_of (bytes_of p3) buffer → ⊥
unfolding job_bytes strict_sheet_of sheet_of
p3_sheets_differ e = let rounds : ◌≡◌ {A = ℕ} 1 2 = ap (byte_at 6) e in omega arith

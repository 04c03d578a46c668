-- The hypotheses of `demand_3` can be met: a job in bytes, a store and a run that satisfy all of
-- them.
use Rattle.std.specs.Prelude.{◌<◌, refl, List, [], ◌∷◌, ◌++◌}
use Rattle.std.proofs.Common.{arith, inl, inr}
use Rattle.model.specs.ListLaws.{All, all_map}
use Rattle.model.specs.ReadingPaths.{null, value, Store, read, Throws}
use Rattle.model.specs.Job.{Block, Job, read_job}
use Rattle.model.specs.Answer.{answer_of, read_answer}
use Rattle.laws.specs.Membership.{Member, all_at}
use Rattle.safety.specs.Runs.{Precedes, Linked, WithoutLoops, Run, AssumedHold}
use Rattle.safety.specs.Statement.{Demand3}
use Rattle.safety.proofs.Demand3.{demand_3}
use Rattle.model.specs.JobBytes.{job_bytes}
use Rattle.safety.specs.Notation.{path5, path5_10, block, job_of, bytes_of, all_bytes, not_named, answered_meets, Returns5_10}

-- Where each block's predecessors have smaller ids than it has, there is no loop.
module _ (bs : List Block) (smaller : All (λ b. All (λ i. i.0 < b.id.0) b.predecessors) bs) where
  precedes_smaller : (a b : Block) → Member b bs → Precedes a b → a.id.0 < b.id.0
  precedes_smaller a b m p = all_at (λ i. i.0 < b.id.0) b.predecessors a.id
      (all_at (λ c. All (λ i. i.0 < c.id.0) c.predecessors) bs b smaller m) p

  later_larger : (a : Block) (s : List Block) → All (λ b. Member b bs) (a ∷ s) → Linked (a ∷ s) → All (λ b. a.id.0 < b.id.0) s
  later_larger a [] m l = tt
  later_larger a (b ∷ s) m l =
      let first = precedes_smaller a b m.1.0 l.0 in
      (first, all_map (λ c. b.id.0 < c.id.0) (λ c. a.id.0 < c.id.0) (λ c h. omega arith) s (later_larger b s m.1 l.1))

  again_larger : (b : Block) (between after : List Block) → All (λ c. b.id.0 < c.id.0) (between ++ (b ∷ after)) → ⊥
  again_larger b [] after h = let less = h.0 in omega arith
  again_larger b (c ∷ between) after h = again_larger b between after h.1

  skip : (before rest : List Block) (b : Block) → Linked (before ++ (b ∷ rest)) → Linked (b ∷ rest)
  skip [] rest b l = l
  skip (a ∷ []) rest b l = l.1
  skip (a ∷ (c ∷ before)) rest b l = skip (c ∷ before) rest b l.1

  skip_all : (P : Block → Type 0) (before rest : List Block) → All P (before ++ rest) → All P rest
  skip_all P [] rest h = h
  skip_all P (a ∷ before) rest h = skip_all P before rest h.1

  pub no_loops : WithoutLoops bs
  no_loops b before between after c =
      again_larger b between after
      (later_larger b (between ++ (b ∷ after)) (skip_all (λ x. Member x bs) before (b ∷ (between ++ (b ∷ after))) c.blocks)
      (skip before (between ++ (b ∷ after)) b c.linked))

-- The job: P1 of document 01, with scope block 3 and the candidate 5.10.

abbrev pub p1 : Job
p1 = job_of 3 (block 0 [] [] ∷ block 1 (0 ∷ []) (path5 ∷ []) ∷ block 2 (0 ∷ []) (path5 ∷ []) ∷ block 3 (1 ∷ 2 ∷ []) [] ∷ [])

pub p1_returns : Returns5_10 answer_of p1 2
unfolding job_bytes read_job answer_of read_answer
p1_returns = record { bytes = all_bytes (bytes_of p1) refl; reads = refl; answers = refl; holds = refl }

pub p1_no_loops : WithoutLoops p1.blocks
p1_no_loops = no_loops p1.blocks (tt, ((omega arith, tt), ((omega arith, tt), ((omega arith, (omega arith, tt)), tt))))

-- a store with one value beside null and undefined: every identifier has it, and every property of
-- it is null
abbrev pub store : Store (Unit {0})
store = record { of_identifier = λ i. value tt; of_property = λ x p. null }

-- the run 0, 1, 3
abbrev pub run : List Block
run = block 0 [] [] ∷ block 1 (0 ∷ []) (path5 ∷ []) ∷ block 3 (1 ∷ 2 ∷ []) [] ∷ []

pub p1_run : Run p1 run
p1_run = record {
  sequence = record {
    blocks = (inl refl, (inr (inl refl), (inr (inr (inr (inl refl))), tt)));
    some = tt;
    linked = (
      inl refl,
      (inl refl, tt),
    );
  };
  starts = refl;
  ends = not_named p1.blocks (block 3 (1 ∷ 2 ∷ []) []) refl;
  passes = inr (inr (inl refl));
}

pub p1_assumed : AssumedHold store run
p1_assumed = (tt, ((tt, tt), (tt, tt)))

-- So the theorem speaks of this job, this store and this run, and of the path 5.10.

pub met : Demand3 WithoutLoops p1 (path5_10 ∷ [])
met = answered_meets demand_3 p1_returns

pub p1_no_throw : All (λ d. Throws (read store d) → ⊥) (path5_10 ∷ [])
p1_no_throw = met.safety p1_no_loops (Unit {0}) store run p1_run p1_assumed

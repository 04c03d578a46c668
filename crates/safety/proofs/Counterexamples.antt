-- Each hypothesis of safety is needed: for each, a job in bytes that is answered, a store and a run
-- that satisfy all the others, and on which a returned path throws. The strict answer needs each
-- but loop-freedom. And the worthless versions of document 01 that demand 3 shuts out, or leaves to
-- demand 2.
use Rattle.std.specs.Prelude.{ℕ, ◌≡◌, refl, Bool, true, false, ◌||◌, not, List, [], ◌∷◌, length, eqb}
use Rattle.std.proofs.Common.{arith, sym, ap, subst, ◌∙◌, inl, inr}
use Rattle.std.proofs.Math.Bool.{and-true}
use Rattle.entries.specs.declared.BlockId.{BlockId}
use Rattle.entries.specs.declared.Refusal.TheVariants.{WrongMark}
use Rattle.entries.specs.Path.{ReactiveScopeDependency, prefix_of}
use Rattle.model.specs.Lists.{select, any_of, count_of, sum_of}
use Rattle.model.specs.Tests.{decide, never, eqb_same, eqb-true, eqb-false, or_second}
use Rattle.model.specs.ListLaws.{All, all_map, all_select}
use Rattle.model.specs.ReadingPaths.{null, Store, read, Throws, NonNullish}
use Rattle.model.specs.ReadingBytes.{refused}
use Rattle.model.specs.Propagation.{done_neighbours}
use Rattle.model.specs.RawReads.{RawRead}
use Rattle.model.specs.Job.{Block, Job, read_job}
use Rattle.model.specs.Stage.{propagated, hoistable_paths, returned_paths}
use Rattle.model.specs.Answer.{Verdict, span_width, answer_of, Answered, read_answer}
use Rattle.model.specs.Strict.{strict_answer_of}
use Rattle.laws.specs.Membership.{Some, Member, none_any}
use Rattle.safety.specs.Runs.{Linked, ControlSequence, WithoutLoops, NoPredecessor, NoSuccessor, FirstHas, LastHas, Run, AssumedHold}
use Rattle.safety.specs.Statement.{Exact, Demand3}
use Rattle.laws.specs.CountLaws.{count_agree}
use Rattle.model.specs.JobBytes.{job_bytes}
use Rattle.laws.specs.Fits.{HoldsIfRead}
use Rattle.safety.proofs.Demand3.{strict_demand_3}
use Rattle.safety.proofs.StrictSame.{strict_same}
use Rattle.safety.specs.Notation.{
  path5,
  path5_10,
  block,
  job_of,
  bytes_of,
  buffer,
  all_bytes,
  not_named,
  AnsweredJob,
  answered_meets,
  Returns5,
  Returns5_10,
}
use Rattle.safety.proofs.Witness.{no_loops}

-- what may be asked of a store, a job and a sequence of blocks
abbrev pub Hypotheses : Type 1
Hypotheses = (X : Type 0) → Store X → Job → List Block → Type 0

-- Safety of all jobs that an operation answers, under hypotheses.
abbrev pub SafeUnder : (List ℕ → List ℕ → Verdict) → Hypotheses → Type 1
SafeUnder operation H =
    (job out answer : List ℕ) (j : Job) (end : ℕ) (a : Answered) → AnsweredJob operation job out answer j end a → (X : Type 0)
    (S : Store X) (s : List Block) → H X S j s → All (λ d. Throws (read S d) → ⊥) a.paths

-- a store in which nothing is there
abbrev pub nothing : Store (Unit {0})
nothing = record { of_identifier = λ i. null; of_property = λ x p. null }

-- Hypotheses that a job answered by 5.10 meets on some sequence, where nothing is there, do not
-- make an operation's answers safe.
refuted : (operation : List ℕ → List ℕ → Verdict) (H : Hypotheses) (j : Job) (rounds : ℕ) → Returns5_10 operation j rounds
    → (s : List Block) → H (Unit {0}) nothing j s → SafeUnder operation H → ⊥
refuted operation H j rounds r s h safe = (safe _ _ _ _ _ _ r (Unit {0}) nothing s h).0 tt

-- Loops: P3 of document 01, with scope block 3.

abbrev pub p3 : Job
p3 = job_of 3 (block 0 [] [] ∷ block 1 (0 ∷ 3 ∷ []) [] ∷ block 2 (1 ∷ []) (path5 ∷ []) ∷ block 3 (1 ∷ 2 ∷ []) [] ∷ block 4 (1 ∷ []) [] ∷ [])

-- "Though 0, 1, 3, 1, 4 avoids 2": a run by way of block 3 on which block 2 does not stand.
abbrev pub avoiding : List Block
avoiding = block 0 [] [] ∷ block 1 (0 ∷ 3 ∷ []) [] ∷ block 3 (1 ∷ 2 ∷ []) [] ∷ block 1 (0 ∷ 3 ∷ []) [] ∷ block 4 (1 ∷ []) [] ∷ []

pub p3_run : Run p3 avoiding
p3_run = record {
  sequence = record {
    blocks = (inl refl, (inr (inl refl), (inr (inr (inr (inl refl))), (inr (inl refl), (inr (inr (inr (inr (inl refl)))), tt)))));
    some = tt;
    linked = (inl refl, (inl refl, (inr (inl refl), (inl refl, tt))));
  };
  starts = refl;
  ends = not_named p3.blocks (block 4 (1 ∷ []) []) refl;
  passes = inr (inr (inl refl));
}

pub avoids_2 : All (λ b. b.id ≡ record { 0 = 2 } → ⊥) avoiding
avoids_2 =
    all_map (λ (b : Block). eqb b.id.0 2 ≡ false) (λ b. b.id ≡ record { 0 = 2 } → ⊥)
    (λ b e same. eqb-false b.id.0 2 e (ap (λ (i : BlockId). i.0) same)) avoiding
    (none_any (λ (b : Block). eqb b.id.0 2) avoiding refl)

pub p3_assumed : AssumedHold nothing avoiding
p3_assumed = (tt, (tt, (tt, (tt, (tt, tt)))))

-- block 3 holds path 5, which does not read to a non-nullish value there
pub p3_held : hoistable_paths p3 (propagated done_neighbours p3.blocks).work ≡ path5 ∷ []
unfolding propagated hoistable_paths done_neighbours
p3_held = refl

pub p3_nullish : NonNullish (read nothing path5) → ⊥
p3_nullish h = h

pub p3_has_a_loop : WithoutLoops p3.blocks → ⊥
p3_has_a_loop free = free (block 1 (0 ∷ 3 ∷ []) []) (block 0 [] [] ∷ []) (block 3 (1 ∷ 2 ∷ []) [] ∷ []) (block 4 (1 ∷ []) [] ∷ [])
    p3_run.sequence

pub p3_returns : Returns5_10 answer_of p3 2
unfolding job_bytes read_job answer_of read_answer
p3_returns = record { bytes = all_bytes (bytes_of p3) refl; reads = refl; answers = refl; holds = refl }

-- the hypotheses but for loop-freedom
abbrev pub OnRuns : Hypotheses
OnRuns X S j s = Run j s × AssumedHold S s

pub loop_freedom_needed : SafeUnder answer_of OnRuns → ⊥
loop_freedom_needed = refuted answer_of OnRuns p3 2 p3_returns avoiding (p3_run, p3_assumed)

-- Of strict answers the same claim holds: "covers every job, loops included".
pub strict_loop_freedom_not_needed : SafeUnder strict_answer_of OnRuns
strict_loop_freedom_not_needed job out answer j end a r X S s h = (answered_meets strict_demand_3 r).safety tt X S s h.0 h.1

-- The other hypotheses, each needed for both operations, even in jobs without loops: there the two
-- answers are the same (`strict_same`). In these jobs the scope block comes to hold 5.

-- hypotheses in jobs without loops
abbrev pub InLoopFreeJobs : Hypotheses → Hypotheses
InLoopFreeJobs H X S j s = WithoutLoops j.blocks × H X S j s

-- a job without loops that is answered by 5.10, and a sequence that meets the hypotheses where
-- nothing is there
pub record Counterexample (H : Hypotheses) : Type 0 where
  pub job : Job
  pub rounds : ℕ
  pub returns : Returns5_10 answer_of job rounds
  pub no_loops : WithoutLoops job.blocks
  pub sequence : List Block
  pub meets : H (Unit {0}) nothing job sequence

pub existing_refuted : (H : Hypotheses) → Counterexample H → SafeUnder answer_of (InLoopFreeJobs H) → ⊥
existing_refuted H c = refuted answer_of (InLoopFreeJobs H) c.job c.rounds c.returns c.sequence (c.no_loops, c.meets)

pub strict_refuted : (H : Hypotheses) → Counterexample H → SafeUnder strict_answer_of (InLoopFreeJobs H) → ⊥
strict_refuted H c =
    let r = c.returns in
    let free = subst (HoldsIfRead (λ (j : Job). WithoutLoops j.blocks)) (sym r.reads) c.no_loops in
    refuted strict_answer_of (InLoopFreeJobs H) c.job c.rounds
    (record { bytes = r.bytes; reads = r.reads; answers = (strict_same (bytes_of c.job) buffer free).0 ∙ r.answers; holds = r.holds })
    c.sequence (c.no_loops, c.meets)

abbrev pub assuming : Block
assuming = block 0 [] (path5 ∷ [])

-- the assumed paths: the run's one block assumes 5
abbrev pub WithoutAssumed : Hypotheses
WithoutAssumed X S j s = Run j s

assumed_case : Counterexample WithoutAssumed
unfolding job_bytes read_job answer_of read_answer
assumed_case = record {
  job = job_of 0 (assuming ∷ []);
  rounds = 1;
  returns = record { bytes = all_bytes (bytes_of (job_of 0 (assuming ∷ []))) refl; reads = refl; answers = refl; holds = refl };
  no_loops = no_loops (assuming ∷ []) (tt, tt);
  sequence = assuming ∷ [];
  meets = record {
    sequence = record { blocks = (inl refl, tt); some = tt; linked = tt };
    starts = refl;
    ends = not_named (assuming ∷ []) assuming refl;
    passes = inl refl;
  };
}

pub assumed_needed : SafeUnder answer_of (InLoopFreeJobs WithoutAssumed) → ⊥
assumed_needed = existing_refuted WithoutAssumed assumed_case

pub strict_assumed_needed : SafeUnder strict_answer_of (InLoopFreeJobs WithoutAssumed) → ⊥
strict_assumed_needed = strict_refuted WithoutAssumed assumed_case

-- the kept raw reads among the assumed paths: the run's one block reads 5 where it is immutable,
-- and has no PA record
abbrev pub read_of5 : ℕ → ℕ → RawRead
read_of5 range_start range_end = record {
  instruction = 3;
  range_start = range_start;
  range_end = range_end;
  has_scope = true;
  scope_start = 0;
  scope_end = 9;
  known_immutable = false;
  path = path5;
}

abbrev pub reading : RawRead → Block
reading r = record { id = record { 0 = 0 }; predecessors = []; raw_reads = r ∷ []; ready_paths = [] }

abbrev pub OnlyPathsHold : Hypotheses
OnlyPathsHold X S j s = Run j s × All (λ b. All (λ d. NonNullish (read S d)) b.ready_paths) s

kept_case : Counterexample OnlyPathsHold
unfolding job_bytes read_job answer_of read_answer
kept_case =
    let b = reading (read_of5 0 1) in
    record {
      job = job_of 0 (b ∷ []);
      rounds = 1;
      returns = record { bytes = all_bytes (bytes_of (job_of 0 (b ∷ []))) refl; reads = refl; answers = refl; holds = refl };
      no_loops = no_loops (b ∷ []) (tt, tt);
      sequence = b ∷ [];
      meets = (
        record {
          sequence = record { blocks = (inl refl, tt); some = tt; linked = tt };
          starts = refl;
          ends = not_named (b ∷ []) b refl;
          passes = inl refl;
        },
        (tt, tt),
      );
    }

pub kept_needed : SafeUnder answer_of (InLoopFreeJobs OnlyPathsHold) → ⊥
kept_needed = existing_refuted OnlyPathsHold kept_case

pub strict_kept_needed : SafeUnder strict_answer_of (InLoopFreeJobs OnlyPathsHold) → ⊥
strict_kept_needed = strict_refuted OnlyPathsHold kept_case

-- What is read where it is mutable is no hypothesis: where nothing is there the assumed paths of
-- such a block hold all the same. And nobody relies on it: 5 is returned, by both.
abbrev pub reading_mutable : Block
reading_mutable = reading (read_of5 0 2)

pub mutable_not_assumed : AssumedHold nothing (reading_mutable ∷ [])
mutable_not_assumed = (tt, tt)

pub mutable_returns : Returns5 answer_of (job_of 0 (reading_mutable ∷ [])) 1
unfolding job_bytes read_job answer_of read_answer
mutable_returns = record { bytes = all_bytes (bytes_of (job_of 0 (reading_mutable ∷ []))) refl; reads = refl; answers = refl; holds = refl }

pub strict_mutable_returns : Returns5 strict_answer_of (job_of 0 (reading_mutable ∷ [])) 1
unfolding job_bytes read_job strict_answer_of read_answer
strict_mutable_returns =
    record { bytes = all_bytes (bytes_of (job_of 0 (reading_mutable ∷ []))) refl; reads = refl; answers = refl; holds = refl }

-- the first block has no predecessor: 1 comes after 0, which assumes 5; the sequence is 1 alone
abbrev pub after : Block
after = block 1 (0 ∷ []) []

abbrev pub WithoutStart : Hypotheses
WithoutStart X S j s = ControlSequence j.blocks s × LastHas (NoSuccessor j.blocks) s × Some (λ b. b.id ≡ j.scope) s
    × AssumedHold S s

start_case : Counterexample WithoutStart
unfolding job_bytes read_job answer_of read_answer
start_case = record {
  job = job_of 1 (assuming ∷ after ∷ []);
  rounds = 2;
  returns = record { bytes = all_bytes (bytes_of (job_of 1 (assuming ∷ after ∷ []))) refl; reads = refl; answers = refl; holds = refl };
  no_loops = no_loops (assuming ∷ after ∷ []) (tt, ((omega arith, tt), tt));
  sequence = after ∷ [];
  meets = (
    record { blocks = (inr (inl refl), tt); some = tt; linked = tt },
    not_named (assuming ∷ after ∷ []) after refl,
    inl refl,
    (tt, tt),
  );
}

pub start_needed : SafeUnder answer_of (InLoopFreeJobs WithoutStart) → ⊥
start_needed = existing_refuted WithoutStart start_case

pub strict_start_needed : SafeUnder strict_answer_of (InLoopFreeJobs WithoutStart) → ⊥
strict_start_needed = strict_refuted WithoutStart start_case

-- the last block has no successor: 0 comes before 1, which assumes 5; the sequence is 0 alone
abbrev pub first : Block
first = block 0 [] []

abbrev pub assuming_after : Block
assuming_after = block 1 (0 ∷ []) (path5 ∷ [])

abbrev pub WithoutEnd : Hypotheses
WithoutEnd X S j s = ControlSequence j.blocks s × FirstHas NoPredecessor s × Some (λ b. b.id ≡ j.scope) s × AssumedHold S s

end_case : Counterexample WithoutEnd
unfolding job_bytes read_job answer_of read_answer
end_case = record {
  job = job_of 0 (first ∷ assuming_after ∷ []);
  rounds = 2;
  returns = record { bytes = all_bytes (bytes_of (job_of 0 (first ∷ assuming_after ∷ []))) refl; reads = refl; answers = refl; holds = refl };
  no_loops = no_loops (first ∷ assuming_after ∷ []) (tt, ((omega arith, tt), tt));
  sequence = first ∷ [];
  meets = (
    record { blocks = (inl refl, tt); some = tt; linked = tt },
    refl,
    inl refl,
    (tt, tt),
  );
}

pub end_needed : SafeUnder answer_of (InLoopFreeJobs WithoutEnd) → ⊥
end_needed = existing_refuted WithoutEnd end_case

pub strict_end_needed : SafeUnder strict_answer_of (InLoopFreeJobs WithoutEnd) → ⊥
strict_end_needed = strict_refuted WithoutEnd end_case

-- by way of the scope block: 0, the scope block, assumes 5; the sequence is 1, which is not beside
-- it
abbrev pub alone : Block
alone = block 1 [] []

abbrev pub WithoutScope : Hypotheses
WithoutScope X S j s = ControlSequence j.blocks s × FirstHas NoPredecessor s × LastHas (NoSuccessor j.blocks) s
    × AssumedHold S s

scope_case : Counterexample WithoutScope
unfolding job_bytes read_job answer_of read_answer
scope_case = record {
  job = job_of 0 (assuming ∷ alone ∷ []);
  rounds = 1;
  returns = record { bytes = all_bytes (bytes_of (job_of 0 (assuming ∷ alone ∷ []))) refl; reads = refl; answers = refl; holds = refl };
  no_loops = no_loops (assuming ∷ alone ∷ []) (tt, (tt, tt));
  sequence = alone ∷ [];
  meets = (
    record { blocks = (inr (inl refl), tt); some = tt; linked = tt },
    refl,
    not_named (assuming ∷ alone ∷ []) alone refl,
    (tt, tt),
  );
}

pub scope_needed : SafeUnder answer_of (InLoopFreeJobs WithoutScope) → ⊥
scope_needed = existing_refuted WithoutScope scope_case

pub strict_scope_needed : SafeUnder strict_answer_of (InLoopFreeJobs WithoutScope) → ⊥
strict_scope_needed = strict_refuted WithoutScope scope_case

-- "Each a predecessor of the next": 1 (after 0) assumes 5, and 2 comes after it; the sequence is 0,
-- 2
abbrev pub behind : Block
behind = block 2 (1 ∷ []) []

abbrev pub WithoutLinks : Hypotheses
WithoutLinks X S j s = All (λ b. Member b j.blocks) s × FirstHas NoPredecessor s × LastHas (NoSuccessor j.blocks) s × Some
    (λ b. b.id ≡ j.scope) s × AssumedHold S s

links_case : Counterexample WithoutLinks
unfolding job_bytes read_job answer_of read_answer
links_case = record {
  job = job_of 2 (first ∷ assuming_after ∷ behind ∷ []);
  rounds = 2;
  returns = record {
    bytes = all_bytes (bytes_of (job_of 2 (first ∷ assuming_after ∷ behind ∷ []))) refl;
    reads = refl;
    answers = refl;
    holds = refl;
  };
  no_loops = no_loops (first ∷ assuming_after ∷ behind ∷ []) (tt, ((omega arith, tt), ((omega arith, tt), tt)));
  sequence = first ∷ behind ∷ [];
  meets = (
    (inl refl, (inr (inr (inl refl)), tt)),
    refl,
    not_named (first ∷ assuming_after ∷ behind ∷ []) behind refl,
    inr (inl refl),
    (tt, (tt, tt)),
  );
}

pub links_needed : SafeUnder answer_of (InLoopFreeJobs WithoutLinks) → ⊥
links_needed = existing_refuted WithoutLinks links_case

pub strict_links_needed : SafeUnder strict_answer_of (InLoopFreeJobs WithoutLinks) → ⊥
strict_links_needed = strict_refuted WithoutLinks links_case

-- blocks of the job: 0 assumes 5; the sequence is another block with that id, which assumes nothing
abbrev pub WithoutMembers : Hypotheses
WithoutMembers X S j s = Linked s × FirstHas NoPredecessor s × LastHas (NoSuccessor j.blocks) s × Some (λ b. b.id ≡ j.scope) s
    × AssumedHold S s

members_case : Counterexample WithoutMembers
unfolding job_bytes read_job answer_of read_answer
members_case = record {
  job = job_of 0 (assuming ∷ []);
  rounds = 1;
  returns = record { bytes = all_bytes (bytes_of (job_of 0 (assuming ∷ []))) refl; reads = refl; answers = refl; holds = refl };
  no_loops = no_loops (assuming ∷ []) (tt, tt);
  sequence = first ∷ [];
  meets = (tt, refl, not_named (assuming ∷ []) first refl, inl refl, (tt, tt));
}

pub members_needed : SafeUnder answer_of (InLoopFreeJobs WithoutMembers) → ⊥
members_needed = existing_refuted WithoutMembers members_case

pub strict_members_needed : SafeUnder strict_answer_of (InLoopFreeJobs WithoutMembers) → ⊥
strict_members_needed = strict_refuted WithoutMembers members_case

-- Worthless versions (document 01, "What the promises shut out").

-- "Returns the candidates uncut": shut out by safety. The job is T3's, with 5 in the place of 1:
-- nothing is hoistable, and the candidate has a plain entry.
abbrev pub t3 : Job
t3 = job_of 0 (first ∷ [])

t3_run : Run t3 (first ∷ [])
t3_run = record {
  sequence = record { blocks = (inl refl, tt); some = tt; linked = tt };
  starts = refl;
  ends = not_named
      (first ∷ []) first refl;
  passes = inl refl;
}

pub uncut_shut_out : Demand3 WithoutLoops t3 t3.candidates → ⊥
uncut_shut_out d = (d.safety (no_loops (first ∷ []) (tt, tt)) (Unit {0}) nothing (first ∷ []) t3_run (tt, tt)).0 tt

-- "One stock answer": no list is exact for one candidate and for none.
pub stock_shut_out : (ds : List ReactiveScopeDependency) → Exact (path5_10 ∷ []) ds → Exact [] ds → ⊥
stock_shut_out [] one none = let z : ◌≡◌ {A = ℕ} 0 1 = one.one.0 in omega arith
stock_shut_out (d ∷ ds) one none = never none.some.0 refl

-- A path returned twice: of two paths for one candidate the count is not one.
pub twice_shut_out : Exact (path5_10 ∷ []) (path5 ∷ path5 ∷ []) → ⊥
twice_shut_out twice = let z : ◌≡◌ {A = ℕ} 2 1 = twice.one.0 in omega arith

-- "An untouched buffer": it is no answer.
pub untouched_shut_out : read_answer span_width buffer 0 ≡ refused WrongMark
unfolding read_answer
untouched_shut_out = refl

-- "Returns bare identifiers for all": the identifiers of the candidates, each once, meet demand 3
-- ..
abbrev pub bare : ReactiveScopeDependency → ReactiveScopeDependency
bare c = record { identifier = c.identifier; reactive = c.reactive; path = []; span = c.span }

abbrev same_identifier : ReactiveScopeDependency → ReactiveScopeDependency → Bool
same_identifier d c = eqb d.identifier.0 c.identifier.0

abbrev pub bare_of : List ReactiveScopeDependency → List ReactiveScopeDependency
bare_of [] = []
bare_of (c ∷ cs) = bare c ∷ select (λ d. not (same_identifier d c)) (bare_of cs)

bare_paths : (cs : List ReactiveScopeDependency) → All (λ d. d.path ≡ []) (bare_of cs)
bare_paths [] = tt
bare_paths (c ∷ cs) = (refl, all_select (λ d. d.path ≡ []) (λ d. not (same_identifier d c)) (bare_of cs) (bare_paths cs))

-- a path with no entry is a prefix by its identifier alone
bare_prefix : (c d : ReactiveScopeDependency) → d.path ≡ [] → prefix_of d c ≡ same_identifier d c
bare_prefix c d e = rw e (and-true (same_identifier d c))

-- what is left after one identifier is taken out: none of that one, all of any other
removed_same : (c x : ReactiveScopeDependency) → same_identifier c x ≡ true → (ds : List ReactiveScopeDependency) → count_of
    (λ d. same_identifier d x) (select (λ d. not (same_identifier d c)) ds) ≡ 0
removed_same c x e [] = refl
removed_same c x e (d ∷ ds) =
    let rest = removed_same c x e ds in
    decide (same_identifier d c) (λ t. rw t rest)
    (λ t. let other : same_identifier d x ≡ false = ap (eqb d.identifier.0)
    (sym (eqb-true c.identifier.0 x.identifier.0 e)) ∙ t in rw (t, other) rest)

removed_other : (c x : ReactiveScopeDependency) → same_identifier c x ≡ false → (ds : List ReactiveScopeDependency)
    → count_of (λ d. same_identifier d x) (select (λ d. not (same_identifier d c)) ds) ≡ count_of (λ d. same_identifier d x) ds
removed_other c x e [] = refl
removed_other c x e (d ∷ ds) =
    let rest = removed_other c x e ds in
    decide (same_identifier d c)
    (λ t. let other : same_identifier d x ≡ false = ap (λ n. eqb n x.identifier.0)
    (eqb-true d.identifier.0 c.identifier.0 t) ∙ e in rw (t, other) rest)
    (λ t. decide (same_identifier d x) (λ u. rw (t, u, rest)) (λ u. rw (t, u, rest)))

-- each identifier of the candidates stands once
bare_once : (cs : List ReactiveScopeDependency) (x : ReactiveScopeDependency) → any_of (λ c. same_identifier c x) cs ≡ true → count_of
    (λ d. same_identifier d x) (bare_of cs) ≡ 1
bare_once [] x h = never h refl
bare_once (c ∷ cs) x h =
    decide (same_identifier c x) (λ t. rw (t, removed_same c x t (bare_of cs)))
    (λ t. rw (t, removed_other c x t (bare_of cs)) (bare_once cs x (rw t at h)))

bare_exact : (cs : List ReactiveScopeDependency) → Exact cs (bare_of cs)
bare_exact cs = record {
  one = all_map (λ x. any_of (λ c. same_identifier c x) cs ≡ true) (λ x. count_of (λ d. prefix_of d x) (bare_of cs) ≡ 1)
      (λ x h. count_agree (λ d. prefix_of d x) (λ d. same_identifier d x) (bare_of cs)
      (all_map (λ d. d.path ≡ []) (λ d. prefix_of d x ≡ same_identifier d x) (λ d e. bare_prefix x d e) (bare_of cs) (bare_paths cs))
      ∙ bare_once cs x h)
      cs (own cs);
  some = bare_some cs;
}
  where
    own : (xs : List ReactiveScopeDependency) → All (λ x. any_of (λ c. same_identifier c x) xs ≡ true) xs
    own [] = tt
    own (x ∷ xs) = (
      rw (eqb_same x.identifier.0),
      all_map (λ y. any_of (λ c. same_identifier c y) xs ≡ true)
          (λ y. same_identifier x y || any_of (λ c. same_identifier c y) xs ≡ true) (λ y h. or_second (same_identifier x y) _ h) xs (own xs),
    )

    bare_some : (xs : List ReactiveScopeDependency) → All (λ d. any_of (prefix_of d) xs ≡ true) (bare_of xs)
    bare_some [] = tt
    bare_some (x ∷ xs) = (
      rw (eqb_same x.identifier.0),
      all_select (λ d. any_of (prefix_of d) (x ∷ xs) ≡ true) (λ d. not (same_identifier d x)) (bare_of xs)
          (all_map (λ d. any_of (prefix_of d) xs ≡ true) (λ d. any_of (prefix_of d) (x ∷ xs) ≡ true)
          (λ d h. or_second (prefix_of d x) _ h) (bare_of xs) (bare_some xs)),
    )

pub bare_meets_demand_3 : (j : Job) → Demand3 WithoutLoops j (bare_of j.candidates)
bare_meets_demand_3 j = record {
  safety = λ free X S s run assumed. all_map (λ d. d.path ≡ []) (λ d. Throws (read S d) → ⊥) (λ d e t. rw e at t)
      (bare_of j.candidates) (bare_paths j.candidates);
  exactness = bare_exact j.candidates;
}

-- .. and are shut out by demand 2: the definition `returned_paths`, to which the answer's bytes are
-- equated (`answer_bytes`), gives another list where a base is known to be there (T1 of the model's
-- `Examples` shows it too).
pub bare_not_returned : returned_paths (job_of 0 (assuming ∷ [])) (propagated done_neighbours (assuming ∷ [])).work ≡ bare_of
    (path5_10 ∷ []) → ⊥
unfolding propagated returned_paths done_neighbours
bare_not_returned e = let entries : ◌≡◌ {A = ℕ} 1 0 = ap (sum_of (λ (d : ReactiveScopeDependency). length d.path)) e in omega arith

-- The bytes of an accepted job: the scope block's row is its set, the candidates are the job's, and
-- the ids noted are its blocks'.
use Prim.Native.Nat.{ℕ, zero, suc, ◌*◌, ◌≤◌, ◌<◌}
use native.Mathlib.Omega.{arith}
use mathlib.Core.Path.{◌≡◌, refl, sym, ap, subst, ◌∙◌}
use mathlib.Core.Bool.{false, not, cond}
use mathlib.Core.List.{List, [], ◌∷◌, map, ◌++◌}
use lib.ListN.{length, get_or, take, length-append}
use borrow.Author.Tests.{not-false}
use Rattle.model.specs.Lists.{concat_map, any_of}
use Rattle.model.specs.ListLaws.{all_get_or}
use Rattle.model.specs.Sets.{NodeSet}
use Rattle.model.specs.ReadingBytes.{got, read_many}
use Rattle.model.specs.Job.{CA, Block, Job, read_path, contains_id, ids_of, has_unknown}
use Rattle.model.specs.Registry.{full_path_of}
use Rattle.model.specs.ReductionLaws.{Members}
use Rattle.model.specs.Rounds.{Rounds}
use Rattle.model.specs.Propagation.{Work, set_of}
use Rattle.model.proofs.PropagationLaws.{members_empty}
use Rattle.model.specs.Tree.{derive_minimal_dependencies}
use Rattle.model.specs.Stage.{Started, place_of, hoistable_paths, returned_paths}
use Rattle.model.specs.Answer.{answer_bytes, node_bytes, set_bytes, sheet_head, sheet_bytes, span_width, least_buffer}
use Rattle.rows.specs.Rows.{row_of, rows_of}
use Rattle.rows.proofs.Rows.{row_at}
use Rattle.registry.specs.Words.{registry_of, Sized}
use Rattle.writer.specs.Writes.{Writes}
use Rattle.job.specs.declared.JobHead.{JobHead}
use Rattle.job.proofs.BlocksAt.{job_accepted, same_job}
use Rattle.laws.specs.Membership.{Member, neither}
use Rattle.laws.specs.GraphLaws.{contains_member, place_known}
use Rattle.edges.specs.Rows.{ids_from, ids_noted, place_among, block_among}
use Rattle.edges.proofs.Fronts.{front_noted}
use Rattle.model.specs.Tests.{ltb_less}
use Rattle.entries.specs.declared.BlockId.{BlockId}
use Rattle.std.specs.Prelude.{Option, Some, None}
use Rattle.edges.proofs.Jobs.{place_is}
use Rattle.entries.specs.declared.RoundsRun.{RoundsRun}
use Rattle.propagation.specs.Joins.{work_of}
use Rattle.propagation.specs.Propagates.{rounds_of}
use Rattle.answer_bytes.specs.Answers.{answer_over, WritesAnswer}
use Rattle.sheet_bytes.specs.Sheet.{set_record, WritesSheet}
use Rattle.sheet_bytes.proofs.Nodes.{nodes_length}
use Rattle.sheet_bytes.proofs.Blocks.{block_length}
use Rattle.sheet_bytes.proofs.Whole.{head_length}
use Rattle.registry.proofs.View.{registry_length}
use Rattle.stage.specs.declared.Operation.TheVariants.{Sheet}
use Rattle.stage.specs.Jobs.{AcceptedJob, Standing, PutsAnswer, PutsJob}

-- bytes stand in the buffer from its start on, and have their room there
abbrev Stand : List ℕ → List ℕ → List ℕ → ℕ → Type 0
Stand before after bytes next = Writes before after 0 bytes next × (length bytes ≤ length before)

-- A place within the ids is what is found.

count_from : (ids : List ℕ) (k n : ℕ) → length (ids_from ids k n) ≡ n
count_from ids k zero = refl
count_from ids k (suc n) = ap suc (count_from ids (suc k) n)

ids_count : (ids : List ℕ) (n : ℕ) → length (ids_noted ids n) ≡ n
unfolding ids_noted
ids_count ids n = count_from ids 0 n

some_same : {x y : ℕ} → Some x ≡ Some y → x ≡ y
some_same e = cc

among : (l : List BlockId) (i : BlockId) → place_among l i < length l → block_among l i ≡ Some (place_among l i)
among l i h = ap (λ b. cond b (Some (place_among l i)) None) (ltb_less (place_among l i) (length l) h)

-- The scope block is a block of the job, since 8 did not turn it back.
scope_known : (j : Job) → has_unknown j ≡ false → Member j.scope (ids_of j.blocks)
unfolding has_unknown
scope_known j u =
    let ids = ids_of j.blocks in
    contains_member ids j.scope (not-false (contains_id ids j.scope)
    (neither (any_of (λ (b : Block). any_of (λ i. not (contains_id ids i)) b.predecessors) j.blocks) (not (contains_id ids j.scope)) u).1)

-- A sheet of at most 512 nodes and 128 blocks has its room.

sets_length : (bs : List Block) (sets : List NodeSet) → length (set_bytes bs sets) ≤ 70 * length bs
unfolding set_bytes
sets_length [] sets = omega arith
sets_length (b ∷ bs) [] = omega arith
sets_length (b ∷ bs) (t ∷ ts) = omega (arith, length-append (set_record b.id t) (set_bytes bs ts), block_length b.id t, sets_length bs ts)

sheet_fits : (j : Job) (start : Started) (p : Rounds Work) (before : List ℕ) → length p.work.registry ≤ 512 → length j.blocks ≤ 128
    → least_buffer ≤ length before
    → length (sheet_bytes span_width j start p) ≤ length before
unfolding sheet_bytes
sheet_fits j start p before nodes blocks wide =
    let head = sheet_head (length p.work.registry) (length j.blocks) p.rounds p.settled (length start.registry) in
    let reg = concat_map (node_bytes 4) p.work.registry in
    let rows = set_bytes j.blocks p.work.sets in
    omega (
      arith,
      length-append (head ++ reg) rows,
      length-append head reg,
      head_length (length p.work.registry) (length j.blocks) p.rounds p.settled (length start.registry),
      nodes_length p.work.registry,
      sets_length j.blocks p.work.sets,
    )

module _ {s ids places : List ℕ} {head : JobHead} (acc : AcceptedJob s ids places head) where
  abbrev job : Job
  job = acc.noted.job

  abbrev n : ℕ
  n = head.blocks

  member : Member job.scope (ids_of job.blocks)
  member = subst (λ (k : Job). Member k.scope (ids_of k.blocks)) (same_job job acc.noted.blocks)
      (scope_known (job_accepted job acc.noted.blocks).job (job_accepted job acc.noted.blocks).no_unknown)

  scope_same : head.scope ≡ job.scope
  scope_same = ap (λ (h : JobHead). h.scope) acc.keeps

  scope_place : place_among (ids_noted ids n) head.scope ≡ place_of job.blocks job.scope
  scope_place = ap (place_among (ids_noted ids n)) scope_same ∙ place_is s ids places n job acc.noted.blocks acc.noted.numbers job.scope

  place_inside : place_of job.blocks job.scope < n
  place_inside = let l = (place_known job.blocks job.scope member).0 in let c = acc.noted.blocks.count in omega arith

  -- the scope block is found among the blocks' ids
  pub scope_found : length ids ≡ 128
      → block_among (ids_noted (take n ids) (length (take n ids))) head.scope ≡ Some (place_among (ids_noted ids n) head.scope)
  scope_found wide =
      ap (λ (l : List BlockId). block_among l head.scope) (front_noted acc.noted wide refl)
      ∙ among (ids_noted ids n) head.scope (let l = place_inside in let p = scope_place in let c = ids_count ids n in omega arith)

  pub scope_led : length ids ≡ 128 → {o : Option ℕ} {k : ℕ} → o ≡ block_among (ids_noted (take n ids) (length (take n ids))) head.scope
      → o ≡ Some k → k ≡ place_among (ids_noted ids n) head.scope
  scope_led wide found told = some_same (sym told ∙ found ∙ scope_found wide)

  -- the scope block has a row
  pub scope_inside : (place : ℕ) → place ≡ place_among (ids_noted ids n) head.scope → place < n
  scope_inside place is = let e = is ∙ scope_place in let l = place_inside in omega arith

  module _ (sets ws : List ℕ) (stands : Standing n sets ws) (place : ℕ) (is : place ≡ place_among (ids_noted ids n) head.scope) where
    place_same : place ≡ place_of job.blocks job.scope
    place_same = is ∙ scope_place

    row_is : get_or (rows_of sets n) (place_of job.blocks job.scope) [] ≡ row_of sets place
    row_is = row_at sets n (place_of job.blocks job.scope) place_inside ∙ ap (row_of sets) (sym place_same)

    -- the scope block's row is a set of the registry's nodes
    pub scope_members : (set : NodeSet) → set ≡ row_of sets place → Members (registry_of ws) set
    scope_members set e =
        subst (Members (registry_of ws)) (row_is ∙ sym e)
        (all_get_or (Members (registry_of ws)) (rows_of sets n) (place_of job.blocks job.scope) [] stands (members_empty (registry_of ws)))

    -- the answer over the words is the job's
    pub puts_answer : (set : NodeSet) → set ≡ row_of sets place → (run : RoundsRun) (before after : List ℕ) (next : ℕ)
        → WritesAnswer s head.candidates_at head.candidates (registry_of ws) set run.rounds run.settled before after next
        → PutsAnswer s head sets ws run before after next
    unfolding answer_bytes returned_paths hoistable_paths work_of
    puts_answer set e run before after next w nodes_before j end reads start size p same =
        let j-same : j ≡ job = (let b = sym reads ∙ acc.noted.blocks.reads in cc) in
        let a = job_accepted job acc.noted.blocks in
        let h = acc.keeps in
        let cs : read_many head.candidates (read_path 4 CA) s head.candidates_at ≡ got job.candidates (length s) =
        subst (λ (k : Job). read_many head.candidates (read_path 4 CA) s head.candidates_at ≡ got k.candidates (length s))
        (same_job job acc.noted.blocks)
        (subst (λ (h : JobHead). read_many h.candidates (read_path 4 CA) s h.candidates_at ≡ got a.job.candidates (length s)) (sym h)
        a.candidates_read) in
        let sets_same : set_of (rows_of sets n) (place_of job.blocks job.scope) ≡ set = row_is ∙ sym e in
        subst (λ (q : Rounds Work). Stand before after (answer_bytes span_width j q) next) (sym same)
        (subst (λ (k : Job). Stand before after (answer_bytes span_width k (rounds_of n sets ws run)) next) (sym j-same)
        (subst (λ (t : NodeSet). Stand before after
        (answer_over (derive_minimal_dependencies (map (full_path_of (registry_of ws)) t) job.candidates) run.rounds run.settled) next)
        (sym sets_same) (w job.candidates (length s) cs)))

  pub puts_sheet : (sets ws : List ℕ) → Sized ws → (nodes_before : ℕ) (run : RoundsRun) (before after : List ℕ) (next : ℕ)
      → least_buffer ≤ length before → WritesSheet ws sets ids n run.rounds run.settled nodes_before before after next
      → PutsJob Sheet s head sets ws nodes_before run before after next
  unfolding work_of
  puts_sheet sets ws sized nodes_before run before after next wide w j end reads start size-before p same =
      let j-same : j ≡ job = (let b = sym reads ∙ acc.noted.blocks.reads in cc) in
      let count : length j.blocks ≡ n = ap (λ (k : Job). length k.blocks) j-same ∙ acc.noted.blocks.count in
      let registry : p.work.registry ≡ registry_of ws = ap (λ (q : Rounds Work). q.work.registry) same in
      let few = acc.noted.few in
      let nodes = sized.room in
      let size = ap length registry ∙ registry_length ws in (
        w j start p (record {
          count = count;
          ids = acc.listed ∙ ap (λ (k : Job). ids_of k.blocks) (sym j-same);
          registry = registry;
          sets = ap (λ (q : Rounds Work). q.work.sets) same;
          rounds = ap (λ (q : Rounds Work). q.rounds) same;
          settled = ap (λ (q : Rounds Work). q.settled) same;
          before = size-before;
        }),
        sheet_fits j start p before (omega arith) (omega arith) wide,
      )

-- Document 02, E1 (thin jobs for the cache) and E5 (raw reads in a job): a job without repeats, and
-- its bytes.
use Rattle.std.specs.Prelude.{ℕ, Bool, ◌&&◌, cond, List, [], ◌∷◌, map, replicate, eqb}
use Rattle.entries.specs.Path.{ReactiveScopeDependency, are_equal_paths}
use Rattle.model.specs.Lists.{any_of}
use Rattle.model.specs.ReadingBytes.{Read, got, refused}
use Rattle.model.specs.Job.{Block, Job, HD, read_job}
use Rattle.model.specs.JobBytes.{job_bytes}
use Rattle.model.specs.Answer.{Verdict, writes, turns_back, within_lengths, longest_job, span_width, program_output}

-- "The same identifier and equal entries": optional marks count; spans and reactive do not.
abbrev pub same_path : ReactiveScopeDependency → ReactiveScopeDependency → Bool
same_path a b = eqb a.identifier.0 b.identifier.0 && are_equal_paths a.path b.path

-- The paths of a list that none before them equals; `earlier` are those that stood before the list.
unfoldable pub thinned_after : List ReactiveScopeDependency → List ReactiveScopeDependency → List ReactiveScopeDependency
thinned_after earlier [] = []
thinned_after earlier (d ∷ ds) = cond (any_of (same_path d) earlier) (thinned_after (d ∷ earlier) ds) (d ∷ thinned_after (d ∷ earlier) ds)

-- "A later path with the same identifier and equal entries is dropped": the first of them stays, as
-- it is.
abbrev pub thinned_paths : List ReactiveScopeDependency → List ReactiveScopeDependency
thinned_paths ds = thinned_after [] ds

-- "In each block": its assumed paths. E5: "Thinning a block compares its PA records alone and
-- copies its RD records unchanged".
abbrev pub thinned_block : Block → Block
thinned_block b = record { id = b.id; predecessors = b.predecessors; raw_reads = b.raw_reads; ready_paths = thinned_paths b.ready_paths }

-- A job "without repeats: in each block, and among candidates".
unfoldable pub thinned : Job → Job
unfolding thinned_after
thinned j = record { scope = j.scope; blocks = map thinned_block j.blocks; candidates = thinned_paths j.candidates }

-- "For this writer 1 means an out buffer under 32,768 bytes."
abbrev pub least_thin_buffer : ℕ
least_thin_buffer = 32768

-- "Writes it without repeats .., and counts follow"; "refuses any other by those numbers": 3 to 8,
-- and E5: "the writer refuses by 10 too".
abbrev pub on_thin_job : ℕ → ℕ → Read Job → Verdict
on_thin_job head span_bytes (got job next) = writes (job_bytes head span_bytes (thinned job))
on_thin_job head span_bytes (refused r) = turns_back r

-- 1 and 2, then 3 to 8 and 10: of a job with a header of this mark and spans of so many bytes.
-- Nothing is propagated, so that 9 does not arise.
unfoldable pub thin_verdict : ℕ → ℕ → List ℕ → List ℕ → Verdict
unfolding read_job job_bytes thinned
thin_verdict head span_bytes job out =
    within_lengths least_thin_buffer longest_job job out (on_thin_job head span_bytes (read_job head span_bytes job))

-- "A writer that takes a job which passes 2 to 8, refuses any other by those numbers, and writes it
-- without repeats"; E5: "the writer refuses by 10 too".
unfoldable pub thin_of : List ℕ → List ℕ → Verdict
unfolding thin_verdict
thin_of job out = thin_verdict HD span_width job out

-- Program `thin`: its input is the job, and its buffer has the least length, so that 1 does not
-- occur.
unfoldable pub thin_program : List ℕ → List ℕ
unfolding thin_of
thin_program input = program_output (thin_of input (replicate least_thin_buffer 0))

-- A thin job: it has no repeats and is its own thin job, refusals 3 to 8 and 10 let it through
-- where they do the job, and it has no more bytes than the job.
use Rattle.std.specs.Prelude.{ℕ, zero, suc, ◌+◌, ◌/◌, ◌≤◌, ◌<◌, ◌≡◌, refl, Bool, ◌||◌, not, List, [], ◌∷◌, ◌++◌, map, length}
use Rattle.std.proofs.Common.{le_refl, arith, ap, ◌∙◌, length-append}
use Rattle.std.proofs.lemmas.List.{length-map}
use Rattle.entries.specs.declared.BlockId.{BlockId}
use Rattle.entries.specs.declared.DependencyPathEntry.{DependencyPathEntry}
use Rattle.entries.specs.Path.{ReactiveScopeDependency}
use Rattle.model.specs.Lists.{any_of, sum_of, concat_map}
use Rattle.model.specs.ListLaws.{All, all_append}
use Rattle.model.specs.RawReads.{RawRead}
use Rattle.model.specs.Job.{Block, Job, PA, CA, contains_id, repeats, ids_of, has_repeat, has_unknown}
use Rattle.model.specs.Answer.{number_bytes, entry_bytes, path_field_bytes, path_bytes}
use Rattle.model.specs.JobBytes.{raw_read_bytes, block_bytes, job_bytes}
use Rattle.model.specs.Thin.{thinned_paths, thinned_block, thinned}
use Rattle.laws.specs.ReadBack.{PathFits}
use Rattle.laws.specs.JobBack.{BlockFits, JobFits}
use Rattle.laws.specs.Fits.{Acceptable}
use Rattle.thin_laws.specs.Statement.{Once, BlocksOnce}
use Rattle.thin_laws.specs.Repeats.{thinned_once, thinned_all, thinned_length, thinned_sum, thinned_again}

-- No repeats.

blocks_once : (bs : List Block) → BlocksOnce bs (map thinned_block bs)
blocks_once [] = tt
blocks_once (b ∷ bs) = (refl, refl, refl, thinned_once b.ready_paths, blocks_once bs)

pub scope_thinned : (j : Job) → (thinned j).scope ≡ j.scope
unfolding thinned
scope_thinned j = refl

pub blocks_thinned_once : (j : Job) → BlocksOnce j.blocks (thinned j).blocks
unfolding thinned
blocks_thinned_once j = blocks_once j.blocks

pub candidates_thinned_once : (j : Job) → Once j.candidates (thinned j).candidates
unfolding thinned
candidates_thinned_once j = thinned_once j.candidates

-- Thinned twice.

blocks_twice : (bs : List Block) → map thinned_block (map thinned_block bs) ≡ map thinned_block bs
blocks_twice [] = refl
blocks_twice (b ∷ bs) =
    λ i.
    record { id = b.id; predecessors = b.predecessors; raw_reads = b.raw_reads; ready_paths = thinned_again b.ready_paths i }
    ∷ blocks_twice bs i

pub thinned_twice : (j : Job) → thinned (thinned j) ≡ thinned j
unfolding thinned
thinned_twice j = λ i. record { scope = j.scope; blocks = blocks_twice j.blocks i; candidates = thinned_again j.candidates i }

-- Refusals 7 and 8 look at ids and predecessors only.

ids_thinned : (bs : List Block) → ids_of (map thinned_block bs) ≡ ids_of bs
ids_thinned [] = refl
ids_thinned (b ∷ bs) = ap (λ (is : List BlockId). b.id ∷ is) (ids_thinned bs)

-- a test that looks at a block's predecessors only
any_thinned : (test : List BlockId → Bool) (bs : List Block)
    → any_of (λ (b : Block). test b.predecessors) (map thinned_block bs) ≡ any_of (λ (b : Block). test b.predecessors) bs
any_thinned test [] = refl
any_thinned test (b ∷ bs) = ap (λ (t : Bool). test b.predecessors || t) (any_thinned test bs)

pub repeated_id_thinned : (j : Job) → has_repeat (thinned j) ≡ has_repeat j
unfolding has_repeat thinned
repeated_id_thinned j = rw (ids_thinned j.blocks, any_thinned repeats j.blocks)

pub unknown_block_thinned : (j : Job) → has_unknown (thinned j) ≡ has_unknown j
unfolding has_unknown thinned
unknown_block_thinned j = rw (ids_thinned j.blocks)
    (ap (λ (t : Bool). t || not (contains_id (ids_of j.blocks) j.scope))
    (any_thinned (any_of (λ i. not (contains_id (ids_of j.blocks) i))) j.blocks))

-- What fits stays so.

block_fits : (w : ℕ) (b : Block) → BlockFits w b → BlockFits w (thinned_block b)
block_fits w b f = record {
  id = f.id;
  few = f.few;
  predecessors = f.predecessors;
  few_raw = f.few_raw;
  raw = f.raw;
  few_ready = let less = thinned_length [] b.ready_paths in let few = f.few_ready in omega arith;
  ready = thinned_all (PathFits w) [] b.ready_paths f.ready;
}

blocks_fit : (w : ℕ) (bs : List Block) → All (BlockFits w) bs → All (BlockFits w) (map thinned_block bs)
blocks_fit w [] a = tt
blocks_fit w (b ∷ bs) a = (block_fits w b a.0, blocks_fit w bs a.1)

pub fits_thinned : (w : ℕ) (j : Job) → JobFits w j → JobFits w (thinned j)
unfolding thinned
fits_thinned w j f = record {
  scope = f.scope;
  some = rw (length-map j.blocks thinned_block) f.some;
  few = rw (length-map j.blocks thinned_block) f.few;
  blocks = blocks_fit w j.blocks f.blocks;
  few_candidates = let less = thinned_length [] j.candidates in let few = f.few_candidates in omega arith;
  candidates = thinned_all (PathFits w) [] j.candidates f.candidates;
}

pub acceptable_thinned : (w : ℕ) (j : Job) → Acceptable w j → Acceptable w (thinned j)
acceptable_thinned w j a = record {
  fits = fits_thinned w j a.fits;
  no_repeat = repeated_id_thinned j ∙ a.no_repeat;
  no_unknown = unknown_block_thinned j ∙ a.no_unknown;
}

-- How many bytes there are.

concat_length : {A : Type 0} (f : A → List ℕ) (xs : List A) → length (concat_map f xs) ≡ sum_of (λ x. length (f x)) xs
concat_length f [] = refl
concat_length f (x ∷ xs) = length-append (f x) (concat_map f xs) ∙ ap (λ n. length (f x) + n) (concat_length f xs)

paths_no_longer : (f : ReactiveScopeDependency → List ℕ) (ds : List ReactiveScopeDependency)
    → length (concat_map f (thinned_paths ds)) ≤ length (concat_map f ds)
paths_no_longer f ds = rw (concat_length f (thinned_paths ds), concat_length f ds) (thinned_sum (λ d. length (f d)) [] ds)

block_no_longer : (w : ℕ) (b : Block) → length (block_bytes w (thinned_block b)) ≤ length (block_bytes w b)
unfolding block_bytes
block_no_longer w b = simp length-append (omega (arith, paths_no_longer (path_bytes w PA) b.ready_paths))

blocks_no_longer : (w : ℕ) (bs : List Block)
    → length (concat_map (block_bytes w) (map thinned_block bs)) ≤ length (concat_map (block_bytes w) bs)
blocks_no_longer w [] = le_refl _
blocks_no_longer w (b ∷ bs) = simp length-append (omega (arith, block_no_longer w b, blocks_no_longer w bs))

pub job_no_longer : (head w : ℕ) (j : Job) → length (job_bytes head w (thinned j)) ≤ length (job_bytes head w j)
unfolding job_bytes thinned
job_no_longer head w j =
    simp length-append (omega (arith, blocks_no_longer w j.blocks, paths_no_longer (path_bytes w CA) j.candidates))

-- They are bytes.

record Bytes (xs : List ℕ) : Type 0 where
  below : All (λ b. b < 256) xs

bytes_then : {xs ys : List ℕ} → Bytes xs → Bytes ys → Bytes (xs ++ ys)
bytes_then {xs} {ys} a b = record { below = all_append (λ b. b < 256) xs ys a.below b.below }

bytes_number : (n x : ℕ) → Bytes (number_bytes n x)
unfolding number_bytes
bytes_number zero x = record { below = tt }
bytes_number (suc n) x = record { below = (omega arith, (bytes_number n (x / 256)).below) }

bytes_concat : {A : Type 0} (f : A → List ℕ) → ((x : A) → Bytes (f x)) → (xs : List A) → Bytes (concat_map f xs)
bytes_concat f h [] = record { below = tt }
bytes_concat f h (x ∷ xs) = bytes_then (h x) (bytes_concat f h xs)

entry_bytes_lem : (w : ℕ) (e : DependencyPathEntry) → Bytes (entry_bytes w e)
entry_bytes_lem w e = search (bytes_then, bytes_number)

field_bytes : (w : ℕ) (d : ReactiveScopeDependency) → Bytes (path_field_bytes w d)
unfolding path_field_bytes
field_bytes w d = search (bytes_then, bytes_number, bytes_concat, entry_bytes_lem) depth 8

path_bytes_lem : (w mark : ℕ) (d : ReactiveScopeDependency) → Bytes (path_bytes w mark d)
unfolding path_bytes
path_bytes_lem w mark d = bytes_then (bytes_number 2 mark) (field_bytes w d)

raw_read_bytes_lem : (w : ℕ) (r : RawRead) → Bytes (raw_read_bytes w r)
unfolding raw_read_bytes
raw_read_bytes_lem w r = search (bytes_then, bytes_number, field_bytes) depth 12

block_bytes_lem : (w : ℕ) (b : Block) → Bytes (block_bytes w b)
unfolding block_bytes
block_bytes_lem w b = search (bytes_then, bytes_number, bytes_concat, raw_read_bytes_lem, path_bytes_lem) depth 12

pub job_bytes_lem : (head w : ℕ) (j : Job) → All (λ b. b < 256) (job_bytes head w j)
unfolding job_bytes
job_bytes_lem head w j = go.below
  where
    go : Bytes (job_bytes head w j)
    go = search (bytes_then, bytes_number, bytes_concat, block_bytes_lem, path_bytes_lem) depth 8

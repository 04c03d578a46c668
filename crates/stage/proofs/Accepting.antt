-- What the reader kept and noted of an accepted job.
use Prim.Native.Nat.{ℕ, zero, suc, ◌≤◌}
use native.Mathlib.Omega.{arith}
use mathlib.Core.Path.{◌≡◌, refl, sym, ap, ◌∙◌}
use mathlib.Core.List.{List, [], ◌∷◌, map}
use lib.ListN.{length, get_or, take}
use Rattle.std.specs.Prelude.{Some, None, Ok}
use lib.Seq.{sets, get_or-take, length-sets}
use Rattle.entries.specs.declared.BlockId.{BlockId}
use Rattle.model.specs.ReadingBytes.{Read, got, refused}
use Rattle.model.specs.Job.{HD, Block, Job, ids_of, read_job, block_id}
use Rattle.job.specs.Kept.{block_places, block_numbers, kept_of}
use Rattle.job.specs.declared.JobHead.{JobHead}
use Rattle.job.proofs.Accepted.{accepted}
use Rattle.job.proofs.Stored.{stored}
use Rattle.edges.specs.Fills.{IdsAt}
use Rattle.stage.specs.Jobs.{AcceptedJob, head_in}
use Rattle.stage.specs.declared.Accepted.{Accepted}

get_or_map : {A B : Type 0} (f : A → B) (l : List A) (k : ℕ) (d : A) → get_or (map f l) k (f d) ≡ f (get_or l k d)
get_or_map f [] k d = refl
get_or_map f (x ∷ l) zero d = refl
get_or_map f (x ∷ l) (suc k) d = get_or_map f l k d

-- numbers that are listed stand at their places
ids_at : (ids : List ℕ) (n : ℕ) (j : Job) → length j.blocks ≡ n → map block_id (take n ids) ≡ ids_of j.blocks → IdsAt ids j
ids_at ids n j count listed k l =
    sym (get_or-take n ids k 0 (omega arith))
    ∙ ap (λ (i : BlockId). i.0) (sym (get_or_map block_id (take n ids) k 0) ∙ ap (λ (is : List BlockId). get_or is k (block_id 0)) listed ∙ get_or_map
    (λ (b : Block). b.id) j.blocks k (record { id = record { 0 = 0 }; predecessors = []; raw_reads = []; ready_paths = [] }))

-- what is kept of a job is what the reader answered
kept_said : (s : List ℕ) (x : Read Job) (head : JobHead) → Some head ≡ head_in s x → Ok head ≡ kept_of s x
kept_said s (got j end) head e = cc
kept_said s (refused r) head e = absurd (let z : Some head ≡ None = e in cc)

-- numbers that were noted from the front of an array stand there
front : (n : ℕ) (l ns r : List ℕ) → length r ≡ 128 → n ≤ 128 → length ns ≡ n → r ≡ sets l 0 ns → take n r ≡ ns
front n l ns r wide few count kept =
    let same = ap length kept ∙ length-sets l 0 ns in (stored l ns r n (omega arith) (sym count) kept).front

module _ (s : List ℕ) {head : JobHead} (kept : Ok head ≡ kept_of s (read_job HD 4 s)) (l : List ℕ) {r : List ℕ} where
  pub ids_front : length r ≡ 128 → r ≡ sets l 0 (block_numbers s) → take head.blocks r ≡ block_numbers s
  ids_front wide = let a = accepted s kept in front head.blocks l (block_numbers s) r wide a.blocks_few a.numbers_count

  pub places_front : length r ≡ 128 → r ≡ sets l 0 (block_places s) → take head.blocks r ≡ block_places s
  places_front wide = let a = accepted s kept in front head.blocks l (block_places s) r wide a.blocks_few a.places_count

-- a job that was read is accepted by the reader
module _ (o : Accepted) where
  abbrev s : List ℕ
  s = o.s.now

  pub kept : Ok o.head ≡ kept_of s (read_job HD 4 s)
  kept = kept_said s (read_job HD 4 s) o.head o.kept

  pub accepts : AcceptedJob s o.ids.now o.places.now o.head
  accepts =
      let a = accepted s kept in
      let count : length a.job.blocks ≡ o.head.blocks = ap (λ (h : JobHead). h.blocks) (sym a.keeps) in
      let listed : map block_id (take o.head.blocks o.ids.now) ≡ ids_of a.job.blocks = ap (map block_id) o.ids_are ∙ a.numbers_are in
      record {
        noted = record {
          job = a.job;
          blocks = record {
            end = length s;
            reads = a.accepts;
            count = count;
            noted = λ k l. sym (get_or-take o.head.blocks o.places.now k 0 l) ∙ ap (λ (l : List ℕ). get_or l k 0) o.places_are;
          };
          numbers = ids_at o.ids.now o.head.blocks a.job count listed;
          few = a.blocks_few;
        };
        keeps = a.keeps;
        listed = listed;
        candidates = record { candidates = a.job.candidates; end = length s; reads = a.candidates_read; few = a.candidates_few; short = o.short };
      }

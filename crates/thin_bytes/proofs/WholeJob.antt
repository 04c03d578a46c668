-- The whole job: its blocks, its candidates behind them, and the header, with the number of
-- candidates that stay, last.
use Prim.Native.Nat.{ℕ, ◌+◌, ◌≤◌, ◌<◌}
use native.Mathlib.Omega.{arith}
use mathlib.Core.Path.{◌≡◌, sym, ap, subst, ◌∙◌}
use mathlib.Core.List.{List, ◌++◌, append_assoc, map}
use lib.ListN.{length, length-append, length-map}
use lib.Seq.{slice}
use Rattle.model.specs.Lists.{concat_map}
use Rattle.model.specs.ListLaws.{All}
use Rattle.model.specs.ReadingBytes.{got, read_many}
use Rattle.model.specs.Job.{HD, CA, Header, Job, read_path, read_block, read_job}
use Rattle.model.specs.JobBytes.{block_bytes, job_bytes}
use Rattle.model.specs.Answer.{number_bytes, u16, u32, path_bytes}
use Rattle.model.specs.Thin.{thinned_paths, thinned_block, thinned}
use Rattle.laws.specs.JobBack.{header_bytes}
use Rattle.laws.specs.Written.{Stand, header_written}
use Rattle.std.proofs.Common.{MutBor, Ok}
use Rattle.writer.specs.declared.Writer.{Writer}
use Rattle.writer.specs.Writes.{Writes, Puts}
use Rattle.writer.proofs.Bytes.{number_length, moved, puts_then, puts_before, puts_as}
use Rattle.job.specs.Kept.{candidates_at, kept_of}
use Rattle.job.specs.declared.JobHead.{JobHead}
use Rattle.job.proofs.Accepted.{Accepted, accepted}
use Rattle.job.proofs.Many.{many_length}
use Rattle.job.proofs.RecordParts.{paths_onward, blocks_onward}
use Rattle.job.proofs.Records.{Parts}
use Rattle.thin_bytes.specs.declared.PathsDone.{PathsDone}
use Rattle.thin_bytes.specs.Thins.{PathsThere, ThinsPaths, Recountable, recounted, BlocksThere, ThinsBlocks, JobThere, ThinsJob}
use Rattle.thin_bytes.proofs.Copied.{stand_slice, stand_first, stand_rest}

-- The parts of a header: mark and number of blocks, number of candidates, scope block.
abbrev front : Header → List ℕ
front h = u16 HD ++ u16 h.blocks

abbrev counted : Header → List ℕ
counted h = front h ++ u16 h.candidates

front_length : (h : Header) → length (front h) ≡ 4
front_length h = omega (arith, length-append (u16 HD) (u16 h.blocks), number_length 2 HD, number_length 2 h.blocks)

counted_length : (h : Header) → length (counted h) ≡ 6
counted_length h = omega (arith, length-append (front h) (u16 h.candidates), front_length h, number_length 2 h.candidates)

module _ (s : List ℕ) (bytes : All (λ b. b < 256) s) {j : Job} (p : Parts s j) where
  stands : Stand s 0 (header_bytes HD p.header) p.blocks_at
  stands = header_written s bytes HD 0 p.header_read

  pub blocks_place : p.blocks_at ≡ 10
  blocks_place =
      omega
      (arith, stands.place, length-append (counted p.header) (u32 p.header.scope.0), counted_length p.header, number_length 4 p.header.scope.0)

  first_bytes : slice 0 4 s ≡ front p.header
  first_bytes =
      stand_slice (subst (Stand s 0 (front p.header)) (ap (λ n. 0 + n) (front_length p.header))
      (stand_first (front p.header) (u16 p.header.candidates) (stand_first (counted p.header) (u32 p.header.scope.0) stands)))

  last_bytes : slice 6 10 s ≡ u32 p.header.scope.0
  last_bytes =
      stand_slice (subst (λ n. Stand s n (u32 p.header.scope.0) 10) (ap (λ n. 0 + n) (counted_length p.header))
      (subst (Stand s (0 + length (counted p.header)) (u32 p.header.scope.0)) blocks_place
      (stand_rest (counted p.header) (u32 p.header.scope.0) stands)))

  block_count : p.header.blocks ≡ length j.blocks
  block_count = sym (many_length (read_block 4) s p.header.blocks p.blocks_at p.blocks_read)

  candidate_count : p.header.candidates ≡ length j.candidates
  candidate_count = sym (many_length (read_path 4 CA) s p.header.candidates (candidates_at s) p.candidates_read)

  pub blocks_there : read_many (length j.blocks) (read_block 4) s 10 ≡ got j.blocks (candidates_at s)
  blocks_there =
      subst (λ n. read_many n (read_block 4) s 10 ≡ got j.blocks (candidates_at s)) block_count
      (subst (λ at. read_many p.header.blocks (read_block 4) s at ≡ got j.blocks (candidates_at s)) blocks_place p.blocks_read)

  pub candidates_there : read_many (length j.candidates) (read_path 4 CA) s (candidates_at s) ≡ got j.candidates (length s)
  candidates_there = subst (λ n. read_many n (read_path 4 CA) s (candidates_at s) ≡ got j.candidates (length s)) candidate_count p.candidates_read

  pub places : (10 ≤ candidates_at s) × (candidates_at s ≤ length s)
  places =
      (blocks_onward s (length j.blocks) 10 blocks_there, paths_onward s CA (length j.candidates) (candidates_at s) candidates_there)

  whole : (kept : ℕ) → kept ≡ length (thinned_paths j.candidates)
      → recounted s 0 4 2 kept 10 ++ (concat_map (block_bytes 4) (map thinned_block j.blocks) ++ concat_map (path_bytes 4 CA) (thinned_paths j.candidates))
      ≡ job_bytes HD 4 (thinned j)
  unfolding job_bytes thinned
  whole kept e =
      let blocks = concat_map (block_bytes 4) (map thinned_block j.blocks) in
      let candidates = concat_map (path_bytes 4 CA) (thinned_paths j.candidates) in
      let many : p.header.blocks ≡ length (map thinned_block j.blocks) = block_count ∙ sym (length-map j.blocks thinned_block) in
      sym (append_assoc (recounted s 0 4 2 kept 10) blocks candidates)
      ∙ ap (λ l. (l ++ number_bytes 2 kept ++ slice 6 10 s ++ blocks) ++ candidates) first_bytes
      ∙ ap (λ l. (front p.header ++ number_bytes 2 kept ++ l ++ blocks) ++ candidates) last_bytes
      ∙ ap (λ n. (front p.header ++ number_bytes 2 n ++ u32 p.header.scope.0 ++ blocks) ++ candidates) e
      ∙ ap (λ n. ((u16 HD ++ u16 n) ++ u16 (length (thinned_paths j.candidates)) ++ u32 p.header.scope.0 ++ blocks) ++ candidates) many
      ∙ ap (λ i. ((u16 HD ++ u16 (length (map thinned_block j.blocks))) ++ u16 (length (thinned_paths j.candidates)) ++ u32 i.0 ++ blocks) ++ candidates)
      (sym p.scope)

  -- the blocks and the candidates are written from byte 10 of the buffer on, up to v and z, and
  -- then the header from its start on
  pub job_thinned : {o : MutBor (List ℕ)} {v z y : Writer} {blocks : ℕ} {candidates : PathsDone}
      → ThinsBlocks s 10 (length j.blocks) (record { out = o; at = 10 }) v blocks
      → ThinsPaths s CA blocks (length j.candidates) v z candidates
      → Puts (moved z 0) y 10 (recounted s 0 4 2 candidates.kept 10)
      → Writes o.now y.out.now 0 (job_bytes HD 4 (thinned j)) z.at × (z.at ≤ length s)
  job_thinned {o} {blocks = blocks} {candidates = candidates} b c put =
      let t = b.is j.blocks (candidates_at s) blocks_there in
      let r = c.is j.candidates (length s)
      (subst (λ at. read_many (length j.candidates) (read_path 4 CA) s at ≡ got j.candidates (length s)) (sym t.from) candidates_there) in
      let near = t.near in
      let nearer = r.near in
      let low = places.0 in (
        (puts_as (whole candidates.kept r.kept) (puts_before {a = record { out = o; at = 0 }} (puts_then t.puts r.puts) put)).writes,
        omega arith,
      )

-- What was kept of the job and what the calls ask for.
module _ {s : List ℕ} {head : JobHead} {out : List ℕ} (x : JobThere s head out) (bytes : All (λ b. b < 256) s) where
  pub reader_kept : Accepted s head
  reader_kept = accepted s (ap Ok x.keeps ∙ sym (ap (kept_of s) x.reads))

  abbrev pub parts_of : Parts s reader_kept.job
  parts_of = reader_kept.parts

  pub same_job : (j : Job) (end : ℕ) → read_job HD 4 s ≡ got j end → reader_kept.job ≡ j
  same_job j end e = let same = sym reader_kept.accepts ∙ e in cc

  block_number : head.blocks ≡ length reader_kept.job.blocks
  block_number = ap (λ (h : JobHead). h.blocks) reader_kept.keeps

  candidate_number : head.candidates ≡ length reader_kept.job.candidates
  candidate_number = ap (λ (h : JobHead). h.candidates) reader_kept.keeps

  pub blocks_wanted : (o : MutBor (List ℕ)) → length o.now ≡ length out → BlocksThere s 10 head.blocks (record { out = o; at = 10 })
  blocks_wanted o long =
      let p = places s bytes parts_of in
      let low = p.0 in
      let high = p.1 in
      let short = x.short in
      let room = x.room in
      record {
        blocks = reader_kept.job.blocks;
        end = candidates_at s;
        reads = subst (λ n. read_many n (read_block 4) s 10 ≡ got reader_kept.job.blocks (candidates_at s)) (sym block_number)
            (blocks_there s bytes parts_of);
        short = omega arith;
        room = omega arith;
      }

  module _ {o : MutBor (List ℕ)} {v : Writer} {blocks : ℕ} (size : length o.now ≡ length out)
      (b : ThinsBlocks s 10 head.blocks (record { out = o; at = 10 }) v blocks) where
    done : ThinsBlocks s 10 (length reader_kept.job.blocks) (record { out = o; at = 10 }) v blocks
    done = subst (λ n. ThinsBlocks s 10 n (record { out = o; at = 10 }) v blocks) block_number b

    pub candidates_wanted : PathsThere s CA blocks head.candidates v
    candidates_wanted =
        let t = done.is reader_kept.job.blocks (candidates_at s) (blocks_there s bytes parts_of) in
        let p = places s bytes parts_of in
        let low = p.0 in
        let high = p.1 in
        let short = x.short in
        let room = x.room in
        let near = t.near in
        let from = t.from in
        let long = t.puts.long in
        record {
          paths = reader_kept.job.candidates;
          end = length s;
          reads = subst (λ n. read_many n (read_path 4 CA) s blocks ≡ got reader_kept.job.candidates (length s)) (sym candidate_number)
              (subst (λ at. read_many (length reader_kept.job.candidates) (read_path 4 CA) s at ≡ got reader_kept.job.candidates (length s))
              (sym t.from)
              (candidates_there s bytes parts_of));
          short = short;
          room = omega arith;
        }

    module _ {z : Writer} {candidates : PathsDone} (c : ThinsPaths s CA blocks head.candidates v z candidates) where
      pub header_wanted : Recountable s 0 4 2 10 (moved z 0)
      header_wanted =
          let t = done.is reader_kept.job.blocks (candidates_at s) (blocks_there s bytes parts_of) in
          let want = candidates_wanted in
          let r = c.is want.paths want.end want.reads in
          let p = places s bytes parts_of in
          let low = p.0 in
          let high = p.1 in
          let room = x.room in
          let long = t.puts.long in
          let longer = r.puts.long in
          record { begins = omega arith; ends = omega arith; within = omega arith; room = omega arith }

      -- what the writers wrote stands in the buffer that was lent to them
      pub thin_written : {y : Writer} {after : List ℕ} → (y.out.ghost_name ≡ o.ghost_name → after ≡ y.out.now)
          → Puts (moved z 0) y 10 (recounted s 0 4 2 candidates.kept 10) → ThinsJob s o.now after z.at
      thin_written {y} back put =
          let t = done.is reader_kept.job.blocks (candidates_at s) (blocks_there s bytes parts_of) in
          let want = candidates_wanted in
          let r = c.is want.paths want.end want.reads in
          let is = back (put.same ∙ r.puts.same ∙ t.puts.same) in
          record {
            is = λ j end e.
                rw is
                (subst (λ j. Writes o.now y.out.now 0 (job_bytes HD 4 (thinned j)) z.at × (z.at ≤ length s)) (same_job j end e)
                (job_thinned s bytes parts_of done (subst (λ n. ThinsPaths s CA blocks n v z candidates) candidate_number c) put));
          }

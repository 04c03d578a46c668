-- A block: its ready paths that stay are written first, and what stands before them, with their
-- number and the raw reads as they are, last.
use Prim.Native.Nat.{ℕ, ◌+◌, ◌-◌, ◌≤◌, ◌<◌}
use native.Mathlib.Omega.{arith}
use mathlib.Core.Path.{◌≡◌, sym, ap, subst, ◌∙◌}
use mathlib.Core.List.{List, ◌++◌, append_assoc}
use lib.ListN.{length, length-append}
use lib.Seq.{slice}
use Rattle.entries.specs.declared.BlockId.{BlockId}
use Rattle.model.specs.Lists.{concat_map}
use Rattle.model.specs.ListLaws.{All}
use Rattle.model.specs.ReadingBytes.{got, read_many}
use Rattle.model.specs.Job.{BL, PA, Block, read_block_id, read_path, read_raw_read, read_block}
use Rattle.model.specs.JobBytes.{raw_read_bytes, block_bytes}
use Rattle.model.specs.Answer.{number_bytes, u8, u16, u32, path_bytes}
use Rattle.model.specs.Thin.{thinned_paths, thinned_block}
use Rattle.laws.specs.Written.{Stand, block_written, paths_written}
use Rattle.writer.specs.declared.Writer.{Writer}
use Rattle.writer.specs.Writes.{HasRoom, Puts}
use Rattle.writer.proofs.Bytes.{number_length, moved, puts_before, puts_own, puts_as}
use Rattle.job.specs.Head.{read_block_head}
use Rattle.job.specs.Passing.{passed}
use Rattle.job.specs.declared.BlockHead.{BlockHead}
use Rattle.job.proofs.RecordParts.{paths_onward}
use Rattle.job.proofs.BlockAgain.{paths_there}
use Rattle.thin_bytes.specs.declared.PathsDone.{PathsDone}
use Rattle.thin_bytes.specs.Thins.{PathsThere, ThinsPaths, Recountable, recounted, PartThinned, BlockThere}
use Rattle.thin_bytes.proofs.Copied.{stand_slice, stand_within, stand_first, stand_rest}

-- What stands before the number of ready paths, behind it and before the paths, and of the paths.
abbrev front : Block → List ℕ
front b = u16 BL ++ u32 b.id.0 ++ u8 (length b.predecessors)

abbrev behind : Block → List ℕ
behind b =
    u8 (length b.raw_reads) ++ (concat_map (λ (i : BlockId). u32 i.0) b.predecessors ++ concat_map (raw_read_bytes 4) b.raw_reads)

abbrev paths_of : Block → List ℕ
paths_of b = concat_map (path_bytes 4 PA) b.ready_paths

grouped : (b : Block) → block_bytes 4 b ≡ front b ++ (u8 (length b.ready_paths) ++ (behind b ++ paths_of b))
unfolding block_bytes
grouped b = simp append_assoc

-- the same with what stands before the paths in one
before_paths_grouped : (b : Block) → block_bytes 4 b ≡ (front b ++ u8 (length b.ready_paths) ++ behind b) ++ paths_of b
before_paths_grouped b = grouped b ∙ simp append_assoc

front_length : (b : Block) → length (front b) ≡ 7
front_length b =
    omega (
      arith,
      length-append (u16 BL ++ u32 b.id.0) (u8 (length b.predecessors)),
      length-append (u16 BL) (u32 b.id.0),
      number_length 2 BL,
      number_length 4 b.id.0,
      number_length 1 (length b.predecessors),
    )

module _ (s : List ℕ) (at : ℕ) {b : Block} {next : ℕ} (read : read_block 4 s at ≡ got b next) (bytes : All (λ x. x < 256) s) {head : BlockHead} {ids_at : ℕ}
    (headed : read_block_head s at ≡ got head ids_at) {reads_at : ℕ} (past : passed (read_many head.predecessors read_block_id s ids_at) ≡ got tt reads_at)
    {paths_at : ℕ} (past_reads : passed (read_many head.raw (read_raw_read 4) s reads_at) ≡ got tt paths_at) where
  paths_read : read_many head.assumed (read_path 4 PA) s paths_at ≡ got b.ready_paths next
  paths_read = paths_there s at b next read headed past past_reads

  stands : Stand s at (front b ++ (u8 (length b.ready_paths) ++ (behind b ++ paths_of b))) next
  stands = subst (λ l. Stand s at l next) (grouped b) (block_written s bytes 4 at read)

  -- from the count of raw reads on
  rest_stands : Stand s (at + 7 + 1) (behind b ++ paths_of b) next
  rest_stands =
      let one = number_length 1 (length b.ready_paths) in
      let seven = front_length b in
      let place : at + length (front b) + length (u8 (length b.ready_paths)) ≡ at + 7 + 1 = omega arith in
      subst (λ n. Stand s n (behind b ++ paths_of b) next) place
      (stand_rest (u8 (length b.ready_paths)) (behind b ++ paths_of b) (stand_rest (front b) (u8 (length b.ready_paths) ++ (behind b ++ paths_of b)) stands))

  behind_stands : Stand s (at + 7 + 1) (behind b) paths_at
  behind_stands =
      let paths = (paths_written s bytes 4 PA head.assumed paths_at paths_read).place in
      let rest = rest_stands.place in
      let sizes = length-append (behind b) (paths_of b) in
      let place : at + 7 + 1 + length (behind b) ≡ paths_at = omega arith in
      subst (Stand s (at + 7 + 1) (behind b)) place (stand_first (behind b) (paths_of b) rest_stands)

  -- where the parts stand
  pub places : (at + 8 ≤ paths_at) × (paths_at ≤ next) × (next ≤ length s)
  places =
      let p = behind_stands.place in
      let onward = paths_onward s PA head.assumed paths_at paths_read in
      let size = length-append (front b) (u8 (length b.ready_paths) ++ (behind b ++ paths_of b)) in
      let seven = front_length b in
      (omega arith, onward, stand_within stands (omega arith))

  first_bytes : slice at (at + 7) s ≡ front b
  first_bytes = stand_slice (subst (Stand s at (front b)) (ap (λ n. at + n) (front_length b)) (stand_first (front b) _ stands))

  -- the paths are written from the writer u on, behind the place of what stands before them, to v,
  -- and that from v's buffer at u's place
  pub block_thinned : {u v z : Writer} {r : PathsDone} → Recountable s at (at + 7) 1 paths_at (moved v u.at)
      → ThinsPaths s PA paths_at head.assumed (moved u (u.at + (paths_at - at))) v r
      → Puts (moved v u.at) z (paths_at - at) (recounted s at (at + 7) 1 r.kept paths_at)
      → PartThinned (block_bytes 4 (thinned_block b)) at next u (moved z v.at) r.from
  block_thinned {r = r} fits thins put =
      let t = thins.is b.ready_paths next paths_read in
      let kept = thinned_paths b.ready_paths in
      let whole : recounted s at (at + 7) 1 r.kept paths_at ≡ front b ++ u8 (length kept) ++ behind b =
      ap (λ l. l ++ number_bytes 1 r.kept ++ slice (at + 7 + 1) paths_at s) first_bytes
      ∙ ap (λ n. front b ++ number_bytes 1 n ++ slice (at + 7 + 1) paths_at s) t.kept
      ∙ ap (λ l. front b ++ u8 (length kept) ++ l) (stand_slice behind_stands) in
      record {
        puts = puts_own (puts_as (ap (λ l. l ++ concat_map (path_bytes 4 PA) kept) whole ∙ sym (before_paths_grouped (thinned_block b)))
            (puts_before t.puts put));
        from = t.from;
        near = (let near = t.near in let low = places.0 in omega arith);
      }

-- What the calls ask for.
module _ {s : List ℕ} {at : ℕ} {w : Writer} (x : BlockThere s at w) (bytes : All (λ b. b < 256) s) {head : BlockHead} {ids_at : ℕ}
    (headed : read_block_head s at ≡ got head ids_at) {reads_at : ℕ} (past : passed (read_many head.predecessors read_block_id s ids_at) ≡ got tt reads_at)
    {paths_at : ℕ} (past_reads : passed (read_many head.raw (read_raw_read 4) s reads_at) ≡ got tt paths_at) where
  pub paths_wanted : PathsThere s PA paths_at head.assumed (moved w (w.at + (paths_at - at)))
  paths_wanted =
      let p = places s at x.read bytes headed past past_reads in
      let low = p.0 in
      let high = p.1 in
      let room = x.room in
      record {
        paths = x.block.ready_paths;
        end = x.next;
        reads = paths_there s at x.block x.next x.read headed past past_reads;
        short = x.short;
        room = omega arith;
      }

  pub before_paths : (at + 8 ≤ paths_at) × (paths_at ≤ 32768) × HasRoom w (paths_at - at)
  before_paths =
      let p = places s at x.read bytes headed past past_reads in
      let low = p.0 in
      let high = p.1 in
      let room = x.room in
      let short = x.short in
      (low, omega arith, omega arith)

  pub count_wanted : {v : Writer} {r : PathsDone} → ThinsPaths s PA paths_at head.assumed (moved w (w.at + (paths_at - at))) v r
      → Recountable s at (at + 7) 1 paths_at (moved v w.at)
  count_wanted thins =
      let t = thins.is x.block.ready_paths x.next (paths_there s at x.block x.next x.read headed past past_reads) in
      let p = places s at x.read bytes headed past past_reads in
      let low = p.0 in
      let high = p.1 in
      let within = p.2 in
      let room = x.room in
      let long = t.puts.long in
      record { begins = omega arith; ends = omega arith; within = omega arith; room = omega arith }

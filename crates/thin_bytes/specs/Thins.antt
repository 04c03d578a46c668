-- What the thin writer finds in a job that was read, and what it leaves in the buffer.
use Rattle.std.specs.Prelude.{ℕ, ◌+◌, ◌-◌, ◌≤◌, ◌<◌, ◌≡◌, Bool, cond, List, [], ◌++◌, map, length}
use Rattle.std.proofs.Math.Seq.{slice}
use Rattle.entries.specs.declared.DependencyPathEntry.{DependencyPathEntry}
use Rattle.entries.specs.Path.{ReactiveScopeDependency, are_equal_paths}
use Rattle.model.specs.Lists.{any_of, concat_map}
use Rattle.model.specs.ReadingBytes.{got, read_many}
use Rattle.model.specs.Job.{HD, Block, Job, read_entry, read_path, read_block, read_job}
use Rattle.model.specs.JobBytes.{block_bytes, job_bytes}
use Rattle.model.specs.Answer.{span_width, longest_job, number_bytes, path_bytes}
use Rattle.model.specs.Thin.{same_path, thinned_paths, thinned_block, thinned, least_thin_buffer}
use Rattle.writer.specs.declared.Writer.{Writer}
use Rattle.writer.specs.Writes.{Writes, HasRoom, Puts}
use Rattle.job.specs.Head.{path_of}
use Rattle.job.specs.Kept.{head_of}
use Rattle.job.specs.declared.PathHead.{PathHead}
use Rattle.job.specs.declared.JobHead.{JobHead}
use Rattle.thin_bytes.specs.declared.PathsDone.{PathsDone}

-- The entries that are read from two places on are equal, or not.
pub record SameEntries (s : List ℕ) (a b count : ℕ) (r : Bool) : Type 0 where
  pub is : (es fs : List DependencyPathEntry) (m n : ℕ) → read_many count (read_entry span_width) s a ≡ got es m
      → read_many count (read_entry span_width) s b ≡ got fs n → r ≡ are_equal_paths es fs

-- The paths of two heads, whose entries are read from two places on, are the same, or not.
pub record SamePaths (s : List ℕ) (a : PathHead) (a_at : ℕ) (b : PathHead) (b_at : ℕ) (r : Bool) : Type 0 where
  pub is : (es fs : List DependencyPathEntry) (m n : ℕ) → read_many a.entries (read_entry span_width) s a_at ≡ got es m
      → read_many b.entries (read_entry span_width) s b_at ≡ got fs n → r ≡ same_path (path_of a es) (path_of b fs)

-- A path stands behind earlier ones of its list, under one mark.
pub record PathBehind (s : List ℕ) (first earlier at : ℕ) : Type 0 where
  pub mark : ℕ
  pub before : List ReactiveScopeDependency
  pub reads : read_many earlier (read_path span_width mark) s first ≡ got before at
  pub path : ReactiveScopeDependency
  pub next : ℕ
  pub read : read_path span_width mark s at ≡ got path next
  pub short : next ≤ longest_job

-- Whether one of the earlier paths equals it.
pub record Repeats (s : List ℕ) (first earlier at : ℕ) (r : Bool) : Type 0 where
  pub is : (x : PathBehind s first earlier at) → r ≡ any_of (same_path x.path) x.before

-- A path stands behind earlier ones of its list, at the place up to which they are done, and has
-- its room in the buffer.
pub record PathNext (s : List ℕ) (first earlier mark : ℕ) (w : Writer) (done : PathsDone) : Type 0 where
  pub before : List ReactiveScopeDependency
  pub reads : read_many earlier (read_path span_width mark) s first ≡ got before done.from
  pub path : ReactiveScopeDependency
  pub next : ℕ
  pub read : read_path span_width mark s done.from ≡ got path next
  pub short : next ≤ longest_job
  pub room : HasRoom w (next - done.from)
  pub few : done.kept < 65535

-- What is written of a path, and what is counted: nothing where it is a repeat, else its record.
pub record PathThinned (mark : ℕ) (repeat : Bool) (d : ReactiveScopeDependency) (next : ℕ) (before after : Writer) (done r : PathsDone)
    : Type 0 where
  pub puts : Puts before after (length (cond repeat [] (path_bytes span_width mark d))) (cond repeat [] (path_bytes span_width mark d))
  pub from : r.from ≡ next
  pub kept : r.kept ≡ done.kept + cond repeat 0 1
  pub near : after.at ≤ before.at + (next - done.from)

-- The same of the path that is read there.
pub record ThinsPath (s : List ℕ) (first earlier mark : ℕ) (before after : Writer) (done r : PathsDone) : Type 0 where
  pub is : (ds : List ReactiveScopeDependency) (d : ReactiveScopeDependency) (next : ℕ)
      → read_many earlier (read_path span_width mark) s first ≡ got ds done.from → read_path span_width mark s done.from ≡ got d next
      → PathThinned mark (any_of (same_path d) ds) d next before after done r

-- So many paths under a mark are read from a place on, and what is written of them has its room.
pub record PathsThere (s : List ℕ) (mark first count : ℕ) (w : Writer) : Type 0 where
  pub paths : List ReactiveScopeDependency
  pub end : ℕ
  pub reads : read_many count (read_path span_width mark) s first ≡ got paths end
  pub short : end ≤ longest_job
  pub room : HasRoom w (end - first)

-- The paths that stay are written, one after the other, in no more bytes than all of them have.
pub record PathsThinned (mark first : ℕ) (ds : List ReactiveScopeDependency) (end : ℕ) (before after : Writer) (r : PathsDone)
    : Type 0 where
  pub puts : Puts before after (length (concat_map (path_bytes span_width mark) (thinned_paths ds)))
      (concat_map (path_bytes span_width mark) (thinned_paths ds))
  pub from : r.from ≡ end
  pub kept : r.kept ≡ length (thinned_paths ds)
  pub near : after.at + first ≤ before.at + end

-- The same of those that are read from a place on.
pub record ThinsPaths (s : List ℕ) (mark first count : ℕ) (before after : Writer) (r : PathsDone) : Type 0 where
  pub is : (ds : List ReactiveScopeDependency) (end : ℕ) → read_many count (read_path span_width mark) s first ≡ got ds end
      → PathsThinned mark first ds end before after r

-- A count stands among bytes of the list, and these have their room in the buffer.
pub record Recountable (s : List ℕ) (from count_at bytes until : ℕ) (w : Writer) : Type 0 where
  pub begins : from ≤ count_at
  pub ends : count_at + bytes ≤ until
  pub within : until ≤ length s
  pub room : HasRoom w (until - from)

-- These bytes with another count.
abbrev pub recounted : List ℕ → ℕ → ℕ → ℕ → ℕ → ℕ → List ℕ
recounted s from count_at bytes count until = slice from count_at s ++ number_bytes bytes count ++ slice (count_at + bytes) until s

-- So many blocks are read from a place on, and what is written of them has its room.
pub record BlocksThere (s : List ℕ) (first count : ℕ) (w : Writer) : Type 0 where
  pub blocks : List Block
  pub end : ℕ
  pub reads : read_many count (read_block span_width) s first ≡ got blocks end
  pub short : end ≤ longest_job
  pub room : HasRoom w (end - first)

-- The same of one block.
pub record BlockThere (s : List ℕ) (at : ℕ) (w : Writer) : Type 0 where
  pub block : Block
  pub next : ℕ
  pub read : read_block span_width s at ≡ got block next
  pub short : next ≤ longest_job
  pub room : HasRoom w (next - at)

-- These bytes are written for a part of the job that starts and ends at two places, and are no more
-- than it has; r is the place of its end.
pub record PartThinned (bytes : List ℕ) (first end : ℕ) (before after : Writer) (r : ℕ) : Type 0 where
  pub puts : Puts before after (length bytes) bytes
  pub from : r ≡ end
  pub near : after.at + first ≤ before.at + end

-- The block is written with its raw reads and the ready paths that stay.
pub record ThinsBlock (s : List ℕ) (at : ℕ) (before after : Writer) (r : ℕ) : Type 0 where
  pub is : (b : Block) (next : ℕ) → read_block span_width s at ≡ got b next
      → PartThinned (block_bytes span_width (thinned_block b)) at next before after r

-- And the blocks, one after the other.
pub record ThinsBlocks (s : List ℕ) (first count : ℕ) (before after : Writer) (r : ℕ) : Type 0 where
  pub is : (bs : List Block) (end : ℕ) → read_many count (read_block span_width) s first ≡ got bs end
      → PartThinned (concat_map (block_bytes span_width) (map thinned_block bs)) first end before after r

-- A job that was read, of which this is kept, and a buffer that is long enough for it.
pub record JobThere (s : List ℕ) (head : JobHead) (out : List ℕ) : Type 0 where
  pub job : Job
  pub end : ℕ
  pub reads : read_job HD span_width s ≡ got job end
  pub keeps : head ≡ head_of s job
  pub short : length s ≤ longest_job
  pub room : least_thin_buffer ≤ length out

-- The thin job stands in the buffer from its start on, and is no longer than the job.
pub record ThinsJob (s before after : List ℕ) (n : ℕ) : Type 0 where
  pub is : (j : Job) (end : ℕ) → read_job HD span_width s ≡ got j end
      → Writes before after 0 (job_bytes HD span_width (thinned j)) n × (n ≤ length s)

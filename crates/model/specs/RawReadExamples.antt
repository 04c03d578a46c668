-- Raw reads, computed: which paths are kept, what is entered and in which order, what the thin
-- writer does with them, and at which field 10 is met.
use Rattle.std.specs.Prelude.{ℕ, ◌≡◌, refl, Bool, true, false, List, [], ◌∷◌, ◌++◌, map, take, drop}
use Rattle.entries.specs.declared.Refusal.TheVariants.{MissingByte, WrongMark, OutOfRange, LargestStart}
use Rattle.entries.specs.Path.{ReactiveScopeDependency}
use Rattle.model.specs.Registry.{PropertyPathNode}
use Rattle.model.specs.Sets.{NodeSet}
use Rattle.model.specs.ReadingBytes.{Read, got, refused}
use Rattle.model.specs.RawReads.{RawRead, is_immutable_at_instr}
use Rattle.model.specs.Job.{Block, Job, assumed_of, HD, read_job}
use Rattle.model.specs.Stage.{enter_blocks, start_of}
use Rattle.model.specs.Answer.{span_width, answer_of, sheet_of, answer_program, sheet_program}
use Rattle.model.specs.Strict.{strict_answer_of, strict_sheet_of, strict_answer_program, strict_sheet_program}
use Rattle.model.specs.Thin.{thinned, thin_program}
use Rattle.model.specs.Examples.{path_of, one, plain}

-- a read at an instruction of a path whose identifier has the mutable range, and a scope with the
-- range, that are given; it is not known to be immutable
abbrev scoped : ℕ → ℕ → ℕ → ℕ → ℕ → ReactiveScopeDependency → RawRead
scoped instruction range_start range_end scope_start scope_end d = record {
  instruction = instruction;
  range_start = range_start;
  range_end = range_end;
  has_scope = true;
  scope_start = scope_start;
  scope_end = scope_end;
  known_immutable = false;
  path = d;
}

-- the same without a scope; the same of an identifier that is known to be immutable
abbrev unscoped : RawRead → RawRead
unscoped r = record {
  instruction = r.instruction;
  range_start = r.range_start;
  range_end = r.range_end;
  has_scope = false;
  scope_start = r.scope_start;
  scope_end = r.scope_end;
  known_immutable = r.known_immutable;
  path = r.path;
}

abbrev immutable : RawRead → RawRead
immutable r = record {
  instruction = r.instruction;
  range_start = r.range_start;
  range_end = r.range_end;
  has_scope = r.has_scope;
  scope_start = r.scope_start;
  scope_end = r.scope_end;
  known_immutable = true;
  path = r.path;
}

-- which reads are kept
abbrev kept : List RawRead → List Bool
kept rs = map is_immutable_at_instr rs

-- Range (2, 4), scope 5 to 9: dropped at 5 and 8, kept at 4 and 9. The instruction is in the
-- scope's range from its start on, and not at its end.
pub in_the_scope :
    kept (scoped 4 2 4 5 9 (one []) ∷ scoped 5 2 4 5 9 (one []) ∷ scoped 8 2 4 5 9 (one []) ∷ scoped 9 2 4 5 9 (one []) ∷ [])
    ≡ true ∷ false ∷ false ∷ true ∷ []
in_the_scope = refl

-- At instruction 5 of scope 5 to 9: ranges (2, 2) and (2, 3) are kept, (2, 4) is not. The end has
-- to be greater than the start + 1.
pub range_of_one :
    kept (scoped 5 2 2 5 9 (one []) ∷ scoped 5 2 3 5 9 (one []) ∷ scoped 5 2 4 5 9 (one []) ∷ []) ≡ true ∷ true ∷ false ∷ []
range_of_one = refl

-- What is dropped with a scope is kept without one, and where it is known to be immutable.
pub scope_and_known :
    kept (scoped 5 2 4 5 9 (one []) ∷ unscoped (scoped 5 2 4 5 9 (one [])) ∷ immutable (scoped 5 2 4 5 9 (one [])) ∷ [])
    ≡ false ∷ true ∷ true ∷ []
scope_and_known = refl

-- The greatest start that is accepted, with the greatest end: start + 1 is not passed.
pub greatest_accepted : is_immutable_at_instr (scoped 5 4294967294 4294967295 5 9 (one [])) ≡ true
greatest_accepted = refl

-- Entering.

-- a block with its raw reads and its ready paths
abbrev block_of : ℕ → List RawRead → List ReactiveScopeDependency → Block
block_of id reads paths = record { id = record { 0 = id }; predecessors = []; raw_reads = reads; ready_paths = paths }

-- identifier 5: not reactive with span 8, and reactive with span 9
abbrev first : ReactiveScopeDependency
first = path_of 5 false 8 []

abbrev second : ReactiveScopeDependency
second = path_of 5 true 9 []

-- 5 is read with span 8 where it is mutable, then with span 9 where it is not; 1 is kept before it,
-- and 1.10 is a ready path. "A path that is not kept enters no registry; kept ones are entered in
-- their place, before the block's PA paths".
abbrev mixed : Block
mixed = block_of 7 (scoped 5 2 4 5 9 first ∷ scoped 9 2 4 5 9 (one []) ∷ scoped 5 2 3 5 9 second ∷ []) (one (plain 10 ∷ []) ∷ [])

-- a later block, in which 6 is kept and nothing is ready
abbrev later : Block
later = block_of 8 (scoped 5 2 3 5 9 (path_of 6 true 4 []) ∷ scoped 5 2 4 5 9 (path_of 9 true 4 []) ∷ []) []

pub kept_first : assumed_of mixed ≡ one [] ∷ second ∷ one (plain 10 ∷ []) ∷ []
kept_first = refl

-- The nodes are 1, 5 with the span and the reactive of the second read, 1.10, and then that of the
-- later block, 6. There is none of 9.
pub nodes_entered :
    map (λ (n : PropertyPathNode). n.full_path) (start_of (mixed ∷ later ∷ [])).registry
    ≡ one [] ∷ second ∷ one (plain 10 ∷ []) ∷ path_of 6 true 4 [] ∷ []
unfolding enter_blocks
nodes_entered = refl

-- And the sets are those of what is kept and what is ready.
abbrev nodes : List ℕ → NodeSet
nodes ks = map (λ k. record { 0 = k }) ks

pub sets_entered : (start_of (mixed ∷ later ∷ [])).sets ≡ nodes (0 ∷ 1 ∷ 2 ∷ []) ∷ nodes (3 ∷ []) ∷ []
unfolding enter_blocks
sets_entered = refl

-- all are dropped: the block assumes nothing
pub none_kept : assumed_of (block_of 7 (scoped 5 2 4 5 9 first ∷ scoped 8 2 4 5 9 second ∷ []) []) ≡ []
none_kept = refl

-- Thin jobs.

-- "Thinning a block compares its PA records alone and copies its RD records unchanged": 5 is read
-- three times, where it is kept, where it is not, and where it is kept again, and is ready twice,
-- of which the first stays.
abbrev read_often : List RawRead
read_often = scoped 5 2 3 5 9 first ∷ scoped 5 2 4 5 9 first ∷ scoped 5 2 3 5 9 first ∷ []

pub reads_copied :
    thinned (record { scope = record { 0 = 7 }; blocks = block_of 7 read_often (first ∷ first ∷ []) ∷ []; candidates = [] })
    ≡ record { scope = record { 0 = 7 }; blocks = block_of 7 read_often (first ∷ []) ∷ []; candidates = [] }
unfolding thinned
reads_copied = refl

-- Bytes.

-- HD of one block, 7, and no candidate; BL with one ready path and one raw read; RD up to its range
-- start
abbrev front : List ℕ
front =
    0x48 ∷ 0x44 ∷ 1 ∷ 0 ∷ 0 ∷ 0 ∷ 7 ∷ 0 ∷ 0 ∷ 0 ∷
    0x42 ∷ 0x4C ∷ 7 ∷ 0 ∷ 0 ∷ 0 ∷ 0 ∷ 1 ∷ 1 ∷
    0x52 ∷ 0x44 ∷ 3 ∷ 0 ∷ 0 ∷ 0 ∷ []

-- a range start of 4,294,967,294, and the one that is refused
abbrev greatest : List ℕ
greatest = 254 ∷ 255 ∷ 255 ∷ 255 ∷ []

abbrev refused_start : List ℕ
refused_start = 255 ∷ 255 ∷ 255 ∷ 255 ∷ []

-- the fields behind it: range end 2, a scope from 0 to 9, known-immutable 0; identifier 5,
-- reactive, span 9, no entry; and PA with identifier 5, not reactive, span 8, no entry
abbrev behind : List ℕ
behind =
    2 ∷ 0 ∷ 0 ∷ 0 ∷ 1 ∷ 0 ∷ 0 ∷ 0 ∷ 0 ∷ 9 ∷ 0 ∷ 0 ∷ 0 ∷ 0 ∷ 5 ∷ 0 ∷ 0 ∷ 0 ∷ 1 ∷ 9 ∷ 0 ∷ 0 ∷ 0 ∷ 0 ∷
    0x50 ∷ 0x41 ∷ 5 ∷ 0 ∷ 0 ∷ 0 ∷ 0 ∷ 8 ∷ 0 ∷ 0 ∷ 0 ∷ 0 ∷ []

abbrev as_job : List ℕ → Read Job
as_job = read_job HD span_width

-- The raw read stands before the ready path, and its fields in their order.
pub start_read :
    as_job (front ++ (greatest ++ behind))
    ≡ got (record {
      scope = record { 0 = 7 };
      blocks = block_of 7 (scoped 3 4294967294 2 0 9 second ∷ []) (first ∷ []) ∷ [];
      candidates = [];
    }) 65
unfolding read_job
start_read = refl

-- "Field by field with 3 to 5, after 5": a job that ends within a range start is refused by 3, and
-- one that ends right behind a start of 4,294,967,295 by 10, whatever else is missing.
pub start_cut : as_job (front ++ (255 ∷ 255 ∷ 255 ∷ [])) ≡ refused MissingByte
unfolding read_job
start_cut = refl

pub start_largest : as_job (front ++ refused_start) ≡ refused LargestStart
unfolding read_job
start_largest = refl

-- What is wrong behind it is not looked at: a has-scope of 2, and a byte behind the last record.
pub start_before_flag : as_job (front ++ (refused_start ++ (2 ∷ 0 ∷ 0 ∷ 0 ∷ 2 ∷ []))) ≡ refused LargestStart
unfolding read_job
start_before_flag = refl

pub start_before_extra : as_job (front ++ (refused_start ++ (behind ++ (0 ∷ [])))) ≡ refused LargestStart
unfolding read_job
start_before_extra = refl

-- What is wrong before it counts: PA stands where RD is due, and 65 predecessors.
pub mark_before_start : as_job (take 19 front ++ (0x50 ∷ 0x41 ∷ 3 ∷ 0 ∷ 0 ∷ 0 ∷ refused_start ++ behind)) ≡ refused WrongMark
unfolding read_job
mark_before_start = refl

pub count_before_start : as_job (take 16 front ++ (65 ∷ drop 17 front ++ (refused_start ++ behind))) ≡ refused OutOfRange
unfolding read_job
count_before_start = refl

-- 10 comes before 7 and 8: with this start the scope block may be no block, and two blocks may have
-- one id.
pub start_before_unknown : as_job (take 6 front ++ (8 ∷ drop 7 front ++ (refused_start ++ behind))) ≡ refused LargestStart
unfolding read_job
start_before_unknown = refl

pub start_before_repeated :
    as_job (take 2 front ++ (2 ∷ drop 3 (take 10 front)
    ++ (0x42 ∷ 0x4C ∷ 7 ∷ 0 ∷ 0 ∷ 0 ∷ 0 ∷ 0 ∷ 0 ∷ drop 10 front ++ (refused_start ++ behind))))
    ≡ refused LargestStart
unfolding read_job
start_before_repeated = refl

-- All programs write RF and 10.
abbrev ten_written : List ℕ
ten_written = 0x52 ∷ 0x46 ∷ 10 ∷ []

pub answer_writes_ten : answer_program (front ++ refused_start) ≡ ten_written
unfolding answer_program answer_of
answer_writes_ten = refl

pub sheet_writes_ten : sheet_program (front ++ refused_start) ≡ ten_written
unfolding sheet_program sheet_of
sheet_writes_ten = refl

pub strict_answer_writes_ten : strict_answer_program (front ++ refused_start) ≡ ten_written
unfolding strict_answer_program strict_answer_of
strict_answer_writes_ten = refl

pub strict_sheet_writes_ten : strict_sheet_program (front ++ refused_start) ≡ ten_written
unfolding strict_sheet_program strict_sheet_of
strict_sheet_writes_ten = refl

pub thin_writes_ten : thin_program (front ++ refused_start) ≡ ten_written
unfolding thin_program
thin_writes_ten = refl

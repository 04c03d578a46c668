-- The numbers of a job that was read from bytes fit their widths, and so do those of the paths that
-- it returns.
use Prim.Native.Nat.{ℕ, zero, suc, ◌+◌, ◌*◌, ◌^◌, ◌≤◌, ◌<◌}
use Rattle.std.proofs.Common.{le_trans, pow-suc, ap, inl, inr}
use native.Mathlib.Omega.{arith}
use Rattle.std.specs.Prelude.{◌≡◌, refl, Bool, true, false, ◌&&◌, ◌||◌, List, [], ◌∷◌, map, length, eqb, ltb}
use Rattle.std.proofs.Math.Option.{Option}
use Rattle.std.proofs.Math.Dec.{leb, leb→le}
use Rattle.entries.specs.declared.DependencyPathEntry.{DependencyPathEntry}
use Rattle.entries.specs.Path.{ReactiveScopeDependency, same_property, prefix_of_names, prefix_of}
use Rattle.model.specs.Lists.{any_of}
use Rattle.model.specs.RoundsLaws.{rounds_most}
use Rattle.model.specs.Reduction.{reduce_maybe_optional_chains}
use Rattle.model.specs.Propagation.{JoiningRule, has_changed, round_start, round, propagate_with, propagate_non_null}
use Rattle.model.specs.Stage.{graph_of, start_of, propagated}
use Rattle.model.specs.Tests.{by_cond, never, test_passes, eqb-false, and_first, and_second}
use Rattle.model.specs.ListLaws.{All, all_map, all_both, all_get_or}
use Rattle.model.specs.ReadingBytes.{
  Read,
  got,
  refused,
  ByteReader,
  and_then,
  mapped,
  read_many,
  read_byte,
  read_number,
  read_u8,
  read_u16,
  read_mark,
  read_within,
  read_flag,
}
use Rattle.entries.specs.Property.{property_of, value_of}
use Rattle.model.specs.Job.{
  read_entry,
  read_path_fields,
  read_path,
  largest_start,
  read_range_start,
  read_raw_read,
  read_block,
  Header,
  read_header,
  Job,
  read_records,
  has_repeat,
  has_unknown,
  accept_ids,
  BL,
  PA,
  RD,
  CA,
  block_id,
  read_block_id,
  read_job,
}
use Rattle.model.specs.Forest.{Key, identifier_key, property_key, empty, Found, child_by_key, firsts}
use Rattle.model.specs.Tree.{
  HoistablePosition,
  hoistable_key,
  hoistable_tree,
  DependencyPosition,
  dependency_key,
  is_dependency,
  merge_position,
  at_non_null,
  step_access,
  step_to,
  walk_entries,
  root_position,
  walk_candidate,
  dependency_tree,
  key_identifier,
  key_property,
  entry_of,
  last_span,
  dependency_of,
  derive_minimal_dependencies,
}
use Rattle.laws.specs.Membership.{Some, any_some, all_of_map}
use Rattle.laws.specs.CountLaws.{no_more}
use Rattle.laws.specs.ForestLaws.{WayAlong, firsts_along, along_add_all}
use Rattle.laws.specs.TreeLaws.{returned_one, returned_some}
use Rattle.laws.specs.ReadBack.{EntryFits, PathFits}
use Rattle.laws.specs.JobBack.{IdFits, RawReadFits, BlockFits, JobFits}

-- What holds of the value and of the place after it, where a value is read.
abbrev pub HoldsAfter : {A : Type 0} → (A → ℕ → Type 0) → Read A → Type 0
HoldsAfter P (got a next) = P a next
HoldsAfter P (refused r) = Unit {0}

pub after_then : {A B : Type 0} (P : A → ℕ → Type 0) (Q : B → ℕ → Type 0) (x : Read A) (k : A → ℕ → Read B) → HoldsAfter P x →
    ((a : A) (next : ℕ) → P a next → HoldsAfter Q (k a next)) → HoldsAfter Q (and_then x k)
after_then P Q (got a next) k h f = f a next h
after_then P Q (refused r) k h f = tt

pub after_mapped : {A B : Type 0} (P : A → ℕ → Type 0) (Q : B → ℕ → Type 0) (f : A → B) (x : Read A) → HoldsAfter P x →
    ((a : A) (next : ℕ) → P a next → Q (f a) next) → HoldsAfter Q (mapped f x)
after_mapped P Q f (got a next) h g = g a next h
after_mapped P Q f (refused r) h g = tt

pub after_all : {A : Type 0} (P Q : A → ℕ → Type 0) (x : Read A) → HoldsAfter P x → ((a : A) (next : ℕ) → P a next → Q a next)
    → HoldsAfter Q x
after_all P Q (got a next) h f = f a next h
after_all P Q (refused r) h f = tt

pub after_got : {A : Type 0} (P : A → ℕ → Type 0) {x : Read A} {a : A} {next : ℕ} → HoldsAfter P x → x ≡ got a next → P a next
after_got P h e = rw e at h

-- What holds of the value.
abbrev pub HoldsIfRead : {A : Type 0} → (A → Type 0) → Read A → Type 0
HoldsIfRead P x = HoldsAfter (λ a next. P a) x

pub holds_then : {A B : Type 0} (P : A → Type 0) (Q : B → Type 0) (x : Read A) (k : A → ℕ → Read B) → HoldsIfRead P x →
    ((a : A) (next : ℕ) → P a → HoldsIfRead Q (k a next)) → HoldsIfRead Q (and_then x k)
holds_then P Q = after_then (λ a next. P a) (λ b next. Q b)

holds_mapped : {A B : Type 0} (P : A → Type 0) (Q : B → Type 0) (f : A → B) (x : Read A) → HoldsIfRead P x →
    ((a : A) → P a → Q (f a)) → HoldsIfRead Q (mapped f x)
holds_mapped P Q f x h g = after_mapped (λ a next. P a) (λ b next. Q b) f x h (λ a next. g a)

holds_weaker : {A : Type 0} (P Q : A → Type 0) (x : Read A) → HoldsIfRead P x → ((a : A) → P a → Q a) → HoldsIfRead Q x
holds_weaker P Q x h f = after_all (λ a next. P a) (λ a next. Q a) x h (λ a next. f a)

pub holds_got : {A : Type 0} (P : A → Type 0) {x : Read A} {a : A} {next : ℕ} → x ≡ got a next → HoldsIfRead P x → P a
holds_got P e h = rw e at h

pub any_value : {A : Type 0} (x : Read A) → HoldsIfRead (λ a. Unit {0}) x
any_value (got a next) = tt
any_value (refused r) = tt

-- many values, as many as asked for
many_holds : {A : Type 0} (P : A → Type 0) (read : ByteReader A) (s : List ℕ) → ((at : ℕ) → HoldsIfRead P (read s at)) → (n at : ℕ)
    → HoldsIfRead (λ xs. (length xs ≡ n) × All P xs) (read_many n read s at)
many_holds P read s h zero at = (refl, tt)
many_holds P read s h (suc n) at =
    holds_then P (λ xs. (length xs ≡ suc n) × All P xs) (read s at)
    (λ first next. mapped (λ rest. first ∷ rest) (read_many n read s next)) (h at)
    (λ a next p. holds_mapped (λ xs. (length xs ≡ n) × All P xs) (λ xs. (length xs ≡ suc n) × All P xs) (λ rest. a ∷ rest)
    (read_many n read s next) (many_holds P read s h n next) (λ xs q. (ap suc q.0, (p, q.1))))

-- what the two tests of the ids let through
pub ids_let_through : (P : Job → ℕ → Type 0) (j : Job) (next : ℕ) → (has_repeat j ≡ false → has_unknown j ≡ false → P j next)
    → HoldsAfter P (accept_ids j next)
unfolding accept_ids
ids_let_through P j next f = by_cond (HoldsAfter P) (has_repeat j) (λ e. tt)
    (λ r. by_cond (HoldsAfter P) (has_unknown j) (λ e. tt) (λ u. f r u))

-- the numbers of a header
record HeaderFits (h : Header) : Type 0 where
  some : 1 ≤ h.blocks
  few : h.blocks ≤ 128
  few_candidates : h.candidates ≤ 64
  scope : IdFits h.scope

-- a job that refusals 3 to 8 and 10 let through
pub record Acceptable (span_bytes : ℕ) (j : Job) : Type 0 where
  pub fits : JobFits span_bytes j
  pub no_repeat : has_repeat j ≡ false
  pub no_unknown : has_unknown j ≡ false

-- Fields.

module _ (s : List ℕ) (bytes : All (λ b. b < 256) s) where
  byte_fits : (at : ℕ) → HoldsIfRead (λ x. x < 256) (read_byte s at)
  unfolding read_byte
  byte_fits at = by_cond (HoldsIfRead (λ x. x < 256)) (ltb at (length s)) (λ e. all_get_or (λ b. b < 256) s at 0 bytes (omega arith))
      (λ e. tt)

  number_fits : (n at : ℕ) → HoldsIfRead (λ x. x < 256 ^ n) (read_number n s at)
  unfolding read_number
  number_fits zero at = omega arith
  number_fits (suc n) at =
      holds_then (λ x. x < 256) (λ x. x < 256 ^ suc n) (read_byte s at)
      (λ low next. mapped (λ high. low + 256 * high) (read_number n s next)) (byte_fits at)
      (λ low next l. holds_mapped (λ x. x < 256 ^ n) (λ x. x < 256 ^ suc n) (λ high. low + 256 * high) (read_number n s next)
      (number_fits n next)
      (λ high h. rw (pow-suc 256 n) (omega arith)))

  within_fits : (least most : ℕ) (read : ByteReader ℕ) (at : ℕ)
      → HoldsIfRead (λ x. (least ≤ x) × (x ≤ most)) (read_within least most read s at)
  unfolding read_within
  within_fits least most read at =
      holds_then (λ x. Unit {0}) _ (read s at) _ (any_value (read s at))
      (λ x next u. by_cond (HoldsIfRead (λ y. (least ≤ y) × (y ≤ most))) (leb least x && leb x most)
      (λ e. (
        leb→le least x (test_passes (and_first (leb least x) (leb x most) e)),
        leb→le x most (test_passes (and_second (leb least x) (leb x most) e)),
      )) (λ e. tt))

  id_fits : (at : ℕ) → HoldsIfRead IdFits (read_block_id s at)
  id_fits at = holds_mapped (λ x. x < 256 ^ 4) IdFits block_id (read_number 4 s at) (number_fits 4 at) (λ x h. h)

  -- Records.

  property_fits : (kind : Bool) (v : ℕ) → v < 256 ^ 8 → value_of (property_of kind v) < 256 ^ 8
  property_fits true v h = h
  property_fits false v h = h

  entry_fits : (w at : ℕ) → HoldsIfRead (EntryFits w) (read_entry w s at)
  unfolding read_entry
  entry_fits w at =
      holds_then (λ x. Unit {0}) (EntryFits w) (read_flag s at) _ (any_value (read_flag s at)) (λ optional kind_at _.
      holds_then (λ x. Unit {0}) (EntryFits w) (read_flag s kind_at) _ (any_value (read_flag s kind_at)) (λ kind value_at _.
      holds_then (λ x. x < 256 ^ 8) (EntryFits w) (read_number 8 s value_at) _ (number_fits 8 value_at) (λ value span_at v.
      holds_then (λ x. x < 256 ^ w) (EntryFits w) (read_number w s span_at) _ (number_fits w span_at) (λ span next h.
      record { value = property_fits kind value v; span = h }))))

  fields_fit : (w at : ℕ) → HoldsIfRead (PathFits w) (read_path_fields w s at)
  unfolding read_path_fields
  fields_fit w at =
      holds_then (λ x. x < 256 ^ 4) (PathFits w) (read_number 4 s at) _ (number_fits 4 at) (λ identifier reactive_at i.
      holds_then (λ x. Unit {0}) (PathFits w) (read_flag s reactive_at) _ (any_value (read_flag s reactive_at)) (λ reactive span_at _.
      holds_then (λ x. x < 256 ^ w) (PathFits w) (read_number w s span_at) _ (number_fits w span_at) (λ span count_at h.
      holds_then _ (PathFits w) (read_within 0 16 read_u8 s count_at) _ (within_fits 0 16 read_u8 count_at) (λ count entries_at c.
      holds_mapped (λ es. (length es ≡ count) × All (EntryFits w) es) (PathFits w)
      (λ entries. record { identifier = record { 0 = identifier }; reactive = reactive; path = entries; span = span })
      (read_many count (read_entry w) s entries_at) (many_holds (EntryFits w) (read_entry w) s (entry_fits w) count entries_at)
      (λ es e. record { identifier = i; span = h; few = rw e.0 c.1; entries = e.1 })))))

  pub path_fits : (w mark at : ℕ) → HoldsIfRead (PathFits w) (read_path w mark s at)
  unfolding read_path
  path_fits w mark at =
      holds_then (λ x. Unit {0}) (PathFits w) (read_mark mark s at) _ (any_value (read_mark mark s at))
      (λ _ fields_at _. fields_fit w fields_at)

  -- a number of four bytes that is not the largest is below it
  start_fits : (at : ℕ) → HoldsIfRead (λ x. x < largest_start) (read_range_start s at)
  unfolding read_range_start
  start_fits at =
      holds_then (λ x. x < 256 ^ 4) (λ x. x < largest_start) (read_number 4 s at) _ (number_fits 4 at)
      (λ x next l. by_cond (HoldsIfRead (λ y. y < largest_start)) (eqb x largest_start) (λ e. tt)
      (λ e. below x l (eqb-false x largest_start e)))
    where
      below : (x : ℕ) → x < 256 ^ 4 → (x ≡ largest_start → ⊥) → x < largest_start
      below x l other = omega arith

  raw_read_fits : (w at : ℕ) → HoldsIfRead (RawReadFits w) (read_raw_read w s at)
  unfolding read_raw_read
  raw_read_fits w at =
      holds_then (λ x. Unit {0}) (RawReadFits w) (read_mark RD s at) _ (any_value (read_mark RD s at)) (λ _ instruction_at _.
      holds_then (λ x. x < 256 ^ 4) (RawReadFits w) (read_number 4 s instruction_at) _ (number_fits 4 instruction_at)
      (λ instruction start_at i.
      holds_then (λ x. x < largest_start) (RawReadFits w) (read_range_start s start_at) _ (start_fits start_at) (λ start end_at a.
      holds_then (λ x. x < 256 ^ 4) (RawReadFits w) (read_number 4 s end_at) _ (number_fits 4 end_at) (λ end has_scope_at e.
      holds_then (λ x. Unit {0}) (RawReadFits w) (read_flag s has_scope_at) _ (any_value (read_flag s has_scope_at))
      (λ has_scope scope_start_at _.
      holds_then (λ x. x < 256 ^ 4) (RawReadFits w) (read_number 4 s scope_start_at) _ (number_fits 4 scope_start_at)
      (λ scope_start scope_end_at b.
      holds_then (λ x. x < 256 ^ 4) (RawReadFits w) (read_number 4 s scope_end_at) _ (number_fits 4 scope_end_at) (λ scope_end known_at c.
      holds_then (λ x. Unit {0}) (RawReadFits w) (read_flag s known_at) _ (any_value (read_flag s known_at)) (λ known fields_at _.
      holds_mapped (PathFits w) (RawReadFits w) _ (read_path_fields w s fields_at) (fields_fit w fields_at) (λ d p.
      record { instruction = i; range_start = a; range_end = e; scope_start = b; scope_end = c; path = p })))))))))

  block_fits : (w at : ℕ) → HoldsIfRead (BlockFits w) (read_block w s at)
  unfolding read_block
  block_fits w at =
      holds_then (λ x. Unit {0}) (BlockFits w) (read_mark BL s at) _ (any_value (read_mark BL s at)) (λ _ id_at _.
      holds_then IdFits (BlockFits w) (read_block_id s id_at) _ (id_fits id_at) (λ id count_at i.
      holds_then _ (BlockFits w) (read_within 0 64 read_u8 s count_at) _ (within_fits 0 64 read_u8 count_at) (λ count assumed_at c.
      holds_then (λ x. x < 256 ^ 1) (BlockFits w) (read_u8 s assumed_at) _ (number_fits 1 assumed_at) (λ assumed raw_at a.
      holds_then (λ x. x < 256 ^ 1) (BlockFits w) (read_u8 s raw_at) _ (number_fits 1 raw_at) (λ raw ids_at b.
      holds_then _ (BlockFits w) (read_many count read_block_id s ids_at) _
      (many_holds IdFits read_block_id s id_fits count ids_at) (λ ids reads_at p.
      holds_then _ (BlockFits w) (read_many raw (read_raw_read w) s reads_at) _
      (many_holds (RawReadFits w) (read_raw_read w) s (raw_read_fits w) raw reads_at) (λ reads paths_at r.
      holds_mapped _ (BlockFits w) _ (read_many assumed (read_path w PA) s paths_at)
      (many_holds (PathFits w) (read_path w PA) s (path_fits w PA) assumed paths_at) (λ paths d. record {
        id = i;
        few = rw p.0 c.1;
        predecessors = p.1;
        few_raw = rw r.0 (omega arith);
        raw = r.1;
        few_ready = rw d.0 (omega arith);
        ready = d.1;
      }))))))))

  header_fits : (mark at : ℕ) → HoldsIfRead HeaderFits (read_header mark s at)
  unfolding read_header
  header_fits mark at =
      holds_then (λ x. Unit {0}) HeaderFits (read_mark mark s at) _ (any_value (read_mark mark s at)) (λ _ blocks_at _.
      holds_then _ HeaderFits (read_within 1 128 read_u16 s blocks_at) _ (within_fits 1 128 read_u16 blocks_at) (λ blocks candidates_at b.
      holds_then _ HeaderFits (read_within 0 64 read_u16 s candidates_at) _ (within_fits 0 64 read_u16 candidates_at)
      (λ candidates scope_at c.
      holds_then IdFits HeaderFits (read_block_id s scope_at) _ (id_fits scope_at) (λ scope next i.
      record { some = b.0; few = b.1; few_candidates = c.1; scope = i }))))

  records_fit : (head w : ℕ) → HoldsIfRead (JobFits w) (read_records head w s)
  unfolding read_records
  records_fit head w =
      holds_then HeaderFits (JobFits w) (read_header head s 0) _ (header_fits head 0) (λ header blocks_at h.
      holds_then _ (JobFits w) (read_many header.blocks (read_block w) s blocks_at) _
      (many_holds (BlockFits w) (read_block w) s (block_fits w) header.blocks blocks_at) (λ blocks candidates_at b.
      holds_then _ (JobFits w) (read_many header.candidates (read_path w CA) s candidates_at) _
      (many_holds (PathFits w) (read_path w CA) s (path_fits w CA) header.candidates candidates_at) (λ candidates next c.
      by_cond (HoldsIfRead (JobFits w)) (eqb next (length s)) (λ e. record {
        scope = h.scope;
        some = rw b.0 h.some;
        few = rw b.0 h.few;
        blocks = b.1;
        few_candidates = rw c.0 h.few_candidates;
        candidates = c.1;
      }) (λ e. tt))))

  pub job_acceptable : (head w : ℕ) → HoldsIfRead (Acceptable w) (read_job head w s)
  unfolding read_job
  job_acceptable head w =
      holds_then (JobFits w) (Acceptable w) (read_records head w s) accept_ids (records_fit head w)
      (λ j next f. ids_let_through (λ j next. Acceptable w j) j next (λ r u. record { fits = f; no_repeat = r; no_unknown = u }))

  -- the candidates of a job, and how many there are
  abbrev CandidatesFit : ℕ → Job → Type 0
  CandidatesFit w j = (length j.candidates ≤ 64) × All (PathFits w) j.candidates

  pub job_fits : (head w : ℕ) → HoldsIfRead (CandidatesFit w) (read_job head w s)
  job_fits head w =
      holds_weaker (Acceptable w) (CandidatesFit w) (read_job head w s) (job_acceptable head w)
      (λ j a. (a.fits.few_candidates, a.fits.candidates))

-- The same of a job that was read.
module _ (head w : ℕ) (s : List ℕ) (bytes : All (λ b. b < 256) s) (j : Job) (end : ℕ) (reads : read_job head w s ≡ got j end) where
  pub read_acceptable : Acceptable w j
  read_acceptable = holds_got (Acceptable w) reads (job_acceptable s bytes head w)

  pub job_fits_whole : JobFits w j
  job_fits_whole = read_acceptable.fits

  pub job_no_repeat : has_repeat j ≡ false
  job_no_repeat = read_acceptable.no_repeat

  pub job_no_unknown : has_unknown j ≡ false
  job_no_unknown = read_acceptable.no_unknown

-- The positions of the dependency tree come from the candidates' walks.

abbrev KeyFits : Key → Type 0
KeyFits (identifier_key i) = i.0 < 256 ^ 4
KeyFits (property_key p) = value_of p < 256 ^ 8

record PositionFits (w : ℕ) (p : DependencyPosition) : Type 0 where
  key : KeyFits p.key
  span : p.span < 256 ^ w

-- nothing is asked of what stands before a position
abbrev Fit : ℕ → Unit {0} → DependencyPosition → Type 0
Fit w b p = PositionFits w p

abbrev same : Unit {0} → Key → Unit {0}
same b k = tt

walk_fits : (w : ℕ) (h : Option (Found HoistablePosition)) (p : DependencyPosition) (es : List DependencyPathEntry)
    → PositionFits w p → All (EntryFits w) es → WayAlong dependency_key same (Fit w) tt (walk_entries h p es)
unfolding walk_entries
walk_fits w h p [] f a = (record { key = f.key; span = f.span }, tt)
walk_fits w h p (e ∷ es) f a =
    by_cond (WayAlong dependency_key same (Fit w) tt) (at_non_null h || e.optional)
    (λ _. (
      f,
      walk_fits w (child_by_key hoistable_key h (property_key e.property)) (step_to e (step_access (at_non_null h))) es
          (record { key = a.0.value; span = a.0.span }) a.1,
    ))
    (λ _. (record { key = f.key; span = f.span }, tt))

property_fit : (k : Key) → KeyFits k → value_of (key_property k) < 256 ^ 8
property_fit (identifier_key i) h = omega arith
property_fit (property_key p) h = h

identifier_fit : (k : Key) → KeyFits k → (key_identifier k).0 < 256 ^ 4
identifier_fit (identifier_key i) h = h
identifier_fit (property_key p) h = omega arith

entries_fit : (w : ℕ) (ps : List DependencyPosition) → WayAlong dependency_key same (Fit w) tt ps → All (EntryFits w) (map entry_of ps)
entries_fit w [] h = tt
entries_fit w (p ∷ ps) h = (record { value = property_fit p.key h.0.key; span = h.0.span }, entries_fit w ps h.1)

span_fit : (w : ℕ) (p : DependencyPosition) (ps : List DependencyPosition) → PositionFits w p → WayAlong dependency_key same
    (Fit w) tt ps → last_span p ps < 256 ^ w
span_fit w p [] f h = f.span
span_fit w p (q ∷ qs) f h = span_fit w q qs h.0 h.1

-- all of it but the number of entries
record Fields (w : ℕ) (d : ReactiveScopeDependency) : Type 0 where
  identifier : d.identifier.0 < 256 ^ 4
  span : d.span < 256 ^ w
  entries : All (EntryFits w) d.path

zero_below : (w : ℕ) → zero < 256 ^ w
zero_below zero = omega arith
zero_below (suc w) = rw (pow-suc 256 w) (let h = zero_below w in omega arith)

way_fields : (w : ℕ) (ps : List DependencyPosition) → WayAlong dependency_key same (Fit w) tt ps → Fields w (dependency_of ps)
way_fields w [] h = record { identifier = omega arith; span = zero_below w; entries = tt }
way_fields w (p ∷ ps) h = record
    { identifier = identifier_fit p.key h.0.key; span = span_fit w p ps h.0 h.1; entries = entries_fit w ps h.1 }

-- a prefix has no more entries
prefix_shorter : (ds cs : List DependencyPathEntry) → prefix_of_names ds cs ≡ true → length ds ≤ length cs
prefix_shorter [] cs h = omega arith
prefix_shorter (d ∷ ds) [] h = never h refl
prefix_shorter (d ∷ ds) (c ∷ cs) h = let rest = prefix_shorter ds cs
    (and_second (same_property d.property c.property) _ h) in omega arith

some_few : (w : ℕ) (d : ReactiveScopeDependency) (cs : List ReactiveScopeDependency) → All (PathFits w) cs → Some
    (λ c. prefix_of d c ≡ true) cs → length d.path ≤ 16
some_few w d [] a x'' = elim x'' [ ]
some_few w d (c ∷ cs) a (inl h) = let few = a.0.few in le_trans
    (prefix_shorter d.path c.path (and_second (eqb d.identifier.0 c.identifier.0) _ h)) few
some_few w d (c ∷ cs) a (inr s) = some_few w d cs a.1 s

fields : (w : ℕ) (hs cs : List ReactiveScopeDependency) → All (PathFits w) cs → All (Fields w) (derive_minimal_dependencies hs cs)
unfolding derive_minimal_dependencies dependency_tree walk_candidate
fields w hs cs fit =
    let tree = dependency_tree hs cs in
    all_of_map (Fields w) dependency_of (firsts is_dependency tree)
    (all_map (WayAlong dependency_key same (Fit w) tt) (λ ps. Fields w (dependency_of ps)) (way_fields w) (firsts is_dependency tree)
    (firsts_along dependency_key same (Fit w) is_dependency tt tree
    (along_add_all dependency_key same (Fit w) merge_position (λ p q. refl)
    (λ b n s g h. record { key = g.key; span = g.span }) tt empty (map (walk_candidate (hoistable_tree hs)) cs) tt
    (all_of_map (WayAlong dependency_key same (Fit w) tt) (walk_candidate (hoistable_tree hs)) cs
    (all_map (PathFits w) (λ c. WayAlong dependency_key same (Fit w) tt (walk_candidate (hoistable_tree hs) c))
    (λ c f. walk_fits w _ (root_position c) c.path (record { key = f.identifier; span = f.span }) f.entries) cs fit)))))

pub returned_fit : (w : ℕ) (hs cs : List ReactiveScopeDependency) → All (PathFits w) cs
    → All (PathFits w) (derive_minimal_dependencies hs cs)
returned_fit w hs cs fit =
    let returned = derive_minimal_dependencies hs cs in
    all_map (λ d. Fields w d × (any_of (prefix_of d) cs ≡ true)) (PathFits w)
    (λ d h. record {
      identifier = h.0.identifier;
      span = h.0.span;
      few = some_few w d cs fit
          (any_some (prefix_of d) cs h.1);
      entries = h.0.entries;
    })
    returned (all_both (Fields w) (λ d. any_of (prefix_of d) cs ≡ true) returned (fields w hs cs fit) (returned_some hs cs))

-- there are no more of them than candidates
pub returned_few : (hs cs : List ReactiveScopeDependency) → length (derive_minimal_dependencies hs cs) ≤ length cs
returned_few hs cs = no_more (λ d c. prefix_of d c) (derive_minimal_dependencies hs cs) cs (returned_one hs cs) (returned_some hs cs)

-- The rounds of a job's propagation fit the byte that counts them.
pub rounds_fit : (rule : JoiningRule) (j : Job) → (propagated rule j.blocks).rounds < 256
unfolding propagated propagate_non_null propagate_with
rounds_fit rule j =
    let start = start_of j.blocks in
    let most = rounds_most has_changed (round reduce_maybe_optional_chains rule (graph_of j.blocks)) 100 zero
    (round_start start.registry start.sets) in
    omega arith

-- What a block's records bring, by their parts: a ready path, behind its mark, and a raw read's
-- path where its head says that it is kept; and all of them, those of the raw reads first.
use Prim.Native.Nat.{ℕ, ◌+◌}
use Rattle.std.specs.Prelude.{Result}
use mathlib.Core.Path.{◌≡◌, refl, sym, ap, subst, ◌∙◌}
use mathlib.Core.Bool.{Bool, true, false, cond}
use mathlib.Core.List.{List, [], ◌∷◌, ◌++◌, map, append_assoc}
use lib.Dec.{eqb}
use borrow.Author.Tests.{eqb-true}
use Rattle.entries.specs.Path.{ReactiveScopeDependency}
use Rattle.entries.specs.declared.Refusal.{Refusal}
use Rattle.entries.specs.declared.Refusal.TheVariants.{WrongMark}
use Rattle.model.specs.Lists.{select}
use Rattle.model.specs.ReadingBytes.{Read, got, refused, and_then, mapped, read_many, read_number, read_mark}
use Rattle.model.specs.RawReads.{RawRead, is_immutable_at_instr, kept_paths}
use Rattle.model.specs.Job.{PA, RD, read_path_fields, read_path, read_raw_read}
use Rattle.fields.proofs.Steps.{mark_fields}
use Rattle.model.specs.Stage.{PathsEntered}
use Rattle.job.specs.Passing.{IsRead, passed}
use Rattle.job.specs.Head.{read_raw_head, raw_read_of}
use Rattle.job.specs.declared.RawHead.{RawHead}
use Rattle.job.proofs.Heads.{path_by_fields, raw_read_fields, raw_read_by_head}
use Rattle.job.proofs.Many.{many_view, many_then}
use Rattle.job.proofs.Passing.{not_both, mapped_got, then_got, passed_got}
use Rattle.assumed.specs.declared.EnteredSet.{EnteredSet}
use Rattle.assumed.specs.Start.{itself, path_if_kept, read_brought_by, read_brought, all_of, EntersAll}

-- By the mark that stands there.

pub brought_by : (s : List ℕ) (at : ℕ) {x : Read Unit} → read_mark PA s at ≡ x → read_brought s at ≡ read_brought_by x s at
unfolding read_brought
brought_by s at e = ap (λ (x : Read Unit). read_brought_by x s at) e

-- A ready path.

module _ (s : List ℕ) (at : ℕ) {fields_at : ℕ} (marked : read_mark PA s at ≡ got tt fields_at) where
  ready_fields : read_path 4 PA s at ≡ read_path_fields 4 s fields_at
  ready_fields = path_by_fields PA s at ∙ ap (λ (x : Read Unit). and_then x (λ _ n. read_path_fields 4 s n)) marked

-- A raw read.

raw_parts : (s : List ℕ) (at : ℕ) {x : Read RawHead} → read_raw_head s at ≡ x
    → read_raw_read 4 s at ≡ and_then x (λ (head : RawHead) n. mapped (raw_read_of head) (read_path_fields 4 s n))
raw_parts s at e = raw_read_by_head s at ∙ ap (λ (x : Read RawHead). and_then x (λ (head : RawHead) n. mapped (raw_read_of head) (read_path_fields 4 s n))) e

pub raw_refused : (s : List ℕ) (at : ℕ) {r : Refusal} → read_raw_head s at ≡ refused r → mapped path_if_kept (read_raw_read 4 s at) ≡ refused r
raw_refused s at e = ap (mapped path_if_kept) (raw_parts s at e)

module _ (s : List ℕ) (at : ℕ) {head : RawHead} {fields_at : ℕ} (headed : read_raw_head s at ≡ got head fields_at) where
  -- by what the head says of any path
  by_head : (b : Bool) → ((d : ReactiveScopeDependency) → is_immutable_at_instr (raw_read_of head d) ≡ b)
      → mapped path_if_kept (read_raw_read 4 s at) ≡ mapped (λ d. cond b (d ∷ []) []) (read_path_fields 4 s fields_at)
  by_head b e = ap (mapped path_if_kept) (raw_parts s at headed) ∙ go (read_path_fields 4 s fields_at)
    where
      kept : (d : ReactiveScopeDependency) → path_if_kept (raw_read_of head d) ≡ cond b (d ∷ []) []
      kept d = ap (λ (c : Bool). map (λ (r : RawRead). r.path) (cond c (raw_read_of head d ∷ []) [])) (e d) ∙ by_test b
        where
          by_test : (c : Bool) → map (λ (r : RawRead). r.path) (cond c (raw_read_of head d ∷ []) []) ≡ cond c (d ∷ []) []
          by_test true = refl
          by_test false = refl

      go : (x : Read ReactiveScopeDependency) → mapped path_if_kept (mapped (raw_read_of head) x) ≡ mapped (λ d. cond b (d ∷ []) []) x
      go (got d n) = ap (λ (ds : List ReactiveScopeDependency). got ds n) (kept d)
      go (refused r) = refl

  raw_kept : ((d : ReactiveScopeDependency) → is_immutable_at_instr (raw_read_of head d) ≡ true)
      → mapped path_if_kept (read_raw_read 4 s at) ≡ mapped itself (read_path_fields 4 s fields_at)
  raw_kept e = by_head true e

  pub raw_dropped : ((d : ReactiveScopeDependency) → is_immutable_at_instr (raw_read_of head d) ≡ false) → {n : ℕ}
      → passed (read_path_fields 4 s fields_at) ≡ got tt n → mapped path_if_kept (read_raw_read 4 s at) ≡ got [] n
  raw_dropped e past = by_head false e ∙ ap (mapped (λ d. [])) (passed_got (read_path_fields 4 s fields_at) past).1

  pub raw_cut : ((d : ReactiveScopeDependency) → is_immutable_at_instr (raw_read_of head d) ≡ false) → {r : Refusal}
      → read_path_fields 4 s fields_at ≡ refused r → mapped path_if_kept (read_raw_read 4 s at) ≡ refused r
  raw_cut e cut = by_head false e ∙ ap (mapped (λ d. [])) cut

-- A record, by what it brings.

-- the fields of one path
pub fields_there : {x : Read (List ReactiveScopeDependency)} {y : Read ReactiveScopeDependency} → x ≡ mapped itself y → IsRead x → IsRead y
fields_there {y = y} brings there =
    let m = mapped_got itself y (sym brings ∙ there.read) in
    record { value = m.0; next = there.next; read = m.1 }

pub record_entered : {x y : Read (List ReactiveScopeDependency)} (start : PathsEntered) (r : Result EnteredSet Refusal) (ws os : List ℕ) → x ≡ y
    → EntersAll y start r ws os → EntersAll x start r ws os
record_entered start r ws os brings = subst (λ (z : Read (List ReactiveScopeDependency)). EntersAll z start r ws os) (sym brings)

-- a ready path, and a raw read that is kept
pub ready_brings : (s : List ℕ) (at : ℕ) {fields_at : ℕ} → read_mark PA s at ≡ got tt fields_at
    → read_brought s at ≡ mapped itself (read_path_fields 4 s fields_at)
ready_brings s at marked = brought_by s at marked ∙ ap (mapped itself) (ready_fields s at marked)

pub kept_brings : (s : List ℕ) (at : ℕ) {r : Refusal} {head : RawHead} {fields_at : ℕ} → read_mark PA s at ≡ refused r
    → read_raw_head s at ≡ got head fields_at → ((d : ReactiveScopeDependency) → is_immutable_at_instr (raw_read_of head d) ≡ true)
    → read_brought s at ≡ mapped itself (read_path_fields 4 s fields_at)
kept_brings s at other headed kept = brought_by s at other ∙ raw_kept s at headed kept

-- All records of a block.

passes : {A : Type 0} (b : Bool) (x y : Read A) {a : A} {n : ℕ} {r : Refusal} → y ≡ refused r → cond b x y ≡ got a n → b ≡ true
passes true x y other e = refl
passes false x y other e = not_both e other

-- no raw read has the mark of a ready path
other_mark : (s : List ℕ) (at : ℕ) {n : ℕ} → read_mark RD s at ≡ got tt n → read_mark PA s at ≡ refused WrongMark
other_mark s at e =
    let t = then_got (read_number 2 s at) _ (sym (mark_fields RD s at) ∙ e) in
    let same : t.0 ≡ RD = eqb-true t.0 RD (passes (eqb t.0 RD) (got tt t.1) (refused WrongMark) refl t.3) in
    rw (mark_fields, t.2, same)

raw_brought : (s : List ℕ) (at : ℕ) (r : RawRead) (next : ℕ) → read_raw_read 4 s at ≡ got r next → read_brought s at ≡ got (path_if_kept r) next
raw_brought s at r next e =
    let mark = then_got (read_mark RD s at) _ (sym (raw_read_fields s at) ∙ e) in
    brought_by s at (other_mark s at mark.2) ∙ ap (mapped path_if_kept) e

ready_brought : (s : List ℕ) (at : ℕ) (d : ReactiveScopeDependency) (next : ℕ) → read_path 4 PA s at ≡ got d next → read_brought s at ≡ got (itself d) next
ready_brought s at d next e =
    let mark = then_got (read_mark PA s at) _ (sym (path_by_fields PA s at) ∙ e) in
    brought_by s at mark.2 ∙ ap (mapped itself) e

pub records_read : (s : List ℕ) (raw ready at : ℕ) {rs : List RawRead} {mid : ℕ} {ds : List ReactiveScopeDependency} {end : ℕ}
    → read_many raw (read_raw_read 4) s at ≡ got rs mid → read_many ready (read_path 4 PA) s mid ≡ got ds end
    → read_many (raw + ready) read_brought s at ≡ got (map path_if_kept rs ++ map itself ds) end
records_read s raw ready at {mid = mid} r d =
    many_then read_brought s raw ready at (many_view (read_raw_read 4) read_brought path_if_kept s (raw_brought s) raw at r)
    (many_view (read_path 4 PA) read_brought itself s (ready_brought s) ready mid d)

kept_and_others : (r : RawRead) (rs : List RawRead) → kept_paths (r ∷ rs) ≡ path_if_kept r ++ kept_paths rs
kept_and_others r rs = by_test (is_immutable_at_instr r)
  where
    by_test : (b : Bool) → map (λ (r : RawRead). r.path) (cond b (r ∷ select is_immutable_at_instr rs) (select is_immutable_at_instr rs))
        ≡ map (λ (r : RawRead). r.path) (cond b (r ∷ []) []) ++ kept_paths rs
    by_test true = refl
    by_test false = refl

all_ready : (ds : List ReactiveScopeDependency) → all_of (map itself ds) ≡ ds
all_ready [] = refl
all_ready (d ∷ ds) = ap (λ es. d ∷ es) (all_ready ds)

pub all_brought : (rs : List RawRead) (ds : List ReactiveScopeDependency) → all_of (map path_if_kept rs ++ map itself ds) ≡ kept_paths rs ++ ds
all_brought [] ds = all_ready ds
all_brought (r ∷ rs) ds =
    ap (λ es. path_if_kept r ++ es) (all_brought rs ds) ∙ sym (append_assoc (path_if_kept r) (kept_paths rs) ds)
    ∙ ap (λ es. es ++ ds) (sym (kept_and_others r rs))

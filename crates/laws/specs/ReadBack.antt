-- What is written is read back: a reader that stands where a value's bytes begin gives the value
-- and the place after them, where each number fits its width.
use Rattle.std.specs.Prelude.{ℕ, zero, suc, ◌+◌, ◌*◌, ◌^◌, ◌/◌, ◌%◌, ◌≤◌, ◌<◌, ◌≡◌, List, [], ◌∷◌, ◌++◌, length, eqb, ltb, leb}
use Rattle.std.proofs.Common.{
  div-lt_iff_lt-mul,
  pow-suc,
  arith,
  sym,
  ap,
  subst,
  ◌∙◌,
  append_assoc,
  append-nil,
  length-append,
  lt→ltb,
  le→leb,
}
use Rattle.std.proofs.Math.Nat.{pow-zero}
use mathlib.Core.Bool.{Bool, true, false, cond}
use Rattle.std.proofs.Math.Seq.{get_or-append_seam}
use Rattle.entries.specs.declared.DependencyPathEntry.{DependencyPathEntry}
use Rattle.entries.specs.Path.{ReactiveScopeDependency}
use Rattle.model.specs.Lists.{concat_map}
use Rattle.model.specs.Tests.{passes_test, eqb_same}
use Rattle.model.specs.ListLaws.{All, all_map}
use Rattle.model.specs.ReadingBytes.{
  got,
  refused,
  ByteReader,
  and_then,
  mapped,
  read_many,
  read_byte,
  read_number,
  read_u8,
  read_mark,
  read_within,
  read_flag,
}
use Rattle.model.specs.Rounds.{Rounds}
use Rattle.model.specs.Propagation.{Work}
use Rattle.entries.specs.Property.{property_of, is_number, value_of, property_back}
use Rattle.model.specs.Job.{Job, read_entry, read_path_fields, read_path}
use Rattle.model.specs.Stage.{returned_paths}
use Rattle.model.specs.Answer.{number_bytes, flag, AN, DE, entry_bytes, path_field_bytes, path_bytes, answer_bytes, Answered, read_answer}

-- the reader gives the value where these bytes begin, whatever stands before and after them
pub record ReadsBack {A : Type 0} (read : ByteReader A) (a : A) (bytes : List ℕ) : Type 0 where
  pub back : (front rest : List ℕ) → read (front ++ (bytes ++ rest)) (length front) ≡ got a (length front + length bytes)

-- the bytes alone
pub reads_whole : {A : Type 0} (read : ByteReader A) (a : A) (bytes : List ℕ) → ReadsBack read a bytes → read bytes 0 ≡ got a (length bytes)
reads_whole read a bytes r =
    let end : 0 + length bytes ≡ length bytes = omega arith in
    ap (λ l. read l 0) (sym (append-nil bytes)) ∙ r.back [] [] ∙ ap (λ at. got a at) end

-- one reader after the other
pub then_back : {A B : Type 0} (read : ByteReader A) (next : A → ByteReader B) (a : A) (b : B) (xs ys : List ℕ)
    → ReadsBack read a xs → ReadsBack (next a) b ys
    → ReadsBack (λ s at. and_then (read s at) (λ x after. next x s after)) b (xs ++ ys)
then_back read next a b xs ys r n = record {
  back = λ front rest.
      let s = front ++ ((xs ++ ys) ++ rest) in
      let first : read s (length front) ≡ got a (length front + length xs) = ap (λ l. read (front ++ l) (length front))
      (append_assoc xs ys rest) ∙ r.back front (ys ++ rest) in
      let middle : length front + length xs ≡ length (front ++ xs) = sym (length-append front xs) in
      let whole : s ≡ (front ++ xs) ++ (ys ++ rest) = ap (λ l. front ++ l) (append_assoc xs ys rest) ∙ sym
      (append_assoc front xs (ys ++ rest)) in
      let sizes = length-append front xs in
      let both-sizes = length-append xs ys in
      let end : length (front ++ xs) + length ys ≡ length front + length (xs ++ ys) = omega arith in
      ap (λ x. and_then x (λ y after. next y s after)) first
      ∙ ap (λ at. next a s at) middle ∙ ap (λ l. next a l (length (front ++ xs))) whole
      ∙ n.back (front ++ xs) rest ∙ ap (λ at. got b at) end;
}

pub mapped_back : {A B : Type 0} (read : ByteReader A) (f : A → B) (a : A) (xs : List ℕ) → ReadsBack read a xs → ReadsBack
    (λ s at. mapped f (read s at)) (f a) xs
mapped_back read f a xs r = record { back = λ front rest. ap (mapped f) (r.back front rest) }

none_back : {A : Type 0} (a : A) → ReadsBack (λ s at. got a at) a []
none_back a = record { back = λ front rest. let e : length front ≡ length front + 0 = omega arith in ap (λ at. got a at) e }

-- a value after the last bytes
pub end_back : {A B : Type 0} (read : ByteReader A) (next : A → B) (a : A) (xs : List ℕ) → ReadsBack read a xs → ReadsBack
    (λ s at. and_then (read s at) (λ x after. got (next x) after)) (next a) xs
end_back read next a xs r = record { back = λ front rest. ap (λ x. and_then x (λ y after. got (next y) after)) (r.back front rest) }

-- Numbers.

byte_back : (b : ℕ) → ReadsBack read_byte b (b ∷ [])
unfolding read_byte
byte_back b = record {
  back = λ front rest.
      let sizes = length-append front (b ∷ rest) in
      let inside : ltb (length front) (length (front ++ (b ∷ rest))) ≡ true = passes_test
      (lt→ltb (length front) (length (front ++ (b ∷ rest))) (omega arith)) in
      rw (inside, get_or-append_seam front b rest 0);
}

pub number_back : (n x : ℕ) → x < 256 ^ n → ReadsBack (read_number n) x (number_bytes n x)
unfolding read_number number_bytes
number_back zero x h = let none : 0 ≡ x = omega (arith, rw pow-zero at h) in subst (λ y. ReadsBack (read_number zero) y []) none
    (none_back 0)
number_back (suc n) x h =
    let some : 0 < 256 = omega arith in
    let less : x / 256 < 256 ^ n = (div-lt_iff_lt-mul some).1 (rw (pow-suc 256 n) at h) in
    let sum : x % 256 + 256 * (x / 256) ≡ x = omega arith in
    subst (λ y. ReadsBack (read_number (suc n)) y (x % 256 ∷ number_bytes n (x / 256))) sum
    (then_back read_byte (λ low s at. mapped (λ high. low + 256 * high) (read_number n s at)) (x % 256) (x % 256 + 256 * (x / 256))
    (x % 256 ∷ []) (number_bytes n (x / 256)) (byte_back (x % 256))
    (mapped_back (read_number n) (λ high. x % 256 + 256 * high) (x / 256) (number_bytes n (x / 256)) (number_back n (x / 256) less)))

-- a flag, and a number in its range
pub value_back : (n x : ℕ) (least most : ℕ) → x < 256 ^ n → least ≤ x → x ≤ most → ReadsBack (read_within least most (read_number n)) x
    (number_bytes n x)
unfolding read_within
value_back n x least most h low high = record {
  back = λ front rest.
      let inside : leb least x ≡ true = passes_test (le→leb least x low) in
      let below : leb x most ≡ true = passes_test (le→leb x most high) in
      ap (λ y. and_then y (λ found next. cond (mathlib.Core.Bool.◌&&◌ (leb least found) (leb found most)) (got found next)
      (refused Rattle.entries.specs.declared.Refusal.TheVariants.OutOfRange))) ((number_back n x h).back front rest)
      ∙ rw (inside, below);
}

pub flag_back : (b : Bool) → ReadsBack read_flag b (number_bytes 1 (flag b))
unfolding read_flag read_number
flag_back true = mapped_back (read_within 0 1 (read_number 1)) (λ x. eqb x 1) 1 (number_bytes 1 1)
    (value_back 1 1 0 1 (omega arith) (omega arith) (omega arith))
flag_back false = mapped_back (read_within 0 1 (read_number 1)) (λ x. eqb x 1) 0 (number_bytes 1 0)
    (value_back 1 0 0 1 (omega arith) (omega arith) (omega arith))

pub mark_back : (mark : ℕ) → mark < 256 ^ 2 → ReadsBack (read_mark mark) tt (number_bytes 2 mark)
unfolding read_mark
mark_back mark h = record {
  back = λ front rest.
      ap (λ y. and_then y (λ found next. cond (eqb found mark) (got tt next)
      (refused Rattle.entries.specs.declared.Refusal.TheVariants.WrongMark))) ((number_back 2 mark h).back front rest)
      ∙ rw (eqb_same mark);
}

-- many values of one form
pub many_back : {A : Type 0} (read : ByteReader A) (bytes : A → List ℕ) (xs : List A) → All (λ x. ReadsBack read x (bytes x)) xs
    → ReadsBack (read_many (length xs) read) xs (concat_map bytes xs)
many_back read bytes [] h = none_back []
many_back read bytes (x ∷ xs) h =
    then_back read (λ first s at. mapped (λ rest. first ∷ rest) (read_many (length xs) read s at)) x (x ∷ xs) (bytes x)
    (concat_map bytes xs) h.0
    (mapped_back (read_many (length xs) read) (λ rest. x ∷ rest) xs (concat_map bytes xs) (many_back read bytes xs h.1))

-- Records, for spans of any width.

pub record EntryFits (span_bytes : ℕ) (e : DependencyPathEntry) : Type 0 where
  pub value : value_of e.property < 256 ^ 8
  pub span : e.span < 256 ^ span_bytes

pub record PathFits (span_bytes : ℕ) (d : ReactiveScopeDependency) : Type 0 where
  pub identifier : d.identifier.0 < 256 ^ 4
  pub span : d.span < 256 ^ span_bytes
  pub few : length d.path ≤ 16
  pub entries : All (EntryFits span_bytes) d.path

entry_back : (w : ℕ) (e : DependencyPathEntry) → EntryFits w e → ReadsBack (read_entry w) e (entry_bytes w e)
unfolding read_entry
entry_back w e f = subst (ReadsBack (read_entry w) e) (sym regroup)
    (then_back read_flag after_optional e.optional e optional_bytes (kind_bytes ++ (value_bytes ++ span_bytes_lem))
    (flag_back e.optional) kind_on)
  where
    optional_bytes : List ℕ
    optional_bytes = number_bytes 1 (flag e.optional)

    kind_bytes : List ℕ
    kind_bytes = number_bytes 1 (flag (is_number e.property))

    value_bytes : List ℕ
    value_bytes = number_bytes 8 (value_of e.property)

    span_bytes_lem : List ℕ
    span_bytes_lem = number_bytes w e.span

    regroup : entry_bytes w e ≡ optional_bytes ++ (kind_bytes ++ (value_bytes ++ span_bytes_lem))
    regroup = simp append_assoc

    made : Bool → Bool → ℕ → ℕ → DependencyPathEntry
    made optional kind value span = record { property = property_of kind value; optional = optional; span = span }

    after_value : Bool → Bool → ℕ → ByteReader DependencyPathEntry
    after_value optional kind value s at = and_then (read_number w s at) (λ span next. got (made optional kind value span) next)

    after_kind : Bool → Bool → ByteReader DependencyPathEntry
    after_kind optional kind s at = and_then (read_number 8 s at) (λ value next. after_value optional kind value s next)

    after_optional : Bool → ByteReader DependencyPathEntry
    after_optional optional s at = and_then (read_flag s at) (λ kind next. after_kind optional kind s next)

    whole : made e.optional (is_number e.property) (value_of e.property) e.span ≡ e
    whole = λ i. record { property = property_back e.property i; optional = e.optional; span = e.span }

    value_on : ReadsBack (after_kind e.optional (is_number e.property))
        (made e.optional (is_number e.property) (value_of e.property) e.span) (value_bytes ++ span_bytes_lem)
    value_on =
        then_back (read_number 8) (after_value e.optional (is_number e.property)) (value_of e.property)
        (made e.optional (is_number e.property) (value_of e.property) e.span) value_bytes span_bytes_lem
        (number_back 8 (value_of e.property) f.value)
        (end_back (read_number w) (made e.optional (is_number e.property) (value_of e.property)) e.span span_bytes_lem
        (number_back w e.span f.span))

    kind_on : ReadsBack (after_optional e.optional) e (kind_bytes ++ (value_bytes ++ span_bytes_lem))
    kind_on =
        subst (λ x. ReadsBack (after_optional e.optional) x (kind_bytes ++ (value_bytes ++ span_bytes_lem))) whole
        (then_back read_flag (after_kind e.optional) (is_number e.property)
        (made e.optional (is_number e.property) (value_of e.property) e.span) kind_bytes (value_bytes ++ span_bytes_lem)
        (flag_back (is_number e.property)) value_on)

pub fields_back : (w : ℕ) (d : ReactiveScopeDependency) → PathFits w d → ReadsBack (read_path_fields w) d (path_field_bytes w d)
unfolding read_path_fields path_field_bytes
fields_back w d f =
    simp append_assoc
    (then_back (read_number 4) _ d.identifier.0 d _ _ (number_back 4 d.identifier.0 f.identifier)
    (then_back read_flag _ d.reactive d _ _ (flag_back d.reactive)
    (then_back (read_number w) _ d.span d _ _ (number_back w d.span f.span)
    (then_back (read_within 0 16 read_u8) _ (length d.path) d _ _
    (value_back 1 (length d.path) 0 16 (let few = f.few in omega arith) (omega arith) f.few)
    (mapped_back (read_many (length d.path) (read_entry w)) _ d.path _
    (many_back (read_entry w) (entry_bytes w) d.path
    (all_map (EntryFits w) (λ e. ReadsBack (read_entry w) e (entry_bytes w e)) (entry_back w) d.path f.entries)))))))

pub path_back : (w mark : ℕ) (d : ReactiveScopeDependency) → mark < 256 ^ 2 → PathFits w d → ReadsBack (read_path w mark) d
    (path_bytes w mark d)
unfolding read_path path_bytes
path_back w mark d m f =
    then_back (read_mark mark) (λ _. read_path_fields w) tt d (number_bytes 2 mark) (path_field_bytes w d) (mark_back mark m)
    (fields_back w d f)

-- The answer holds the returned paths, the rounds and whether they settled.
pub answer_back : (w : ℕ) (job : Job) (p : Rounds Work) → length (returned_paths job p.work) < 256 ^ 2 → p.rounds < 256 → All
    (PathFits w) (returned_paths job p.work)
    → ReadsBack (read_answer w) (record { paths = returned_paths job p.work; rounds = p.rounds; settled = p.settled })
    (answer_bytes w job p)
unfolding read_answer answer_bytes
answer_back w job p few low fits =
    subst (ReadsBack (read_answer w) (made p.rounds p.settled paths)) (sym regroup)
    (then_back (read_mark AN) (λ _. after_mark) tt (made p.rounds p.settled paths) (number_bytes 2 AN)
    (count_bytes ++ (rounds_bytes ++ (settled_bytes ++ paths_bytes))) (mark_back AN (omega arith))
    (then_back (read_number 2) after_count (length paths) (made p.rounds p.settled paths) count_bytes
    (rounds_bytes ++ (settled_bytes ++ paths_bytes)) (number_back 2 (length paths) few)
    (then_back (read_number 1) (after_rounds (length paths)) p.rounds (made p.rounds p.settled paths) rounds_bytes
    (settled_bytes ++ paths_bytes) (number_back 1 p.rounds (omega arith))
    (then_back read_flag (after_settled (length paths) p.rounds) p.settled
    (made p.rounds p.settled paths) settled_bytes paths_bytes (flag_back p.settled)
    (mapped_back (read_many (length paths) (read_path w DE)) (made p.rounds p.settled) paths paths_bytes
    (many_back (read_path w DE) (path_bytes w DE) paths
    (all_map (PathFits w) (λ d. ReadsBack (read_path w DE) d (path_bytes w DE d))
    (λ d f. path_back w DE d (omega arith) f) paths fits)))))))
  where
    paths : List ReactiveScopeDependency
    paths = returned_paths job p.work

    count_bytes : List ℕ
    count_bytes = number_bytes 2 (length paths)

    rounds_bytes : List ℕ
    rounds_bytes = number_bytes 1 p.rounds

    settled_bytes : List ℕ
    settled_bytes = number_bytes 1 (flag p.settled)

    paths_bytes : List ℕ
    paths_bytes = concat_map (path_bytes w DE) paths

    regroup : answer_bytes w job p ≡ number_bytes 2 AN ++ (count_bytes ++ (rounds_bytes ++ (settled_bytes ++ paths_bytes)))
    regroup = simp append_assoc

    made : ℕ → Bool → List ReactiveScopeDependency → Answered
    made rounds settled ds = record { paths = ds; rounds = rounds; settled = settled }

    after_settled : ℕ → ℕ → Bool → ByteReader Answered
    after_settled count rounds settled s at = mapped (made rounds settled) (read_many count (read_path w DE) s at)

    after_rounds : ℕ → ℕ → ByteReader Answered
    after_rounds count rounds s at = and_then (read_flag s at) (λ settled next. after_settled count rounds settled s next)

    after_count : ℕ → ByteReader Answered
    after_count count s at = and_then (read_number 1 s at) (λ rounds next. after_rounds count rounds s next)

    after_mark : ByteReader Answered
    after_mark s at = and_then (read_number 2 s at) (λ count next. after_count count s next)

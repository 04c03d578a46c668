-- The bytes of a number one by one, and writers one after the other.
use Prim.Native.Nat.{ℕ, zero, suc, ◌+◌, ◌-◌, ◌/◌, ◌%◌, ◌≤◌, ◌<◌}
use native.Mathlib.Omega.{arith}
use native.Mathlib.Numerals.{add-one}
use native.Mathlib.Nat.{add-zero, add_assoc}
use mathlib.Core.Path.{◌≡◌, refl, sym, ap, subst, ◌∙◌}
use mathlib.Core.Bool.{Bool, true, false}
use mir.Val.{bool_byte}
use mathlib.Core.List.{List, [], ◌∷◌, ◌++◌, append_assoc, append-nil}
use lib.ListN.{length, get_or, set, take, drop, length-append, length-take, length-drop}
use lib.Seq.{sets, sets-eq, length-sets, set_comm, drop-drop}
use Rattle.std.proofs.lemmas.List.{drop_all}
use borrow.Rule.Slice.Mut.{set_vals}
use borrow.Rule.Slice.PartMut.{put_mid}
use Rattle.entries.specs.declared.IdentifierId.{IdentifierId}
use Rattle.entries.specs.declared.DependencyPathEntry.{DependencyPathEntry}
use Rattle.entries.specs.Property.{is_number, value_of}
use Rattle.model.specs.Lists.{concat_map}
use Rattle.model.specs.Answer.{number_bytes, flag, step_bytes, entry_bytes}
use Rattle.writer.specs.declared.Writer.{Writer}
use Rattle.writer.specs.Writes.{Writes, HasRoom, Puts, path_head_bytes}

pub number_length : (bytes x : ℕ) → length (number_bytes bytes x) ≡ bytes
unfolding number_bytes
number_length zero x = refl
number_length (suc bytes) x = ap suc (number_length bytes (x / 256))

-- the bytes from index i on are the lowest one and those from the next index on
pub byte_stored : (l : List ℕ) (i end x : ℕ) → i < end
    → sets l i (number_bytes (end - i) x) ≡ sets (set l i (x % 256)) (i + 1) (number_bytes (end - (i + 1)) (x / 256))
unfolding number_bytes
byte_stored l i end x h = let e : end - i ≡ suc (end - (i + 1)) = omega arith in rw (e, add-one i)

bytes_over : (l : List ℕ) (i end x : ℕ) → end ≤ i → sets l i (number_bytes (end - i) x) ≡ l
unfolding number_bytes
bytes_over l i end x h = let e : end - i ≡ 0 = omega arith in rw e

-- as many bytes as a list has, stored from its start on, are the list
all_replaced : (first bytes : List ℕ) → length first ≡ length bytes → sets first 0 bytes ≡ bytes
all_replaced first bytes size =
    sets-eq bytes first 0 (omega arith)
    ∙ ap (λ (l : List ℕ). bytes ++ l) (drop_all (0 + length bytes) first (omega arith)) ∙ append-nil bytes

-- where all bytes are stored in a part of as many, that is the number
pub all_stored : (first part : List ℕ) (i n rest x : ℕ) → n ≤ i → length first ≡ n
    → sets part i (number_bytes (n - i) rest) ≡ sets first 0 (number_bytes n x) → part ≡ number_bytes n x
all_stored first part i n rest x over size stored =
    let long = number_length n x in
    sym (bytes_over part i n rest over) ∙ stored ∙ all_replaced first (number_bytes n x) (omega arith)

-- where all bytes of a slice are copied into a part of as many, the part is the slice
pub all_copied : (first part s : List ℕ) (i : ℕ) → length s ≤ i → length first ≡ length s
    → sets part i (drop i s) ≡ sets first 0 s → part ≡ s
all_copied first part s i over size copied =
    sym (ap (λ (l : List ℕ). sets part i l) (drop_all i s over)) ∙ copied ∙ all_replaced first s size

sets_append : (l : List ℕ) (i : ℕ) (xs ys : List ℕ) → sets l i (xs ++ ys) ≡ sets (sets l i xs) (i + length xs) ys
sets_append l i [] ys = rw (add-zero i)
sets_append l i (x ∷ xs) ys = let e : i + suc (length xs) ≡ suc i + length xs = omega arith in rw e (sets_append (set l i x) (suc i) xs ys)

-- Nothing is written.
pub writes_none : {l : List ℕ} {at : ℕ} → Writes l l at [] at
writes_none {l} {at} = record { is = refl; ends = sym (add-zero at) }

-- what one writer leaves and what the next one leaves from there is what both leave
pub writes_then : {a b c : List ℕ} {at m n : ℕ} {xs ys : List ℕ} → Writes a b at xs m → Writes b c m ys n → Writes a c at (xs ++ ys) n
writes_then {a} {b} {c} {at} {m} {n} {xs} {ys} x y = record {
  is = y.is ∙ rw (x.is, x.ends) (sym (sets_append a at xs ys));
  ends = let e = x.ends in let f = y.ends in let g = length-append xs ys in omega arith;
}

pub writes_as : {a b : List ℕ} {at m : ℕ} {xs ys : List ℕ} → xs ≡ ys → Writes a b at xs m → Writes a b at ys m
writes_as {a} {b} {at} {m} e x = subst (λ (l : List ℕ). Writes a b at l m) e x

pub step_length : (e : DependencyPathEntry) → length (step_bytes e) ≡ 10
step_length e =
    length-append (number_bytes 1 (flag e.optional) ++ number_bytes 1 (flag (is_number e.property))) (number_bytes 8 (value_of e.property))
    ∙ rw (
      length-append (number_bytes 1 (flag e.optional)) (number_bytes 1 (flag (is_number e.property))),
      number_length 1 (flag e.optional),
      number_length 1 (flag (is_number e.property)),
      number_length 8 (value_of e.property),
    )

pub entry_length : (e : DependencyPathEntry) → length (entry_bytes 4 e) ≡ 14
entry_length e = length-append (step_bytes e) (number_bytes 4 e.span) ∙ rw (step_length e, number_length 4 e.span)

pub path_head_length : (mark : ℕ) (i : IdentifierId) (reactive : Bool) (span entries : ℕ) → length (path_head_bytes mark i reactive span entries) ≡ 12
path_head_length mark i reactive span entries =
    let a = number_bytes 2 mark in
    let b = number_bytes 4 i.0 in
    let c = number_bytes 1 (flag reactive) in
    let d = number_bytes 4 span in
    let e = number_bytes 1 entries in
    omega (
      arith,
      length-append (a ++ b ++ c ++ d) e,
      length-append (a ++ b ++ c) d,
      length-append (a ++ b) c,
      length-append a b,
      number_length 2 mark,
      number_length 4 i.0,
      number_length 1 (flag reactive),
      number_length 4 span,
      number_length 1 entries,
    )

-- the part of the buffer that n bytes take has as many, and so an index in it is below n
pub part_length : (w : Writer) (n : ℕ) → HasRoom w n → length (take (w.at + n - w.at) (drop w.at w.out.now)) ≡ n
part_length w n room = omega (arith, length-take (w.at + n - w.at) (drop w.at w.out.now), length-drop w.at w.out.now)

-- A part of the buffer with these bytes in its place is what storing them leaves.
pub puts_part : (w : Writer) (n : ℕ) (part bytes : List ℕ) → HasRoom w n → length bytes ≡ n → part ≡ bytes
    → Puts w (record { out = set_vals (put_mid w.at (w.at + n - w.at) w.out.now part) w.out; at = w.at + n }) n bytes
puts_part w n part bytes room size is =
    let e : w.at + (w.at + n - w.at) ≡ w.at + length bytes = omega arith in
    let stored : put_mid w.at (w.at + n - w.at) w.out.now part ≡ sets w.out.now w.at bytes =
    ap (λ (l : List ℕ). take w.at w.out.now ++ (l ++ drop (w.at + n - w.at) (drop w.at w.out.now))) is
    ∙ ap (λ (l : List ℕ). take w.at w.out.now ++ (bytes ++ l)) (drop-drop (w.at + n - w.at) w.at w.out.now ∙ ap (λ (k : ℕ). drop k w.out.now) e)
    ∙ sym (append_assoc (take w.at w.out.now) bytes (drop (w.at + length bytes) w.out.now))
    ∙ sym (sets-eq bytes w.out.now w.at (omega arith)) in
    record {
      writes = record { is = stored; ends = ap (λ (k : ℕ). w.at + k) (sym size) };
      next = refl;
      long = ap length stored ∙ length-sets w.out.now w.at bytes;
      same = refl;
    }

-- what one writer leaves and what the next one leaves from there is what both leave
pub puts_then : {a b c : Writer} {m n : ℕ} {xs ys : List ℕ} → Puts a b m xs → Puts b c n ys → Puts a c (m + n) (xs ++ ys)
puts_then {a} {b} {c} {m} {n} {xs} {ys} x y = record {
  writes = writes_then x.writes y.writes;
  next = y.next ∙ rw x.next (add_assoc a.at m n);
  long = y.long ∙ x.long;
  same = y.same ∙ x.same;
}

pub puts_as : {a b : Writer} {m : ℕ} {xs ys : List ℕ} → xs ≡ ys → Puts a b m xs → Puts a b m ys
puts_as {a} {b} {m} e x = subst (λ (l : List ℕ). Puts a b m l) e x

pub puts_number : {a b : Writer} {n x y : ℕ} → x ≡ y → Puts a b n (number_bytes n x) → Puts a b n (number_bytes n y)
puts_number {n = n} e = puts_as (ap (number_bytes n) e)

pub byte_flag : (b : Bool) → bool_byte b ≡ flag b
byte_flag false = refl
byte_flag true = refl

-- a yes or no is written by its number
pub puts_flag : {a b : Writer} {x : ℕ} (written is : Bool) → x ≡ bool_byte written → written ≡ is → Puts a b 1 (number_bytes 1 x)
    → Puts a b 1 (number_bytes 1 (flag is))
puts_flag written is e same = puts_number (e ∙ ap bool_byte same ∙ byte_flag is)

pub puts_to : {a b : Writer} {m n : ℕ} {xs ys : List ℕ} → m ≡ n → xs ≡ ys → Puts a b m xs → Puts a b n ys
puts_to {a} {b} {ys = ys} size e x = subst (λ (k : ℕ). Puts a b k ys) size (puts_as e x)

pub puts_own : {a b : Writer} {n : ℕ} {bytes : List ℕ} → Puts a b n bytes → Puts a b (length bytes) bytes
puts_own x = let e = x.next in let f = x.writes.ends in puts_to (omega arith) refl x

-- what a writer wrote stands in the buffer that was lent to it
pub puts_back : {a b : Writer} {n : ℕ} {bytes after : List ℕ} → after ≡ b.out.now → Puts a b n bytes → Writes a.out.now after a.at bytes b.at
puts_back e x = record { is = e ∙ x.writes.is; ends = x.writes.ends }

-- a writer in a loop: what is written so far, and what one turn writes behind it
pub puts_more : {a b c : Writer} {m n k : ℕ} {xs ys zs : List ℕ} → m + n ≡ k → xs ++ ys ≡ zs → Puts a b m xs → Puts b c n ys → Puts a c k zs
puts_more size e x y = puts_to size e (puts_then x y)

pub puts_none : (w : Writer) → Puts w w 0 []
puts_none w = record { writes = writes_none; next = sym (add-zero w.at); long = refl; same = refl }

-- The writer, at another place of its buffer.
abbrev pub moved : Writer → ℕ → Writer
moved w at = record { out = w.out; at = at }

-- Bytes written behind a place and then those before it are the two together.

set_before : (vs l : List ℕ) (k i x : ℕ) → i < k → set (sets l k vs) i x ≡ sets (set l i x) k vs
set_before [] l k i x h = refl
set_before (v ∷ vs) l k i x h = set_before vs (set l k v) (suc k) i x (omega arith) ∙ ap (λ (t : List ℕ). sets t (suc k) vs)
    (set_comm l k i v x (λ e. omega arith))

sets_before : (us vs l : List ℕ) (k i : ℕ) → i + length us ≤ k → sets (sets l k vs) i us ≡ sets (sets l i us) k vs
sets_before [] vs l k i h = refl
sets_before (u ∷ us) vs l k i h = ap (λ (t : List ℕ). sets t (suc i) us) (set_before vs l k i u (omega arith)) ∙ sets_before us vs (set l i u) k (suc i)
    (omega arith)

pub writes_before : {a b c : List ℕ} {at size next end : ℕ} {front rest : List ℕ} → length front ≡ size → Writes a b (at + size) rest end
    → Writes b c at front next → Writes a c at (front ++ rest) end
writes_before {a} {b} {c} {at} {size} {next} {end} {front} {rest} e w h =
    let first : Writes a (sets a at front) at front (at + size) = record { is = refl; ends = ap (λ (n : ℕ). at + n) (sym e) } in
    let second : Writes (sets a at front) c (at + size) rest end = record
    { is = h.is ∙ ap (λ (l : List ℕ). sets l at front) w.is ∙ sets_before front rest a (at + size) at (omega arith); ends = w.ends } in
    writes_then first second

pub puts_before : {a b c : Writer} {m n : ℕ} {front rest : List ℕ} → Puts (moved a (a.at + m)) b n rest → Puts (moved b a.at) c m front
    → Puts a (moved c b.at) (m + n) (front ++ rest)
puts_before {a} {b} {c} {m} {n} {front} {rest} w h =
    let size : length front ≡ m = let e = h.next in let f = h.writes.ends in omega arith in
    record {
      writes = writes_before size w.writes h.writes;
      next = w.next ∙ add_assoc a.at m n;
      long = h.long ∙ w.long;
      same = h.same ∙ w.same;
    }

-- Writers in a loop: what is still to come, written from here on, gives what the whole gives from
-- the start.
pub record Coming (before now : Writer) (whole rest : List ℕ) : Type 0 where
  pub is : sets now.out.now now.at rest ≡ sets before.out.now before.at whole
  pub ends : now.at + length rest ≡ before.at + length whole
  pub long : length now.out.now ≡ length before.out.now
  pub same : now.out.ghost_name ≡ before.out.ghost_name

pub coming_start : (w : Writer) (whole : List ℕ) → Coming w w whole whole
coming_start w whole = record { is = refl; ends = refl; long = refl; same = refl }

pub coming_more : {before now next : Writer} {n : ℕ} {whole xs rest : List ℕ} → Coming before now whole (xs ++ rest) → Puts now next n xs
    → Coming before next whole rest
coming_more {before} {now} {next} {n} {whole} {xs} {rest} c w =
    let e = w.writes.ends in
    let f = c.ends in
    let g = length-append xs rest in
    record {
      is = rw (w.writes.is, e) (sym (sets_append now.out.now now.at xs rest) ∙ c.is);
      ends = omega arith;
      long = w.long ∙ c.long;
      same = w.same ∙ c.same;
    }

pub coming_over : {before now : Writer} {n : ℕ} {whole : List ℕ} → Coming before now whole [] → length whole ≡ n → Puts before now n whole
coming_over {before} {now} {n} {whole} c e = record {
  writes = record { is = c.is; ends = let f = c.ends in omega arith };
  next = let f = c.ends in omega arith;
  long = c.long;
  same = c.same;
}

pub coming_as : {before now : Writer} {whole xs ys : List ℕ} → xs ≡ ys → Coming before now whole xs → Coming before now whole ys
coming_as {before} {now} {whole} e c = subst (λ (l : List ℕ). Coming before now whole l) e c

-- the bytes of the items before k, and those of item k
pub concat_map_next : {A : Type 0} (f : A → List ℕ) (xs : List A) (k : ℕ) (d : A) → k < length xs
    → concat_map f (take k xs) ++ f (get_or xs k d) ≡ concat_map f (take (k + 1) xs)
concat_map_next f [] k d l = absurd (omega arith)
concat_map_next f (x ∷ xs) zero d l = sym (append-nil (f x))
concat_map_next f (x ∷ xs) (suc k) d l =
    let e : suc (k + 1) ≡ suc k + 1 = omega arith in
    append_assoc (f x) (concat_map f (take k xs)) (f (get_or xs k d))
    ∙ ap (λ (l : List ℕ). f x ++ l) (concat_map_next f xs k d (omega arith))
    ∙ ap (λ (i : ℕ). concat_map f (take i (x ∷ xs))) e

-- Notes of records: what one step of a loop that counts up says of the notes from there on and of
-- the array that holds them, and how many there are.
use Prim.Native.Nat.{ℕ, zero, suc, ◌<◌, ◌≤◌, ◌+◌, ◌-◌}
use mathlib.Core.Path.{◌≡◌}
use mathlib.Core.List.{List, [], ◌∷◌}
use native.Mathlib.Omega.{arith}
use native.Mathlib.Numerals.{add-one}
use lib.ListN.{length, set}
use lib.Seq.{sets}
use Rattle.entries.specs.declared.Refusal.{Refusal}
use Rattle.model.specs.ReadingBytes.{Read, got, refused, ByteReader}
use Rattle.job.specs.Passing.{notes, or_none}

module _ {A B : Type 0} (read : ByteReader A) (s : List ℕ) (f : ℕ → A → B) where
  pub one_more : {n i at : ℕ} {a : A} {next : ℕ} → i < n → read s at ≡ got a next
      → notes f (n - i) read s at ≡ f at a ∷ notes f (n - (i + 1)) read s next
  one_more {n} {i} h e =
      let z : n - i ≡ suc (n - (i + 1)) = omega arith in
      rw (z, e)

  no_more : {n i at : ℕ} {r : Refusal} → i < n → read s at ≡ refused r → notes f (n - i) read s at ≡ []
  no_more {n} {i} h e =
      let z : n - i ≡ suc (n - (i + 1)) = omega arith in
      rw (z, e)

  pub none_left : {n i : ℕ} (at : ℕ) → n ≤ i → notes f (n - i) read s at ≡ []
  none_left {n} {i} at h =
      let z : n - i ≡ 0 = omega arith in
      rw z

  -- the array l, with the notes from the i-th record on
  pub notes_end : (l : List B) (n i at : ℕ) → n ≤ i → sets l i (notes f (n - i) read s at) ≡ l
  notes_end l n i at h = rw (none_left at h)

  pub notes_next : (l : List B) (n i at : ℕ) {a : A} {next : ℕ} {b : B} → i < n → read s at ≡ got a next → f at a ≡ b
      → sets l i (notes f (n - i) read s at) ≡ sets (set l i b) (i + 1) (notes f (n - (i + 1)) read s next)
  notes_next l n i at h e v = rw (one_more h e, v, add-one)

  pub notes_stop : (l : List B) (n i at : ℕ) {r : Refusal} → i < n → read s at ≡ refused r → sets l i (notes f (n - i) read s at) ≡ l
  notes_stop l n i at h e = rw (no_more h e)

  few : (n at : ℕ) → ((next : ℕ) → length (notes f n read s next) ≤ n) → (x : Read A)
      → length (or_none x (λ a next. f at a ∷ notes f n read s next)) ≤ suc n
  few n at h (got a next) = omega (arith, h next)
  few n at h (refused r) = omega arith

  -- at most one note for each record
  pub notes_few : (n at : ℕ) → length (notes f n read s at) ≤ n
  notes_few zero at = omega arith
  notes_few (suc n) at = few n at (notes_few n) (read s at)

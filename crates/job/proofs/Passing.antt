-- Passing over records: what one step of a loop says of the place after all of them.
use Prim.Native.Nat.{ℕ, zero, suc, ◌<◌, ◌≤◌, ◌-◌, ◌+◌}
use mathlib.Core.Path.{◌≡◌, refl, ap, ◌∙◌}
use mathlib.Core.List.{List}
use native.Mathlib.Omega.{arith}
use Rattle.entries.specs.declared.Refusal.{Refusal}
use Rattle.model.specs.ReadingBytes.{Read, got, refused, ByteReader, and_then, mapped, both, read_many}
use Rattle.job.specs.Passing.{passed}

-- no reading is both a value and a refusal
pub not_both : {A B : Type 0} {x : Read A} {a : A} {n : ℕ} {r : Refusal} → x ≡ got a n → x ≡ refused r → B
not_both g f = absurd (let z : ◌≡◌ {A = ℕ} 0 1 = cc in omega arith)

-- the value is no matter of the place
pub passed_mapped : {A B : Type 0} (f : A → B) (x : Read A) → passed (mapped f x) ≡ passed x
passed_mapped f (got a n) = refl
passed_mapped f (refused r) = refl

pub passed_both : {A B C : Type 0} (f : A → B → C) (x : Read A) (rest : ℕ → Read B)
    → passed (both f x rest) ≡ and_then (passed x) (λ _ next. passed (rest next))
passed_both f (got a n) rest = passed_mapped (f a) (rest n)
passed_both f (refused r) rest = refl

-- where a place was reached there is a value before it
pub passed_got : {A : Type 0} (x : Read A) {n : ℕ} → passed x ≡ got tt n → (a : A) × (x ≡ got a n)
passed_got (got a m) e = (a, cc)
passed_got (refused r) e = not_both e refl

pub passed_refused : {A : Type 0} (x : Read A) {r : Refusal} → passed x ≡ refused r → x ≡ refused r
passed_refused (got a m) e = not_both refl e
passed_refused (refused r) e = cc

pub mapped_got : {A B : Type 0} (f : A → B) (x : Read A) {b : B} {n : ℕ} → mapped f x ≡ got b n → (a : A) × (x ≡ got a n) × (f a ≡ b)
mapped_got f (got a m) e = (a, cc, cc)
mapped_got f (refused r) e = not_both e refl

pub mapped_refused : {A B : Type 0} (f : A → B) (x : Read A) {r : Refusal} → mapped f x ≡ refused r → x ≡ refused r
mapped_refused f (got a m) e = not_both refl e
mapped_refused f (refused r) e = cc

-- a value that was made of parts: each part's own
pub then_got : {A B : Type 0} (x : Read A) (rest : A → ℕ → Read B) {b : B} {end : ℕ} → and_then x rest ≡ got b end
    → (a : A) × (n : ℕ) × (x ≡ got a n) × (rest a n ≡ got b end)
then_got (got a n) rest e = (a, n, refl, e)
then_got (refused r) rest e = not_both e refl

pub both_got : {A B C : Type 0} (f : A → B → C) (x : Read A) (rest : ℕ → Read B) {c : C} {end : ℕ} → both f x rest ≡ got c end
    → (a : A) × (n : ℕ) × (b : B) × (x ≡ got a n) × (rest n ≡ got b end) × (f a b ≡ c)
both_got f x rest e =
    let t = then_got x _ e in
    let m = mapped_got (f t.0) (rest t.1) t.3 in
    (t.0, t.1, m.0, t.2, m.1, m.2)

-- and back
pub both_is : {A B C : Type 0} (f : A → B → C) (x : Read A) (rest : ℕ → Read B) {a : A} {n : ℕ} {b : B} {end : ℕ} → x ≡ got a n → rest n ≡ got b end
    → both f x rest ≡ got (f a b) end
both_is f x rest {a} e g = ap (λ y. both f y rest) e ∙ ap (mapped (f a)) g

-- a view of two parts that needs the value of neither
pub viewed_both : {A B C D : Type 0} (view : C → D) (f : A → B → C) (d : D) → ((a : A) (b : B) → view (f a b) ≡ d)
    → (x : Read A) (rest : ℕ → Read B) → mapped view (both f x rest) ≡ and_then (passed x) (λ _ next. mapped (λ _. d) (passed (rest next)))
viewed_both {B = B} view f d h (got a n) rest = viewed (rest n)
  where
    viewed : (y : Read B) → mapped view (mapped (f a) y) ≡ mapped (λ _. d) (passed y)
    viewed (got b m) = rw (h a b)
    viewed (refused r) = refl
viewed_both view f d h (refused r) rest = refl

-- and of what follows a part whose value it does not need
pub viewed_then : {A B C : Type 0} (view : B → C) (f : ℕ → Read C) (x : Read A) (rest : A → ℕ → Read B) → ((a : A) (n : ℕ) → mapped view (rest a n) ≡ f n)
    → mapped view (and_then x rest) ≡ and_then (passed x) (λ _ next. f next)
viewed_then view f (got a n) rest h = h a n
viewed_then view f (refused r) rest h = refl

module _ {A : Type 0} (read : ByteReader A) (s : List ℕ) where
  -- a loop that counts down
  pub many_end : (n at : ℕ) → n ≤ 0 → passed (read_many n read s at) ≡ got tt at
  many_end zero at h = refl
  many_end (suc n) at h = absurd (omega arith)

  pub many_step : (n at : ℕ) {next : ℕ} → 0 < n → passed (read s at) ≡ got tt next
      → passed (read_many n read s at) ≡ passed (read_many (n - 1) read s next)
  many_step zero at h e = absurd (omega arith)
  many_step (suc n) at h e =
      let z : suc n - 1 ≡ n = omega arith in
      rw (passed_both, z, e)

  pub many_stop : (n at : ℕ) {r : Refusal} → 0 < n → passed (read s at) ≡ refused r → passed (read_many n read s at) ≡ refused r
  many_stop zero at h e = absurd (omega arith)
  many_stop (suc n) at h e = rw (passed_both, e)

  -- a loop that counts up to n
  pub many_done : (n i at : ℕ) → n ≤ i → passed (read_many (n - i) read s at) ≡ got tt at
  many_done n i at h = many_end (n - i) at (omega arith)

  pub many_next : (n i at : ℕ) {next : ℕ} → i < n → passed (read s at) ≡ got tt next
      → passed (read_many (n - i) read s at) ≡ passed (read_many (n - (i + 1)) read s next)
  many_next n i at h e =
      let z : n - (i + 1) ≡ n - i - 1 = omega arith in
      rw z (many_step (n - i) at (omega arith) e)

  pub many_halt : (n i at : ℕ) {r : Refusal} → i < n → passed (read s at) ≡ refused r → passed (read_many (n - i) read s at) ≡ refused r
  many_halt n i at h e = many_stop (n - i) at (omega arith) e

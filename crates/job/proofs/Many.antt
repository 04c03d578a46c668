-- Records one after the other: what holds of none, and of one more in front, holds of all that were
-- read.
use Prim.Native.Nat.{ℕ, zero, suc, ◌+◌, ◌-◌, ◌≤◌, ◌<◌}
use native.Mathlib.Nat.{zero-add, suc-add}
use mathlib.Core.Path.{◌≡◌, refl, ap, subst, ◌∙◌}
use mathlib.Core.List.{List, [], ◌∷◌, ◌++◌, map}
use native.Mathlib.Omega.{arith}
use lib.ListN.{length, get_or, drop}
use Rattle.model.specs.ReadingBytes.{Read, got, refused, ByteReader, mapped, both, read_many}
use Rattle.job.specs.Passing.{notes}
use Rattle.laws.specs.Fits.{HoldsIfRead, holds_got}
use Rattle.job.proofs.Passing.{both_got, both_is}

pub holds_mapped : {A B : Type 0} (P : A → Type 0) (Q : B → Type 0) (f : A → B) → ((a : A) → P a → Q (f a))
    → (x : Read A) → HoldsIfRead P x → HoldsIfRead Q (mapped f x)
holds_mapped P Q f h (got a n) p = h a p
holds_mapped P Q f h (refused r) p = tt

-- records of which another reader reads something else
pub many_view : {A B : Type 0} (read : ByteReader A) (other : ByteReader B) (f : A → B) (s : List ℕ)
    → ((at : ℕ) (a : A) (next : ℕ) → read s at ≡ got a next → other s at ≡ got (f a) next)
    → (n at : ℕ) {all : List A} {end : ℕ} → read_many n read s at ≡ got all end → read_many n other s at ≡ got (map f all) end
many_view read other f s h zero at {all} {end} e =
    let none : [] ≡ all = cc in
    let here : at ≡ end = cc in
    subst (λ l. got [] at ≡ got (map f l) end) none (ap (got []) here)
many_view read other f s h (suc n) at {all} {end} e =
    let t = both_got (λ first rest. first ∷ rest) (read s at) (read_many n read s) e in
    subst (λ l. read_many (suc n) other s at ≡ got (map f l) end) t.5
    (both_is (λ first rest. first ∷ rest) (other s at) (read_many n other s) (h at t.0 t.1 t.3) (many_view read other f s h n t.1 t.4))

module _ {A : Type 0} (read : ByteReader A) (s : List ℕ) where
  module _ (Q : ℕ → ℕ → List A → Type 0) (none : (at : ℕ) → Q 0 at [])
      (more : (n at next : ℕ) (a : A) (rest : List A) → read s at ≡ got a next → Q n next rest → Q (suc n) at (a ∷ rest)) where
    one_more : (n at : ℕ) → ((at : ℕ) → HoldsIfRead (Q n at) (read_many n read s at)) → (x : Read A) → read s at ≡ x
        → HoldsIfRead (Q (suc n) at) (both (λ first rest. first ∷ rest) x (read_many n read s))
    one_more n at ih (got a next) e =
        holds_mapped (Q n next) (Q (suc n) at) (λ rest. a ∷ rest) (λ rest q. more n at next a rest e q) (read_many n read s next) (ih next)
    one_more n at ih (refused r) e = tt

    pub many_holds : (n at : ℕ) → HoldsIfRead (Q n at) (read_many n read s at)
    many_holds zero at = none at
    many_holds (suc n) at = one_more n at (many_holds n) (read s at) refl

    pub many_all : (n at : ℕ) {all : List A} {end : ℕ} → read_many n read s at ≡ got all end → Q n at all
    many_all n at e = holds_got (Q n at) e (many_holds n at)

  -- the first record, and the others from the place after it
  pub many_first : (n at : ℕ) {all : List A} {end : ℕ} → 0 < n → read_many n read s at ≡ got all end
      → (a : A) × (next : ℕ) × (rest : List A) × (read s at ≡ got a next) × (read_many (n - 1) read s next ≡ got rest end) × (a ∷ rest ≡ all)
  many_first zero at h e = absurd (omega arith)
  many_first (suc n) at h e =
      let z : suc n - 1 ≡ n = omega arith in
      rw z (both_got (λ first rest. first ∷ rest) (read s at) (read_many n read s) e)

  pub many_length : (n at : ℕ) {all : List A} {end : ℕ} → read_many n read s at ≡ got all end → length all ≡ n
  many_length = many_all (λ n at all. length all ≡ n) (λ at. refl) (λ n at next a rest e q. ap suc q)

  -- records that end behind their start one by one do so together
  pub many_ends_behind : ((at : ℕ) (a : A) (next : ℕ) → read s at ≡ got a next → at ≤ next) → (n at : ℕ) {all : List A} {end : ℕ}
      → read_many n read s at ≡ got all end → at ≤ end
  many_ends_behind h zero at {all} {end} e = let same : at ≡ end = cc in omega arith
  many_ends_behind h (suc n) at {all} {end} e =
      let t = both_got (λ first rest. first ∷ rest) (read s at) (read_many n read s) e in
      let here = h at t.0 t.1 t.3 in
      let rest = many_ends_behind h n t.1 t.4 in
      omega arith

  -- one record more behind those that were read
  pub many_last : (n at : ℕ) {xs : List A} {mid : ℕ} {y : A} {end : ℕ} → read_many n read s at ≡ got xs mid → read s mid ≡ got y end
      → read_many (suc n) read s at ≡ got (xs ++ (y ∷ [])) end
  many_last zero at {xs} {mid} {y} {end} e f =
      let none : [] ≡ xs = cc in
      let here : at ≡ mid = cc in
      subst (λ l. read_many 1 read s at ≡ got (l ++ (y ∷ [])) end) none
      (both_is (λ first rest. first ∷ rest) (read s at) (read_many 0 read s) (ap (read s) here ∙ f) refl)
  many_last (suc n) at {xs} {mid} {y} {end} e f =
      let t = both_got (λ first rest. first ∷ rest) (read s at) (read_many n read s) e in
      subst (λ l. read_many (suc (suc n)) read s at ≡ got (l ++ (y ∷ [])) end) t.5
      (both_is (λ first rest. first ∷ rest) (read s at) (read_many (suc n) read s) t.3 (many_last n t.1 t.4 f))

  -- as many records more behind those that were read
  pub many_then : (n m at : ℕ) {xs : List A} {mid : ℕ} {ys : List A} {end : ℕ} → read_many n read s at ≡ got xs mid → read_many m read s mid ≡ got ys end
      → read_many (n + m) read s at ≡ got (xs ++ ys) end
  many_then zero m at {xs} {mid} {ys} {end} e f =
      let none : [] ≡ xs = cc in
      let here : mid ≡ at = cc in
      rw (zero-add m) (subst (λ l. read_many m read s at ≡ got (l ++ ys) end) none (subst (λ k. read_many m read s k ≡ got ys end) here f))
  many_then (suc n) m at {xs} {mid} {ys} {end} e f =
      let t = both_got (λ first rest. first ∷ rest) (read s at) (read_many n read s) e in
      rw (suc-add n m)
      (subst (λ l. read_many (suc (n + m)) read s at ≡ got (l ++ ys) end) t.5
      (both_is (λ first rest. first ∷ rest) (read s at) (read_many (n + m) read s) t.3 (many_then n m t.1 t.4 f)))

  -- each record that was read is noted
  pub notes_length : {B : Type 0} (f : ℕ → A → B) (n at : ℕ) {all : List A} {end : ℕ} → read_many n read s at ≡ got all end
      → length (notes f n read s at) ≡ n
  notes_length f = many_all (λ n at all. length (notes f n read s at) ≡ n) (λ at. refl) (λ n at next a rest e q. rw e (ap suc q))

  -- the k-th record is read again at the k-th place noted
  abbrev pub Again : List ℕ → List A → ℕ → Type 0
  Again places all k = (a : A) × (next : ℕ) × (read s (get_or places k 0) ≡ got a next) × (drop k all ≡ a ∷ drop (suc k) all)

  pub read_again : (n at : ℕ) {all : List A} {end : ℕ} → read_many n read s at ≡ got all end
      → (k : ℕ) → k < n → Again (notes (λ at _. at) n read s at) all k
  read_again = many_all (λ n at all. (k : ℕ) → k < n → Again (notes (λ at _. at) n read s at) all k) (λ at k h. absurd (omega arith)) more
    where
      more : (n at next : ℕ) (a : A) (rest : List A) → read s at ≡ got a next
          → ((k : ℕ) → k < n → Again (notes (λ at _. at) n read s next) rest k)
          → (k : ℕ) → k < suc n → Again (notes (λ at _. at) (suc n) read s at) (a ∷ rest) k
      more n at next a rest e q zero h = rw e (a, next, e, refl)
      more n at next a rest e q (suc k) h = rw e (q k (omega arith))

-- Bytes that stand in a job, copied: what a slice of it holds, and where it ends.
use Prim.Native.Nat.{ℕ, zero, suc, ◌+◌, ◌-◌, ◌≤◌, ◌<◌}
use native.Mathlib.Omega.{arith}
use mathlib.Core.Path.{◌≡◌, refl, sym, ap, ◌∙◌}
use mathlib.Core.List.{List, [], ◌∷◌, ◌++◌, append_assoc}
use lib.ListN.{length, get_or, take, drop, length-append, length-drop}
use lib.Seq.{slice, take-nil, drop-nil, take_at, drop-drop, drop-append_seam}
use Rattle.model.specs.ListLaws.{All}
use Rattle.laws.specs.Written.{Stand}

-- numbers that are bytes index by index
pub all_bytes : (l : List ℕ) → ((i : ℕ) → get_or l i 0 < 256) → All (λ b. b < 256) l
all_bytes [] h = tt
all_bytes (x ∷ l) h = (h 0, all_bytes l (λ i. h (suc i)))

pub slice_take : (f t : ℕ) (l : List ℕ) → slice f t l ≡ take (t - f) (drop f l)
slice_take zero t l = let e : t ≡ t - 0 = omega arith in ap (λ n. take n l) e
slice_take (suc f) zero l = let e : 0 ≡ 0 - suc f = omega arith in drop-nil (suc f) ∙ ap (λ n. take n (drop (suc f) l)) e
slice_take (suc f) (suc t) [] = sym (take-nil (suc t - suc f))
slice_take (suc f) (suc t) (x ∷ l) = let e : t - f ≡ suc t - suc f = omega arith in slice_take f t l ∙ ap (λ n. take n (drop f l)) e

module _ {s : List ℕ} {at next : ℕ} {bytes : List ℕ} (x : Stand s at bytes next) where
  -- what stands from one place up to another is the slice between them
  pub stand_slice : slice at next s ≡ bytes
  stand_slice =
      slice_take at next s ∙ ap (take (next - at)) x.here
      ∙ take_at bytes (drop next s) (next - at) (let e = x.place in omega arith)

  -- and where it has a byte, it ends within the list
  pub stand_within : 0 < length bytes → next ≤ length s
  stand_within some =
      let sizes : length s - at ≡ length bytes + (length s - next) = sym (length-drop at s) ∙ ap length x.here ∙ length-append bytes (drop next s)
      ∙ ap (λ n. length bytes + n) (length-drop next s) in
      let e = x.place in
      omega arith

-- Of two parts that stand one behind the other each stands by itself.
module _ {s : List ℕ} {at next : ℕ} (xs ys : List ℕ) (x : Stand s at (xs ++ ys) next) where
  behind : drop (at + length xs) s ≡ ys ++ drop next s
  behind =
      sym (drop-drop (length xs) at s) ∙ ap (drop (length xs)) (x.here ∙ append_assoc xs ys (drop next s))
      ∙ drop-append_seam xs (ys ++ drop next s)

  pub stand_first : Stand s at xs (at + length xs)
  stand_first = record { here = x.here ∙ append_assoc xs ys (drop next s) ∙ ap (λ l. xs ++ l) (sym behind); place = refl }

  pub stand_rest : Stand s (at + length xs) ys next
  stand_rest = record { here = behind; place = (let e = x.place in let g = length-append xs ys in omega arith) }

-- What an operation leaves at the buffer's start, where it writes: the bytes of its verdict. So
-- what holds of the bytes of a verdict holds of the bytes that functions and programs leave.
use Rattle.std.specs.Prelude.{ℕ, zero, suc, ◌<◌, ◌≡◌, refl, List, length, take, drop, pos, neg_ℤ, Ok}
use Rattle.std.proofs.Common.{arith, sym, ap, subst, ◌∙◌}
use Rattle.std.proofs.Math.Seq.{take-append_seam}
use Rattle.entries.specs.Refusals.{refusal_number, number_positive}
use Rattle.model.specs.Answer.{Verdict, writes, turns_back, program_output, number_returned, buffer_after}
use Rattle.stage.specs.Jobs.{outcome_of, Meets}

-- what a verdict writes stands at the buffer's start
written_first : (v : Verdict) (bytes before after : List ℕ) → v ≡ writes bytes → after ≡ buffer_after v before → take
    (length bytes) after ≡ bytes
written_first v bytes before after e b =
    ap (take (length bytes)) (b ∙ ap (λ v. buffer_after v before) e) ∙ take-append_seam bytes (drop (length bytes) before)

-- a length comes from a verdict that writes as many bytes
length_written : (v : Verdict) (n : ℕ) → Ok n ≡ outcome_of v → (bytes : List ℕ) × (v ≡ writes bytes) × (n ≡ length bytes)
length_written (writes bytes) n e = (bytes, refl, cc)
length_written (turns_back r) n e = absurd (let z : ◌≡◌ {A = ℕ} 0 1 = cc in omega arith)

-- the negative of a positive number is no natural number
never_negative : (n k : ℕ) → 0 < k → pos n ≡ neg_ℤ (pos k) → ⊥
never_negative n zero l e = omega arith
never_negative n (suc k) l e = let z : ◌≡◌ {A = ℕ} 0 1 = cc in omega arith

number_written : (v : Verdict) (n : ℕ) → pos n ≡ number_returned v → (bytes : List ℕ) × (v ≡ writes bytes) × (n ≡ length bytes)
number_written (writes bytes) n e = (bytes, refl, cc)
number_written (turns_back r) n e = absurd (never_negative n (refusal_number r) (number_positive r) e)

-- a property of the bytes, if the verdict writes them
abbrev pub HoldsWritten {ℓ} : (List ℕ → Type ℓ) → Verdict → Type ℓ
HoldsWritten P v = (bytes : List ℕ) → v ≡ writes bytes → P bytes

left-holds {ℓ} : (P : List ℕ → Type ℓ) (v : Verdict) → HoldsWritten P v → (before after : List ℕ) (n : ℕ)
    → (bytes : List ℕ) × (v ≡ writes bytes) × (n ≡ length bytes) → after ≡ buffer_after v before → P (take n after)
left-holds P v holds before after n w b =
    let first : take n after ≡ w.0 = ap (λ k. take k after) w.2 ∙ written_first v w.0 before after w.1 b in
    subst P (sym first) (holds w.0 w.1)

-- it holds of the n bytes of an outcome
pub outcome-holds {ℓ} : (P : List ℕ → Type ℓ) (v : Verdict) → HoldsWritten P v → (before after : List ℕ) (n : ℕ)
    → Meets v (Ok n) before after → P (take n after)
outcome-holds P v holds before after n m = left-holds P v holds before after n (length_written v n m.outcome) m.buffer

-- of the n bytes of a number that a C function returns
pub number-holds {ℓ} : (P : List ℕ → Type ℓ) (v : Verdict) → HoldsWritten P v → (before after : List ℕ) (n : ℕ)
    → pos n ≡ number_returned v → after ≡ buffer_after v before → P (take n after)
number-holds P v holds before after n r b = left-holds P v holds before after n (number_written v n r) b

-- of the output of a program
pub output-holds {ℓ} : (P : List ℕ → Type ℓ) (v : Verdict) → HoldsWritten P v → (written : List ℕ) → v ≡ writes written
    → P (program_output v)
output-holds P v holds written e = subst P (sym (ap program_output e)) (holds written e)

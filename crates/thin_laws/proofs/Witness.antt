-- The hypotheses of the theorems can be met. Computed here: a job in bytes, with repeats, whose
-- thin job is shorter and has an answer; and a job that is refused by 3. That there is a job which
-- 9 refuses is tested, not computed.
use Rattle.std.specs.Prelude.{ℕ, ◌≤◌, ◌<◌, ◌≡◌, refl, false, List, [], ◌∷◌, length, replicate, ltb}
use Rattle.std.proofs.Common.{arith, sym, ◌∙◌}
use Rattle.entries.specs.declared.Refusal.TheVariants.{MissingByte}
use Rattle.model.specs.Tests.{ltb_false}
use Rattle.model.specs.ListLaws.{All, all_map}
use Rattle.model.specs.Answer.{writes, turns_back, least_buffer, answer_of}
use Rattle.model.specs.Thin.{least_thin_buffer, thin_of}
use Rattle.model.specs.ThinExamples.{repeating, thin, repeating_thinned}
use Rattle.laws.specs.Membership.{none_any}
use Rattle.thin_laws.specs.Theorems.{thin_same}

pub repeating_bytes : All (λ b. b < 256) repeating
repeating_bytes = all_map (λ b. ltb 255 b ≡ false) (λ b. b < 256) (λ b f. let most = ltb_false 255 b f in omega arith) repeating
    (none_any (ltb 255) repeating refl)

pub repeating_shorter : length thin < length repeating
repeating_shorter = omega arith

-- AN, 1 path, 1 round, settled; DE 1.10
abbrev answer : List ℕ
answer =
    0x41 ∷ 0x4E ∷ 1 ∷ 0 ∷ 1 ∷ 1 ∷
    0x44 ∷ 0x45 ∷ 1 ∷ 0 ∷ 0 ∷ 0 ∷ 1 ∷ 6 ∷ 0 ∷ 0 ∷ 0 ∷ 1 ∷ 0 ∷ 0 ∷ 10 ∷ 0 ∷ 0 ∷ 0 ∷ 0 ∷ 0 ∷ 0 ∷ 0 ∷ 6 ∷ 0 ∷ 0 ∷ 0 ∷ []

thin_answered : answer_of thin (replicate least_buffer 0) ≡ writes answer
unfolding answer_of
thin_answered = refl

-- so the job with repeats has this answer
pub repeating_answered : answer_of repeating (replicate least_buffer 0) ≡ writes answer
repeating_answered =
    sym (thin_same repeating (replicate least_thin_buffer 0) thin repeating_bytes repeating_thinned (replicate least_buffer 0)).0
    ∙ thin_answered

-- The empty job is refused by 3, for its thin job and for its answer, in buffers that are long
-- enough.

pub empty_not_thinned : thin_of [] (replicate least_thin_buffer 0) ≡ turns_back MissingByte
unfolding thin_of
empty_not_thinned = refl

pub empty_not_answered : answer_of [] (replicate least_buffer 0) ≡ turns_back MissingByte
unfolding answer_of
empty_not_answered = refl

pub buffers_long_enough :
    (least_thin_buffer ≤ length (replicate {A = ℕ} least_thin_buffer 0)) × (least_buffer ≤ length (replicate {A = ℕ} least_buffer 0))
buffers_long_enough = (omega arith, omega arith)

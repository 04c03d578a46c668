-- What stands at the buffer's start after an operation, and after RF and a number were put there,
-- is what the program writes.
use Prim.Native.Nat.{ℕ, ◌≤◌}
use native.Mathlib.Omega.{arith}
use mathlib.Core.Path.{◌≡◌, refl, sym, ap, subst, ◌∙◌}
use mathlib.Core.List.{List, [], ◌∷◌, ◌++◌}
use lib.ListN.{length, drop, replicate, length-replicate}
use Rattle.entries.specs.declared.Refusal.{Refusal}
use Rattle.entries.specs.Refusals.{refusal_number}
use Rattle.model.specs.Tests.{ltb_not_less}
use Rattle.model.specs.Answer.{
  Verdict,
  writes,
  turns_back,
  within_lengths,
  least_buffer,
  longest_job,
  answer_writing,
  answer_of,
  answer_program,
  sheet_bytes,
  sheet_of,
  sheet_program,
  buffer_after,
  program_output,
}
use Rattle.model.specs.Propagation.{done_neighbours}
use Rattle.model.specs.Strict.{strict_neighbours, strict_answer_of, strict_answer_program, strict_sheet_of, strict_sheet_program}
use Rattle.model.specs.Thin.{least_thin_buffer, thin_of, thin_program}
use Rattle.std.specs.Prelude.{Result, Ok, Err}
use Rattle.stage.specs.Jobs.{outcome_of, Meets}
use Rattle.run.specs.declared.Program.{Program}
use Rattle.run.specs.declared.Program.TheVariants as program
use Rattle.run.specs.Programs.{program_of, operation_of, bytes_lent, read_and, read_and_thin, Responds}

-- Where a buffer is long enough, the verdict does not depend on it.
by_room : (least : ℕ) (s out : List ℕ) (rest : Verdict) → least ≤ length out
    → within_lengths least longest_job s out rest ≡ within_lengths least longest_job s (replicate least 0) rest
by_room least s out rest wide =
    let size = length-replicate {A = ℕ} least 0 in
    rw (ltb_not_less (length out) least wide, ltb_not_less (length (replicate {A = ℕ} least 0)) least (omega arith))

-- A buffer of the program's length gives the program's output.
output : (p : Program) (s out : List ℕ) → length out ≡ bytes_lent → program_output (operation_of p s out) ≡ program_of p s
unfolding answer_program answer_of sheet_program sheet_of strict_answer_program strict_answer_of strict_sheet_program strict_sheet_of thin_program thin_of
output program.Answer s out e = ap program_output (by_room least_buffer s out (read_and done_neighbours answer_writing s) (omega arith))
output program.Sheet s out e = ap program_output (by_room least_buffer s out (read_and done_neighbours sheet_bytes s) (omega arith))
output program.StrictAnswer s out e = ap program_output (by_room least_buffer s out (read_and strict_neighbours answer_writing s) (omega arith))
output program.StrictSheet s out e = ap program_output (by_room least_buffer s out (read_and strict_neighbours sheet_bytes s) (omega arith))
output program.Thin s out e = ap program_output (by_room least_thin_buffer s out (read_and_thin s) (omega arith))

-- What an outcome says of the verdict and the buffer.
abbrev Stands : Verdict → List ℕ → List ℕ → Result ℕ Refusal → Type 0
Stands v before after (Ok n) = (after ≡ program_output v ++ drop n before) × (n ≡ length (program_output v))
Stands v before after (Err r) = (v ≡ turns_back r) × (after ≡ before)

stands : (v : Verdict) (before after : List ℕ) → after ≡ buffer_after v before → Stands v before after (outcome_of v)
stands (writes bytes) before after e = (e, refl)
stands (turns_back r) before after e = (refl, e)

meets_stands : {v : Verdict} {o told : Result ℕ Refusal} {before after : List ℕ} → Meets v o before after → o ≡ told → Stands v before after told
meets_stands {v} {o} {told} {before} {after} m e = subst (Stands v before after) (sym m.outcome ∙ e) (stands v before after m.buffer)

module _ (p : Program) (s before after : List ℕ) {o : Result ℕ Refusal} (size : length before ≡ bytes_lent)
    (m : Meets (operation_of p s before) o before after) where
  -- The operation's bytes are the output.
  pub written : {n : ℕ} → o ≡ Ok n → Responds p s before after n
  written {n} e =
      let w = meets_stands m e in
      let out = output p s before size in
      record { buffer = w.0 ∙ ap (λ (bytes : List ℕ). bytes ++ drop n before) out; size = w.1 ∙ ap length out }

  -- RF and the number are the output.
  refusal_output : {r : Refusal} → o ≡ Err r → 0x52 ∷ 0x46 ∷ refusal_number r ∷ [] ≡ program_of p s
  refusal_output e = sym (ap program_output (meets_stands m e).0) ∙ output p s before size

  pub refused : {r : Refusal} {k : ℕ} {told : List ℕ} → o ≡ Err r → k ≡ refusal_number r → told ≡ 0x52 ∷ 0x46 ∷ k ∷ []
      → Responds p s before (told ++ drop 3 after) 3
  refused {r} {k} {told} e n put =
      let out : told ≡ program_of p s = put ∙ ap (λ (x : ℕ). 0x52 ∷ 0x46 ∷ x ∷ []) n ∙ refusal_output e in
      record {
        buffer = ap (λ (bytes : List ℕ). bytes ++ drop 3 after) out ∙ ap (λ (xs : List ℕ). program_of p s ++ drop 3 xs) (meets_stands m e).1;
        size = ap length (sym put ∙ out);
      }

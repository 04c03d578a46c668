-- What was read of a reader's bytes is as many of them as a program looks at, so what is written of
-- it is what the program writes of all.
use Rattle.std.proofs.Common.{
  ℕ,
  ◌≤◌,
  ◌<◌,
  ◌≡◌,
  List,
  ◌++◌,
  length,
  take,
  drop,
  None,
  Some,
  IfSome,
  arith,
  sym,
  ap,
  ◌∙◌,
  subst,
  append-nil,
  length-take-le,
  take_all,
}
use Rattle.std.proofs.lemmas.List.{take-append-le}
use Rattle.std.proofs.Math.Seq.{take-append_seam}
use Rattle.std.specs.Io.KnownBytes.{Consumes, IsAtEnd}
use Rattle.std.specs.declared.option.Option.{Option}
use Rattle.model.specs.Tests.{decide, ltb_true, ltb_false}
use Rattle.std.specs.Prelude.{ltb}
use Rattle.run.specs.declared.Program.{Program}
use Rattle.run.specs.Programs.{program_of, bytes_read, first_bytes, Responds}

-- The first bytes of all are those that were read, where the space was filled or nothing is left.
firsts : (s xs ys : List ℕ) → length s ≤ bytes_read → xs ≡ s ++ ys → (length s < bytes_read → IsAtEnd (Some ys)) → take bytes_read xs ≡ s
firsts s xs ys few e end =
    ap (take bytes_read) e
    ∙ decide
    (ltb (length s) bytes_read)
    (λ less. ap (λ l. take bytes_read (s ++ l)) (end (ltb_true (length s) bytes_read less)) ∙ ap (take bytes_read) (append-nil s))
    (λ full. take-append-le bytes_read s ys (ltb_false (length s) bytes_read full))
    ∙ take_all bytes_read s few

-- What holds of the bytes that are to be written holds of what the program writes of all.
pub of_job : (P : List ℕ → Type 0) (p : Program) (a b : Option (List ℕ)) (space before after : List ℕ) {n m : ℕ}
    → length space ≡ bytes_read
    → n ≤ length space
    → Consumes a b (take n space)
    → (n < length space → IsAtEnd b)
    → Responds p (take n space) before after m
    → P (take m after)
    → IfSome a (λ job. P (program_of p job))
of_job P p None b space before after size room c end r h = tt
of_job P p (Some xs) None space before after size room c end r h = absurd c
of_job P p (Some xs) (Some ys) space before after {n} {m} size room c end r h =
    let s = take n space in
    let long : length s ≡ n = length-take-le n space room in
    let first = firsts s xs ys (omega arith) c (λ less. end (omega arith)) in
    let written : take m after ≡ program_of p s =
    ap (take m) r.buffer ∙ ap (λ k. take k (program_of p s ++ drop m before)) r.size ∙ take-append_seam (program_of p s) (drop m before) in
    subst P (written ∙ ap (program_of p) (sym first) ∙ first_bytes p xs) h

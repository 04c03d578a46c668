-- What a write takes stands behind what the writer has got so far.
use Rattle.std.proofs.Common.{◌≡◌, ℕ, ◌+◌, ◌-◌, ◌≤◌, List, ◌++◌, arith, length, take, drop, sym, ap, ◌∙◌, subst, length-drop, take_all}
use Rattle.std.specs.Io.KnownBytes.{Appends}
use Rattle.std.proofs.KnownBytes.{Appends-trans}
use Rattle.std.proofs.Math.Seq.{take-add}
use Rattle.std.proofs.lemmas.List.{drop-drop}
use Rattle.run.proofs.write_full.Goals as goal

-- the rest without its first t, and what stands before it
module _ (all rest : List ℕ) (t : ℕ) (few : length rest ≤ length all) (is : rest ≡ drop (length all - length rest) all) (within : t ≤ length rest) where
  abbrev left : List ℕ
  left = take (length rest - t) (drop t rest)

  all_left : left ≡ drop t rest
  all_left = take_all (length rest - t) (drop t rest) (let s = length-drop t rest in omega arith)

  left_size : length left ≡ length rest - t
  left_size = ap length all_left ∙ length-drop t rest

  left_few : length left ≤ length all
  left_few = let s = left_size in omega arith

  done : (length all - length rest) + t ≡ length all - length left
  done = let s = left_size in omega arith

  left_is : left ≡ drop (length all - length left) all
  left_is =
      all_left ∙ ap (drop t) is ∙ drop-drop t (length all - length rest) all ∙ ap (λ n. drop n all) done

  before : take (length all - length rest) all ++ take t rest ≡ take (length all - length left) all
  before =
      ap (λ l. take (length all - length rest) all ++ take t l) is ∙ sym (take-add (length all - length rest) t all) ∙ ap (λ n. take n all) done

pub loop-rest-preserved : goal.loop-rest-preserved
loop-rest-preserved g c =
    let i = c.loop-rest.invariant in
    let all = c.args.bytes.now in
    let rest = c.loop-rest.rest.now in
    let t = c.in_ok-taken.taken in
    let within : t ≤ length rest = omega (arith, c.in_ok-taken.ensures.bound) in (
      left_few all rest t i.0 i.1 within,
      left_is all rest t i.0 i.1 within,
      subst (Appends _ _) (before all rest t i.0 i.1 within) (Appends-trans _ _ _ _ _ i.2 c.in_ok-taken.ensures.bytes),
    )

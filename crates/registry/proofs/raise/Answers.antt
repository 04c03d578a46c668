-- The quarter has room for the rise, so that neither the shift nor the sum loses a bit.
use mir.Syntax.{w64}
use mir.Val.{Fits}
use mathlib.Core.Path.{ap}
use Prim.Native.Nat.{ℕ, ◌+◌}
use Rattle.registry.proofs.Quarters.{word_fits, whole_rise}
use borrow.Author.Rules.{rules}
use Rattle.registry.proofs.raise.Goals as goal

pub returns : goal.returns
returns c =
    let f : Fits w64 c.args.ends = search rules in
    ap (λ (x : ℕ). c.args.ends + x) (whole_rise c.args.ends c.args.rise f.fits c.args.i c.requires.0 c.requires.1)

pub overflow_add-result : goal.overflow_add-result
overflow_add-result c =
    let f : Fits w64 c.args.ends = search rules in
    rw (whole_rise c.args.ends c.args.rise f.fits c.args.i c.requires.0 c.requires.1)
    (record { fits = word_fits c.args.ends c.args.rise f.fits c.args.i c.requires.0 c.requires.1 })

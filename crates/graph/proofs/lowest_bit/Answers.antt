-- `lowest_bit` meets its contract: the word, moved down to the place, holds its bits from there on.
-- Where it is 0 none of them is set, and else its trailing zeros lead to the lowest.
use mir.Syntax.{w64}
use mir.Val.{Fits}
use native.Mathlib.Omega.{arith}
use borrow.Author.Rules.{rules}
use Rattle.graph.proofs.Lowest.{none_left, some_left}
use Rattle.graph.proofs.lowest_bit.Goals as goal

pub returns-then-left-eq0 : goal.returns-then-left-eq0
returns-then-left-eq0 c = none_left c.args.w c.args.from c.requires c.if-left-eq0.true

pub returns : goal.returns
returns c =
    let w : Fits w64 c.args.w = search rules in
    some_left c.args.w c.args.from c.requires w.fits (omega arith)

-- `NodeBits::same_set` meets its contract. Words that differ differ in a bit, so in the test of a
-- node, and the sets are not the same; where all eight are equal, every test answers the same.
use mir.Syntax.{w64}
use mir.Val.{Fits}
use mathlib.Core.Path.{◌∙◌}
use lib.ListN.{get_or}
use Rattle.rows.proofs.Members.{words_equal}
use borrow.Author.Rules.{rules}
use Rattle.rows.proofs.NodeBits.same_set.Goals as goal

pub returns : goal.returns
returns c =
    c.eq.ensures
    ∙ words_equal c.args.self.words c.args.other.words (search rules) (search rules)
    (λ i. let a : Fits w64 (get_or c.args.self.words i 0) = search rules in a.fits)
    (λ i. let b : Fits w64 (get_or c.args.other.words i 0) = search rules in b.fits)

-- Lists of the same length are equal where the entries of each pair are the same, and others are
-- not.
use Rattle.std.proofs.Common.{rules, ◌∙◌}
use Rattle.std.proofs.lemmas.Iterator.{YieldsList-from_slice, YieldsList-from_zip}
use Rattle.std.proofs.lemmas.Iterator.Search.{all_from_yields_List}
use Rattle.entries.specs.Path.{same_entry}
use Rattle.entries.proofs.EqualPaths.{by_pairs}
use Rattle.entries.proofs.are_equal_paths.Goals as goal

pub returns-then-a-b : goal.returns-then-a-b
returns-then-a-b c =
    all_from_yields_List (λ p. same_entry p.0 p.1) c.all.new.self _ _ c.all.ensures.ran
    (YieldsList-from_zip (YieldsList-from_slice c.args.a.now cc) (YieldsList-from_slice c.args.b.now cc)) (λ x b q k. search rules)
    ∙ by_pairs c.args.a.now c.args.b.now (search rules)

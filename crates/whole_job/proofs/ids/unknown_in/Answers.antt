-- An id is unknown where `contains` does not find it.
use Rattle.std.proofs.Common.{not, rules, tests, ◌∙◌}
use Rattle.std.proofs.lemmas.Iterator.{YieldsList-from_slice}
use Rattle.std.proofs.lemmas.Iterator.Search.{any_from_yields_List}
use Rattle.whole_job.proofs.IdLists.{found_in, unknown_is}
use Rattle.whole_job.proofs.ids.unknown_in.Goals as goal

pub returns : goal.returns
returns c =
    let ids = c.args.ids.now in
    let known = c.args.known.now in
    any_from_yields_List (λ x. not (found_in known x)) _ _ c.any.result c.any.ensures.ran (YieldsList-from_slice ids cc) (λ x b q k. search (rules, tests))
    ∙ unknown_is known ids

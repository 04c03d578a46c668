-- The loop's invariant, `Deciding`: what the paths that are left decide beside what is known, all
-- decide.
use mathlib.Core.List.{[], map}
use Rattle.rows.specs.Members.{members_of, members_from}
use Rattle.registry.specs.Words.{registry_of}
use Rattle.model.specs.Registry.{full_path_of}
use Rattle.hoistable.specs.Candidate.{entries_at}
use Rattle.hoistable.specs.Agreement.{decided}
use Rattle.hoistable.proofs.Deciding.{Deciding}
use Rattle.hoistable.proofs.decided_levels.Given as goal

abbrev pub invariant-loop-k : goal.invariant-loop-k
invariant-loop-k l =
    let es = entries_at l.candidate.entries.left l.s l.candidate.entries.at in
    Deciding l.candidate.identifier es l.nodes.words.now
    (decided l.candidate.identifier es [] [] (map (full_path_of (registry_of l.nodes.words.now)) (members_of l.fn.set.words))) l.ahead l.rest
    (members_from l.k-iterator.set.now.words l.k-iterator.from)

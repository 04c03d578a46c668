use Prim.Native.Nat.{ℕ, ◌<◌}
use native.Mathlib.Omega.{arith}
use native.Mathlib.Nat.{lt_trans}
use mathlib.Core.Path.{sym, ap, subst, ◌∙◌}
use lib.Dec.{eqb}
use Rattle.entries.specs.Path.{ReactiveScopeDependency}
use Rattle.model.specs.Job.{read_entry}
use Rattle.job.proofs.Many.{many_length}
use Rattle.hoistable.specs.Candidate.{entries_at}
use Rattle.hoistable.proofs.Steps.{agrees_small, agrees_rest}
use Rattle.hoistable.proofs.Nodes.{root_path, child_path}
use Rattle.hoistable.proofs.+follow.Goals as goal

pub follow-before-requires : goal.follow-before-requires
follow-before-requires t c =
    let after = (child_path c.args.nodes.words.now c.args.nodes.holds.sound c.args.k c.requires.1 c.load.result c.load.ensures
    c.in-Child.is).after in
    (subst (λ (j : ℕ). c.in-Child.p.0 < j) c.decreases after, (c.requires.0, lt_trans after c.requires.1))

pub further-requires : goal.further-requires
further-requires t c = (agrees_small c.follow-before.ensures, agrees_rest c.follow-before.ensures)

pub returns-in-Root : goal.returns-in-Root
returns-in-Root t c =
    let path = root_path c.args.nodes.words.now c.args.nodes.holds.sound c.args.k c.requires.1 c.load.result c.load.ensures c.in-Root.is in
    c.at_root.ensures c.args.s.now c.args.candidate.identifier (entries_at c.args.candidate.entries.left c.args.s.now c.args.candidate.entries.at) _
    (ap (λ (d : ReactiveScopeDependency). d.path) path)
    (c.eq.ensures ∙ sym (ap (λ (d : ReactiveScopeDependency). eqb d.identifier.0 c.args.candidate.identifier.0) path)) c.requires.0.reads

pub returns-in-Child : goal.returns-in-Child
returns-in-Child t c =
    let stands = child_path c.args.nodes.words.now c.args.nodes.holds.sound c.args.k c.requires.1 c.load.result c.load.ensures c.in-Child.is in
    let candidate = c.requires.0 in
    let long = many_length (read_entry 4) c.args.s.now c.args.candidate.entries.left c.args.candidate.entries.at candidate.reads.read in
    let few = candidate.few in
    c.further.ensures c.args.candidate.identifier
    (entries_at c.args.candidate.entries.left c.args.s.now c.args.candidate.entries.at) _ _ (omega arith) stands.child
    c.follow-before.ensures

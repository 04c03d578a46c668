-- `enter_path` says where the path's node is and how many nodes were made, or that there was no
-- room; the node joins the set.
use mathlib.Core.Path.{refl}
use borrow.Author.Rules.{rules}
use Rattle.model.specs.Job.{read_path_fields}
use Rattle.registry.specs.Words.{registry_of}
use Rattle.assumed.proofs.Filling.{one_inside, one_few}
use Rattle.assumed.proofs.EnteredSet.enter_fields.Goals as goal

pub insert-requires : goal.insert-requires
insert-requires c =
    let a = c.args.registry.now in
    one_inside (registry_of a.words) _ _ c.in_ok-path.path a.words a.optional.words a.held refl
    (read_path_fields 4 c.args.s.now c.args.at) c.in_ok-path.ensures

pub overflow_add-self : goal.overflow_add-self
overflow_add-self c =
    let few = one_few (registry_of c.args.registry.now.words) _ _ c.in_ok-path.path c.args.self.now.made c.requires.0
    (read_path_fields 4 c.args.s.now c.args.at) c.in_ok-path.ensures in
    search rules

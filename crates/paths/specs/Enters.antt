-- What entering a record of the job gives, beside what reading it gave.
use Rattle.std.specs.Prelude.{ℕ, ◌≡◌, List, Result, Ok, Err}
use Rattle.entries.specs.declared.NodeId.{NodeId}
use Rattle.entries.specs.declared.Refusal.{Refusal}
use Rattle.entries.specs.declared.DependencyPathEntry.{DependencyPathEntry}
use Rattle.model.specs.ReadingBytes.{Read, got, refused}
use Rattle.model.specs.Registry.{PropertyPathRegistry, Reached, walk_from, own_mark}
use Rattle.registry.specs.Words.{Arrives}
use Rattle.paths.specs.declared.EnteredPath.{EnteredPath}

-- down from a node by entries under their own marks, after so many nodes were made
abbrev pub walk_own : PropertyPathRegistry → NodeId → ℕ → List DependencyPathEntry → Reached
walk_own reg k made es = walk_from own_mark (record { registry = reg; node = k; made = made }) es

-- The record that reads to a value leads to the node that `reach` gives for it, with as many nodes
-- made on the way, and with the place after the record; or the registry has no room for that, which
-- is refusal 9 (by the model's `within_nodes`).
abbrev pub Enters : {A : Type 0} → Read A → (A → Reached) → Result EnteredPath Refusal → List ℕ → List ℕ → Type 0
Enters (got a next) reach (Ok p) ws os = Arrives (reach a) (Ok (p.node, p.made)) ws os × (p.next ≡ next)
Enters (got a next) reach (Err e) ws os = Arrives (reach a) (Err e) ws os
Enters (refused r) reach answer ws os = ⊥

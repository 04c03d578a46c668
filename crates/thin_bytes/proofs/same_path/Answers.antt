-- Paths with other identifiers, or with another number of entries, are not the same; with the same
-- ones they are where their entries are equal.
use borrow.Author.Rules.{rules}
use Rattle.thin_bytes.proofs.SamePaths.{other_identifier, other_count}
use Rattle.thin_bytes.proofs.same_path.Goals as goal
use Rattle.thin_bytes.proofs.same_path.Goals.{then-ne-via-then-ne, then-ne-via-else-ne+then-a-b}

pub returns-then-ne : goal.returns-then-ne
returns-then-ne c =
    elim c.then-ne.branch [
      | then-ne-via-then-ne w ↦ other_identifier _ _ _ _ _ (search rules)
      | then-ne-via-else-ne+then-a-b w ↦ other_count _ _ _ _ _ w.if-a-b.true
    ]

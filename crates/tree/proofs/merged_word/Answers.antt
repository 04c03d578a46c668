-- The word is packed again with the merged access, and its links are put above it.
use Prim.Native.Nat.{◌+◌, ◌*◌, ◌/◌}
use mathlib.Core.Path.{ap, ◌∙◌}
use Rattle.tree.proofs.merged_word.Goals as goal

pub returns : goal.returns
returns c =
    let w = c.args.w in
    ap (λ v. v + w / 17179869184 * 17179869184)
    (c.pack.ensures.0 ∙ rw (c.merge.ensures, c.place_in.ensures.0, c.parent_in.ensures.0, c.access_in-access.ensures))

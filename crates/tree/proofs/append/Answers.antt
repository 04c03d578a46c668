-- The link of the last child, or of the parent, is set; the step's word is stored, and counted.
use native.Mathlib.Omega.{arith}
use Prim.Native.Nat.{◌+◌, ◌-◌}
use mathlib.Core.Path.{◌≡◌, refl, sym, ap, subst, ◌∙◌}
use lib.ListN.{length, get_or, set}
use lib.Dec.{eqb}
use Rattle.tree.specs.Words.{link_in}
use Rattle.tree.specs.Tree.{count_in, linked_words}
use Rattle.tree.proofs.Appending.{link_free}
use Rattle.tree.proofs.append.Goals as goal

pub link-requires : goal.link-requires
link-requires c =
    let a = c.args in
    let ws = a.tree.now in
    let room = c.requires.room in
    let short = c.requires.sized.short in
    let within = c.requires.last.within in (
      omega arith,
      omega arith,
      λ some. subst (λ p. link_in (eqb a.last p) (get_or ws (a.last - 1) 0) ≡ 0) (sym c.parent_in.ensures.0)
          (link_free ws a.last a.step c.requires some),
    )

pub returns : goal.returns
returns c =
    let a = c.args in
    let ws = a.tree.now in
    record {
      last = refl;
      is = ap (λ us. set (set us (count_in ws) a.step) (length ws - 1) (count_in ws + 1))
          (c.link.ensures ∙ ap (λ c. linked_words ws c a.last (count_in ws + 1)) c.parent_in.ensures.0);
    }

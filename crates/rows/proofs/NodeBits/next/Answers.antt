use mir.Syntax.{w64}
use mir.Val.{Fits}
use Prim.Native.Nat.{◌/◌}
use native.Mathlib.Omega.{arith}
use mathlib.Core.Path.{◌≡◌, sym, ◌∙◌, ap}
use lib.ListN.{get_or}
use Rattle.rows.specs.Members.{first_of}
use Rattle.rows.proofs.Ahead.{left, none_past, word_passed, member_found}
use borrow.Author.Rules.{rules}
use Rattle.rows.proofs.NodeBits.next.Goals as goal

pub returns-then-left-ne0 : goal.returns-then-left-ne0
returns-then-left-ne0 c =
    let k = c.loop-at.k in
    let ws = c.args.self.now.words in
    let here : k / 64 ≡ c.loop-at.at = c.loop-at.invariant.0 in
    let w : Fits w64 (get_or ws (k / 64) 0) = search rules in
    let some : left ws k ≡ 0 → ⊥ = rw here c.if-left-ne0.true in
    rw (← here) (sym (member_found ws k (omega arith) w.fits (omega arith)) ∙ c.loop-at.invariant.1)

pub loop-at-preserved : goal.loop-at-preserved
loop-at-preserved c =
    let k = c.loop-at.k in
    let ws = c.args.self.now.words in
    let here : k / 64 ≡ c.loop-at.at = c.loop-at.invariant.0 in
    let none : left ws k ≡ 0 = rw here c.if-left-ne0.false in
    (omega arith, rw (← here) (sym (ap first_of (word_passed ws k (omega arith) none)) ∙ c.loop-at.invariant.1))

pub returns : goal.returns
returns c = sym (ap first_of (none_past c.args.self.now.words c.loop-at.k (omega arith))) ∙ c.loop-at.invariant.1

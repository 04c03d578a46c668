-- Each operation's bytes, by its own writer.
use mathlib.Core.Path.{sym, subst}
use Rattle.stage.specs.Jobs.{PutsJob}
use Rattle.stage.proofs.Putting.{puts_sheet}
use Rattle.stage.proofs.Accepting.{accepts}
use Rattle.stage.proofs.Accepted.put.Goals as goal

pub returns-in-Answer : goal.returns-in-Answer
returns-in-Answer c =
    let a = c.args in
    subst (λ op. PutsJob op a.self.now.s.now a.self.now.head a.sets.now a.registry.now.words a.nodes_before a.run a.out.now
    c.put_answer.new.out c.put_answer.result) (sym c.in-Answer.is) (c.put_answer.ensures a.nodes_before)

pub returns-in-Sheet : goal.returns-in-Sheet
returns-in-Sheet c =
    let a = c.args in
    subst (λ op. PutsJob op a.self.now.s.now a.self.now.head a.sets.now a.registry.now.words a.nodes_before a.run a.out.now
    c.put_sheet.new.out c.put_sheet.result) (sym c.in-Sheet.is)
    (puts_sheet (accepts a.self.now) a.sets.now a.registry.now.words a.registry.now.held.sized a.nodes_before a.run _ _ _ c.requires.1 c.put_sheet.ensures)

pub put_sheet-requires : goal.put_sheet-requires
put_sheet-requires c =
    ((accepts c.args.self.now).noted.few, c.requires.2.rows, c.requires.1)

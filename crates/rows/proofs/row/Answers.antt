-- `row` meets its contract: a row is known by its eight words, which are copied.
use Rattle.rows.proofs.Rows.{row_copied}
use borrow.Author.Rules.{rules}
use Rattle.rows.proofs.row.Goals as goal

pub returns : goal.returns
returns c = row_copied c.from_fn.result c.args.ws.now c.args.b (search rules)

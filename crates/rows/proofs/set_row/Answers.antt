-- `set_row` meets its contract: the row's words are copied, all others are as at entry, and a row
-- whose words are as at entry is so too.
use Prim.Native.Nat.{◌+◌, ◌*◌, ◌-◌}
use native.Mathlib.Omega.{arith}
use Rattle.std.proofs.lemmas.Slice.{put_mid-paste}
use Rattle.rows.proofs.Rows.{row_stored}
use borrow.Author.Rules.{rules}
use Rattle.rows.proofs.set_row.Goals as goal

pub returns : goal.returns
returns c =
    let at = c.args.b * 8 in
    rw (put_mid-paste at (at + 8 - at) c.args.ws.now c.copy_from_slice.new.self c.args.s.words 8 c.copy_from_slice.ensures.after (omega arith) (search rules))
    (row_stored c.args.ws.now c.args.b c.args.s.words c.requires (search rules))

-- Where the operation wrote, its bytes stand at the buffer's start already; where it refused, three
-- bytes are put there.
use Rattle.run.proofs.Responding.{written, refused}
use Rattle.run.proofs.respond.Goals as goal

pub returns-in-Ok : goal.returns-in-Ok
returns-in-Ok c = written c.args.program c.args.job.now c.args.out.now _ c.requires c.perform.ensures c.in-Ok.is

pub returns-in-Err : goal.returns-in-Err
returns-in-Err c =
    refused c.args.program c.args.job.now c.args.out.now _ c.requires c.perform.ensures c.in-Err.is c.from.ensures c.copy_from_slice.ensures.after

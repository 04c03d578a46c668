-- What was written is what the program writes of all bytes of the reader, or the first of it where
-- a write has failed.
use Rattle.std.proofs.Common.{rules, refl}
use Rattle.std.specs.Io.KnownBytes.{Appends}
use Rattle.run.specs.Fronts.{AppendsFront}
use Rattle.run.proofs.Between.{of_job}
use Rattle.run.proofs.run_between.Goals as goal

pub respond-n-requires : goal.respond-n-requires
respond-n-requires g c = refl

pub returns-clause-bytes : goal.returns-clause-bytes
returns-clause-bytes g c =
    of_job (Appends _ _) c.args.program _ _ _ _ _
    (search rules) c.in_ok-got.ensures.room c.in_ok-got.ensures.bytes c.in_ok-got.ensures.end c.respond-n.ensures
    c.in_ok-write_full.ensures.all

pub returns-in_err-write_full-clause-err : goal.returns-in_err-write_full-clause-err
returns-in_err-write_full-clause-err g c =
    let written = of_job (AppendsFront _ _) c.args.program _ _ _ _ _
    (search rules) c.in_ok-got.ensures.room c.in_ok-got.ensures.bytes c.in_ok-got.ensures.end c.respond-n.ensures
    c.in_err-write_full.ensures.err in
    search rules

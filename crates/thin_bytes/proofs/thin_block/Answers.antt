-- The paths are written behind the place of what stands before them, and then that, with their
-- number. A block that was read has its head, its ids and its raw reads.
use native.Mathlib.Omega.{arith}
use mathlib.Core.Path.{sym}
use borrow.Author.Rules.{rules}
use Rattle.job.proofs.BlockAgain.{head_there, ids_there, reads_there}
use Rattle.thin_bytes.proofs.Copied.{all_bytes}
use Rattle.thin_bytes.proofs.OneBlock.{paths_wanted, before_paths, count_wanted, block_thinned}
use Rattle.thin_bytes.proofs.thin_block.Goals as goal

pub returns-in_default : goal.returns-in_default
returns-in_default c = let x = c.requires in absurd (head_there _ _ x.block x.next x.read (sym c.in_default.ensures))

pub returns-in_default-past_ids : goal.returns-in_default-past_ids
returns-in_default-past_ids c =
    let x = c.requires in
    absurd (ids_there _ _ x.block x.next x.read (sym c.in-Ok.ensures) (sym c.in_default-past_ids.ensures))

pub returns-in_default-past_raw_reads : goal.returns-in_default-past_raw_reads
returns-in_default-past_raw_reads c =
    let x = c.requires in
    absurd (reads_there _ _ x.block x.next x.read (sym c.in-Ok.ensures) (sym c.in-Ok-past_ids.ensures) (sym c.in_default-past_raw_reads.ensures))

pub overflow_sub-w : goal.overflow_sub-w
overflow_sub-w c =
    let bytes = all_bytes c.args.s.now (λ j. let fits = (c.type_inv.s j).fits in omega arith) in
    let low = (before_paths c.requires bytes (sym c.in-Ok.ensures) (sym c.in-Ok-past_ids.ensures) (sym c.in-Ok-past_raw_reads.ensures)).0 in
    search rules

pub overflow_add-w : goal.overflow_add-w
overflow_add-w c =
    let bytes = all_bytes c.args.s.now (λ j. let fits = (c.type_inv.s j).fits in omega arith) in
    let room = (before_paths c.requires bytes (sym c.in-Ok.ensures) (sym c.in-Ok-past_ids.ensures) (sym c.in-Ok-past_raw_reads.ensures)).2 in
    search rules

pub thin_paths-paths-requires : goal.thin_paths-paths-requires
thin_paths-paths-requires c =
    let bytes = all_bytes c.args.s.now (λ j. let fits = (c.type_inv.s j).fits in omega arith) in
    rw c.from.ensures (paths_wanted c.requires bytes (sym c.in-Ok.ensures) (sym c.in-Ok-past_ids.ensures) (sym c.in-Ok-past_raw_reads.ensures))

pub overflow_add-at : goal.overflow_add-at
overflow_add-at c =
    let bytes = all_bytes c.args.s.now (λ j. let fits = (c.type_inv.s j).fits in omega arith) in
    let there = before_paths c.requires bytes (sym c.in-Ok.ensures) (sym c.in-Ok-past_ids.ensures) (sym c.in-Ok-past_raw_reads.ensures) in
    let low = there.0 in
    let high = there.1 in
    search rules

pub put_recounted-requires : goal.put_recounted-requires
put_recounted-requires c =
    let bytes = all_bytes c.args.s.now (λ j. let fits = (c.type_inv.s j).fits in omega arith) in
    count_wanted c.requires bytes (sym c.in-Ok.ensures) (sym c.in-Ok-past_ids.ensures) (sym c.in-Ok-past_raw_reads.ensures)
    (rw c.from.ensures at c.thin_paths-paths.ensures)

pub returns : goal.returns
returns c =
    let bytes = all_bytes c.args.s.now (λ j. let fits = (c.type_inv.s j).fits in omega arith) in
    let head = sym c.in-Ok.ensures in
    let past = sym c.in-Ok-past_ids.ensures in
    let past_reads = sym c.in-Ok-past_raw_reads.ensures in
    let paths = rw c.from.ensures at c.thin_paths-paths.ensures in
    let fits = count_wanted c.requires bytes head past past_reads paths in
    let put = rw c.from-2.ensures at c.put_recounted.ensures in
    record { is = λ b next read. block_thinned c.args.s.now c.args.at read bytes head past past_reads fits paths put }

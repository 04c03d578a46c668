-- The blocks from byte 10 on, the candidates behind them, and the header before both.
use native.Mathlib.Omega.{arith}
use mathlib.Core.Path.{refl}
use borrow.Author.Rules.{rules}
use Rattle.thin_bytes.proofs.Copied.{all_bytes}
use Rattle.thin_bytes.proofs.WholeJob.{reader_kept, blocks_wanted, candidates_wanted, header_wanted, thin_written}
use Rattle.thin_bytes.proofs.put_thin.Goals as goal

pub thin_blocks-candidates_at-requires : goal.thin_blocks-candidates_at-requires
thin_blocks-candidates_at-requires c =
    let bytes = all_bytes c.args.s.now (λ i. let fits = (c.type_inv.s i).fits in omega arith) in
    blocks_wanted c.requires bytes _ refl

pub overflow_cast-head : goal.overflow_cast-head
overflow_cast-head c =
    let bytes = all_bytes c.args.s.now (λ i. let fits = (c.type_inv.s i).fits in omega arith) in
    let few = (reader_kept c.requires bytes).candidates_few in
    search rules

pub thin_paths-candidates-requires : goal.thin_paths-candidates-requires
thin_paths-candidates-requires c =
    let bytes = all_bytes c.args.s.now (λ i. let fits = (c.type_inv.s i).fits in omega arith) in
    candidates_wanted c.requires bytes refl c.thin_blocks-candidates_at.ensures

pub put_recounted-requires : goal.put_recounted-requires
put_recounted-requires c =
    let bytes = all_bytes c.args.s.now (λ i. let fits = (c.type_inv.s i).fits in omega arith) in
    header_wanted c.requires bytes refl c.thin_blocks-candidates_at.ensures c.thin_paths-candidates.ensures

pub returns : goal.returns
returns c =
    let bytes = all_bytes c.args.s.now (λ i. let fits = (c.type_inv.s i).fits in omega arith) in
    thin_written c.requires bytes refl c.thin_blocks-candidates_at.ensures c.thin_paths-candidates.ensures (λ same. search rules)
    (rw c.from.ensures at c.put_recounted.ensures)

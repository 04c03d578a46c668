-- The blocks that are left: what is written of them behind those before is what is written of all.
use Prim.Native.Nat.{ℕ, ◌+◌, ◌-◌, ◌≤◌, ◌<◌}
use native.Mathlib.Omega.{arith}
use native.Mathlib.Nat.{sub-zero}
use mathlib.Core.Path.{◌≡◌, refl, sym, ap, subst}
use mathlib.Core.List.{List, [], ◌∷◌, map}
use Rattle.model.specs.Lists.{concat_map}
use Rattle.model.specs.ReadingBytes.{got, read_many}
use Rattle.model.specs.Job.{Block, read_block}
use Rattle.model.specs.JobBytes.{block_bytes}
use Rattle.model.specs.Thin.{thinned_block}
use Rattle.writer.proofs.Bytes.{Coming, coming_start, coming_as, coming_more, coming_over}
use Rattle.job.proofs.Many.{many_first}
use Rattle.job.proofs.RecordParts.{block_onward, blocks_onward}
use Rattle.writer.specs.declared.Writer.{Writer}
use Rattle.thin_bytes.specs.Thins.{PartThinned, BlockThere, ThinsBlock, BlocksThere, ThinsBlocks}

abbrev bytes_of : List Block → List ℕ
bytes_of bs = concat_map (block_bytes 4) (map thinned_block bs)

-- The blocks `bs` that end at a place, of which some are left.
record Part (s : List ℕ) (first : ℕ) (bs : List Block) (end : ℕ) (before w : Writer) (done left : ℕ) : Type 0 where
  rest : List Block
  reads : read_many left (read_block 4) s done ≡ got rest end
  coming : Coming before w (bytes_of bs) (bytes_of rest)
  near : w.at + first ≤ before.at + done

pub record Writing (s : List ℕ) (first count : ℕ) (before w : Writer) (done left : ℕ) : Type 0 where
  on : (bs : List Block) (end : ℕ) → read_many count (read_block 4) s first ≡ got bs end → Part s first bs end before w done left

pub writing : (s : List ℕ) (first count : ℕ) (w : Writer) → Writing s first count w w first (count - 0)
writing s first count w = record {
  on = λ bs end e. record {
    rest = bs;
    reads = subst (λ n. read_many n (read_block 4) s first ≡ got bs end) (sym (sub-zero count)) e;
    coming = coming_start w (bytes_of bs);
    near = omega arith;
  };
}

module _ {s : List ℕ} {first count : ℕ} {before w : Writer} {done left : ℕ}
    (t : Writing s first count before w done left) where
  pub writing_end : left ≤ 0 → ThinsBlocks s first count before w done
  writing_end none = record { is = λ bs end e. ended bs end (t.on bs end e) }
    where
      ended : (bs : List Block) (end : ℕ) → Part s first bs end before w done left → PartThinned (bytes_of bs) first end before w done
      ended bs end p =
          let z : left ≡ 0 = omega arith in
          let nothing : got [] done ≡ got p.rest end = subst (λ n. read_many n (read_block 4) s done ≡ got p.rest end) z p.reads in
          let no : p.rest ≡ [] = cc in
          let place : done ≡ end = cc in
          let near = p.near in
          record { puts = coming_over (coming_as (ap bytes_of no) p.coming) refl; from = place; near = omega arith }

  module _ (some : 0 < left) where
    first_of : {bs : List Block} {end : ℕ} (p : Part s first bs end before w done left)
        → (b : Block) × (next : ℕ) × (rest : List Block) × (read_block 4 s done ≡ got b next) ×
        (read_many (left - 1) (read_block 4) s next ≡ got rest end) ×
        (b ∷ rest ≡ p.rest)
    first_of p = many_first (read_block 4) s left done some p.reads

    pub next_block : BlocksThere s first count before → BlockThere s done w
    next_block x =
        let p = t.on x.blocks x.end x.reads in
        let f = first_of p in
        let behind = blocks_onward s (left - 1) f.1 f.4 in
        let here = block_onward s done f.3 in
        let short = x.short in
        let near = p.near in
        let room = x.room in
        let long = p.coming.long in
        record { block = f.0; next = f.1; read = f.3; short = omega arith; room = omega arith }

    pub writing_more : (after : Writer) (r : ℕ) → ThinsBlock s done w after r → Writing s first count before after r (left - 1)
    writing_more after r thins = record { on = λ bs end e. again bs end (t.on bs end e) }
      where
        again : (bs : List Block) (end : ℕ) → Part s first bs end before w done left → Part s first bs end before after r (left - 1)
        again bs end p =
            let f = first_of p in
            let v = thins.is f.0 f.1 f.3 in
            let near = v.near in
            let from = v.from in
            let nearer = p.near in
            record {
              rest = f.2;
              reads = subst (λ n. read_many (left - 1) (read_block 4) s n ≡ got f.2 end) (sym v.from) f.4;
              coming = coming_more {xs = block_bytes 4 (thinned_block f.0)} (coming_as (ap bytes_of (sym f.5)) p.coming) v.puts;
              near = omega arith;
            }

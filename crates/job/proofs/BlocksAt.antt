-- A job whose blocks are noted at their places: it was accepted, and each block is read again at
-- the place noted.
use Prim.Native.Nat.{ℕ, suc, ◌<◌}
use mathlib.Core.Path.{◌≡◌, sym, ap, subst, ◌∙◌}
use mathlib.Core.List.{List, ◌∷◌}
use lib.ListN.{get_or, drop}
use Rattle.model.specs.ReadingBytes.{Read, got}
use Rattle.model.specs.Job.{Block, Job, read_block}
use Rattle.job.specs.Passing.{or_none}
use Rattle.job.specs.Kept.{BlocksAt, blocks_of, head_of, kept_of}
use Rattle.job.proofs.Accepted.{Accepted, accepted}

module _ {s : List ℕ} {n : ℕ} {places : List ℕ} (j : Job) (x : BlocksAt s n places j) where
  pub blocks_read : blocks_of s ≡ j.blocks
  unfolding blocks_of
  blocks_read = ap (λ (r : Read Job). or_none r (λ (k : Job) end. k.blocks)) x.reads

  pub job_accepted : Accepted s (head_of s j)
  job_accepted = accepted s (sym (ap (kept_of s) x.reads))

  pub same_job : job_accepted.job ≡ j
  same_job = let e = sym job_accepted.accepts ∙ x.reads in cc

  -- block b is read at the place noted
  pub block_there : (b : ℕ) → b < n
      → (a : Block) × (next : ℕ) × (read_block 4 s (get_or places b 0) ≡ got a next) × (drop b j.blocks ≡ a ∷ drop (suc b) j.blocks)
  block_there b l =
      let again = job_accepted.block_again b (rw x.count l) in (
        again.0,
        again.1,
        subst (λ at. read_block 4 s at ≡ got again.0 again.1) (sym (x.noted b l)) again.2,
        subst (λ (k : Job). drop b k.blocks ≡ again.0 ∷ drop (suc b) k.blocks) same_job again.3,
      )

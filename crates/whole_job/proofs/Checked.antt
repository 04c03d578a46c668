-- The tests of what was noted of the blocks, their ids and the predecessors at their places, are
-- those of the definition.
use Prim.Native.Nat.{ℕ}
use mathlib.Core.Path.{◌≡◌, refl, sym, ap}
use mathlib.Core.Bool.{Bool, true, false, ◌||◌, cond}
use mathlib.Core.List.{List}
use Rattle.entries.specs.declared.BlockId.{BlockId}
use Rattle.entries.specs.declared.Refusal.TheVariants.{RepeatedId, UnknownBlock}
use Rattle.model.specs.Lists.{any_of}
use Rattle.model.specs.ReadingBytes.{got, refused, read_many}
use Rattle.model.specs.Job.{Block, Job, read_block, repeats, has_repeat, has_unknown, accept_ids}
use Rattle.laws.specs.Fits.{holds_got}
use Rattle.job.specs.Passing.{notes}
use Rattle.job.specs.Kept.{note_place, block_notes, block_places, block_numbers, block_ids, head_of, kept_of}
use Rattle.job.proofs.Many.{many_all}
use Rattle.job.proofs.Noted.{ids_are}
use Rattle.job.proofs.Records.{Parts}
use Rattle.whole_job.specs.Ids.{any_unknown, predecessors_at, checked_by}
use Rattle.whole_job.proofs.Predecessors.{predecessors_are}

-- a test of the predecessors at each place is the test of each block's
tests_agree : (test : List BlockId → Bool) (s : List ℕ) (n at : ℕ) {all : List Block} {end : ℕ} → read_many n (read_block 4) s at ≡ got all end
    → any_of (λ at. test (block_ids (predecessors_at s at))) (notes note_place n (read_block 4) s at) ≡ any_of (λ (b : Block). test b.predecessors) all
tests_agree test s =
    many_all (read_block 4) s
    (λ n at all. any_of (λ at. test (block_ids (predecessors_at s at))) (notes note_place n (read_block 4) s at)
    ≡ any_of (λ (b : Block). test b.predecessors) all)
    (λ at. refl)
    (λ n at next a rest e q.
    rw (e, holds_got (λ (b : Block). block_ids (predecessors_at s at) ≡ b.predecessors) e (predecessors_are s at))
    (ap (λ (r : Bool). test a.predecessors || r) q))

answer_tested : (s : List ℕ) (p q : Bool) (j : Job) (end : ℕ)
    → kept_of s (cond p (refused RepeatedId) (cond q (refused UnknownBlock) (got j end)))
    ≡ cond p (kept_of s (refused RepeatedId)) (cond q (kept_of s (refused UnknownBlock)) (kept_of s (got j end)))
answer_tested s true q j end = refl
answer_tested s false true j end = refl
answer_tested s false false j end = refl

module _ (s : List ℕ) (j : Job) (p : Parts s j) where
  tests_are : (test : List BlockId → Bool)
      → any_of (λ at. test (block_ids (predecessors_at s at))) (block_places s) ≡ any_of (λ (b : Block). test b.predecessors) j.blocks
  unfolding block_notes
  tests_are test = rw p.header_read (tests_agree test s p.header.blocks p.blocks_at p.blocks_read)

  -- the tests of what was noted are refusals 7 and 8 of the job
  pub checked_is : (end : ℕ) → checked_by s (block_numbers s) (block_places s) (head_of s j) ≡ kept_of s (accept_ids j end)
  unfolding checked_by accept_ids has_repeat has_unknown
  checked_is end =
      rw (tests_are repeats, tests_are (any_unknown (block_ids (block_numbers s))), ids_are s j p)
      (sym (answer_tested s (has_repeat j) (has_unknown j) j end))

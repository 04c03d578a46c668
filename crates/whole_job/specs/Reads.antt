-- What reading the whole job answers.
use Rattle.std.specs.Prelude.{ℕ, ◌≡◌, List, Result}
use Rattle.std.proofs.lemmas.List.Edits.{sets}
use Rattle.entries.specs.declared.Refusal.{Refusal}
use Rattle.model.specs.Answer.{span_width}
use Rattle.model.specs.Job.{HD, read_job}
use Rattle.job.specs.Kept.{block_places, block_numbers, kept_of}
use Rattle.job.specs.declared.JobHead.{JobHead}

-- The job in these bytes is answered by what is kept of it, or its refusal. The id of each block,
-- and the place of its record, stand at the front of the two arrays.
abbrev pub ReadsJob : List ℕ → Result JobHead Refusal → List ℕ → List ℕ → List ℕ → List ℕ → Type 0
ReadsJob s answer ids ids_after places places_after =
    (answer ≡ kept_of s (read_job HD span_width s))
    × ((ids_after ≡ sets ids 0 (block_numbers s)) × (places_after ≡ sets places 0 (block_places s)))

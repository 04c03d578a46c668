-- What reading the header promises: what stands at the position, and where the reader goes on.
use Rattle.std.specs.Prelude.{ℕ, ◌≡◌, List, Result}
use Rattle.entries.specs.declared.Refusal.{Refusal}
use Rattle.model.specs.Job.{HD, read_header}
use Rattle.job.specs.Answer.{got_header}
use Rattle.job.specs.Kept.{after_header}
use Rattle.job.specs.declared.Header.{Header}

-- "Each record is read as a value and the place after it, or a refusal": the header at a position
-- of these bytes, and the position after it.
abbrev pub ReadsHeader : List ℕ → ℕ → Result (Header × ℕ) Refusal → ℕ → Type 0
ReadsHeader s at header next = (got_header header ≡ read_header HD s at) × (next ≡ after_header header at)

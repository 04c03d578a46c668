-- What an answer of `header_at` says, as the reading of the definition that it stands for.
use Rattle.std.specs.Prelude.{ℕ, Result}
use Rattle.entries.specs.declared.Refusal.{Refusal}
use Rattle.model.specs.ReadingBytes.{Read, mapped}
use Rattle.model.specs.Job as model
use Rattle.fields.specs.Answer.{got_value}
use Rattle.job.specs.declared.Header.{Header}

-- The header as the definitions have it.
abbrev pub header_of : Header → model.Header
header_of h = record { blocks = h.blocks; candidates = h.candidates; scope = h.scope }

-- The header and the place after it, or the refusal.
abbrev pub got_header : Result (Header × ℕ) Refusal → Read model.Header
got_header h = mapped header_of (got_value h)

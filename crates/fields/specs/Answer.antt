-- What an answer of a field reader says, as the reading of the definitions that it stands for.
use Rattle.std.specs.Prelude.{ℕ, Result, Ok, Err}
use Rattle.entries.specs.declared.Refusal.{Refusal}
use Rattle.model.specs.ReadingBytes.{Read, got, refused}

-- The value and the place after it, or the refusal.
abbrev pub got_value : {A : Type 0} → Result (A × ℕ) Refusal → Read A
got_value (Ok (x, next)) = got x next
got_value (Err r) = refused r

-- The same where the place alone is kept.
abbrev pub got_place : Result ℕ Refusal → Read Unit
got_place (Ok next) = got tt next
got_place (Err r) = refused r

-- What a pass over records finds out: the place after them, and a note of each that was read.
use Rattle.std.specs.Prelude.{ℕ, zero, suc, ◌≡◌, List, [], ◌∷◌, Result, Ok, Err}
use Rattle.entries.specs.declared.Refusal.{Refusal}
use Rattle.model.specs.ReadingBytes.{Read, got, refused, ByteReader}

-- the place alone
abbrev pub passed : {A : Type 0} → Read A → Read Unit
passed (got a next) = got tt next
passed (refused r) = refused r

-- A value was read.
pub record IsRead {A : Type 0} (x : Read A) : Type 0 where
  pub value : A
  pub next : ℕ
  pub read : x ≡ got value next

-- What follows a value that was read; nothing follows a refusal.
abbrev pub or_none : {A B : Type 0} → Read A → (A → ℕ → List B) → List B
or_none (got a next) rest = rest a next
or_none (refused r) rest = []

-- of each record up to the first refusal, what f makes of its place and its value
abbrev pub notes : {A B : Type 0} → (ℕ → A → B) → ℕ → ByteReader A → List ℕ → ℕ → List B
notes f zero read s at = []
notes f (suc n) read s at = or_none (read s at) (λ a next. f at a ∷ notes f n read s next)

-- a value that is its own note
abbrev pub note_value : ℕ → ℕ → ℕ
note_value at x = x

-- What holds of the place that was reached, or of a refusal.
abbrev pub GoesOn : Result ℕ Refusal → (ℕ → Type 0) → Type 0 → Type 0
GoesOn (Ok next) reached stopped = reached next
GoesOn (Err r) reached stopped = stopped

-- A relation between a place and what passing one record from there answers: what passing so many
-- records, one after the other, answers.
abbrev pub PassesMany : (ℕ → Result ℕ Refusal → Type 0) → ℕ → ℕ → Result ℕ Refusal → Type 0
PassesMany past zero at r = r ≡ Ok at
PassesMany past (suc n) at r = (first : Result ℕ Refusal) × past at first × GoesOn first (λ next. PassesMany past n next r) (r ≡ first)

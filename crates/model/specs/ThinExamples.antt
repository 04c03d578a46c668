-- Thin jobs, computed: what counts as a repeat and what does not, which of equal paths stays, and
-- the bytes of a whole job.
use Rattle.std.specs.Prelude.{ℕ, ◌≡◌, refl, Bool, true, false, List, [], ◌∷◌, replicate}
use Rattle.entries.specs.declared.PropertyLiteral.{PropertyLiteral}
use Rattle.entries.specs.declared.PropertyLiteral.TheVariants.{String, Number}
use Rattle.entries.specs.declared.DependencyPathEntry.{DependencyPathEntry}
use Rattle.entries.specs.Path.{ReactiveScopeDependency}
use Rattle.model.specs.Job.{Block}
use Rattle.model.specs.Answer.{writes}
use Rattle.model.specs.Thin.{thinned_after, thinned_paths, thinned, least_thin_buffer, thin_of}

abbrev entry : PropertyLiteral → Bool → ℕ → DependencyPathEntry
entry p o s = record { property = p; optional = o; span = s }

-- identifier 1 under its entries, with a span and whether it is reactive
abbrev path : Bool → ℕ → List DependencyPathEntry → ReactiveScopeDependency
path reactive span es = record { identifier = record { 0 = 1 }; reactive = reactive; path = es; span = span }

abbrev plain : ℕ → ℕ → DependencyPathEntry
plain v s = entry (String v) false s

-- −0, by the bits of the float
abbrev minus_zero : ℕ
minus_zero = 0x8000000000000000

-- "A later path with the same identifier and equal entries": 1.10 again with other spans, and again
-- not reactive, with 1.11 between them, and 1.11 again. The first of each stays, with its spans and
-- its reactive.
pub repeats_dropped :
    thinned_paths
    (path true 3 (plain 10 4 ∷ []) ∷ path true 5 (plain 10 6 ∷ []) ∷ path true 3 (plain 11 4 ∷ []) ∷ path false 3 (plain 10 4 ∷ [])
    ∷ path true 7 (plain 11 8 ∷ []) ∷ [])
    ≡ path true 3 (plain 10 4 ∷ []) ∷ path true 3 (plain 11 4 ∷ []) ∷ []
unfolding thinned_after
repeats_dropped = refl

-- No repeats: 1, 1.10, 1?.10, 1.10.10; −0 and +0; name 0 and number 0; another identifier.
abbrev apart : List ReactiveScopeDependency
apart =
    path true 3 [] ∷ path true 3 (plain 10 4 ∷ []) ∷ path true 3 (entry (String 10) true 4 ∷ []) ∷
    path true 3 (plain 10 4 ∷ plain 10 4 ∷ []) ∷ path true 3 (entry (Number 0) false 4 ∷ []) ∷
    path true 3 (entry (Number minus_zero) false 4 ∷ []) ∷ path true 3 (entry (String 0) false 4 ∷ []) ∷
    record { identifier = record { 0 = 2 }; reactive = true; path = []; span = 3 } ∷ []

pub others_stay : thinned_paths apart ≡ apart
unfolding thinned_after
others_stay = refl

-- "In each block, and among candidates", and never across them: 1 is assumed twice in block 7 and
-- once in block 8, and is a candidate twice.
abbrev twice : List ReactiveScopeDependency
twice = path true 3 [] ∷ path false 5 [] ∷ []

abbrev once : List ReactiveScopeDependency
once = path true 3 [] ∷ []

abbrev block : ℕ → List ReactiveScopeDependency → Block
block i paths = record { id = record { 0 = i }; predecessors = []; raw_reads = []; ready_paths = paths }

pub each_list_apart :
    thinned (record { scope = record { 0 = 7 }; blocks = block 7 twice ∷ block 8 once ∷ []; candidates = twice })
    ≡ record { scope = record { 0 = 7 }; blocks = block 7 once ∷ block 8 once ∷ []; candidates = once }
unfolding thinned
each_list_apart = refl

-- The bytes: one block that assumes 1 twice, and candidate 1.10 twice. "Counts follow."
abbrev pub repeating : List ℕ
repeating =
    0x48 ∷ 0x44 ∷ 1 ∷ 0 ∷ 2 ∷ 0 ∷ 7 ∷ 0 ∷ 0 ∷ 0 ∷
    0x42 ∷ 0x4C ∷ 7 ∷ 0 ∷ 0 ∷ 0 ∷ 0 ∷ 2 ∷ 0 ∷
    0x50 ∷ 0x41 ∷ 1 ∷ 0 ∷ 0 ∷ 0 ∷ 1 ∷ 0 ∷ 0 ∷ 0 ∷ 0 ∷ 0 ∷
    0x50 ∷ 0x41 ∷ 1 ∷ 0 ∷ 0 ∷ 0 ∷ 0 ∷ 9 ∷ 0 ∷ 0 ∷ 0 ∷ 0 ∷
    0x43 ∷ 0x41 ∷ 1 ∷ 0 ∷ 0 ∷ 0 ∷ 1 ∷ 5 ∷ 0 ∷ 0 ∷ 0 ∷ 1 ∷ 0 ∷ 0 ∷ 10 ∷ 0 ∷ 0 ∷ 0 ∷ 0 ∷ 0 ∷ 0 ∷ 0 ∷ 6 ∷ 0 ∷ 0 ∷ 0 ∷
    0x43 ∷ 0x41 ∷ 1 ∷ 0 ∷ 0 ∷ 0 ∷ 1 ∷ 7 ∷ 0 ∷ 0 ∷ 0 ∷ 1 ∷ 0 ∷ 0 ∷ 10 ∷ 0 ∷ 0 ∷ 0 ∷ 0 ∷ 0 ∷ 0 ∷ 0 ∷ 8 ∷ 0 ∷ 0 ∷ 0 ∷ []

-- Its thin job is document 01's job in hex, with the count of raw reads.
abbrev pub thin : List ℕ
thin =
    0x48 ∷ 0x44 ∷ 1 ∷ 0 ∷ 1 ∷ 0 ∷ 7 ∷ 0 ∷ 0 ∷ 0 ∷
    0x42 ∷ 0x4C ∷ 7 ∷ 0 ∷ 0 ∷ 0 ∷ 0 ∷ 1 ∷ 0 ∷
    0x50 ∷ 0x41 ∷ 1 ∷ 0 ∷ 0 ∷ 0 ∷ 1 ∷ 0 ∷ 0 ∷ 0 ∷ 0 ∷ 0 ∷
    0x43 ∷ 0x41 ∷ 1 ∷ 0 ∷ 0 ∷ 0 ∷ 1 ∷ 5 ∷ 0 ∷ 0 ∷ 0 ∷ 1 ∷ 0 ∷ 0 ∷ 10 ∷ 0 ∷ 0 ∷ 0 ∷ 0 ∷ 0 ∷ 0 ∷ 0 ∷ 6 ∷ 0 ∷ 0 ∷ 0 ∷ []

pub repeating_thinned : thin_of repeating (replicate least_thin_buffer 0) ≡ writes thin
unfolding thin_of
repeating_thinned = refl

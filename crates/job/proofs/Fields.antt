-- The definitions of entries and of the header, one step open: what they read stays shut.
use Prim.Native.Nat.{ℕ}
use mathlib.Core.Path.{◌≡◌, refl}
use mathlib.Core.List.{List}
use Rattle.model.specs.ReadingBytes.{got, and_then, read_number, read_mark, read_within, read_flag}
use Rattle.entries.specs.Property.{property_of}
use Rattle.model.specs.Job.{read_block_id, read_entry, read_header}

pub entry_fields : (s : List ℕ) (at : ℕ) → read_entry 4 s at ≡
    and_then (read_flag s at) (λ optional kind_at.
    and_then (read_flag s kind_at) (λ kind value_at.
    and_then (read_number 8 s value_at) (λ value span_at.
    and_then (read_number 4 s span_at) (λ span next.
    got (record { property = property_of kind value; optional = optional; span = span }) next))))
unfolding read_entry
entry_fields s at = refl

pub header_fields : (mark : ℕ) (s : List ℕ) (at : ℕ) → read_header mark s at ≡
    and_then (read_mark mark s at) (λ _ blocks_at.
    and_then (read_within 1 128 (read_number 2) s blocks_at) (λ blocks candidates_at.
    and_then (read_within 0 64 (read_number 2) s candidates_at) (λ candidates scope_at.
    and_then (read_block_id s scope_at) (λ scope next.
    got (record { blocks = blocks; candidates = candidates; scope = scope }) next))))
unfolding read_header
header_fields mark s at = refl

-- The members of a set that is held as eight words of 64 bits.
use Rattle.std.specs.Prelude.{ℕ, zero, suc, ◌-◌, ◌/◌, ◌%◌, ◌^◌, Bool, List, [], ◌∷◌, get_or, eqb, Option, Some, None}
use Rattle.entries.specs.declared.NodeId.{NodeId}
use Rattle.model.specs.Lists.{select}
use Rattle.model.specs.Sets.{NodeSet}

-- bit m of a word is set
abbrev pub bit : ℕ → ℕ → Bool
bit w m = eqb (w / 2 ^ m % 2) 1

-- Node k is in a set: bit k % 64 of word k / 64.
unfoldable pub has_bit : List ℕ → ℕ → Bool
has_bit ws k = bit (get_or ws (k / 64) 0) (k % 64)

-- n nodes from place k on
abbrev pub nodes_from : ℕ → ℕ → NodeSet
nodes_from k zero = []
nodes_from k (suc n) = record { 0 = k } ∷ nodes_from (suc k) n

-- the members from place k on; only the first eight words are read
unfoldable pub members_from : List ℕ → ℕ → NodeSet
members_from ws k = select (λ (j : NodeId). has_bit ws j.0) (nodes_from k (512 - k))

-- All members of a set, ascending.
abbrev pub members_of : List ℕ → NodeSet
members_of ws = members_from ws 0

-- The first of an ascending list, where there is one.
abbrev pub first_of : NodeSet → Option NodeId
first_of [] = None
first_of (k ∷ ks) = Some k

-- What entering the assumed paths leaves in the lent words.
use Rattle.std.specs.Prelude.{ℕ, ◌<◌, ◌≡◌, List, [], ◌∷◌, length, Result, Ok, Err}
use Rattle.entries.specs.declared.Refusal.{Refusal}
use Rattle.entries.specs.declared.Refusal.TheVariants.{ManyNodes}
use Rattle.entries.specs.Path.{ReactiveScopeDependency}
use Rattle.model.specs.Lists.{concat_map}
use Rattle.model.specs.ReadingBytes.{Read, got, refused, ByteReader, mapped, read_mark}
use Rattle.model.specs.RawReads.{RawRead, kept_paths}
use Rattle.model.specs.Job.{PA, read_path, read_raw_read}
use Rattle.model.specs.Answer.{span_width}
use Rattle.model.specs.Registry.{node_limit, PropertyPathRegistry}
use Rattle.model.specs.Stage as stage
use Rattle.rows.specs.Members.{members_of}
use Rattle.rows.specs.Rows.{Lent, rows_of}
use Rattle.registry.specs.Words.{registry_of, Held}
use Rattle.assumed.specs.declared.EnteredSet.{EnteredSet}

-- one path, as a list
abbrev pub itself : ReactiveScopeDependency → List ReactiveScopeDependency
itself d = d ∷ []

-- the path of a raw read, where it is kept
abbrev pub path_if_kept : RawRead → List ReactiveScopeDependency
path_if_kept r = kept_paths (r ∷ [])

-- by whether the mark of a ready path stands at the place
abbrev pub read_brought_by : Read Unit → ByteReader (List ReactiveScopeDependency)
read_brought_by (got u next) s at = mapped itself (read_path span_width PA s at)
read_brought_by (refused r) s at = mapped path_if_kept (read_raw_read span_width s at)

-- What a record of a block, RD or PA, brings: the path of a raw read where it is kept, and a ready
-- path.
unfoldable pub read_brought : ByteReader (List ReactiveScopeDependency)
read_brought s at = read_brought_by (read_mark PA s at) s at

-- what all records bring
abbrev pub all_of : List (List ReactiveScopeDependency) → List ReactiveScopeDependency
all_of dss = concat_map (λ (ds : List ReactiveScopeDependency). ds) dss

-- how far entering a block's paths has come, in a registry
abbrev pub entered_so_far : PropertyPathRegistry → EnteredSet → stage.PathsEntered
entered_so_far reg e = record { registry = reg; set = members_of e.set.words; made = e.made }

-- what was entered, or why it was not
abbrev pub came_to : Result Unit Refusal → EnteredSet → Result EnteredSet Refusal
came_to (Ok u) e = Ok e
came_to (Err r) e = Err r

-- The words hold the registry that the paths lead to, the set is that of their nodes, as many nodes
-- were made for them, and the place is the one after them; or that registry has no room, which is
-- refusal 9.
abbrev pub Fills : stage.PathsEntered → ℕ → Result EnteredSet Refusal → List ℕ → List ℕ → Type 0
Fills want end (Ok r) ws os = Held ws os × (want ≡ entered_so_far (registry_of ws) r) × (r.at ≡ end)
Fills want end (Err e) ws os = (e ≡ ManyNodes) × (node_limit < length want.registry)

-- The paths that a part of the job brings, which was read, are entered after what was entered so
-- far.
abbrev pub EntersAll : Read (List ReactiveScopeDependency) → stage.PathsEntered → Result EnteredSet Refusal → List ℕ → List ℕ → Type 0
EntersAll (got ds end) start r ws os = Fills (stage.enter_paths start ds) end r ws os
EntersAll (refused x) start r ws os = ⊥

-- The words hold the registry, and the first n rows the sets, with which propagation starts.
pub record StartHeld (want : stage.Started) (n : ℕ) (ws os rows : List ℕ) : Type 0 where
  pub held : Held ws os
  pub lent : Lent n rows
  pub registry : want.registry ≡ registry_of ws
  pub sets : want.sets ≡ rows_of rows n

-- "All assumed paths are entered first, in job order": that, with as many nodes made for them, or
-- that the registry has no room, which is refusal 9.
abbrev pub Starts : stage.Started → ℕ → Result ℕ Refusal → List ℕ → List ℕ → List ℕ → Type 0
Starts want n (Ok made) ws os sets = StartHeld want n ws os sets × (made ≡ want.made)
Starts want n (Err e) ws os sets = (e ≡ ManyNodes) × (node_limit < length want.registry)

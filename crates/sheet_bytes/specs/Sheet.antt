-- The parts of a sheet over the lent words, and the sheet that is written.
use Rattle.std.specs.Prelude.{ℕ, zero, suc, ◌≡◌, Bool, List, [], ◌++◌, map, length, get_or, take}
use Rattle.entries.specs.declared.BlockId.{BlockId}
use Rattle.entries.specs.Path.{ReactiveScopeDependency}
use Rattle.model.specs.Job.{block_id, Job, ids_of}
use Rattle.model.specs.Rounds.{Rounds}
use Rattle.model.specs.Propagation.{Work}
use Rattle.model.specs.Stage.{Started}
use Rattle.model.specs.Sets.{NodeSet}
use Rattle.model.specs.Answer.{u16, u32, SE, row_bytes, span_width, sheet_bytes}
use Rattle.rows.specs.Rows.{row_of, rows_of}
use Rattle.registry.specs.Words.{registry_of}
use Rattle.writer.specs.Writes.{Writes}
use Rattle.sheet_bytes.specs.declared.PathRoot.{PathRoot}

-- what a path has of its root
abbrev pub root_of : ReactiveScopeDependency → PathRoot
root_of d = record { identifier = d.identifier; reactive = d.reactive }

-- "Per block .. SE, id u32, 64 bytes where node k is bit k mod 8 of byte k div 8"
abbrev pub set_record : BlockId → NodeSet → List ℕ
set_record id s = u16 SE ++ u32 id.0 ++ row_bytes s 0 64

-- n blocks from block b on, by their numbers and rows
unfoldable pub set_records : List ℕ → List ℕ → ℕ → ℕ → List ℕ
set_records numbers rows b zero = []
set_records numbers rows b (suc n) = set_record (block_id (get_or numbers b 0)) (row_of rows b) ++ set_records numbers rows (suc b) n

-- The job has n blocks, whose ids have these numbers; the work p has the registry and the sets that
-- the words hold, after so many rounds, settled or not; and so many nodes were there before the
-- first round.
pub record HoldsPropagated (ws rows numbers : List ℕ) (n ran : ℕ) (last : Bool) (nodes_before : ℕ) (j : Job) (start : Started)
    (p : Rounds Work) : Type 0 where
  pub count : length j.blocks ≡ n
  pub ids : map block_id (take n numbers) ≡ ids_of j.blocks
  pub registry : p.work.registry ≡ registry_of ws
  pub sets : p.work.sets ≡ rows_of rows n
  pub rounds : p.rounds ≡ ran
  pub settled : p.settled ≡ last
  pub before : length start.registry ≡ nodes_before

-- The sheet of that job stands in the buffer from its start on.
abbrev pub WritesSheet : List ℕ → List ℕ → List ℕ → ℕ → ℕ → Bool → ℕ → List ℕ → List ℕ → ℕ → Type 0
WritesSheet ws sets ids blocks rounds settled nodes_before before after next =
    (j : Job) (start : Started) (p : Rounds Work) → HoldsPropagated ws sets ids blocks rounds settled nodes_before j start p
    → Writes before after 0 (sheet_bytes span_width j start p) next

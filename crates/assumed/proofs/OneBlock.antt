-- A block's assumed paths are what its records bring.
use Prim.Native.Nat.{ℕ, ◌+◌}
use mathlib.Core.Path.{◌≡◌, sym, ap, subst, ◌∙◌}
use mathlib.Core.List.{List, [], ◌++◌, map}
use Rattle.entries.specs.Path.{ReactiveScopeDependency}
use Rattle.model.specs.ReadingBytes.{Read, got, mapped, read_many}
use Rattle.model.specs.Job.{Block, assumed_of, read_block_id, read_block}
use Rattle.model.specs.Stage.{PathsEntered, enter_paths, none_entered}
use Rattle.rows.specs.declared.NodeBits.{NodeBits}
use Rattle.rows.specs.Members.{members_of}
use Rattle.registry.specs.Words.{registry_of}
use Rattle.job.specs.Passing.{IsRead, passed}
use Rattle.job.specs.Head.{read_block_head}
use Rattle.entries.specs.declared.Refusal.{Refusal}
use Rattle.std.specs.Prelude.{Result}
use Rattle.job.specs.declared.BlockHead.{BlockHead}
use Rattle.job.proofs.BlockAgain as again
use Rattle.assumed.specs.declared.EnteredSet.{EnteredSet}
use Rattle.assumed.specs.Start.{itself, path_if_kept, read_brought, all_of, entered_so_far, Fills, EntersAll}
use Rattle.assumed.proofs.Records.{records_read, all_brought}

module _ (s : List ℕ) (at : ℕ) (x : IsRead (read_block 4 s at)) {head : BlockHead} {ids_at records_at : ℕ} (headed : read_block_head s at ≡ got head ids_at)
    (past : passed (read_many head.predecessors read_block_id s ids_at) ≡ got tt records_at) where
  abbrev block : Block
  block = x.value

  brought : read_many (head.raw + head.assumed) read_brought s records_at ≡ got (map path_if_kept block.raw_reads ++ map itself block.ready_paths) x.next
  brought =
      records_read s head.raw head.assumed records_at (again.reads_read s at block x.next x.read headed past)
      (again.paths_read s at block x.next x.read headed past)

  pub records_there : (count : ℕ) → count ≡ head.raw + head.assumed → IsRead (read_many count read_brought s records_at)
  records_there count all = rw all (record {
    value = map path_if_kept block.raw_reads ++ map itself block.ready_paths;
    next = x.next;
    read = brought;
  })

  module _ (ws : List ℕ) (set : NodeBits) (empty : members_of set.words ≡ []) where
    -- as the block starts
    abbrev start : EnteredSet
    start = record { set = set; made = 0; at = records_at }

    begins : entered_so_far (registry_of ws) start ≡ none_entered (registry_of ws)
    begins = λ i. record { registry = registry_of ws; set = empty i; made = 0 }

    pub block_entered : (count : ℕ) → count ≡ head.raw + head.assumed → (r : Result EnteredSet Refusal) (us ps : List ℕ)
        → EntersAll (mapped all_of (read_many count read_brought s records_at)) (entered_so_far (registry_of ws) start) r us ps
        → EntersAll (mapped assumed_of (read_block 4 s at)) (none_entered (registry_of ws)) r us ps
    block_entered count whole r us ps h =
        let all :
        Fills (enter_paths (entered_so_far (registry_of ws) start) (all_of (map path_if_kept block.raw_reads ++ map itself block.ready_paths))) x.next r us ps =
        subst (λ (y : Read (List (List ReactiveScopeDependency))). EntersAll (mapped all_of y) (entered_so_far (registry_of ws) start) r us ps)
        (ap (λ n. read_many n read_brought s records_at) whole ∙ brought) h in
        let same = ap (enter_paths (entered_so_far (registry_of ws) start)) (all_brought block.raw_reads block.ready_paths)
        ∙ ap (λ (e : PathsEntered). enter_paths e (assumed_of block)) begins in
        subst (λ (y : Read Block). EntersAll (mapped assumed_of y) (none_entered (registry_of ws)) r us ps) (sym x.read)
        (subst (λ (e : PathsEntered). Fills e x.next r us ps) same all)

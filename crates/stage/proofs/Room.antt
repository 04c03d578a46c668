-- Room for the sets and the dependency tree goes by the length of the words alone.
use Prim.Native.Nat.{ℕ, ◌*◌, ◌≤◌, ◌<◌}
use mathlib.Core.Path.{◌≡◌}
use mathlib.Core.List.{List}
use lib.ListN.{length, replicate, length-replicate}
use Rattle.job.specs.declared.JobHead.{JobHead}
use Rattle.stage.specs.Jobs.{WorkRoom}

long_room : (head : JobHead) (work : List ℕ) (n : ℕ) → length work ≡ n → head.blocks * 8 ≤ n → 17 * head.candidates < n → n ≤ 2048 → WorkRoom head work
long_room head work n e rows tree short =
    record { rows = rw e rows; tree = record { long = rw e tree; short = rw e short } }

pub zeros_room : (head : JobHead) (n : ℕ) → head.blocks * 8 ≤ n → 17 * head.candidates < n → n ≤ 2048 → WorkRoom head (replicate n 0)
zeros_room head n = long_room head (replicate n 0) n (length-replicate n 0)

pub room_kept : (head : JobHead) (before after : List ℕ) → length after ≡ length before → WorkRoom head before → WorkRoom head after
room_kept head before after e room = long_room head after (length before) e room.rows room.tree.long room.tree.short

-- The neighbours that an iterator still gives.
use mathlib.Core.List.{List}
use Prim.Native.Nat.{ℕ}
use Rattle.graph.specs.Bytes.{neighbours_from}
use Rattle.graph.specs.declared.Neighbours.{Neighbours}

abbrev pub to_come : Neighbours → List ℕ
to_come it = neighbours_from it.graph.bytes.now it.backward it.block it.from

-- The loop's invariant: the place to which the index leads from here on, over the blocks that are
-- left, is that from the bucket on.
use Rattle.std.proofs.Common.{◌≡◌, length, ◌-◌}
use Rattle.id_index.specs.Index.{place_from, place_by}
use Rattle.id_index.proofs.IdIndex.place_of.Given as goal

abbrev pub invariant-loop : goal.invariant-loop
invariant-loop l =
    let ids = l.self.ids.now in
    place_from ids (length ids) l.self.bytes l.id (l.end - l.counter) l.k ≡ place_by ids (length ids) l.self.bytes l.id

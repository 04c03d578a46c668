-- A repeat is passed over. Of another path the bytes are copied, which are its record's.
use native.Mathlib.Omega.{arith}
use mathlib.Core.Path.{sym, subst}
use Rattle.thin_bytes.specs.Thins.{Repeats}
use Rattle.thin_bytes.proofs.Copied.{all_bytes}
use Rattle.thin_bytes.proofs.OnePath.{behind, path_there, next_behind, next_within, next_room, repeat_dropped, path_kept}
use Rattle.thin_bytes.proofs.thin_path.Goals as goal

pub returns-in_default : goal.returns-in_default
returns-in_default c = path_there c.requires (sym c.in_default.ensures)

pub is_repeat-requires : goal.is_repeat-requires
is_repeat-requires c = behind c.requires

pub returns-then-is_repeat : goal.returns-then-is_repeat
returns-then-is_repeat c =
    repeat_dropped c.requires (sym c.in-Ok.ensures) (subst (Repeats _ _ _ _) c.if-is_repeat.true c.is_repeat.ensures)

pub slice_bounds-bytes-count : goal.slice_bounds-bytes-count
slice_bounds-bytes-count c =
    let bytes = all_bytes c.args.s.now (λ i. let fits = (c.type_inv.s i).fits in omega arith) in
    next_behind c.requires (sym c.in-Ok.ensures) bytes

pub slice_bounds-bytes-start : goal.slice_bounds-bytes-start
slice_bounds-bytes-start c =
    let bytes = all_bytes c.args.s.now (λ i. let fits = (c.type_inv.s i).fits in omega arith) in
    next_behind c.requires (sym c.in-Ok.ensures) bytes

pub slice_bounds-bytes-end : goal.slice_bounds-bytes-end
slice_bounds-bytes-end c =
    let bytes = all_bytes c.args.s.now (λ i. let fits = (c.type_inv.s i).fits in omega arith) in
    next_within c.requires (sym c.in-Ok.ensures) bytes

pub bytes-requires : goal.bytes-requires
bytes-requires c =
    let bytes = all_bytes c.args.s.now (λ i. let fits = (c.type_inv.s i).fits in omega arith) in
    next_room c.requires (sym c.in-Ok.ensures) bytes

pub returns : goal.returns
returns c =
    let bytes = all_bytes c.args.s.now (λ i. let fits = (c.type_inv.s i).fits in omega arith) in
    path_kept c.requires (sym c.in-Ok.ensures) bytes (subst (Repeats _ _ _ _) c.if-is_repeat.false c.is_repeat.ensures) c.bytes.ensures

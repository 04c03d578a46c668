-- The record of a way down: its root, the span of its last position, and its entries.
use Prim.Native.Nat.{ℕ, zero, suc, ◌+◌, ◌*◌, ◌-◌, ◌<◌}
use native.Mathlib.Omega.{arith}
use native.Mathlib.Nat.{add-zero, zero-add}
use mathlib.Core.Path.{◌≡◌, refl, sym, ap, ◌∙◌}
use mathlib.Core.Bool.{Bool, false}
use mathlib.Core.List.{List, [], ◌∷◌, ◌++◌, map}
use lib.ListN.{length, get_or, drop, length-append, length-drop}
use lib.Seq.{drop-cons}
use Rattle.std.proofs.lemmas.List.{drop_all}
use Rattle.entries.specs.declared.DependencyPathEntry.{DependencyPathEntry}
use Rattle.entries.specs.declared.PropertyLiteral.TheVariants.{String}
use Rattle.entries.specs.Access.{is_optional_access}
use Rattle.model.specs.Lists.{concat_map}
use Rattle.model.specs.Answer.{DE, entry_bytes, path_bytes}
use Rattle.model.specs.Tests.{eqb_apart}
use Rattle.model.specs.Tree.{entry_of, last_span, dependency_of}
use Rattle.job.specs.declared.PathHead.{PathHead}
use Rattle.writer.specs.Writes.{path_head_bytes}
use Rattle.writer.proofs.Bytes.{entry_length, path_head_length}
use Rattle.tree.specs.declared.Position.{Position}
use Rattle.tree.specs.Words.{head_at, entry_at, parent_in, place_in, access_in, position_as, position_of, positions_from, way_positions}
use Rattle.tree.specs.Tree.{parts_of}

-- The parts of a position, by what its parent says.
module _ (s : List ℕ) (w : ℕ) (optional : Bool) (marked : optional ≡ is_optional_access (access_in w)) where
  pub root_parts : (head : PathHead) → parent_in w ≡ 0 → head ≡ head_at s (place_in w)
      → record {
        identifier = head.identifier;
        reactive = head.reactive;
        entry = record
            { property = String 0; optional = optional; span = head.span };
      } ≡ parts_of (position_of s w)
  unfolding position_as
  root_parts head p e = rw (p, e, marked)

  pub child_parts : (entry : DependencyPathEntry) → ¬ (parent_in w ≡ 0) → entry ≡ entry_at s (place_in w)
      → record {
        identifier = record { 0 = 0 };
        reactive = false;
        entry = record
            { property = entry.property; optional = optional; span = entry.span };
      } ≡ parts_of (position_of s w)
  unfolding position_as
  child_parts entry p e = rw (eqb_apart (parent_in w) 0 p, e, marked)

-- The positions of a way down.

positions_length : (s ws : List ℕ) (k n : ℕ) → length (positions_from s ws k n) ≡ n
positions_length s ws k zero = refl
positions_length s ws k (suc n) = ap suc (positions_length s ws (suc k) n)

-- the entries of the positions from word k on, with those of their words
entries_bytes : (s ws : List ℕ) (k n : ℕ) → length ws ≡ k + n
    → concat_map (entry_bytes 4) (map entry_of (positions_from s ws k n)) ≡ concat_map (λ v. entry_bytes 4 (entry_of (position_of s v))) (drop k ws)
entries_bytes s ws k zero e = ap (concat_map (λ v. entry_bytes 4 (entry_of (position_of s v)))) (sym (drop_all k ws (omega arith)))
entries_bytes s ws k (suc n) e =
    ap (λ l. entry_bytes 4 (entry_of (position_of s (get_or ws k 0))) ++ l) (entries_bytes s ws (suc k) n (omega arith))
    ∙ ap (concat_map (λ v. entry_bytes 4 (entry_of (position_of s v)))) (sym (drop-cons ws k 0 (omega arith)))

-- the span of a way's last position
last_span_lem : (s ws : List ℕ) (k n : ℕ)
    → last_span (position_of s (get_or ws k 0)) (positions_from s ws (suc k) n) ≡ (position_of s (get_or ws (k + n) 0)).span
last_span_lem s ws k zero = rw (add-zero k)
last_span_lem s ws k (suc n) = let e : k + suc n ≡ suc k + n = omega arith in rw e (last_span_lem s ws (suc k) n)

pub map_length : {A B : Type 0} (f : A → B) (xs : List A) → length (map f xs) ≡ length xs
map_length f [] = refl
map_length f (x ∷ xs) = ap suc (map_length f xs)

-- The bytes of a way down: those of its head and of the entries behind its root.
module _ (s way : List ℕ) (root last : Position) (h : 0 < length way) (first : root ≡ parts_of (position_of s (get_or way 0 0)))
    (end : last ≡ parts_of (position_of s (get_or way (length way - 1) 0))) where
  pub way_bytes : (rest : List ℕ) → rest ≡ drop 1 way
      → path_head_bytes DE root.identifier root.reactive last.entry.span (length way - 1)
      ++ concat_map (λ v. entry_bytes 4 (entry_of (position_of s v))) rest
      ≡ path_bytes 4 DE (dependency_of (way_positions s way (length way)))
  unfolding path_bytes
  way_bytes rest e =
      let n = length way - 1 in
      let from_root : way_positions s way (length way) ≡ position_of s (get_or way 0 0) ∷ positions_from s way 1 n =
      let more : length way ≡ suc (length way - 1) = omega arith in ap (positions_from s way 0) more in
      rw (
        from_root,
        last_span_lem s way 0 n,
        zero-add n,
        map_length entry_of (positions_from s way 1 n),
        positions_length s way 1 n,
        entries_bytes s way 1 n (omega arith),
        first,
        end,
        e,
      )

entries_long : (s ws : List ℕ) → length (concat_map (λ v. entry_bytes 4 (entry_of (position_of s v))) ws) ≡ 14 * length ws
entries_long s [] = refl
entries_long s (v ∷ ws) =
    let e = entry_of (position_of s v) in
    omega (
      arith,
      length-append (entry_bytes 4 e) (concat_map (λ v. entry_bytes 4 (entry_of (position_of s v))) ws),
      entry_length e,
      entries_long s ws,
    )

-- how many they are
pub way_long : (s way : List ℕ) → 0 < length way
    → length (path_bytes 4 DE (dependency_of (way_positions s way (length way)))) ≡ 12 + 14 * (length way - 1)
way_long s way h =
    let root = parts_of (position_of s (get_or way 0 0)) in
    let last = parts_of (position_of s (get_or way (length way - 1) 0)) in
    let rest = concat_map (λ v. entry_bytes 4 (entry_of (position_of s v))) (drop 1 way) in
    let head = path_head_bytes DE root.identifier root.reactive last.entry.span (length way - 1) in
    let long = ap length (way_bytes s way root last h refl refl (drop 1 way) refl) in
    omega (
      arith,
      long,
      length-append head rest,
      path_head_length DE root.identifier root.reactive last.entry.span (length way - 1),
      entries_long s (drop 1 way),
      length-drop 1 way,
    )

-- The first dependencies on each way down, position by position: what is still to be derived from
-- here on is the rest of the whole.
use Prim.Native.Nat.{ℕ, zero, suc, ◌+◌, ◌*◌, ◌-◌, ◌≤◌, ◌<◌}
use native.Mathlib.Omega.{arith}
use native.Mathlib.Numerals.{add-one}
use native.Mathlib.Nat.{add-zero, zero-add}
use mathlib.Core.Path.{◌≡◌, refl, sym, ap, subst, ◌∙◌}
use mathlib.Core.Bool.{Bool, true, false, cond}
use mathlib.Core.List.{List, [], ◌∷◌, ◌++◌, map, append_assoc, append-nil}
use Rattle.std.proofs.Common.{Option, Some, None}
use lib.ListN.{length, get_or, set, take, length-append, length-set, length-take}
use lib.Seq.{get_or-set_same, get_or-set_other, get_or-take}
use lib.Dec.{leb}
use Rattle.entries.specs.Access.{is_dependency_access}
use Rattle.entries.specs.Path.{ReactiveScopeDependency}
use Rattle.model.specs.Lists.{concat_map}
use Rattle.model.specs.Answer.{DE, path_bytes, entry_bytes}
use Rattle.model.specs.Tests.{eqb_equal, eqb_apart}
use Rattle.model.specs.Tree.{DependencyPosition, is_dependency, dependency_of}
use Rattle.writer.specs.declared.Writer.{Writer}
use Rattle.writer.specs.Writes.{HasRoom, Puts, path_head_bytes}
use Rattle.writer.proofs.Bytes.{path_head_length, puts_as, puts_own, Coming, coming_start, coming_more, coming_over, coming_as}
use Rattle.tree.proofs.Putting.{way_long}
use Rattle.laws.specs.Flat.{grow, flat_firsts}
use Rattle.tree.specs.Words.{parent_in, place_in, access_in, sibling_in, link_of, position_of, node_of, positions_from, nodes_from, way_positions}
use Rattle.laws.specs.FlatLaws.{flat_firsts_lem}
use Rattle.tree.specs.Tree.{
  count_in,
  nodes_of,
  Apart,
  Next,
  Leads,
  forest_of,
  height,
  Sized,
  Held,
  returned_of,
  nodes_after,
  returned_from,
  paths_from,
  KeepsWay,
  Derives,
  Derivable,
}
use Rattle.tree.proofs.Linking.{skip_to, leads_by}
use Rattle.tree.proofs.Packed.{position_access}
use Rattle.tree.proofs.Adding.{children_lower, others_lower}

-- The bytes of a list of paths.

abbrev pub bytes_of : List ReactiveScopeDependency → List ℕ
bytes_of ds = concat_map (path_bytes 4 DE) ds

pub bytes_append : (ds es : List ReactiveScopeDependency) → bytes_of (ds ++ es) ≡ bytes_of ds ++ bytes_of es
bytes_append [] es = refl
bytes_append (d ∷ ds) es = ap (λ (l : List ℕ). path_bytes 4 DE d ++ l) (bytes_append ds es) ∙ sym (append_assoc (path_bytes 4 DE d) (bytes_of ds) (bytes_of es))

path_long : (d : ReactiveScopeDependency) → 12 ≤ length (path_bytes 4 DE d)
unfolding path_bytes
path_long d =
    let head = path_head_bytes DE d.identifier d.reactive d.span (length d.path) in
    omega (arith, length-append head (concat_map (entry_bytes 4) d.path), path_head_length DE d.identifier d.reactive d.span (length d.path))

-- each path has bytes
bytes_many : (ds : List ReactiveScopeDependency) → length ds ≤ length (bytes_of ds)
bytes_many [] = omega arith
bytes_many (d ∷ ds) = omega (arith, bytes_many ds, path_long d, length-append (path_bytes 4 DE d) (bytes_of ds))

-- A way down in words.

positions_snoc : (s ws : List ℕ) (k n : ℕ) → positions_from s ws k (suc n) ≡ positions_from s ws k n ++ (position_of s (get_or ws (k + n) 0) ∷ [])
positions_snoc s ws k zero = rw (add-zero k)
positions_snoc s ws k (suc n) = ap (λ (l : List DependencyPosition). position_of s (get_or ws k 0) ∷ l)
    (let e : k + suc n ≡ suc k + n = omega arith in rw e (positions_snoc s ws (suc k) n))

-- words that agree have the same positions
positions_same : (s ws vs : List ℕ) (k n : ℕ) → ((j : ℕ) → j < k + n → get_or vs j 0 ≡ get_or ws j 0) → positions_from s vs k n ≡ positions_from s ws k n
positions_same s ws vs k zero h = refl
positions_same s ws vs k (suc n) h = rw (h k (omega arith), positions_same s ws vs (suc k) n (λ j l. h j (omega arith)))

pub kept_positions : (s : List ℕ) {way to : List ℕ} {depth : ℕ} → KeepsWay way to depth → way_positions s to depth ≡ way_positions s way depth
kept_positions s {way} {to} {depth} k = positions_same s way to 0 depth (λ j l. k.same j (omega arith))

-- a part of the words has the positions of its words
positions_taken : (s way : List ℕ) (n : ℕ) → n ≤ length way → way_positions s (take n way) (length (take n way)) ≡ way_positions s way n
positions_taken s way n h =
    let long : length (take n way) ≡ n = omega (arith, length-take n way) in
    ap (way_positions s (take n way)) long ∙ positions_same s way (take n way) 0 n (λ j l. get_or-take n way j 0 (omega arith))

-- One position more: the word at the end of the way.
module _ (way to : List ℕ) (depth w : ℕ) (within : depth < length way) where
  pub pushed_keeps : to ≡ set way depth w → KeepsWay way to depth
  pushed_keeps e = record {
    long = ap length e ∙ length-set way depth w;
    same = λ j l. ap (λ (l : List ℕ). get_or l j 0) e ∙ get_or-set_other way depth j w 0 (λ z. omega arith);
  }

  pub way_pushed : (s : List ℕ) → to ≡ set way depth w → way_positions s to (depth + 1) ≡ way_positions s way depth ++ (position_of s w ∷ [])
  way_pushed s e =
      ap (positions_from s to 0) (add-one depth)
      ∙ positions_snoc s to 0 depth
      ∙ rw (zero-add depth, kept_positions s (pushed_keeps e))
      (ap (λ (v : ℕ). way_positions s way depth ++ (position_of s v ∷ [])) (ap (λ (l : List ℕ). get_or l depth 0) e ∙ get_or-set_same way depth w 0 within))

pub keeps_more : {way mid to : List ℕ} {depth : ℕ} → KeepsWay way mid depth → KeepsWay mid to depth → KeepsWay way to depth
keeps_more a b = record { long = b.long ∙ a.long; same = λ j l. b.same j l ∙ a.same j l }

pub keeps_less : {way to : List ℕ} {depth : ℕ} → KeepsWay way to (depth + 1) → KeepsWay way to depth
keeps_less a = record { long = a.long; same = λ j l. a.same j (omega arith) }

-- One record.

-- the way down is the first words of those that are lent
put_one : (s to : List ℕ) (n : ℕ) {a b : Writer} → n ≤ length to → 0 < n
    → Puts a b (12 + 14 * (length (take n to) - 1)) (path_bytes 4 DE (dependency_of (way_positions s (take n to) (length (take n to)))))
    → Derives (dependency_of (way_positions s to n) ∷ []) a b 1
put_one s to n {a} {b} h some x = record {
  puts = puts_own (puts_as (ap (λ ps. path_bytes 4 DE (dependency_of ps)) (positions_taken s to n h) ∙ sym (append-nil _)) x);
  counts = refl;
}

room_one : (s to : List ℕ) (n : ℕ) (w : Writer) → n ≤ length to → 0 < n → HasRoom w (length (bytes_of (dependency_of (way_positions s to n) ∷ [])))
    → HasRoom w (12 + 14 * (length (take n to) - 1))
room_one s to n w h some room =
    let long : length (take n to) ≡ n = omega (arith, length-take n to) in
    let path = ap (λ ps. length (path_bytes 4 DE (dependency_of ps))) (positions_taken s to n h) in
    let one = ap length (append-nil (path_bytes 4 DE (dependency_of (way_positions s to n)))) in
    omega (arith, way_long s (take n to) (omega arith), path, one)

-- The paths from a position on.

pub map-append : {A B : Type 0} (f : A → B) (xs ys : List A) → map f (xs ++ ys) ≡ map f xs ++ map f ys
map-append f [] ys = refl
map-append f (x ∷ xs) ys = ap (λ l. f x ∷ l) (map-append f xs ys)

-- behind a position more
pub through : (before : List DependencyPosition) (p : DependencyPosition) (ws : List (List DependencyPosition))
    → map (λ w. dependency_of (before ++ w)) (map (λ w. p ∷ w) ws) ≡ map (λ w. dependency_of ((before ++ (p ∷ [])) ++ w)) ws
through before p [] = refl
through before p (w ∷ ws) = rw (through before p ws, append_assoc before (p ∷ []) w)

module _ (s ws : List ℕ) (parent i : ℕ) (way : List ℕ) (depth : ℕ) (h : i < count_in ws) where
  abbrev word : ℕ
  word = get_or ws i 0

  abbrev here : DependencyPosition
  here = position_of s word

  after_one : nodes_after s ws i ≡ node_of s word ∷ nodes_after s ws (i + 1)
  after_one = let e : count_in ws - i ≡ suc (count_in ws - (i + 1)) = omega arith in rw (e, add-one i)

  paths_other : ¬ (parent_in word ≡ parent) → paths_from s ws parent i way depth ≡ paths_from s ws parent (i + 1) way depth
  unfolding paths_from
  paths_other n = rw (after_one, eqb_apart (parent_in word) parent n, ← add-one i)

  low_other : ¬ (parent_in word ≡ parent) → grow (nodes_after s ws i) i parent ≡ grow (nodes_after s ws (i + 1)) (i + 1) parent
  low_other n = rw (after_one, eqb_apart (parent_in word) parent n, ← add-one i)

  module _ (e : parent_in word ≡ parent) where
    low_here : height (grow (nodes_after s ws i) i parent) ≡ cond
        (leb (suc (height (grow (nodes_after s ws (i + 1)) (i + 1) (i + 1)))) (height (grow (nodes_after s ws (i + 1)) (i + 1) parent)))
        (height (grow (nodes_after s ws (i + 1)) (i + 1) parent)) (suc (height (grow (nodes_after s ws (i + 1)) (i + 1) (i + 1))))
    low_here = rw (after_one, eqb_equal (parent_in word) parent e, ← add-one i)

    pub low_children : (n : ℕ) → height (grow (nodes_after s ws i) i parent) ≤ n → height (grow (nodes_after s ws (i + 1)) (i + 1) (i + 1)) < n
    low_children n l = children_lower (height (grow (nodes_after s ws (i + 1)) (i + 1) (i + 1)))
        (height (grow (nodes_after s ws (i + 1)) (i + 1) parent)) n (subst (λ m. m ≤ n) low_here l)

    pub low_others : (n : ℕ) → height (grow (nodes_after s ws i) i parent) ≤ n → height (grow (nodes_after s ws (i + 1)) (i + 1) parent) ≤ n
    low_others n l = others_lower (height (grow (nodes_after s ws (i + 1)) (i + 1) (i + 1))) (height (grow (nodes_after s ws (i + 1)) (i + 1) parent)) n
        (subst (λ m. m ≤ n) low_here l)

    -- `to` is the way down with this position at its end
    module _ (to : List ℕ) (pushed : way_positions s to (depth + 1) ≡ way_positions s way depth ++ (here ∷ [])) where
      pub paths_dependency : is_dependency_access (access_in word) ≡ true
          → paths_from s ws parent i way depth ≡ (dependency_of (way_positions s to (depth + 1)) ∷ []) ++ paths_from s ws parent (i + 1) way depth
      unfolding paths_from
      paths_dependency d =
          rw (
            after_one,
            eqb_equal (parent_in word) parent e,
            ap is_dependency_access (position_access s (parent_in word) (place_in word) (access_in word))
                ∙ d,
            pushed,
            ← add-one i,
          )

      pub paths_children : is_dependency_access (access_in word) ≡ false → paths_from s ws parent i way depth ≡ paths_from s ws (i + 1)
          (i + 1) to (depth + 1) ++ paths_from s ws parent (i + 1) way depth
      unfolding paths_from
      paths_children d =
          rw (
            after_one,
            eqb_equal (parent_in word) parent e,
            ap is_dependency_access (position_access s (parent_in word) (place_in word) (access_in word))
                ∙ d,
            pushed,
            ← add-one i,
          )
          (map-append (λ w. dependency_of (way_positions s way depth ++ w))
          (map (λ w. here ∷ w) (flat_firsts is_dependency (nodes_after s ws (i + 1)) (i + 1) (i + 1)))
          (flat_firsts is_dependency (nodes_after s ws (i + 1)) (i + 1) parent)
          ∙ ap (λ l. l ++ returned_from (way_positions s way depth) (nodes_after s ws (i + 1)) (i + 1) parent)
          (through (way_positions s way depth) here (flat_firsts is_dependency (nodes_after s ws (i + 1)) (i + 1) (i + 1))))

-- The loop over the children. `way` is the way down at the start, `now` what the words of the way
-- are now; what is still to be derived comes from place i on.

pub record Deriving (s ws : List ℕ) (parent : ℕ) (way now : List ℕ) (depth : ℕ) (before w : Writer) (count i : ℕ) : Type 0 where
  pub sized : Sized ws
  pub long : length way ≡ 17
  pub keeps : KeepsWay way now depth
  pub reached : parent ≤ i
  pub within : i ≤ count_in ws
  pub low : depth + height (grow (nodes_after s ws i) i parent) ≤ 17
  pub room : HasRoom before (length (bytes_of (paths_from s ws parent parent way depth)))
  pub coming : Coming before w (bytes_of (paths_from s ws parent parent way depth)) (bytes_of (paths_from s ws parent i way depth))
  pub counts : count + length (paths_from s ws parent i way depth) ≡ length (paths_from s ws parent parent way depth)

pub deriving_start : {s ws : List ℕ} {parent : ℕ} {way : List ℕ} {depth : ℕ} {w : Writer}
    → Derivable s ws parent way depth w → Deriving s ws parent way way depth w w 0 parent
deriving_start {w = w} d = record {
  sized = d.sized;
  long = d.long;
  keeps = record { long = refl; same = λ j l. refl };
  reached = omega arith;
  within = d.within;
  low = d.low;
  room = d.room;
  coming = coming_start w _;
  counts = omega arith;
}

module _ {s ws : List ℕ} {parent : ℕ} {way now : List ℕ} {depth : ℕ} {before w : Writer} {count i : ℕ}
    (d : Deriving s ws parent way now depth before w count i) where
  none_left : count_in ws ≤ i → paths_from s ws parent i way depth ≡ []
  unfolding paths_from
  none_left h = let z : count_in ws - i ≡ 0 = omega arith in rw z

  deriving_over : count_in ws ≤ i → Derives (paths_from s ws parent parent way depth) before w count
  deriving_over h =
      let none = none_left h in
      record {
        puts = coming_over (coming_as (ap bytes_of none) d.coming) refl;
        counts = let c = d.counts in let n = ap length none in omega arith;
      }

  -- some of the paths are written, and the others come from the next position on
  deriving_more : (ds : List ReactiveScopeDependency) → paths_from s ws parent i way depth ≡ ds ++ paths_from s ws parent (i + 1) way depth
      → depth + height (grow (nodes_after s ws (i + 1)) (i + 1) parent) ≤ 17 → i < count_in ws → (to : List ℕ)
      → KeepsWay way to depth → (next : Writer) (n : ℕ)
      → Derives ds w next n
      → Deriving s ws parent way to depth before next (count + n) (i + 1)
  deriving_more ds e low h to keeps next n x =
      let rest = paths_from s ws parent (i + 1) way depth in
      let all = ap length e ∙ length-append ds rest in
      let counted = d.counts in
      let one = x.counts in
      let r = d.reached in
      record {
        sized = d.sized;
        long = d.long;
        keeps = keeps;
        reached = omega arith;
        within = omega arith;
        low = low;
        room = d.room;
        coming = coming_more (coming_as (ap bytes_of e ∙ bytes_append ds rest) d.coming) x.puts;
        counts = omega arith;
      }

  -- what is written now finds its room
  part_room : (ds : List ReactiveScopeDependency) → paths_from s ws parent i way depth ≡ ds ++ paths_from s ws parent (i + 1) way depth
      → HasRoom w (length (bytes_of ds))
  part_room ds e =
      let rest = paths_from s ws parent (i + 1) way depth in
      let coming = coming_as (ap bytes_of e ∙ bytes_append ds rest) d.coming in
      let ends = coming.ends in
      let long = coming.long in
      let room = d.room in
      let l = length-append (bytes_of ds) (bytes_of rest) in
      omega arith

  -- as many as are counted have bytes in the buffer
  counted : (ds : List ReactiveScopeDependency) (n : ℕ) → paths_from s ws parent i way depth ≡ ds ++ paths_from s ws parent (i + 1) way depth
      → n ≡ length ds → count + n ≤ length before.out.now
  counted ds n e m =
      let rest = paths_from s ws parent (i + 1) way depth in
      let all = ap length e ∙ length-append ds rest in
      let many = bytes_many (paths_from s ws parent parent way depth) in
      let c = d.counts in
      let r = d.room in
      omega arith

  module _ (h : i < count_in ws) where
    module _ (e : parent_in (get_or ws i 0) ≡ parent) where
      children : depth + 1 + height (grow (nodes_after s ws (i + 1)) (i + 1) (i + 1)) ≤ 17
      children = let l = d.low in let c = low_children s ws parent i way depth h e (height (grow (nodes_after s ws i) i parent)) (omega arith) in omega arith

      others : depth + height (grow (nodes_after s ws (i + 1)) (i + 1) parent) ≤ 17
      others = let l = d.low in let c = low_others s ws parent i way depth h e (height (grow (nodes_after s ws i) i parent)) (omega arith) in omega arith

      deriving_short : depth < 17
      deriving_short = let c = children in omega arith

      within : depth < length now
      within = let c = deriving_short in let l = d.keeps.long in let m = d.long in omega arith

      -- the position is put at the end of the way, and the test on the access is as the code has it
      module _ (to : List ℕ) (stored : to ≡ set now depth (get_or ws i 0)) (dependency : Bool)
          (tested : dependency ≡ is_dependency_access (access_in (get_or ws i 0))) where
        pushed : way_positions s to (depth + 1) ≡ way_positions s way depth ++ (position_of s (get_or ws i 0) ∷ [])
        pushed =
            way_pushed now to depth (get_or ws i 0) within s stored
            ∙ ap (λ (ps : List DependencyPosition). ps ++ (position_of s (get_or ws i 0) ∷ [])) (kept_positions s d.keeps)

        to_keeps : KeepsWay way to depth
        to_keeps = keeps_more d.keeps (pushed_keeps now to depth (get_or ws i 0) within stored)

        abbrev one : ReactiveScopeDependency
        one = dependency_of (way_positions s to (depth + 1))

        abbrev below : List ReactiveScopeDependency
        below = paths_from s ws (i + 1) (i + 1) to (depth + 1)

        to_short : depth + 1 ≤ length to
        to_short = let c = deriving_short in let l = to_keeps.long in let m = d.long in omega arith

        is_one : dependency ≡ true → paths_from s ws parent i way depth ≡ (one ∷ []) ++ paths_from s ws parent (i + 1) way depth
        is_one t = paths_dependency s ws parent i way depth h e to pushed (sym tested ∙ t)

        are_below : dependency ≡ false → paths_from s ws parent i way depth ≡ below ++ paths_from s ws parent (i + 1) way depth
        are_below t = paths_children s ws parent i way depth h e to pushed (sym tested ∙ t)

        asked_put : dependency ≡ true → HasRoom w (12 + 14 * (length (take (depth + 1) to) - 1))
        asked_put t = room_one s to (depth + 1) w to_short (omega arith) (part_room (one ∷ []) (is_one t))

        counted_put : dependency ≡ true → count + 1 ≤ length before.out.now
        counted_put t = counted (one ∷ []) 1 (is_one t) refl

        put : dependency ≡ true → (next : Writer)
            → Puts w next (12 + 14 * (length (take (depth + 1) to) - 1))
            (path_bytes 4 DE (dependency_of (way_positions s (take (depth + 1) to) (length (take (depth + 1) to)))))
            → Deriving s ws parent way to depth before next (count + 1) (i + 1)
        put t next x = deriving_more (one ∷ []) (is_one t) others h to to_keeps next 1 (put_one s to (depth + 1) to_short (omega arith) x)

        asked_derived : dependency ≡ false → Derivable s ws (i + 1) to (depth + 1) w
        asked_derived t = record {
          sized = d.sized;
          within = omega arith;
          long = to_keeps.long ∙ d.long;
          low = children;
          room = part_room below (are_below t);
        }

        counted_derived : dependency ≡ false → (next : Writer) (n : ℕ) → Derives below w next n → count + n ≤ length before.out.now
        counted_derived t next n x = counted below n (are_below t) x.counts

        derived : dependency ≡ false → (to' : List ℕ) (next : Writer) (n : ℕ) → Derives below w next n → KeepsWay to to' (depth + 1)
            → Deriving s ws parent way to' depth before next (count + n) (i + 1)
        derived t to' next n x k = deriving_more below (are_below t) others h to' (keeps_more to_keeps (keeps_less k)) next n x

-- The children are reached by the links.

-- the place to which a link leads: behind all positions where there is none
abbrev pub place_of : List ℕ → Option ℕ → ℕ
place_of ws None = count_in ws
place_of ws (Some number) = number - 1

-- a child of the parent, where there is one
abbrev IsChild : List ℕ → ℕ → Option ℕ → Type 0
IsChild ws parent None = Unit {0}
IsChild ws parent (Some number) = (0 < number) × (number ≤ count_in ws) × (parent_in (get_or ws (number - 1) 0) ≡ parent)

-- The loop is at a child of the parent, or over.
pub record AtChild (s ws : List ℕ) (parent : ℕ) (way now : List ℕ) (depth : ℕ) (before w : Writer) (count : ℕ) (next : Option ℕ) : Type 0 where
  pub rest : Deriving s ws parent way now depth before w count (place_of ws next)
  pub child : IsChild ws parent next

module _ {s ws : List ℕ} {parent : ℕ} {way now : List ℕ} {depth : ℕ} {before w : Writer} {count i : ℕ}
    (d : Deriving s ws parent way now depth before w count i) where
  -- positions with another parent are passed
  to_place : (l : ℕ) → i ≤ l → l ≤ count_in ws → Apart ws parent i l → Deriving s ws parent way now depth before w count l
  to_place l h k apart =
      let paths = skip_to ws parent (λ j. paths_from s ws parent j way depth) (λ j m ne. paths_other s ws parent j way depth m ne) i l h k apart in
      let forest = skip_to ws parent (λ j. grow (nodes_after s ws j) j parent) (λ j m ne. low_other s ws parent j way depth m ne) i l h k apart in
      let r = d.reached in
      record {
        sized = d.sized;
        long = d.long;
        keeps = d.keeps;
        reached = omega arith;
        within = k;
        low = rw (← forest) d.low;
        room = d.room;
        coming = coming_as (ap bytes_of paths) d.coming;
        counts = rw (← paths) d.counts;
      }

  pub at_child : (next : Option ℕ) → Leads ws i parent next → AtChild s ws parent way now depth before w count next
  at_child None n = record { rest = to_place (count_in ws) d.within (omega arith) (n.none (omega arith)); child = tt }
  at_child (Some number) n =
      let some = n.0 in
      let b = n.1.behind some in
      let w = n.1.within in
      record { rest = to_place (number - 1) (omega arith) (omega arith) (n.1.first some); child = (some, w, n.1.own some) }

module _ {s ws : List ℕ} {parent : ℕ} {way now : List ℕ} {depth : ℕ} {before w : Writer} {count : ℕ} {next : Option ℕ}
    (c : AtChild s ws parent way now depth before w count next) where
  pub at_number : {number : ℕ} → next ≡ Some number → AtChild s ws parent way now depth before w count (Some number)
  at_number e = subst (λ (l : Option ℕ). AtChild s ws parent way now depth before w count l) e c

  pub at_end : next ≡ None → AtChild s ws parent way now depth before w count None
  at_end e = subst (λ (l : Option ℕ). AtChild s ws parent way now depth before w count l) e c

-- The loop is over.
pub child_over : {s ws : List ℕ} {parent : ℕ} {way now : List ℕ} {depth : ℕ} {before w : Writer} {count : ℕ}
    → AtChild s ws parent way now depth before w count None → Derives (paths_from s ws parent parent way depth) before w count
child_over c = deriving_over c.rest (omega arith)

-- The loop is at a child.
module _ {s ws : List ℕ} {parent : ℕ} {way now : List ℕ} {depth : ℕ} {before w : Writer} {count number : ℕ}
    (c : AtChild s ws parent way now depth before w count (Some number)) where
  pub child_inside : number - 1 < count_in ws
  child_inside = let l = c.child.1 in let k = c.child.0 in omega arith

  pub child_behind : parent < number
  child_behind = let r = c.rest.reached in let k = c.child.0 in omega arith

  back : number - 1 + 1 ≡ number
  back = let k = c.child.0 in omega arith

  pub child_within : depth < length now
  child_within = within c.rest child_inside c.child.2

  -- The child is put at the end of the way, and the test on its access is as the code has it.
  module _ (to : List ℕ) (stored : to ≡ set now depth (get_or ws (number - 1) 0)) (dependency : Bool)
      (tested : dependency ≡ is_dependency_access (access_in (get_or ws (number - 1) 0))) where
    pub child_to : depth + 1 ≤ length to
    child_to = to_short c.rest child_inside c.child.2 to stored dependency tested

    pub child_asked_put : dependency ≡ true → HasRoom w (12 + 14 * (length (take (depth + 1) to) - 1))
    child_asked_put = asked_put c.rest child_inside c.child.2 to stored dependency tested

    pub child_counted_put : dependency ≡ true → count + 1 ≤ length before.out.now
    child_counted_put = counted_put c.rest child_inside c.child.2 to stored dependency tested

    pub child_put : dependency ≡ true → (next : Writer)
        → Puts w next (12 + 14 * (length (take (depth + 1) to) - 1))
        (path_bytes 4 DE (dependency_of (way_positions s (take (depth + 1) to) (length (take (depth + 1) to)))))
        → Deriving s ws parent way to depth before next (count + 1) (number - 1 + 1)
    child_put = put c.rest child_inside c.child.2 to stored dependency tested

    pub child_asked_derived : dependency ≡ false → Derivable s ws number to (depth + 1) w
    child_asked_derived t =
        subst (λ n. Derivable s ws n to (depth + 1) w) back (asked_derived c.rest child_inside c.child.2 to stored dependency tested t)

    module _ (t : dependency ≡ false) (next : Writer) (n : ℕ) (x : Derives (paths_from s ws number number to (depth + 1)) w next n) where
      there : Derives (paths_from s ws (number - 1 + 1) (number - 1 + 1) to (depth + 1)) w next n
      there = subst (λ k. Derives (paths_from s ws k k to (depth + 1)) w next n) (sym back) x

      pub child_counted_derived : count + n ≤ length before.out.now
      child_counted_derived = counted_derived c.rest child_inside c.child.2 to stored dependency tested t next n there

      pub child_derived : (to' : List ℕ) → KeepsWay to to' (depth + 1) → Deriving s ws parent way to' depth before next (count + n) (number - 1 + 1)
      child_derived to' k = derived c.rest child_inside c.child.2 to stored dependency tested t to' next n there k

  -- the child's link leads to the next
  module _ (link : Option ℕ) (is : link ≡ link_of (sibling_in (get_or ws (number - 1) 0))) where
    link_next : Leads ws (number - 1 + 1) parent link
    link_next =
        leads_by (sibling_in (get_or ws (number - 1) 0)) is
        (subst (λ p. Next ws (number - 1 + 1) p (sibling_in (get_or ws (number - 1) 0))) c.child.2
        (c.rest.sized.linked.siblings (number - 1) child_inside))

    pub child_next : (to : List ℕ) (next : Writer) (n : ℕ) → Deriving s ws parent way to depth before next n (number - 1 + 1)
        → AtChild s ws parent way to depth before next n link
    child_next to next n d = at_child d link link_next

-- The whole.

module _ (s ws way : List ℕ) where
  pub paths_all : paths_from s ws 0 0 way 0 ≡ returned_of s ws
  unfolding paths_from returned_of forest_of nodes_of
  paths_all = let e : count_in ws - 0 ≡ count_in ws =
      omega arith in rw e (ap (map dependency_of) (flat_firsts_lem is_dependency (nodes_from s ws 0 (count_in ws)) 0 0))

  pub derivable : (w : Writer) → length way ≡ 17 → Held s ws → HasRoom w (length (bytes_of (returned_of s ws))) → Derivable s ws 0 way 0 w
  unfolding forest_of nodes_of
  derivable w long held room =
      let e : count_in ws - 0 ≡ count_in ws = omega arith in
      let low = held.low in
      record { sized = held.sized; within = omega arith; long = long; low = rw e (omega arith); room = rw paths_all room }

  pub derives_all : {before after : Writer} {count : ℕ} → Derives (paths_from s ws 0 0 way 0) before after count → Derives
      (returned_of s ws) before after count
  derives_all {before} {after} {count} x = subst (λ (ds : List ReactiveScopeDependency). Derives ds before after count) paths_all x

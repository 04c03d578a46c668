-- The paths that a block's records bring, entered one record after the other: what enters those
-- that are left after those before enters them all.
use Prim.Native.Nat.{ℕ, ◌+◌, ◌-◌, ◌≤◌, ◌<◌}
use native.Mathlib.Omega.{arith}
use mathlib.Core.Path.{◌≡◌, refl, sym, ap, subst, ◌∙◌}
use Rattle.std.specs.Prelude.{Result, Ok, Err}
use Rattle.entries.specs.declared.Refusal.{Refusal}
use mathlib.Core.List.{List, [], ◌∷◌}
use lib.ListN.{length}
use Rattle.entries.specs.Path.{ReactiveScopeDependency}
use Rattle.model.specs.ReadingBytes.{Read, got, refused, mapped, read_many}
use Rattle.model.specs.Sets.{insert}
use Rattle.model.specs.Registry.{node_limit, PropertyPathRegistry, Reached, own_mark, get_or_create_property}
use Rattle.model.specs.RegistryLaws.{Extends}
use Rattle.model.proofs.RegistryLaws.{extends_refl, extends_trans, extends_length, path_extends, property_longer, path_proper}
use Rattle.model.specs.Stage.{PathsEntered, enter_path, enter_paths}
use Rattle.model.proofs.PropagationLaws.{paths_append, paths_longer}
use Rattle.registry.specs.Words.{registry_of, Held}
use Rattle.registry.proofs.View.{registry_length}
use Rattle.rows.specs.Members.{members_of}
use Rattle.job.specs.Kept.{place_after}
use Rattle.job.specs.Passing.{IsRead, or_none}
use Rattle.job.proofs.Many.{many_first}
use Rattle.job.proofs.Passing.{not_both}
use Rattle.paths.specs.declared.EnteredPath.{EnteredPath}
use Rattle.paths.specs.Enters.{Enters}
use Rattle.assumed.specs.declared.EnteredSet.{EnteredSet}
use Rattle.assumed.specs.Start.{itself, read_brought, all_of, entered_so_far, Fills, EntersAll}

-- Entering paths only adds nodes.
pub paths_extend : (e : PathsEntered) (ds : List ReactiveScopeDependency) → Extends e.registry (enter_paths e ds).registry
unfolding get_or_create_property
paths_extend e [] = extends_refl e.registry
paths_extend e (d ∷ ds) = extends_trans (path_extends own_mark e.registry d) (paths_extend (enter_path e d) ds)

-- One path, by the answers of `enter_path`.

module _ (reg : PropertyPathRegistry) (us ps : List ℕ) where
  pub one_full : (e : EnteredSet) (x : Read ReactiveScopeDependency) (q : Refusal) → Enters x (get_or_create_property reg) (Err q) us ps
      → EntersAll (mapped itself x) (entered_so_far reg e) (Err q) us ps
  one_full e (got d n) q h = h
  one_full e (refused y) q h = absurd h

  module _ (p : EnteredPath) where
    reached : (x : Read ReactiveScopeDependency) → Enters x (get_or_create_property reg) (Ok p) us ps
        → (d : ReactiveScopeDependency) × (x ≡ got d p.next) × Held us ps
        × (get_or_create_property reg d ≡ record { registry = registry_of us; node = p.node; made = p.made })
    reached (got d m) h = (d, ap (got d) (sym h.1), h.0.0, h.0.1)
    reached (refused y) h = absurd h

    pub one_inside : (ws os : List ℕ) → Held ws os → registry_of ws ≡ reg → (x : Read ReactiveScopeDependency)
        → Enters x (get_or_create_property reg) (Ok p) us ps → p.node.0 < 512
    unfolding get_or_create_property
    one_inside ws os held same x h =
        let t = reached x h in
        let inside = subst (λ (g : PropertyPathRegistry). (get_or_create_property g t.0).node.0 < length (get_or_create_property g t.0).registry) same
        (path_proper own_mark (registry_of ws) t.0 held.sound).inside in
        let l = subst (λ (y : Reached). y.node.0 < length y.registry) t.3 inside in
        let size = registry_length us in
        let room = t.2.sized.room in
        omega arith

    -- what was made is among the nodes, for which the words have room
    pub one_few : (made : ℕ) → made ≤ length reg → (x : Read ReactiveScopeDependency) → Enters x (get_or_create_property reg) (Ok p) us ps → made + p.made ≤ 512
    one_few made among x h =
        let t = reached x h in
        let longer = subst (λ (y : Reached). length y.registry ≡ length reg + y.made) t.3 (property_longer reg t.0) in
        let size = registry_length us in
        let room = t.2.sized.room in
        omega arith

    pub one_entered : (e r : EnteredSet) → members_of r.set.words ≡ insert p.node (members_of e.set.words) → r.made ≡ e.made + p.made → r.at ≡ p.next
        → (x : Read ReactiveScopeDependency) → Enters x (get_or_create_property reg) (Ok p) us ps
        → EntersAll (mapped itself x) (entered_so_far reg e) (Ok r) us ps
    one_entered e r inserted counted place x h =
        let t = reached x h in
        let entered = ap {B = PathsEntered} (λ (y : Reached). record {
          registry = y.registry;
          set = insert y.node (members_of e.set.words);
          made = e.made + y.made;
        }) t.3 in
        let is : enter_path (entered_so_far reg e) t.0 ≡ entered_so_far (registry_of us) r =
        entered ∙ (λ i. record { registry = registry_of us; set = sym inserted i; made = sym counted i }) in
        subst (λ (y : Read ReactiveScopeDependency). EntersAll (mapped itself y) (entered_so_far reg e) (Ok r) us ps) (sym t.1) (t.2, is, place)

-- Records, each of which brings some paths.

-- what the records bring that were read, and the place after them
abbrev pub values_at : List ℕ → ℕ → ℕ → List (List ReactiveScopeDependency)
values_at s at n = or_none (read_many n read_brought s at) (λ xs end. xs)

abbrev pub end_at : List ℕ → ℕ → ℕ → ℕ
end_at s at n = place_after (read_many n read_brought s at)

-- The records that are left were read, and entering what they bring after what was entered so far
-- gives what is wanted.
pub record Filling (want : PathsEntered) (end : ℕ) (s ws : List ℕ) (e : EnteredSet) (left : ℕ) : Type 0 where
  pub among : e.made ≤ length (registry_of ws)
  pub rest : List (List ReactiveScopeDependency)
  pub there : read_many left read_brought s e.at ≡ got rest end
  pub same : want ≡ enter_paths (entered_so_far (registry_of ws) e) (all_of rest)

pub filling : (s ws : List ℕ) (e : EnteredSet) (count left : ℕ) → left ≡ count → e.made ≤ length (registry_of ws)
    → IsRead (read_many count read_brought s e.at)
    → Filling (enter_paths (entered_so_far (registry_of ws) e) (all_of (values_at s e.at count))) (end_at s e.at count) s ws e left
filling s ws e count left all among x =
    rw all (subst (λ (y : Read (List (List ReactiveScopeDependency))).
    Filling (enter_paths (entered_so_far (registry_of ws) e) (all_of (or_none y (λ xs end. xs)))) (place_after y) s ws e count)
    (sym x.read)
    (record { among = among; rest = x.value; there = x.read; same = refl }))

module _ {want : PathsEntered} {end : ℕ} {s ws : List ℕ} {e : EnteredSet} {left : ℕ} (x : Filling want end s ws e left) where
  pub filling_end : left ≡ 0 → (os : List ℕ) → Held ws os → Fills want end (Ok e) ws os
  filling_end none os held =
      let nothing : got [] e.at ≡ got x.rest end = subst (λ n. read_many n read_brought s e.at ≡ got x.rest end) none x.there in
      let no : [] ≡ x.rest = cc in
      let last : e.at ≡ end = cc in
      (held, x.same ∙ ap (λ xs. enter_paths (entered_so_far (registry_of ws) e) (all_of xs)) (sym no), last)

  module _ (some : 0 < left) where
    -- the first of the records that are left, and the others
    first : (ds : List ReactiveScopeDependency) × (next : ℕ) × (rest : List (List ReactiveScopeDependency)) × (read_brought s e.at ≡ got ds next)
        × (read_many (left - 1) read_brought s next ≡ got rest end) × (ds ∷ rest ≡ x.rest)
    first = many_first read_brought s left e.at some x.there

    pub first_there : IsRead (read_brought s e.at)
    first_there = record { value = first.0; next = first.1; read = first.3 }

    module _ (us ps : List ℕ) where
      one : (q : Result EnteredSet Refusal) → EntersAll (read_brought s e.at) (entered_so_far (registry_of ws) e) q us ps
          → Fills (enter_paths (entered_so_far (registry_of ws) e) first.0) first.1 q us ps
      one q = subst (λ (y : Read (List ReactiveScopeDependency)). EntersAll y (entered_so_far (registry_of ws) e) q us ps) first.3

      split : want ≡ enter_paths (enter_paths (entered_so_far (registry_of ws) e) first.0) (all_of first.2)
      split =
          x.same ∙ ap (λ xs. enter_paths (entered_so_far (registry_of ws) e) (all_of xs)) (sym first.5)
          ∙ paths_append (entered_so_far (registry_of ws) e) first.0 (all_of first.2)

      pub filling_full : (q : Refusal) → EntersAll (read_brought s e.at) (entered_so_far (registry_of ws) e) (Err q) us ps → Fills want end (Err q) us ps
      filling_full q entered =
          let so_far = enter_paths (entered_so_far (registry_of ws) e) first.0 in
          let full = one (Err q) entered in
          let longer = extends_length (paths_extend so_far (all_of first.2)) in
          (full.0, subst (λ (y : PathsEntered). node_limit < length y.registry) (sym split) (omega arith))

      pub filling_more : (r : EnteredSet) (n : ℕ) → EntersAll (read_brought s e.at) (entered_so_far (registry_of ws) e) (Ok r) us ps → n + 1 ≡ left
          → Filling want end s us r n
      filling_more r n entered fewer =
          let is = one (Ok r) entered in
          let rest : n ≡ left - 1 = omega arith in
          let longer = subst (λ (y : PathsEntered). length y.registry + e.made ≡ length (registry_of ws) + y.made) is.1
          (paths_longer (entered_so_far (registry_of ws) e) first.0) in
          rw rest (record {
            among = let so_far = x.among in omega arith;
            rest = first.2;
            there = subst (λ n. read_many (left - 1) read_brought s n ≡ got first.2 end) (sym is.2) first.4;
            same = split ∙ ap (λ (y : PathsEntered). enter_paths y (all_of first.2)) is.1;
          })

-- The whole list was entered, with what all its records bring.
pub all_entered : (x : Read (List (List ReactiveScopeDependency))) → IsRead x → (start : PathsEntered) (r : Result EnteredSet Refusal) (ws os : List ℕ)
    → Fills (enter_paths start (all_of (or_none x (λ xs end. xs)))) (place_after x) r ws os → EntersAll (mapped all_of x) start r ws os
all_entered (got xs end) there start r ws os h = h
all_entered (refused y) there start r ws os h = not_both there.read refl

-- A block's assumed paths, and the blocks that are left: what starts from them after those before
-- starts the whole.
use Prim.Native.Nat.{ℕ, zero, suc, ◌+◌, ◌*◌, ◌≤◌, ◌<◌}
use native.Mathlib.Omega.{arith}
use native.Mathlib.Nat.{zero-add, add-zero}
use mathlib.Core.Path.{◌≡◌, refl, sym, ap, subst, ◌∙◌}
use Rattle.std.specs.Prelude.{Result, Ok, Err}
use Rattle.entries.specs.declared.Refusal.{Refusal}
use Rattle.entries.specs.declared.Refusal.TheVariants.{ManyNodes}
use mathlib.Core.List.{List, [], ◌∷◌, ◌++◌, append_assoc, append-nil}
use lib.ListN.{length, get_or, set, drop, drop_of_length-le}
use lib.Seq.{get_or-set_same}
use Rattle.model.specs.ReadingBytes.{Read, mapped}
use Rattle.model.specs.Job.{Block, assumed_of, read_block}
use Rattle.model.specs.Sets.{NodeSet}
use Rattle.model.specs.Registry.{node_limit, PropertyPathRegistry}
use Rattle.model.specs.RegistryLaws.{Extends}
use Rattle.model.proofs.RegistryLaws.{extends_refl, extends_trans, extends_length}
use Rattle.model.specs.Stage.{PathsEntered, Started, none_entered, enter_block, enter_blocks, start_of}
use Rattle.model.proofs.PropagationLaws.{paths_longer}
use Rattle.registry.specs.Words.{registry_of, Held}
use Rattle.registry.proofs.View.{registry_length}
use Rattle.rows.specs.Members.{members_of}
use Rattle.rows.specs.Rows.{RowSet, row_of, rows_from, rows_of}
use Rattle.rows.proofs.Rows.{row_at, rows_count}
use Rattle.job.specs.Kept.{blocks_of, PlacedJob}
use Rattle.job.specs.Passing.{IsRead}
use Rattle.job.proofs.BlocksAt.{blocks_read, block_there}
use Rattle.assumed.specs.declared.EnteredSet.{EnteredSet}
use Rattle.assumed.specs.Start.{Fills, EntersAll, StartHeld}
use Rattle.assumed.proofs.Filling.{paths_extend}

-- The blocks that are left.

blocks_extend : (reg : PropertyPathRegistry) (bs : List Block) → Extends reg (enter_blocks reg bs).registry
unfolding enter_blocks
blocks_extend reg [] = extends_refl reg
blocks_extend reg (b ∷ bs) = extends_trans (paths_extend (none_entered reg) (assumed_of b)) (blocks_extend (enter_block reg b).registry bs)

-- sets, for which so many nodes were made, in front of those with which the blocks that are left
-- start
abbrev after : List NodeSet → ℕ → Started → Started
after sets made st = record { registry = st.registry; sets = sets ++ st.sets; made = made + st.made }

-- one block in front of those that are left
abbrev with_first : PathsEntered → Started → Started
with_first e st = record { registry = st.registry; sets = e.set ∷ st.sets; made = e.made + st.made }

set_behind : (l : List NodeSet) (i : ℕ) (x : NodeSet) → length l ≤ i → set l i x ≡ l
set_behind [] i x h = refl
set_behind (y ∷ l) zero x h = absurd (omega arith)
set_behind (y ∷ l) (suc i) x h = ap (λ t. y ∷ t) (set_behind l i x (omega arith))

rows_more : (ws : List ℕ) (k n : ℕ) → rows_from ws k (suc n) ≡ rows_from ws k n ++ (row_of ws (k + n) ∷ [])
rows_more ws k zero = ap (λ i. row_of ws i ∷ []) (omega arith)
rows_more ws k (suc n) = ap (λ t. row_of ws k ∷ t) (rows_more ws (suc k) n ∙ ap (λ i. rows_from ws (suc k) n ++ (row_of ws i ∷ [])) (omega arith))

-- one row more is stored
row_more : (entry exit : List ℕ) (b : ℕ) (s : NodeSet) → RowSet entry exit b s → rows_of exit (b + 1) ≡ rows_of entry b ++ (s ∷ [])
unfolding rows_of
row_more entry exit b s x =
    let one : b + 1 ≡ suc b = omega arith in
    let size = rows_count entry b in
    let wide = rows_count entry (suc b) in
    let this : row_of exit b ≡ s =
    sym (row_at exit (suc b) b (omega arith)) ∙ ap (λ (l : List NodeSet). get_or l b []) (x.rows (suc b))
    ∙ get_or-set_same (rows_of entry (suc b)) b s [] (omega arith) in
    let others : rows_of exit b ≡ rows_of entry b = x.rows b ∙ set_behind (rows_of entry b) b s (omega arith) in
    ap (rows_of exit) one ∙ rows_more exit 0 b ∙ ap (λ (l : List NodeSet). l ++ (row_of exit (0 + b) ∷ [])) others
    ∙ ap (λ t. rows_of entry b ++ (t ∷ [])) (ap (row_of exit) (zero-add b) ∙ this)

-- the first of the blocks that are left is entered, and its set stands last of those before
one_more : (front more : List NodeSet) (made : ℕ) (e : PathsEntered) (reg : PropertyPathRegistry) (s : NodeSet) (made_here : ℕ) (bs cs : List Block)
    → e ≡ record { registry = reg; set = s; made = made_here }
    → more ≡ front ++ (s ∷ []) → bs ≡ cs → after front made (with_first e (enter_blocks e.registry bs)) ≡ after more (made + made_here) (enter_blocks reg cs)
one_more front more made e reg s made_here bs cs is stored same =
    let rest = enter_blocks reg bs in
    let total : made + (made_here + rest.made) ≡ (made + made_here) + rest.made = omega arith in
    ap (λ (e : PathsEntered). after front made (with_first e (enter_blocks e.registry bs))) is
    ∙ (λ i. record { registry = rest.registry; sets = sym (append_assoc front (s ∷ []) rest.sets) i; made = total i })
    ∙ ap (λ (l : List NodeSet). after l (made + made_here) rest) (sym stored)
    ∙ ap (λ bs. after more (made + made_here) (enter_blocks reg bs)) same

-- The blocks that are left start, after the sets before them, what is wanted, and what was made for
-- those before is among the nodes. There is as much room for sets as at the start.
pub record Starting (bs : List Block) (n room : ℕ) (ws sets : List ℕ) (made b : ℕ) : Type 0 where
  pub among : made ≤ length (registry_of ws)
  pub long : length sets ≡ room
  pub below : b ≤ n
  pub same : start_of bs ≡ after (rows_of sets b) made (enter_blocks (registry_of ws) (drop b bs))

pub starting : (bs : List Block) (n : ℕ) (ws sets : List ℕ) → registry_of ws ≡ [] → Starting bs n (length sets) ws sets 0 0
unfolding rows_of
starting bs n ws sets none = record {
  among = omega arith;
  long = refl;
  below = omega arith;
  same =
      ap (λ reg. enter_blocks reg bs) (sym none)
      ∙ (let st = enter_blocks (registry_of ws) bs in λ i. record { registry = st.registry; sets = st.sets; made = sym (zero-add st.made) i });
}

-- what was made is among the nodes, for which the words have room
pub starting_few : {bs : List Block} {n room : ℕ} {ws os sets : List ℕ} {made b : ℕ} → Held ws os → Starting bs n room ws sets made b → made ≤ 512
starting_few {ws = ws} held x = let size = registry_length ws in let room = held.sized.room in let among = x.among in omega arith

module _ {s : List ℕ} {n : ℕ} {places : List ℕ} (job : PlacedJob s n places) where
  count : length (blocks_of s) ≡ n
  count = ap length (blocks_read job.job job.blocks) ∙ job.blocks.count

  pub block_read : (b : ℕ) → b < n → {at : ℕ} → at ≡ get_or places b 0 → IsRead (read_block 4 s at)
  block_read b l here = let t = block_there job.job job.blocks b l in record { value = t.0; next = t.1; read = ap (read_block 4 s) here ∙ t.2 }

  module _ {room : ℕ} {ws sets : List ℕ} {made b : ℕ} (x : Starting (blocks_of s) n room ws sets made b) where
    all_entered : n ≤ b → start_of (blocks_of s) ≡ record { registry = registry_of ws; sets = rows_of sets n; made = made }
    unfolding enter_blocks
    all_entered none =
        let all : b ≡ n = let l = x.below in omega arith in
        let few : length (blocks_of s) ≤ b = let size = count in omega arith in
        let gone : drop b (blocks_of s) ≡ [] = drop_of_length-le (blocks_of s) few in
        let rows = append-nil (rows_of sets b) ∙ ap (rows_of sets) all in
        x.same ∙ ap (λ bs. after (rows_of sets b) made (enter_blocks (registry_of ws) bs)) gone
        ∙ (λ i. record { registry = registry_of ws; sets = rows i; made = add-zero made i })

    pub starting_end : (os : List ℕ) → Held ws os → n * 8 ≤ room → n ≤ b
        → StartHeld (start_of (blocks_of s)) n ws os sets × (made ≡ (start_of (blocks_of s)).made)
    starting_end os held enough none =
        let is = all_entered none in (
          record {
            held = held;
            lent = rw x.long enough;
            registry = ap (λ (st : Started). st.registry) is;
            sets = ap (λ (st : Started). st.sets) is;
          },
          sym (ap (λ (st : Started). st.made) is),
        )

    module _ (some : b < n) {at : ℕ} (here : at ≡ get_or places b 0) (r : Result EnteredSet Refusal) (us ps : List ℕ)
        (entered : EntersAll (mapped assumed_of (read_block 4 s at)) (none_entered (registry_of ws)) r us ps) where
      -- the block that is entered, and what that does to the whole
      next_block : (a : Block)
          × (start_of (blocks_of s) ≡ after (rows_of sets b) made (enter_blocks (registry_of ws) (a ∷ drop (suc b) (blocks_of s))))
          × (next : ℕ) × Fills (enter_block (registry_of ws) a) next r us ps
      next_block =
          let t = block_there job.job job.blocks b some in
          let first : drop b (blocks_of s) ≡ t.0 ∷ drop (suc b) (blocks_of s) =
          subst (λ (bs : List Block). drop b bs ≡ t.0 ∷ drop (suc b) bs) (sym (blocks_read job.job job.blocks)) t.3 in (
            t.0,
            x.same ∙ ap (λ bs. after (rows_of sets b) made (enter_blocks (registry_of ws) bs)) first,
            t.1,
            subst (λ (y : Read Block). EntersAll (mapped assumed_of y) (none_entered (registry_of ws)) r us ps) (ap (read_block 4 s) here ∙ t.2) entered,
          )

    pub starting_full : (some : b < n) {at : ℕ} (here : at ≡ get_or places b 0) (e : Refusal) (us ps : List ℕ)
        → EntersAll (mapped assumed_of (read_block 4 s at)) (none_entered (registry_of ws)) (Err e) us ps
        → (e ≡ ManyNodes) × (node_limit < length (start_of (blocks_of s)).registry)
    unfolding enter_blocks
    starting_full some here e us ps entered =
        let t = next_block some here (Err e) us ps entered in
        let full = t.3 in
        let longer = extends_length (blocks_extend (enter_block (registry_of ws) t.0).registry (drop (suc b) (blocks_of s))) in
        (full.0, subst (λ (st : Started). node_limit < length st.registry) (sym t.1) (omega arith))

    pub starting_more : (some : b < n) {at : ℕ} (here : at ≡ get_or places b 0) (r : EnteredSet) (us ps : List ℕ)
        → EntersAll (mapped assumed_of (read_block 4 s at)) (none_entered (registry_of ws)) (Ok r) us ps
        → (more : List ℕ) → RowSet sets more b (members_of r.set.words) → Starting (blocks_of s) n room us more (made + r.made) (b + 1)
    unfolding enter_blocks
    starting_more some here r us ps entered more stored =
        let t = next_block some here (Ok r) us ps entered in
        let block = enter_block (registry_of ws) t.0 in
        let is = t.3 in
        let longer = subst (λ (y : PathsEntered). length y.registry + 0 ≡ length (registry_of ws) + y.made) is.1
        (paths_longer (none_entered (registry_of ws)) (assumed_of t.0)) in
        record {
          among = let so_far = x.among in omega arith;
          long = stored.long ∙ x.long;
          below = omega arith;
          same =
              t.1
              ∙ one_more (rows_of sets b) (rows_of more (b + 1)) made block (registry_of us) (members_of r.set.words) r.made
              (drop (suc b) (blocks_of s)) (drop (b + 1) (blocks_of s)) is.1
              (row_more sets more b (members_of r.set.words) stored) (let next : suc b ≡ b + 1 = omega arith in ap (λ k. drop k (blocks_of s)) next);
        }

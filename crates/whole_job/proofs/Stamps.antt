-- Where ids are led to blocks, each to a block of its own, none stands twice, since equal ids are
-- led to one block. Where the blocks have the ids that led to them, each id is known.
use Prim.Native.Nat.{ℕ, zero, suc, ◌+◌, ◌-◌, ◌≤◌, ◌<◌}
use native.Mathlib.Omega.{arith}
use mathlib.Core.Path.{◌≡◌, refl, sym, ap, ◌∙◌}
use mathlib.Core.Bool.{Bool, true, false, cond}
use mathlib.Core.List.{List, [], ◌∷◌}
use lib.ListN.{length, get_or, set, drop, length-set, drop_of_length-le}
use lib.Seq.{get_or-set_same, get_or-set_other}
use lib.Dec.{eqb, ltb}
use Rattle.std.specs.Prelude.{Option}
use Rattle.std.specs.Option.{is_some}
use Rattle.entries.specs.declared.BlockId.{BlockId}
use Rattle.model.specs.Lists.{any_of}
use Rattle.model.specs.Tests.{never, by_cond, eqb_equal, eqb_apart, eqb-false, ltb_true, ltb_less, or_second}
use Rattle.model.specs.ReadingBytes.{got, read_number}
use Rattle.model.specs.Job.{contains_id, repeats, block_id}
use Rattle.id_index.specs.Index.{block_by, leads}
use Rattle.job.specs.Passing.{notes, note_value}
use Rattle.job.specs.Kept.{block_ids}
use Rattle.whole_job.specs.Ids.{any_unknown, repeats_at, any_unknown_at, repeated_in, unknown_in}
use Rattle.whole_job.specs.Stamps.{led_to, Stamped, apart}
use Rattle.job.proofs.Noting.{one_more}

pub stamped_long : {k n stamp : ℕ} {stamps after : List ℕ} → Stamped k n stamp stamps after → length after ≡ length stamps
stamped_long {k} {n} {stamp} {stamps} x = ap length x.stamped ∙ length-set stamps k stamp

module _ (place : ℕ → ℕ) (n stamp : ℕ) where
  -- one id more
  pub apart_more : (id : ℕ) (ids : List ℕ) {stamps after : List ℕ} → Stamped (place id) n stamp stamps after
      → apart place n stamp stamps (id ∷ ids) ≡ apart place n stamp after ids
  apart_more id ids {stamps} {after} x =
      rw (ltb_less (place id) n x.there, eqb_apart (get_or stamps (place id) 0) stamp x.new)
      (ap (λ (l : List ℕ). apart place n stamp l ids) (sym x.stamped))

  -- the end of a loop over a list of ids
  pub apart_end : (ids : List ℕ) (k : ℕ) (stamps : List ℕ) → length ids ≤ k → apart place n stamp stamps (drop k ids) ≡ true
  apart_end ids k stamps h = rw (drop_of_length-le ids h)

  -- the same of ids that are read one after the other
  module _ (s : List ℕ) (count i at : ℕ) where
    pub field_next : (i < count) → {id next : ℕ} {stamps after : List ℕ} → read_number 4 s at ≡ got id next → Stamped (place id) n stamp stamps after
        → apart place n stamp stamps (notes note_value (count - i) (read_number 4) s at)
        ≡ apart place n stamp after (notes note_value (count - (i + 1)) (read_number 4) s next)
    field_next l {id} {next} {stamps} e x =
        ap (apart place n stamp stamps) (one_more (read_number 4) s note_value l e)
        ∙ apart_more id (notes note_value (count - (i + 1)) (read_number 4) s next) x

  -- the first id, and the others
  apart_first : (stamps : List ℕ) (id : ℕ) (ids : List ℕ) → apart place n stamp stamps (id ∷ ids) ≡ true
      → Stamped (place id) n stamp stamps (set stamps (place id) stamp) × (apart place n stamp (set stamps (place id) stamp) ids ≡ true)
  apart_first stamps id ids h =
      by_test (ltb (place id) n) (eqb (get_or stamps (place id) 0) stamp) (apart place n stamp (set stamps (place id) stamp) ids) refl refl h
    where
      by_test : (b c d : Bool) → ltb (place id) n ≡ b → eqb (get_or stamps (place id) 0) stamp ≡ c → cond b (cond c false d) false ≡ true
          → Stamped (place id) n stamp stamps (set stamps (place id) stamp) × (d ≡ true)
      by_test false c d e f h = never h refl
      by_test true true d e f h = never h refl
      by_test true false d e f h =
          (record { there = ltb_true (place id) n e; new = eqb-false (get_or stamps (place id) 0) stamp f; stamped = refl }, h)

  module _ (few : n ≤ 128) where
    -- an id whose block has the stamp does not follow
    stamped_absent : (stamps : List ℕ) (id : ℕ) (ids : List ℕ) → get_or stamps (place id) 0 ≡ stamp → length stamps ≡ 128
        → apart place n stamp stamps ids ≡ true → contains_id (block_ids ids) (block_id id) ≡ false
    stamped_absent stamps id [] e wide h = refl
    stamped_absent stamps id (other ∷ ids) e wide h =
        let x = apart_first stamps other ids h in
        let differs : eqb id other ≡ false = eqb_apart id other (λ same. x.0.new (ap (λ i. get_or stamps (place i) 0) (sym same) ∙ e)) in
        rw differs
        (stamped_absent (set stamps (place other) stamp) id ids
        (get_or-set_other stamps (place other) (place id) stamp 0 (λ same. x.0.new (ap (λ k. get_or stamps k 0) (sym same) ∙ e)) ∙ e)
        (length-set stamps (place other) stamp ∙ wide) x.1)

    pub apart_once : (stamps ids : List ℕ) → length stamps ≡ 128 → apart place n stamp stamps ids ≡ true → repeats (block_ids ids) ≡ false
    apart_once stamps [] wide h = refl
    apart_once stamps (id ∷ ids) wide h =
        let x = apart_first stamps id ids h in
        let there = x.0.there in
        let wide' = length-set stamps (place id) stamp ∙ wide in
        rw (stamped_absent (set stamps (place id) stamp) id ids (get_or-set_same stamps (place id) stamp 0 (omega arith)) wide' x.1)
        (apart_once (set stamps (place id) stamp) ids wide' x.1)

-- A block with an id stands at a place.
contains_at : (ids : List ℕ) (k id : ℕ) → k < length ids → get_or ids k 0 ≡ id → contains_id (block_ids ids) (block_id id) ≡ true
contains_at [] k id l e = absurd (omega arith)
contains_at (i ∷ ids) zero id l e = rw (eqb_equal id i (sym e))
contains_at (i ∷ ids) (suc k) id l e = or_second (eqb id i) _ (contains_at ids k id (omega arith) e)

module _ (known index : List ℕ) where
  -- an id that the index leads to a block is known
  pub led_known : (id : ℕ) → led_to known index id < length known → contains_id (block_ids known) (block_id id) ≡ true
  led_known id l = contains_at known (led_to known index id) id l ((leads known (length known) index id).there l)

  -- an index that answers leads to a block
  led_there : (id : ℕ) → is_some (block_by known index id) ≡ true → led_to known index id < length known
  led_there id =
      let place = led_to known index id in
      by_cond (λ (o : Option ℕ). is_some o ≡ true → place < length known) (ltb place (length known))
      (λ l e. ltb_true place (length known) l)
      (λ l e. absurd (cc))

  pub apart_known : (stamp : ℕ) (stamps ids : List ℕ) → apart (led_to known index) (length known) stamp stamps ids ≡ true
      → any_unknown (block_ids known) (block_ids ids) ≡ false
  apart_known stamp stamps [] h = refl
  apart_known stamp stamps (id ∷ ids) h =
      let x = apart_first (led_to known index) (length known) stamp stamps id ids h in
      rw (led_known id x.0.there) (apart_known stamp (set stamps (led_to known index id) stamp) ids x.1)

-- Neither refusal applies where no id and no predecessor within one block stands twice, no
-- predecessor is unknown, and the index leads from the scope block's id to a block.
pub neither : (s ids places index : List ℕ) (scope : BlockId) → repeats (block_ids ids) ≡ false
    → (any_of (repeats_at s) places ≡ false) × (any_of (any_unknown_at s ids) places ≡ false)
    → is_some (block_by ids index scope.0) ≡ true
    → (repeated_in s ids places ≡ false) × (unknown_in s ids places scope ≡ false)
neither s ids places index scope once all found =
    let there = led_there ids index scope.0 found in
    (rw (once, all.0), rw (all.1, led_known ids index scope.0 there))

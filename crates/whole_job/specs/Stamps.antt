-- Ids that are led to blocks, each to a block of its own.
use Rattle.std.specs.Prelude.{ℕ, ◌<◌, ◌≡◌, Bool, true, false, cond, List, [], ◌∷◌, length, get_or, set, eqb, ltb}
use Rattle.id_index.specs.Index.{place_by}
use Rattle.whole_job.specs.declared.apart.Stamps.{Stamps}

-- the place to which an index leads from an id; behind the last block where it leads to none
abbrev pub led_to : List ℕ → List ℕ → ℕ → ℕ
led_to ids index id = place_by ids (length ids) index id

-- A place is that of one of n blocks, which had not this stamp, and the stamps are as before but
-- for that block's.
pub record Stamped (place n stamp : ℕ) (before after : List ℕ) : Type 0 where
  pub there : place < n
  pub new : get_or before place 0 ≡ stamp → ⊥
  pub stamped : after ≡ set before place stamp

-- `place` leads from each of these ids to one of n blocks, and each block gets a stamp that it had
-- not before.
abbrev pub apart : (ℕ → ℕ) → ℕ → ℕ → List ℕ → List ℕ → Bool
apart place n stamp stamps [] = true
apart place n stamp stamps (id ∷ ids) =
    cond (ltb (place id) n)
    (cond (eqb (get_or stamps (place id) 0) stamp) false (apart place n stamp (set stamps (place id) stamp) ids))
    false

-- The index leads from each of these ids to a block of its own that had not the stamp before, and
-- there are as many stamps as before.
pub record Apart (known index : List ℕ) (stamp : ℕ) (ids before after : List ℕ) : Type 0 where
  pub led : apart (led_to known index) (length known) stamp before ids ≡ true
  pub long : length after ≡ length before

-- The index stays, and the block to which it leads from an id has the stamp now, and had it not
-- before.
pub record BlockStamped (before after : Stamps) (stamp id : ℕ) : Type 0 where
  pub index : after.index ≡ before.index
  pub block : Stamped (led_to before.index.ids.now before.index.bytes id) (length before.index.ids.now) stamp before.stamps after.stamps

-- The same of several ids.
pub record BlocksStamped (before after : Stamps) (stamp : ℕ) (ids : List ℕ) : Type 0 where
  pub index : after.index ≡ before.index
  pub blocks : Apart before.index.ids.now before.index.bytes stamp ids before.stamps after.stamps

-- What stands at the front of an array after a list was stored there.
use Prim.Native.Nat.{ℕ, ◌+◌, ◌≤◌}
use mathlib.Core.Path.{◌≡◌, sym, ap, ◌∙◌}
use mathlib.Core.List.{List}
use native.Mathlib.Omega.{arith}
use lib.ListN.{length, take, drop}
use lib.Seq.{sets, sets-eq, length-sets, take-append_seam, length-take-le}

-- the first n of an array r are the numbers vs
pub record Stored (vs r : List ℕ) (n : ℕ) : Type 0 where
  pub within : n ≤ length r
  pub count : n ≡ length (take n r)
  pub front : take n r ≡ vs

-- n numbers vs are stored in an array l that has room for them, which then is r
pub stored : (l vs r : List ℕ) (n : ℕ) → length vs ≤ length l → n ≡ length vs → r ≡ sets l 0 vs → Stored vs r n
stored l vs r n room count kept =
    let w : n ≤ length r = omega (arith, ap length kept ∙ length-sets l 0 vs) in
    record {
      within = w;
      count = sym (length-take-le n r w);
      front = rw (count, kept, sets-eq vs l 0 (omega arith)) (take-append_seam vs (drop (0 + length vs) l));
    }

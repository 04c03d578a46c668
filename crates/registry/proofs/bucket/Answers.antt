-- The expression is that of `bucket_by`. The parent with its marks has 18 bits and the other parts
-- have 32, and the factors are small enough that the sum of the products does not pass 64.
use Prim.Native.Nat.{ℕ, ◌+◌, ◌*◌, ◌^◌, ◌<◌}
use native.Mathlib.Omega.{arith}
use mathlib.Core.Path.{refl}
use Rattle.registry.specs.Words.{bucket_by}
use Rattle.registry.proofs.bucket.Goals as goal

sum_fits : (p i a b : ℕ) → p < 262144 → i < 4294967296 → a < 4294967296 → b < 4294967296 → p * 21013597 + (i + a + b) * 165902235 < 2 ^ 64
sum_fits p i a b p< i< a< b< = omega arith

pub returns : goal.returns
unfolding bucket_by
returns c = (refl, omega arith)

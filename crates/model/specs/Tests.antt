-- Going by cases on a test, and what the tests on numbers say.
use Rattle.std.specs.Prelude.{ℕ, ◌≤◌, ◌<◌, ◌≡◌, refl, Bool, true, false, ◌&&◌, ◌||◌, not, cond, T, eqb, ltb}
use Rattle.std.proofs.Common.{arith, true≢false, eqb→eq, ltb→lt, lt→ltb, nltb→le}
use Rattle.std.proofs.lemmas.Bool.{false≢true}
use Rattle.std.specs.Bool.{beq}
use Rattle.std.proofs.Math.Dec.{eqb_refl}
use Rattle.model.specs.Answer.{flag}

-- to show something of `cond b x y`, show it of each branch with what its test says
pub by_cond {ℓ κ} : {A : Type ℓ} (Q : A → Type κ) (b : Bool) {x y : A} → (b ≡ true → Q x) → (b ≡ false → Q y) → Q (cond b x y)
by_cond Q true f g = f refl
by_cond Q false f g = g refl

-- to show something, show it where the test passes and where it fails
pub decide {ℓ} : {A : Type ℓ} (b : Bool) → (b ≡ true → A) → (b ≡ false → A) → A
decide true f g = f refl
decide false f g = g refl

pub passes_test : {b : Bool} → T b → b ≡ true
passes_test {b = true} t = refl
passes_test {b = false} t = absurd t

pub test_passes : {b : Bool} → b ≡ true → T b
test_passes e = rw e tt

pub test_fails : {b : Bool} → b ≡ false → T (not b)
test_fails e = rw e tt

pub never : {A : Type 0} {b : Bool} → b ≡ true → b ≡ false → A
never {b = true} t f = absurd (true≢false f)
never {b = false} t f = absurd (false≢true t)

pub eqb_same : (n : ℕ) → eqb n n ≡ true
eqb_same n = passes_test (eqb_refl n)

pub eqb_equal : (a b : ℕ) → a ≡ b → eqb a b ≡ true
eqb_equal a b e = rw e (eqb_same b)

pub eqb-true : (a b : ℕ) → eqb a b ≡ true → a ≡ b
eqb-true a b e = eqb→eq a b (test_passes e)

pub eqb_apart : (a b : ℕ) → ¬ (a ≡ b) → eqb a b ≡ false
eqb_apart a b h = decide (eqb a b) (λ e. absurd (h (eqb-true a b e))) (λ e. e)

pub eqb-false : (a b : ℕ) → eqb a b ≡ false → ¬ (a ≡ b)
eqb-false a b e h = never (rw h (eqb_same b)) e

pub ltb_true : (a b : ℕ) → ltb a b ≡ true → a < b
ltb_true a b e = ltb→lt a b (test_passes e)

pub ltb_false : (a b : ℕ) → ltb a b ≡ false → b ≤ a
ltb_false a b e = nltb→le a b (test_fails e)

pub ltb_less : (a b : ℕ) → a < b → ltb a b ≡ true
ltb_less a b h = passes_test (lt→ltb a b h)

pub ltb_not_less : (a b : ℕ) → b ≤ a → ltb a b ≡ false
ltb_not_less a b h = decide (ltb a b) (λ e. let l = ltb_true a b e in absurd (omega arith)) (λ e. e)

-- whether a flag's number is 1 is the flag
pub flag_is : (b : Bool) → eqb (flag b) 1 ≡ b
flag_is true = refl
flag_is false = refl

pub and_first : (a b : Bool) → a && b ≡ true → a ≡ true
and_first true b h = refl
and_first false b h = absurd (false≢true h)

pub and_second : (a b : Bool) → a && b ≡ true → b ≡ true
and_second true b h = h
and_second false b h = absurd (false≢true h)

pub beq_same : (a : Bool) → beq a a ≡ true
beq_same true = refl
beq_same false = refl

pub beq_true : (a b : Bool) → beq a b ≡ true → a ≡ b
beq_true true true h = refl
beq_true true false h = absurd (false≢true h)
beq_true false true h = absurd (false≢true h)
beq_true false false h = refl

pub or_swap : (a b c : Bool) → a || (b || c) ≡ (b || (a || c))
or_swap true true c = refl
or_swap true false c = refl
or_swap false b c = refl

pub or_second : (a b : Bool) → b ≡ true → a || b ≡ true
or_second true b h = refl
or_second false b h = h

pub or_cases {ℓ} : {A : Type ℓ} (a b : Bool) → a || b ≡ true → (a ≡ true → A) → (b ≡ true → A) → A
or_cases true b h f g = f refl
or_cases false b h f g = g h

-- Lists of levels as the code holds them: the numbers of two lists put over each other, and of a
-- path with one entry more.
use Prim.Native.Nat.{ℕ, zero, suc, ◌+◌, ◌*◌, ◌-◌, ◌/◌, ◌^◌, ◌≤◌, ◌<◌}
use native.Mathlib.Omega.{arith}
use native.Mathlib.Nat.{pow-suc, div-one, div-div-eq-div-mul, mul_left_comm}
use mathlib.Core.Path.{◌≡◌, refl, sym, ap, ◌∙◌}
use mathlib.Core.Bool.{Bool, true, false, ◌&&◌, not, cond, and-true}
use mathlib.Core.List.{List, [], ◌∷◌, ◌++◌, map}
use lib.ListN.{length, drop}
use lib.Pow.{pow_pos}
use Rattle.entries.specs.declared.DependencyPathEntry.{DependencyPathEntry}
use Rattle.entries.specs.Path.{same_property, prefix_of_names}
use Rattle.model.specs.Answer.{flag}
use Rattle.model.specs.Tests.{by_cond, decide, never, and_first, and_second}
use Rattle.hoistable.specs.declared.Levels.{Levels}
use Rattle.hoistable.specs.Levels.{number_of, weight_of}
use Rattle.hoistable.specs.Agreement.{agreed, next_same, over, HoldsLevels, Small}
use Rattle.hoistable.proofs.Walks.{number_later}

pub number_below_lem : (bs : List Bool) → number_of bs < weight_of bs
unfolding number_of weight_of
number_below_lem [] = omega arith
number_below_lem (true ∷ bs) = let h = number_below_lem bs in omega arith
number_below_lem (false ∷ bs) = let h = number_below_lem bs in omega arith

weight_some : (bs : List Bool) → 0 < weight_of bs
weight_some bs = let l = number_below_lem bs in omega arith

pub weight_most : (bs : List Bool) (n : ℕ) → length bs ≤ n → weight_of bs ≤ 2 ^ n
unfolding weight_of
weight_most [] n l = pow_pos n
weight_most (b ∷ bs) zero l = absurd (omega arith)
weight_most (b ∷ bs) (suc n) l = let h = weight_most bs n (omega arith) in let e = pow-suc 2 n in omega arith

pub holds_small : {bs : List Bool} {v : Levels} → HoldsLevels bs v → Small v
holds_small {bs} h =
    let below = number_below_lem bs in
    let most = weight_most bs 17 h.few in
    let e = h.end in
    let o = h.optional in
    record { most = omega arith; below = omega arith }

pub holds_none : HoldsLevels [] (record { end = 1; optional = 0 })
unfolding number_of weight_of
holds_none = record { few = omega arith; end = refl; optional = refl }

-- Each bit turned.

turned : (bs : List Bool) → number_of (map not bs) ≡ weight_of bs - 1 - number_of bs
unfolding number_of weight_of
turned [] = refl
turned (true ∷ bs) = let l = number_below_lem bs in let h = turned bs in omega arith
turned (false ∷ bs) = let l = number_below_lem bs in let h = turned bs in omega arith

pub holds_turned : {bs : List Bool} {v : Levels} → HoldsLevels bs v → v.end - 1 - v.optional ≡ number_of (map not bs)
holds_turned {bs} h = rw (h.end, h.optional) (sym (turned bs))

-- One list over another.

over_length : (xs ys : List Bool) (n : ℕ) → length xs ≤ n → length ys ≤ n → length (over xs ys) ≤ n
over_length [] ys n a b = b
over_length (x ∷ xs) [] n a b = a
over_length (x ∷ xs) (y ∷ ys) zero a b = absurd (omega arith)
over_length (x ∷ xs) (y ∷ ys) (suc n) a b = let h = over_length xs ys n (omega arith) (omega arith) in omega arith

-- of the bits above a weight, one level further on
later_bits : (y : Bool) (ys xs : List Bool) → number_of (y ∷ ys) / (2 * weight_of xs) * (2 * weight_of xs) ≡ 2 * (number_of ys / weight_of xs * weight_of xs)
later_bits y ys xs =
    ap (λ q. q * (2 * weight_of xs)) (sym (div-div-eq-div-mul (number_of (y ∷ ys)) 2 (weight_of xs)) ∙ ap (λ n. n / weight_of xs) (number_later (y ∷ ys)))
    ∙ mul_left_comm (number_of ys / weight_of xs) 2 (weight_of xs)

over_longer : (xs ys : List Bool) → weight_of xs < weight_of ys → (weight_of (over xs ys) ≡ weight_of ys) ×
    (number_of (over xs ys) ≡ number_of xs + number_of ys / weight_of xs * weight_of xs)
unfolding number_of weight_of
over_longer [] ys l = (refl, let e = div-one (number_of ys) in omega arith)
over_longer (x ∷ xs) [] l = absurd (let s = weight_some xs in omega arith)
over_longer (x ∷ xs) (y ∷ ys) l =
    let h = over_longer xs ys (omega arith) in
    let a = h.0 in
    let b = h.1 in
    let e = later_bits y ys xs in
    (omega arith, omega arith)

over_shorter : (xs ys : List Bool) → weight_of ys ≤ weight_of xs → over xs ys ≡ xs
unfolding weight_of
over_shorter [] [] l = refl
over_shorter [] (y ∷ ys) l = absurd (let s = weight_some ys in omega arith)
over_shorter (x ∷ xs) [] l = refl
over_shorter (x ∷ xs) (y ∷ ys) l = ap (λ bs. x ∷ bs) (over_shorter xs ys (omega arith))

module _ {xs ys : List Bool} {v w : Levels} (hx : HoldsLevels xs v) (hy : HoldsLevels ys w) where
  pub holds_longer : v.end < w.end → HoldsLevels (over xs ys) (record { end = w.end; optional = v.optional + w.optional / v.end * v.end })
  holds_longer l =
      let a = hx.end in
      let b = hy.end in
      let law = over_longer xs ys (omega arith) in
      record {
        few = over_length xs ys 17 hx.few hy.few;
        end = hy.end ∙ sym law.0;
        optional = rw (hx.end, hx.optional, hy.optional) (sym law.1);
      }

  pub holds_shorter : w.end ≤ v.end → HoldsLevels (over xs ys) (record { end = v.end; optional = v.optional })
  holds_shorter l =
      let a = hx.end in
      let b = hy.end in
      rw (over_shorter xs ys (omega arith)) hx

-- A path with one entry more.

pub prefix_snoc : (ds es : List DependencyPathEntry) (d : DependencyPathEntry) → prefix_of_names (ds ++ (d ∷ [])) es ≡ prefix_of_names ds es && next_same
    d.property (drop (length ds) es)
prefix_snoc [] [] d = refl
prefix_snoc [] (e ∷ es) d = and-true (same_property d.property e.property)
prefix_snoc (a ∷ ds) [] d = refl
prefix_snoc (a ∷ ds) (e ∷ es) d =
    decide (same_property a.property e.property) (λ s. rw s (prefix_snoc ds es d)) (λ s. rw s)

pub agreed_length : (ds es : List DependencyPathEntry) → length (agreed ds es) ≤ suc (length es)
agreed_length [] es = omega arith
agreed_length (d ∷ ds) [] = omega arith
agreed_length (d ∷ ds) (e ∷ es) = by_cond (λ bs. suc (length bs) ≤ suc (suc (length es))) (same_property d.property e.property)
    (λ _. let h = agreed_length ds es in omega arith) (λ _. omega arith)

-- the names part before the entry: it changes nothing
pub agreed_apart : (ds es : List DependencyPathEntry) (d : DependencyPathEntry) → prefix_of_names ds es ≡ false → agreed (ds ++ (d ∷ [])) es ≡ agreed ds es
agreed_apart [] es d p = never refl p
agreed_apart (a ∷ ds) [] d p = refl
agreed_apart (a ∷ ds) (e ∷ es) d p =
    decide (same_property a.property e.property) (λ s. rw s (ap (λ bs. a.optional ∷ bs) (agreed_apart ds es d (rw s at p)))) (λ s. rw s)

-- a level at least is known, so the weight is even
half : (ds es : List DependencyPathEntry) → (n : ℕ) × (weight_of (agreed ds es) ≡ 2 * n)
unfolding weight_of
half [] es = (1, refl)
half (d ∷ ds) [] = (1, refl)
half (d ∷ ds) (e ∷ es) = (weight_of (cond (same_property d.property e.property) (agreed ds es) []), refl)

flag_cond : (b : Bool) → flag b ≡ cond b 1 0
flag_cond true = refl
flag_cond false = refl

cond_twice : (b : Bool) (n : ℕ) → 2 * cond b n 0 ≡ cond b (2 * n) 0
cond_twice true n = refl
cond_twice false n = refl

-- All names before the entry agree. The path no longer ends at their last position, so that its
-- bit, which was 0, is the entry's optional mark ..
pub agreed_number : (ds es : List DependencyPathEntry) (d : DependencyPathEntry) → prefix_of_names ds es ≡ true
    → number_of (agreed (ds ++ (d ∷ [])) es) ≡ number_of (agreed ds es) + cond d.optional (weight_of (agreed ds es) / 2) 0
unfolding number_of weight_of
agreed_number [] [] d p = let e = flag_cond d.optional in omega arith
agreed_number [] (e ∷ es) d p = by_cond (λ bs. flag d.optional + 2 * number_of bs ≡ 0 + cond d.optional 1 0)
    (same_property d.property e.property) (λ _. let f = flag_cond d.optional in omega arith) (λ _. let f = flag_cond d.optional in omega arith)
agreed_number (a ∷ ds) [] d p = never p refl
agreed_number (a ∷ ds) (e ∷ es) d p =
    let same = and_first (same_property a.property e.property) (prefix_of_names ds es) p in
    let rest = and_second (same_property a.property e.property) (prefix_of_names ds es) p in
    let h = agreed_number ds es d rest in
    let even = half ds es in
    let n = even.1 in
    let whole : 2 * (weight_of (agreed ds es) / 2) ≡ 2 * weight_of (agreed ds es) / 2 = omega arith in
    let twice = cond_twice d.optional (weight_of (agreed ds es) / 2) ∙ ap (λ m. cond d.optional m 0) whole in
    rw same (omega arith)

-- .. and where the entry's name agrees too, it ends one further on.
pub agreed_weight : (ds es : List DependencyPathEntry) (d : DependencyPathEntry) → prefix_of_names ds es ≡ true
    → weight_of (agreed (ds ++ (d ∷ [])) es) ≡ cond (next_same d.property (drop (length ds) es)) (2 * weight_of (agreed ds es)) (weight_of (agreed ds es))
unfolding weight_of
agreed_weight [] [] d p = refl
agreed_weight [] (e ∷ es) d p = decide (same_property d.property e.property) (λ s. rw s) (λ s. rw s)
agreed_weight (a ∷ ds) [] d p = never p refl
agreed_weight (a ∷ ds) (e ∷ es) d p =
    let same = and_first (same_property a.property e.property) (prefix_of_names ds es) p in
    let rest = and_second (same_property a.property e.property) (prefix_of_names ds es) p in
    rw (same, agreed_weight ds es d rest) (go (next_same d.property (drop (length ds) es)))
  where
    go : (b : Bool) → 2 * cond b (2 * weight_of (agreed ds es)) (weight_of (agreed ds es)) ≡ cond b (2 * (2 * weight_of (agreed ds es)))
        (2 * weight_of (agreed ds es))
    go true = refl
    go false = refl

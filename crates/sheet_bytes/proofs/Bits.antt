-- The bytes of a row are the bytes of its words, each word's lowest first.
use Prim.Native.Nat.{ℕ, zero, suc, ◌+◌, ◌*◌, ◌-◌, ◌/◌, ◌%◌, ◌^◌, ◌<◌}
use native.Mathlib.Omega.{arith}
use native.Mathlib.Nat.{pow-suc, div-one, mod-one, mod-lt}
use mathlib.Core.Path.{◌≡◌, refl, sym, ap, ◌∙◌}
use mathlib.Core.List.{List, [], ◌∷◌, ◌++◌}
use lib.ListN.{get_or, take, drop}
use lib.Seq.{get_or-take, get_or-drop}
use lib.Arith.{mod-mul}
use lib.Pow.{pow_pos}
use lib.Dec.{eqb}
use Rattle.model.specs.Sets.{NodeSet, contains}
use Rattle.model.specs.Answer.{number_bytes, flag, bits_from, row_bytes}
use Rattle.rows.specs.Members.{bit, has_bit}
use Rattle.rows.specs.Rows.{row_of}
use Rattle.rows.proofs.Words.{shifted_bit}
use Rattle.rows.proofs.Members.{contains_members}

flag_digit : (d : ℕ) → d < 2 → flag (eqb d 1) ≡ d
flag_digit zero l = refl
flag_digit (suc zero) l = refl
flag_digit (suc (suc d)) l = absurd (omega arith)

lowest : (w : ℕ) → flag (bit w 0) ≡ w % 2
lowest w = flag_digit (w / 2 ^ 0 % 2) (mod-lt (w / 2 ^ 0) (omega arith)) ∙ ap (λ (x : ℕ). x % 2) (div-one w)

-- The nodes from k on are in the set as the bits of the word say, n of them.
abbrev Agree : NodeSet → ℕ → ℕ → ℕ → Type 0
Agree s w k n = (m : ℕ) → m < n → contains s (record { 0 = k + m }) ≡ bit w m

agree_on : (s : NodeSet) (w k n d : ℕ) → Agree s w k (d + n) → Agree s (w / 2 ^ d) (k + d) n
agree_on s w k n d h m l = ap (λ (i : ℕ). contains s (record { 0 = i })) (omega arith) ∙ h (d + m) (omega arith) ∙ sym (shifted_bit w d m)

bits_are : (n : ℕ) (s : NodeSet) (w k : ℕ) → Agree s w k n → bits_from s k n ≡ w % 2 ^ n
unfolding bits_from
bits_are zero s w k h = sym (mod-one w)
bits_are (suc n) s w k h =
    let low : flag (contains s (record { 0 = k })) ≡ w % 2 = ap (λ (i : ℕ). flag (contains s (record { 0 = i }))) (omega arith) ∙ ap flag
    (h 0 (omega arith)) ∙ lowest w in
    let high : bits_from s (k + 1) n ≡ w / 2 % 2 ^ n = bits_are n s (w / 2) (k + 1) (agree_on s w k n 1 (λ m l. h m (omega arith))) in
    let split : w % 2 ^ suc n ≡ (w / 2 % 2 ^ n) * 2 + w % 2 = ap (λ (x : ℕ). w % x) (pow-suc 2 n) ∙ mod-mul w (pow_pos n) (omega arith) in
    omega arith

-- as many bytes of the row as the word has
bytes_are : (n : ℕ) (s : NodeSet) (w k : ℕ) → Agree s w k (8 * n) → row_bytes s k n ≡ number_bytes n w
unfolding row_bytes number_bytes
bytes_are zero s w k h = refl
bytes_are (suc n) s w k h =
    ap (λ (b : ℕ). b ∷ row_bytes s (k + 8) n) (bits_are 8 s w k (λ m l. h m (omega arith)))
    ∙ ap (λ (bs : List ℕ). w % 256 ∷ bs) (bytes_are n s (w / 256) (k + 8) (agree_on s w k (8 * n) 8 (λ m l. h m (omega arith))))

bytes_split : (m n : ℕ) (s : NodeSet) (k : ℕ) → row_bytes s k (m + n) ≡ row_bytes s k m ++ row_bytes s (k + 8 * m) n
unfolding row_bytes
bytes_split zero n s k = let e : 0 + n ≡ n = omega arith in let f : k + 8 * 0 ≡ k = omega arith in rw (e, f)
bytes_split (suc m) n s k =
    let e : suc m + n ≡ suc (m + n) = omega arith in
    let f : k + 8 * suc m ≡ k + 8 + 8 * m = omega arith in
    rw (e, f) (ap (λ (bs : List ℕ). bits_from s k 8 ∷ bs) (bytes_split m n s (k + 8)))

-- word i of a row has the bits of the nodes from 64 * i on
word_agrees : (sets : List ℕ) (b i : ℕ) → i < 8 → Agree (row_of sets b) (get_or sets (b * 8 + i) 0) (64 * i) 64
unfolding row_of has_bit
word_agrees sets b i l m k =
    let q : (64 * i + m) / 64 ≡ i = omega arith in
    let r : (64 * i + m) % 64 ≡ m = omega arith in
    contains_members (drop (b * 8) sets) (record { 0 = 64 * i + m }) (omega arith)
    ∙ rw (q, r) (ap (λ (w : ℕ). bit w m) (get_or-drop (b * 8) sets i 0))

-- the bytes of the row up to word i and this word's bytes are those up to the next
pub row_next : (sets : List ℕ) (b i : ℕ) → i < 8
    → row_bytes (row_of sets b) 0 (8 * i) ++ number_bytes 8 (get_or sets (b * 8 + i) 0) ≡ row_bytes (row_of sets b) 0 (8 * (i + 1))
row_next sets b i l =
    let e : 8 * i + 8 ≡ 8 * (i + 1) = omega arith in
    let f : 64 * i ≡ 0 + 8 * (8 * i) = omega arith in
    ap (λ (bs : List ℕ). row_bytes (row_of sets b) 0 (8 * i) ++ bs)
    (sym (bytes_are 8 (row_of sets b) (get_or sets (b * 8 + i) 0) (64 * i) (word_agrees sets b i l)) ∙ ap (λ (k : ℕ). row_bytes (row_of sets b) k 8) f)
    ∙ sym (bytes_split (8 * i) 8 (row_of sets b) 0)
    ∙ ap (row_bytes (row_of sets b) 0) e

pub row_none : (s : NodeSet) → [] ≡ row_bytes s 0 (8 * 0)
unfolding row_bytes
row_none s = refl

-- the row's words, as a part of all words
pub word_at : (sets : List ℕ) (b i : ℕ) → i < 8 → get_or (take (b * 8 + 8 - b * 8) (drop (b * 8) sets)) i 0 ≡ get_or sets (b * 8 + i) 0
word_at sets b i l = get_or-take (b * 8 + 8 - b * 8) (drop (b * 8) sets) i 0 (omega arith) ∙ get_or-drop (b * 8) sets i 0

-- A node that is packed into three words and unpacked again is the node: each field stands in bits
-- of its own.
use Prim.Native.Nat.{ℕ, ◌+◌, ◌*◌, ◌/◌, ◌%◌, ◌<◌}
use mir.Val.{bool_byte}
use native.Mathlib.Omega.{arith}
use mathlib.Core.Bool.{Bool, true, false}
use mathlib.Core.Path.{◌≡◌, refl, sym, ap, ◌∙◌, subst}
use lib.Dec.{eqb}
use Rattle.entries.specs.declared.IdentifierId.{IdentifierId}
use Rattle.entries.specs.declared.NodeId.{NodeId}
use Rattle.entries.specs.declared.DependencyPathEntry.{DependencyPathEntry}
use Rattle.entries.specs.Path.{same_entry}
use Rattle.model.specs.Tests.{never, eqb_same, eqb_equal, eqb-true, eqb_apart, beq_same, and_first, and_second, flag_is}
use Rattle.model.specs.Registry.{root_mark}
use Rattle.model.proofs.RegistryLaws.{property_same, entry_property, entry_optional}
use Rattle.model.specs.Sets.{NodeSet}
use Rattle.entries.specs.Property.{property_of, is_number, value_of, property_back}
use Rattle.model.specs.Answer.{flag}
use Rattle.registry.specs.declared.Node.{Node}
use Rattle.registry.specs.declared.Node.TheVariants.{Root, Child}
use Rattle.registry.specs.Nodes.{same_key, Inside, optional_over}
use Rattle.registry.specs.Words.{ParentFits, parent_unit, optional_unit, number_unit, reactive_unit, link_unit, value_in, key_in, unpack_by, unpack, Packed}

-- The fields of a word: 32 bits, 16 bits, and flags.
module _ (i p o k r : ℕ) (i< : i < 4294967296) (p< : p < 65536) (o< : o < 2) (k< : k < 2) (r< : r < 2) where
  at_identifier : (i + p * 4294967296 + (o + k * 2 + r * 4) * 281474976710656) % 4294967296 ≡ i
  at_identifier = omega arith

  at_parent : (i + p * 4294967296 + (o + k * 2 + r * 4) * 281474976710656) / 4294967296 % 65536 ≡ p
  at_parent = omega arith

  at_optional : (i + p * 4294967296 + (o + k * 2 + r * 4) * 281474976710656) / 281474976710656 % 2 ≡ o
  at_optional = omega arith

  at_number : (i + p * 4294967296 + (o + k * 2 + r * 4) * 281474976710656) / 562949953421312 % 2 ≡ k
  at_number = omega arith

  at_reactive : (i + p * 4294967296 + (o + k * 2 + r * 4) * 281474976710656) / 1125899906842624 % 2 ≡ r
  at_reactive = omega arith

-- `r`, `o` and `k` are the flags' numbers, as the code has them
pub packed_root : (i : IdentifierId) (reactive : Bool) (span r : ℕ) → i.0 < 4294967296 → r ≡ flag reactive → r < 2
    → unpack (i.0 + 65535 * 4294967296 + r * 4 * 281474976710656) 0 span ≡ Root i reactive span
unfolding unpack
packed_root i reactive span r i< e r< =
    let p< : 65535 < 65536 = omega arith in
    let z< : 0 < 2 = omega arith in
    let same : i.0 + 65535 * 4294967296 + r * 4 * 281474976710656 ≡ i.0 + 65535 * 4294967296 + (0 + 0 * 2 + r * 4) * 281474976710656 = omega arith in
    rw (
      same,
      at_parent i.0 65535 0 0 r i< p< z< z< r<,
      at_identifier i.0 65535 0 0 r i< p< z< z< r<,
      at_reactive i.0 65535 0 0 r i< p< z< z< r<,
      e,
      flag_is,
    )

pub packed_child : (p : NodeId) (e : DependencyPathEntry) (o k : ℕ) → p.0 < root_mark → o ≡ flag e.optional → o < 2 → k ≡ flag (is_number e.property)
    → k < 2
    → unpack (p.0 * 4294967296 + (o + k * 2) * 281474976710656) (value_of e.property) e.span ≡ Child p e
unfolding unpack
packed_child p e o k p< eo o< ek k< =
    let i< : 0 < 4294967296 = omega arith in
    let q< : p.0 < 65536 = omega arith in
    let z< : 0 < 2 = omega arith in
    let same : p.0 * 4294967296 + (o + k * 2) * 281474976710656 ≡ 0 + p.0 * 4294967296 + (o + k * 2 + 0 * 4) * 281474976710656 = omega arith in
    let no-root : eqb p.0 root_mark ≡ false = eqb_apart p.0 root_mark (λ same. omega arith) in
    rw (
      same,
      at_parent 0 p.0 o k 0 i< q< o< k< z<,
      no-root,
      at_parent 0 p.0 o k 0 i< q< o< k< z<,
      at_optional 0 p.0 o k 0 i< q< o< k< z<,
      at_number 0 p.0 o k 0 i< q< o< k< z<,
      eo,
      ek,
      flag_is,
      flag_is,
      property_back,
    )

-- the number of a yes or no, as the code makes it
pub flagged : (b : Bool) (r : ℕ) → r ≡ bool_byte b → (r ≡ flag b) × (r < 2)
flagged false r e = (e, omega arith)
flagged true r e = (e, omega arith)

pub packs_child : {n : Node} {p : NodeId} {e : DependencyPathEntry} → ParentFits n → n ≡ Child p e → p.0 < root_mark
packs_child h e = subst ParentFits e h

-- The link stands above all fields: unpacking passes it over, and division by its unit gives it
-- back.

module _ (h link : ℕ) where
  past_link_48 : (h + link * 2251799813685248) / 281474976710656 ≡ h / 281474976710656 + link * 8
  past_link_48 = omega arith

  past_link_49 : (h + link * 2251799813685248) / 562949953421312 ≡ h / 562949953421312 + link * 4
  past_link_49 = omega arith

  past_link_50 : (h + link * 2251799813685248) / 1125899906842624 ≡ h / 1125899906842624 + link * 2
  past_link_50 = omega arith

  past_link_32 : (h + link * 2251799813685248) / 4294967296 ≡ h / 4294967296 + link * 524288
  past_link_32 = omega arith

  identifier_below : (h + link * 2251799813685248) % 4294967296 ≡ h % 4294967296
  identifier_below = omega arith

  parent_below : (h + link * 2251799813685248) / 4294967296 % 65536 ≡ h / 4294967296 % 65536
  parent_below = rw past_link_32 (omega arith)

  optional_below : (h + link * 2251799813685248) / 281474976710656 % 2 ≡ h / 281474976710656 % 2
  optional_below = rw past_link_48 (omega arith)

  number_below_lem : (h + link * 2251799813685248) / 562949953421312 % 2 ≡ h / 562949953421312 % 2
  number_below_lem = rw past_link_49 (omega arith)

  reactive_below : (h + link * 2251799813685248) / 1125899906842624 % 2 ≡ h / 1125899906842624 % 2
  reactive_below = rw past_link_50 (omega arith)

fields_below : (b : Bool) (h v s link : ℕ) → unpack_by b (h + link * link_unit) v s ≡ unpack_by b h v s
fields_below true h v s link = simp (identifier_below h link, reactive_below h link)
fields_below false h v s link = simp (parent_below h link, number_below_lem h link, optional_below h link)

pub linked_word : (h v s link : ℕ) → unpack (h + link * link_unit) v s ≡ unpack h v s
unfolding unpack
linked_word h v s link =
    ap (λ (p : ℕ). unpack_by (eqb p root_mark) (h + link * link_unit) v s) (parent_below h link)
    ∙ fields_below (eqb (h / parent_unit % 65536) root_mark) h v s link

pub link_back : (h link : ℕ) → h < link_unit → (h + link * link_unit) / link_unit ≡ link
link_back h link l = omega arith

-- The key of a word: all below the reactive mark.

pub key_of_root : (i r : ℕ) → i < 4294967296 → (i + 65535 * 4294967296 + r * 4 * 281474976710656) % reactive_unit ≡ i + root_mark * parent_unit
key_of_root i r i< = omega arith

pub key_of_child : (p o k : ℕ) → p < root_mark → o < 2 → k < 2
    → (p * 4294967296 + (o + k * 2) * 281474976710656) % reactive_unit ≡ p * parent_unit + (o + k * 2) * optional_unit
key_of_child p o k p< o< k< = omega arith

-- a link leaves a packed node's words packed
pub packed_below : (h v s link : ℕ) → Packed h v s → Packed (h + link * link_unit) v s
packed_below h v s link p =
    let e = linked_word h v s link in
    record {
      key = (let below : (h + link * link_unit) % reactive_unit ≡ h % reactive_unit = omega arith in below ∙ p.key ∙ ap key_in (sym e));
      second = p.second ∙ ap value_in (sym e);
    }

-- Nodes with the same key have the same words below the reactive mark.

pub same_words : (m n : Node) → same_key m n ≡ true → (key_in m ≡ key_in n) × (value_in m ≡ value_in n)
same_words (Root i r s) (Root j q t) h = (ap (λ (x : ℕ). x + root_mark * parent_unit) (eqb-true i.0 j.0 h), refl)
same_words (Root i r s) (Child q f) h = never h refl
same_words (Child p e) (Root j q t) h = never h refl
same_words (Child p e) (Child q f) h =
    let number : p.0 ≡ q.0 = eqb-true p.0 q.0 (and_first (eqb p.0 q.0) _ h) in
    let entry = and_second (eqb p.0 q.0) (same_entry e f) h in
    (rw (number, entry_property e f entry, entry_optional e f entry), ap value_of (entry_property e f entry))

-- And where words agree below the reactive mark, and the values do, their nodes have the same key.
module _ (h g : ℕ) (key : h % reactive_unit ≡ g % reactive_unit) where
  same_identifier : h % parent_unit ≡ g % parent_unit
  same_identifier = omega arith

  same_parent : h / parent_unit % 65536 ≡ g / parent_unit % 65536
  same_parent = omega arith

  same_optional : h / optional_unit % 2 ≡ g / optional_unit % 2
  same_optional = omega arith

  same_number : h / number_unit % 2 ≡ g / number_unit % 2
  same_number = omega arith

  pub words_same : (v w s t : ℕ) → v ≡ w → same_key (unpack h v s) (unpack g w t) ≡ true
  unfolding unpack
  words_same v w s t value =
      ap (λ (p : ℕ). same_key (unpack_by (eqb p root_mark) h v s) (unpack_by (eqb (g / parent_unit % 65536) root_mark) g w t)) same_parent
      ∙ go (eqb (g / parent_unit % 65536) root_mark)
    where
      go : (b : Bool) → same_key (unpack_by b h v s) (unpack_by b g w t) ≡ true
      go true = eqb_equal (h % parent_unit) (g % parent_unit) same_identifier
      go false =
          rw (
            same_parent,
            same_number,
            same_optional,
            value,
            eqb_same (g / parent_unit % 65536),
            property_same (property_of (eqb (g / number_unit % 2) 1) w),
            beq_same (eqb (g / optional_unit % 2) 1),
          )

-- Parent and optional mark stand in the first word.

pub inside_by_head : (h v s w t n : ℕ) → Inside (unpack h v s) n → Inside (unpack h w t) n
unfolding unpack
inside_by_head h v s w t n = go (eqb (h / parent_unit % 65536) root_mark)
  where
    go : (b : Bool) → Inside (unpack_by b h v s) n → Inside (unpack_by b h w t) n
    go true i = tt
    go false i = i

pub inside_parent : (h v s n : ℕ) → Inside (unpack h v s) n → ¬ (h / parent_unit % 65536 ≡ root_mark) → h / parent_unit % 65536 < n
unfolding unpack
inside_parent h v s n i other = subst (λ (b : Bool). Inside (unpack_by b h v s) n) (eqb_apart (h / parent_unit % 65536) root_mark other) i

pub optional_by_head : (os : NodeSet) (h v s w t : ℕ) → optional_over os (unpack h v s) ≡ optional_over os (unpack h w t)
unfolding unpack
optional_by_head os h v s w t = go (eqb (h / parent_unit % 65536) root_mark)
  where
    go : (b : Bool) → optional_over os (unpack_by b h v s) ≡ optional_over os (unpack_by b h w t)
    go true = refl
    go false = refl

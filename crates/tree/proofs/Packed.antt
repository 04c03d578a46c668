-- A word and the position that it stands for: packing, merging, and the test on keys.
use Prim.Native.Nat.{ℕ, ◌+◌, ◌*◌, ◌/◌, ◌%◌, ◌<◌}
use native.Mathlib.Omega.{arith}
use mathlib.Core.Path.{◌≡◌, refl, ap, ◌∙◌}
use mathlib.Core.Bool.{Bool, true, false}
use mathlib.Core.List.{List}
use lib.Dec.{eqb}
use Rattle.entries.specs.declared.PropertyAccessType.{PropertyAccessType}
use Rattle.entries.specs.declared.PropertyAccessType.TheVariants.{OptionalAccess, UnconditionalAccess, OptionalDependency, UnconditionalDependency}
use Rattle.entries.specs.Access.{is_optional_access, is_dependency_access, access_of, merge_access}
use Rattle.model.specs.Answer.{flag}
use Rattle.model.specs.Tests.{decide, eqb_same, eqb_apart, flag_is}
use Rattle.model.specs.Forest.{identifier_key, property_key, same_key}
use Rattle.model.specs.Tree.{with_merged}
use Rattle.entries.specs.declared.DependencyPathEntry.{DependencyPathEntry}
use Rattle.job.specs.declared.PathHead.{PathHead}
use Rattle.job.specs.Key.{key_in}
use Rattle.job.specs.declared.Key.{Key}
use Rattle.tree.specs.Words.{
  head_at,
  entry_at,
  parent_in,
  place_in,
  access_in,
  child_in,
  sibling_in,
  pack,
  key_at,
  position_as,
  position_of,
  node_of,
  merged_word,
  linked_word,
}
use Rattle.tree.specs.Tree.{matches}

-- The fields of a word: 16 bits, 16 bits, and two flags.
module _ (p q o d : ℕ) (p< : p < 65536) (q< : q < 65536) (o< : o < 2) (d< : d < 2) where
  at_parent : (p + q * 65536 + o * 4294967296 + d * 8589934592) % 65536 ≡ p
  at_parent = omega arith

  at_place : (p + q * 65536 + o * 4294967296 + d * 8589934592) / 65536 % 65536 ≡ q
  at_place = omega arith

  at_optional : (p + q * 65536 + o * 4294967296 + d * 8589934592) / 4294967296 % 2 ≡ o
  at_optional = omega arith

  at_dependency : (p + q * 65536 + o * 4294967296 + d * 8589934592) / 8589934592 % 2 ≡ d
  at_dependency = omega arith

flag_small : (b : Bool) → flag b < 2
flag_small true = omega arith
flag_small false = omega arith

access_back : (a : PropertyAccessType) → access_of (is_optional_access a) (is_dependency_access a) ≡ a
access_back OptionalAccess = refl
access_back UnconditionalAccess = refl
access_back OptionalDependency = refl
access_back UnconditionalDependency = refl

module _ (p q : ℕ) (a : PropertyAccessType) (p< : p < 65536) (q< : q < 65536) where
  pub packed_parent : parent_in (pack p q a) ≡ p
  unfolding pack
  packed_parent = at_parent p q _ _ p< q< (flag_small (is_optional_access a)) (flag_small (is_dependency_access a))

  pub pack_low : pack p q a < 17179869184
  unfolding pack
  pack_low = let o = flag_small (is_optional_access a) in let d = flag_small (is_dependency_access a) in omega arith

  packed_place : place_in (pack p q a) ≡ q
  unfolding pack
  packed_place = at_place p q _ _ p< q< (flag_small (is_optional_access a)) (flag_small (is_dependency_access a))

  packed_access : access_in (pack p q a) ≡ a
  unfolding pack
  packed_access =
      rw (
        at_optional p q _ _ p< q< (flag_small (is_optional_access a)) (flag_small (is_dependency_access a)),
        at_dependency p q _ _ p< q< (flag_small (is_optional_access a)) (flag_small (is_dependency_access a)),
        flag_is (is_optional_access a),
        flag_is (is_dependency_access a),
      )
      (access_back a)

  pub packed_key : (s : List ℕ) (w : ℕ) → w ≡ pack p q a → key_at s (parent_in w) (place_in w) ≡ key_at s p q
  packed_key s w e = rw (e, packed_parent, packed_place)

  pub packed_position : (s : List ℕ) → position_of s (pack p q a) ≡ position_as s p q a
  packed_position s = rw (packed_parent, packed_place, packed_access)

  pub packed_node : (s : List ℕ) → node_of s (pack p q a) ≡ record { parent = p; here = position_as s p q a }
  packed_node s = rw (packed_parent, packed_place, packed_access)

-- a position's access is the word's
pub position_access : (s : List ℕ) (p q : ℕ) (a : PropertyAccessType) → (position_as s p q a).access ≡ a
unfolding position_as
position_access s p q a = decide (eqb p 0) (λ e. rw e) (λ e. rw e)

pub position_merged : (s : List ℕ) (p q : ℕ) (a b : PropertyAccessType) → position_as s p q (merge_access a b) ≡ with_merged (position_as s p q a) b
unfolding position_as
position_merged s p q a b = decide (eqb p 0) (λ e. rw e) (λ e. rw e)

-- The links stand above the other fields.
module _ (w x : ℕ) where
  over_parent : parent_in (w + x * 17179869184) ≡ parent_in w
  over_parent = omega arith

  over_place : place_in (w + x * 17179869184) ≡ place_in w
  over_place = omega arith

  over_optional : (w + x * 17179869184) / 4294967296 % 2 ≡ w / 4294967296 % 2
  over_optional = omega arith

  over_dependency : (w + x * 17179869184) / 8589934592 % 2 ≡ w / 8589934592 % 2
  over_dependency = omega arith

  over_node : (s : List ℕ) → node_of s (w + x * 17179869184) ≡ node_of s w
  over_node s = rw (over_parent, over_place, over_optional, over_dependency)

-- a link changes nothing else
pub linked_node : (s : List ℕ) (child : Bool) (w n : ℕ) → node_of s (linked_word child w n) ≡ node_of s w
linked_node s true w n = over_node w n s
linked_node s false w n = let e : w + n * 35184372088832 ≡ w + n * 2048 * 17179869184 = omega arith in ap (node_of s) e ∙ over_node w (n * 2048) s

module _ (w n : ℕ) where
  pub child_set : child_in w ≡ 0 → n < 2048 → child_in (w + n * 17179869184) ≡ n
  child_set z h = omega arith

  pub sibling_beside : child_in w ≡ 0 → n < 2048 → sibling_in (w + n * 17179869184) ≡ sibling_in w
  sibling_beside z h = omega arith

  pub sibling_set : sibling_in w ≡ 0 → sibling_in (w + n * 35184372088832) ≡ n
  sibling_set z = omega arith

  pub child_beside : child_in (w + n * 35184372088832) ≡ child_in w
  child_beside = omega arith

-- The merged word: the merged position below the same parent, with the same links.
module _ (w : ℕ) (a : PropertyAccessType) where
  abbrev low : ℕ
  low = pack (parent_in w) (place_in w) (merge_access (access_in w) a)

  low_small : low < 17179869184
  low_small = pack_low (parent_in w) (place_in w) (merge_access (access_in w) a) (omega arith) (omega arith)

  pub merged_node : (s : List ℕ) → node_of s (merged_word w a) ≡ record { parent = parent_in w; here = with_merged (position_of s w) a }
  merged_node s =
      over_node low (w / 17179869184) s
      ∙ packed_node (parent_in w) (place_in w) (merge_access (access_in w) a) (omega arith) (omega arith) s
      ∙ rw (position_merged s (parent_in w) (place_in w) (access_in w) a)

  pub merged_child : child_in (merged_word w a) ≡ child_in w
  merged_child = let h = low_small in omega arith

  pub merged_sibling : sibling_in (merged_word w a) ≡ sibling_in w
  merged_sibling = let h = low_small in omega arith

-- a position's key stands at its place
pub position_key : (s : List ℕ) (p q : ℕ) (a : PropertyAccessType) → (position_as s p q a).key ≡ key_at s p q
unfolding position_as
position_key s p q a = decide (eqb p 0) (λ e. rw e) (λ e. rw e)

-- The key, by what the parent says.
module _ (s : List ℕ) (parent place : ℕ) where
  pub root_key : (head : PathHead) → parent ≡ 0 → head ≡ head_at s place → identifier_key head.identifier ≡ key_at s parent place
  root_key head p e = rw (p, e)

  pub child_key : (entry : DependencyPathEntry) → ¬ (parent ≡ 0) → entry ≡ entry_at s place → property_key entry.property ≡ key_at s parent place
  child_key entry p e = rw (eqb_apart parent 0 p, e)

-- A word matches a step, or does not, as the code finds it: by its parent, then by the keys below
-- that parent.
module _ (s : List ℕ) (w step : ℕ) where
  pub other_parent : ¬ (parent_in w ≡ parent_in step) → matches (node_of s w) (parent_in step) (position_of s step) ≡ false
  other_parent h = rw (eqb_apart (parent_in w) (parent_in step) h)

  pub by_key : (b : Bool) → parent_in w ≡ parent_in step → same_key (key_at s (parent_in step) (place_in w)) (key_at s (parent_in step) (place_in step)) ≡ b
      → matches (node_of s w) (parent_in step) (position_of s step) ≡ b
  by_key b h e =
      rw (
        position_key s (parent_in w) (place_in w) (access_in w),
        position_key s (parent_in step) (place_in step) (access_in step),
        h,
        eqb_same (parent_in step),
      ) e

  -- the two keys, as the code has them
  pub keys_told : (parent here : ℕ) (key : Key) → parent ≡ parent_in step → key_in key ≡ key_at s (parent_in step) (place_in step) → here ≡ place_in w
      → same_key (key_at s parent here) (key_in key) ≡ same_key (key_at s (parent_in step) (place_in w)) (key_at s (parent_in step) (place_in step))
  keys_told parent here key p k h = rw (k, p, h)

-- The nodes that a list of words holds: three words a node, how many there are in word 1536, and
-- behind it 128 words for the ends of the 512 buckets.
use Rattle.std.specs.Prelude.{
  ℕ,
  zero,
  suc,
  ◌+◌,
  ◌*◌,
  ◌/◌,
  ◌%◌,
  ◌^◌,
  ◌≤◌,
  ◌<◌,
  ◌≡◌,
  ◌≢◌,
  Bool,
  true,
  false,
  List,
  [],
  ◌∷◌,
  length,
  get_or,
  eqb,
  Option,
  Some,
  None,
  Result,
  Ok,
  Err,
}
use Rattle.entries.specs.declared.NodeId.{NodeId}
use Rattle.entries.specs.declared.Refusal.{Refusal}
use Rattle.entries.specs.declared.Refusal.TheVariants.{ManyNodes}
use Rattle.model.specs.Registry.{node_limit, root_mark, PropertyPathRegistry, Reached}
use Rattle.model.specs.RegistryLaws.{Sound}
use Rattle.model.specs.Sets.{contains}
use Rattle.model.specs.Reduction.{has_optional}
use Rattle.entries.specs.Property.{property_of, is_number, value_of}
use Rattle.model.specs.Answer.{flag}
use Rattle.rows.specs.Members.{members_of}
use Rattle.registry.specs.declared.Node.{Node}
use Rattle.registry.specs.declared.Node.TheVariants.{Root, Child}
use Rattle.registry.specs.Nodes.{registry_from}

-- a parent's number fits its bits, and is no root's mark
abbrev pub ParentFits : Node → Type 0
ParentFits (Root i r s) = Unit {0}
ParentFits (Child p e) = p.0 < root_mark

-- The second word of a node: the value of a child's property.
abbrev pub value_in : Node → ℕ
value_in (Root i r s) = 0
value_in (Child p e) = value_of e.property

-- The third word of a node: its span.
abbrev pub span_in : Node → ℕ
span_in (Root i r s) = s
span_in (Child p e) = e.span

-- The first word of a node: identifier (32 bits, of a root), parent (16 bits), optional and number
-- (a bit each, of a child), reactive (a bit, of a root), and the link above them; what a one in
-- each part is worth.
abbrev pub parent_unit : ℕ
parent_unit = 4294967296

-- the bit of an optional entry
abbrev pub optional_unit : ℕ
optional_unit = 281474976710656

-- the bit of an entry whose property is a number
abbrev pub number_unit : ℕ
number_unit = 562949953421312

-- the bit of a reactive root
abbrev pub reactive_unit : ℕ
reactive_unit = 1125899906842624

-- a link of 1
abbrev pub link_unit : ℕ
link_unit = 2251799813685248

-- The key of a node: its first word below the reactive mark. Nodes with the same key and value are
-- the same root, or children of one parent by equal entries.
abbrev pub key_in : Node → ℕ
key_in (Root i r s) = i.0 + root_mark * parent_unit
key_in (Child p e) = p.0 * parent_unit + (flag e.optional + flag (is_number e.property) * 2) * optional_unit

-- The bucket of the nodes with a key and a value, below 512. A name's value is any number, often a
-- small one, and a number's is the 64 bits of a float, of which a small integer uses the high ones:
-- so both halves of the value are added to the identifier. That sum and the parent with its marks
-- have a factor each, so that the buckets still differ where parents and values go up together, as
-- along a chain of new names.
unfoldable pub bucket_by : ℕ → ℕ → ℕ
bucket_by key value =
    (key / parent_unit * 21013597 + (key % parent_unit + value / parent_unit + value % parent_unit) * 165902235) / 524288 % 512

-- the node that three words hold, a root or a child
abbrev pub unpack_by : Bool → ℕ → ℕ → ℕ → Node
unpack_by true head value span = Root (record { 0 = head % parent_unit }) (eqb (head / reactive_unit % 2) 1) span
unpack_by false head value span =
    Child (record { 0 = head / parent_unit % 65536 })
    (record { property = property_of (eqb (head / number_unit % 2) 1) value; optional = eqb (head / optional_unit % 2) 1; span = span })

-- The node that three words hold: a root where the parent's bits are the root's mark.
unfoldable pub unpack : ℕ → ℕ → ℕ → Node
unpack head value span = unpack_by (eqb (head / parent_unit % 65536) root_mark) head value span

-- Node k of the words.
abbrev pub stored_node : List ℕ → ℕ → Node
stored_node ws k = unpack (get_or ws (k * 3) 0) (get_or ws (k * 3 + 1) 0) (get_or ws (k * 3 + 2) 0)

-- How many nodes the words hold.
abbrev pub count_in : List ℕ → ℕ
count_in ws = get_or ws 1536 0

-- Three words are as a node is packed: what unpacking passes over is 0, the link and, of a child,
-- the reactive mark excepted.
pub record Packed (head value span : ℕ) : Type 0 where
  pub key : head % reactive_unit ≡ key_in (unpack head value span)
  pub second : value ≡ value_in (unpack head value span)

-- Node k of the words is packed so.
abbrev pub PackedAt : List ℕ → ℕ → Type 0
PackedAt ws k = Packed (get_or ws (k * 3) 0) (get_or ws (k * 3 + 1) 0) (get_or ws (k * 3 + 2) 0)

-- All nodes of the words are.
abbrev pub NodesPacked : List ℕ → Type 0
NodesPacked ws = (k : ℕ) → k < count_in ws → PackedAt ws k

-- The key of node k of the words.
abbrev pub key_at : List ℕ → ℕ → ℕ
key_at ws k = get_or ws (k * 3) 0 % reactive_unit

-- The value of node k.
abbrev pub value_at : List ℕ → ℕ → ℕ
value_at ws k = get_or ws (k * 3 + 1) 0

-- The bucket of node k.
abbrev pub bucket_at : List ℕ → ℕ → ℕ
bucket_at ws k = bucket_by (key_at ws k) (value_at ws k)

-- The link of node k.
abbrev pub link_at : List ℕ → ℕ → ℕ
link_at ws k = get_or ws (k * 3) 0 / link_unit

-- Quarter i of a word: 16 bits.
abbrev pub quarter : ℕ → ℕ → ℕ
quarter w i = w / 2 ^ (i * 16) % 65536

-- The end of bucket b: a word has four of them.
abbrev pub end_in : List ℕ → ℕ → ℕ
end_in ws b = quarter (get_or ws (1537 + b / 4) 0) (b % 4)

-- n nodes from number k on
abbrev pub nodes_from : List ℕ → ℕ → ℕ → List Node
nodes_from ws k zero = []
nodes_from ws k (suc n) = stored_node ws k ∷ nodes_from ws (suc k) n

-- All nodes of the words.
unfoldable pub nodes_of : List ℕ → List Node
nodes_of ws = nodes_from ws 0 (count_in ws)

-- the model's registry that the words hold
unfoldable pub registry_of : List ℕ → PropertyPathRegistry
registry_of ws = registry_from (nodes_of ws)

-- room for the most nodes, and no more than these
pub record Sized (ws : List ℕ) : Type 0 where
  pub long : length ws ≡ 1665
  pub room : count_in ws ≤ node_limit

-- Of the nodes below number `limit`, e - 1 is the last one in bucket b, and where e is 0 there is
-- none.
pub record BehindLast (ws : List ℕ) (b limit e : ℕ) : Type 0 where
  pub within : e ≤ limit
  pub last : (k : ℕ) → k + 1 ≡ e → bucket_at ws k ≡ b
  pub later : (j : ℕ) → e ≤ j → j < limit → bucket_at ws j ≢ b

-- The end of each bucket is behind its last node, and the link of each node behind the last one
-- before it in its bucket.
pub record BucketsLinked (ws : List ℕ) : Type 0 where
  pub ends : (b : ℕ) → b < 512 → BehindLast ws b (count_in ws) (end_in ws b)
  pub links : (k : ℕ) → k < count_in ws → BehindLast ws (bucket_at ws k) k (link_at ws k)

-- Node k has this key and value.
pub record KeyHere (ws : List ℕ) (key value k : ℕ) : Type 0 where
  pub within : k < count_in ws
  pub same_key : key_at ws k ≡ key
  pub same_value : value_at ws k ≡ value

-- The node found has this key and value, or no node has them.
abbrev pub KeySought : List ℕ → ℕ → ℕ → Option NodeId → Type 0
KeySought ws key value (Some k) = KeyHere ws key value k.0
KeySought ws key value None = (j : ℕ) → j < count_in ws → key_at ws j ≡ key → value_at ws j ≢ value

-- The words hold a registry as its operations make it.
pub record HoldsRegistry (ws : List ℕ) : Type 0 where
  pub sized : Sized ws
  pub sound : Sound (registry_of ws)

-- The same, its nodes are linked and packed, and the eight words `os` hold the set of its nodes
-- with an optional entry.
pub record Held (ws os : List ℕ) : Type 0 where
  pub sized : Sized ws
  pub linked : BucketsLinked ws
  pub packed : NodesPacked ws
  pub sound : Sound (registry_of ws)
  pub eight : length os ≡ 8
  pub noted : (k : NodeId) → contains (members_of os) k ≡ has_optional (registry_of ws) k

-- The words hold a registry that has no node.
abbrev pub HoldsNone : List ℕ → List ℕ → Type 0
HoldsNone ws os = Held ws os × (registry_of ws ≡ [])

-- What is reached: the words hold the registry that was to be reached, the node is its number, and
-- as many nodes were made on the way; or that registry has no room, which is the refusal.
abbrev pub Arrives : Reached → Result (NodeId × ℕ) Refusal → List ℕ → List ℕ → Type 0
Arrives want (Ok at) ws os = Held ws os × (want ≡ record { registry = registry_of ws; node = at.0; made = at.1 })
Arrives want (Err e) ws os = (e ≡ ManyNodes) × (node_limit < length want.registry)

-- What the invariant of a `Registry` says, less of it; and that it holds once a node is made.
use Rattle.std.proofs.Common.{ℕ, List, [], ◌∷◌, ◌++◌, ◌≡◌, length}
use mathlib.Core.Path.{◌∙◌, ap}
use mathlib.Core.Bool.{Bool, cond}
use Rattle.entries.specs.declared.NodeId.{NodeId}
use Rattle.model.specs.Sets.{insert}
use Rattle.rows.specs.Members.{members_of}
use Rattle.registry.specs.Nodes.{find_node, reached_for, Inside, noted_with}
use Rattle.registry.specs.Words.{unpack, count_in, nodes_of, registry_of, Sized, BucketsLinked, NodesPacked, HoldsRegistry, Held}
use Rattle.registry.proofs.Pack.{optional_by_head}
use Rattle.registry.proofs.View.{arrived_new, arrived_sound}
use Rattle.registry.proofs.Noted.{noted_new}

pub holds : {ws os : List ℕ} → Held ws os → HoldsRegistry ws
holds h = record { sized = h.sized; sound = h.sound }

module _ (ws os vs ps : List ℕ) (h v s : ℕ) (k : NodeId) (held : Held ws os) (counted : k.0 ≡ count_in ws) where
  pub held_made : Inside (unpack h v s) (count_in ws) → find_node (nodes_of ws) (unpack h v s) ≡ count_in ws
      → Sized vs → BucketsLinked vs → NodesPacked vs → nodes_of vs ≡ nodes_of ws ++ (unpack h v s ∷ [])
      → length ps ≡ 8 → members_of ps ≡ noted_with (members_of os) (unpack h 0 0) k
      → Held vs ps × (reached_for (registry_of ws) (unpack h v s) ≡ record { registry = registry_of vs; node = k; made = 1 })
  held_made inside none sized linked packed nodes eight noted =
      let arrived = arrived_new ws (unpack h v s) k.0 none counted vs nodes in (
        record {
          sized = sized;
          linked = linked;
          packed = packed;
          sound = arrived_sound ws vs (unpack h v s) k 1 held.sound inside arrived;
          eight = eight;
          noted =
              noted_new ws vs os ps (unpack h v s) k held counted nodes
              (noted ∙ ap (λ (b : Bool). cond b (insert k (members_of os)) (members_of os)) (optional_by_head (members_of os) h 0 0 v s));
        },
        arrived,
      )

-- The model's registry of a list of nodes: its length, what is found in it, and one node more.
use Prim.Native.Nat.{ℕ, zero, suc, ◌≤◌, ◌<◌}
use native.Mathlib.Omega.{arith}
use native.Mathlib.Nat.{not-suc-le-zero}
use mathlib.Core.Path.{◌≡◌, refl, sym, ap, ◌∙◌, subst}
use mathlib.Core.Logic.{◌⊎◌, inl, inr}
use mathlib.Core.Bool.{Bool, true}
use mathlib.Core.List.{List, [], ◌∷◌, ◌++◌, append_assoc, append-nil}
use lib.ListN.{length, get_or, length-append}
use lib.Dec.{eqb}
use Rattle.entries.specs.declared.NodeId.{NodeId}
use Rattle.entries.specs.Path.{same_entry, ReactiveScopeDependency}
use Rattle.model.specs.Tests.{never, eqb-true, and_first, and_second}
use Rattle.model.specs.Registry.{node_limit, Origin, root, child_of, PropertyPathNode, PropertyPathRegistry, is_root_for, is_child, is_child_by, find, Reached}
use Rattle.model.specs.RegistryLaws.{StandsAt, Sound}
use Rattle.model.proofs.RegistryLaws.{found_or_made, WasFound, WasMade, root_reached, child_reached, entry_property, entry_optional}
use Rattle.model.specs.RegistryLaws as Placed
use Rattle.registry.specs.declared.Node.{Node}
use Rattle.registry.specs.declared.Node.TheVariants.{Root, Child}
use Rattle.registry.specs.Nodes.{same_key, find_node, origin_of, node_over, nodes_over, registry_from, test_for, reached_for, Inside}
use Rattle.registry.specs.Words.{stored_node, count_in, nodes_of, registry_of}
use Rattle.registry.proofs.Stored.{nodes_of_length, nodes_of_at}

over_length : (before : PropertyPathRegistry) (ns : List Node) → length (nodes_over before ns) ≡ length ns
over_length before [] = refl
over_length before (n ∷ ns) = ap suc (over_length (before ++ (node_over before n ∷ [])) ns)

pub registry_length : (ws : List ℕ) → length (registry_of ws) ≡ count_in ws
unfolding registry_of registry_from
registry_length ws = over_length [] (nodes_of ws) ∙ nodes_of_length ws

-- the model's test of a node asks for the same key
test_key : (before : PropertyPathRegistry) (m n : Node) → test_for n (node_over before m) ≡ same_key m n
test_key before (Root i r s) (Root j q t) = refl
test_key before (Root i r s) (Child q f) = refl
test_key before (Child p e) (Root j q t) = refl
test_key before (Child p e) (Child q f) = refl

find_over : (before : PropertyPathRegistry) (ns : List Node) (n : Node) → find (test_for n) (nodes_over before ns) ≡ find_node ns n
find_over before [] n = refl
find_over before (m ∷ ms) n = rw (test_key before m n, find_over (before ++ (node_over before m ∷ [])) ms n)

pub find_view : (ws : List ℕ) (n : Node) → find (test_for n) (registry_of ws) ≡ find_node (nodes_of ws) n
unfolding registry_of registry_from
find_view ws n = find_over [] (nodes_of ws) n

over_snoc : (before : PropertyPathRegistry) (ns : List Node) (n : Node)
    → nodes_over before (ns ++ (n ∷ [])) ≡ nodes_over before ns ++ (node_over (before ++ nodes_over before ns) n ∷ [])
over_snoc before [] n = ap (λ (b : PropertyPathRegistry). node_over b n ∷ []) (sym (append-nil before))
over_snoc before (m ∷ ms) n =
    let here = node_over before m in
    ap (λ (r : PropertyPathRegistry). here ∷ r)
    (over_snoc (before ++ (here ∷ [])) ms n
    ∙ ap (λ (b : PropertyPathRegistry). nodes_over (before ++ (here ∷ [])) ms ++ (node_over b n ∷ []))
    (append_assoc before (here ∷ []) (nodes_over (before ++ (here ∷ [])) ms)))

-- one node more in the words is one more in the model's registry
pub registry_snoc : (ws vs : List ℕ) (n : Node) → nodes_of vs ≡ nodes_of ws ++ (n ∷ []) → registry_of vs ≡ registry_of ws ++ (node_over (registry_of ws) n ∷ [])
unfolding registry_of registry_from
registry_snoc ws vs n e = ap (nodes_over []) e ∙ over_snoc [] (nodes_of ws) n

-- A node of the model's registry hangs where the node in the words does.

origin_over : (before : PropertyPathRegistry) (ns : List Node) (k : ℕ) (d : Node) → k < length ns
    → (Placed.node_at (nodes_over before ns) k).origin ≡ origin_of (get_or ns k d)
origin_over before [] k d l = absurd (not-suc-le-zero l)
origin_over before (n ∷ ns) zero d l = go n
  where
    go : (m : Node) → (node_over before m).origin ≡ origin_of m
    go (Root i r s) = refl
    go (Child p e) = refl
origin_over before (n ∷ ns) (suc k) d l = origin_over (before ++ (node_over before n ∷ [])) ns k d (omega arith)

pub origin_at : (ws : List ℕ) (k : ℕ) → k < count_in ws → (Placed.node_at (registry_of ws) k).origin ≡ origin_of (stored_node ws k)
unfolding registry_of registry_from
origin_at ws k l = let size = nodes_of_length ws in origin_over [] (nodes_of ws) k (stored_node ws k) (omega arith) ∙ ap origin_of (nodes_of_at ws k l)

-- In a sound registry a node is the only one with its key, and so the first.

find_same : (t u : PropertyPathNode → Bool) (reg : PropertyPathRegistry) → ((n : PropertyPathNode) → t n ≡ u n) → find t reg ≡ find u reg
find_same t u [] h = refl
find_same t u (n ∷ ns) h = rw (h n, find_same t u ns h)

test_over : (before : PropertyPathRegistry) (ns : List Node) (k : ℕ) (d n : Node) → k < length ns
    → test_for n (Placed.node_at (nodes_over before ns) k) ≡ same_key (get_or ns k d) n
test_over before [] k d n l = absurd (not-suc-le-zero l)
test_over before (m ∷ ms) zero d n l = test_key before m n
test_over before (m ∷ ms) (suc k) d n l = test_over (before ++ (node_over before m ∷ [])) ms k d n (omega arith)

test_at : (ws : List ℕ) (k : ℕ) (n : Node) → k < count_in ws → test_for n (Placed.node_at (registry_of ws) k) ≡ same_key (stored_node ws k) n
unfolding registry_of registry_from
test_at ws k n l = let size =
    nodes_of_length ws in test_over [] (nodes_of ws) k (stored_node ws k) n (omega arith) ∙ ap (λ m. same_key m n) (nodes_of_at ws k l)

sound_only : (reg : PropertyPathRegistry) (k : ℕ) (n : Node) (o : Origin) (d : ReactiveScopeDependency) → StandsAt reg k o d
    → test_for n (record { origin = o; full_path = d }) ≡ true → find (test_for n) reg ≡ k
sound_only reg k (Root i r s) root d st t =
    let number : d.identifier.0 ≡ i.0 = eqb-true d.identifier.0 i.0 t in
    subst (λ x. find (is_root_for (record { 0 = x })) reg ≡ k) number st.only
sound_only reg k (Root i r s) (child_of q f) d st t = never t refl
sound_only reg k (Child p e) root d st t = never t refl
sound_only reg k (Child p e) (child_of q f) d st t = find_same (is_child_by p e) (is_child_by q f) reg (λ n. alike n.origin) ∙ st.only
  where
    number : q.0 ≡ p.0
    number = eqb-true q.0 p.0 (and_first (eqb q.0 p.0) _ t)

    same : same_entry f e ≡ true
    same = and_second (eqb q.0 p.0) _ t

    alike : (o : Origin) → is_child p e o ≡ is_child q f o
    alike root = refl
    alike (child_of x g) = rw (number, entry_property f e same, entry_optional f e same)

pub found_at : (ws : List ℕ) (k : ℕ) (n : Node) → Sound (registry_of ws) → k < count_in ws → same_key (stored_node ws k) n ≡ true
    → find_node (nodes_of ws) n ≡ k
found_at ws k n h l t =
    let size = registry_length ws in
    let m = Placed.node_at (registry_of ws) k in
    sym (find_view ws n) ∙ sound_only (registry_of ws) k n m.origin m.full_path (h k (omega arith)) (test_at ws k n l ∙ t)

-- What the model finds or makes.

module _ (ws : List ℕ) (n : Node) where
  pub made_found : find_node (nodes_of ws) n < count_in ws
      → reached_for (registry_of ws) n ≡ record { registry = registry_of ws; node = record { 0 = find_node (nodes_of ws) n }; made = 0 }
  made_found l = go (found_or_made (test_for n) (node_over (registry_of ws) n) (registry_of ws))
    where
      go : WasFound (test_for n) (node_over (registry_of ws) n) (registry_of ws) ⊎ WasMade (test_for n) (node_over (registry_of ws) n) (registry_of ws)
          → reached_for (registry_of ws) n ≡ record { registry = registry_of ws; node = record { 0 = find_node (nodes_of ws) n }; made = 0 }
      go (inl f) = λ i. record { registry = f.same i; node = record { 0 = find_view ws n i }; made = f.none i }
      go (inr m) = absurd (let a = m.last in let b = find_view ws n in let c = registry_length ws in omega arith)

  pub made_new : count_in ws ≤ find_node (nodes_of ws) n
      → reached_for (registry_of ws) n ≡ record {
        registry = registry_of ws ++ (node_over (registry_of ws) n ∷ []);
        node = record { 0 = count_in ws };
        made =
            1;
      }
  made_new l = go (found_or_made (test_for n) (node_over (registry_of ws) n) (registry_of ws))
    where
      go : WasFound (test_for n) (node_over (registry_of ws) n) (registry_of ws) ⊎ WasMade (test_for n) (node_over (registry_of ws) n) (registry_of ws)
          → reached_for (registry_of ws) n ≡ record {
            registry = registry_of ws ++ (node_over (registry_of ws) n ∷ []);
            node = record {
              0 =
                  count_in ws;
            };
            made = 1;
          }
      go (inl f) = absurd (let a = f.inside in let b = find_view ws n in let c = registry_length ws in omega arith)
      go (inr m) = λ i. record { registry = m.appended i; node = record { 0 = (m.last ∙ registry_length ws) i }; made = m.one i }

  -- no room for it: the model's registry would pass the limit
  pub made_full : count_in ws ≤ find_node (nodes_of ws) n → node_limit ≤ count_in ws → node_limit < length (reached_for (registry_of ws) n).registry
  made_full l f =
      let a = ap (λ (r : Reached). length r.registry) (made_new l) in
      let b = length-append (registry_of ws) (node_over (registry_of ws) n ∷ []) in
      let c = registry_length ws in
      omega arith

-- The same, as the code knows it: by the number k that was found, or by the count e.

pub arrived_found : (ws : List ℕ) (n : Node) (k : ℕ) → find_node (nodes_of ws) n ≡ k → k < count_in ws
    → reached_for (registry_of ws) n ≡ record { registry = registry_of ws; node = record { 0 = k }; made = 0 }
arrived_found ws n k found l = rw found at (made_found ws n (omega arith))

module _ (ws : List ℕ) (n : Node) (e : ℕ) (none : find_node (nodes_of ws) n ≡ count_in ws) (counted : e ≡ count_in ws) where
  pub arrived_new : (vs : List ℕ) → nodes_of vs ≡ nodes_of ws ++ (n ∷ [])
      → reached_for (registry_of ws) n ≡ record { registry = registry_of vs; node = record { 0 = e }; made = 1 }
  arrived_new vs h = rw (counted, registry_snoc ws vs n h) (made_new ws n (omega arith))

  pub arrived_full : node_limit ≤ e → node_limit < length (reached_for (registry_of ws) n).registry
  arrived_full f = made_full ws n (omega arith) (omega arith)

-- a sound registry stays sound
pub arrived_sound : (ws vs : List ℕ) (n : Node) (k : NodeId) (m : ℕ) → Sound (registry_of ws) → Inside n (count_in ws)
    → reached_for (registry_of ws) n ≡ record { registry = registry_of vs; node = k; made = m } → Sound (registry_of vs)
arrived_sound ws vs n k m h inside e = subst (λ (x : Reached). Sound x.registry) e (go n (subst (Inside n) (sym (registry_length ws)) inside))
  where
    go : (m : Node) → Inside m (length (registry_of ws)) → Sound (reached_for (registry_of ws) m).registry
    go (Root i r s) l = (root_reached (registry_of ws) i r s h).proper.sound
    go (Child p f) l = (child_reached (registry_of ws) p f h l).proper.sound

-- a parent among the nodes is one of 512
pub inside_limit : (n : Node) (m : ℕ) → m ≤ 512 → Inside n m → Inside n 512
inside_limit (Root i r s) m l h = tt
inside_limit (Child p e) m l h = omega arith

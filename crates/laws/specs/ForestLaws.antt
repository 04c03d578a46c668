-- Laws of forests, for both trees: how many of the first ways down stand along a list of keys, what
-- adding a way down keeps, and what it brings.
use Rattle.std.specs.Prelude.{ℕ, zero, ◌+◌, ◌≡◌, refl, Bool, true, false, ◌&&◌, ◌||◌, cond, List, [], ◌∷◌, ◌++◌, map}
use Rattle.std.proofs.Common.{arith, ap, subst, ◌∙◌}
use Rattle.model.specs.Lists.{any_of, count_of}
use Rattle.model.specs.Tests.{by_cond, decide, never, eqb_same, eqb-true}
use Rattle.model.specs.ListLaws.{All, all_map, all_append}
use Rattle.model.proofs.RegistryLaws.{property_same, property_true}
use Rattle.model.specs.Forest.{Key, identifier_key, property_key, same_key, Forest, empty, position, chain, add, add_all, firsts}
use Rattle.laws.specs.Membership.{all_of_map}
use Rattle.laws.specs.CountLaws.{count_append, count_none, count_map}

-- Keys.

pub key_same : (k : Key) → same_key k k ≡ true
key_same (identifier_key i) = eqb_same i.0
key_same (property_key p) = property_same p

pub key_true : (a b : Key) → same_key a b ≡ true → a ≡ b
key_true (identifier_key i) (identifier_key j) e = let n : i.0 ≡ j.0 = eqb-true i.0 j.0 e in ap identifier_key
    (λ d. record { 0 = n d })
key_true (identifier_key i) (property_key q) e = never e refl
key_true (property_key p) (identifier_key j) e = never e refl
key_true (property_key p) (property_key q) e = ap property_key (property_true p q e)

pub key_apart : (a b : Key) → same_key a b ≡ false → same_key b a ≡ false
key_apart a b e = decide (same_key b a) (λ t. never (ap (same_key a) (key_true b a t) ∙ key_same a) e) (λ t. t)

-- Lists of keys.

-- the first list is the beginning of the second
abbrev pub begins : List Key → List Key → Bool
begins [] ks = true
begins (j ∷ js) [] = false
begins (j ∷ js) (k ∷ ks) = same_key j k && begins js ks

-- each beginning of the list but the empty one is in W
abbrev pub Beginnings : List Key → (List Key → Type 0) → Type 0
Beginnings [] W = Unit {0}
Beginnings (k ∷ ks) W = W (k ∷ []) × Beginnings ks (λ js. W (k ∷ js))

pub beginnings_map : (U W : List Key → Type 0) → ((ks : List Key) → U ks → W ks) → (ks : List Key) → Beginnings ks U → Beginnings ks W
beginnings_map U W f [] h = tt
beginnings_map U W f (k ∷ ks) h = (f (k ∷ []) h.0, beginnings_map (λ js. U (k ∷ js)) (λ js. W (k ∷ js)) (λ js. f (k ∷ js)) ks h.1)

pub beginnings_both : (U W : List Key → Type 0) (ks : List Key) → Beginnings ks U → Beginnings ks W → Beginnings ks (λ js. U js × W js)
beginnings_both U W [] g h = tt
beginnings_both U W (k ∷ ks) g h = ((g.0, h.0), beginnings_both (λ js. U (k ∷ js)) (λ js. W (k ∷ js)) ks g.1 h.1)

pub beginnings_append : (W : List Key → Type 0) (ks js : List Key) → Beginnings (ks ++ js) W → Beginnings ks W
beginnings_append W [] js h = tt
beginnings_append W (k ∷ ks) js h = (h.0, beginnings_append (λ is. W (k ∷ is)) ks js h.1)

pub beginnings_own : (ks : List Key) → Beginnings ks (λ js. begins js ks ≡ true)
beginnings_own [] = tt
beginnings_own (k ∷ ks) = rw (key_same k) (refl, beginnings_own ks)

-- Tests joined by `||`.

or_onto : (t x y : Bool) → (x ≡ true → y ≡ true) → t || x ≡ true → t || y ≡ true
or_onto true x y f h = refl
or_onto false x y f h = f h

or_add : (t u y : Bool) → t || y ≡ true → (t || u) || y ≡ true
or_add true u y h = refl
or_add false true y h = refl
or_add false false y h = h

or_other : (t u y : Bool) → u || y ≡ true → (t || u) || y ≡ true
or_other true u y h = refl
or_other false u y h = h

cond_onto : (b : Bool) {u v x y : Bool} → (u ≡ true → x ≡ true) → (v ≡ true → y ≡ true) → cond b u v ≡ true → cond b x y ≡ true
cond_onto true f g h = f h
cond_onto false f g h = g h

-- the count at a position, x below it where its key is the list's first, and y after it
branch : (b : Bool) (x y : ℕ) (u v : Bool) → x ≡ cond u 1 0 → (b ≡ true → y ≡ zero) → y ≡ cond v 1 0 → cond b x zero + y ≡ cond
    (cond b u v) 1 0
branch true x y u v p q r = let z = q refl in omega arith
branch false x y u v p q r = omega arith

module _ {P : Type 0} (key : P → Key) where
  -- no position at the top has the key
  abbrev pub Apart : Key → Forest P → Type 0
  Apart k empty = Unit {0}
  Apart k (position n c r) = (same_key k (key n) ≡ false) × Apart k r

  -- positions side by side have different keys
  abbrev pub Distinct : Forest P → Type 0
  Distinct empty = Unit {0}
  Distinct (position n c r) = Apart (key n) r × Distinct c × Distinct r

  -- each way down has keys in W
  abbrev pub Within : Forest P → (List Key → Type 0) → Type 0
  Within empty W = Unit {0}
  Within (position n c r) W = W (key n ∷ []) × Within c (λ ks. W (key n ∷ ks)) × Within r W

  module _ (test : P → Bool) where
    -- a position that passes the test stands on the way down along the keys
    abbrev pub covered : Forest P → List Key → Bool
    covered empty ks = false
    covered (position n c r) [] = false
    covered (position n c r) (k ∷ ks) = cond (same_key (key n) k) (test n || covered c ks) (covered r (k ∷ ks))

    covered_nil : (f : Forest P) → covered f [] ≡ false
    covered_nil empty = refl
    covered_nil (position n c r) = refl

    along_count : (b : Bool) (ks : List Key) (ps : List (List P)) → count_of (λ p. b && begins (map key p) ks) ps ≡ cond b
        (count_of (λ p. begins (map key p) ks) ps) zero
    along_count true ks ps = refl
    along_count false ks ps = count_none (λ p. false) (λ p. refl) ps

    none_apart : (k : Key) (ks : List Key) (f : Forest P) → Apart k f → count_of (λ p. begins (map key p) (k ∷ ks)) (firsts test f) ≡ zero
    none_apart k ks empty a = refl
    none_apart k ks (position n c r) a = rw
        (count_append, count_map, along_count (same_key (key n) k) ks, key_apart k (key n) a.0, none_apart k ks r a.1)

    here_count : (t : Bool) (ks : List Key) (c : Forest P) → count_of (λ p. begins (map key p) ks) (firsts test c) ≡ cond (covered c ks) 1 0
        → count_of (λ p. begins (map key p) ks) (cond t ([] ∷ []) (firsts test c)) ≡ cond (t || covered c ks) 1 0
    here_count true ks c h = refl
    here_count false ks c h = h

    -- of the first ways down one stands along the keys, if they are covered, and otherwise none
    pub count_firsts : (f : Forest P) → Distinct f → (ks : List Key) → count_of (λ p. begins (map key p) ks) (firsts test f) ≡ cond
        (covered f ks) 1 0
    count_firsts empty d ks = refl
    count_firsts (position n c r) d [] = rw
        (count_append, count_map, count_none (λ p. false) (λ p. refl), count_firsts r d.2 [], covered_nil)
    count_firsts (position n c r) d (k ∷ ks) =
        rw (count_append, count_map, along_count (same_key (key n) k) ks)
        (branch (same_key (key n) k) _ _ _ _ (here_count (test n) ks c (count_firsts c d.1 ks))
        (λ e. none_apart k ks r (subst (λ (j : Key). Apart j r) (key_true (key n) k e) d.0))
        (count_firsts r d.2 (k ∷ ks)))

    -- the first ways down are among the ways down
    pub firsts_within : (f : Forest P) (W : List Key → Type 0) → Within f W → All (λ p. W (map key p)) (firsts test f)
    firsts_within empty W h = tt
    firsts_within (position n c r) W h =
        all_append (λ p. W (map key p)) (map (λ p. n ∷ p) (cond (test n) ([] ∷ []) (firsts test c))) (firsts test r)
        (all_of_map (λ p. W (map key p)) (λ p. n ∷ p) (cond (test n) ([] ∷ []) (firsts test c))
        (by_cond (λ ps. All (λ p. W (key n ∷ map key p)) ps) (test n) (λ e. (h.0, tt))
        (λ e. firsts_within c (λ ks. W (key n ∷ ks)) h.1)))
        (firsts_within r W h.2)

  module _ (merge : P → P → P) (key-merge : (a b : P) → key (merge a b) ≡ key a) where
    apart_add : (k : Key) (f : Forest P) (s : P) (ss : List P) → Apart k f → same_key k (key s) ≡ false → Apart k (add key merge f (s ∷ ss))
    apart_add k empty s ss a e = (e, tt)
    apart_add k (position n c r) s ss a e =
        by_cond (Apart k) (same_key (key n) (key s)) (λ _. (rw key-merge a.0, a.1)) (λ _. (a.0, apart_add k r s ss a.1 e))

    distinct_chain : (ss : List P) → Distinct (chain ss)
    distinct_chain [] = tt
    distinct_chain (s ∷ ss) = (tt, distinct_chain ss, tt)

    distinct_add : (f : Forest P) (ss : List P) → Distinct f → Distinct (add key merge f ss)
    distinct_add empty ss d = distinct_chain ss
    distinct_add (position n c r) [] d = d
    distinct_add (position n c r) (s ∷ ss) d =
        by_cond Distinct (same_key (key n) (key s)) (λ e. (rw key-merge d.0, distinct_add c ss d.1, d.2))
        (λ e. (apart_add (key n) r s ss d.0 e, d.1, distinct_add r (s ∷ ss) d.2))

    pub distinct_add_all : (f : Forest P) (ws : List (List P)) → Distinct f → Distinct (add_all key merge f ws)
    distinct_add_all f [] d = d
    distinct_add_all f (w ∷ ws) d = distinct_add_all (add key merge f w) ws (distinct_add f w d)

    within_chain : (ss : List P) (W : List Key → Type 0) → Beginnings (map key ss) W → Within (chain ss) W
    within_chain [] W h = tt
    within_chain (s ∷ ss) W h = (h.0, within_chain ss (λ ks. W (key s ∷ ks)) h.1, tt)

    within_add : (f : Forest P) (ss : List P) (W : List Key → Type 0) → Within f W → Beginnings (map key ss) W → Within
        (add key merge f ss) W
    within_add empty ss W h p = within_chain ss W p
    within_add (position n c r) [] W h p = h
    within_add (position n c r) (s ∷ ss) W h p =
        by_cond (λ f. Within f W) (same_key (key n) (key s))
        (λ e. rw (key-merge n s) (h.0, within_add c ss (λ ks. W (key n ∷ ks)) h.1 (rw (key_true (key n) (key s) e) p.1), h.2))
        (λ e. (h.0, h.1, within_add r (s ∷ ss) W h.2 p))

    pub within_add_all : (W : List Key → Type 0) (f : Forest P) (ws : List (List P)) → Within f W → All
        (λ w. Beginnings (map key w) W) ws → Within (add_all key merge f ws) W
    within_add_all W f [] h p = h
    within_add_all W f (w ∷ ws) h p = within_add_all W (add key merge f w) ws (within_add f w W h p.0) p.1

    module _ (test : P → Bool) (test-merge : (a b : P) → test (merge a b) ≡ (test a || test b)) where
      -- what is covered stays so
      covered_add : (f : Forest P) (ss : List P) (ks : List Key) → covered test f ks ≡ true → covered test (add key merge f ss) ks ≡ true
      covered_add empty ss ks h = never h refl
      covered_add (position n c r) [] ks h = h
      covered_add (position n c r) (s ∷ ss) [] h = never h refl
      covered_add (position n c r) (s ∷ ss) (k ∷ ks) h =
          by_cond (λ f. covered test f (k ∷ ks) ≡ true) (same_key (key n) (key s))
          (λ _. rw (key-merge, test-merge)
          (cond_onto (same_key (key n) k) (λ g. or_add (test n) (test s) _ (or_onto (test n) _ _ (covered_add c ss ks) g)) (λ g. g) h))
          (λ _. cond_onto (same_key (key n) k) (λ g. g) (covered_add r (s ∷ ss) (k ∷ ks)) h)

      covered_chain : (ss : List P) (ks : List Key) → any_of test ss ≡ true → covered test (chain ss) (map key ss ++ ks) ≡ true
      covered_chain [] ks t = never t refl
      covered_chain (s ∷ ss) ks t = rw key_same (or_onto (test s) _ _ (covered_chain ss ks) t)

      -- a way down with a position that passes the test covers its own keys, and every list that
      -- goes on from them
      covered_own : (f : Forest P) (ss : List P) (ks : List Key) → any_of test ss ≡ true → covered test (add key merge f ss)
          (map key ss ++ ks) ≡ true
      covered_own empty ss ks t = covered_chain ss ks t
      covered_own (position n c r) [] ks t = never t refl
      covered_own (position n c r) (s ∷ ss) ks t =
          by_cond (λ f. covered test f (key s ∷ map key ss ++ ks) ≡ true) (same_key (key n) (key s))
          (λ e. rw (key-merge, e, test-merge) (or_other (test n) (test s) _ (or_onto (test s) _ _ (covered_own c ss ks) t)))
          (λ e. rw e (covered_own r (s ∷ ss) ks t))

      covered_add_all : (f : Forest P) (ws : List (List P)) (ks : List Key) → covered test f ks ≡ true → covered test
          (add_all key merge f ws) ks ≡ true
      covered_add_all f [] ks h = h
      covered_add_all f (w ∷ ws) ks h = covered_add_all (add key merge f w) ws ks (covered_add f w ks h)

      -- each way down added covers its own keys in the end
      pub covered_each : (f : Forest P) (ws : List (List P)) → All (λ w. any_of test w ≡ true) ws
          → All (λ w. (ks : List Key) → covered test (add_all key merge f ws) (map key w ++ ks) ≡ true) ws
      covered_each f [] t = tt
      covered_each f (w ∷ ws) t = (
        λ ks. covered_add_all (add key merge f w) ws (map key w ++ ks) (covered_own f w ks t.0),
        covered_each (add key merge f w) ws t.1,
      )

-- A property of positions and of what stands before them: B is what is known where a way down has
-- come to, and `next` what is known one key on.
module _ {P B : Type 0} (key : P → Key) (next : B → Key → B) (W : B → P → Type 0) where
  -- each position of a forest, of a way down, has the property
  abbrev pub Along : B → Forest P → Type 0
  Along b empty = Unit {0}
  Along b (position n c r) = W b n × Along (next b (key n)) c × Along b r

  abbrev pub WayAlong : B → List P → Type 0
  WayAlong b [] = Unit {0}
  WayAlong b (n ∷ ns) = W b n × WayAlong (next b (key n)) ns

  pub firsts_along : (test : P → Bool) (b : B) (f : Forest P) → Along b f → All (WayAlong b) (firsts test f)
  firsts_along test b empty h = tt
  firsts_along test b (position n c r) h =
      all_append (WayAlong b) (map (λ p. n ∷ p) (cond (test n) ([] ∷ []) (firsts test c))) (firsts test r)
      (all_of_map (WayAlong b) (λ p. n ∷ p) (cond (test n) ([] ∷ []) (firsts test c))
      (by_cond (All (λ p. WayAlong b (n ∷ p))) (test n) (λ _. ((h.0, tt), tt))
      (λ _. all_map (WayAlong (next b (key n))) (λ p. WayAlong b (n ∷ p)) (λ p g. (h.0, g)) (firsts test c)
      (firsts_along test (next b (key n)) c h.1))))
      (firsts_along test b r h.2)

  module _ (merge : P → P → P) (key-merge : (a b : P) → key (merge a b) ≡ key a)
      (merges : (b : B) (n s : P) → W b n → W b s → W b (merge n s)) where
    along_chain : (b : B) (ss : List P) → WayAlong b ss → Along b (chain ss)
    along_chain b [] h = tt
    along_chain b (s ∷ ss) h = (h.0, along_chain (next b (key s)) ss h.1, tt)

    along_add : (b : B) (f : Forest P) (ss : List P) → Along b f → WayAlong b ss → Along b (add key merge f ss)
    along_add b empty ss h p = along_chain b ss p
    along_add b (position n c r) [] h p = h
    along_add b (position n c r) (s ∷ ss) h p =
        by_cond (Along b) (same_key (key n) (key s))
        (λ e. (
          merges b n s h.0 p.0,
          rw key-merge
              (along_add (next b (key n)) c ss h.1 (rw (key_true (key n) (key s) e) p.1)),
          h.2,
        ))
        (λ e. (h.0, h.1, along_add b r (s ∷ ss) h.2 p))

    pub along_add_all : (b : B) (f : Forest P) (ws : List (List P)) → Along b f → All (WayAlong b) ws → Along b (add_all key merge f ws)
    along_add_all b f [] h p = h
    along_add_all b f (w ∷ ws) h p = along_add_all b (add key merge f w) ws (along_add b f w h p.0) p.1

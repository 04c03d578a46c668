-- The ends of the buckets and the links of the nodes: kept while nodes are made, and what a search
-- along them has passed.
use Prim.Native.Nat.{ℕ, ◌+◌, ◌*◌, ◌-◌, ◌/◌, ◌%◌, ◌^◌, ◌≤◌, ◌<◌}
use native.Mathlib.Omega.{arith}
use mathlib.Core.Path.{◌≡◌, refl, sym, ap, ◌∙◌, subst}
use mathlib.Core.Logic.{◌≢◌}
use mathlib.Core.List.{List, [], ◌∷◌, ◌++◌}
use lib.ListN.{length, get_or}
use lib.Dec.{eqb}
use Rattle.model.specs.RegistryLaws.{Sound}
use Rattle.model.specs.Tests.{decide, eqb-true, eqb-false}
use Rattle.registry.specs.Nodes.{same_key, find_node}
use Rattle.registry.specs.Words.{
  reactive_unit,
  link_unit,
  unpack,
  bucket_by,
  stored_node,
  key_at,
  value_at,
  bucket_at,
  link_at,
  quarter,
  end_in,
  count_in,
  nodes_of,
  registry_of,
}
use Rattle.std.proofs.Common.{Some, None}
use Rattle.entries.specs.declared.NodeId.{NodeId}
use Rattle.registry.specs.Words.{Packed, NodesPacked, Sized, BehindLast, BucketsLinked, KeySought}
use Rattle.registry.proofs.Pack.{link_back, linked_word, packed_below, same_words, words_same}
use Rattle.registry.proofs.Quarters.{raised, others}
use Rattle.registry.proofs.Stored.{stored, stored_count, elsewhere, first_word, second_word, ends_word, other_ends, stored_long}
use Rattle.registry.proofs.Stored.{packed_more, pushed, none_found}
use Rattle.registry.proofs.View.{found_at}

-- Words that count no node, and whose ends are 0.
pub none_linked : (ws : List ℕ) → count_in ws ≡ 0 → ((b : ℕ) → b < 512 → end_in ws b ≡ 0) → BucketsLinked ws
none_linked ws none ends = record {
  ends = λ b l. let e = ends b l in record { within = omega arith; last = λ k m. absurd (omega arith); later = λ j a m. absurd (omega arith) };
  links = λ k l. absurd (omega arith);
}

-- what is said of the nodes below a limit stays where their buckets do
moved : (ws vs : List ℕ) (b limit e : ℕ) → ((j : ℕ) → j < limit → bucket_at vs j ≡ bucket_at ws j) → BehindLast ws b limit e → BehindLast vs b limit e
moved ws vs b limit e same h =
    let within = h.within in
    record {
      within = within;
      last = λ k l. same k (omega arith) ∙ h.last k l;
      later = λ j a l is. h.later j a l (sym (same j l) ∙ is);
    }

-- One node more: it is the last of its bucket, and its link is the end that its bucket had. In the
-- word of ends, the quarter of its bucket is raised to the number behind it.
module _ (ws : List ℕ) (b h v s : ℕ) (linked : BucketsLinked ws) (room : count_in ws < 512) (own : b ≡ bucket_by (h % reactive_unit) v)
    (small : b < 512)
    (long : length ws ≡ 1665)
    (low : h < link_unit) where
  abbrev k : ℕ
  k = count_in ws

  abbrev word : ℕ
  word = h + end_in ws b * link_unit

  abbrev ends-before : ℕ
  ends-before = get_or ws (1537 + b / 4) 0

  abbrev ends-after : ℕ
  ends-after = ends-before + (k + 1 - end_in ws b) * 2 ^ (b % 4 * 16)

  abbrev vs : List ℕ
  vs = stored ws k (b / 4) ends-after word v s

  key_below : word % reactive_unit ≡ h % reactive_unit
  key_below = omega arith

  bucket_new : bucket_at vs k ≡ b
  bucket_new =
      rw (
        first_word ws k (b / 4) ends-after word v s room (omega arith) long,
        second_word ws k (b / 4) ends-after word v s room (omega arith) long,
        key_below,
      ) (sym own)

  word_old : (i : ℕ) → i < k * 3 → get_or vs i 0 ≡ get_or ws i 0
  word_old i l = elsewhere ws k (b / 4) ends-after word v s room (omega arith) long i l

  bucket_old : (j : ℕ) → j < k → bucket_at vs j ≡ bucket_at ws j
  bucket_old j l = rw (word_old (j * 3) (omega arith), word_old (j * 3 + 1) (omega arith))

  link_new : link_at vs k ≡ end_in ws b
  link_new =
      ap (λ (x : ℕ). x / link_unit) (first_word ws k (b / 4) ends-after word v s room (omega arith) long) ∙ link_back h (end_in ws b) low

  link_old : (j : ℕ) → j < k → link_at vs j ≡ link_at ws j
  link_old j l = ap (λ (x : ℕ). x / link_unit) (word_old (j * 3) (omega arith))

  has_room : quarter ends-before (b % 4) + (k + 1 - end_in ws b) < 65536
  has_room = let within = (linked.ends b small).within in omega arith

  end_own_new : end_in vs b ≡ k + 1
  end_own_new =
      let within = (linked.ends b small).within in
      ap (λ (x : ℕ). quarter x (b % 4)) (ends_word ws k (b / 4) ends-after word v s room (omega arith) long)
      ∙ raised ends-before (k + 1 - end_in ws b) (b % 4) (omega arith) has_room
      ∙ omega arith

  end_other_new : (c : ℕ) → c ≢ b → end_in vs c ≡ end_in ws c
  end_other_new c other =
      decide (eqb (c / 4) (b / 4))
      (λ t.
      let same = eqb-true (c / 4) (b / 4) t in
      ap (λ (q : ℕ). quarter (get_or vs (1537 + q) 0) (c % 4)) same
      ∙ ap (λ (x : ℕ). quarter x (c % 4)) (ends_word ws k (b / 4) ends-after word v s room (omega arith) long)
      ∙ others ends-before (k + 1 - end_in ws b) (b % 4) (omega arith) (c % 4) (omega arith) (λ e. other (omega arith)) has_room
      ∙ ap (λ (q : ℕ). quarter (get_or ws (1537 + q) 0) (c % 4)) (sym same))
      (λ t.
      ap (λ (x : ℕ). quarter x (c % 4))
      (other_ends ws k (b / 4) ends-after word v s room (omega arith) long (c / 4) (eqb-false (c / 4) (b / 4) t)))

  end_own : BehindLast vs b (k + 1) (k + 1)
  end_own = record {
    within = omega arith;
    last = λ j l. let here : j ≡ k = omega arith in ap (bucket_at vs) here ∙ bucket_new;
    later = λ j a l. absurd (omega arith);
  }

  end_other : (c e : ℕ) → c ≢ b → BehindLast ws c k e → BehindLast vs c (k + 1) e
  end_other c e other x =
      let y = moved ws vs c k e bucket_old x in
      record {
        within = let within = y.within in omega arith;
        last = y.last;
        later = λ j a l. decide (eqb j k)
            (λ t same. other (sym same ∙ ap (bucket_at vs) (eqb-true j k t) ∙ bucket_new))
            (λ t. let ne = eqb-false j k t in y.later j a (omega arith));
      }

  end_new : (c : ℕ) → c < 512 → BehindLast vs c (k + 1) (end_in vs c)
  end_new c l =
      decide (eqb c b)
      (λ t. subst (λ (x : ℕ). BehindLast vs x (k + 1) (end_in vs x)) (sym (eqb-true c b t))
      (subst (BehindLast vs b (k + 1)) (sym end_own_new) end_own))
      (λ t.
      let other = eqb-false c b t in
      subst (BehindLast vs c (k + 1)) (sym (end_other_new c other)) (end_other c (end_in ws c) other (linked.ends c l)))

  link_of_new : BehindLast vs (bucket_at vs k) k (link_at vs k)
  link_of_new =
      subst (λ (x : ℕ). BehindLast vs x k (link_at vs k)) (sym bucket_new)
      (subst (BehindLast vs b k) (sym link_new) (moved ws vs b k (end_in ws b) bucket_old (linked.ends b small)))

  link_of_old : (j : ℕ) → j < k → BehindLast vs (bucket_at vs j) j (link_at vs j)
  link_of_old j l =
      subst (λ (x : ℕ). BehindLast vs x j (link_at vs j)) (sym (bucket_old j l))
      (subst (BehindLast vs (bucket_at ws j) j) (sym (link_old j l))
      (moved ws vs (bucket_at ws j) j (link_at ws j) (λ i m. bucket_old i (omega arith)) (linked.links j l)))

  pub linked_more : BucketsLinked vs
  linked_more =
      let counted : count_in vs ≡ k + 1 = stored_count ws k (b / 4) ends-after word v s room (omega arith) long in
      record {
        ends = λ c l. subst (λ (x : ℕ). BehindLast vs c x (end_in vs c)) (sym counted) (end_new c l);
        links = λ j l. decide (eqb j k)
            (λ t. subst (λ (x : ℕ). BehindLast vs (bucket_at vs x) x (link_at vs x)) (sym (eqb-true j k t)) link_of_new)
            (λ t. let ne = eqb-false j k t in link_of_old j (omega arith));
      }

-- What a push leaves, by the link and the word of ends as the code has them.
module _ (ws : List ℕ) (b h v s link e : ℕ) (sized : Sized ws) (linked : BucketsLinked ws) (room : count_in ws < 512)
    (own : b ≡ bucket_by (h % reactive_unit) v) (small : b < 512)
    (low : h < link_unit)
    (is : link ≡ end_in ws b)
    (rises : e ≡ get_or ws (1537 + b / 4) 0 + (count_in ws + 1 - link) * 2 ^ (b % 4 * 16)) where
  abbrev after : List ℕ
  after = stored ws (count_in ws) (b / 4) e (h + link * link_unit) v s

  pub after_sized : Sized after
  after_sized =
      let long = sized.long in
      record {
        long = stored_long ws (count_in ws) (b / 4) e (h + link * link_unit) v s room (omega arith) long;
        room = rw (stored_count ws (count_in ws) (b / 4) e (h + link * link_unit) v s room (omega arith) long) (omega arith);
      }

  pub after_linked : BucketsLinked after
  after_linked = rw (rises, is) (linked_more ws b h v s linked room own small sized.long low)

  pub after_packed : NodesPacked ws → Packed h v s → NodesPacked after
  after_packed old new =
      packed_more ws (count_in ws) (b / 4) e (h + link * link_unit) v s room (omega arith) sized.long refl old (packed_below h v s link new)

  pub after_nodes : nodes_of after ≡ nodes_of ws ++ (unpack h v s ∷ [])
  after_nodes = pushed ws (b / 4) e (h + link * link_unit) v s (unpack h v s) room (omega arith) sized.long (linked_word h v s link)

-- A search for a key and a value that has passed all nodes from e on: none of them has both, and
-- the one before e is in the bucket.
pub record Passed (ws : List ℕ) (key value e : ℕ) : Type 0 where
  pub within : e ≤ count_in ws
  pub last : (k : ℕ) → k + 1 ≡ e → bucket_at ws k ≡ bucket_by key value
  pub none : (j : ℕ) → e ≤ j → j < count_in ws → key_at ws j ≡ key → value_at ws j ≢ value

-- What the search says of the nodes: the node found is the one with the key, or there is none.
module _ (ws : List ℕ) (head value span : ℕ) (packed : NodesPacked ws) (new : Packed head value span) where
  pub sought_found : (k : NodeId) → KeySought ws (head % reactive_unit) value (Some k) → Sound (registry_of ws)
      → find_node (nodes_of ws) (unpack head value span) ≡ k.0
  sought_found k both sound =
      found_at ws k.0 (unpack head value span) sound both.within
      (words_same (get_or ws (k.0 * 3) 0) head both.same_key (value_at ws k.0) value (get_or ws (k.0 * 3 + 2) 0) span both.same_value)

  pub sought_nowhere : KeySought ws (head % reactive_unit) value None → find_node (nodes_of ws) (unpack head value span) ≡ count_in ws
  sought_nowhere none =
      none_found ws (unpack head value span)
      (λ j l.
      decide (same_key (stored_node ws j) (unpack head value span))
      (λ t.
      let words = same_words (stored_node ws j) (unpack head value span) t in
      absurd (none j l ((packed j l).key ∙ words.0 ∙ sym new.key) ((packed j l).second ∙ words.1 ∙ sym new.second)))
      (λ t. t))

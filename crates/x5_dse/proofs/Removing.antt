-- A leaf is removed: all other nodes stay.
use Rattle.std.proofs.Common.{◌≡◌, ◌≢◌, ℕ, suc, ◌+◌, ◌-◌, ◌<◌, Bool, true, false, not, cond, inl, inr, List, [], ◌∷◌, ◌++◌, length, take, drop, set, get_or, refl, sym, ap, subst, ◌∙◌, arith, Option, None}
use Rattle.std.proofs.lemmas.List.{length-set, length_push, length-take}
use Rattle.std.specs.Option.{is_some}
use Rattle.std.specs.List.{filter}
use Rattle.x5_model.specs.Words.{ascending, in_option}
use Rattle.x5_model.specs.Members.{In, here, there}
use Rattle.x5_model.specs.Keys.{Key, IsPrefix, same_key, is_below, parent}
use Rattle.x5_model.specs.Values.{Name, key_of_rdn}
use Rattle.x5_model.specs.Entries.{Entry, Named}
use Rattle.x5_model.proofs.KeyLaws.{key_decides}
use Rattle.x5_model.proofs.Lists.{true_or_false, not_true, in_first, in_either, in_left, in_right, in_map, of_map, any_in, of_any, in_filter, of_filter}
use Rattle.x5_model.proofs.Ascending.{filter_ascending}
use Rattle.x5_model.proofs.Prefixes.{below_decides, parent_is_prefix, take_take}
use Rattle.x5_model_tree.specs.Tree.{key_at, has_below}
use Rattle.x5_dse.specs.declared.node.NodeId.{NodeId}
use Rattle.x5_dse.specs.Linked.{Node, named_of, entries_of, node_key, node_below, has_id, is_first}
use Rattle.x5_dse.specs.Changes.{Removed}
use Rattle.x5_dse.specs.Slot.{Slot}
use Rattle.x5_dse.specs.Inside.{Slots, Spot, top, slot_at, is_used, held, parent_at, depth_at, rdn_at, entry_of, node_of, nodes_of, spot_at, spots_of, spot_below, IsRow, IsKept}
use Rattle.x5_dse.proofs.Ids.{id_decides, same_id, same_or_other, used_within, slot_same, slot_other}
use Rattle.x5_dse.proofs.Spots.{spot_chain, spot_never}
use Rattle.x5_dse.proofs.Members.{of_removed, in_removed, gone, once_push}
use Rattle.x5_dse.proofs.InOrder.{less_ascending, map_remove, same_map}
use Rattle.x5_dse.proofs.Named.{node_chain, once_in_order, key_in, top_used, top_apart, order_used, key_length, child_parent, child_key, above_there, ordered, unique, of_nodes, in_nodes, nodes_ascending, live_node, first_node}
use Rattle.x5_dse.proofs.Changing.{same_name, nodes_are}

-- ---- where it's a leaf

module _ (prefix : Name) (slots : Slots) (order : List NodeId) (row : IsRow slots order) (id : NodeId) (used : is_used slots id ≡ true) where
  pub not_first : is_first (nodes_of prefix slots order) id ≡ false → In id order
  not_first e = elim (in_first id top order ((row.used id).1 used)) [
    | inl p ↦ absurd (let f : is_first (nodes_of prefix slots order) id ≡ has_id id (node_of prefix slots top) = ap (λ (o : Option Node). in_option false (has_id id) o) (first_node prefix slots order row) in
        let t : has_id id (node_of prefix slots top) ≡ true = (id_decides top id).1 (sym p) in cc)
    | inr i ↦ i
  ]

  pub no_leaf : (c : NodeId) → In c order → parent_at slots c ≡ id → has_below (entries_of (nodes_of prefix slots order)) (key_in prefix slots order row id) ≡ true
  no_leaf c i e =
      let u = order_used prefix slots order row c i in
      let up : parent (key_in prefix slots order row c) ≡ key_in prefix slots order row id = child_parent prefix slots order row c i ∙ ap (key_in prefix slots order row) e in
      let longer : length (key_in prefix slots order row id) < length (key_in prefix slots order row c) =
      (let k = ap length (child_key prefix slots order row c i) in let l = ap (λ (m : NodeId). length (key_in prefix slots order row m)) e in omega (arith, length_push (key_in prefix slots order row (parent_at slots c)) (key_of_rdn (rdn_at slots c)))) in
      any_in (λ (e : Named). is_below (key_in prefix slots order row id) (key_at e)) (named_of (node_of prefix slots c)) (entries_of (nodes_of prefix slots order))
      (in_map named_of (node_of prefix slots c) (nodes_of prefix slots order) (in_nodes prefix slots order row c u))
      ((below_decides (key_in prefix slots order row id) (key_in prefix slots order row c)).1 (longer, subst (λ (k : Key). IsPrefix k (key_in prefix slots order row c)) up (parent_is_prefix (key_in prefix slots order row c))))

  pub leaf : ((c : NodeId) → In c order → parent_at slots c ≡ id → ⊥) → has_below (entries_of (nodes_of prefix slots order)) (key_in prefix slots order row id) ≡ false
  leaf none = elim (true_or_false (has_below (entries_of (nodes_of prefix slots order)) (key_in prefix slots order row id))) [
    | inl p ↦ absurd (by p)
    | inr p ↦ p
  ]
    where
      under : (m : NodeId) → is_used slots m ≡ true → length (key_in prefix slots order row id) < length (key_in prefix slots order row m) → IsPrefix (key_in prefix slots order row id) (key_in prefix slots order row m) → ⊥
      under m u l p =
          let w = above_there prefix slots order row m u (length (key_in prefix slots order row id) + 1) (omega (arith, key_length prefix slots order row id)) (omega arith) in
          let long : length (key_in prefix slots order row w.0) ≡ length (key_in prefix slots order row id) + 1 = ap length w.2 ∙ omega (arith, length-take (length (key_in prefix slots order row id) + 1) (key_in prefix slots order row m)) in
          let i = ordered prefix slots order row w.0 (depth_at slots id) w.1 (omega (arith, key_length prefix slots order row w.0, key_length prefix slots order row id)) in
          let up : key_in prefix slots order row (parent_at slots w.0) ≡ key_in prefix slots order row id =
          sym (child_parent prefix slots order row w.0 i) ∙ ap (λ (n : ℕ). take n (key_in prefix slots order row w.0)) (let s : length (key_in prefix slots order row w.0) - 1 ≡ length (key_in prefix slots order row id) = omega arith in s)
          ∙ ap (take (length (key_in prefix slots order row id))) w.2 ∙ take_take (length (key_in prefix slots order row id)) (length (key_in prefix slots order row id) + 1) (key_in prefix slots order row m) (omega arith) ∙ p in
          none w.0 i (unique prefix slots order row (parent_at slots w.0) id (row.above w.0 i).0 used up)

      by : has_below (entries_of (nodes_of prefix slots order)) (key_in prefix slots order row id) ≡ true → ⊥
      by p =
          let e = of_any (λ (e : Named). is_below (key_in prefix slots order row id) (key_at e)) (entries_of (nodes_of prefix slots order)) p in
          let n = of_map named_of e.0 (nodes_of prefix slots order) e.1 in
          let v = of_nodes prefix slots order row n.0 n.1 in
          let k : key_at e.0 ≡ key_in prefix slots order row v.0 = ap key_at n.2 ∙ ap node_key v.2 in
          let w = (below_decides (key_in prefix slots order row id) (key_at e.0)).0 e.2 in
          under v.0 v.1 (subst (λ (j : Key). length (key_in prefix slots order row id) < length j) k w.0) (subst (λ (j : Key). IsPrefix (key_in prefix slots order row id) j) k w.1)

-- ---- it goes

pub filter_entries : (test : Node → Bool) (other : Named → Bool) (xs : List Node) → ((n : Node) → In n xs → test n ≡ other n.named) → entries_of (filter test xs) ≡ filter other (entries_of xs)
filter_entries test other [] e = refl
filter_entries test other (x ∷ xs) e = by (test x) (other x.named) (e x here) (filter_entries test other xs (λ n i. e n (there i)))
  where
    by : (b c : Bool) → b ≡ c → entries_of (filter test xs) ≡ filter other (entries_of xs) → entries_of (cond b (x ∷ filter test xs) (filter test xs)) ≡ cond c (x.named ∷ filter other (entries_of xs)) (filter other (entries_of xs))
    by true true p rest = ap (λ (es : List Named). x.named ∷ es) rest
    by true false p rest = cc
    by false true p rest = cc
    by false false p rest = rest

module _ (prefix : Name) (slots : Slots) (order free : List NodeId) (kept : IsKept slots order free) (id : NodeId) (placed : In id order) (none : (c : NodeId) → In c order → parent_at slots c ≡ id → ⊥)
    (place : ℕ) (within : place < length order) (at : get_or order place id ≡ id) where
  abbrev others : Slots
  others = set slots id.0 None

  abbrev shorter : List NodeId
  shorter = take place order ++ drop (suc place) order

  row_was : IsRow slots order
  row_was = kept.row

  keeps : (m : NodeId) → m.0 ≢ id.0 → slot_at others m ≡ slot_at slots m
  keeps m h = slot_other slots id m None h

  none_now : is_used others id ≡ false
  none_now = ap is_some (slot_same slots id None (used_within slots id (order_used prefix slots order row_was id placed)))

  other_now : (m : NodeId) → is_used others m ≡ true → m.0 ≢ id.0
  other_now m u e = let f : is_used others m ≡ false = ap (is_used others) (same_id m id e) ∙ none_now in cc

  not_top : top.0 ≢ id.0
  not_top e = top_apart prefix slots order row_was (subst (λ (k : NodeId). In k order) (sym (same_id top id e)) placed)

  other_in : (m : NodeId) → In m shorter → m.0 ≢ id.0
  other_in m i e = gone order place id within (once_in_order spot_below spot_chain spot_never (spot_at slots) order row_was.in_order) (subst (λ (k : NodeId). In k shorter) (same_id m id e ∙ sym at) i)

  parent_other : (m : NodeId) → In m order → (parent_at slots m).0 ≢ id.0
  parent_other m i e = none m i (same_id (parent_at slots m) id e)

  still : (m : NodeId) → m.0 ≢ id.0 → is_used slots m ≡ true → is_used others m ≡ true
  still m h u = ap is_some (keeps m h) ∙ u

  row : IsRow others shorter
  row = record {
    used = λ m. (forth m, back m);
    first = ap (λ (o : Option Slot). (held o).depth) (keeps top not_top) ∙ row_was.first;
    above = λ m i. let j = of_removed m order place i in let p = parent_other m j in
        subst (λ (o : Option Slot). (is_used others (held o).parent ≡ true) × ((held o).depth ≡ suc (depth_at others (held o).parent))) (sym (keeps m (other_in m i)))
        (still (parent_at slots m) p (row_was.above m j).0, (row_was.above m j).1 ∙ ap (λ (o : Option Slot). suc (held o).depth) (sym (keeps (parent_at slots m) p)));
    in_order = subst (λ (xs : List Spot). ascending spot_below xs ≡ true) (sym spots_less) (less_ascending spot_below spot_chain spot_never (spots_of slots order) place row_was.in_order);
  }
    where
      forth : (m : NodeId) → In m (top ∷ shorter) → is_used others m ≡ true
      forth m i = elim (in_first m top shorter i) [
        | inl p ↦ subst (λ (k : NodeId). is_used others k ≡ true) (sym p) (still top not_top (top_used prefix slots order row_was))
        | inr j ↦ still m (other_in m j) (order_used prefix slots order row_was m (of_removed m order place j))
      ]

      back : (m : NodeId) → is_used others m ≡ true → In m (top ∷ shorter)
      back m u = elim (in_first m top order ((row_was.used m).1 (sym (ap is_some (keeps m (other_now m u))) ∙ u))) [
        | inl p ↦ subst (λ (k : NodeId). In k (top ∷ shorter)) (sym p) here
        | inr j ↦ elim (in_removed m order place id j) [
          | inl p ↦ absurd (other_now m u (ap (λ (k : NodeId). k.0) (p ∙ at)))
          | inr k ↦ there k
        ]
      ]

      spots_less : spots_of others shorter ≡ take place (spots_of slots order) ++ drop (suc place) (spots_of slots order)
      spots_less =
          same_map (spot_at others) (spot_at slots) shorter (λ m i. ap (λ (o : Option Slot). ((held o).parent.0, key_of_rdn (held o).rdn)) (keeps m (other_in m i)))
          ∙ map_remove (spot_at slots) order place

  node_kept : (m : NodeId) → is_used slots m ≡ true → m.0 ≢ id.0 → node_of prefix others m ≡ node_of prefix slots m
  node_kept m u h =
      let n = same_name prefix slots others order row_was (λ (k : NodeId). k.0 ≢ id.0)
      (λ k v t. ap (λ (o : Option Slot). (held o).parent) (keeps k t)) (λ k v t. ap (λ (o : Option Slot). (held o).depth) (keeps k t)) (λ k v t. ap (λ (o : Option Slot). (held o).rdn) (keeps k t)) (λ k i t. parent_other k i) m u h in
      let e = ap (λ (o : Option Slot). (held o).entry) (keeps m h) in
      λ i. record { id = m; named = record { name = n i; entry = e i } }

  test_other : (m : NodeId) → m.0 ≢ id.0 → not (has_id id (node_of prefix slots m)) ≡ true
  test_other m h = elim (true_or_false (has_id id (node_of prefix slots m))) [
    | inl q ↦ absurd (h (ap (λ (k : NodeId). k.0) ((id_decides m id).0 q)))
    | inr q ↦ ap not q
  ]

  removed_nodes : nodes_of prefix others shorter ≡ filter (λ (n : Node). not (has_id id n)) (nodes_of prefix slots order)
  removed_nodes =
      nodes_are prefix others shorter row (filter (λ (n : Node). not (has_id id n)) (nodes_of prefix slots order))
      (filter_ascending node_below node_chain (λ (n : Node). not (has_id id n)) (nodes_of prefix slots order) (nodes_ascending prefix slots order row_was))
      (λ m u. let h = other_now m u in let v = sym (ap is_some (keeps m h)) ∙ u in
      subst (λ (n : Node). In n (filter (λ (n : Node). not (has_id id n)) (nodes_of prefix slots order))) (sym (node_kept m v h))
      (in_filter (λ (n : Node). not (has_id id n)) (node_of prefix slots m) (nodes_of prefix slots order) (in_nodes prefix slots order row_was m v) (test_other m h)))
      (λ n i. let w = of_filter (λ (n : Node). not (has_id id n)) n (nodes_of prefix slots order) i in let v = of_nodes prefix slots order row_was n w.0 in
      let h : v.0.0 ≢ id.0 = λ e. let t : has_id id n ≡ true = ap (has_id id) v.2 ∙ (id_decides v.0 id).1 (same_id v.0 id e) in let f = not_true (has_id id n) w.1 in cc in
      (v.0, still v.0 h v.1, v.2 ∙ sym (node_kept v.0 v.1 h)))

  entry_test : (m : NodeId) → is_used slots m ≡ true → not (has_id id (node_of prefix slots m)) ≡ not (same_key (node_key (node_of prefix slots m)) (node_key (node_of prefix slots id)))
  entry_test m u = elim (same_or_other m id) [
    | inl p ↦ ap not ((id_decides m id).1 p) ∙ sym (ap not ((key_decides (node_key (node_of prefix slots m)) (node_key (node_of prefix slots id))).1 (ap (λ (j : NodeId). node_key (node_of prefix slots j)) p)))
    | inr h ↦ test_other m h ∙ sym (elim (true_or_false (same_key (node_key (node_of prefix slots m)) (node_key (node_of prefix slots id)))) [
      | inl q ↦ absurd (h (ap (λ (j : NodeId). j.0) (unique prefix slots order row_was m id u (order_used prefix slots order row_was id placed) ((key_decides (node_key (node_of prefix slots m)) (node_key (node_of prefix slots id))).0 q))))
      | inr q ↦ ap not q
    ])
  ]

  pub removed_kept : IsKept others shorter (free ++ id ∷ [])
  removed_kept = record {
    row = row;
    others = λ m. (out m, of m);
    once = once_push id free kept.once (λ i. let f = ((kept.others id).0 i).1 in let u = order_used prefix slots order row_was id placed in cc);
  }
    where
      long : length others ≡ length slots
      long = length-set slots id.0 None

      out : (m : NodeId) → In m (free ++ id ∷ []) → (m.0 < length others) × (is_used others m ≡ false)
      out m i = elim (in_either m free (id ∷ []) i) [
        | inl j ↦ (let w = (kept.others m).0 j in
            let h : m.0 ≢ id.0 = λ e. (let u : is_used slots m ≡ true = ap (is_used slots) (same_id m id e) ∙ order_used prefix slots order row_was id placed in let f = w.1 in cc) in
            (subst (λ (n : ℕ). m.0 < n) (sym long) w.0, ap is_some (keeps m h) ∙ w.1))
        | inr j ↦ elim (in_first m id [] j) [
          | inl p ↦ (subst (λ (k : NodeId). (k.0 < length others) × (is_used others k ≡ false)) (sym p) (subst (λ (n : ℕ). id.0 < n) (sym long) (used_within slots id (order_used prefix slots order row_was id placed)), none_now))
          | inr k ↦ elim k [ ]
        ]
      ]

      of : (m : NodeId) → (m.0 < length others) × (is_used others m ≡ false) → In m (free ++ id ∷ [])
      of m w = elim (same_or_other m id) [
        | inl p ↦ in_right m free (id ∷ []) (subst (λ (k : NodeId). In k (id ∷ [])) (sym p) here)
        | inr h ↦ in_left m free (id ∷ []) ((kept.others m).1 (subst (λ (n : ℕ). m.0 < n) long w.0, sym (ap is_some (keeps m h)) ∙ w.1))
      ]

  pub removed : (entry : Entry) → entry_of slots id ≡ entry → (s t : ℕ) → t ≡ s + 1 → Removed (record { nodes = nodes_of prefix slots order; spare = s }) id entry (record { nodes = nodes_of prefix others shorter; spare = t })
  removed entry e s t more = record {
    node = node_of prefix slots id;
    there = live_node prefix slots order row_was id (order_used prefix slots order row_was id placed);
    entry_is = e;
    leaf = leaf prefix slots order row_was id (order_used prefix slots order row_was id placed) none;
    nodes = removed_nodes;
    entries = ap entries_of removed_nodes ∙ filter_entries (λ (n : Node). not (has_id id n)) (λ (e : Named). not (same_key (key_at e) (node_key (node_of prefix slots id)))) (nodes_of prefix slots order)
        (λ n i. let v = of_nodes prefix slots order row_was n i in subst (λ (k : Node). not (has_id id k) ≡ not (same_key (node_key k) (node_key (node_of prefix slots id)))) (sym v.2) (entry_test v.0 v.1));
    spare = more;
  }

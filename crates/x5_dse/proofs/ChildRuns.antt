-- What stands just below a node is the run in order that begins at its start, as a list in the order of keys.
use Rattle.std.proofs.Common.{◌≡◌, ℕ, zero, suc, ◌+◌, ◌-◌, ◌<◌, ◌≤◌, Bool, true, false, cond, inl, inr, List, [], ◌∷◌, ◌++◌, length, map, drop, get_or, refl, sym, ap, subst, ◌∙◌, arith, Option}
use Rattle.std.proofs.lemmas.List.{drop_more, drop_all, drop-map, get_or-drop, length_push, length-map, length-drop, length-take}
use Rattle.std.specs.Cmp.{tied_itself}
use Rattle.std.specs.List.{filter}
use Rattle.std.specs.Ordering.{is_lt, ordering_then}
use Rattle.std.specs.declared.cmp.Ordering.{Ordering}
use Rattle.std.specs.declared.cmp.Ordering.TheVariants.{Less, Equal, Greater}
use Rattle.x5_model.specs.Words.{ascending, in_option}
use Rattle.x5_model.specs.Members.{In, here, there}
use Rattle.x5_model.specs.Keys.{Key, KeyRdn, root, is_child, key_cmp, key_below, rdn_cmp, parent}
use Rattle.x5_model.specs.Values.{Name, key_of_rdn}
use Rattle.x5_model.proofs.KeyLaws.{rdn_cmp_total}
use Rattle.x5_model.proofs.Lists.{in_first, in_map, of_map, in_filter, of_filter}
use Rattle.x5_model.proofs.Prefixes.{child_decides}
use Rattle.x5_model.proofs.Ascending.{rest_ascending, first_below, cons_ascending, filter_ascending, one_list}
use Rattle.x5_dse.specs.declared.node.NodeId.{NodeId}
use Rattle.x5_dse.specs.Linked.{Node, id_of, node_key, node_below, children_of}
use Rattle.x5_dse.specs.Inside.{Slots, Spot, top, is_used, parent_at, rdn_at, node_of, nodes_of, spot_at, spots_of, spot_below, IsRow, IsStart}
use Rattle.x5_dse.specs.Run.{is_under, front_of, run_from}
use Rattle.x5_dse.proofs.Ids.{same_id, id_decides}
use Rattle.x5_dse.proofs.Spots.{spot_chain, same_above, spot_get, spots_length, get_in, lt_or_le}
use Rattle.x5_dse.proofs.Runs.{no_greater}
use Rattle.x5_dse.proofs.Named.{node_chain, node_never, key_in, order_used, key_length, top_key, child_key, child_parent, unique, of_nodes, in_nodes, nodes_ascending, live_node}

-- ---- keys of siblings

pub siblings : (k : Key) (r s : KeyRdn) → is_lt (rdn_cmp r s) ≡ true → key_below (k ++ r ∷ []) (k ++ s ∷ []) ≡ true
siblings [] r s e = by (rdn_cmp r s) e
  where
    by : (o : Ordering) → is_lt o ≡ true → is_lt (ordering_then o Equal) ≡ true
    by Less e = refl
    by Equal e = cc
    by Greater e = cc
siblings (x ∷ k) r s e = ap (λ (o : Ordering). is_lt (ordering_then o (key_cmp (k ++ r ∷ []) (k ++ s ∷ [])))) (tied_itself rdn_cmp_total x) ∙ siblings k r s e

-- ---- runs

module _ {A : Type 0} (test : A → Bool) where
  pub of_while : (z : A) (xs : List A) → In z (front_of test xs) → In z xs × (test z ≡ true)
  of_while z [] i = elim i [ ]
  of_while z (x ∷ xs) i = by (test x) refl i (of_while z xs)
    where
      by : (b : Bool) → test x ≡ b → In z (cond b (x ∷ front_of test xs) []) → (In z (front_of test xs) → In z xs × (test z ≡ true)) → In z (x ∷ xs) × (test z ≡ true)
      by true e j rest = elim (in_first z x (front_of test xs) j) [
        | inl p ↦ (subst (λ (y : A). In y (x ∷ xs)) (sym p) here, ap test p ∙ e)
        | inr k ↦ (let w = rest k in (there w.0, w.1))
      ]
      by false e j rest = elim j [ ]

  pub while_ascending : {B : Type 0} (below : B → B → Bool) (chain : (x y z : B) → below x y ≡ true → below y z ≡ true → below x z ≡ true) (f : A → B) (xs : List A) → ascending below (map f xs) ≡ true → ascending below (map f (front_of test xs)) ≡ true
  while_ascending below chain f [] h = refl
  while_ascending {B} below chain f (x ∷ xs) h = by (test x) (while_ascending below chain f xs (rest_ascending below chain (f x) (map f xs) h))
    where
      by : (b : Bool) → ascending below (map f (front_of test xs)) ≡ true → ascending below (map f (cond b (x ∷ front_of test xs) [])) ≡ true
      by true rest = cons_ascending below chain (f x) (map f (front_of test xs)) (λ z i. let w = of_map f z (front_of test xs) i in
          first_below below chain (f x) z (map f xs) h (subst (λ (y : B). In y (map f xs)) (sym w.2) (in_map f w.0 xs (of_while w.0 xs w.1).0))) rest
      by false rest = refl

drop_ascending : (n : ℕ) (xs : List Spot) → ascending spot_below xs ≡ true → ascending spot_below (drop n xs) ≡ true
drop_ascending zero xs h = h
drop_ascending (suc n) [] h = refl
drop_ascending (suc n) (x ∷ xs) h = drop_ascending n xs (rest_ascending spot_below spot_chain x xs h)

module _ (slots : Slots) (node : NodeId) where
  -- in order, with no spot below the run, what is of the run comes first
  in_while : (xs : List NodeId) (m : NodeId) → ascending spot_below (spots_of slots xs) ≡ true → ((k : NodeId) → In k xs → node.0 ≤ (parent_at slots k).0) → In m xs → parent_at slots m ≡ node → In m (front_of (is_under slots node) xs)
  in_while [] m h f i e = elim i [ ]
  in_while (x ∷ xs) m h f i e = by (is_under slots node x) refl (in_while xs m (rest_ascending spot_below spot_chain (spot_at slots x) (spots_of slots xs) h) (λ k j. f k (there j)))
    where
      first : In m (x ∷ xs) → (parent_at slots x).0 ≡ node.0
      first j = elim (in_first m x xs j) [
        | inl p ↦ ap (λ (k : NodeId). (parent_at slots k).0) (sym p) ∙ ap (λ (k : NodeId). k.0) e
        | inr l ↦ (let a = no_greater (spot_at slots x) (spot_at slots m) (first_below spot_below spot_chain (spot_at slots x) (spot_at slots m) (spots_of slots xs) h (in_map (spot_at slots) m xs l)) in
            let b = f x here in let c : (parent_at slots m).0 ≡ node.0 = ap (λ (k : NodeId). k.0) e in omega arith)
      ]

      by : (b : Bool) → is_under slots node x ≡ b → (In m xs → parent_at slots m ≡ node → In m (front_of (is_under slots node) xs)) → In m (cond b (x ∷ front_of (is_under slots node) xs) [])
      by true q rest = elim (in_first m x xs i) [
        | inl p ↦ subst (λ (y : NodeId). In y (x ∷ front_of (is_under slots node) xs)) (sym p) here
        | inr l ↦ there (rest l e)
      ]
      by false q rest = absurd (let t : is_under slots node x ≡ true = (id_decides (parent_at slots x) node).1 (same_id (parent_at slots x) node (first i)) in cc)

  -- ---- one step of it

  pub run_step : (order : List NodeId) (at : ℕ) → at < length order → parent_at slots (get_or order at top) ≡ node → run_from slots order node at ≡ get_or order at top ∷ run_from slots order node (at + 1)
  run_step order at l e =
      ap (front_of (is_under slots node)) (drop_more order at top l)
      ∙ ap (λ (b : Bool). cond b (get_or order at top ∷ run_from slots order node (at + 1)) []) ((id_decides (parent_at slots (get_or order at top)) node).1 e)

  pub run_end : (order : List NodeId) (at : ℕ) → ((at < length order) × (parent_at slots (get_or order at top) ≡ node) → ⊥) → run_from slots order node at ≡ []
  run_end order at f = elim (lt_or_le at (length order)) [
    | inl l ↦ by l (is_under slots node (get_or order at top)) refl
    | inr l ↦ ap (front_of (is_under slots node)) (drop_all at order l)
  ]
    where
      by : at < length order → (b : Bool) → is_under slots node (get_or order at top) ≡ b → run_from slots order node at ≡ []
      by l true q = absurd (f (l, (id_decides (parent_at slots (get_or order at top)) node).0 q))
      by l false q = ap (front_of (is_under slots node)) (drop_more order at top l) ∙ ap (λ (b : Bool). cond b (get_or order at top ∷ run_from slots order node (at + 1)) []) q

-- ---- all of it

ids_of : (prefix : Name) (slots : Slots) (xs : List NodeId) → map id_of (map (node_of prefix slots) xs) ≡ xs
ids_of prefix slots [] = refl
ids_of prefix slots (x ∷ xs) = ap (λ (ys : List NodeId). x ∷ ys) (ids_of prefix slots xs)

module _ (prefix : Name) (slots : Slots) (order : List NodeId) (row : IsRow slots order) (node : NodeId) (used : is_used slots node ≡ true) (at : ℕ) (start : IsStart (spots_of slots order) node at) where
  of_run : (m : NodeId) → In m (run_from slots order node at) → In m order × (parent_at slots m ≡ node)
  of_run m i =
      let w = of_while (is_under slots node) m (drop at order) i in
      (of_drop at order w.0, (id_decides (parent_at slots m) node).0 w.1)
    where
      of_drop : (n : ℕ) (xs : List NodeId) → In m (drop n xs) → In m xs
      of_drop zero xs j = j
      of_drop (suc n) [] j = elim j [ ]
      of_drop (suc n) (x ∷ xs) j = there (of_drop n xs j)

  in_run : (m : NodeId) → In m order → parent_at slots m ≡ node → In m (run_from slots order node at)
  in_run m i e =
      in_while slots node (drop at order) m (subst (λ (xs : List Spot). ascending spot_below xs ≡ true) (drop-map (spot_at slots) at order) (drop_ascending at (spots_of slots order) row.in_order)) late (in_late at order i early) e
    where
      late : (k : NodeId) → In k (drop at order) → node.0 ≤ (parent_at slots k).0
      late k j =
          let w = get_in k (drop at order) j in
          let l : at + w.0 < length order = (let m = w.1 in omega (arith, length-drop at order)) in
          let p : get_or (spots_of slots order) (at + w.0) (0, []) ≡ spot_at slots k = spot_get slots order (at + w.0) top (0, []) l ∙ ap (spot_at slots) (sym (get_or-drop at order w.0 top) ∙ w.2 top) in
          subst (λ (s : Spot). node.0 ≤ s.0) p (start.after (at + w.0) (0, []) (omega arith) (omega (arith, spots_length slots order)))

      early : (k : ℕ) → k < at → k < length order → get_or order k top ≡ m → ⊥
      early k l o q =
          let b : (get_or (spots_of slots order) k (0, [])).0 < node.0 = start.before k (0, []) l in
          let p : (get_or (spots_of slots order) k (0, [])).0 ≡ node.0 = ap (λ (s : Spot). s.0) (spot_get slots order k top (0, []) o) ∙ ap (λ (j : NodeId). (parent_at slots j).0) q ∙ ap (λ (j : NodeId). j.0) e in
          omega arith

      in_late : (n : ℕ) (xs : List NodeId) → In m xs → ((k : ℕ) → k < n → k < length xs → get_or xs k top ≡ m → ⊥) → In m (drop n xs)
      in_late zero xs j f = j
      in_late (suc n) [] j f = elim j [ ]
      in_late (suc n) (x ∷ xs) j f = elim (in_first m x xs j) [
        | inl p ↦ absurd (f 0 (omega arith) (omega arith) (sym p))
        | inr k ↦ in_late n xs k (λ i l o. f (suc i) (omega arith) (omega arith))
      ]

  run_keys : (xs : List NodeId) → ascending spot_below (spots_of slots xs) ≡ true → ((m : NodeId) → In m xs → In m order × (parent_at slots m ≡ node)) → ascending node_below (map (node_of prefix slots) xs) ≡ true
  run_keys [] h f = refl
  run_keys (x ∷ xs) h f =
      cons_ascending node_below node_chain (node_of prefix slots x) (map (node_of prefix slots) xs) (λ z i. let w = of_map (node_of prefix slots) z xs i in subst (λ (n : Node). node_below (node_of prefix slots x) n ≡ true) (sym w.2) (less w.0 w.1))
      (run_keys xs (rest_ascending spot_below spot_chain (spot_at slots x) (spots_of slots xs) h) (λ m i. f m (there i)))
    where
      key : (m : NodeId) → In m order × (parent_at slots m ≡ node) → key_in prefix slots order row m ≡ key_in prefix slots order row node ++ key_of_rdn (rdn_at slots m) ∷ []
      key m w = child_key prefix slots order row m w.0 ∙ ap (λ (k : NodeId). key_in prefix slots order row k ++ key_of_rdn (rdn_at slots m) ∷ []) w.1

      less : (m : NodeId) → In m xs → node_below (node_of prefix slots x) (node_of prefix slots m) ≡ true
      less m i =
          let a = f x here in
          let b = f m (there i) in
          let s = first_below spot_below spot_chain (spot_at slots x) (spot_at slots m) (spots_of slots xs) h (in_map (spot_at slots) m xs i) in
          let r : is_lt (rdn_cmp (key_of_rdn (rdn_at slots x)) (key_of_rdn (rdn_at slots m))) ≡ true = ap is_lt (sym (same_above (spot_at slots x) (spot_at slots m) (ap (λ (k : NodeId). k.0) (a.1 ∙ sym b.1)))) ∙ s in
          subst (λ (k : Key). key_below k (key_in prefix slots order row m) ≡ true) (sym (key x a))
          (subst (λ (k : Key). key_below (key_in prefix slots order row node ++ key_of_rdn (rdn_at slots x) ∷ []) k ≡ true) (sym (key m b))
          (siblings (key_in prefix slots order row node) (key_of_rdn (rdn_at slots x)) (key_of_rdn (rdn_at slots m)) r))

  child_in : (m : NodeId) → is_used slots m ≡ true → is_child (key_in prefix slots order row node) (key_in prefix slots order row m) ≡ true → In m order × (parent_at slots m ≡ node)
  child_in m u e =
      let w = (child_decides (key_in prefix slots order row node) (key_in prefix slots order row m)).0 e in
      elim (in_first m top order ((row.used m).1 u)) [
        | inl p ↦ (let l : length (key_in prefix slots order row m) - 1 ≡ length (key_in prefix slots order row node) = sym (parent_len (key_in prefix slots order row m)) ∙ ap length w.1 in
            let t : length (key_in prefix slots order row m) ≡ length prefix = ap (λ (k : NodeId). length (key_in prefix slots order row k)) p ∙ ap length (top_key prefix slots order row) ∙ length-map prefix key_of_rdn in
            let o = w.0 in absurd (omega (arith, key_length prefix slots order row node)))
        | inr i ↦ (i, unique prefix slots order row (parent_at slots m) node (row.above m i).0 used (sym (child_parent prefix slots order row m i) ∙ w.1))
      ]
    where
      parent_len : (k : Key) → length (parent k) ≡ length k - 1
      parent_len k = omega (arith, length-take (length k - 1) k)

  pub children_are : run_from slots order node at ≡ children_of (nodes_of prefix slots order) node
  children_are =
      sym (ids_of prefix slots (run_from slots order node at))
      ∙ ap (map id_of) (one_list node_below node_chain node_never (map (node_of prefix slots) (run_from slots order node at)) (filter (λ (n : Node). is_child (key_in prefix slots order row node) (node_key n)) (nodes_of prefix slots order))
      (run_keys (run_from slots order node at) (while_ascending (is_under slots node) spot_below spot_chain (spot_at slots) (drop at order) (subst (λ (xs : List Spot). ascending spot_below xs ≡ true) (drop-map (spot_at slots) at order) (drop_ascending at (spots_of slots order) row.in_order))) of_run)
      (filter_ascending node_below node_chain (λ (n : Node). is_child (key_in prefix slots order row node) (node_key n)) (nodes_of prefix slots order) (nodes_ascending prefix slots order row)) forth back)
      ∙ ap (λ (k : Key). map id_of (filter (λ (n : Node). is_child k (node_key n)) (nodes_of prefix slots order))) (sym (ap (λ (o : Option Node). in_option root node_key o) (live_node prefix slots order row node used)))
    where
      forth : (z : Node) → In z (map (node_of prefix slots) (run_from slots order node at)) → In z (filter (λ (n : Node). is_child (key_in prefix slots order row node) (node_key n)) (nodes_of prefix slots order))
      forth z i =
          let w = of_map (node_of prefix slots) z (run_from slots order node at) i in
          let v = of_run w.0 w.1 in
          let k = child_key prefix slots order row w.0 v.0 in
          subst (λ (n : Node). In n (filter (λ (n : Node). is_child (key_in prefix slots order row node) (node_key n)) (nodes_of prefix slots order))) (sym w.2)
          (in_filter (λ (n : Node). is_child (key_in prefix slots order row node) (node_key n)) (node_of prefix slots w.0) (nodes_of prefix slots order) (in_nodes prefix slots order row w.0 (order_used prefix slots order row w.0 v.0))
          ((child_decides (key_in prefix slots order row node) (key_in prefix slots order row w.0)).1
          ((let l = ap length k in omega (arith, length_push (key_in prefix slots order row (parent_at slots w.0)) (key_of_rdn (rdn_at slots w.0)))), child_parent prefix slots order row w.0 v.0 ∙ ap (key_in prefix slots order row) v.1)))

      back : (z : Node) → In z (filter (λ (n : Node). is_child (key_in prefix slots order row node) (node_key n)) (nodes_of prefix slots order)) → In z (map (node_of prefix slots) (run_from slots order node at))
      back z i =
          let w = of_filter (λ (n : Node). is_child (key_in prefix slots order row node) (node_key n)) z (nodes_of prefix slots order) i in
          let v = of_nodes prefix slots order row z w.0 in
          let c = child_in v.0 v.1 (subst (λ (n : Node). is_child (key_in prefix slots order row node) (node_key n) ≡ true) v.2 w.1) in
          subst (λ (n : Node). In n (map (node_of prefix slots) (run_from slots order node at))) (sym v.2) (in_map (node_of prefix slots) v.0 (run_from slots order node at) (in_run v.0 c.0 c.1))

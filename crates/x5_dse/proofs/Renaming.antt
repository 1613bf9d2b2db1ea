-- A node gets another RDN: its name changes and the names below it, and nothing else; it goes to its place among its siblings.
use Rattle.std.proofs.Common.{◌≡◌, ◌≢◌, ℕ, zero, suc, ◌+◌, ◌-◌, ◌<◌, ◌≤◌, Bool, true, false, not, ◌&&◌, cond, ◌⊎◌, inl, inr, List, [], ◌∷◌, ◌++◌, length, map, take, drop, set, refl, sym, ap, subst, ◌∙◌, arith, Option, Some, append_assoc}
use Rattle.std.proofs.lemmas.List.{append-nil, length-map, length_push, map_push, same_from_push, take_all, take_at, drop_at, take-append-le, drop-append-le}
use Rattle.x5_model.specs.Words.{ascending, insert_sorted, sorted}
use Rattle.x5_model.specs.Members.{In, here, there}
use Rattle.x5_model.specs.Keys.{Key, IsPrefix, same_key, is_prefix, parent}
use Rattle.x5_model.specs.Values.{Name, Rdn, key_of_rdn, key_of, name_above}
use Rattle.x5_model.specs.Entries.{Named}
use Rattle.x5_model.proofs.KeyLaws.{key_decides}
use Rattle.x5_model.proofs.Lists.{true_or_false, and_true, in_first, in_map, of_map, of_any}
use Rattle.x5_model.proofs.Prefixes.{prefix_decides, prefix_chain, prefix_length, prefix_itself, prefix_of_parent, parent_is_prefix}
use Rattle.x5_model.proofs.Ascending.{AllApart, rest_ascending, first_below, of_sorted, in_sorted, sorted_ascending}
use Rattle.x5_model_tree.specs.Tree.{key_at, named_below, sorted_entries, is_there}
use Rattle.x5_model_tree.specs.Apply.{respelled}
use Rattle.x5_dse.specs.declared.node.NodeId.{NodeId}
use Rattle.x5_dse.specs.declared.node.DseFault.TheVariants.{Exists}
use Rattle.x5_dse.specs.Linked.{Node, named_of, entries_of, node_key, node_below}
use Rattle.x5_dse.specs.Changes.{new_key, is_taken, moved_entry, moved, Renamed, NotRenamed}
use Rattle.x5_dse.specs.Slot.{Slot}
use Rattle.x5_dse.specs.Inside.{Slots, Spot, top, slot_at, is_used, held, parent_at, depth_at, rdn_at, entry_of, path, name_at, node_of, nodes_of, spot_at, spots_of, spot_below, IsRow, IsKept, IsOther, IsMove}
use Rattle.x5_dse.proofs.Ids.{same_id, same_or_other, used_within, slot_same, slot_other}
use Rattle.x5_dse.proofs.Spots.{lt_or_eq, spot_chain, spot_never, missing}
use Rattle.x5_dse.proofs.Members.{of_removed, in_removed, gone, in_inserted, new_inserted, old_inserted}
use Rattle.x5_dse.proofs.InOrder.{put_ascending, less_ascending, map_insert, map_remove, same_map}
use Rattle.x5_dse.proofs.Named.{node_chain, node_never, once_in_order, key_in, top_used, order_used, key_length, child_name, child_key, child_parent, ordered, depth_zero, unique, of_nodes, in_nodes, nodes_ascending, apart_keys, there_if_used, live_node}
use Rattle.x5_dse.proofs.Changing.{nodes_are}
use Rattle.x5_dse.proofs.Putting.{entries_insert}
use Rattle.x5_dse.proofs.Replacing.{maps_meet, same_but, used_but, kept_but}

-- ---- names with one RDN changed

pub respelled_last : (above : Name) (old new : Rdn) (n : ℕ) → length above ≡ n → respelled n new (above ++ old ∷ []) ≡ above ++ new ∷ []
respelled_last above old new n e =
    (λ i. take_at above (old ∷ []) n e i ++ new ∷ drop (n + 1) (above ++ old ∷ []))
    ∙ ap (λ (k : Name). above ++ new ∷ k) (let p : above ++ old ∷ [] ≡ (above ++ old ∷ []) ++ [] = sym (append-nil (above ++ old ∷ [])) in ap (drop (n + 1)) p ∙ drop_at (above ++ old ∷ []) [] (n + 1) (omega (arith, length_push above old)))

pub respelled_push : (name : Name) (r new : Rdn) (n : ℕ) → n + 1 ≤ length name → respelled n new (name ++ r ∷ []) ≡ respelled n new name ++ r ∷ []
respelled_push name r new n l =
    (λ i. take-append-le n name (r ∷ []) (let h : n ≤ length name = omega arith in h) i ++ new ∷ drop-append-le (n + 1) name (r ∷ []) l i)
    ∙ sym (append_assoc (take n name) (new ∷ drop (n + 1) name) (r ∷ []))

pub name_above_push : (name : Name) (r : Rdn) → name_above (name ++ r ∷ []) ≡ name
name_above_push name r = take_at name (r ∷ []) (length (name ++ r ∷ []) - 1) (omega (arith, length_push name r))

and_false : (b : Bool) → (b && false) ≡ false
and_false true = refl
and_false false = refl

pub entries_sorted : (xs : List Node) → entries_of (sorted node_below xs) ≡ sorted named_below (entries_of xs)
entries_sorted [] = refl
entries_sorted (x ∷ xs) = entries_insert x (sorted node_below xs) ∙ ap (insert_sorted named_below x.named) (entries_sorted xs)

pub apart_map : (f : Node → Node) (xs : List Node) → ascending node_below xs ≡ true
    → ((a b : Node) → In a xs → In b xs → node_below a b ≡ true → (node_below (f a) (f b) ≡ true) ⊎ (node_below (f b) (f a) ≡ true)) → AllApart node_below (map f xs)
apart_map f [] h g = tt
apart_map f (x ∷ xs) h g = (
  (λ z i. let w = of_map f z xs i in
      subst (λ (n : Node). (node_below (f x) n ≡ true) ⊎ (node_below n (f x) ≡ true)) (sym w.2) (g x w.0 here (there w.1) (first_below node_below node_chain x w.0 xs h w.1))),
  apart_map f xs (rest_ascending node_below node_chain x xs h) (λ a b i j l. g a b (there i) (there j) l),
)

-- ---- the node goes to its place

module _ (prefix : Name) (slots : Slots) (order free : List NodeId) (kept : IsKept slots order free) (id : NodeId) (placed : In id order) (s : Slot)
    (same_parent : s.parent ≡ (held (slot_at slots id)).parent) (same_depth : s.depth ≡ (held (slot_at slots id)).depth)
    (from to : ℕ) (move : IsMove slots order id (key_of_rdn s.rdn) from to) where
  abbrev others : Slots
  others = set slots id.0 (Some s)

  abbrev less : List NodeId
  less = take from order ++ drop (suc from) order

  abbrev again : List NodeId
  again = take to less ++ id ∷ drop to less

  was : IsRow slots order
  was = kept.row

  used : is_used slots id ≡ true
  used = order_used prefix slots order was id placed

  other_in : (m : NodeId) → In m less → m.0 ≢ id.0
  other_in m i e = gone order from id move.within (once_in_order spot_below spot_chain spot_never (spot_at slots) order was.in_order) (subst (λ (k : NodeId). In k less) (same_id m id e ∙ sym (move.is_at id)) i)

  of_again : (m : NodeId) → In m again → In m order
  of_again m i = elim (in_inserted id m less to i) [
    | inl p ↦ subst (λ (k : NodeId). In k order) (sym p) placed
    | inr j ↦ of_removed m order from j
  ]

  in_again : (m : NodeId) → In m order → In m again
  in_again m i = elim (in_removed m order from id i) [
    | inl p ↦ subst (λ (k : NodeId). In k again) (sym (p ∙ move.is_at id)) (new_inserted id less to)
    | inr j ↦ old_inserted id m less to j
  ]

  parents : (m : NodeId) → parent_at others m ≡ parent_at slots m
  parents = same_but slots id s used (λ (t : Slot). t.parent) same_parent

  depths : (m : NodeId) → depth_at others m ≡ depth_at slots m
  depths = same_but slots id s used (λ (t : Slot). t.depth) same_depth

  now : slot_at others id ≡ Some s
  now = slot_same slots id (Some s) (used_within slots id used)

  row : IsRow others again
  row = record {
    used = λ m. (
      λ i. used_but slots id s used m ∙ elim (in_first m top again i) [
        | inl p ↦ subst (λ (k : NodeId). is_used slots k ≡ true) (sym p) (top_used prefix slots order was)
        | inr j ↦ order_used prefix slots order was m (of_again m j)
      ],
      λ u. elim (in_first m top order ((was.used m).1 (sym (used_but slots id s used m) ∙ u))) [
        | inl p ↦ subst (λ (k : NodeId). In k (top ∷ again)) (sym p) here
        | inr j ↦ there (in_again m j)
      ],
    );
    first = depths top ∙ was.first;
    above = λ m i. (
      ap (is_used others) (parents m) ∙ used_but slots id s used (parent_at slots m) ∙ (was.above m (of_again m i)).0,
      depths m ∙ (was.above m (of_again m i)).1 ∙ ap (λ (n : ℕ). suc n) (sym (depths (parent_at slots m)) ∙ ap (depth_at others) (sym (parents m))),
    );
    in_order = subst (λ (xs : List Spot). ascending spot_below xs ≡ true) (sym spots_again)
        (put_ascending spot_below spot_chain spot_never ((parent_at slots id).0, key_of_rdn s.rdn) (spots_of slots less) to move.goes.0 move.goes.1 move.goes.2
        (subst (λ (xs : List Spot). ascending spot_below xs ≡ true) (sym (map_remove (spot_at slots) order from)) (less_ascending spot_below spot_chain spot_never (spots_of slots order) from was.in_order)));
  }
    where
      spots_again : spots_of others again ≡ take to (spots_of slots less) ++ ((parent_at slots id).0, key_of_rdn s.rdn) ∷ drop to (spots_of slots less)
      spots_again =
          map_insert (spot_at others) id less to
          ∙ ap (λ (xs : List Spot). take to xs ++ spot_at others id ∷ drop to xs) (same_map (spot_at others) (spot_at slots) less (λ m i. ap (λ (o : Option Slot). ((held o).parent.0, key_of_rdn (held o).rdn)) (slot_other slots id m (Some s) (other_in m i))))
          ∙ ap (λ (x : Spot). take to (spots_of slots less) ++ x ∷ drop to (spots_of slots less)) (ap (λ (o : Option Slot). ((held o).parent.0, key_of_rdn (held o).rdn)) now ∙ ap (λ (p : NodeId). (p.0, key_of_rdn s.rdn)) same_parent)

  pub renamed_kept : IsKept others again free
  renamed_kept = kept_but slots order again free id s used kept row

  -- ---- names

  abbrev above : ℕ
  above = length (name_at prefix slots (parent_at slots id))

  up_name : name_at prefix slots id ≡ name_at prefix slots (parent_at slots id) ++ rdn_at slots id ∷ []
  up_name = child_name prefix slots order was id placed

  id_length : length (key_in prefix slots order was id) ≡ above + 1
  id_length = ap (λ (n : Name). length (key_of n)) up_name ∙ length-map (name_at prefix slots (parent_at slots id) ++ rdn_at slots id ∷ []) key_of_rdn ∙ length_push (name_at prefix slots (parent_at slots id)) (rdn_at slots id)

  abbrev Goes : NodeId → Type 0
  Goes m = ((is_prefix (key_in prefix slots order was id) (key_in prefix slots order was m) ≡ true) × (name_at prefix others m ≡ respelled above s.rdn (name_at prefix slots m)))
      ⊎ ((is_prefix (key_in prefix slots order was id) (key_in prefix slots order was m) ≡ false) × (name_at prefix others m ≡ name_at prefix slots m))

  too_short : (m : NodeId) → length (key_in prefix slots order was m) < above + 1 → is_prefix (key_in prefix slots order was id) (key_in prefix slots order was m) ≡ false
  too_short m l = elim (true_or_false (is_prefix (key_in prefix slots order was id) (key_in prefix slots order was m))) [
    | inl p ↦ (let h = prefix_length (key_in prefix slots order was id) (key_in prefix slots order was m) ((prefix_decides (key_in prefix slots order was id) (key_in prefix slots order was m)).0 p) in absurd (omega (arith, id_length)))
    | inr p ↦ p
  ]

  stays_name : (m : NodeId) → Goes m → length (key_in prefix slots order was m) < above + 1 → name_at prefix others m ≡ name_at prefix slots m
  stays_name m (inl w) l = let p = too_short m l in let q = w.0 in cc
  stays_name m (inr w) l = w.1

  step_name : (m : NodeId) (i : In m order) → Goes (parent_at slots m) → Goes m
  step_name m i w = elim (same_or_other m id) [
    | inl p ↦ inl (
      (prefix_decides (key_in prefix slots order was id) (key_in prefix slots order was m)).1 (subst (λ (k : NodeId). IsPrefix (key_in prefix slots order was id) (key_in prefix slots order was k)) (sym p) (prefix_itself (key_in prefix slots order was id))),
      subst (λ (k : NodeId). name_at prefix others k ≡ respelled above s.rdn (name_at prefix slots k)) (sym p) (self_name (subst (λ (k : NodeId). Goes (parent_at slots k)) p w)),
    )
    | inr h ↦ other_name h w
  ]
    where
      self_name : Goes (parent_at slots id) → name_at prefix others id ≡ respelled above s.rdn (name_at prefix slots id)
      self_name v =
          child_name prefix others again row id (in_again id placed)
          ∙ ap (λ (k : NodeId). name_at prefix others k ++ rdn_at others id ∷ []) (parents id)
          ∙ ap (λ (o : Option Slot). name_at prefix others (parent_at slots id) ++ (held o).rdn ∷ []) now
          ∙ ap (λ (n : Name). n ++ s.rdn ∷ []) (stays_name (parent_at slots id) v (omega (arith, length-map (name_at prefix slots (parent_at slots id)) key_of_rdn)))
          ∙ sym (ap (respelled above s.rdn) up_name ∙ respelled_last (name_at prefix slots (parent_at slots id)) (rdn_at slots id) s.rdn above refl)

      push : m.0 ≢ id.0 → name_at prefix others m ≡ name_at prefix others (parent_at slots m) ++ rdn_at slots m ∷ []
      push h =
          child_name prefix others again row m (in_again m i)
          ∙ ap (λ (k : NodeId). name_at prefix others k ++ rdn_at others m ∷ []) (parents m)
          ∙ ap (λ (o : Option Slot). name_at prefix others (parent_at slots m) ++ (held o).rdn ∷ []) (slot_other slots id m (Some s) h)

      other_name : m.0 ≢ id.0 → Goes (parent_at slots m) → Goes m
      other_name h (inl v) =
          let p = (prefix_decides (key_in prefix slots order was id) (key_in prefix slots order was (parent_at slots m))).0 v.0 in
          let l = prefix_length (key_in prefix slots order was id) (key_in prefix slots order was (parent_at slots m)) p in
          inl (
            (prefix_decides (key_in prefix slots order was id) (key_in prefix slots order was m)).1 (prefix_chain (key_in prefix slots order was id) (parent (key_in prefix slots order was m)) (key_in prefix slots order was m)
                (subst (λ (k : Key). IsPrefix (key_in prefix slots order was id) k) (sym (child_parent prefix slots order was m i)) p) (parent_is_prefix (key_in prefix slots order was m))),
            push h ∙ ap (λ (n : Name). n ++ rdn_at slots m ∷ []) v.1
                ∙ sym (ap (respelled above s.rdn) (child_name prefix slots order was m i) ∙ respelled_push (name_at prefix slots (parent_at slots m)) (rdn_at slots m) s.rdn above (omega (arith, id_length, length-map (name_at prefix slots (parent_at slots m)) key_of_rdn))),
          )
      other_name h (inr v) = inr (
        elim (true_or_false (is_prefix (key_in prefix slots order was id) (key_in prefix slots order was m))) [
          | inl q ↦ absurd (not_under ((prefix_decides (key_in prefix slots order was id) (key_in prefix slots order was m)).0 q))
          | inr q ↦ q
        ],
        push h ∙ ap (λ (n : Name). n ++ rdn_at slots m ∷ []) v.1 ∙ sym (child_name prefix slots order was m i),
      )
        where
          not_under : IsPrefix (key_in prefix slots order was id) (key_in prefix slots order was m) → ⊥
          not_under p = elim (lt_or_eq (length (key_in prefix slots order was id)) (length (key_in prefix slots order was m)) (let l = prefix_length (key_in prefix slots order was id) (key_in prefix slots order was m) p in omega arith)) [
            | inl l ↦ (let t : is_prefix (key_in prefix slots order was id) (key_in prefix slots order was (parent_at slots m)) ≡ true =
                (prefix_decides (key_in prefix slots order was id) (key_in prefix slots order was (parent_at slots m))).1
                (subst (λ (k : Key). IsPrefix (key_in prefix slots order was id) k) (child_parent prefix slots order was m i) (prefix_of_parent (key_in prefix slots order was id) (key_in prefix slots order was m) p l)) in
                let f = v.0 in cc)
            | inr e ↦ (let same = sym p ∙ take_all (length (key_in prefix slots order was id)) (key_in prefix slots order was m) (omega arith) in
                h (ap (λ (k : NodeId). k.0) (unique prefix slots order was m id (order_used prefix slots order was m i) used (sym same))))
          ]

  goes : (n : ℕ) (m : NodeId) → is_used slots m ≡ true → depth_at slots m ≡ n → Goes m
  goes zero m u e =
      let t : m ≡ top = depth_zero prefix slots order was m u e in
      inr (
        too_short m (let l = (was.above id placed).1 in omega (arith, key_length prefix slots order was m, id_length, key_length prefix slots order was id)),
        ap (λ (n : ℕ). prefix ++ path others n m) (depths m ∙ e) ∙ ap (λ (n : ℕ). prefix ++ path slots n m) (sym e),
      )
  goes (suc n) m u e =
      let i = ordered prefix slots order was m n u e in
      step_name m i (goes n (parent_at slots m) (was.above m i).0 (let l = (was.above m i).1 in omega arith))

  above_is : length (name_above (name_at prefix slots id)) ≡ above
  above_is = ap (λ (n : Name). length (name_above n)) up_name ∙ ap length (name_above_push (name_at prefix slots (parent_at slots id)) (rdn_at slots id))

  abbrev choice : NodeId → Bool → Bool → Named
  choice m b c = cond b (record { name = respelled (length (name_above (name_at prefix slots id))) s.rdn (name_at prefix slots m); entry = s.entry })
      (cond c (record { name = respelled (length (name_above (name_at prefix slots id))) s.rdn (name_at prefix slots m); entry = entry_of slots m }) (record { name = name_at prefix slots m; entry = entry_of slots m }))

  node_moved : (m : NodeId) → is_used slots m ≡ true → node_of prefix others m ≡ moved (node_of prefix slots id).named s.rdn s.entry (node_of prefix slots m)
  node_moved m u = elim (same_or_other m id) [
    | inl p ↦ (let k : same_key (key_in prefix slots order was m) (key_in prefix slots order was id) ≡ true = (key_decides (key_in prefix slots order was m) (key_in prefix slots order was id)).1 (ap (key_in prefix slots order was) p) in
        let e : entry_of others m ≡ s.entry = ap (entry_of others) p ∙ ap (λ (o : Option Slot). (held o).entry) now in
        let n = self_is m p (goes (depth_at slots m) m u refl) ∙ ap (λ (j : ℕ). respelled j s.rdn (name_at prefix slots m)) (sym above_is) in
        (λ i. record { id = m; named = record { name = n i; entry = e i } })
        ∙ sym (ap (λ (b : Bool). record { id = m; named = choice m b (is_prefix (key_in prefix slots order was id) (key_in prefix slots order was m)) }) k))
    | inr h ↦ (let k : same_key (key_in prefix slots order was m) (key_in prefix slots order was id) ≡ false = elim (true_or_false (same_key (key_in prefix slots order was m) (key_in prefix slots order was id))) [
      | inl q ↦ absurd (h (ap (λ (j : NodeId). j.0) (unique prefix slots order was m id u used ((key_decides (key_in prefix slots order was m) (key_in prefix slots order was id)).0 q))))
      | inr q ↦ q
    ] in
        let e = ap (λ (o : Option Slot). (held o).entry) (slot_other slots id m (Some s) h) in
        other_is m e (goes (depth_at slots m) m u refl)
        ∙ sym (ap (λ (b : Bool). record { id = m; named = choice m b (is_prefix (key_in prefix slots order was id) (key_in prefix slots order was m)) }) k))
  ]
    where
      self_is : (m : NodeId) → m ≡ id → Goes m → name_at prefix others m ≡ respelled above s.rdn (name_at prefix slots m)
      self_is m p (inl w) = w.1
      self_is m p (inr w) = absurd (let t : is_prefix (key_in prefix slots order was id) (key_in prefix slots order was m) ≡ true = (prefix_decides (key_in prefix slots order was id) (key_in prefix slots order was m)).1 (subst (λ (k : NodeId). IsPrefix (key_in prefix slots order was id) (key_in prefix slots order was k)) (sym p) (prefix_itself (key_in prefix slots order was id))) in let f = w.0 in cc)

      other_is : (m : NodeId) → entry_of others m ≡ entry_of slots m → Goes m → node_of prefix others m ≡ record { id = m; named = choice m false (is_prefix (key_in prefix slots order was id) (key_in prefix slots order was m)) }
      other_is m e (inl w) =
          let n = w.1 ∙ ap (λ (j : ℕ). respelled j s.rdn (name_at prefix slots m)) (sym above_is) in
          (λ i. record { id = m; named = record { name = n i; entry = e i } }) ∙ sym (ap (λ (c : Bool). record { id = m; named = choice m false c }) w.0)
      other_is m e (inr w) =
          let n = w.1 in
          (λ i. record { id = m; named = record { name = n i; entry = e i } }) ∙ sym (ap (λ (c : Bool). record { id = m; named = choice m false c }) w.0)

  renamed_nodes : nodes_of prefix others again ≡ sorted node_below (map (moved (node_of prefix slots id).named s.rdn s.entry) (nodes_of prefix slots order))
  renamed_nodes =
      nodes_are prefix others again row (sorted node_below (map (moved (node_of prefix slots id).named s.rdn s.entry) (nodes_of prefix slots order)))
      (sorted_ascending node_below node_chain (map (moved (node_of prefix slots id).named s.rdn s.entry) (nodes_of prefix slots order))
      (apart_map (moved (node_of prefix slots id).named s.rdn s.entry) (nodes_of prefix slots order) (nodes_ascending prefix slots order was) apart))
      (λ m u. let v = sym (used_but slots id s used m) ∙ u in
      in_sorted node_below (node_of prefix others m) (map (moved (node_of prefix slots id).named s.rdn s.entry) (nodes_of prefix slots order))
      (subst (λ (n : Node). In n (map (moved (node_of prefix slots id).named s.rdn s.entry) (nodes_of prefix slots order))) (sym (node_moved m v)) (in_map (moved (node_of prefix slots id).named s.rdn s.entry) (node_of prefix slots m) (nodes_of prefix slots order) (in_nodes prefix slots order was m v))))
      (λ n i. let w = of_map (moved (node_of prefix slots id).named s.rdn s.entry) n (nodes_of prefix slots order) (of_sorted node_below n (map (moved (node_of prefix slots id).named s.rdn s.entry) (nodes_of prefix slots order)) i) in
      let v = of_nodes prefix slots order was w.0 w.1 in
      (v.0, used_but slots id s used v.0 ∙ v.1, w.2 ∙ ap (moved (node_of prefix slots id).named s.rdn s.entry) v.2 ∙ sym (node_moved v.0 v.1)))
    where
      apart : (a b : Node) → In a (nodes_of prefix slots order) → In b (nodes_of prefix slots order) → node_below a b ≡ true
          → (node_below (moved (node_of prefix slots id).named s.rdn s.entry a) (moved (node_of prefix slots id).named s.rdn s.entry b) ≡ true) ⊎ (node_below (moved (node_of prefix slots id).named s.rdn s.entry b) (moved (node_of prefix slots id).named s.rdn s.entry a) ≡ true)
      apart a b i j l =
          let v = of_nodes prefix slots order was a i in
          let w = of_nodes prefix slots order was b j in
          let p = node_moved v.0 v.1 ∙ ap (moved (node_of prefix slots id).named s.rdn s.entry) (sym v.2) in
          let q = node_moved w.0 w.1 ∙ ap (moved (node_of prefix slots id).named s.rdn s.entry) (sym w.2) in
          let differ : v.0 ≡ w.0 → ⊥ = λ e. node_never a (subst (λ (n : Node). node_below a n ≡ true) (w.2 ∙ ap (node_of prefix slots) (sym e) ∙ sym v.2) l) in
          subst (λ (n : Node). (node_below n (moved (node_of prefix slots id).named s.rdn s.entry b) ≡ true) ⊎ (node_below (moved (node_of prefix slots id).named s.rdn s.entry b) n ≡ true)) p
          (subst (λ (n : Node). (node_below (node_of prefix others v.0) n ≡ true) ⊎ (node_below n (node_of prefix others v.0) ≡ true)) q
          (apart_keys prefix others again row v.0 w.0 (used_but slots id s used v.0 ∙ v.1) (used_but slots id s used w.0 ∙ w.1) differ))

  new_is : new_key (node_of prefix slots id).named s.rdn ≡ key_in prefix slots order was (parent_at slots id) ++ key_of_rdn s.rdn ∷ []
  new_is =
      ap (λ (n : Name). key_of (name_above n ++ s.rdn ∷ [])) up_name ∙ ap (λ (n : Name). key_of (n ++ s.rdn ∷ [])) (name_above_push (name_at prefix slots (parent_at slots id)) (rdn_at slots id))
      ∙ map_push key_of_rdn (name_at prefix slots (parent_at slots id)) s.rdn

  -- no other node has the new name
  free_name : is_taken (entries_of (nodes_of prefix slots order)) (node_of prefix slots id).named s.rdn ≡ false
  free_name = elim (true_or_false (is_there (entries_of (nodes_of prefix slots order)) (new_key (node_of prefix slots id).named s.rdn))) [
    | inl t ↦ by t
    | inr f ↦ ap (λ (b : Bool). not (same_key (new_key (node_of prefix slots id).named s.rdn) (key_in prefix slots order was id)) && b) f ∙ and_false (not (same_key (new_key (node_of prefix slots id).named s.rdn) (key_in prefix slots order was id)))
  ]
    where
      only : (m : NodeId) → is_used slots m ≡ true → key_in prefix slots order was m ≡ new_key (node_of prefix slots id).named s.rdn → m ≡ id
      only m u e =
          let f = e ∙ new_is in
          let long : length (key_in prefix slots order was m) ≡ above + 1 = ap length f ∙ length_push (key_in prefix slots order was (parent_at slots id)) (key_of_rdn s.rdn) ∙ ap (λ (n : ℕ). n + 1) (length-map (name_at prefix slots (parent_at slots id)) key_of_rdn) in
          let l = (was.above id placed).1 in
          let i = ordered prefix slots order was m (depth_at slots (parent_at slots id)) u (omega (arith, key_length prefix slots order was m, id_length, key_length prefix slots order was id)) in
          let w = same_from_push (key_in prefix slots order was (parent_at slots m)) (key_in prefix slots order was (parent_at slots id)) (key_of_rdn (rdn_at slots m)) (key_of_rdn s.rdn) (sym (child_key prefix slots order was m i) ∙ f) in
          let same : parent_at slots m ≡ parent_at slots id = unique prefix slots order was (parent_at slots m) (parent_at slots id) (was.above m i).0 (was.above id placed).0 w.0 in
          let r = w.1 in
          let spot : spot_at slots m ≡ ((parent_at slots id).0, key_of_rdn s.rdn) = (λ k. ((same k).0, r k)) in
          elim (in_removed m order from id i) [
            | inl p ↦ p ∙ move.is_at id
            | inr j ↦ absurd (missing (spots_of slots less) ((parent_at slots id).0, key_of_rdn s.rdn) to move.goes (subst (λ (x : Spot). In x (spots_of slots less)) spot (in_map (spot_at slots) m less j)))
          ]

      by : is_there (entries_of (nodes_of prefix slots order)) (new_key (node_of prefix slots id).named s.rdn) ≡ true → is_taken (entries_of (nodes_of prefix slots order)) (node_of prefix slots id).named s.rdn ≡ false
      by t =
          let w = of_any (λ (e : Named). same_key (key_at e) (new_key (node_of prefix slots id).named s.rdn)) (entries_of (nodes_of prefix slots order)) t in
          let n = of_map named_of w.0 (nodes_of prefix slots order) w.1 in
          let v = of_nodes prefix slots order was n.0 n.1 in
          let e : key_in prefix slots order was v.0 ≡ new_key (node_of prefix slots id).named s.rdn = sym (ap key_at n.2 ∙ ap node_key v.2) ∙ (key_decides (key_at w.0) (new_key (node_of prefix slots id).named s.rdn)).0 w.2 in
          let same : same_key (new_key (node_of prefix slots id).named s.rdn) (key_in prefix slots order was id) ≡ true =
          (key_decides (new_key (node_of prefix slots id).named s.rdn) (key_in prefix slots order was id)).1 (sym e ∙ ap (key_in prefix slots order was) (only v.0 v.1 e)) in
          ap (λ (b : Bool). not b && is_there (entries_of (nodes_of prefix slots order)) (new_key (node_of prefix slots id).named s.rdn)) same

  pub renamed : (spare : ℕ) → Renamed (record { nodes = nodes_of prefix slots order; spare = spare }) id s.rdn s.entry (record { nodes = nodes_of prefix others again; spare = spare })
  renamed spare = record {
    node = node_of prefix slots id;
    there = live_node prefix slots order was id used;
    free = free_name;
    nodes = renamed_nodes;
    entries = ap entries_of renamed_nodes ∙ entries_sorted (map (moved (node_of prefix slots id).named s.rdn s.entry) (nodes_of prefix slots order))
        ∙ ap sorted_entries (maps_meet (moved (node_of prefix slots id).named s.rdn s.entry) named_of named_of (moved_entry (node_of prefix slots id).named s.rdn s.entry) (nodes_of prefix slots order) (λ n i. refl));
    spare = refl;
  }

-- ---- another has the name

pub not_renamed : (prefix : Name) (slots : Slots) (order : List NodeId) (row : IsRow slots order) (id : NodeId) → In id order → (rdn : Rdn) → IsOther slots order id (key_of_rdn rdn) → NotRenamed (nodes_of prefix slots order) id rdn Exists
not_renamed prefix slots order row id placed rdn o = record {
  node = node_of prefix slots id;
  there = live_node prefix slots order row id (order_used prefix slots order row id placed);
  taken = and_true (not (same_key (new_key (node_of prefix slots id).named rdn) (key_in prefix slots order row id))) (is_there (entries_of (nodes_of prefix slots order)) (new_key (node_of prefix slots id).named rdn)) (ap not differs)
      (there_if_used prefix slots order row o.other (new_key (node_of prefix slots id).named rdn) (order_used prefix slots order row o.other o.there) has_it);
  is = refl;
}
  where
    has_it : key_in prefix slots order row o.other ≡ new_key (node_of prefix slots id).named rdn
    has_it =
        child_key prefix slots order row o.other o.there
        ∙ ap (λ (x : Spot). key_in prefix slots order row (record { 0 = x.0 }) ++ x.1 ∷ []) o.spot
        ∙ sym (ap (λ (n : Name). key_of (name_above n ++ rdn ∷ [])) (child_name prefix slots order row id placed) ∙ ap (λ (n : Name). key_of (n ++ rdn ∷ [])) (name_above_push (name_at prefix slots (parent_at slots id)) (rdn_at slots id))
        ∙ map_push key_of_rdn (name_at prefix slots (parent_at slots id)) rdn)

    differs : same_key (new_key (node_of prefix slots id).named rdn) (key_in prefix slots order row id) ≡ false
    differs = elim (true_or_false (same_key (new_key (node_of prefix slots id).named rdn) (key_in prefix slots order row id))) [
      | inl q ↦ absurd (o.differs (unique prefix slots order row o.other id (order_used prefix slots order row o.other o.there) (order_used prefix slots order row id placed) (has_it ∙ (key_decides (new_key (node_of prefix slots id).named rdn) (key_in prefix slots order row id)).0 q)))
      | inr q ↦ q
    ]

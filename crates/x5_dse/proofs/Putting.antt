-- What one more entry makes of the nodes: where it goes, which entries there are then, and that all is kept.
use Rattle.std.proofs.Common.{◌≡◌, ◌≢◌, ℕ, suc, ◌<◌, Bool, true, false, cond, ◌&&◌, ◌⊎◌, inl, inr, List, [], ◌∷◌, ◌++◌, length, take, drop, set, refl, sym, ap, subst, ◌∙◌, Option, Some, Err}
use Rattle.std.proofs.lemmas.List.{length-set}
use Rattle.std.specs.Option.{is_some}
use Rattle.x5_model.specs.Words.{ascending, insert_sorted}
use Rattle.x5_model.specs.Members.{In, Once, here, there}
use Rattle.x5_model.specs.Keys.{same_key}
use Rattle.x5_model.specs.Values.{Name, key_of_rdn}
use Rattle.x5_model.specs.Entries.{Named}
use Rattle.x5_model.proofs.Lists.{in_first, in_either, in_left, in_right, none_of}
use Rattle.x5_model.proofs.Ascending.{AllApart, first_below, rest_ascending, of_insert, new_in_insert, old_in_insert, insert_ascending, sorted_ascending, of_sorted, in_sorted, keys_apart}
use Rattle.x5_model_tree.specs.Tree.{key_at, named_below, sorted_entries, is_there}
use Rattle.x5_model_tree.proofs.Order.{named_chain, one_list_of_entries}
use Rattle.x5_dse.specs.declared.node.NodeId.{NodeId}
use Rattle.x5_dse.specs.Linked.{Node, entries_of, node_below}
use Rattle.x5_dse.specs.Changes.{entry_below}
use Rattle.x5_dse.specs.Slot.{Slot}
use Rattle.x5_dse.specs.Inside.{Slots, Spot, top, slot_at, is_used, held, parent_at, depth_at, name_at, node_of, nodes_of, spot_at, spots_of, spot_below, IsPlace, IsRow, IsKept}
use Rattle.x5_dse.proofs.Ids.{same_id, same_or_other, slot_same, slot_other}
use Rattle.x5_dse.proofs.Spots.{spot_chain, spot_never}
use Rattle.x5_dse.proofs.Members.{in_inserted, new_inserted, old_inserted, once_front, once_end}
use Rattle.x5_dse.proofs.InOrder.{put_ascending, map_insert, same_map}
use Rattle.x5_dse.proofs.Named.{node_chain, top_used, order_used, child_name, of_nodes, in_nodes, nodes_ascending, apart_keys}
use Rattle.x5_dse.proofs.Changing.{same_name, nodes_are}

-- ---- its entries

pub entries_insert : (x : Node) (xs : List Node) → entries_of (insert_sorted node_below x xs) ≡ insert_sorted named_below x.named (entries_of xs)
entries_insert x [] = refl
entries_insert x (y ∷ ys) = by (node_below y x) refl (entries_insert x ys)
  where
    by : (b : Bool) → node_below y x ≡ b → entries_of (insert_sorted node_below x ys) ≡ insert_sorted named_below x.named (entries_of ys) → entries_of (insert_sorted node_below x (y ∷ ys)) ≡ insert_sorted named_below x.named (entries_of (y ∷ ys))
    by true e rest =
        ap (λ (b : Bool). entries_of (cond b (y ∷ insert_sorted node_below x ys) (x ∷ y ∷ ys))) e ∙ ap (λ (zs : List Named). y.named ∷ zs) rest
        ∙ sym (ap (λ (b : Bool). cond b (y.named ∷ insert_sorted named_below x.named (entries_of ys)) (x.named ∷ y.named ∷ entries_of ys)) e)
    by false e rest =
        ap (λ (b : Bool). entries_of (cond b (y ∷ insert_sorted node_below x ys) (x ∷ y ∷ ys))) e
        ∙ sym (ap (λ (b : Bool). cond b (y.named ∷ insert_sorted named_below x.named (entries_of ys)) (x.named ∷ y.named ∷ entries_of ys)) e)

abbrev Apart : Named → Named → Type 0
Apart a b = (named_below a b ≡ true) ⊎ (named_below b a ≡ true)

flipped : (a b : Named) → Apart a b → Apart b a
flipped a b (inl p) = inr p
flipped a b (inr p) = inl p

apart_push : (e : Named) (es : List Named) → ascending named_below es ≡ true → ((z : Named) → In z es → Apart e z) → AllApart named_below (es ++ e ∷ [])
apart_push e [] h f = ((λ z i. elim i [ ]), tt)
apart_push e (x ∷ xs) h f = (
  (λ z i. elim (in_either z xs (e ∷ []) i) [
    | inl j ↦ inl (first_below named_below named_chain x z xs h j)
    | inr j ↦ (let p : z ≡ e = one z j in subst (λ (w : Named). Apart x w) (sym p) (flipped e x (f x here)))
  ]),
  apart_push e xs (rest_ascending named_below named_chain x xs h) (λ z i. f z (there i)),
)
  where
    one : (z : Named) → In z (e ∷ []) → z ≡ e
    one z i = elim (in_first z e [] i) [ inl p ↦ p | inr j ↦ elim j [ ] ]

-- an entry put in order is the sorted list with it
pub put_is_sorted : (e : Named) (es : List Named) → ascending named_below es ≡ true → ((z : Named) → In z es → Apart e z) → insert_sorted named_below e es ≡ sorted_entries (es ++ e ∷ [])
put_is_sorted e es h f =
    one_list_of_entries (insert_sorted named_below e es) (sorted_entries (es ++ e ∷ []))
    (insert_ascending named_below named_chain e es f h) (sorted_ascending named_below named_chain (es ++ e ∷ []) (apart_push e es h f)) forth back
  where
    forth : (z : Named) → In z (insert_sorted named_below e es) → In z (sorted_entries (es ++ e ∷ []))
    forth z i = in_sorted named_below z (es ++ e ∷ []) (elim (of_insert named_below z e es i) [
      | inl p ↦ in_right z es (e ∷ []) (subst (λ (w : Named). In z (w ∷ [])) p here)
      | inr j ↦ in_left z es (e ∷ []) j
    ])

    back : (z : Named) → In z (sorted_entries (es ++ e ∷ [])) → In z (insert_sorted named_below e es)
    back z i = elim (in_either z es (e ∷ []) (of_sorted named_below z (es ++ e ∷ []) i)) [
      | inl j ↦ old_in_insert named_below z e es j
      | inr j ↦ elim (in_first z e [] j) [
        | inl p ↦ subst (λ (w : Named). In w (insert_sorted named_below e es)) (sym p) (new_in_insert named_below e es)
        | inr k ↦ elim k [ ]
      ]
    ]

pub entries_ascending : (xs : List Node) → ascending node_below xs ≡ ascending named_below (entries_of xs)
entries_ascending [] = refl
entries_ascending (x ∷ []) = refl
entries_ascending (x ∷ y ∷ ys) = ap (λ (b : Bool). node_below x y && b) (entries_ascending (y ∷ ys))

pub apart_from : (es : List Named) (new : Named) → is_there es (key_at new) ≡ false → (z : Named) → In z es → Apart new z
apart_from es new h z i =
    flipped z new (keys_apart (key_at z) (key_at new) (none_of (λ e. same_key (key_at e) (key_at new)) z es h i))

-- ---- an entry is put into a slot that isn't used

module _ (prefix : Name) (slots : Slots) (order : List NodeId) (row : IsRow slots order) (id : NodeId) (s : Slot) (place : ℕ) (unused : is_used slots id ≡ false) (within : id.0 < length slots)
    (above_used : is_used slots s.parent ≡ true) (deep : s.depth ≡ suc (depth_at slots s.parent)) (at : IsPlace (spots_of slots order) (s.parent.0, key_of_rdn s.rdn) (Err place)) where
  abbrev others : Slots
  others = set slots id.0 (Some s)

  abbrev longer : List NodeId
  longer = take place order ++ id ∷ drop place order

  other : (m : NodeId) → is_used slots m ≡ true → m.0 ≢ id.0
  other m u e = let q : is_used slots m ≡ false = ap (is_used slots) (same_id m id e) ∙ unused in cc

  keeps : (m : NodeId) → is_used slots m ≡ true → slot_at others m ≡ slot_at slots m
  keeps m u = slot_other slots id m (Some s) (other m u)

  still : (m : NodeId) → is_used slots m ≡ true → is_used others m ≡ true
  still m u = ap is_some (keeps m u) ∙ u

  now : slot_at others id ≡ Some s
  now = slot_same slots id (Some s) within

  used_now : is_used others id ≡ true
  used_now = ap is_some now

  abbrev Steps : Option Slot → Type 0
  Steps o = (is_used others (held o).parent ≡ true) × ((held o).depth ≡ suc (depth_at others (held o).parent))

  spot_kept : (m : NodeId) → In m order → spot_at others m ≡ spot_at slots m
  spot_kept m i = ap (λ (o : Option Slot). ((held o).parent.0, key_of_rdn (held o).rdn)) (keeps m (order_used prefix slots order row m i))

  pub put_row : IsRow others longer
  put_row = record {
    used = λ m. (forth m, back m);
    first = ap (λ (o : Option Slot). (held o).depth) (keeps top (top_used prefix slots order row)) ∙ row.first;
    above = λ m i. elim (in_inserted id m order place i) [
      | inl p ↦ subst (λ (k : NodeId). Steps (slot_at others k)) (sym p) (subst Steps (sym now) (still s.parent above_used, deep ∙ ap (λ (o : Option Slot). suc (held o).depth) (sym (keeps s.parent above_used))))
      | inr j ↦ subst Steps (sym (keeps m (order_used prefix slots order row m j)))
          (still (parent_at slots m) (row.above m j).0, (row.above m j).1 ∙ ap (λ (o : Option Slot). suc (held o).depth) (sym (keeps (parent_at slots m) (row.above m j).0)))
    ];
    in_order = subst (λ (xs : List Spot). ascending spot_below xs ≡ true) (sym spots_put) (put_ascending spot_below spot_chain spot_never (s.parent.0, key_of_rdn s.rdn) (spots_of slots order) place at.0 at.1 at.2 row.in_order);
  }
    where
      forth : (m : NodeId) → In m (top ∷ longer) → is_used others m ≡ true
      forth m i = elim (in_first m top longer i) [
        | inl p ↦ subst (λ (k : NodeId). is_used others k ≡ true) (sym p) (still top (top_used prefix slots order row))
        | inr j ↦ elim (in_inserted id m order place j) [
          | inl p ↦ subst (λ (k : NodeId). is_used others k ≡ true) (sym p) used_now
          | inr k ↦ still m (order_used prefix slots order row m k)
        ]
      ]

      back : (m : NodeId) → is_used others m ≡ true → In m (top ∷ longer)
      back m e = elim (same_or_other m id) [
        | inl p ↦ there (subst (λ (k : NodeId). In k longer) (sym p) (new_inserted id order place))
        | inr h ↦ elim (in_first m top order ((row.used m).1 (sym (ap is_some (slot_other slots id m (Some s) h)) ∙ e))) [
          | inl p ↦ subst (λ (k : NodeId). In k (top ∷ longer)) (sym p) here
          | inr j ↦ there (old_inserted id m order place j)
        ]
      ]

      spots_put : spots_of others longer ≡ take place (spots_of slots order) ++ (s.parent.0, key_of_rdn s.rdn) ∷ drop place (spots_of slots order)
      spots_put =
          map_insert (spot_at others) id order place
          ∙ ap (λ (xs : List Spot). take place xs ++ spot_at others id ∷ drop place xs) (same_map (spot_at others) (spot_at slots) order spot_kept)
          ∙ ap (λ (o : Option Slot). take place (spots_of slots order) ++ ((held o).parent.0, key_of_rdn (held o).rdn) ∷ drop place (spots_of slots order)) now

  pub name_kept : (m : NodeId) → is_used slots m ≡ true → name_at prefix others m ≡ name_at prefix slots m
  name_kept m u = same_name prefix slots others order row (λ (k : NodeId). Unit {0})
      (λ k v t. ap (λ (o : Option Slot). (held o).parent) (keeps k v)) (λ k v t. ap (λ (o : Option Slot). (held o).depth) (keeps k v)) (λ k v t. ap (λ (o : Option Slot). (held o).rdn) (keeps k v)) (λ k i t. tt) m u tt

  node_kept : (m : NodeId) → is_used slots m ≡ true → node_of prefix others m ≡ node_of prefix slots m
  node_kept m u = let n = name_kept m u in let e = ap (λ (o : Option Slot). (held o).entry) (keeps m u) in λ i. record { id = m; named = record { name = n i; entry = e i } }

  pub new_node : node_of prefix others id ≡ record { id = id; named = entry_below (node_of prefix slots s.parent) s.rdn s.entry }
  new_node =
      let n = child_name prefix others longer put_row id (new_inserted id order place)
      ∙ ap (λ (o : Option Slot). name_at prefix others (held o).parent ++ (held o).rdn ∷ []) now ∙ ap (λ (k : Name). k ++ s.rdn ∷ []) (name_kept s.parent above_used) in
      let e = ap (λ (o : Option Slot). (held o).entry) now in
      λ i. record { id = id; named = record { name = n i; entry = e i } }

  pub put_nodes : nodes_of prefix others longer ≡ insert_sorted node_below (node_of prefix others id) (nodes_of prefix slots order)
  put_nodes =
      nodes_are prefix others longer put_row (insert_sorted node_below (node_of prefix others id) (nodes_of prefix slots order))
      (insert_ascending node_below node_chain (node_of prefix others id) (nodes_of prefix slots order) apart (nodes_ascending prefix slots order row)) forth back
    where
      apart : (z : Node) → In z (nodes_of prefix slots order) → (node_below (node_of prefix others id) z ≡ true) ⊎ (node_below z (node_of prefix others id) ≡ true)
      apart z i =
          let w = of_nodes prefix slots order row z i in
          subst (λ (n : Node). (node_below (node_of prefix others id) n ≡ true) ⊎ (node_below n (node_of prefix others id) ≡ true)) (node_kept w.0 w.1 ∙ sym w.2)
          (apart_keys prefix others longer put_row id w.0 used_now (still w.0 w.1) (λ e. other w.0 w.1 (ap (λ (k : NodeId). k.0) (sym e))))

      forth : (m : NodeId) → is_used others m ≡ true → In (node_of prefix others m) (insert_sorted node_below (node_of prefix others id) (nodes_of prefix slots order))
      forth m u = elim (same_or_other m id) [
        | inl p ↦ subst (λ (k : NodeId). In (node_of prefix others k) (insert_sorted node_below (node_of prefix others id) (nodes_of prefix slots order))) (sym p) (new_in_insert node_below (node_of prefix others id) (nodes_of prefix slots order))
        | inr h ↦ (let v : is_used slots m ≡ true = sym (ap is_some (slot_other slots id m (Some s) h)) ∙ u in
            subst (λ (n : Node). In n (insert_sorted node_below (node_of prefix others id) (nodes_of prefix slots order))) (sym (node_kept m v))
            (old_in_insert node_below (node_of prefix slots m) (node_of prefix others id) (nodes_of prefix slots order) (in_nodes prefix slots order row m v)))
      ]

      back : (n : Node) → In n (insert_sorted node_below (node_of prefix others id) (nodes_of prefix slots order)) → (m : NodeId) × (is_used others m ≡ true) × (n ≡ node_of prefix others m)
      back n i = elim (of_insert node_below n (node_of prefix others id) (nodes_of prefix slots order) i) [
        | inl p ↦ (id, used_now, p)
        | inr j ↦ (let w = of_nodes prefix slots order row n j in (w.0, still w.0 w.1, w.2 ∙ sym (node_kept w.0 w.1)))
      ]

  pub put_kept : (free rest : List NodeId) → IsKept slots order free → free ≡ rest ++ id ∷ [] → IsKept others longer rest
  put_kept free rest kept popped = record {
    row = put_row;
    others = λ m. (out m, of m);
    once = once_front id rest (subst (λ (ns : List NodeId). Once ns) popped kept.once);
  }
    where
      long : length others ≡ length slots
      long = length-set slots id.0 (Some s)

      out : (m : NodeId) → In m rest → (m.0 < length others) × (is_used others m ≡ false)
      out m i =
          let w = (kept.others m).0 (subst (λ (ns : List NodeId). In m ns) (sym popped) (in_left m rest (id ∷ []) i)) in
          let h : m.0 ≢ id.0 = λ e. once_end id rest (subst (λ (ns : List NodeId). Once ns) popped kept.once) (subst (λ (k : NodeId). In k rest) (same_id m id e) i) in
          (subst (λ (n : ℕ). m.0 < n) (sym long) w.0, ap is_some (slot_other slots id m (Some s) h) ∙ w.1)

      of : (m : NodeId) → (m.0 < length others) × (is_used others m ≡ false) → In m rest
      of m w = elim (same_or_other m id) [
        | inl p ↦ absurd (let e : is_used others m ≡ true = subst (λ (k : NodeId). is_used others k ≡ true) (sym p) used_now in let u = w.1 in cc)
        | inr h ↦ elim (in_either m rest (id ∷ []) (subst (λ (ns : List NodeId). In m ns) popped ((kept.others m).1 (subst (λ (n : ℕ). m.0 < n) long w.0, sym (ap is_some (slot_other slots id m (Some s) h)) ∙ w.1)))) [
          | inl j ↦ j
          | inr j ↦ elim (in_first m id [] j) [ inl p ↦ absurd (h (ap (λ (k : NodeId). k.0) p)) | inr k ↦ elim k [ ] ]
        ]
      ]

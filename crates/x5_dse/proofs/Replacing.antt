-- A node's entry is replaced: all names stay, and so do all other entries.
use Rattle.std.proofs.Common.{◌≡◌, ℕ, ◌<◌, Bool, true, false, cond, ◌&&◌, if◌then◌else◌, inl, inr, List, [], ◌∷◌, map, set, refl, sym, ap, subst, ◌∙◌, Option, Some, None}
use Rattle.std.proofs.lemmas.List.{length-set}
use Rattle.std.specs.Option.{is_some}
use Rattle.x5_model.specs.Words.{ascending}
use Rattle.x5_model.specs.Members.{In, here, there}
use Rattle.x5_model.specs.Keys.{same_key, key_below}
use Rattle.x5_model.specs.Values.{Name}
use Rattle.x5_model.specs.Entries.{Entry, Named}
use Rattle.x5_model.proofs.KeyLaws.{key_decides}
use Rattle.x5_model.proofs.Lists.{true_or_false, in_map, of_map}
use Rattle.x5_model_tree.specs.Tree.{key_at}
use Rattle.x5_dse.specs.declared.node.NodeId.{NodeId}
use Rattle.x5_dse.specs.Linked.{Node, named_of, entries_of, node_key, node_below, has_id}
use Rattle.x5_dse.specs.Changes.{with_entry, Replaced}
use Rattle.x5_dse.specs.Slot.{Slot}
use Rattle.x5_dse.specs.Inside.{Slots, slot_at, is_used, held, entry_of, name_at, node_of, nodes_of, IsRow, IsKept}
use Rattle.x5_dse.proofs.Ids.{id_decides, same_or_other, used_within, slot_same, slot_other}
use Rattle.x5_dse.proofs.Named.{of_nodes, in_nodes, nodes_ascending, unique, live_node}
use Rattle.x5_dse.proofs.Changing.{row_alike, name_alike, nodes_are}

pub used_some : {A : Type 0} (o : Option A) → is_some o ≡ true → (x : A) × (o ≡ Some x)
used_some None e = cc
used_some (Some x) e = (x, refl)

pub maps_meet : {A B C D : Type 0} (f : A → B) (g : B → C) (h : A → D) (k : D → C) (xs : List A) → ((x : A) → In x xs → g (f x) ≡ k (h x)) → map g (map f xs) ≡ map k (map h xs)
maps_meet f g h k [] e = refl
maps_meet f g h k (x ∷ xs) e = let p = e x here in let q = maps_meet f g h k xs (λ y i. e y (there i)) in λ i. p i ∷ q i

pub ascending_keys : (f : Node → Node) (xs : List Node) → ((n : Node) → node_key (f n) ≡ node_key n) → ascending node_below (map f xs) ≡ ascending node_below xs
ascending_keys f [] e = refl
ascending_keys f (x ∷ []) e = refl
ascending_keys f (x ∷ y ∷ ys) e = let p = e x in let q = e y in let r = ascending_keys f (y ∷ ys) e in λ i. key_below (p i) (q i) && r i

key_kept : (id : NodeId) (entry : Entry) (n : Node) → node_key (with_entry id entry n) ≡ node_key n
key_kept id entry n = by (has_id id n)
  where
    by : (b : Bool) → node_key (cond b (record n { named = record { name = n.named.name; entry = entry } }) n) ≡ node_key n
    by true = refl
    by false = refl

-- a slot that gets what it had but for some of it
pub same_but : {T : Type 0} (slots : Slots) (id : NodeId) (s : Slot) → is_used slots id ≡ true → (f : Slot → T) → f s ≡ f (held (slot_at slots id)) → (m : NodeId) → f (held (slot_at (set slots id.0 (Some s)) m)) ≡ f (held (slot_at slots m))
same_but slots id s u f e m = elim (same_or_other m id) [
  | inl p ↦ ap (λ (k : NodeId). f (held (slot_at (set slots id.0 (Some s)) k))) p ∙ ap (λ (o : Option Slot). f (held o)) (slot_same slots id (Some s) (used_within slots id u)) ∙ e ∙ ap (λ (k : NodeId). f (held (slot_at slots k))) (sym p)
  | inr h ↦ ap (λ (o : Option Slot). f (held o)) (slot_other slots id m (Some s) h)
]

pub used_but : (slots : Slots) (id : NodeId) (s : Slot) → is_used slots id ≡ true → (m : NodeId) → is_used (set slots id.0 (Some s)) m ≡ is_used slots m
used_but slots id s u m = elim (same_or_other m id) [
  | inl p ↦ ap (is_used (set slots id.0 (Some s))) p ∙ ap is_some (slot_same slots id (Some s) (used_within slots id u)) ∙ sym u ∙ ap (is_used slots) (sym p)
  | inr h ↦ ap is_some (slot_other slots id m (Some s) h)
]

-- what is used and free stays
pub kept_but : (slots : Slots) (order others_order free : List NodeId) (id : NodeId) (s : Slot) → is_used slots id ≡ true → IsKept slots order free → IsRow (set slots id.0 (Some s)) others_order → IsKept (set slots id.0 (Some s)) others_order free
kept_but slots order others_order free id s u kept row = record {
  row = row;
  others = λ m. (
    λ i. let w = (kept.others m).0 i in (subst (λ (n : ℕ). m.0 < n) (sym (length-set slots id.0 (Some s))) w.0, used_but slots id s u m ∙ w.1),
    λ w. (kept.others m).1 (subst (λ (n : ℕ). m.0 < n) (length-set slots id.0 (Some s)) w.0, sym (used_but slots id s u m) ∙ w.1),
  );
  once = kept.once;
}

module _ (prefix : Name) (slots : Slots) (order free : List NodeId) (kept : IsKept slots order free) (id : NodeId) (used : is_used slots id ≡ true) (s : Slot)
    (same_parent : s.parent ≡ (held (slot_at slots id)).parent) (same_depth : s.depth ≡ (held (slot_at slots id)).depth) (same_rdn : s.rdn ≡ (held (slot_at slots id)).rdn) where
  abbrev others : Slots
  others = set slots id.0 (Some s)

  row : IsRow others order
  row = row_alike slots others (used_but slots id s used) (same_but slots id s used (λ (t : Slot). t.parent) same_parent) (same_but slots id s used (λ (t : Slot). t.depth) same_depth) (same_but slots id s used (λ (t : Slot). t.rdn) same_rdn) order kept.row

  pub replaced_kept : IsKept others order free
  replaced_kept = kept_but slots order order free id s used kept row

  node_is : (m : NodeId) → is_used slots m ≡ true → node_of prefix others m ≡ with_entry id s.entry (node_of prefix slots m)
  node_is m u = elim (same_or_other m id) [
    | inl p ↦ (let n = name m u in let e : entry_of others m ≡ s.entry = ap (entry_of others) p ∙ ap (λ (o : Option Slot). (held o).entry) (slot_same slots id (Some s) (used_within slots id used)) in
        let t : has_id id (node_of prefix slots m) ≡ true = (id_decides m id).1 p in
        (λ i. record { id = m; named = record { name = n i; entry = e i } })
        ∙ sym (ap (λ (b : Bool). cond b (record { id = m; named = record { name = name_at prefix slots m; entry = s.entry } }) (node_of prefix slots m)) t))
    | inr h ↦ (let n = name m u in let e = ap (λ (o : Option Slot). (held o).entry) (slot_other slots id m (Some s) h) in
        let t : has_id id (node_of prefix slots m) ≡ false = elim (true_or_false (has_id id (node_of prefix slots m))) [ inl q ↦ absurd (h (ap (λ (k : NodeId). k.0) ((id_decides m id).0 q))) | inr q ↦ q ] in
        (λ i. record { id = m; named = record { name = n i; entry = e i } })
        ∙ sym (ap (λ (b : Bool). cond b (record { id = m; named = record { name = name_at prefix slots m; entry = s.entry } }) (node_of prefix slots m)) t))
  ]
    where
      name : (m : NodeId) → is_used slots m ≡ true → name_at prefix others m ≡ name_at prefix slots m
      name m u = name_alike slots others (used_but slots id s used) (same_but slots id s used (λ (t : Slot). t.parent) same_parent) (same_but slots id s used (λ (t : Slot). t.depth) same_depth) (same_but slots id s used (λ (t : Slot). t.rdn) same_rdn) order kept.row prefix m u

  replaced_nodes : nodes_of prefix others order ≡ map (with_entry id s.entry) (nodes_of prefix slots order)
  replaced_nodes =
      nodes_are prefix others order row (map (with_entry id s.entry) (nodes_of prefix slots order))
      (ascending_keys (with_entry id s.entry) (nodes_of prefix slots order) (key_kept id s.entry) ∙ nodes_ascending prefix slots order kept.row)
      (λ m u. let v = sym (used_but slots id s used m) ∙ u in subst (λ (n : Node). In n (map (with_entry id s.entry) (nodes_of prefix slots order))) (sym (node_is m v)) (in_map (with_entry id s.entry) (node_of prefix slots m) (nodes_of prefix slots order) (in_nodes prefix slots order kept.row m v)))
      (λ n i. let w = of_map (with_entry id s.entry) n (nodes_of prefix slots order) i in let v = of_nodes prefix slots order kept.row w.0 w.1 in
      (v.0, used_but slots id s used v.0 ∙ v.1, w.2 ∙ ap (with_entry id s.entry) v.2 ∙ sym (node_is v.0 v.1)))

  entry_is : (m : NodeId) → is_used slots m ≡ true → (with_entry id s.entry (node_of prefix slots m)).named ≡ (if same_key (node_key (node_of prefix slots m)) (node_key (node_of prefix slots id)) then record { name = name_at prefix slots id; entry = s.entry } else (node_of prefix slots m).named)
  entry_is m u = elim (same_or_other m id) [
    | inl p ↦ (let t : has_id id (node_of prefix slots m) ≡ true = (id_decides m id).1 p in
        let k : same_key (node_key (node_of prefix slots m)) (node_key (node_of prefix slots id)) ≡ true = (key_decides (node_key (node_of prefix slots m)) (node_key (node_of prefix slots id))).1 (ap (λ (j : NodeId). node_key (node_of prefix slots j)) p) in
        ap (λ (b : Bool). (cond b (record { id = m; named = record { name = name_at prefix slots m; entry = s.entry } }) (node_of prefix slots m)).named) t
        ∙ ap (λ (j : NodeId). record { name = name_at prefix slots j; entry = s.entry }) p
        ∙ sym (ap (λ (b : Bool). cond b (record { name = name_at prefix slots id; entry = s.entry }) (node_of prefix slots m).named) k))
    | inr h ↦ (let t : has_id id (node_of prefix slots m) ≡ false = elim (true_or_false (has_id id (node_of prefix slots m))) [ inl q ↦ absurd (h (ap (λ (k : NodeId). k.0) ((id_decides m id).0 q))) | inr q ↦ q ] in
        let k : same_key (node_key (node_of prefix slots m)) (node_key (node_of prefix slots id)) ≡ false = elim (true_or_false (same_key (node_key (node_of prefix slots m)) (node_key (node_of prefix slots id)))) [
          | inl q ↦ absurd (h (ap (λ (j : NodeId). j.0) (unique prefix slots order kept.row m id u used ((key_decides (node_key (node_of prefix slots m)) (node_key (node_of prefix slots id))).0 q))))
          | inr q ↦ q
        ] in
        ap (λ (b : Bool). (cond b (record { id = m; named = record { name = name_at prefix slots m; entry = s.entry } }) (node_of prefix slots m)).named) t
        ∙ sym (ap (λ (b : Bool). cond b (record { name = name_at prefix slots id; entry = s.entry }) (node_of prefix slots m).named) k))
  ]

  pub replaced : (before : Entry) → entry_of slots id ≡ before → (spare : ℕ) → Replaced (record { nodes = nodes_of prefix slots order; spare = spare }) id s.entry before (record { nodes = nodes_of prefix others order; spare = spare })
  replaced before e spare = record {
    node = node_of prefix slots id;
    there = live_node prefix slots order kept.row id used;
    before_is = e;
    nodes = replaced_nodes;
    entries = ap entries_of replaced_nodes
        ∙ maps_meet (with_entry id s.entry) named_of named_of (λ (e : Named). if same_key (key_at e) (node_key (node_of prefix slots id)) then record { name = name_at prefix slots id; entry = s.entry } else e) (nodes_of prefix slots order)
        (λ n i. let v = of_nodes prefix slots order kept.row n i in subst (λ (k : Node). (with_entry id s.entry k).named ≡ (if same_key (node_key k) (node_key (node_of prefix slots id)) then record { name = name_at prefix slots id; entry = s.entry } else k.named)) (sym v.2) (entry_is v.0 v.1));
    spare = refl;
  }

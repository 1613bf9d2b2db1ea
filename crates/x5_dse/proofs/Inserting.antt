-- An entry put at the site of its name is inserted, and all is kept.
use Rattle.std.proofs.Common.{◌≡◌, ℕ, suc, ◌+◌, ◌-◌, ◌<◌, ◌≤◌, true, false, inl, inr, List, [], ◌∷◌, ◌++◌, length, take, drop, set, get_or, sym, ap, subst, ◌∙◌, arith, Some, Err}
use Rattle.std.proofs.lemmas.List.{length-map, length-take, map_push, same_from_push, take_all, take_more, get_or-map}
use Rattle.x5_model.specs.Members.{In, here}
use Rattle.x5_model.specs.Keys.{Key, KeyRdn, parent}
use Rattle.x5_model.specs.Values.{Name, key_of_rdn, key_of, last_rdn}
use Rattle.x5_model.specs.Entries.{Entry}
use Rattle.x5_model.specs.Words.{insert_sorted}
use Rattle.x5_model.proofs.Lists.{true_or_false, in_first, in_right}
use Rattle.x5_model_tree.specs.Tree.{is_there}
use Rattle.x5_dse.specs.declared.node.NodeId.{NodeId}
use Rattle.x5_dse.specs.Linked.{Node, entries_of, node_below, is_live}
use Rattle.x5_dse.specs.Changes.{Inserted, entry_below}
use Rattle.x5_dse.specs.Slot.{Slot}
use Rattle.x5_dse.specs.Inside.{Slots, top, is_used, parent_at, depth_at, rdn_at, name_at, node_of, nodes_of, spots_of, IsPlace, IsRow, IsKept, IsSite}
use Rattle.x5_dse.proofs.Spots.{child_missing}
use Rattle.x5_dse.proofs.Lasts.{last_is}
use Rattle.x5_dse.proofs.Named.{key_in, key_length, top_key, child_key, child_parent, unique, nodes_ascending, found, absent_if, live_used}
use Rattle.x5_dse.proofs.Putting.{entries_insert, put_is_sorted, entries_ascending, apart_from, put_kept, put_nodes, new_node}

pub whole_key : (k : Key) (n : ℕ) → n + 1 ≡ length k → take n k ++ get_or k n [] ∷ [] ≡ k
whole_key k n e = sym (take_more k n [] (omega arith)) ∙ take_all (n + 1) k (omega arith)

pub popped_within : (slots : Slots) (order free : List NodeId) → IsKept slots order free → (id : NodeId) (rest : List NodeId) → free ≡ rest ++ id ∷ [] → id.0 < length slots
popped_within slots order free kept id rest popped = ((kept.others id).0 (subst (λ (ns : List NodeId). In id ns) (sym popped) (in_right id rest (id ∷ []) here))).0

-- the name has the RDNs of the prefix, and one more than the node above it
pub site_length : (prefix : Name) (slots : Slots) (order : List NodeId) → IsRow slots order → (name : Name) (above : NodeId) (place : ℕ) → IsSite prefix slots order name above place → length prefix + depth_at slots above + 1 ≡ length name
site_length prefix slots order row name above place site =
    let l = key_length prefix slots order row above in
    let e = ap length site.is_above in
    let m = site.long in
    omega (arith, length-map name key_of_rdn, length-take (length (key_of name) - 1) (key_of name))

pub length_fits : (prefix : Name) (slots : Slots) (order : List NodeId) → IsRow slots order → (name : Name) (above : NodeId) (place : ℕ) → IsSite prefix slots order name above place → length prefix ≤ length name
length_fits prefix slots order row name above place site = let l = site_length prefix slots order row name above place site in omega arith

module _ (prefix : Name) (slots : Slots) (order free : List NodeId) (kept : IsKept slots order free) (name : Name) (entry : Entry) (above : NodeId) (place : ℕ) (site : IsSite prefix slots order name above place)
    (depth : ℕ) (deep : depth ≡ length name - length prefix) (id : NodeId) (rest : List NodeId) (popped : free ≡ rest ++ id ∷ []) where
  abbrev slot : Slot
  slot = record { parent = above; depth = depth; rdn = last_rdn name; entry = entry }

  above_length : length prefix + depth_at slots above + 1 ≡ length name
  above_length = site_length prefix slots order kept.row name above place site

  below : depth ≡ suc (depth_at slots above)
  below = let l = above_length in omega arith

  last_key : get_or (key_of name) (length name - 1) [] ≡ key_of_rdn (last_rdn name)
  last_key = let l = site.long in get_or-map key_of_rdn name (length name - 1) [] [] (omega arith) ∙ ap key_of_rdn (last_is name [] l)

  at : IsPlace (spots_of slots order) (above.0, key_of_rdn (last_rdn name)) (Err place)
  at = subst (λ (r : KeyRdn). IsPlace (spots_of slots order) (above.0, r) (Err place)) last_key site.place

  id_within : id.0 < length slots
  id_within = popped_within slots order free kept id rest popped

  unused : is_used slots id ≡ false
  unused = ((kept.others id).0 (subst (λ (ns : List NodeId). In id ns) (sym popped) (in_right id rest (id ∷ []) here))).1

  key_new : key_of (name_at prefix slots above ++ last_rdn name ∷ []) ≡ key_of name
  key_new =
      map_push key_of_rdn (name_at prefix slots above) (last_rdn name)
      ∙ ap (λ (k : Key). k ++ key_of_rdn (last_rdn name) ∷ []) site.is_above
      ∙ ap (λ (r : KeyRdn). parent (key_of name) ++ r ∷ []) (sym last_key)
      ∙ ap (λ (n : ℕ). parent (key_of name) ++ get_or (key_of name) n [] ∷ []) (let e : length name - 1 ≡ length (key_of name) - 1 = omega (arith, length-map name key_of_rdn) in e)
      ∙ whole_key (key_of name) (length (key_of name) - 1) (let l = site.long in omega (arith, length-map name key_of_rdn))

  absent : is_there (entries_of (nodes_of prefix slots order)) (key_of name) ≡ false
  absent = absent_if prefix slots order kept.row (key_of name) not_it
    where
      not_it : (m : NodeId) → is_used slots m ≡ true → key_in prefix slots order kept.row m ≡ key_of name → ⊥
      not_it m u e = elim (in_first m top order ((kept.row.used m).1 u)) [
        | inl p ↦ (let l = above_length in
            let f : length (key_of prefix) ≡ length (key_of name) = ap length (sym (top_key prefix slots order kept.row) ∙ ap (key_in prefix slots order kept.row) (sym p) ∙ e) in
            absurd (omega (arith, length-map name key_of_rdn, length-map prefix key_of_rdn)))
        | inr i ↦ (let up = sym (child_parent prefix slots order kept.row m i) ∙ ap parent e ∙ sym site.is_above in
            let same : parent_at slots m ≡ above = unique prefix slots order kept.row (parent_at slots m) above (kept.row.above m i).0 site.used up in
            let own : key_of_rdn (rdn_at slots m) ≡ key_of_rdn (last_rdn name) = own_key m i e up in
            child_missing slots order (above.0, key_of_rdn (last_rdn name)) place at m i (λ k. ((same k).0, own k)))
      ]
        where
          own_key : (m : NodeId) → In m order → key_in prefix slots order kept.row m ≡ key_of name → key_in prefix slots order kept.row (parent_at slots m) ≡ key_in prefix slots order kept.row above → key_of_rdn (rdn_at slots m) ≡ key_of_rdn (last_rdn name)
          own_key m i e up =
              let f : key_in prefix slots order kept.row above ++ key_of_rdn (rdn_at slots m) ∷ [] ≡ key_in prefix slots order kept.row above ++ key_of_rdn (last_rdn name) ∷ [] =
              ap (λ (k : Key). k ++ key_of_rdn (rdn_at slots m) ∷ []) (sym up) ∙ sym (child_key prefix slots order kept.row m i) ∙ e ∙ sym key_new ∙ map_push key_of_rdn (name_at prefix slots above) (last_rdn name) in
              (same_from_push (key_in prefix slots order kept.row above) (key_in prefix slots order kept.row above) (key_of_rdn (rdn_at slots m)) (key_of_rdn (last_rdn name)) f).1

  module _ (ms : List NodeId) (now : ms ≡ take place order ++ id ∷ drop place order) where
    pub kept_now : IsKept (set slots id.0 (Some slot)) ms rest
    kept_now = subst (λ (ns : List NodeId). IsKept (set slots id.0 (Some slot)) ns rest) (sym now) (put_kept prefix slots order kept.row id slot place unused id_within site.used below at free rest kept popped)

    nodes_now : nodes_of prefix (set slots id.0 (Some slot)) ms ≡ insert_sorted node_below (record { id = id; named = entry_below (node_of prefix slots above) (last_rdn name) entry }) (nodes_of prefix slots order)
    nodes_now =
        ap (nodes_of prefix (set slots id.0 (Some slot))) now ∙ put_nodes prefix slots order kept.row id slot place unused id_within site.used below at
        ∙ ap (λ (n : Node). insert_sorted node_below n (nodes_of prefix slots order)) (new_node prefix slots order kept.row id slot place unused id_within site.used below at)

    pub inserted : (s t : ℕ) → t + 1 ≡ s → Inserted (record { nodes = nodes_of prefix slots order; spare = s }) name entry id (record { nodes = nodes_of prefix (set slots id.0 (Some slot)) ms; spare = t })
    inserted s t less = record {
      above = node_of prefix slots above;
      below = found prefix slots order kept.row above (parent (key_of name)) site.used site.is_above;
      absent = absent;
      fresh = elim (true_or_false (is_live (nodes_of prefix slots order) id)) [
        | inl p ↦ absurd (let u = live_used prefix slots order kept.row id p in let v = unused in cc)
        | inr p ↦ p
      ];
      nodes = nodes_now;
      entries = ap entries_of nodes_now
          ∙ entries_insert (record { id = id; named = entry_below (node_of prefix slots above) (last_rdn name) entry }) (nodes_of prefix slots order)
          ∙ put_is_sorted (entry_below (node_of prefix slots above) (last_rdn name) entry) (entries_of (nodes_of prefix slots order))
          (sym (entries_ascending (nodes_of prefix slots order)) ∙ nodes_ascending prefix slots order kept.row)
          (apart_from (entries_of (nodes_of prefix slots order)) (entry_below (node_of prefix slots above) (last_rdn name) entry)
          (ap (is_there (entries_of (nodes_of prefix slots order))) key_new ∙ absent));
      spare = less;
    }

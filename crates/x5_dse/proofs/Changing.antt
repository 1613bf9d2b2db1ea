-- What a write to one slot makes of the nodes: their names stay, and so does that they are linked.
use Rattle.std.proofs.Common.{◌≡◌, ℕ, zero, suc, true, List, [], ◌∷◌, ◌++◌, refl, sym, ap, subst, ◌∙◌, arith, Option}
use Rattle.std.specs.Option.{is_some}
use Rattle.x5_model.specs.Words.{ascending}
use Rattle.x5_model.specs.Members.{In}
use Rattle.x5_model.specs.Values.{Name, Rdn, key_of_rdn}
use Rattle.x5_model.proofs.Ascending.{one_list}
use Rattle.x5_dse.specs.declared.node.NodeId.{NodeId}
use Rattle.x5_dse.specs.Linked.{Node, node_below}
use Rattle.x5_dse.specs.Slot.{Slot}
use Rattle.x5_dse.specs.Inside.{Slots, top, slot_at, is_used, parent_at, depth_at, rdn_at, held, entry_of, path, name_at, node_of, nodes_of, Spot, spots_of, spot_below, IsRow}
use Rattle.x5_dse.proofs.Named.{node_chain, node_never, all_nodes, ordered, of_nodes, in_nodes, nodes_ascending}

-- ---- names

-- a part of the used slots with all that stands above them keeps its names where its slots keep what names are made of
module _ (prefix : Name) (slots others : Slots) (order : List NodeId) (row : IsRow slots order) (stays : NodeId → Type 0)
    (same_parent : (m : NodeId) → is_used slots m ≡ true → stays m → parent_at others m ≡ parent_at slots m)
    (same_depth : (m : NodeId) → is_used slots m ≡ true → stays m → depth_at others m ≡ depth_at slots m)
    (same_rdn : (m : NodeId) → is_used slots m ≡ true → stays m → rdn_at others m ≡ rdn_at slots m)
    (up : (m : NodeId) → In m order → stays m → stays (parent_at slots m)) where
  same_path : (n : ℕ) (m : NodeId) → is_used slots m ≡ true → stays m → depth_at slots m ≡ n → path others n m ≡ path slots n m
  same_path zero m u s e = refl
  same_path (suc n) m u s e =
      let i = ordered prefix slots order row m n u e in
      let d : depth_at slots (parent_at slots m) ≡ n = (let w = (row.above m i).1 in omega arith) in
      ap (λ (k : NodeId). path others n k ++ rdn_at others m ∷ []) (same_parent m u s)
      ∙ ap (λ (p : Name). p ++ rdn_at others m ∷ []) (same_path n (parent_at slots m) (row.above m i).0 (up m i s) d)
      ∙ ap (λ (r : Rdn). path slots n (parent_at slots m) ++ r ∷ []) (same_rdn m u s)

  pub same_name : (m : NodeId) → is_used slots m ≡ true → stays m → name_at prefix others m ≡ name_at prefix slots m
  same_name m u s = ap (λ (n : ℕ). prefix ++ path others n m) (same_depth m u s) ∙ ap (λ (p : Name). prefix ++ p) (same_path (depth_at slots m) m u s refl)

  pub same_node : (m : NodeId) → is_used slots m ≡ true → stays m → entry_of others m ≡ entry_of slots m → node_of prefix others m ≡ node_of prefix slots m
  same_node m u s e = let n = same_name m u s in λ i. record { id = m; named = record { name = n i; entry = e i } }

-- ---- the list of nodes is the one list in order that has exactly them

module _ (prefix : Name) (slots : Slots) (order : List NodeId) (row : IsRow slots order) where
  pub nodes_are : (xs : List Node) → ascending node_below xs ≡ true → ((id : NodeId) → is_used slots id ≡ true → In (node_of prefix slots id) xs)
      → ((n : Node) → In n xs → (id : NodeId) × (is_used slots id ≡ true) × (n ≡ node_of prefix slots id)) → all_nodes prefix slots order row ≡ xs
  nodes_are xs h f g =
      one_list node_below node_chain node_never (all_nodes prefix slots order row) xs (nodes_ascending prefix slots order row) h
      (λ z i. let w = of_nodes prefix slots order row z i in subst (λ (n : Node). In n xs) (sym w.2) (f w.0 w.1))
      (λ z i. let w = g z i in subst (λ (n : Node). In n (all_nodes prefix slots order row)) (sym w.2) (in_nodes prefix slots order row w.0 w.1))

-- ---- slots that hold the same but for entries

module _ (slots others : Slots) (used_same : (m : NodeId) → is_used others m ≡ is_used slots m) (same_parent : (m : NodeId) → parent_at others m ≡ parent_at slots m)
    (same_depth : (m : NodeId) → depth_at others m ≡ depth_at slots m) (same_rdn : (m : NodeId) → rdn_at others m ≡ rdn_at slots m) (order : List NodeId) (row : IsRow slots order) where
  pub row_alike : IsRow others order
  row_alike = record {
    used = λ m. (λ i. used_same m ∙ (row.used m).0 i, λ u. (row.used m).1 (sym (used_same m) ∙ u));
    first = same_depth top ∙ row.first;
    above = λ m i. (
      ap (is_used others) (same_parent m) ∙ used_same (parent_at slots m) ∙ (row.above m i).0,
      same_depth m ∙ (row.above m i).1 ∙ ap (λ (n : ℕ). suc n) (sym (same_depth (parent_at slots m)) ∙ ap (depth_at others) (sym (same_parent m))),
    );
    in_order = subst (λ (xs : List Spot). ascending spot_below xs ≡ true) (sym (spots_alike order)) row.in_order;
  }
    where
      spots_alike : (ids : List NodeId) → spots_of others ids ≡ spots_of slots ids
      spots_alike [] = refl
      spots_alike (m ∷ ids) = let p = same_parent m in let d = same_rdn m in let r = spots_alike ids in λ i. ((p i).0, key_of_rdn (d i)) ∷ r i

  pub name_alike : (prefix : Name) (m : NodeId) → is_used slots m ≡ true → name_at prefix others m ≡ name_at prefix slots m
  name_alike prefix m u = same_name prefix slots others order row (λ (k : NodeId). Unit {0}) (λ k v s. same_parent k) (λ k v s. same_depth k) (λ k v s. same_rdn k) (λ k i s. tt) m u tt

-- ---- slots that hold the same

module _ (slots others : Slots) (same : (m : NodeId) → slot_at others m ≡ slot_at slots m) (order : List NodeId) (row : IsRow slots order) where
  used_same : (m : NodeId) → is_used others m ≡ is_used slots m
  used_same m = ap is_some (same m)

  pub row_same : IsRow others order
  row_same = row_alike slots others used_same (λ k. ap (λ (o : Option Slot). (held o).parent) (same k)) (λ k. ap (λ (o : Option Slot). (held o).depth) (same k)) (λ k. ap (λ (o : Option Slot). (held o).rdn) (same k)) order row

  pub nodes_same : (prefix : Name) → nodes_of prefix others order ≡ nodes_of prefix slots order
  nodes_same prefix =
      nodes_are prefix others order row_same (nodes_of prefix slots order) (nodes_ascending prefix slots order row)
      (λ m u. subst (λ (n : Node). In n (nodes_of prefix slots order)) (sym (node_same m (sym (used_same m) ∙ u))) (in_nodes prefix slots order row m (sym (used_same m) ∙ u)))
      (λ n i. let w = of_nodes prefix slots order row n i in (w.0, used_same w.0 ∙ w.1, w.2 ∙ sym (node_same w.0 w.1)))
    where
      node_same : (m : NodeId) → is_used slots m ≡ true → node_of prefix others m ≡ node_of prefix slots m
      node_same m u =
          let n = name_alike slots others used_same (λ k. ap (λ (o : Option Slot). (held o).parent) (same k)) (λ k. ap (λ (o : Option Slot). (held o).depth) (same k)) (λ k. ap (λ (o : Option Slot). (held o).rdn) (same k)) order row prefix m u in
          let e = ap (λ (o : Option Slot). (held o).entry) (same m) in
          λ i. record { id = m; named = record { name = n i; entry = e i } }

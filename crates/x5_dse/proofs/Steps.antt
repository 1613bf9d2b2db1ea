-- A walk from a node on is that node and the walk from the next one on.
use Rattle.std.proofs.Common.{◌≡◌, Bool, true, false, not, ◌&&◌, cond, ◌⊎◌, inl, inr, List, [], ◌∷◌, ◌++◌, length, map, drop, refl, sym, ap, subst, ◌∙◌, Option, Some, None}
use Rattle.std.proofs.lemmas.List.{append-nil}
use Rattle.std.specs.Ordering.{is_lt}
use Rattle.std.specs.List.{filter}
use Rattle.x5_model.specs.Words.{in_option}
use Rattle.x5_model.specs.Members.{In, here, there}
use Rattle.x5_model.specs.Keys.{Key, root, is_prefix, key_below}
use Rattle.x5_model.specs.Values.{Name}
use Rattle.x5_model.proofs.KeyLaws.{never_below, below_chain, neither_below}
use Rattle.x5_model.proofs.Lists.{both_true, and_true, not_true, true_or_false, in_first, in_filter, of_filter}
use Rattle.x5_model.proofs.Ascending.{cons_ascending, filter_ascending, one_list}
use Rattle.x5_dse.specs.declared.node.NodeId.{NodeId}
use Rattle.x5_dse.specs.Linked.{Node, id_of, node_key, node_below, key_with, walk_from, subtree_of, IsAt}
use Rattle.x5_dse.specs.Inside.{Slots, is_used, node_of, nodes_of, IsRow}
use Rattle.x5_dse.specs.Step.{IsNext, IsLast, IsStep}
use Rattle.x5_dse.proofs.Named.{node_chain, node_never, key_in, unique, of_nodes, in_nodes, nodes_ascending, live_node, used_live}
use Rattle.x5_dse.proofs.Between.{same_front}
use Rattle.x5_dse.proofs.Walking.{of_prefix, under_itself}

pub filter_same : {A : Type 0} (p q : A → Bool) (xs : List A) → ((x : A) → In x xs → p x ≡ q x) → filter p xs ≡ filter q xs
filter_same p q [] e = refl
filter_same {A} p q (x ∷ xs) e = let h = e x here in let r = filter_same p q xs (λ z i. e z (there i)) in λ i. cond (h i) (x ∷ r i) (r i)

module _ (prefix : Name) (slots : Slots) (order : List NodeId) (row : IsRow slots order) where
  abbrev key : NodeId → Key
  key id = key_in prefix slots order row id

  abbrev nodes : List Node
  nodes = nodes_of prefix slots order

  pub key_is : (id : NodeId) → is_used slots id ≡ true → key_with nodes id ≡ key id
  key_is id u = ap (λ (o : Option Node). in_option root node_key o) (live_node prefix slots order row id u)

  abbrev Test : Key → Key → Node → Bool
  Test f k n = is_prefix f (node_key n) && not (key_below (node_key n) k)

  walk_is : (from at : NodeId) → is_used slots from ≡ true → is_used slots at ≡ true → walk_from nodes from at ≡ map id_of (filter (Test (key from) (key at)) nodes)
  walk_is from at u v = λ i. map id_of (filter (Test (key_is from u i) (key_is at v i)) nodes)

  module _ (from node : NodeId) (from_used : is_used slots from ≡ true) (used : is_used slots node ≡ true) (under : is_prefix (key from) (key node) ≡ true) where
    not_before : (k : Key) → not (key_below k k) ≡ true
    not_before k = elim (true_or_false (key_below k k)) [ inl p ↦ absurd (never_below k p) | inr p ↦ ap not p ]

    node_in : In (node_of prefix slots node) (filter (Test (key from) (key node)) nodes)
    node_in = in_filter (Test (key from) (key node)) (node_of prefix slots node) nodes (in_nodes prefix slots order row node used) (and_true (is_prefix (key from) (key node)) (not (key_below (key node) (key node))) under (not_before (key node)))

    -- a node that isn't before it is it, or behind it
    or_behind : (m : NodeId) → is_used slots m ≡ true → not (key_below (key m) (key node)) ≡ true → (m ≡ node) ⊎ (key_below (key node) (key m) ≡ true)
    or_behind m v e = elim (true_or_false (key_below (key node) (key m))) [
      | inl p ↦ inr p
      | inr p ↦ inl (unique prefix slots order row m node v used (neither_below (key m) (key node) (not_true (key_below (key m) (key node)) e) p))
    ]

    pub walk_last : IsLast prefix slots from node → walk_from nodes from node ≡ node ∷ []
    walk_last last =
        walk_is from node from_used used
        ∙ ap (map id_of) (one_list node_below node_chain node_never (filter (Test (key from) (key node)) nodes) (node_of prefix slots node ∷ [])
        (filter_ascending node_below node_chain (Test (key from) (key node)) nodes (nodes_ascending prefix slots order row)) refl
        (λ z i. let w = of_filter (Test (key from) (key node)) z nodes i in let v = of_nodes prefix slots order row z w.0 in
        let t = both_true (is_prefix (key from) (key v.0)) (not (key_below (key v.0) (key node))) (subst (λ (n : Node). Test (key from) (key node) n ≡ true) v.2 w.1) in
        elim (or_behind v.0 v.1 t.1) [
          | inl p ↦ subst (λ (n : Node). In n (node_of prefix slots node ∷ [])) (sym (v.2 ∙ ap (node_of prefix slots) p)) here
          | inr p ↦ absurd (last v.0 v.1 t.0 p)
        ])
        (λ z i. elim (in_first z (node_of prefix slots node) [] i) [
          | inl p ↦ subst (λ (n : Node). In n (filter (Test (key from) (key node)) nodes)) (sym p) node_in
          | inr j ↦ elim j [ ]
        ]))

    pub walk_next : (next : NodeId) → IsNext prefix slots from node next → walk_from nodes from node ≡ node ∷ walk_from nodes from next
    walk_next next step =
        walk_is from node from_used used
        ∙ ap (map id_of) (one_list node_below node_chain node_never (filter (Test (key from) (key node)) nodes) (node_of prefix slots node ∷ filter (Test (key from) (key next)) nodes)
        (filter_ascending node_below node_chain (Test (key from) (key node)) nodes (nodes_ascending prefix slots order row))
        (cons_ascending node_below node_chain (node_of prefix slots node) (filter (Test (key from) (key next)) nodes) behind (filter_ascending node_below node_chain (Test (key from) (key next)) nodes (nodes_ascending prefix slots order row)))
        forth back)
        ∙ ap (λ (ids : List NodeId). node ∷ ids) (sym (walk_is from next from_used step.used))
      where
        far : (m : NodeId) → is_used slots m ≡ true → not (key_below (key m) (key next)) ≡ true → key_below (key node) (key m) ≡ true
        far m v e = elim (true_or_false (key_below (key next) (key m))) [
          | inl p ↦ below_chain (key node) (key next) (key m) step.above p
          | inr p ↦ subst (λ (k : Key). key_below (key node) k ≡ true) (sym (neither_below (key m) (key next) (not_true (key_below (key m) (key next)) e) p)) step.above
        ]

        behind : (z : Node) → In z (filter (Test (key from) (key next)) nodes) → node_below (node_of prefix slots node) z ≡ true
        behind z i =
            let w = of_filter (Test (key from) (key next)) z nodes i in
            let v = of_nodes prefix slots order row z w.0 in
            let t = both_true (is_prefix (key from) (key v.0)) (not (key_below (key v.0) (key next))) (subst (λ (n : Node). Test (key from) (key next) n ≡ true) v.2 w.1) in
            subst (λ (n : Node). node_below (node_of prefix slots node) n ≡ true) (sym v.2) (far v.0 v.1 t.1)

        forth : (z : Node) → In z (filter (Test (key from) (key node)) nodes) → In z (node_of prefix slots node ∷ filter (Test (key from) (key next)) nodes)
        forth z i =
            let w = of_filter (Test (key from) (key node)) z nodes i in
            let v = of_nodes prefix slots order row z w.0 in
            let t = both_true (is_prefix (key from) (key v.0)) (not (key_below (key v.0) (key node))) (subst (λ (n : Node). Test (key from) (key node) n ≡ true) v.2 w.1) in
            elim (or_behind v.0 v.1 t.1) [
              | inl p ↦ subst (λ (n : Node). In n (node_of prefix slots node ∷ filter (Test (key from) (key next)) nodes)) (sym (v.2 ∙ ap (node_of prefix slots) p)) here
              | inr p ↦ there (subst (λ (n : Node). In n (filter (Test (key from) (key next)) nodes)) (sym v.2)
                  (in_filter (Test (key from) (key next)) (node_of prefix slots v.0) nodes (in_nodes prefix slots order row v.0 v.1)
                  (and_true (is_prefix (key from) (key v.0)) (not (key_below (key v.0) (key next))) t.0 (elim (true_or_false (key_below (key v.0) (key next))) [ inl q ↦ absurd (step.nearest v.0 v.1 t.0 p q) | inr q ↦ ap not q ]))))
            ]

        back : (z : Node) → In z (node_of prefix slots node ∷ filter (Test (key from) (key next)) nodes) → In z (filter (Test (key from) (key node)) nodes)
        back z i = elim (in_first z (node_of prefix slots node) (filter (Test (key from) (key next)) nodes) i) [
          | inl p ↦ subst (λ (n : Node). In n (filter (Test (key from) (key node)) nodes)) (sym p) node_in
          | inr j ↦ (let w = of_filter (Test (key from) (key next)) z nodes j in
              let v = of_nodes prefix slots order row z w.0 in
              let t = both_true (is_prefix (key from) (key v.0)) (not (key_below (key v.0) (key next))) (subst (λ (n : Node). Test (key from) (key next) n ≡ true) v.2 w.1) in
              subst (λ (n : Node). In n (filter (Test (key from) (key node)) nodes)) (sym v.2)
              (in_filter (Test (key from) (key node)) (node_of prefix slots v.0) nodes (in_nodes prefix slots order row v.0 v.1)
              (and_true (is_prefix (key from) (key v.0)) (not (key_below (key v.0) (key node))) t.0
              (elim (true_or_false (key_below (key v.0) (key node))) [ inl q ↦ absurd (never_below (key node) (below_chain (key node) (key v.0) (key node) (far v.0 v.1 t.1) q)) | inr q ↦ ap not q ]))))
        ]

  -- a walk from its own top is all that is at or below it
  pub walk_whole : (node : NodeId) → is_used slots node ≡ true → walk_from nodes node node ≡ subtree_of nodes node
  walk_whole node u =
      walk_is node node u u
      ∙ ap (map id_of) (filter_same (Test (key node) (key node)) (λ (n : Node). is_prefix (key node) (node_key n)) nodes (λ n i. same (is_prefix (key node) (node_key n)) n refl))
      ∙ ap (λ (k : Key). map id_of (filter (λ (n : Node). is_prefix k (node_key n)) nodes)) (sym (key_is node u))
    where
      none_before : (p w : Key) → key_below (p ++ w) p ≡ true → ⊥
      none_before p w e = by w (ap is_lt (sym (same_front p w [])) ∙ subst (λ (k : Key). key_below (p ++ w) k ≡ true) (sym (append-nil p)) e)
        where
          by : (w : Key) → key_below w [] ≡ true → ⊥
          by [] h = cc
          by (x ∷ w) h = cc

      same : (b : Bool) (n : Node) → is_prefix (key node) (node_key n) ≡ b → Test (key node) (key node) n ≡ is_prefix (key node) (node_key n)
      same true n e =
          let f : key_below (node_key n) (key node) ≡ false = elim (true_or_false (key_below (node_key n) (key node))) [
            | inl q ↦ absurd (none_before (key node) (drop (length (key node)) (node_key n)) (subst (λ (k : Key). key_below k (key node) ≡ true) (of_prefix (key node) (node_key n) e) q))
            | inr q ↦ q
          ] in
          (λ i. e i && not (f i)) ∙ sym e
      same false n e = ap (λ (b : Bool). b && not (key_below (node_key n) (key node))) e ∙ sym e

  -- ---- in a tree's words

  pub within_under : (from node : NodeId) → is_used slots from ≡ true → is_used slots node ≡ true → is_prefix (key_with nodes from) (key_with nodes node) ≡ true → is_prefix (key from) (key node) ≡ true
  within_under from node u v e = sym (λ i. is_prefix (key_is from u i) (key_is node v i)) ∙ e

  pub walk_step : (from node : NodeId) → is_used slots from ≡ true → is_used slots node ≡ true → is_prefix (key from) (key node) ≡ true → (r : Option NodeId) → IsStep prefix slots from node r → walk_from nodes from node ≡ node ∷ in_option [] (walk_from nodes from) r
  walk_step from node u v e None step = walk_last from node u v e step
  walk_step from node u v e (Some next) step = walk_next from node u v e next step

  pub at_step : (from node : NodeId) → is_used slots from ≡ true → (r : Option NodeId) → IsStep prefix slots from node r → IsAt nodes from r
  at_step from node u None step = tt
  at_step from node u (Some next) step = record {
    from_live = used_live prefix slots order row from u;
    live = used_live prefix slots order row next step.used;
    under = (λ i. is_prefix (key_is from u i) (key_is next step.used i)) ∙ step.under;
  }

  pub at_start : (node : NodeId) → is_used slots node ≡ true → IsAt nodes node (Some node)
  at_start node u = record {
    from_live = used_live prefix slots order row node u;
    live = used_live prefix slots order row node u;
    under = (λ i. is_prefix (key_is node u i) (key_is node u i)) ∙ under_itself prefix slots node;
  }

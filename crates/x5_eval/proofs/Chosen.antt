-- What a search finds in one context: by links each node in the subset is tried; by the index each candidate, among which
-- is every node whose entry the filter selects.
use Rattle.std.proofs.Common.{◌≡◌, ℕ, Bool, true, false, ◌&&◌, ◌==◌, cond, inl, inr, List, [], ◌∷◌, map, Option}
use Rattle.std.proofs.Common.{Some, None, refl, sym, ap, subst, ◌∙◌, arith}
use Rattle.std.specs.List.{filter}
use Rattle.x5_model.specs.Words.{ascending, in_option}
use Rattle.x5_model.specs.Members.{In, Once, here, there}
use Rattle.x5_model.specs.Keys.{Key}
use Rattle.x5_model.specs.Values.{TypeRef, Known, Unknown}
use Rattle.x5_model.specs.Entries.{Entry}
use Rattle.x5_model.specs.Filters.{Filter, Assertion, Equality}
use Rattle.x5_model.specs.Truth.{is_true, is_equal, item_truth, truth_by, selects_entry}
use Rattle.x5_model.specs.Requests.{Subset}
use Rattle.x5_model.proofs.KeyLaws.{never_below}
use Rattle.x5_model.proofs.Lists.{true_or_false, both_true, in_map, of_map, in_filter, of_filter, of_find, any_in}
use Rattle.x5_model.proofs.Ascending.{first_below, rest_ascending, filter_ascending}
use Rattle.x5_model_tree.specs.Ask.{in_subset}
use Rattle.x5_dse.specs.declared.node.NodeId.{NodeId}
use Rattle.x5_dse.specs.Linked.{Node, IsLinked, AreNumbered, id_of, node_key, node_below, node_with, has_id, is_live}
use Rattle.x5_dse.proofs.Ids.{id_decides}
use Rattle.x5_index.specs.Index.{Posting, IsEntryAt, is_there}
use Rattle.x5_index.specs.Lookup.{AreCandidates}
use Rattle.x5_holdings.specs.State.{IsPosted, ArePosted}
use Rattle.x5_holdings.proofs.Posted.{not_live}
use Rattle.x5_eval.specs.Scopes.{asked_nodes, found_nodes, is_found, is_selected, is_found_at, as_id, AreFound}
use Rattle.x5_eval.proofs.Telling.{same_some}
use Rattle.x5_eval.proofs.Within.{node_chain}

-- ---- numbers of nodes

module _ (nodes : List Node) (numbered : AreNumbered nodes) where
  same_node : (m n : Node) → In m nodes → In n nodes → m.id ≡ n.id → m ≡ n
  same_node m n i j e = same_some m n (sym (numbered m i) ∙ ap (node_with nodes) e ∙ numbered n j)

  once_ids : (xs : List Node) → ascending node_below xs ≡ true → ((x : Node) → In x xs → In x nodes) → Once (map id_of xs)
  once_ids [] h f = tt
  once_ids (x ∷ xs) h f = (
    λ i. (
        let w = of_map id_of x.id xs i in
        let e : x ≡ w.0 = same_node x w.0 (f x here) (f w.0 (there w.1)) w.2 in
        never_below (node_key x) (subst (λ (y : Node). node_below x y ≡ true) (sym e)
        (first_below node_below node_chain x w.0 xs h w.1))),
    once_ids xs (rest_ascending node_below node_chain x xs h) (λ y j. f y (there j)),
  )

  -- ---- by links

  selected_nodes : (subset : Subset) (base : Key) (f : Filter) (xs : List Node) → ((x : Node) → In x xs → In x nodes)
      → filter (is_selected nodes f) (map id_of (asked_nodes xs subset base)) ≡ map id_of (found_nodes xs subset base f)
  selected_nodes subset base f [] g = refl
  selected_nodes subset base f (x ∷ xs) g =
      by (in_subset subset base (node_key x)) (selects_entry f x.named.entry)
      (ap (λ (o : Option Node). in_option false (λ n. selects_entry f n.named.entry) o) (numbered x (g x here)))
      (selected_nodes subset base f xs (λ y i. g y (there i)))
    where
      by : (b d : Bool) → is_selected nodes f x.id ≡ d
          → filter (is_selected nodes f) (map id_of (asked_nodes xs subset base)) ≡ map id_of (found_nodes xs subset base f)
          → filter (is_selected nodes f) (map id_of (cond b (x ∷ asked_nodes xs subset base) (asked_nodes xs subset base)))
          ≡ map id_of (cond (b && d) (x ∷ found_nodes xs subset base f) (found_nodes xs subset base f))
      by false d e h = h
      by true true e h = ap (λ (b : Bool). cond b (x.id ∷ filter (is_selected nodes f) (map id_of (asked_nodes xs subset base)))
          (filter (is_selected nodes f) (map id_of (asked_nodes xs subset base)))) e ∙ ap (λ (l : List NodeId). x.id ∷ l) h
      by true false e h = ap (λ (b : Bool). cond b (x.id ∷ filter (is_selected nodes f) (map id_of (asked_nodes xs subset base)))
          (filter (is_selected nodes f) (map id_of (asked_nodes xs subset base)))) e ∙ h

  module _ (linked : IsLinked nodes) (subset : Subset) (base : Key) (f : Filter) where
    once_found : Once (map id_of (found_nodes nodes subset base f))
    once_found = once_ids (found_nodes nodes subset base f)
        (filter_ascending node_below node_chain (is_found subset base f) nodes linked.in_order)
        (λ x i. (of_filter (is_found subset base f) x nodes i).0)

    pub by_links : (ids found : List NodeId) → ids ≡ map id_of (asked_nodes nodes subset base)
        → found ≡ filter (is_selected nodes f) ids → AreFound nodes subset base f found
    by_links ids found e g =
        let same : map id_of (found_nodes nodes subset base f) ≡ found =
        sym (g ∙ ap (filter (is_selected nodes f)) e ∙ selected_nodes subset base f nodes (λ x i. i)) in
        subst (λ (l : List NodeId). AreFound nodes subset base f l) same (record {
          exact = λ id. (λ i. i, λ i. i);
          once = once_found;
        })

    pub asked_live : (ids : List NodeId) → ids ≡ map id_of (asked_nodes nodes subset base) → (id : NodeId) → In id ids
        → is_live nodes id ≡ true
    asked_live ids e id i =
        let w = of_map id_of id (asked_nodes nodes subset base) (subst (λ (l : List NodeId). In id l) e i) in
        let v = of_filter (λ n. in_subset subset base (node_key n)) w.0 nodes w.1 in
        any_in (has_id id) w.0 nodes v.0 ((id_decides w.0.id id).1 (sym w.2))

  -- ---- by candidates

  module _ (subset : Subset) (base : Key) (f : Filter) (postings : List Posting) (posted : ArePosted postings nodes)
      (numbers : List ℕ) (candidates : AreCandidates postings f numbers) where
    abbrev no_entry : Entry
    no_entry = record { attributes = [] }

    nothing_true : (a : Assertion) → is_true (item_truth (Equality a) no_entry) ≡ true → ⊥
    nothing_true a e = by a.kind a.normal e
      where
        by : (k : TypeRef) (o : Option (List ℕ)) → is_true (truth_by is_equal k o no_entry) ≡ true → ⊥
        by (Known n) None e = cc
        by (Known n) (Some x) e = (let f : false ≡ true = e in cc)
        by (Unknown arcs) o e = cc

    pub candidates_live : (number : ℕ) → In number numbers → is_live nodes (as_id number) ≡ true
    candidates_live number i =
        elim (true_or_false (is_live nodes (as_id number))) [
          | inl t ↦ t
          | inr e ↦ absurd (
              let gone : is_there postings number ≡ false = subst (λ (o : Option Node). IsPosted postings (as_id number) o)
              (not_live nodes (as_id number) e) (posted (as_id number)) in
              let at : IsEntryAt postings number no_entry = record {
                exact = λ kind normal. (
                  (λ j. (
                      let t : is_there postings number ≡ true = any_in (λ p. p.node == number) (record {
                        term = (kind, normal);
                        node = number;
                      }) postings j (same_number number) in
                      cc)),
                  (λ h. cc),
                );
              } in
              nothing_true candidates.asserted ((candidates.exact number no_entry at).0 i))
        ]
      where
        same_number : (n : ℕ) → (n == n) ≡ true
        same_number n = grind arith

    entry_posted : (n : Node) → In n nodes → IsEntryAt postings n.id.0 n.named.entry
    entry_posted n i = subst (λ (o : Option Node). IsPosted postings n.id o) (numbered n i) (posted n.id)

    found_here : (n : Node) → In n nodes → is_found_at nodes subset base f n.id ≡ is_found subset base f n
    found_here n i = ap (λ (o : Option Node). in_option false (is_found subset base f) o) (numbered n i)

    node_of : (id : NodeId) → is_found_at nodes subset base f id ≡ true → (n : Node) × In n nodes × (n.id ≡ id)
    node_of id e = by (node_with nodes id) refl e
      where
        by : (o : Option Node) → node_with nodes id ≡ o → in_option false (is_found subset base f) o ≡ true
            → (n : Node) × In n nodes × (n.id ≡ id)
        by None p t = cc
        by (Some n) p t = (let w = of_find (has_id id) n nodes p in (n, w.0, (id_decides n.id id).0 w.1))

    once_numbers : (ns : List ℕ) → Once ns → Once (filter (is_found_at nodes subset base f) (map as_id ns))
    once_numbers [] o = tt
    once_numbers (n ∷ ns) o = by (is_found_at nodes subset base f (as_id n)) (once_numbers ns o.1)
      where
        by : (b : Bool) → Once (filter (is_found_at nodes subset base f) (map as_id ns))
            → Once (cond b (as_id n ∷ filter (is_found_at nodes subset base f) (map as_id ns)) (filter (is_found_at nodes
            subset base f) (map as_id ns)))
        by false h = h
        by true h = (
          λ i. (
              let w = of_map as_id (as_id n) ns (of_filter (is_found_at nodes subset base f) (as_id n) (map as_id ns) i).0 in
              o.0 (subst (λ (m : ℕ). In m ns) (ap (λ (k : NodeId). k.0) (sym w.2)) w.1)),
          h,
        )

    pub by_candidates : (found : List NodeId) → found ≡ filter (is_found_at nodes subset base f) (map as_id numbers)
        → AreFound nodes subset base f found
    by_candidates found e =
        subst (λ (l : List NodeId). AreFound nodes subset base f l) (sym e) (record {
          exact = λ id. (forth id, back id);
          once = once_numbers numbers candidates.once;
        })
      where
        forth : (id : NodeId) → In id (filter (is_found_at nodes subset base f) (map as_id numbers))
            → In id (map id_of (found_nodes nodes subset base f))
        forth id i =
            let v = of_filter (is_found_at nodes subset base f) id (map as_id numbers) i in
            let w = node_of id v.1 in
            subst (λ (k : NodeId). In k (map id_of (found_nodes nodes subset base f))) w.2
            (in_map id_of w.0 (found_nodes nodes subset base f) (in_filter (is_found subset base f) w.0 nodes w.1
            (sym (found_here w.0 w.1) ∙ ap (is_found_at nodes subset base f) w.2 ∙ v.1)))

        back : (id : NodeId) → In id (map id_of (found_nodes nodes subset base f))
            → In id (filter (is_found_at nodes subset base f) (map as_id numbers))
        back id i =
            let v = of_map id_of id (found_nodes nodes subset base f) i in
            let w = of_filter (is_found subset base f) v.0 nodes v.1 in
            let chosen : selects_entry f v.0.named.entry ≡ true = (both_true (in_subset subset base (node_key v.0))
            (selects_entry f v.0.named.entry) w.1).1 in
            let number : In v.0.id.0 numbers = candidates.complete v.0.id.0 v.0.named.entry (entry_posted v.0 w.0) chosen in
            subst (λ (k : NodeId). In k (filter (is_found_at nodes subset base f) (map as_id numbers))) (sym v.2)
            (in_filter (is_found_at nodes subset base f) v.0.id (map as_id numbers) (in_map as_id v.0.id.0 numbers number)
            (found_here v.0 w.0 ∙ w.1))

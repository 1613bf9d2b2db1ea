-- What is shown at the nodes that are asked for is what the definition shows of the context's entries: nodes stand as the entries
-- do, and what a search found in any order comes into order by sorting, since no two of its entries have one key.
use Rattle.std.proofs.Common.{◌≡◌, ◌<◌, Bool, true, ◌&&◌, inl, inr, ◌⊎◌, List, [], ◌∷◌, ◌-◌, length, map, refl, sym, ap, subst, ◌∙◌, arith, Option, Some, None}
use Rattle.std.proofs.lemmas.List.{length-map}
use Rattle.std.specs.List.{filter, slice_get}
use Rattle.std.specs.Option.{option_map}
use Rattle.std.proofs.lemmas.Option.{slice_get_within, get_or_from_slice_get}
use Rattle.x5_model.specs.Words.{ascending, sorted, in_option}
use Rattle.x5_model.specs.Members.{In, Once, here, there}
use Rattle.x5_model.specs.Keys.{Key, same_key, key_below}
use Rattle.x5_model.specs.Values.{Rdn, Name, key_of, key_of_rdn, last_rdn}
use Rattle.x5_model.specs.Entries.{Entry}
use Rattle.x5_model.specs.Selections.{shown}
use Rattle.x5_model.specs.Filters.{Filter}
use Rattle.x5_model.specs.Truth.{selects_entry}
use Rattle.x5_model.specs.Requests.{Subset, Selection}
use Rattle.x5_model.specs.Answers.{EntryInfo, Shown}
use Rattle.x5_model.proofs.KeyLaws.{key_decides, never_below, below_chain}
use Rattle.x5_model.proofs.Prefixes.{prefix_length}
use Rattle.x5_model.proofs.Lists.{both_true, and_true, true_or_false, in_first, in_map, of_map, of_filter, of_find, any_in}
use Rattle.x5_model.proofs.Ascending.{AllApart, first_below, rest_ascending, sorted_ascending, of_sorted, in_sorted, filter_ascending, one_list, keys_apart}
use Rattle.x5_model_tree.specs.Tree.{key_at}
use Rattle.x5_model_tree.specs.Ask.{in_subset, sub_of, info_of}
use Rattle.x5_model_serve.specs.Answering.{before_info}
use Rattle.x5_dse.specs.declared.node.NodeId.{NodeId}
use Rattle.x5_dse.specs.Linked.{Node, IsLinked, AreNumbered, entries_of, id_of, entry_in, name_in, named_of, node_key, node_below, has_id, prefix_of}
use Rattle.x5_dse.proofs.Ids.{id_decides}
use Rattle.x5_dse.proofs.Lasts.{last_is}
use Rattle.x5_eval.specs.Scopes.{asked_nodes, found_nodes, is_found, AreFound}
use Rattle.x5_eval.specs.Spots.{AreLive, AreNamed, sub_shown, info_shown}
use Rattle.x5_eval.proofs.Within.{node_chain, rooted}
use Rattle.x5_eval.proofs.Ordered.{filter_mapped}

-- ---- at one node
pub sub_at_node : (o : Option Node) (copy : Bool) (name : Name) (rdn : Rdn) → option_map name_in o ≡ Some name
    → Some rdn ≡ slice_get name (length name - 1)
    → record { rdn = rdn; copy = copy } ≡ in_option (record { rdn = []; copy = copy }) (λ n. sub_of (λ key. copy) n.named) o
sub_at_node None copy name rdn e f = cc
sub_at_node (Some n) copy name rdn e f =
    let within : length name - 1 < length name = slice_get_within name (length name - 1) rdn (sym f) in
    let same : n.named.name ≡ name = same_some n.named.name name e in
    λ i. record {
      rdn = (sym (get_or_from_slice_get name (length name - 1) rdn rdn (sym f)) ∙ last_is name rdn (omega (arith, within))
          ∙ ap last_rdn (sym same)) i;
      copy = copy;
    }
  where
    same_some : (x y : Name) → Some x ≡ Some y → x ≡ y
    same_some x y g = cc

pub info_at_node : (o : Option Node) (copy : Bool) (selection : Selection) (name : Name) (entry : Entry) (attributes : List Shown)
    → option_map name_in o ≡ Some name → option_map entry_in o ≡ Some entry → attributes ≡ shown selection entry
    → record { name = name; copy = copy; attributes = attributes }
    ≡ in_option (record { name = []; copy = copy; attributes = [] }) (λ n. info_of (λ key. copy) selection n.named) o
info_at_node None copy selection name entry attributes e f g = cc
info_at_node (Some n) copy selection name entry attributes e f g = λ i. record {
  name = sym (same_name n.named.name name e) i;
  copy = copy;
  attributes = (g ∙ ap (shown selection) (sym (same_entry n.named.entry entry f))) i;
}
  where
    same_name : (x y : Name) → Some x ≡ Some y → x ≡ y
    same_name x y h = cc

    same_entry : (x y : Entry) → Some x ≡ Some y → x ≡ y
    same_entry x y h = cc

-- nodes of the list are live, and below the root
pub live_nodes : (nodes xs : List Node) (ids : List NodeId) → ((n : Node) → In n xs → In n nodes)
    → ((id : NodeId) → In id ids → In id (map id_of xs)) → AreLive nodes ids
live_nodes nodes xs ids f g id i =
    let w = of_map id_of id xs (g id i) in
    any_in (has_id id) w.0 nodes (f w.0 w.1) ((id_decides w.0.id id).1 (sym w.2))

pub named_nodes : (nodes : List Node) → IsLinked nodes → (prefix : Name) → 0 < length prefix → prefix_of nodes ≡ key_of prefix → AreNamed nodes
named_nodes nodes linked prefix some e id n at =
    let i = (of_find (has_id id) n nodes at).0 in
    let l = prefix_length (prefix_of nodes) (node_key n) (rooted nodes linked n i) in
    let a : length (prefix_of nodes) ≡ length prefix = ap length e ∙ length-map prefix key_of_rdn in
    let b : length (node_key n) ≡ length n.named.name = length-map n.named.name key_of_rdn in
    omega (arith, l, a, b, some)

module _ (nodes : List Node) (numbered : AreNumbered nodes) where
  -- ---- at each node what its entry shows
  pub subs_shown_at : (copy : Bool) (xs : List Node) → ((n : Node) → In n xs → In n nodes)
      → map (sub_shown nodes copy) (map id_of xs) ≡ map (sub_of (λ key. copy)) (map named_of xs)
  subs_shown_at copy [] f = refl
  subs_shown_at copy (n ∷ ns) f = λ i.
      in_option (record { rdn = []; copy = copy }) (λ n. sub_of (λ key. copy) n.named) (numbered n (f n here) i)
      ∷ subs_shown_at copy ns (λ m j. f m (there j)) i

  pub infos_shown_at : (copy : Bool) (selection : Selection) (xs : List Node) → ((n : Node) → In n xs → In n nodes)
      → map (info_shown nodes copy selection) (map id_of xs) ≡ map (info_of (λ key. copy) selection) (map named_of xs)
  infos_shown_at copy selection [] f = refl
  infos_shown_at copy selection (n ∷ ns) f = λ i.
      in_option (record { name = []; copy = copy; attributes = [] }) (λ n. info_of (λ key. copy) selection n.named) (numbered n (f n here) i)
      ∷ infos_shown_at copy selection ns (λ m j. f m (there j)) i

  -- ---- a list
  pub list_shown : (subset : Subset) (base : Key) (copy : Bool)
      → map (sub_shown nodes copy) (map id_of (asked_nodes nodes subset base))
      ≡ map (sub_of (λ key. copy)) (filter (λ e. in_subset subset base (key_at e)) (entries_of nodes))
  list_shown subset base copy =
      subs_shown_at copy (asked_nodes nodes subset base) (λ n i. (of_filter (λ n. in_subset subset base (node_key n)) n nodes i).0)
      ∙ ap (map (sub_of (λ key. copy))) (filter_mapped named_of (λ n. in_subset subset base (node_key n))
      (λ e. in_subset subset base (key_at e)) nodes (λ n i. refl))

  -- ---- a search
  module _ (linked : IsLinked nodes) (subset : Subset) (base : Key) (f : Filter) (copy : Bool) (selection : Selection) where
    abbrev info : NodeId → EntryInfo
    info = info_shown nodes copy selection

    abbrev found : List Node
    found = found_nodes nodes subset base f

    found_in : (n : Node) → In n (found_nodes nodes subset base f) → In n nodes
    found_in n i = (of_filter (is_found subset base f) n nodes i).0

    shown_found : map (info_shown nodes copy selection) (map id_of (found_nodes nodes subset base f))
        ≡ map (info_of (λ key. copy) selection) (filter (λ e. in_subset subset base (key_at e) && selects_entry f e.entry) (entries_of nodes))
    shown_found =
        infos_shown_at copy selection (found_nodes nodes subset base f) found_in
        ∙ ap (map (info_of (λ key. copy) selection)) (filter_mapped named_of (is_found subset base f)
        (λ e. in_subset subset base (key_at e) && selects_entry f e.entry) nodes (λ n i. refl))

    shown_key : (n : Node) → In n nodes → key_of (info_shown nodes copy selection n.id).name ≡ node_key n
    shown_key n i = ap (λ (o : Option Node). key_of (in_option (record { name = []; copy = copy; attributes = [] })
        (λ n. info_of (λ key. copy) selection n.named) o).name) (numbered n i)

    in_order : (xs : List Node) → ((n : Node) → In n xs → In n nodes) → ascending node_below xs ≡ true
        → ascending before_info (map (info_shown nodes copy selection) (map id_of xs)) ≡ true
    in_order [] g h = refl
    in_order (n ∷ []) g h = refl
    in_order (n ∷ m ∷ ns) g h =
        let b = both_true (node_below n m) (ascending node_below (m ∷ ns)) h in
        and_true (before_info (info n.id) (info m.id)) (ascending before_info (map (info_shown nodes copy selection) (map id_of (m ∷ ns))))
        ((λ i. key_below (shown_key n (g n here) i) (shown_key m (g m (there here)) i)) ∙ b.0)
        (in_order (m ∷ ns) (λ k j. g k (there j)) b.1)

    same_keys : (xs : List Node) → ascending node_below xs ≡ true → (m n : Node) → In m xs → In n xs → node_key m ≡ node_key n → m ≡ n
    same_keys [] h m n i j e = elim i [ ]
    same_keys (x ∷ xs) h m n i j e = elim (in_first m x xs i) [
      | inl p ↦ elim (in_first n x xs j) [
        | inl q ↦ p ∙ sym q
        | inr k ↦ absurd (never_below (node_key n) (subst (λ (l : Key). key_below l (node_key n) ≡ true) (ap node_key (sym p) ∙ e)
            (first_below node_below node_chain x n xs h k)))
      ]
      | inr k ↦ elim (in_first n x xs j) [
        | inl q ↦ absurd (never_below (node_key m) (subst (λ (l : Key). key_below l (node_key m) ≡ true) (ap node_key (sym q) ∙ sym e)
            (first_below node_below node_chain x m xs h k)))
        | inr l ↦ same_keys xs (rest_ascending node_below node_chain x xs h) m n k l e
      ]
    ]

    abbrev IsNode : NodeId → Type 0
    IsNode id = (n : Node) × In n nodes × (n.id ≡ id)

    two_apart : (x y : NodeId) → IsNode x → IsNode y → (x ≡ y → ⊥) → (before_info (info x) (info y) ≡ true) ⊎ (before_info (info y) (info x) ≡ true)
    two_apart x y v w other = elim (keys_apart (node_key v.0) (node_key w.0) (elim (true_or_false (same_key (node_key v.0) (node_key w.0))) [
      | inl t ↦ absurd (other (sym v.2 ∙ ap id_of (same_keys nodes linked.in_order v.0 w.0 v.1 w.1
          ((key_decides (node_key v.0) (node_key w.0)).0 t)) ∙ w.2))
      | inr t ↦ t
    ])) [
      | inl b ↦ inl ((λ i. key_below (key_there x v i) (key_there y w i)) ∙ b)
      | inr b ↦ inr ((λ i. key_below (key_there y w i) (key_there x v i)) ∙ b)
    ]
      where
        key_there : (z : NodeId) (u : IsNode z) → key_of (info z).name ≡ node_key u.0
        key_there z u = ap (λ (k : NodeId). key_of (info k).name) (sym u.2) ∙ shown_key u.0 u.1

    all_apart : (ids : List NodeId) → Once ids → ((id : NodeId) → In id ids → IsNode id) → AllApart before_info (map (info_shown nodes copy selection) ids)
    all_apart [] o g = tt
    all_apart (x ∷ xs) o g = (
      λ z i. (
          let w = of_map (info_shown nodes copy selection) z xs i in
          subst (λ (y : EntryInfo). (before_info (info x) y ≡ true) ⊎ (before_info y (info x) ≡ true)) (sym w.2)
          (two_apart x w.0 (g x here) (g w.0 (there w.1)) (λ e. o.0 (subst (λ (k : NodeId). In k xs) (sym e) w.1)))),
      all_apart xs o.1 (λ id i. g id (there i)),
    )

    info_chain : (x y z : EntryInfo) → before_info x y ≡ true → before_info y z ≡ true → before_info x z ≡ true
    info_chain x y z e g = below_chain (key_of x.name) (key_of y.name) (key_of z.name) e g

    info_never : (x : EntryInfo) → before_info x x ≡ true → ⊥
    info_never x e = never_below (key_of x.name) e

    pub search_shown : (ids : List NodeId) → AreFound nodes subset base f ids
        → sorted before_info (map (info_shown nodes copy selection) ids)
        ≡ map (info_of (λ key. copy) selection) (filter (λ e. in_subset subset base (key_at e) && selects_entry f e.entry) (entries_of nodes))
    search_shown ids are =
        one_list before_info info_chain info_never (sorted before_info (map info ids)) (map info (map id_of found))
        (sorted_ascending before_info info_chain (map info ids) (all_apart ids are.once nodes_of))
        (in_order found found_in (filter_ascending node_below node_chain (is_found subset base f) nodes linked.in_order))
        (λ z i. (let w = of_map info z ids (of_sorted before_info z (map info ids) i) in
        subst (λ (y : EntryInfo). In y (map info (map id_of found))) (sym w.2) (in_map info w.0 (map id_of found) ((are.exact w.0).0 w.1))))
        (λ z i. (let w = of_map info z (map id_of found) i in
        in_sorted before_info z (map info ids) (subst (λ (y : EntryInfo). In y (map info ids)) (sym w.2) (in_map info w.0 ids ((are.exact w.0).1 w.1)))))
        ∙ shown_found
      where
        nodes_of : (id : NodeId) → In id ids → IsNode id
        nodes_of id i = (let w = of_map id_of id found ((are.exact id).0 i) in (w.0, found_in w.0 w.1, sym w.2))

-- The whole tree of consistent knowledge: it is a tree, its parts are the contexts, and what resolution finds at one
-- agent is what the tree has.
use Rattle.std.proofs.Common.{◌≡◌, ◌+◌, ◌<◌, ◌≤◌, true, not, ◌&&◌, inl, inr, List, [], ◌∷◌, ◌++◌, map, length, refl, sym, ap, subst, ◌∙◌, arith, Some, None}
use Rattle.std.specs.List.{flat_map}
use Rattle.x5_model.specs.Words.{ascending}
use Rattle.x5_model.specs.Members.{In, here, there, Once}
use Rattle.x5_model.specs.Keys.{Key, IsPrefix, same_key, parent, is_root}
use Rattle.x5_model.specs.Entries.{Named}
use Rattle.x5_model.specs.Attributes.{is_ordered}
use Rattle.x5_model.proofs.KeyLaws.{key_decides}
use Rattle.x5_model.proofs.Prefixes.{parent_length}
use Rattle.x5_model.proofs.Lists.{in_map, of_map, in_either, in_flat, of_flat, all_in, in_filter, of_filter, or_left, or_right, and_true}
use Rattle.x5_model.proofs.Ascending.{filter_ascending, of_sorted, in_sorted}
use Rattle.x5_model.proofs.Decide.{once_decides, not_decides, nat_same_decides}
use Rattle.x5_model_tree.specs.World.{World}
use Rattle.x5_model_tree.specs.Tree.{IsTree, key_at, keys_of, named_below, sorted_entries, entry_at, is_there, is_there_or_root, lowest, belongs, part}
use Rattle.x5_model_tree.specs.Masters.{Mastered, pin_of, mastered, pins, all_entries, whole}
use Rattle.x5_model_tree.specs.Conditions.{Has}
use Rattle.x5_model_tree.specs.Good.{Good}
use Rattle.x5_model_tree.specs.Reached.{NoLower}
use Rattle.x5_model_tree.proofs.Exact.{there_decides}
use Rattle.x5_model_tree.proofs.Order.{named_chain, union_in_order, one_list_of_entries}
use Rattle.x5_model_tree.proofs.Resolution.{one_context_of, one_entry_of}
use Rattle.x5_model_tree.proofs.Longest.{IsLongest, longest_is, belongs_decides, lowest_is, none_lowest, entry_is}

-- ---- keys that come once

once_joined : {A : Type 0} (xs ys : List A) → Once xs → Once ys → ((z : A) → In z xs → In z ys → ⊥) → Once (xs ++ ys)
once_joined [] ys a b f = b
once_joined (x ∷ xs) ys a b f =
    ((λ i. elim (in_either x xs ys i) [ inl j ↦ a.0 j | inr j ↦ f x here j ]), once_joined xs ys a.1 b (λ z i j. f z (there i) j))

map_joined : {A B : Type 0} (f : A → B) (xs ys : List A) → map f (xs ++ ys) ≡ map f xs ++ map f ys
map_joined f [] ys = refl
map_joined {A} {B} f (x ∷ xs) ys = ap (λ (zs : List B). f x ∷ zs) (map_joined f xs ys)

-- contexts whose pins come once, each with keys that come once, and with no key in common
once_entries : (ms : List Mastered) → Once (map pin_of ms) → ((m : Mastered) → In m ms → Once (keys_of m.context.entries))
    → ((m n : Mastered) (k : Key) → In m ms → In n ms → In k (keys_of m.context.entries) → In k (keys_of n.context.entries) → pin_of m ≡ pin_of n)
    → Once (keys_of (flat_map (λ m. m.context.entries) ms))
once_entries [] a b f = tt
once_entries (m ∷ ms) a b f =
    subst Once (sym (map_joined key_at m.context.entries (flat_map (λ (n : Mastered). n.context.entries) ms)))
    (once_joined (keys_of m.context.entries) (keys_of (flat_map (λ (n : Mastered). n.context.entries) ms)) (b m here) (once_entries ms a.1 (λ n i. b n (there i)) (λ n o k i j. f n o k (there i) (there j)))
    (λ k i j.
    let u = of_map key_at k (flat_map (λ (n : Mastered). n.context.entries) ms) j in
    let v = of_flat (λ (n : Mastered). n.context.entries) u.0 ms u.1 in
    let at : In k (keys_of v.0.context.entries) = subst (λ (x : Key). In x (keys_of v.0.context.entries)) (sym u.2) (in_map key_at u.0 v.0.context.entries v.2) in
    let same : pin_of m ≡ pin_of v.0 = f m v.0 k here (there v.1) i at in
    a.0 (subst (λ (x : Key). In x (map pin_of ms)) (sym same) (in_map pin_of v.0 ms v.1))))

module _ (w : World) (good : Good w) (once_pins : Once (pins w)) where
  once_keys : Once (keys_of (all_entries w))
  once_keys =
      once_entries (mastered w) once_pins (λ m i. (good.context m i).once)
      (λ m n k i j p q.
      let u = of_map key_at k m.context.entries p in
      let v = of_map key_at k n.context.entries q in
      ap pin_of (one_context_of w good m n u.0 v.0 i j u.1 v.1 (sym u.2 ∙ v.2)))

  -- the entries of the tree are those of the contexts
  pub of_whole : (e : Named) → In e (whole w).entries → (m : Mastered) × In m (mastered w) × In e m.context.entries
  of_whole e i = of_flat (λ m. m.context.entries) e (mastered w) (of_sorted named_below e (all_entries w) i)

  pub in_whole : (e : Named) (m : Mastered) → In m (mastered w) → In e m.context.entries → In e (whole w).entries
  in_whole e m i j = in_sorted named_below e (all_entries w) (in_flat (λ m. m.context.entries) e m (mastered w) i j)

  pub whole_in_order : ascending named_below (whole w).entries ≡ true
  whole_in_order = union_in_order (all_entries w) ((once_decides same_key key_decides (keys_of (all_entries w))).1 once_keys)

  pub one_in_whole : (e f : Named) → In e (whole w).entries → In f (whole w).entries → key_at e ≡ key_at f → e ≡ f
  one_in_whole e f i j q =
      let u = of_whole e i in let v = of_whole f j in one_entry_of w good u.0 v.0 e f u.1 v.1 u.2 v.2 q

  there_in_whole : (m : Mastered) (key : Key) → In m (mastered w) → Has m.context.entries key → is_there (whole w).entries key ≡ true
  there_in_whole m key i h = (there_decides (whole w).entries key).1 (h.0, in_whole h.0 m i h.1, h.2)

  above_there : (e : Named) → In e (whole w).entries → (not (is_root (key_at e)) && is_there_or_root (whole w).entries (parent (key_at e))) ≡ true
  above_there e i =
      let u = of_whole e i in
      let full : 0 < length (key_at e) = ((good.context u.0 u.1).kept e u.2).0 in
      let no_root : not (is_root (key_at e)) ≡ true = (not_decides (is_root (key_at e)) (nat_same_decides (length (key_at e)) 0)).1 (λ z. omega arith) in
      and_true (not (is_root (key_at e))) (is_there_or_root (whole w).entries (parent (key_at e))) no_root
      (elim ((good.context u.0 u.1).grown e u.2) [
        | inl q ↦ elim (good.parents u.0 u.1) [
          | inl one ↦ or_left (is_root (parent (key_at e))) (is_there (whole w).entries (parent (key_at e))) (let l : length (key_at e) ≡ length (pin_of u.0) = ap length q in let p : length (parent (key_at e)) + 1 ≡ length (key_at e) = parent_length (key_at e) full in (nat_same_decides (length (parent (key_at e))) 0).1 (omega arith))
          | inr s ↦ or_right (is_root (parent (key_at e))) (is_there (whole w).entries (parent (key_at e))) (subst (λ (k : Key). is_there (whole w).entries (parent k) ≡ true) (sym q) (there_in_whole s.0 (parent (pin_of u.0)) s.1 s.2))
        ]
        | inr h ↦ or_right (is_root (parent (key_at e))) (is_there (whole w).entries (parent (key_at e))) (there_in_whole u.0 (parent (key_at e)) u.1 h)
      ])

  -- it is a tree
  pub whole_is_tree : IsTree (whole w)
  whole_is_tree = record {
    in_order = whole_in_order;
    above = all_in (λ e. not (is_root (key_at e)) && is_there_or_root (whole w).entries (parent (key_at e))) (whole w).entries above_there;
    pins_there = all_in (is_there (whole w).entries) (pins w) (λ p i. let u = of_map pin_of p (mastered w) i in subst (λ (k : Key). is_there (whole w).entries k ≡ true) (sym u.2) (there_in_whole u.0 (pin_of u.0) u.1 (good.context u.0 u.1).prefix_there));
    ordered = all_in (λ e. is_ordered e.entry) (whole w).entries (λ e i. let u = of_whole e i in ((good.context u.0 u.1).kept e u.2).1);
  }

  -- an entry belongs to its context's pin: the longest pin that is its prefix
  own_longest : (m : Mastered) (e : Named) → In m (mastered w) → In e m.context.entries → IsLongest (pins w) (key_at e) (Some (pin_of m))
  own_longest m e i j = (
    in_map pin_of m (mastered w) i,
    (
      (good.context m i).below e j,
      λ q k y. let u = of_map pin_of q (mastered w) k in
          let l : length (pin_of u.0) ≤ length (pin_of m) = good.no_longer m u.0 e i u.1 j (subst (λ (x : Key). IsPrefix x (key_at e)) u.2 y) in
          let s : length q ≡ length (pin_of u.0) = ap length u.2 in omega arith,
    ),
  )

  pub entry_belongs : (m : Mastered) (e : Named) → In m (mastered w) → In e m.context.entries → belongs (pins w) (pin_of m) (key_at e) ≡ true
  entry_belongs m e i j = (belongs_decides (pins w) (pin_of m) (key_at e)).1 (own_longest m e i j)

  of_part : (m : Mastered) (e : Named) → In m (mastered w) → In e (part (whole w) (pin_of m)) → In e m.context.entries
  of_part m e i j =
      let u = of_filter (λ x. belongs (pins w) (pin_of m) (key_at x)) e (whole w).entries j in
      let v = of_whole e u.0 in
      let a : IsLongest (pins w) (key_at e) (Some (pin_of m)) = (belongs_decides (pins w) (pin_of m) (key_at e)).0 u.1 in
      let b : IsLongest (pins w) (key_at e) (Some (pin_of v.0)) = own_longest v.0 e v.1 v.2 in
      let same : pin_of v.0 ≡ pin_of m = inside (sym (longest_is (pins w) (key_at e) (pin_of v.0) b) ∙ longest_is (pins w) (key_at e) (pin_of m) a) in
      subst (λ (x : Mastered). In e x.context.entries) (good.one_context v.0 m v.1 i same) v.2
    where
      inside : {x y : Key} → Some x ≡ Some y → x ≡ y
      inside e = cc

  -- the part of a pin is its context's entries
  pub part_is_context : (m : Mastered) → In m (mastered w) → part (whole w) (pin_of m) ≡ sorted_entries m.context.entries
  part_is_context m i =
      one_list_of_entries (part (whole w) (pin_of m)) (sorted_entries m.context.entries)
      (filter_ascending named_below named_chain (λ e. belongs (pins w) (pin_of m) (key_at e)) (whole w).entries whole_in_order)
      (union_in_order m.context.entries ((once_decides same_key key_decides (keys_of m.context.entries)).1 (good.context m i).once))
      (λ e j. in_sorted named_below e m.context.entries (of_part m e i j))
      (λ e j. let k : In e m.context.entries = of_sorted named_below e m.context.entries j in in_filter (λ x. belongs (pins w) (pin_of m) (key_at x)) e (whole w).entries (in_whole e m i k) (entry_belongs m e i k))

  -- what a master has of the name, the tree has
  pub found_there : (m : Mastered) (e : Named) (key : Key) → In m (mastered w) → In e m.context.entries → key_at e ≡ key → entry_at (whole w).entries key ≡ Some e
  found_there m e key i j q = entry_is (whole w).entries key e one_in_whole (in_whole e m i j) q

  -- the master's lowest entry on the way is the tree's
  pub lowest_there : (m : Mastered) (e : Named) (key : Key) → In m (mastered w) → In e m.context.entries → IsPrefix (key_at e) key → NoLower w key (length (key_at e)) → lowest (whole w).entries key ≡ Some e
  lowest_there m e key i j y low =
      lowest_is (whole w).entries key e one_in_whole ((good.context m i).kept e j).0 (in_whole e m i j) y (λ f k z. let u = of_whole f k in low u.0 u.1 f u.2 z)

  -- and where no agent on the way has an entry, the tree has none
  pub none_there : (key : Key) → NoLower w key 0 → lowest (whole w).entries key ≡ None
  none_there key low =
      none_lowest (whole w).entries key (λ f i y. let u = of_whole f i in
      let full : 0 < length (key_at f) = ((good.context u.0 u.1).kept f u.2).0 in
      let l : length (key_at f) ≤ 0 = low u.0 u.1 f u.2 y in
      omega arith)

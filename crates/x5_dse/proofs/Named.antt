-- The nodes below one prefix: what their keys say of one another, and that they are linked in the order of keys.
use Rattle.std.proofs.Common.{◌≡◌, ◌≢◌, ℕ, zero, suc, ◌+◌, ◌-◌, ◌≤◌, Bool, true, false, not, ◌||◌, ◌==◌, cond, ◌⊎◌, inl, inr, List, [], ◌∷◌, ◌++◌, length, map, take, refl, sym, ap, subst, ◌∙◌, arith, Option, Some, None, length-append, append_assoc}
use Rattle.std.proofs.lemmas.List.{append-nil, length-map, length-take, length_push, map-append, map_push, append_cancel_left, same_from_push, take_all, take_at, take-take}
use Rattle.std.specs.Option.{is_some}
use Rattle.std.specs.Ordering.{is_lt}
use Rattle.x5_model.specs.Words.{is_empty, first_of, in_option, ascending, insert_sorted, sorted}
use Rattle.x5_model.specs.Members.{In, Once, here, there}
use Rattle.x5_model.specs.Keys.{Key, same_key, is_prefix, key_below, parent, root}
use Rattle.x5_model.specs.Values.{Name, key_of_rdn, key_of}
use Rattle.x5_model.proofs.KeyLaws.{key_decides, never_below, below_chain}
use Rattle.x5_model.proofs.Lists.{true_or_false, or_left, or_right, in_first, in_map, of_map, any_in, of_any, all_in, of_find, not_found}
use Rattle.x5_model.proofs.Prefixes.{prefix_decides}
use Rattle.x5_model.proofs.Ascending.{AllApart, rest_ascending, first_below, of_sorted, in_sorted, sorted_ascending, keys_apart}
use Rattle.x5_model_tree.specs.Tree.{is_there}
use Rattle.x5_dse.specs.declared.node.NodeId.{NodeId}
use Rattle.x5_dse.specs.Linked.{Node, entries_of, node_key, node_below, node_at, node_with, has_id, is_live, prefix_of, is_placed, IsLinked}
use Rattle.x5_dse.specs.Inside.{Slots, top, is_used, parent_at, depth_at, rdn_at, path, path_of, name_at, node_of, nodes_of, spot_at, spot_below, IsRow}
use Rattle.x5_dse.proofs.Spots.{spot_chain, spot_never}
use Rattle.x5_dse.proofs.Ids.{id_decides}
use Rattle.x5_dse.proofs.Parents.{front_less}

-- ---- lists in order

module _ {A B : Type 0} (below : B → B → Bool) (chain : (x y z : B) → below x y ≡ true → below y z ≡ true → below x z ≡ true) (never : (x : B) → below x x ≡ true → ⊥) (f : A → B) where
  -- in order no two members are alike
  pub alike_is_same : (xs : List A) (a b : A) → ascending below (map f xs) ≡ true → In a xs → In b xs → f a ≡ f b → a ≡ b
  alike_is_same [] a b h i j e = elim i [ ]
  alike_is_same (x ∷ xs) a b h i j e =
      elim (in_first a x xs i) [
        | inl p ↦ elim (in_first b x xs j) [
          | inl q ↦ p ∙ sym q
          | inr l ↦ absurd (never (f x) (subst (λ (y : B). below (f x) y ≡ true) (sym e ∙ ap f p) (first_below below chain (f x) (f b) (map f xs) h (in_map f b xs l))))
        ]
        | inr k ↦ elim (in_first b x xs j) [
          | inl q ↦ absurd (never (f x) (subst (λ (y : B). below (f x) y ≡ true) (e ∙ ap f q) (first_below below chain (f x) (f a) (map f xs) h (in_map f a xs k))))
          | inr l ↦ alike_is_same xs a b (rest_ascending below chain (f x) (map f xs) h) k l e
        ]
      ]

  pub once_in_order : (xs : List A) → ascending below (map f xs) ≡ true → Once xs
  once_in_order [] h = tt
  once_in_order (x ∷ xs) h = (
    (λ i. never (f x) (first_below below chain (f x) (f x) (map f xs) h (in_map f x xs i))),
    once_in_order xs (rest_ascending below chain (f x) (map f xs) h),
  )

module _ {A : Type 0} (below : A → A → Bool) (chain : (x y z : A) → below x y ≡ true → below y z ≡ true → below x z ≡ true) (never : (x : A) → below x x ≡ true → ⊥) where
  -- what is below all others stands first
  pub lowest_is_first : (x : A) (xs : List A) → ascending below xs ≡ true → In x xs → ((z : A) → In z xs → (z ≡ x) ⊎ (below x z ≡ true)) → first_of xs ≡ Some x
  lowest_is_first x [] h i f = elim i [ ]
  lowest_is_first x (y ∷ ys) h i f =
      elim (in_first x y ys i) [
        | inl p ↦ ap (λ (z : A). Some z) (sym p)
        | inr j ↦ elim (f y here) [
          | inl p ↦ absurd (never y (subst (λ (z : A). below y z ≡ true) (sym p) (first_below below chain y x ys h j)))
          | inr p ↦ absurd (never x (chain x y x p (first_below below chain y x ys h j)))
        ]
      ]

pub length_insert : {A : Type 0} (below : A → A → Bool) (x : A) (xs : List A) → length (insert_sorted below x xs) ≡ length xs + 1
length_insert below x [] = omega arith
length_insert {A} below x (y ∷ ys) = by (below y x) (length_insert below x ys)
  where
    by : (b : Bool) → length (insert_sorted below x ys) ≡ length ys + 1 → length (cond b (y ∷ insert_sorted below x ys) (x ∷ y ∷ ys)) ≡ length (y ∷ ys) + 1
    by true h = omega arith
    by false h = omega arith

pub length_sorted : {A : Type 0} (below : A → A → Bool) (xs : List A) → length (sorted below xs) ≡ length xs
length_sorted below [] = refl
length_sorted below (x ∷ xs) = omega (arith, length_insert below x (sorted below xs), length_sorted below xs)

pub parent_push : (k : Key) (r : List (ℕ × List ℕ)) → parent (k ++ r ∷ []) ≡ k
parent_push k r = take_at k (r ∷ []) (length (k ++ r ∷ []) - 1) (omega (arith, length_push k r))

pub node_chain : (x y z : Node) → node_below x y ≡ true → node_below y z ≡ true → node_below x z ≡ true
node_chain x y z p q = below_chain (node_key x) (node_key y) (node_key z) p q

pub node_never : (x : Node) → node_below x x ≡ true → ⊥
node_never x p = never_below (node_key x) p

-- the entry is there exactly where a node has its key
pub there_by_node : (nodes : List Node) (key : Key) → is_there (entries_of nodes) key ≡ is_some (node_at nodes key)
there_by_node [] key = refl
there_by_node (x ∷ xs) key = by (same_key (node_key x) key) (there_by_node xs key)
  where
    by : (b : Bool) → is_there (entries_of xs) key ≡ is_some (node_at xs key) → (b || is_there (entries_of xs) key) ≡ is_some (cond b (Some x) (node_at xs key))
    by true h = refl
    by false h = h

-- ---- keys

pub path_length : (slots : Slots) (n : ℕ) (id : NodeId) → length (path slots n id) ≡ n
path_length slots zero id = refl
path_length slots (suc n) id = omega (arith, length_push (path slots n (parent_at slots id)) (rdn_at slots id), path_length slots n (parent_at slots id))

module _ (prefix : Name) (slots : Slots) (order : List NodeId) (row : IsRow slots order) where
  abbrev pub key_in : NodeId → Key
  key_in id = key_of (name_at prefix slots id)

  abbrev pub all_nodes : List Node
  all_nodes = nodes_of prefix slots order

  pub top_apart : In top order → ⊥
  top_apart i = let e = (row.above top i).1 in let z = row.first in absurd (omega arith)

  pub depth_zero : (id : NodeId) → is_used slots id ≡ true → depth_at slots id ≡ 0 → id ≡ top
  depth_zero id u e = elim (in_first id top order ((row.used id).1 u)) [
    | inl p ↦ p
    | inr i ↦ (let d = (row.above id i).1 in absurd (omega arith))
  ]

  pub ordered : (id : NodeId) (n : ℕ) → is_used slots id ≡ true → depth_at slots id ≡ suc n → In id order
  ordered id n u e = elim (in_first id top order ((row.used id).1 u)) [
    | inl p ↦ (let z = row.first in let d : depth_at slots id ≡ depth_at slots top = ap (depth_at slots) p in absurd (omega arith))
    | inr i ↦ i
  ]

  pub order_used : (id : NodeId) → In id order → is_used slots id ≡ true
  order_used id i = (row.used id).0 (there i)

  pub top_used : is_used slots top ≡ true
  top_used = (row.used top).0 here

  pub key_length : (id : NodeId) → length (key_in id) ≡ length prefix + depth_at slots id
  key_length id = omega (arith, length-map (name_at prefix slots id) key_of_rdn, length-append prefix (path_of slots id), path_length slots (depth_at slots id) id)

  pub same_spot : (a b : NodeId) → In a order → In b order → spot_at slots a ≡ spot_at slots b → a ≡ b
  same_spot a b i j e = alike_is_same spot_below spot_chain spot_never (spot_at slots) order a b row.in_order i j e

  unique_path : (n : ℕ) (a b : NodeId) → is_used slots a ≡ true → is_used slots b ≡ true → depth_at slots a ≡ n → depth_at slots b ≡ n → key_of (path slots n a) ≡ key_of (path slots n b) → a ≡ b
  unique_path zero a b u v p q e = depth_zero a u p ∙ sym (depth_zero b v q)
  unique_path (suc n) a b u v p q e =
      let i = ordered a n u p in
      let j = ordered b n v q in
      let f : key_of (path slots n (parent_at slots a)) ++ key_of_rdn (rdn_at slots a) ∷ [] ≡ key_of (path slots n (parent_at slots b)) ++ key_of_rdn (rdn_at slots b) ∷ [] =
      sym (map_push key_of_rdn (path slots n (parent_at slots a)) (rdn_at slots a)) ∙ e ∙ map_push key_of_rdn (path slots n (parent_at slots b)) (rdn_at slots b) in
      let w = same_from_push (key_of (path slots n (parent_at slots a))) (key_of (path slots n (parent_at slots b))) (key_of_rdn (rdn_at slots a)) (key_of_rdn (rdn_at slots b)) f in
      let d : depth_at slots (parent_at slots a) ≡ n = (let s = (row.above a i).1 in omega arith) in
      let g : depth_at slots (parent_at slots b) ≡ n = (let s = (row.above b j).1 in omega arith) in
      let same : parent_at slots a ≡ parent_at slots b = unique_path n (parent_at slots a) (parent_at slots b) (row.above a i).0 (row.above b j).0 d g w.0 in
      let r = w.1 in
      same_spot a b i j (λ k. ((same k).0, r k))

  -- a key is that of one node
  pub unique : (a b : NodeId) → is_used slots a ≡ true → is_used slots b ≡ true → key_in a ≡ key_in b → a ≡ b
  unique a b u v e =
      let d : depth_at slots b ≡ depth_at slots a = (let l = ap length e in omega (arith, key_length a, key_length b)) in
      let f : key_of (path_of slots a) ≡ key_of (path_of slots b) =
      append_cancel_left (key_of prefix) (key_of (path_of slots a)) (key_of (path_of slots b)) (sym (map-append key_of_rdn prefix (path_of slots a)) ∙ e ∙ map-append key_of_rdn prefix (path_of slots b)) in
      unique_path (depth_at slots a) a b u v refl d (f ∙ ap (λ (n : ℕ). key_of (path slots n b)) d)

  -- a node's name is that of the node above it, and its own RDN
  pub child_name : (id : NodeId) → In id order → name_at prefix slots id ≡ name_at prefix slots (parent_at slots id) ++ rdn_at slots id ∷ []
  child_name id i =
      ap (λ (n : ℕ). prefix ++ path slots n id) (row.above id i).1
      ∙ sym (append_assoc prefix (path_of slots (parent_at slots id)) (rdn_at slots id ∷ []))

  pub child_key : (id : NodeId) → In id order → key_in id ≡ key_in (parent_at slots id) ++ key_of_rdn (rdn_at slots id) ∷ []
  child_key id i = ap key_of (child_name id i) ∙ map_push key_of_rdn (name_at prefix slots (parent_at slots id)) (rdn_at slots id)

  pub child_parent : (id : NodeId) → In id order → parent (key_in id) ≡ key_in (parent_at slots id)
  child_parent id i = ap parent (child_key id i) ∙ parent_push (key_in (parent_at slots id)) (key_of_rdn (rdn_at slots id))

  pub top_key : key_in top ≡ key_of prefix
  top_key = ap (λ (n : ℕ). key_of (prefix ++ path slots n top)) row.first ∙ ap key_of (append-nil prefix)

  -- with a node there are those above it
  above_at : (n : ℕ) (id : NodeId) → is_used slots id ≡ true → depth_at slots id ≡ n → (k : ℕ) → length prefix ≤ k → k ≤ length prefix + n → (w : NodeId) × (is_used slots w ≡ true) × (key_in w ≡ take k (key_in id))
  above_at zero id u e k l m = (id, u, sym (take_all k (key_in id) (omega (arith, key_length id))))
  above_at (suc n) id u e k l m = by (k == (length prefix + suc n)) refl (λ h. above_at n (parent_at slots id) (row.above id (ordered id n u e)).0 (let s = (row.above id (ordered id n u e)).1 in omega arith) k l h)
    where
      up : (w : NodeId) → key_in w ≡ take k (key_in (parent_at slots id)) → k ≤ length prefix + n → key_in w ≡ take k (key_in id)
      up w p h = p ∙ ap (take k) (sym (child_parent id (ordered id n u e))) ∙ take-take k (length (key_in id) - 1) (key_in id) (omega (arith, key_length id))

      by : (b : Bool) → (k == (length prefix + suc n)) ≡ b → (k ≤ length prefix + n → (w : NodeId) × (is_used slots w ≡ true) × (key_in w ≡ take k (key_in (parent_at slots id)))) → (w : NodeId) × (is_used slots w ≡ true) × (key_in w ≡ take k (key_in id))
      by true p rest = let q : k ≡ length prefix + suc n = grind arith in (id, u, sym (take_all k (key_in id) (omega (arith, key_length id))))
      by false p rest = let h : k ≤ length prefix + n = (let q : k ≢ length prefix + suc n = (λ (s : k ≡ length prefix + suc n). let t : (k == (length prefix + suc n)) ≡ true = grind arith in cc) in omega arith) in let w = rest h in (w.0, w.1, up w.0 w.2 h)

  pub above_there : (id : NodeId) → is_used slots id ≡ true → (k : ℕ) → length prefix ≤ k → k ≤ length (key_in id) → (w : NodeId) × (is_used slots w ≡ true) × (key_in w ≡ take k (key_in id))
  above_there id u k l m = above_at (depth_at slots id) id u refl k l (omega (arith, key_length id))

  -- ---- the nodes

  pub of_nodes : (n : Node) → In n all_nodes → (id : NodeId) × (is_used slots id ≡ true) × (n ≡ node_of prefix slots id)
  of_nodes n i =
      let w = of_map (node_of prefix slots) n (top ∷ order) (of_sorted node_below n (map (node_of prefix slots) (top ∷ order)) i) in
      (w.0, (row.used w.0).0 w.1, w.2)

  pub in_nodes : (id : NodeId) → is_used slots id ≡ true → In (node_of prefix slots id) all_nodes
  in_nodes id u = in_sorted node_below (node_of prefix slots id) (map (node_of prefix slots) (top ∷ order)) (in_map (node_of prefix slots) id (top ∷ order) ((row.used id).1 u))

  pub apart_keys : (a b : NodeId) → is_used slots a ≡ true → is_used slots b ≡ true → (a ≡ b → ⊥) → (key_below (key_in a) (key_in b) ≡ true) ⊎ (key_below (key_in b) (key_in a) ≡ true)
  apart_keys a b u v f = elim (true_or_false (same_key (key_in a) (key_in b))) [
    | inl p ↦ absurd (f (unique a b u v ((key_decides (key_in a) (key_in b)).0 p)))
    | inr p ↦ keys_apart (key_in a) (key_in b) p
  ]

  pub all_apart : (ids : List NodeId) → ((z : NodeId) → In z ids → is_used slots z ≡ true) → Once ids → AllApart node_below (map (node_of prefix slots) ids)
  all_apart [] f h = tt
  all_apart (x ∷ xs) f h = (
    (λ z i. let w = of_map (node_of prefix slots) z xs i in
        subst (λ (n : Node). (node_below (node_of prefix slots x) n ≡ true) ⊎ (node_below n (node_of prefix slots x) ≡ true)) (sym w.2)
        (apart_keys x w.0 (f x here) (f w.0 (there w.1)) (λ e. h.0 (subst (λ (k : NodeId). In k xs) (sym e) w.1)))),
    all_apart xs (λ z i. f z (there i)) h.1,
  )

  pub nodes_ascending : ascending node_below all_nodes ≡ true
  nodes_ascending =
      sorted_ascending node_below node_chain (map (node_of prefix slots) (top ∷ order))
      (all_apart (top ∷ order) (λ z i. (row.used z).0 i) (top_apart, once_in_order spot_below spot_chain spot_never (spot_at slots) order row.in_order))

  pub found : (id : NodeId) (key : Key) → is_used slots id ≡ true → key_in id ≡ key → node_at all_nodes key ≡ Some (node_of prefix slots id)
  found id key u e = by (node_at all_nodes key) refl
    where
      by : (o : Option Node) → node_at all_nodes key ≡ o → node_at all_nodes key ≡ Some (node_of prefix slots id)
      by None p = absurd (let f = not_found (λ (n : Node). same_key (node_key n) key) (node_of prefix slots id) all_nodes p (in_nodes id u) in let t : same_key (key_in id) key ≡ true = (key_decides (key_in id) key).1 e in cc)
      by (Some y) p =
          let w = of_find (λ (n : Node). same_key (node_key n) key) y all_nodes p in
          let v = of_nodes y w.0 in
          let q : key_in v.0 ≡ key = sym (ap node_key v.2) ∙ (key_decides (node_key y) key).0 w.1 in
          p ∙ ap (λ (n : Node). Some n) (v.2 ∙ ap (node_of prefix slots) (unique v.0 id v.1 u (q ∙ sym e)))

  pub none_found : (key : Key) → ((id : NodeId) → is_used slots id ≡ true → key_in id ≡ key → ⊥) → node_at all_nodes key ≡ None
  none_found key f = by (node_at all_nodes key) refl
    where
      by : (o : Option Node) → node_at all_nodes key ≡ o → node_at all_nodes key ≡ None
      by None p = p
      by (Some y) p =
          let w = of_find (λ (n : Node). same_key (node_key n) key) y all_nodes p in
          let v = of_nodes y w.0 in
          absurd (f v.0 v.1 (sym (ap node_key v.2) ∙ (key_decides (node_key y) key).0 w.1))

  pub live_used : (id : NodeId) → is_live all_nodes id ≡ true → is_used slots id ≡ true
  live_used id e =
      let n = of_any (has_id id) all_nodes e in
      let v = of_nodes n.0 n.1 in
      let p : v.0 ≡ id = (id_decides v.0 id).0 (subst (λ (k : Node). has_id id k ≡ true) v.2 n.2) in
      subst (λ (k : NodeId). is_used slots k ≡ true) p v.1

  pub used_live : (id : NodeId) → is_used slots id ≡ true → is_live all_nodes id ≡ true
  used_live id u = any_in (has_id id) (node_of prefix slots id) all_nodes (in_nodes id u) ((id_decides id id).1 refl)

  pub live_node : (id : NodeId) → is_used slots id ≡ true → node_with all_nodes id ≡ Some (node_of prefix slots id)
  live_node id u = by (node_with all_nodes id) refl
    where
      by : (o : Option Node) → node_with all_nodes id ≡ o → node_with all_nodes id ≡ Some (node_of prefix slots id)
      by None p = absurd (let f = not_found (has_id id) (node_of prefix slots id) all_nodes p (in_nodes id u) in let t : has_id id (node_of prefix slots id) ≡ true = (id_decides id id).1 refl in cc)
      by (Some y) p =
          let w = of_find (has_id id) y all_nodes p in
          let v = of_nodes y w.0 in
          let q : v.0 ≡ id = (id_decides v.0 id).0 (subst (λ (k : Node). has_id id k ≡ true) v.2 w.1) in
          p ∙ ap (λ (n : Node). Some n) (v.2 ∙ ap (node_of prefix slots) q)

  pub numbered : (n : Node) → In n all_nodes → node_with all_nodes n.id ≡ Some n
  numbered n i =
      let v = of_nodes n i in
      subst (λ (m : Node). node_with all_nodes m.id ≡ Some m) (sym v.2) (live_node v.0 v.1)

  -- ---- they are linked

  top_first : (id : NodeId) → In id order → key_below (key_in top) (key_in id) ≡ true
  top_first id i =
      let w = above_there id (order_used id i) (length prefix) (omega arith) (omega (arith, key_length id)) in
      let d : depth_at slots w.0 ≡ 0 = (let l = ap length w.2 in omega (arith, key_length w.0, key_length id, length-take (length prefix) (key_in id))) in
      let e : key_in top ≡ take (length prefix) (key_in id) = ap key_in (sym (depth_zero w.0 w.1 d)) ∙ w.2 in
      let s = (row.above id i).1 in
      subst (λ (k : Key). key_below k (key_in id) ≡ true) (sym e) (ap is_lt (front_less (length prefix) (key_in id) (omega (arith, key_length id))))

  pub first_node : first_of all_nodes ≡ Some (node_of prefix slots top)
  first_node = lowest_is_first node_below node_chain node_never (node_of prefix slots top) all_nodes nodes_ascending (in_nodes top top_used) at
    where
      at : (z : Node) → In z all_nodes → (z ≡ node_of prefix slots top) ⊎ (node_below (node_of prefix slots top) z ≡ true)
      at z i =
          let v = of_nodes z i in
          elim (in_first v.0 top order ((row.used v.0).1 v.1)) [
            | inl p ↦ inl (v.2 ∙ ap (node_of prefix slots) p)
            | inr j ↦ inr (subst (λ (n : Node). node_below (node_of prefix slots top) n ≡ true) (sym v.2) (top_first v.0 j))
          ]

  pub prefix_key : prefix_of all_nodes ≡ key_of prefix
  prefix_key = ap (λ (o : Option Node). in_option root node_key o) first_node ∙ top_key

  pub there_if_used : (id : NodeId) (key : Key) → is_used slots id ≡ true → key_in id ≡ key → is_there (entries_of all_nodes) key ≡ true
  there_if_used id key u e = there_by_node all_nodes key ∙ ap is_some (found id key u e)

  pub absent_if : (key : Key) → ((id : NodeId) → is_used slots id ≡ true → key_in id ≡ key → ⊥) → is_there (entries_of all_nodes) key ≡ false
  absent_if key f = there_by_node all_nodes key ∙ ap is_some (none_found key f)

  placed : (n : Node) → In n all_nodes → is_placed all_nodes n ≡ true
  placed n i =
      let v = of_nodes n i in
      subst (λ (m : Node). is_placed all_nodes m ≡ true) (sym v.2) (elim (in_first v.0 top order ((row.used v.0).1 v.1)) [
        | inl p ↦ or_left (same_key (key_in v.0) (prefix_of all_nodes)) (is_there (entries_of all_nodes) (parent (key_in v.0))) ((key_decides (key_in v.0) (prefix_of all_nodes)).1 (ap key_in p ∙ top_key ∙ sym prefix_key))
        | inr j ↦ or_right (same_key (key_in v.0) (prefix_of all_nodes)) (is_there (entries_of all_nodes) (parent (key_in v.0))) (there_if_used (parent_at slots v.0) (parent (key_in v.0)) (row.above v.0 j).0 (sym (child_parent v.0 j)))
      ])

  pub linked : IsLinked all_nodes
  linked = record {
    filled = not_empty all_nodes (in_nodes top top_used);
    in_order = nodes_ascending;
    above = all_in (is_placed all_nodes) all_nodes placed;
  }
    where
      not_empty : (zs : List Node) → In (node_of prefix slots top) zs → not (is_empty zs) ≡ true
      not_empty [] i = elim i [ ]
      not_empty (z ∷ zs) i = refl

  pub count : length all_nodes ≡ length order + 1
  count = omega (arith, length_sorted node_below (map (node_of prefix slots) (top ∷ order)), length-map (top ∷ order) (node_of prefix slots))

  -- every key is below the prefix's
  pub under_prefix : (id : NodeId) → is_used slots id ≡ true → is_prefix (key_of prefix) (key_in id) ≡ true
  under_prefix id u =
      let w = above_there id u (length prefix) (omega arith) (omega (arith, key_length id)) in
      let d : depth_at slots w.0 ≡ 0 = (let l = ap length w.2 in omega (arith, key_length w.0, key_length id, length-take (length prefix) (key_in id))) in
      let e : key_of prefix ≡ take (length prefix) (key_in id) = sym top_key ∙ ap key_in (sym (depth_zero w.0 w.1 d)) ∙ w.2 in
      (prefix_decides (key_of prefix) (key_in id)).1 (ap (λ (n : ℕ). take n (key_in id)) (length-map prefix key_of_rdn) ∙ sym e)

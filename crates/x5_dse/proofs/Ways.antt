-- The way down from the prefix to a name: where it ends, and what it tells of the name and of the names above it.
use Rattle.std.proofs.Common.{◌≡◌, ℕ, zero, suc, ◌+◌, ◌-◌, ◌<◌, ◌≤◌, true, false, inl, inr, List, [], ◌∷◌, ◌++◌, length, take, drop, get_or, refl, sym, ap, subst, ◌∙◌, arith, Some, None, Err}
use Rattle.std.proofs.lemmas.List.{length-map, length-take, length-drop, map-append, take_all, take-take, take_more, get_or_at, get_or-take, get_or-drop}
use Rattle.std.specs.Option.{option_map}
use Rattle.x5_model.specs.Members.{In}
use Rattle.x5_model.specs.Keys.{Key, KeyRdn, IsPrefix, is_prefix, parent}
use Rattle.x5_model.specs.Values.{Name, key_of_rdn, key_of}
use Rattle.x5_model.proofs.Prefixes.{prefix_decides, prefix_chain, prefix_length, parent_is_prefix}
use Rattle.x5_dse.specs.declared.node.NodeId.{NodeId}
use Rattle.x5_dse.specs.Linked.{Node, length_in, node_key, node_with, IsLowest}
use Rattle.x5_dse.specs.Inside.{Slots, Spot, top, is_used, parent_at, rdn_at, path, path_of, name_at, node_of, spot_at, spots_of, GoesNext, IsPlace, IsChild, IsRow, IsDown, IsSite}
use Rattle.x5_dse.proofs.Ids.{same_id}
use Rattle.x5_dse.proofs.Spots.{lt_or_le}
use Rattle.x5_dse.proofs.Named.{key_in, all_nodes, order_used, key_length, unique, child_key, child_parent, above_there, ordered, of_nodes, live_node, under_prefix}

take_nil : {A : Type 0} (k : ℕ) → take {A = A} k [] ≡ []
take_nil zero = refl
take_nil (suc k) = refl

pub take_sum : {A : Type 0} (n m : ℕ) (xs : List A) → take (n + m) xs ≡ take n xs ++ take m (drop n xs)
take_sum zero m xs = ap (λ (k : ℕ). take k xs) (let e : 0 + m ≡ m = omega arith in e)
take_sum {A} (suc n) m [] = take_nil {A = A} (suc n + m) ∙ sym (take_nil {A = A} m)
take_sum {A} (suc n) m (x ∷ xs) = ap (λ (k : ℕ). take k (x ∷ xs)) (let e : suc n + m ≡ suc (n + m) = omega arith in e) ∙ ap (λ (ys : List A). x ∷ ys) (take_sum n m xs)

-- ---- down step by step

module _ (slots : Slots) (order : List NodeId) (row : IsRow slots order) (key : Key) where
  pub start : key_of (path_of slots top) ≡ take 0 key
  start = ap (λ (n : ℕ). key_of (path slots n top)) row.first

  pub step_down : (node c : NodeId) (i : ℕ) (r : KeyRdn) → In c order → spot_at slots c ≡ (node.0, r) → key_of (path_of slots node) ≡ take i key → i < length key → get_or key i [] ≡ r
      → (is_used slots c ≡ true) × (key_of (path_of slots c) ≡ take (i + 1) key)
  step_down node c i r m e way l q =
      let same : parent_at slots c ≡ node = same_id (parent_at slots c) node (ap (λ (s : Spot). s.0) e) in (
        order_used [] slots order row c m,
        child_key [] slots order row c m ∙ (λ k. key_of (path_of slots (same k)) ++ (e k).1 ∷ []) ∙ ap (λ (k : Key). k ++ r ∷ []) way ∙ ap (λ (s : KeyRdn). take i key ++ s ∷ []) (sym q) ∙ sym (take_more key i [] l),
      )

  pub stops : (node : NodeId) (i : ℕ) (r : KeyRdn) → is_used slots node ≡ true → key_of (path_of slots node) ≡ take i key → i < length key → get_or key i [] ≡ r → IsChild slots order (node.0, r) None → IsDown [] slots order key node i
  stops node i r u way l q none = record {
    used = u;
    on_way = way;
    below = omega arith;
    within = omega arith;
    ends = λ _ c m e. none c m (e ∙ ap (λ (s : KeyRdn). (node.0, s)) q);
  }

  pub arrives : (node : NodeId) (i : ℕ) → is_used slots node ≡ true → key_of (path_of slots node) ≡ take i key → i ≡ length key → IsDown [] slots order key node i
  arrives node i u way e = record {
    used = u;
    on_way = way;
    below = omega arith;
    within = omega arith;
    ends = λ l c m p. absurd (omega arith);
  }

-- ---- from the prefix

pub from_prefix : (prefix : Name) (slots : Slots) (order : List NodeId) (key : Key) (node : NodeId) (n : ℕ) → is_prefix (key_of prefix) key ≡ true → IsDown [] slots order (drop (length prefix) key) node n → IsDown prefix slots order key node (length prefix + n)
from_prefix prefix slots order key node n e down =
    let p : IsPrefix (key_of prefix) key = (prefix_decides (key_of prefix) key).0 e in
    let lp : length (key_of prefix) ≡ length prefix = length-map prefix key_of_rdn in
    let h : length prefix ≤ length key = (let m = prefix_length (key_of prefix) key p in omega arith) in
    let q : take (length prefix) key ≡ key_of prefix = ap (λ (k : ℕ). take k key) (sym lp) ∙ p in
    let w = down.within in
    record {
      used = down.used;
      on_way = map-append key_of_rdn prefix (path_of slots node) ∙ ap (λ (k : Key). k ++ key_of (path_of slots node)) (sym q) ∙ ap (λ (k : Key). take (length prefix) key ++ k) down.on_way ∙ sym (take_sum (length prefix) n key);
      below = omega arith;
      within = omega (arith, length-drop (length prefix) key);
      ends = λ l c m s. down.ends (omega (arith, length-drop (length prefix) key)) c m (s ∙ ap (λ (r : KeyRdn). (node.0, r)) (sym (get_or-drop (length prefix) key n [])));
    }

pub next_from_prefix : (prefix : Name) (slots : Slots) (order : List NodeId) (key : Key) (node : NodeId) (n at : ℕ) → GoesNext slots order (drop (length prefix) key) node n at → GoesNext slots order key node (length prefix + n) at
next_from_prefix prefix slots order key node n at next = record {
  place = λ l. subst (λ (r : KeyRdn). IsPlace (spots_of slots order) (node.0, r) (Err at)) (get_or-drop (length prefix) key n []) (next.place (omega (arith, length-drop (length prefix) key)));
}

-- ---- what it tells

module _ (prefix : Name) (slots : Slots) (order : List NodeId) (row : IsRow slots order) where
  -- a name that isn't below the prefix isn't there, and nor is the one above it
  pub outside : (key : Key) → is_prefix (key_of prefix) key ≡ false → (id : NodeId) → is_used slots id ≡ true → key_in prefix slots order row id ≡ key → ⊥
  outside key e id u p = let t : is_prefix (key_of prefix) key ≡ true = subst (λ (k : Key). is_prefix (key_of prefix) k ≡ true) p (under_prefix prefix slots order row id u) in cc

  pub above_outside : (key : Key) → is_prefix (key_of prefix) key ≡ false → (id : NodeId) → is_used slots id ≡ true → key_in prefix slots order row id ≡ parent key → ⊥
  above_outside key e id u p =
      let t : is_prefix (key_of prefix) (parent key) ≡ true = subst (λ (k : Key). is_prefix (key_of prefix) k ≡ true) p (under_prefix prefix slots order row id u) in
      let s : is_prefix (key_of prefix) key ≡ true = (prefix_decides (key_of prefix) key).1 (prefix_chain (key_of prefix) (parent key) key ((prefix_decides (key_of prefix) (parent key)).0 t) (parent_is_prefix key)) in
      cc

  module _ (key : Key) (node : NodeId) (n : ℕ) (down : IsDown prefix slots order key node n) where
    -- nothing stands lower on the way
    pub no_deeper : (id : NodeId) → is_used slots id ≡ true → n < length key → n + 1 ≤ length (key_in prefix slots order row id) → take (n + 1) (key_in prefix slots order row id) ≡ take (n + 1) key → ⊥
    no_deeper id u l m e =
        let b = down.below in
        let w = above_there prefix slots order row id u (n + 1) (omega arith) m in
        let key_w : key_in prefix slots order row w.0 ≡ take (n + 1) key = w.2 ∙ e in
        let long : length (key_in prefix slots order row w.0) ≡ n + 1 = ap length key_w ∙ length_of in
        let i = ordered prefix slots order row w.0 (n - length prefix) w.1 (omega (arith, key_length prefix slots order row w.0)) in
        let up : key_in prefix slots order row (parent_at slots w.0) ≡ take n key = sym (child_parent prefix slots order row w.0 i) ∙ ap parent key_w ∙ ap (λ (k : ℕ). take k (take (n + 1) key)) (let s : length (take (n + 1) key) - 1 ≡ n = omega (arith, length_of) in s) ∙ take-take n (n + 1) key (omega arith) in
        let same : parent_at slots w.0 ≡ node = unique prefix slots order row (parent_at slots w.0) node (row.above w.0 i).0 down.used (up ∙ sym down.on_way) in
        let short : length (key_in prefix slots order row (parent_at slots w.0)) ≡ n = ap length up ∙ omega (arith, length-take n key) in
        let own : key_of_rdn (rdn_at slots w.0) ≡ get_or key n [] =
        sym (get_or_at (key_in prefix slots order row (parent_at slots w.0)) (key_of_rdn (rdn_at slots w.0)) [] [] n short)
        ∙ ap (λ (k : Key). get_or k n []) (sym (child_key prefix slots order row w.0 i) ∙ key_w) ∙ get_or-take (n + 1) key n [] (omega arith) in
        down.ends l w.0 i (λ k. ((same k).0, own k))
      where
        length_of : length (take (n + 1) key) ≡ n + 1
        length_of = omega (arith, length-take (n + 1) key)

    pub not_there : n < length key → (id : NodeId) → is_used slots id ≡ true → key_in prefix slots order row id ≡ key → ⊥
    not_there l id u e = no_deeper id u l (let m = ap length e in omega arith) (ap (take (n + 1)) e)

    pub above_not_there : n + 1 < length key → (id : NodeId) → is_used slots id ≡ true → key_in prefix slots order row id ≡ parent key → ⊥
    above_not_there l id u e =
        let m : length (key_in prefix slots order row id) ≡ length key - 1 = ap length e ∙ omega (arith, length-take (length key - 1) key) in
        no_deeper id u (omega arith) (omega arith) (ap (take (n + 1)) e ∙ take-take (n + 1) (length key - 1) key (omega arith))

    pub reached : n ≡ length key → key_in prefix slots order row node ≡ key
    reached e = down.on_way ∙ take_all n key (omega arith)

    -- how many RDNs the name of the node has
    pub way_length : option_map length_in (node_with (all_nodes prefix slots order row) node) ≡ Some n
    way_length =
        ap (option_map length_in) (live_node prefix slots order row node down.used)
        ∙ ap Some (sym (length-map (name_at prefix slots node) key_of_rdn) ∙ ap length down.on_way ∙ (let w = down.within in omega (arith, length-take n key)))

    pub is_lowest : IsLowest (all_nodes prefix slots order row) key node
    is_lowest = record {
      node = node_of prefix slots node;
      there = live_node prefix slots order row node down.used;
      is_above = (prefix_decides (key_in prefix slots order row node) key).1 (ap (λ (k : ℕ). take k key) long ∙ sym down.on_way);
      longest = λ other i p. by other i ((prefix_decides (node_key other) key).0 p);
    }
      where
        long : length (key_in prefix slots order row node) ≡ n
        long = ap length down.on_way ∙ (let w = down.within in omega (arith, length-take n key))

        deep : (id : NodeId) → is_used slots id ≡ true → IsPrefix (key_in prefix slots order row id) key → length (key_in prefix slots order row id) ≤ length (key_in prefix slots order row node)
        deep id u p = elim (lt_or_le n (length (key_in prefix slots order row id))) [
          | inl l ↦ (let m = prefix_length (key_in prefix slots order row id) key p in absurd (no_deeper id u (omega arith) (omega arith) (ap (take (n + 1)) (sym p) ∙ take-take (n + 1) (length (key_in prefix slots order row id)) key (omega arith))))
          | inr l ↦ omega (arith, long)
        ]

        by : (other : Node) → In other (all_nodes prefix slots order row) → IsPrefix (node_key other) key → length (node_key other) ≤ length (key_in prefix slots order row node)
        by other i p =
            let v = of_nodes prefix slots order row other i in
            subst (λ (m : Node). length (node_key m) ≤ length (key_in prefix slots order row node)) (sym v.2) (deep v.0 v.1 (subst (λ (m : Node). IsPrefix (node_key m) key) v.2 p))

    -- the site of a name of which only the last RDN is left
    pub site : (name : Name) (place : ℕ) → key_of name ≡ key → n + 1 ≡ length name → IsPlace (spots_of slots order) (node.0, get_or key n []) (Err place) → IsSite prefix slots order name node place
    site name place p l at =
        let m : length key ≡ length name = sym (ap length p) ∙ length-map name key_of_rdn in
        let q : n ≡ length name - 1 = omega arith in
        record {
          used = down.used;
          is_above = down.on_way ∙ ap (λ (k : Key). take n k) (sym p) ∙ ap (λ (j : ℕ). take j (key_of name)) (let s : n ≡ length (key_of name) - 1 = omega (arith, length-map name key_of_rdn) in s);
          long = omega arith;
          place = subst (λ (k : Key). IsPlace (spots_of slots order) (node.0, get_or k (length name - 1) []) (Err place)) (sym p) (subst (λ (j : ℕ). IsPlace (spots_of slots order) (node.0, get_or key j []) (Err place)) q at);
        }

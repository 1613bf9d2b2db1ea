-- The next node in the order of keys: the first of what stands below, else the next sibling, or that of a node above.
use Rattle.std.proofs.Common.{◌≡◌, ℕ, ◌+◌, ◌<◌, ◌≤◌, true, false, inl, inr, List, [], ◌∷◌, ◌++◌, length, take, drop, get_or, refl, sym, ap, subst, ◌∙◌, arith, append_assoc}
use Rattle.std.proofs.lemmas.List.{append-nil, map-append, append_cancel_left, same_from_push, take_all, length-append, length_push, take_at, take-append-drop}
use Rattle.std.specs.Ordering.{is_lt}
use Rattle.x5_model.specs.Members.{In}
use Rattle.x5_model.specs.Keys.{Key, KeyRdn, IsPrefix, is_prefix, key_below, rdn_cmp}
use Rattle.x5_model.specs.Values.{Name, key_of_rdn, key_of}
use Rattle.x5_model.proofs.KeyLaws.{never_below, below_chain}
use Rattle.x5_model.proofs.Lists.{true_or_false, in_first}
use Rattle.x5_model.proofs.Prefixes.{prefix_decides, prefix_chain, prefix_itself, prefix_length, prefix_of_parent, parent_is_prefix}
use Rattle.x5_dse.specs.declared.node.NodeId.{NodeId}
use Rattle.x5_dse.specs.Inside.{Slots, Spot, top, is_used, parent_at, depth_at, rdn_at, path_of, name_at, spot_at, spots_of, spot_below, IsRow, IsStart}
use Rattle.x5_dse.specs.Step.{IsNext, IsLast, IsUnder, IsBehind}
use Rattle.x5_dse.proofs.Ids.{same_id}
use Rattle.x5_dse.proofs.Spots.{spot_chain, spot_never, same_above, rising, spot_get, spots_length, get_in, in_get, lt_or_le, lt_or_eq}
use Rattle.x5_dse.proofs.Runs.{no_greater}
use Rattle.x5_dse.proofs.Named.{key_in, order_used, key_length, child_key, child_parent, above_there, ordered, unique}
use Rattle.x5_dse.proofs.Between.{same_front, squeezed, behind_one, before_one, some_one, below_sibling}

below_itself : (k : Key) (r : KeyRdn) → key_below k (k ++ r ∷ []) ≡ true
below_itself k r = subst (λ (j : Key). key_below j (k ++ r ∷ []) ≡ true) (append-nil k) (ap is_lt (same_front k [] (r ∷ [])))

prefix_of_sum : (p rest : Key) → is_prefix p (p ++ rest) ≡ true
prefix_of_sum p rest = (prefix_decides p (p ++ rest)).1 (take_at p rest (length p) refl)

pub of_prefix : (p k : Key) → is_prefix p k ≡ true → k ≡ p ++ drop (length p) k
of_prefix p k e = sym (take-append-drop (length p) k) ∙ ap (λ (j : Key). j ++ drop (length p) k) ((prefix_decides p k).0 e)

pub under_itself : (prefix : Name) (slots : Slots) (id : NodeId) → is_prefix (key_of (name_at prefix slots id)) (key_of (name_at prefix slots id)) ≡ true
under_itself prefix slots id = (prefix_decides (key_of (name_at prefix slots id)) (key_of (name_at prefix slots id))).1 (prefix_itself (key_of (name_at prefix slots id)))

-- what is at or below a node is so whatever the prefix
pub under_any : (prefix : Name) (slots : Slots) (from node : NodeId) → is_prefix (key_of (name_at prefix slots from)) (key_of (name_at prefix slots node)) ≡ true → IsUnder slots from node
under_any prefix slots from node e other =
    let p = of_prefix (key_of (name_at prefix slots from)) (key_of (name_at prefix slots node)) e in
    let rest : Key = drop (length (key_of (name_at prefix slots from))) (key_of (name_at prefix slots node)) in
    let q : key_of (path_of slots node) ≡ key_of (path_of slots from) ++ rest =
    append_cancel_left (key_of prefix) (key_of (path_of slots node)) (key_of (path_of slots from) ++ rest)
    (sym (map-append key_of_rdn prefix (path_of slots node)) ∙ p ∙ ap (λ (k : Key). k ++ rest) (map-append key_of_rdn prefix (path_of slots from)) ∙ append_assoc (key_of prefix) (key_of (path_of slots from)) rest) in
    subst (λ (k : Key). is_prefix (key_of (name_at other slots from)) k ≡ true)
    (ap (λ (k : Key). k ++ rest) (map-append key_of_rdn other (path_of slots from)) ∙ append_assoc (key_of other) (key_of (path_of slots from)) rest ∙ ap (λ (k : Key). key_of other ++ k) (sym q) ∙ sym (map-append key_of_rdn other (path_of slots node)))
    (prefix_of_sum (key_of (name_at other slots from)) rest)

module _ (prefix : Name) (slots : Slots) (order : List NodeId) (row : IsRow slots order) where
  abbrev key : NodeId → Key
  key id = key_in prefix slots order row id

  -- an entry below a node leads through one just below it
  through : (node m : NodeId) (t : KeyRdn) (rest : Key) → is_used slots node ≡ true → is_used slots m ≡ true → key m ≡ key node ++ t ∷ rest → (a : NodeId) × In a order × (spot_at slots a ≡ (node.0, t))
  through node m t rest u v e =
      let long : length (key m) ≡ length (key node) + length rest + 1 = ap length e ∙ omega (arith, length-append (key node) (t ∷ rest)) in
      let w = above_there prefix slots order row m v (length (key node) + 1) (omega (arith, key_length prefix slots order row node)) (omega arith) in
      let front : key w.0 ≡ key node ++ t ∷ [] = w.2 ∙ ap (take (length (key node) + 1)) (e ∙ sym (append_assoc (key node) (t ∷ []) rest)) ∙ take_at (key node ++ t ∷ []) rest (length (key node) + 1) (length_push (key node) t) in
      let size : length (key w.0) ≡ length (key node) + 1 = ap length front ∙ length_push (key node) t in
      let i = ordered prefix slots order row w.0 (depth_at slots node) w.1 (omega (arith, key_length prefix slots order row w.0, key_length prefix slots order row node)) in
      let pair = same_from_push (key (parent_at slots w.0)) (key node) (key_of_rdn (rdn_at slots w.0)) t (sym (child_key prefix slots order row w.0 i) ∙ front) in
      let same : parent_at slots w.0 ≡ node = unique prefix slots order row (parent_at slots w.0) node (row.above w.0 i).0 u pair.0 in
      let own = pair.1 in
      (w.0, i, λ k. ((same k).0, own k))

  -- two spots of one node above, by their RDNs
  rdn_less : (a b : NodeId) (p : ℕ) (r s : KeyRdn) → spot_at slots a ≡ (p, r) → spot_at slots b ≡ (p, s) → is_lt (rdn_cmp r s) ≡ true → spot_below (spot_at slots a) (spot_at slots b) ≡ true
  rdn_less a b p r s e f l =
      subst (λ (x : Spot). spot_below x (spot_at slots b) ≡ true) (sym e) (subst (λ (x : Spot). spot_below (p, r) x ≡ true) (sym f) (ap is_lt (same_above (p, r) (p, s) refl) ∙ l))

  -- in order, what is below stands earlier
  earlier : (i j : ℕ) → i < length order → j < length order → spot_below (spot_at slots (get_or order i top)) (spot_at slots (get_or order j top)) ≡ true → i < j
  earlier i j l m e = elim (lt_or_le i j) [
    | inl p ↦ p
    | inr p ↦ elim (lt_or_eq j i (omega arith)) [
      | inl q ↦ absurd (spot_never (spot_at slots (get_or order i top)) (spot_chain (spot_at slots (get_or order i top)) (spot_at slots (get_or order j top)) (spot_at slots (get_or order i top)) e (rises j i q l m)))
      | inr q ↦ absurd (spot_never (spot_at slots (get_or order i top)) (subst (λ (n : ℕ). spot_below (spot_at slots (get_or order i top)) (spot_at slots (get_or order n top)) ≡ true) q e))
    ]
  ]
    where
      rises : (j i : ℕ) → j < i → i < length order → j < length order → spot_below (spot_at slots (get_or order j top)) (spot_at slots (get_or order i top)) ≡ true
      rises j i q l m =
          subst (λ (x : Spot). spot_below x (spot_at slots (get_or order i top)) ≡ true) (spot_get slots order j top (0, []) m)
          (subst (λ (x : Spot). spot_below (get_or (spots_of slots order) j (0, [])) x ≡ true) (spot_get slots order i top (0, []) l) (rising (spots_of slots order) (0, []) j i row.in_order q (omega (arith, spots_length slots order))))

  -- ---- the first of what stands below

  pub first_below_is_next : (from node : NodeId) → is_used slots node ≡ true → is_prefix (key from) (key node) ≡ true → (at : ℕ) → IsStart (spots_of slots order) node at → at < length order → parent_at slots (get_or order at top) ≡ node → IsNext prefix slots from node (get_or order at top)
  first_below_is_next from node u p at start l e =
      let i = in_get order at top l in
      let k : key (get_or order at top) ≡ key node ++ key_of_rdn (rdn_at slots (get_or order at top)) ∷ [] = child_key prefix slots order row (get_or order at top) i ∙ ap (λ (n : NodeId). key n ++ key_of_rdn (rdn_at slots (get_or order at top)) ∷ []) e in
      record {
        used = order_used prefix slots order row (get_or order at top) i;
        under = (prefix_decides (key from) (key (get_or order at top))).1 (prefix_chain (key from) (key node) (key (get_or order at top)) ((prefix_decides (key from) (key node)).0 p)
            ((prefix_decides (key node) (key (get_or order at top))).0 (subst (λ (j : Key). is_prefix (key node) j ≡ true) (sym k) (prefix_of_sum (key node) (key_of_rdn (rdn_at slots (get_or order at top)) ∷ [])))));
        above = subst (λ (j : Key). key_below (key node) j ≡ true) (sym k) (below_itself (key node) (key_of_rdn (rdn_at slots (get_or order at top))));
        nearest = λ m v q g h.
            let z = squeezed (key node) [] (key_of_rdn (rdn_at slots (get_or order at top)) ∷ []) (key m) (subst (λ (j : Key). key_below j (key m) ≡ true) (sym (append-nil (key node))) g) (subst (λ (j : Key). key_below (key m) j ≡ true) k h) in
            let t = some_one z.0 z.2 in
            let less = before_one (key_of_rdn (rdn_at slots (get_or order at top))) t.0 t.1 (subst (λ (j : Key). key_below j (key_of_rdn (rdn_at slots (get_or order at top)) ∷ []) ≡ true) t.2 z.3) in
            let a = through node m t.0 t.1 u v (z.1 ∙ ap (λ (j : Key). key node ++ j) t.2) in
            let w = get_in a.0 order a.1 in
            let at_spot : spot_at slots (get_or order w.0 top) ≡ (node.0, t.0) = ap (spot_at slots) (w.2 top) ∙ a.2 in
            let here : spot_at slots (get_or order at top) ≡ (node.0, key_of_rdn (rdn_at slots (get_or order at top))) = ap (λ (n : NodeId). (n.0, key_of_rdn (rdn_at slots (get_or order at top)))) e in
            let before = earlier w.0 at w.1 l (rdn_less (get_or order w.0 top) (get_or order at top) node.0 t.0 (key_of_rdn (rdn_at slots (get_or order at top))) at_spot here less) in
            let n : (get_or (spots_of slots order) w.0 (0, [])).0 ≡ node.0 = ap (λ (s : Spot). s.0) (spot_get slots order w.0 top (0, []) w.1 ∙ at_spot) in
            let o = start.before w.0 (0, []) before in
            omega arith;
      }

  -- ---- behind a node and all below it

  pub leaf_behind : (node : NodeId) → is_used slots node ≡ true → ((c : NodeId) → In c order → parent_at slots c ≡ node → ⊥) → IsBehind prefix slots node node
  leaf_behind node u none m v l = (
    l,
    elim (true_or_false (is_prefix (key node) (key m))) [
      | inl p ↦ absurd (by (drop (length (key node)) (key m)) (of_prefix (key node) (key m) p))
      | inr p ↦ p
    ],
  )
    where
      by : (w : Key) → key m ≡ key node ++ w → ⊥
      by [] e = never_below (key node) (subst (λ (k : Key). key_below (key node) k ≡ true) (e ∙ append-nil (key node)) l)
      by (t ∷ w) e = let a = through node m t w u v e in none a.0 a.1 (same_id (parent_at slots a.0) node (ap (λ (s : Spot). s.0) a.2))

  module _ (from node at : NodeId) (used_at : is_used slots at ≡ true) (from_used : is_used slots from ≡ true) (under : is_prefix (key from) (key at) ≡ true) (over : is_prefix (key at) (key node) ≡ true) (behind : IsBehind prefix slots node at) where
    -- at the top of the walk nothing is left
    pub none_left : at ≡ from → IsLast prefix slots from node
    none_left e m v p l = let w = behind m v l in let f : is_prefix (key from) (key m) ≡ false = subst (λ (k : NodeId). is_prefix (key k) (key m) ≡ false) e w.1 in cc

    module _ (other : at ≡ from → ⊥) where
      deeper : length (key from) < length (key at)
      deeper = elim (lt_or_eq (length (key from)) (length (key at)) (let l = prefix_length (key from) (key at) ((prefix_decides (key from) (key at)).0 under) in omega arith)) [
        | inl l ↦ l
        | inr e ↦ absurd (other (unique prefix slots order row at from used_at from_used (sym (take_all (length (key from)) (key at) (omega arith)) ∙ (prefix_decides (key from) (key at)).0 under)))
      ]

      pub at_ordered : In at order
      at_ordered = elim (in_first at top order ((row.used at).1 used_at)) [
        | inl p ↦ (let l = deeper in let d = row.first in let e : depth_at slots at ≡ depth_at slots top = ap (depth_at slots) p in absurd (omega (arith, key_length prefix slots order row from, key_length prefix slots order row at)))
        | inr i ↦ i
      ]

      abbrev up : NodeId
      up = parent_at slots at

      abbrev own : KeyRdn
      own = key_of_rdn (rdn_at slots at)

      key_at_is : key at ≡ key up ++ own ∷ []
      key_at_is = child_key prefix slots order row at at_ordered

      pub up_used : is_used slots up ≡ true
      up_used = (row.above at at_ordered).0

      pub up_under : is_prefix (key from) (key up) ≡ true
      up_under = (prefix_decides (key from) (key up)).1 (subst (λ (k : Key). IsPrefix (key from) k) (child_parent prefix slots order row at at_ordered) (prefix_of_parent (key from) (key at) ((prefix_decides (key from) (key at)).0 under) deeper))

      up_front : IsPrefix (key up) (key at)
      up_front = subst (λ (k : Key). IsPrefix k (key at)) (child_parent prefix slots order row at at_ordered) (parent_is_prefix (key at))

      pub up_over : is_prefix (key up) (key node) ≡ true
      up_over = (prefix_decides (key up) (key node)).1 (prefix_chain (key up) (key at) (key node) up_front ((prefix_decides (key at) (key node)).0 over))

      -- what stands behind, but below the same node above, has a greater RDN
      greater : (m : NodeId) → is_used slots m ≡ true → is_prefix (key at) (key m) ≡ false → (w : Key) → key m ≡ key up ++ w → key_below (own ∷ []) w ≡ true → (t : KeyRdn) × (rest : Key) × (w ≡ t ∷ rest) × (is_lt (rdn_cmp own t) ≡ true)
      greater m v f w e l =
          let b = behind_one own w l in (
            b.0,
            b.1,
            b.2,
            elim b.3 [
              | inl p ↦ p
              | inr p ↦ absurd (let q : is_prefix (key at) (key m) ≡ true = subst (λ (k : Key). is_prefix (key at) k ≡ true) (sym (e ∙ ap (λ (j : Key). key up ++ j) b.2 ∙ ap (λ (r : KeyRdn). key up ++ r ∷ b.1) (sym p) ∙ sym (append_assoc (key up) (own ∷ []) b.1) ∙ ap (λ (k : Key). k ++ b.1) (sym key_at_is))) (prefix_of_sum (key at) b.1) in cc)
            ],
          )

      module _ (place : ℕ) (within : place < length order) (is_at : get_or order place top ≡ at) where
        here : spot_at slots (get_or order place top) ≡ (up.0, own)
        here = ap (spot_at slots) is_at

        -- the next sibling
        pub sibling_is_next : place + 1 < length order → parent_at slots (get_or order (place + 1) top) ≡ up → IsNext prefix slots from node (get_or order (place + 1) top)
        sibling_is_next l e =
            let next : NodeId = get_or order (place + 1) top in
            let i : In next order = in_get order (place + 1) top l in
            let r : KeyRdn = key_of_rdn (rdn_at slots next) in
            let k : key next ≡ key up ++ r ∷ [] = child_key prefix slots order row next i ∙ ap (λ (n : NodeId). key n ++ r ∷ []) e in
            let there : spot_at slots next ≡ (up.0, r) = ap (λ (n : NodeId). (n.0, r)) e in
            let rises : spot_below (spot_at slots (get_or order place top)) (spot_at slots next) ≡ true =
            subst (λ (x : Spot). spot_below x (spot_at slots next) ≡ true) (spot_get slots order place top (0, []) within)
            (subst (λ (x : Spot). spot_below (get_or (spots_of slots order) place (0, [])) x ≡ true) (spot_get slots order (place + 1) top (0, []) l) (rising (spots_of slots order) (0, []) place (place + 1) row.in_order (omega arith) (omega (arith, spots_length slots order)))) in
            let less : is_lt (rdn_cmp own r) ≡ true = ap is_lt (sym (same_above (up.0, own) (up.0, r) refl)) ∙ subst (λ (x : Spot). spot_below (up.0, own) x ≡ true) there (subst (λ (x : Spot). spot_below x (spot_at slots next) ≡ true) here rises) in
            record {
              used = order_used prefix slots order row next i;
              under = (prefix_decides (key from) (key next)).1 (prefix_chain (key from) (key up) (key next) ((prefix_decides (key from) (key up)).0 up_under)
                  ((prefix_decides (key up) (key next)).0 (subst (λ (j : Key). is_prefix (key up) j ≡ true) (sym k) (prefix_of_sum (key up) (r ∷ [])))));
              above = subst (λ (j : Key). key_below (key node) j ≡ true) (sym k) (subst (λ (j : Key). key_below j (key up ++ r ∷ []) ≡ true) (sym (of_prefix (key at) (key node) over ∙ ap (λ (j : Key). j ++ drop (length (key at)) (key node)) key_at_is ∙ append_assoc (key up) (own ∷ []) (drop (length (key at)) (key node)))) (below_sibling (key up) own r (drop (length (key at)) (key node)) less));
              nearest = λ m v q g h.
                  let b = behind m v g in
                  let z = squeezed (key up) (own ∷ []) (r ∷ []) (key m) (subst (λ (j : Key). key_below j (key m) ≡ true) key_at_is b.0) (subst (λ (j : Key). key_below (key m) j ≡ true) k h) in
                  let t = greater m v b.1 z.0 z.1 z.2 in
                  let below = before_one r t.0 t.1 (subst (λ (j : Key). key_below j (r ∷ []) ≡ true) t.2 z.3) in
                  let a = through up m t.0 t.1 up_used v (z.1 ∙ ap (λ (j : Key). key up ++ j) t.2) in
                  let w = get_in a.0 order a.1 in
                  let at_spot : spot_at slots (get_or order w.0 top) ≡ (up.0, t.0) = ap (spot_at slots) (w.2 top) ∙ a.2 in
                  let later = earlier place w.0 within w.1 (rdn_less (get_or order place top) (get_or order w.0 top) up.0 own t.0 here at_spot t.3) in
                  let before = earlier w.0 (place + 1) w.1 l (rdn_less (get_or order w.0 top) next up.0 t.0 r at_spot there below) in
                  omega arith;
            }

        -- with no next sibling, behind the node above and all below it
        pub up_behind : ((place + 1 < length order) × (parent_at slots (get_or order (place + 1) top) ≡ up) → ⊥) → IsBehind prefix slots node up
        up_behind none m v g =
            let b = behind m v g in (
              below_chain (key up) (key at) (key m) (subst (λ (k : Key). key_below (key up) k ≡ true) (sym key_at_is) (below_itself (key up) own)) b.0,
              elim (true_or_false (is_prefix (key up) (key m))) [
                | inl p ↦ absurd (by b (drop (length (key up)) (key m)) (of_prefix (key up) (key m) p))
                | inr p ↦ p
              ],
            )
          where
            by : (key_below (key at) (key m) ≡ true) × (is_prefix (key at) (key m) ≡ false) → (w : Key) → key m ≡ key up ++ w → ⊥
            by b w e =
                let l : key_below (own ∷ []) w ≡ true = ap is_lt (sym (same_front (key up) (own ∷ []) w)) ∙ subst (λ (k : Key). key_below (key up ++ own ∷ []) k ≡ true) e (subst (λ (k : Key). key_below k (key m) ≡ true) key_at_is b.0) in
                let t = greater m v b.1 w e l in
                let a = through up m t.0 t.1 up_used v (e ∙ ap (λ (j : Key). key up ++ j) t.2) in
                let x = get_in a.0 order a.1 in
                let at_spot : spot_at slots (get_or order x.0 top) ≡ (up.0, t.0) = ap (spot_at slots) (x.2 top) ∙ a.2 in
                let later = earlier place x.0 within x.1 (rdn_less (get_or order place top) (get_or order x.0 top) up.0 own t.0 here at_spot t.3) in
                let long = x.1 in
                let next : place + 1 < length order = omega arith in
                let low : up.0 ≤ (parent_at slots (get_or order (place + 1) top)).0 = subst (λ (s : Spot). s.0 ≤ (parent_at slots (get_or order (place + 1) top)).0) here (no_greater (spot_at slots (get_or order place top)) (spot_at slots (get_or order (place + 1) top)) (rises place (place + 1) (omega arith) next within)) in
                let high : (parent_at slots (get_or order (place + 1) top)).0 ≤ up.0 = elim (lt_or_eq (place + 1) x.0 (omega arith)) [
                  | inl q ↦ subst (λ (s : Spot). (parent_at slots (get_or order (place + 1) top)).0 ≤ s.0) at_spot (no_greater (spot_at slots (get_or order (place + 1) top)) (spot_at slots (get_or order x.0 top)) (rises (place + 1) x.0 q x.1 next))
                  | inr q ↦ (let s : (parent_at slots (get_or order (place + 1) top)).0 ≡ up.0 = ap (λ (n : ℕ). (parent_at slots (get_or order n top)).0) q ∙ ap (λ (s : Spot). s.0) at_spot in omega arith)
                ] in
                none (next, same_id (parent_at slots (get_or order (place + 1) top)) up (omega arith))
              where
                rises : (j i : ℕ) → j < i → i < length order → j < length order → spot_below (spot_at slots (get_or order j top)) (spot_at slots (get_or order i top)) ≡ true
                rises j i q l m =
                    subst (λ (x : Spot). spot_below x (spot_at slots (get_or order i top)) ≡ true) (spot_get slots order j top (0, []) m)
                    (subst (λ (x : Spot). spot_below (get_or (spots_of slots order) j (0, [])) x ≡ true) (spot_get slots order i top (0, []) l) (rising (spots_of slots order) (0, []) j i row.in_order q (omega (arith, spots_length slots order))))

-- The tree of coherent knowledge: which context an entry is in, and what stands at, above and below a name.
use Rattle.std.proofs.Common.{◌≡◌, ℕ, suc, zero, ◌+◌, ◌<◌, ◌≤◌, ◌⊎◌, inl, inr, List, length, sym, ap, subst, arith, Some}
use Rattle.x5_model.specs.Members.{In}
use Rattle.x5_model.specs.Keys.{Key, IsPrefix, parent}
use Rattle.x5_model.specs.Entries.{Named}
use Rattle.x5_model.proofs.Lists.{in_map, of_map, in_filter, of_filter}
use Rattle.x5_model.proofs.Prefixes.{prefix_length, prefix_itself, prefix_chain, prefix_by_length, same_by_length, parent_length, prefix_of_parent}
use Rattle.x5_model_tree.specs.Tree.{Tree, key_at, belongs, part}
use Rattle.x5_model_tree.proofs.Longest.{IsLongest, belongs_decides}
use Rattle.x5_model_theory.specs.Knowledge.{Knowledge, Area, IsEntry}
use Rattle.x5_model_theory.specs.Coherent.{Coherent}
use Rattle.x5_model_theory.proofs.Cohering.{one_master}
use Rattle.x5_model_theory.proofs.Deciding.{dec_nat}
use Rattle.x5_model_updates.specs.Standing.{IsTreeOf}
use Rattle.x5_model_updates.proofs.Lookups.{OneEach, one_each}

-- ---- contexts by keys

module _ (k : Knowledge) (good : Coherent k) where
  -- an entry is in one context
  pub one_area : (c d : Area) (x : Key) → In c k.areas → In d k.areas → In x c.entries → In x d.entries → c ≡ d
  one_area c d x i j p q =
      let a : IsPrefix c.prefix x = good.below c x i p in
      let b : IsPrefix d.prefix x = good.below d x j q in
      let l : length d.prefix ≤ length c.prefix = good.no_longer c d x i j p b in
      let m : length c.prefix ≤ length d.prefix = good.no_longer d c x j i q a in
      one_master k c d good i j (same_by_length c.prefix d.prefix x a b (omega arith))

  pub entry_filled : (c : Area) (x : Key) → In c k.areas → In x c.entries → 0 < length x
  entry_filled c x i p =
      let a : length c.prefix ≤ length x = prefix_length c.prefix x (good.below c x i p) in
      let b : 0 < length c.prefix = good.filled c i in
      omega arith

  -- a context whose pin is a prefix of an entry of another, and not shorter than the other's, is the other
  pub same_area : (c d : Area) (x : Key) → In c k.areas → In d k.areas → In x d.entries → IsPrefix c.prefix x → length d.prefix ≤ length c.prefix → c ≡ d
  same_area c d x i j p a l =
      let m : length c.prefix ≤ length d.prefix = good.no_longer d c x j i p a in
      one_master k c d good i j (same_by_length c.prefix d.prefix x a (good.below d x j p) (omega arith))

  -- a pin below an entry of a context: it begins just below some entry of that context, which is at or below the first
  pub below_in : (bound : ℕ) (c d : Area) (x : Key) → length d.prefix ≤ bound → In c k.areas → In d k.areas → In x c.entries → IsPrefix x d.prefix → length x < length d.prefix
      → (q : Area) × In q k.areas × In (parent q.prefix) c.entries × IsPrefix x (parent q.prefix)
  below_in zero c d x small i j p u less = absurd (omega arith)
  below_in (suc bound) c d x small i j p u less =
      let up : length (parent d.prefix) + 1 ≡ length d.prefix = parent_length d.prefix (good.filled d j) in
      let on : IsPrefix x (parent d.prefix) = prefix_of_parent x d.prefix u less in
      let full : 0 < length x = entry_filled c x i p in
      elim (good.parents d j) [
        | inl one ↦ absurd (omega arith)
        | inr o ↦
            let ou : IsPrefix o.0.prefix (parent d.prefix) = good.below o.0 (parent d.prefix) o.1 o.2 in
            let ol : length o.0.prefix ≤ length (parent d.prefix) = prefix_length o.0.prefix (parent d.prefix) ou in
            elim (shorter (length o.0.prefix) (length x)) [
              | inl h ↦
                  let ox : IsPrefix o.0.prefix x = prefix_by_length o.0.prefix x (parent d.prefix) ou on h in
                  let a : length o.0.prefix ≤ length c.prefix = good.no_longer c o.0 x i o.1 p ox in
                  let cp : IsPrefix c.prefix (parent d.prefix) = prefix_chain c.prefix x (parent d.prefix) (good.below c x i p) on in
                  let same : c ≡ o.0 = same_area c o.0 (parent d.prefix) i o.1 o.2 cp a in
                  (d, j, subst (λ (y : Area). In (parent d.prefix) y.entries) (sym same) o.2, on)
              | inr h ↦ below_in bound c o.0 x (omega arith) i o.1 p (prefix_by_length x o.0.prefix (parent d.prefix) on ou (omega arith)) h
            ]
      ]
    where
      shorter : (a b : ℕ) → (a ≤ b) ⊎ (b < a)
      shorter zero b = inl (omega arith)
      shorter (suc a) zero = inr (omega arith)
      shorter (suc a) (suc b) = elim (shorter a b) [ inl h ↦ inl (omega arith) | inr h ↦ inr (omega arith) ]

  -- what stands above an entry is an entry
  pub above_entry : (bound : ℕ) (x n : Key) → length x ≤ bound → IsEntry k x → IsPrefix n x → 0 < length n → IsEntry k n
  above_entry zero x n small there p full = (let a : length n ≤ length x = prefix_length n x p in absurd (omega arith))
  above_entry (suc bound) x n small there p full =
      let le : length n ≤ length x = prefix_length n x p in
      elim (dec_nat (length n) (length x)) [
        | inl same ↦ subst (λ (y : Key). IsEntry k y) (sym (same_by_length n x x p (prefix_itself x) same)) there
        | inr other ↦
            let up : IsPrefix n (parent x) = prefix_of_parent n x p (omega (arith, other)) in
            let pl : length (parent x) + 1 ≡ length x = parent_length x (omega arith) in
            elim (good.closed there.0 x there.1 there.2) [
              | inl s ↦ elim (good.parents there.0 there.1) [
                | inl one ↦ (let l : length x ≡ length there.0.prefix = ap length s in absurd (omega (arith, other)))
                | inr u ↦ above_entry bound (parent x) n (omega arith) (subst (λ (y : Key). IsEntry k (parent y)) (sym s) u) up full
              ]
              | inr u ↦ above_entry bound (parent x) n (omega arith) (there.0, there.1, u) up full
            ]
      ]

-- ---- the tree

module _ (k : Knowledge) (t : Tree) (good : Coherent k) (is : IsTreeOf k t) where
  pub tree_one_each : OneEach t.entries
  tree_one_each = one_each t.entries is.in_order

  pub pin_there : (c : Area) → In c k.areas → In c.prefix t.pins
  pin_there c i = (is.pins c.prefix).1 (in_map (λ (x : Area). x.prefix) c k.areas i)

  pub area_of_pin : (q : Key) → In q t.pins → (c : Area) × In c k.areas × (q ≡ c.prefix)
  area_of_pin q i = of_map (λ (x : Area). x.prefix) q k.areas ((is.pins q).0 i)

  -- members of a part
  pub of_part : (pin : Key) (e : Named) → In e (part t pin) → In e t.entries × IsLongest t.pins (key_at e) (Some pin)
  of_part pin e i =
      let w = of_filter (λ (f : Named). belongs t.pins pin (key_at f)) e t.entries i in
      (w.0, (belongs_decides t.pins pin (key_at e)).0 w.1)

  pub in_part : (pin : Key) (e : Named) → In e t.entries → IsLongest t.pins (key_at e) (Some pin) → In e (part t pin)
  in_part pin e i l = in_filter (λ (f : Named). belongs t.pins pin (key_at f)) e t.entries i ((belongs_decides t.pins pin (key_at e)).1 l)

  pub key_in_area : (c : Area) (e : Named) → In c k.areas → In e (part t c.prefix) → In (key_at e) c.entries
  key_in_area c e i j = subst (λ (xs : List Key). In (key_at e) xs) (sym (is.parts c i)) (in_map key_at e (part t c.prefix) j)

  pub entry_in_area : (c : Area) (x : Key) → In c k.areas → In x c.entries → (e : Named) × In e (part t c.prefix) × (key_at e ≡ x)
  entry_in_area c x i j = (let w = of_map key_at x (part t c.prefix) (subst (λ (xs : List Key). In x xs) (is.parts c i) j) in (w.0, w.1, sym w.2))

  -- each entry is in a context
  pub area_of_entry : (e : Named) → In e t.entries → (c : Area) × In c k.areas × In (key_at e) c.entries × In e (part t c.prefix)
  area_of_entry e i = (let w = is.parted e i in (w.0, w.1, key_in_area w.0 e w.1 w.2, w.2))

  pub tree_filled : (e : Named) → In e t.entries → 0 < length (key_at e)
  tree_filled e i = (let w = area_of_entry e i in entry_filled k good w.0 (key_at e) w.1 w.2)

  -- an entry whose key is in a context is in its part
  pub part_of_key : (c : Area) (e : Named) → In c k.areas → In e t.entries → In (key_at e) c.entries → In e (part t c.prefix)
  part_of_key c e i j p =
      let w = area_of_entry e j in
      subst (λ (x : Area). In e (part t x.prefix)) (one_area k good w.0 c (key_at e) w.1 i w.2 p) w.3

  -- the longest pin of a key in a context is the context's
  pub longest_own : (c : Area) (x : Key) → In c k.areas → In x c.entries → IsLongest t.pins x (Some c.prefix)
  longest_own c x i p = (
    pin_there c i,
    (
      good.below c x i p,
      λ q j u.
          let d = area_of_pin q j in
          let l : length d.0.prefix ≤ length c.prefix = good.no_longer c d.0 x i d.1 p (subst (λ (y : Key). IsPrefix y x) d.2 u) in
          let s : length q ≡ length d.0.prefix = ap length d.2 in
          omega arith,
    ),
  )

  -- an entry on the way to a name, at or below the name's longest pin, is in that pin's context
  pub on_way_in : (c : Area) (n : Key) (e : Named) → In c k.areas → IsLongest t.pins n (Some c.prefix) → In e t.entries → IsPrefix (key_at e) n → length c.prefix ≤ length (key_at e)
      → In (key_at e) c.entries
  on_way_in c n e i long j u l =
      let d = area_of_entry e j in
      let dn : IsPrefix d.0.prefix n = prefix_chain d.0.prefix (key_at e) n (good.below d.0 (key_at e) d.1 d.2) u in
      let a : length d.0.prefix ≤ length c.prefix = long.1.1 d.0.prefix (pin_there d.0 d.1) dn in
      let ce : IsPrefix c.prefix (key_at e) = prefix_by_length c.prefix (key_at e) n long.1.0 u l in
      subst (λ (x : Area). In (key_at e) x.entries) (sym (same_area k good c d.0 (key_at e) i d.1 d.2 ce a)) d.2

  -- so is what is at the name itself
  pub at_name_in : (c : Area) (n : Key) (e : Named) → In c k.areas → IsLongest t.pins n (Some c.prefix) → In e t.entries → key_at e ≡ n → In (key_at e) c.entries
  at_name_in c n e i long j s =
      let u : IsPrefix (key_at e) n = subst (λ (x : Key). IsPrefix (key_at e) x) s (prefix_itself (key_at e)) in
      let l : length c.prefix ≤ length n = prefix_length c.prefix n long.1.0 in
      let m : length (key_at e) ≡ length n = ap length s in
      on_way_in c n e i long j u (omega arith)

-- Accepted updates keep knowledge coherent.
use Rattle.std.proofs.Common.{◌≡◌, ◌≢◌, ℕ, ◌+◌, ◌<◌, ◌≤◌, ◌⊎◌, inl, inr, List, [], ◌∷◌, map, length, refl, sym, ap, subst, ◌∙◌, arith, None, zero, suc, ◌-◌, Bool, true, false, if◌then◌else◌, ◌++◌, take, drop, length-drop, length-append}
use Rattle.x5_model.specs.Members.{In, Once}
use Rattle.x5_model.specs.Keys.{Key, root, IsPrefix, parent, is_prefix}
use Rattle.x5_model.proofs.Lists.{in_map, of_map}
use Rattle.x5_model.proofs.Prefixes.{prefix_length, prefix_itself, prefix_chain, parent_length, parent_is_prefix, prefix_of_parent, same_by_length, prefix_decides, prefix_by_length}
use Rattle.x5_model_theory.specs.Knowledge.{Knowledge, Area, Spot, Pointer, IsEntry, IsMastered, IsReferred}
use Rattle.x5_model_theory.specs.Coherent.{Coherent, Climbs, climbs, IsFed, fed}
use Rattle.x5_model_theory.specs.Changing.{holding, with_entries, AddingKeeps, RemovingKeeps, moved, Renames, RenamingKeeps, ReorderingKeeps}
use Rattle.x5_model_theory.proofs.Deciding.{dec_nat, dec_key}
use Rattle.x5_model_theory.proofs.Tests.{each_map}

-- what the other entries have to meet
pub record Fits (k : Knowledge) (f : Area → List Key) : Type 0 where
  pub headed : (c : Area) → In c k.areas → In c.prefix (f c)
  pub below : (c : Area) (e : Key) → In c k.areas → In e (f c) → IsPrefix c.prefix e
  pub closed : (c : Area) (e : Key) → In c k.areas → In e (f c) → (e ≡ c.prefix) ⊎ In (parent e) (f c)
  pub apart : (c : Area) → In c k.areas → Once (f c)
  pub nssr_at : (c : Area) (n : Spot) → In c k.areas → In n c.nssrs → In n.at (f c)
  pub parents : (c : Area) → In c k.areas → (length c.prefix ≡ 1) ⊎ ((d : Area) × In d k.areas × In (parent c.prefix) (f d))
  pub no_longer : (c d : Area) (e : Key) → In c k.areas → In d k.areas → In e (f c) → IsPrefix d.prefix e → length d.prefix ≤ length c.prefix
  pub placed : (r : Pointer) → In r k.subordinate
      → ((c : Area) × In c k.areas × (c.master ≡ r.owner) × In (parent r.pin) (f c)) ⊎ ((length r.pin ≡ 1) × (k.superior r.owner ≡ None))
  pub known : (c d : Area) → In c k.areas → In d k.areas → In (parent d.prefix) (f c)
      → (d.master ≡ c.master) ⊎ (IsReferred k c.master d.prefix ⊎ ((n : Spot) × In n c.nssrs × (n.at ≡ parent d.prefix) × In d.master n.agents))

module _ (k : Knowledge) (f : Area → List Key) (good : Coherent k) (fits : Fits k f) where
  abbrev made : Area → Area
  made c = holding f c

  each : (P : Area → Type 0) → ((c : Area) → In c k.areas → P (made c)) → (c : Area) → In c (map made k.areas) → P c
  each P h = (each_map made P k.areas).0 h

  still : (a : ℕ) (p : Key) → IsMastered k a p → IsMastered (with_entries f k) a p
  still a p m = (made m.0, in_map made m.0 k.areas m.1, m.2, m.3)

  was : (a : ℕ) (p : Key) → IsMastered (with_entries f k) a p → IsMastered k a p
  was a p m =
      let c = of_map made m.0 k.areas m.1 in
      (c.0, c.1, ap (λ (x : Area). x.master) (sym c.2) ∙ m.2, ap (λ (x : Area). x.prefix) (sym c.2) ∙ m.3)

  still_climbs : (n a : ℕ) → Climbs k n a → Climbs (with_entries f k) n a
  still_climbs n a (Climbs.ends e) = Climbs.ends e
  still_climbs n a (climbs {hops = m} {above = b} e c) = climbs e (still_climbs m b c)

  still_fed : (p : Key) (n a : ℕ) → IsFed k p n a → IsFed (with_entries f k) p n a
  still_fed p n a (IsFed.ends m) = IsFed.ends (still a p m)
  still_fed p n a (fed {hops = m} s i c q g) = fed s i c q (still_fed p m s.supplier g)

  same_prefixes : (cs : List Area) → map (λ (c : Area). c.prefix) (map made cs) ≡ map (λ (c : Area). c.prefix) cs
  same_prefixes [] = refl
  same_prefixes (c ∷ cs) = ap (λ (ps : List Key). c.prefix ∷ ps) (same_prefixes cs)

  pub kept : Coherent (with_entries f k)
  kept = record {
    filled = each (λ c. 0 < length c.prefix) good.filled;
    headed = each (λ c. In c.prefix c.entries) fits.headed;
    below = λ c e i. each (λ c. In e c.entries → IsPrefix c.prefix e) (λ d j. fits.below d e j) c i;
    closed = λ c e i. each (λ c. In e c.entries → (e ≡ c.prefix) ⊎ In (parent e) c.entries) (λ d j. fits.closed d e j) c i;
    entries_apart = each (λ c. Once c.entries) fits.apart;
    nssr_at = λ c n i. each (λ c. In n c.nssrs → In n.at c.entries) (λ d j. fits.nssr_at d n j) c i;
    one_nssr = λ c n m i. each (λ c. In n c.nssrs → In m c.nssrs → n.at ≡ m.at → n ≡ m) (λ d j. good.one_nssr d n m j) c i;
    nssr_some = λ c n i. each (λ c. In n c.nssrs → (a : ℕ) × In a n.agents) (λ d j. good.nssr_some d n j) c i;
    once = subst (λ (ps : List Key). Once ps) (sym (same_prefixes k.areas)) good.once;
    parents = each (λ c. (length c.prefix ≡ 1) ⊎ IsEntry (with_entries f k) (parent c.prefix))
        (λ c i. elim (fits.parents c i) [ inl e ↦ inl e | inr d ↦ inr (made d.0, in_map made d.0 k.areas d.1, d.2) ]);
    no_longer = λ c d e i j. each (λ c. In e c.entries → IsPrefix d.prefix e → length d.prefix ≤ length c.prefix)
        (λ x ix l q. each (λ d. IsPrefix d.prefix e → length d.prefix ≤ length x.prefix) (λ y iy r. fits.no_longer x y e ix iy l r) d j q) c i;
    subordinate_right = λ r i. still r.master r.pin (good.subordinate_right r i);
    cross_right = λ r i. still r.master r.pin (good.cross_right r i);
    subordinate_placed = λ r i. elim (fits.placed r i) [ inl c ↦ inl (made c.0, in_map made c.0 k.areas c.1, c.2, c.3) | inr h ↦ inr h ];
    subordinate_shadows = good.subordinate_shadows;
    cross_shadows = good.cross_shadows;
    known_below = λ c d i j. each (λ c. In (parent d.prefix) c.entries → (d.master ≡ c.master) ⊎ (IsReferred k c.master d.prefix ⊎ ((n : Spot) × In n c.nssrs × (n.at ≡ parent d.prefix) × In d.master n.agents)))
        (λ x ix. each (λ d. In (parent d.prefix) (f x) → (d.master ≡ x.master) ⊎ (IsReferred k x.master d.prefix ⊎ ((n : Spot) × In n x.nssrs × (n.at ≡ parent d.prefix) × In d.master n.agents)))
        (λ y iy. fits.known x y ix iy) d j) c i;
    nssr_once = λ c n i. each (λ c. In n c.nssrs → Once n.agents) (λ d j. good.nssr_once d n j) c i;
    nssr_others = λ c n i. each (λ c. In n c.nssrs → In c.master n.agents → ⊥) (λ d j. good.nssr_others d n j) c i;
    nssr_masters = λ c n a i. each (λ c. In n c.nssrs → In a n.agents → (d : Area) × In d (map made k.areas) × (d.master ≡ a) × (parent d.prefix ≡ n.at))
        (λ x ix j l. (let d = good.nssr_masters x n a ix j l in (made d.0, in_map made d.0 k.areas d.1, d.2, d.3))) c i;
    first_level = λ a d ia first i. each (λ d. length d.prefix ≡ 1 → (d.master ≡ a) ⊎ IsReferred k a d.prefix) (λ x ix one. good.first_level a x ia first ix one) d i;
    chain = λ a i. still_climbs 16 a (good.chain a i);
    consumers = λ s i m. good.consumers s i (was s.consumer s.prefix m);
    one_supply = good.one_supply;
    supplied = λ s i. still_fed s.prefix 4 s.consumer (good.supplied s i);
  }

-- an entry more
pub adding_keeps : AddingKeeps
adding_keeps k f c e good a = kept k f good (record {
  headed = λ d i. old d d.prefix i (good.headed d i);
  below = λ d x i j. elim (is d x i j) [
    | inl l ↦ good.below d x i l
    | inr w ↦ subst (λ (y : Key). IsPrefix d.prefix y) (sym w.0) (subst (λ (y : Area). IsPrefix y.prefix e) (sym w.1) own)
  ];
  closed = λ d x i j. elim (is d x i j) [
    | inl l ↦ elim (good.closed d x i l) [ inl s ↦ inl s | inr u ↦ inr (old d (parent x) i u) ]
    | inr w ↦ inr (old d (parent x) i (subst (λ (y : Key). In (parent y) d.entries) (sym w.0) (subst (λ (y : Area). In (parent e) y.entries) (sym w.1) a.below)))
  ];
  apart = a.once;
  nssr_at = λ d n i j. old d n.at i (good.nssr_at d n i j);
  parents = λ d i. elim (good.parents d i) [ inl s ↦ inl s | inr u ↦ inr (u.0, u.1, old u.0 (parent d.prefix) u.1 u.2) ];
  no_longer = λ d q x i iq j p. elim (is d x i j) [
    | inl l ↦ good.no_longer d q x i iq l p
    | inr w ↦ subst (λ (y : Area). length q.prefix ≤ length y.prefix) (sym w.1) (short q iq (subst (λ (y : Key). IsPrefix q.prefix y) w.0 p))
  ];
  placed = λ r i. elim (good.subordinate_placed r i) [ inl u ↦ inl (u.0, u.1, u.2, old u.0 (parent r.pin) u.1 u.3) | inr h ↦ inr h ];
  known = λ d q i iq j. elim (is d (parent q.prefix) i j) [
    | inl l ↦ good.known_below d q i iq l
    | inr w ↦ absurd (not_parent q iq w.0)
  ];
})
  where
    old : (d : Area) (x : Key) → In d k.areas → In x d.entries → In x (f d)
    old d x i j = (a.members d x i).1 (inl j)

    is : (d : Area) (x : Key) → In d k.areas → In x (f d) → In x d.entries ⊎ ((x ≡ e) × (d ≡ c))
    is d x i j = (a.members d x i).0 j

    own : IsPrefix c.prefix e
    own = prefix_chain c.prefix (parent e) e (good.below c (parent e) a.mine a.below) (parent_is_prefix e)

    -- a pin on the way to it was on the way to its parent
    short : (q : Area) → In q k.areas → IsPrefix q.prefix e → length q.prefix ≤ length c.prefix
    short q iq p =
        let le : length q.prefix ≤ length e = prefix_length q.prefix e p in
        elim (dec_nat (length q.prefix) (length e)) [
          | inl level ↦ absurd (a.new (q, iq, subst (λ (y : Key). In y q.entries) (same_by_length q.prefix e e p (prefix_itself e) level) (good.headed q iq)))
          | inr other ↦ good.no_longer c q (parent e) a.mine iq a.below (prefix_of_parent q.prefix e p (omega (arith, other)))
        ]

    -- no pin stands just below it, since each pin's parent was there
    not_parent : (q : Area) → In q k.areas → parent q.prefix ≡ e → ⊥
    not_parent q iq s =
        elim (good.parents q iq) [
          | inl one ↦
              let up : length (parent q.prefix) + 1 ≡ length q.prefix = parent_length q.prefix (good.filled q iq) in
              let l : length (parent q.prefix) ≡ length e = ap length s in
              let h : 0 < length e = a.filled in
              omega arith
          | inr u ↦ a.new (subst (λ (y : Key). IsEntry k y) s u)
        ]

-- an entry less
pub removing_keeps : RemovingKeeps
removing_keeps k f e good r = kept k f good (record {
  headed = λ d i. stay d d.prefix i (good.headed d i) (λ s. r.no_pin d i (subst (λ (y : Key). IsPrefix y d.prefix) s (prefix_itself d.prefix)));
  below = λ d x i j. good.below d x i (is d x i j);
  closed = λ d x i j. elim (good.closed d x i (is d x i j)) [
    | inl s ↦ inl s
    | inr u ↦ inr (stay d (parent x) i u (λ s. not_above d x i j s))
  ];
  apart = r.once;
  nssr_at = λ d n i j. stay d n.at i (good.nssr_at d n i j) (λ s.
      (let some = good.nssr_some d n i j in
      let q = good.nssr_masters d n some.0 i j some.1 in
      no_child q.0 q.1 (q.3 ∙ s)));
  parents = λ d i. elim (good.parents d i) [ inl s ↦ inl s | inr u ↦ inr (u.0, u.1, stay u.0 (parent d.prefix) u.1 u.2 (no_child d i)) ];
  no_longer = λ d q x i iq j p. good.no_longer d q x i iq (is d x i j) p;
  placed = λ p i. elim (good.subordinate_placed p i) [
    | inl u ↦ inl (u.0, u.1, u.2, stay u.0 (parent p.pin) u.1 u.3 (λ s. (let m = good.subordinate_right p i in no_child m.0 m.1 (ap parent m.3 ∙ s))))
    | inr h ↦ inr h
  ];
  known = λ d q i iq j. good.known_below d q i iq (is d (parent q.prefix) i j);
})
  where
    stay : (d : Area) (x : Key) → In d k.areas → In x d.entries → x ≢ e → In x (f d)
    stay d x i j n = (r.members d x i).1 (j, n)

    is : (d : Area) (x : Key) → In d k.areas → In x (f d) → In x d.entries
    is d x i j = ((r.members d x i).0 j).0

    no_child : (q : Area) → In q k.areas → parent q.prefix ≡ e → ⊥
    no_child q iq s = r.no_pin q iq (subst (λ (y : Key). IsPrefix y q.prefix) s (parent_is_prefix q.prefix))

    -- what stays isn't below it
    not_above : (d : Area) (x : Key) → In d k.areas → In x (f d) → parent x ≡ e → ⊥
    not_above d x i j s =
        let m = (r.members d x i).0 j in
        m.1 (r.above_none x (d, i, m.0) (subst (λ (y : Key). IsPrefix y x) s (parent_is_prefix x)))

-- ---- an entry with another last RDN

take_front : {A : Type 0} (n : ℕ) (xs ys : List A) → n ≤ length xs → take n (xs ++ ys) ≡ take n xs
take_front zero xs ys h = refl
take_front (suc n) [] ys h = absurd (omega arith)
take_front {A} (suc n) (x ∷ xs) ys h = ap (λ (zs : List A). x ∷ zs) (take_front n xs ys (omega arith))

take_past : {A : Type 0} (xs ys : List A) (m : ℕ) → take (length xs + m) (xs ++ ys) ≡ xs ++ take m ys
take_past {A} [] ys m = ap (λ (n : ℕ). take n ys) (let e : 0 + m ≡ m = omega arith in e)
take_past {A} (x ∷ xs) ys m =
    let e : suc (length xs) + m ≡ suc (length xs + m) = omega arith in
    ap (λ (n : ℕ). take n (x ∷ (xs ++ ys))) e ∙ ap (λ (zs : List A). x ∷ zs) (take_past xs ys m)

take_none : (j : ℕ) → root ≡ take j root
take_none zero = refl
take_none (suc j) = refl

drop_take : (n m : ℕ) (xs : Key) → drop n (take (n + m) xs) ≡ take m (drop n xs)
drop_take zero m xs = ap (λ (k : ℕ). take k xs) (let e : 0 + m ≡ m = omega arith in e)
drop_take (suc n) m [] =
    let e : suc n + m ≡ suc (n + m) = omega arith in
    ap (λ (k : ℕ). drop (suc n) (take k root)) e ∙ take_none m
drop_take (suc n) m (x ∷ xs) =
    let e : suc n + m ≡ suc (n + m) = omega arith in
    ap (λ (k : ℕ). drop (suc n) (take k (x ∷ xs))) e ∙ drop_take n m xs

module _ (k : Knowledge) (f : Area → List Key) (e n : Key) (good : Coherent k) (r : Renames k f e n) where
  same_length : length n ≡ length e
  same_length =
      let a : length (parent n) + 1 ≡ length n = parent_length n r.level.0 in
      let b : length (parent e) + 1 ≡ length e = parent_length e r.filled in
      let c : length (parent n) ≡ length (parent e) = ap length r.level.1 in
      omega arith

  -- what isn't below stays
  stays : (x : Key) → (IsPrefix e x → ⊥) → moved e n x ≡ x
  stays x h = go (is_prefix e x) (λ t. h ((prefix_decides e x).0 t))
    where
      go : (b : Bool) → (b ≡ true → ⊥) → (if b then n ++ drop (length e) x else x) ≡ x
      go true g = absurd (g refl)
      go false g = refl

  goes : (x : Key) → IsPrefix e x → moved e n x ≡ n ++ drop (length e) x
  goes x h = ap (λ (b : Bool). if b then n ++ drop (length e) x else x) ((prefix_decides e x).1 h)

  dec_below : (x : Key) → IsPrefix e x ⊎ (IsPrefix e x → ⊥)
  dec_below x = dec_key (take (length e) x) e

  keeps : (d : Area) (x : Key) → In d k.areas → In x d.entries → (IsPrefix e x → ⊥) → In x (f d)
  keeps d x i j h = (r.members d x i).1 (x, j, sym (stays x h))

  -- a pin's parent isn't below
  pin_apart : (q : Area) → In q k.areas → IsPrefix e (parent q.prefix) → ⊥
  pin_apart q iq p = r.no_pin q iq (prefix_chain e (parent q.prefix) q.prefix p (parent_is_prefix q.prefix))

  -- what stands above an entry is an entry
  above_entry : (bound : ℕ) (x : Key) → length x ≤ bound → IsEntry k x → IsPrefix n x → IsEntry k n
  above_entry zero x small there p = (let a : length n ≤ length x = prefix_length n x p in let b : 0 < length n = r.level.0 in absurd (omega arith))
  above_entry (suc bound) x small there p =
      let le : length n ≤ length x = prefix_length n x p in
      elim (dec_nat (length n) (length x)) [
        | inl same ↦ subst (λ (y : Key). IsEntry k y) (sym (same_by_length n x x p (prefix_itself x) same)) there
        | inr other ↦
            let less : length n < length x = omega (arith, other) in
            let up : IsPrefix n (parent x) = prefix_of_parent n x p less in
            let pl : length (parent x) + 1 ≡ length x = parent_length x (omega arith) in
            elim (good.closed there.0 x there.1 there.2) [
              | inl s ↦ elim (good.parents there.0 there.1) [
                | inl one ↦
                    let l : length x ≡ length there.0.prefix = ap length s in
                    let b : 0 < length n = r.level.0 in
                    absurd (omega arith)
                | inr u ↦ above_entry bound (parent x) (omega arith) (subst (λ (y : Key). IsEntry k (parent y)) (sym s) u) up
              ]
              | inr u ↦ above_entry bound (parent x) (omega arith) (there.0, there.1, u) up
            ]
      ]

  no_pin_new : (q : Area) → In q k.areas → IsPrefix n q.prefix → ⊥
  no_pin_new q iq p = r.new (above_entry (length q.prefix) q.prefix (omega arith) (q, iq, good.headed q iq) p)

  new_front : (x : Key) → IsPrefix n (n ++ x)
  new_front x = take_front (length n) n x (omega arith) ∙ prefix_itself n

  -- a context of an entry below begins above both names
  begins_above : (d : Area) (y : Key) → In d k.areas → In y d.entries → IsPrefix e y → IsPrefix d.prefix (parent e)
  begins_above d y i j p =
      let dy : IsPrefix d.prefix y = good.below d y i j in
      let short : length e ≤ length d.prefix → ⊥ = λ h. r.no_pin d i (prefix_by_length e d.prefix y p dy h) in
      let less : length d.prefix < length e = omega (arith, short) in
      prefix_of_parent d.prefix e (prefix_by_length d.prefix e y dy p (omega arith)) less

  -- the parent of a name that moves moves, or stays above
  moved_parent : (y : Key) → IsPrefix e y → length e < length y → parent (n ++ drop (length e) y) ≡ n ++ drop (length e) (parent y)
  moved_parent y p less =
      let dl : length (drop (length e) y) ≡ length y - length e = omega (arith, length-drop (length e) y) in
      let al : length (n ++ drop (length e) y) ≡ length n + length (drop (length e) y) = omega (arith, length-append n (drop (length e) y)) in
      let sl : length n ≡ length e = same_length in
      let m : ℕ = length y - length e - 1 in
      let a : length (n ++ drop (length e) y) - 1 ≡ length n + (length y - length e - 1) = omega arith in
      let b : length y - 1 ≡ length e + (length y - length e - 1) = omega arith in
      ap (λ (j : ℕ). take j (n ++ drop (length e) y)) a
      ∙ take_past n (drop (length e) y) (length y - length e - 1)
      ∙ ap (λ (zs : Key). n ++ zs) (sym (drop_take (length e) (length y - length e - 1) y) ∙ ap (λ (j : ℕ). drop (length e) (take j y)) (sym b))

  new_parent : (d : Area) (y : Key) → In d k.areas → In y d.entries → IsPrefix e y → In (parent y) d.entries → In (parent (n ++ drop (length e) y)) (f d)
  new_parent d y i j p up =
      elim (dec_nat (length e) (length y)) [
        | inl same ↦
            let is : e ≡ y = same_by_length e y y p (prefix_itself y) same in
            let none : drop (length e) y ≡ [] = drop_all (length e) y (omega arith) in
            let at : parent (n ++ drop (length e) y) ≡ parent y = ap (λ (zs : Key). parent (n ++ zs)) none ∙ ap parent (append_nil n) ∙ r.level.1 ∙ ap parent is in
            let short : IsPrefix e (parent y) → ⊥ = λ q.
            let a : length e ≤ length (parent y) = prefix_length e (parent y) q in
            let b : length (parent y) + 1 ≡ length y = (let h : 0 < length e = r.filled in parent_length y (omega arith)) in
            omega arith in
            subst (λ (z : Key). In z (f d)) (sym at) (keeps d (parent y) i up short)
        | inr other ↦
            let le : length e ≤ length y = prefix_length e y p in
            let less : length e < length y = omega (arith, other) in
            let q : IsPrefix e (parent y) = prefix_of_parent e y p less in
            (r.members d (parent (n ++ drop (length e) y)) i).1 (parent y, up, moved_parent y p less ∙ sym (goes (parent y) q))
      ]
    where
      drop_all : (j : ℕ) (xs : Key) → length xs ≤ j → drop j xs ≡ []
      drop_all zero [] h = refl
      drop_all zero (x ∷ xs) h = absurd (omega arith)
      drop_all (suc j) [] h = refl
      drop_all (suc j) (x ∷ xs) h = drop_all j xs (omega arith)

      append_nil : (xs : Key) → xs ++ [] ≡ xs
      append_nil [] = refl
      append_nil (x ∷ xs) = ap (λ (zs : Key). x ∷ zs) (append_nil xs)

  renamed : Coherent (with_entries f k)
  renamed = kept k f good (record {
    headed = λ d i. keeps d d.prefix i (good.headed d i) (r.no_pin d i);
    below = λ d x i j. (let y = (r.members d x i).0 j in
        elim (dec_below y.0) [
          | inr h ↦ subst (λ (z : Key). IsPrefix d.prefix z) (sym (y.2 ∙ stays y.0 h)) (good.below d y.0 i y.1)
          | inl h ↦
              let up : IsPrefix d.prefix n = prefix_chain d.prefix (parent n) n (subst (λ (z : Key). IsPrefix d.prefix z) (sym r.level.1) (begins_above d y.0 i y.1 h)) (parent_is_prefix n) in
              subst (λ (z : Key). IsPrefix d.prefix z) (sym (y.2 ∙ goes y.0 h)) (prefix_chain d.prefix n (n ++ drop (length e) y.0) up (new_front (drop (length e) y.0)))
        ]);
    closed = λ d x i j. (let y = (r.members d x i).0 j in
        elim (dec_below y.0) [
          | inr h ↦
              let is : x ≡ y.0 = y.2 ∙ stays y.0 h in
              elim (good.closed d y.0 i y.1) [
                | inl s ↦ inl (is ∙ s)
                | inr u ↦ inr (subst (λ (z : Key). In (parent z) (f d)) (sym is) (keeps d (parent y.0) i u (λ p. h (prefix_chain e (parent y.0) y.0 p (parent_is_prefix y.0)))))
              ]
          | inl h ↦ elim (good.closed d y.0 i y.1) [
            | inl s ↦ absurd (r.no_pin d i (subst (λ (z : Key). IsPrefix e z) s h))
            | inr u ↦ inr (subst (λ (z : Key). In (parent z) (f d)) (sym (y.2 ∙ goes y.0 h)) (new_parent d y.0 i y.1 h u))
          ]
        ]);
    apart = r.once;
    nssr_at = λ d s i j. keeps d s.at i (good.nssr_at d s i j) (λ p.
        (let some = good.nssr_some d s i j in
        let q = good.nssr_masters d s some.0 i j some.1 in
        pin_apart q.0 q.1 (subst (λ (z : Key). IsPrefix e z) (sym q.3) p)));
    parents = λ d i. elim (good.parents d i) [ inl s ↦ inl s | inr u ↦ inr (u.0, u.1, keeps u.0 (parent d.prefix) u.1 u.2 (pin_apart d i)) ];
    no_longer = λ d q x i iq j p. (let y = (r.members d x i).0 j in
        elim (dec_below y.0) [
          | inr h ↦ good.no_longer d q y.0 i iq y.1 (subst (λ (z : Key). IsPrefix q.prefix z) (y.2 ∙ stays y.0 h) p)
          | inl h ↦
              let long : Key = n ++ drop (length e) y.0 in
              let pq : IsPrefix q.prefix (n ++ drop (length e) y.0) = subst (λ (z : Key). IsPrefix q.prefix z) (y.2 ∙ goes y.0 h) p in
              let far : length n ≤ length q.prefix → ⊥ = λ l. no_pin_new q iq (prefix_by_length n q.prefix (n ++ drop (length e) y.0) (new_front (drop (length e) y.0)) pq l) in
              let less : length q.prefix < length n = omega (arith, far) in
              let qn : IsPrefix q.prefix n = prefix_by_length q.prefix n (n ++ drop (length e) y.0) pq (new_front (drop (length e) y.0)) (omega arith) in
              let qe : IsPrefix q.prefix (parent e) = subst (λ (z : Key). IsPrefix q.prefix z) r.level.1 (prefix_of_parent q.prefix n qn less) in
              good.no_longer d q y.0 i iq y.1 (prefix_chain q.prefix (parent e) y.0 qe (prefix_chain (parent e) e y.0 (parent_is_prefix e) h))
        ]);
    placed = λ s i. elim (good.subordinate_placed s i) [
      | inl u ↦ inl (u.0, u.1, u.2, keeps u.0 (parent s.pin) u.1 u.3 (λ p. (let m = good.subordinate_right s i in pin_apart m.0 m.1 (subst (λ (z : Key). IsPrefix e (parent z)) (sym m.3) p))))
      | inr h ↦ inr h
    ];
    known = λ d q i iq j. (let y = (r.members d (parent q.prefix) i).0 j in
        elim (dec_below y.0) [
          | inr h ↦ good.known_below d q i iq (subst (λ (z : Key). In z d.entries) (sym (y.2 ∙ stays y.0 h)) y.1)
          | inl h ↦ absurd (no_pin_new q iq (prefix_chain n (parent q.prefix) q.prefix (subst (λ (z : Key). IsPrefix n z) (sym (y.2 ∙ goes y.0 h)) (new_front (drop (length e) y.0))) (parent_is_prefix q.prefix)))
        ]);
  })

pub renaming_keeps : RenamingKeeps
renaming_keeps k f e n good r = renamed k f e n good r

-- the same entries in another order
pub reordering_keeps : ReorderingKeeps
reordering_keeps k f good r = kept k f good (record {
  headed = λ d i. to d d.prefix i (good.headed d i);
  below = λ d x i j. good.below d x i (of d x i j);
  closed = λ d x i j. elim (good.closed d x i (of d x i j)) [ inl s ↦ inl s | inr u ↦ inr (to d (parent x) i u) ];
  apart = r.once;
  nssr_at = λ d n i j. to d n.at i (good.nssr_at d n i j);
  parents = λ d i. elim (good.parents d i) [ inl s ↦ inl s | inr u ↦ inr (u.0, u.1, to u.0 (parent d.prefix) u.1 u.2) ];
  no_longer = λ d q x i iq j p. good.no_longer d q x i iq (of d x i j) p;
  placed = λ p i. elim (good.subordinate_placed p i) [ inl u ↦ inl (u.0, u.1, u.2, to u.0 (parent p.pin) u.1 u.3) | inr h ↦ inr h ];
  known = λ d q i iq j. good.known_below d q i iq (of d (parent q.prefix) i j);
})
  where
    to : (d : Area) (x : Key) → In d k.areas → In x d.entries → In x (f d)
    to d x i j = (r.members d x i).1 j

    of : (d : Area) (x : Key) → In d k.areas → In x (f d) → In x d.entries
    of d x i j = (r.members d x i).0 j

-- Where an agent looks from for a list or search.
use Rattle.std.proofs.Common.{◌≡◌, ℕ, zero, suc, ◌+◌, ◌-◌, ◌<◌, ◌≤◌, true, false, ◌⊎◌, inl, inr, List, [], ◌∷◌, length, take, refl, sym, ap, subst, ◌∙◌, arith, None}
use Rattle.x5_model.specs.Keys.{Key, IsPrefix, parent}
use Rattle.x5_model.specs.Requests.{Subset, Base, OneLevel, WholeSubtree}
use Rattle.x5_model.specs.Members.{In, here, there}
use Rattle.x5_model_theory.specs.Knowledge.{Knowledge, Area, Spot, IsReferred}
use Rattle.x5_model_theory.specs.Coherent.{Coherent}
use Rattle.x5_model_theory.specs.Scopes.{Laid, with_root, root_of, InSubset, IsInScope, start, InSpecific}
use Rattle.x5_model_theory.specs.Looking.{BaseMayLook, RootMayLook, PinsMayLook, EntriesAreTouched, narrowed, SpecificLeads, IsAskedFor, NonSpecificLeads, SameEntries, SameWideEntries, SpecificCovers, NonSpecificCovers}
use Rattle.x5_model.proofs.Lists.{in_first}
use Rattle.x5_model.proofs.Prefixes.{prefix_by_length, same_by_length, prefix_length, prefix_itself, prefix_chain, parent_length, parent_is_prefix}
use Rattle.x5_model_theory.proofs.Deciding.{dec_nat}
use Rattle.x5_model_theory.proofs.Cohering.{one_master}
use Rattle.x5_model_theory.proofs.Scoping.{in_subset_below, held_on_way, is_context}

-- the contexts of the tree
pub laid : (k : Knowledge) → Coherent k → Laid k
laid k good = record {
  one_master = λ c d i j e. one_master k c d good i j e;
  parents = λ r q ir iq less. elim (good.parents q iq) [ inl one ↦ let h : 0 < length r.prefix = good.filled r ir in absurd (omega arith) | inr w ↦ w ];
  below = good.below;
  no_longer = good.no_longer;
  nssr_at = good.nssr_at;
  one_nssr = good.one_nssr;
  known_below = λ c d ic id f up. good.known_below c d ic id up;
}

only_root : (e : Key) → In e ([] ∷ []) → e ≡ []
only_root e i = elim (in_first e [] [] i) [ inl same ↦ same | inr j ↦ elim j [ ] ]

pub root_parent : (p : Key) → length p ≡ 1 → parent p ≡ []
root_parent p h = let e : length p - 1 ≡ 0 = omega arith in ap (λ (n : ℕ). take n p) e

-- and these and the root
module _ (k : Knowledge) (agent : ℕ) (good : Coherent k) (is : In agent k.agents) (first : k.superior agent ≡ None) where
  cases : (P : Area → Type 0) → P (root_of agent) → ((c : Area) → In c k.areas → P c) → (c : Area) → In c (root_of agent ∷ k.areas) → P c
  cases P r f c i = elim (in_first c (root_of agent) k.areas i) [ inl e ↦ subst P (sym e) r | inr j ↦ f c j ]

  rooted_one : (c d : Area) → In c (root_of agent ∷ k.areas) → In d (root_of agent ∷ k.areas) → c.prefix ≡ d.prefix → c ≡ d
  rooted_one c d i j e =
      elim (in_first c (root_of agent) k.areas i) [
        | inl a ↦ elim (in_first d (root_of agent) k.areas j) [
          | inl b ↦ a ∙ sym b
          | inr b ↦
              let f : 0 < length d.prefix = good.filled d b in
              let z : length c.prefix ≡ 0 = ap (λ (x : Area). length x.prefix) a in
              let s : length c.prefix ≡ length d.prefix = ap length e in
              absurd (omega arith)
        ]
        | inr a ↦ elim (in_first d (root_of agent) k.areas j) [
          | inl b ↦
              let f : 0 < length c.prefix = good.filled c a in
              let z : length d.prefix ≡ 0 = ap (λ (x : Area). length x.prefix) b in
              let s : length c.prefix ≡ length d.prefix = ap length e in
              absurd (omega arith)
          | inr b ↦ one_master k c d good a b e
        ]
      ]

  rooted_parents : (r q : Area) → In r (root_of agent ∷ k.areas) → In q (root_of agent ∷ k.areas) → length r.prefix < length q.prefix
      → (d : Area) × In d (root_of agent ∷ k.areas) × In (parent q.prefix) d.entries
  rooted_parents r q ir iq less =
      elim (in_first q (root_of agent) k.areas iq) [
        | inl a ↦ let z : length q.prefix ≡ 0 = ap (λ (x : Area). length x.prefix) a in absurd (omega arith)
        | inr a ↦ elim (good.parents q a) [
          | inl one ↦ (root_of agent, here, subst (λ (x : Key). In x ([] ∷ [])) (sym (root_parent q.prefix one)) here)
          | inr w ↦ (w.0, there w.1, w.2)
        ]
      ]

  rooted_below : (c : Area) (e : Key) → In c (root_of agent ∷ k.areas) → In e c.entries → IsPrefix c.prefix e
  rooted_below c e i ie = cases (λ x. In e x.entries → IsPrefix x.prefix e) (λ j. refl) (λ d id j. good.below d e id j) c i ie

  rooted_no_longer : (c d : Area) (e : Key) → In c (root_of agent ∷ k.areas) → In d (root_of agent ∷ k.areas) → In e c.entries → IsPrefix d.prefix e → length d.prefix ≤ length c.prefix
  rooted_no_longer c d e ic id ie p =
      cases (λ x. In e x.entries → IsPrefix d.prefix e → length d.prefix ≤ length x.prefix)
      (λ j q. let z : length e ≡ 0 = ap length (only_root e j) in omega (arith, prefix_length d.prefix e q))
      (λ x ix j q. cases (λ y. IsPrefix y.prefix e → length y.prefix ≤ length x.prefix) (λ q. omega arith) (λ y iy q. good.no_longer x y e ix iy j q) d id q)
      c ic ie p

  rooted_nssr_at : (c : Area) (n : Spot) → In c (root_of agent ∷ k.areas) → In n c.nssrs → In n.at c.entries
  rooted_nssr_at c n i j = cases (λ x. In n x.nssrs → In n.at x.entries) (λ j. elim j [ ]) (λ d id j. good.nssr_at d n id j) c i j

  rooted_one_nssr : (c : Area) (n m : Spot) → In c (root_of agent ∷ k.areas) → In n c.nssrs → In m c.nssrs → n.at ≡ m.at → n ≡ m
  rooted_one_nssr c n m i a b e = cases (λ x. In n x.nssrs → In m x.nssrs → n ≡ m) (λ j h. elim j [ ]) (λ d id j h. good.one_nssr d n m id j h e) c i a b

  IsKnown : Area → Area → Type 0
  IsKnown c d = (d.master ≡ c.master) ⊎ (IsReferred k c.master d.prefix ⊎ ((n : Spot) × In n c.nssrs × (n.at ≡ parent d.prefix) × In d.master n.agents))

  rooted_known : (c d : Area) → In c (root_of agent ∷ k.areas) → In d (root_of agent ∷ k.areas) → 0 < length d.prefix → In (parent d.prefix) c.entries → IsKnown c d
  unfolding IsKnown
  rooted_known c d ic id f up =
      elim (in_first d (root_of agent) k.areas id) [
        | inl a ↦ let z : length d.prefix ≡ 0 = ap (λ (x : Area). length x.prefix) a in absurd (omega arith)
        | inr jd ↦ cases (λ x. In (parent d.prefix) x.entries → IsKnown x d)
            (λ j.
            let z : length (parent d.prefix) ≡ 0 = ap length (only_root (parent d.prefix) j) in
            let one : length d.prefix ≡ 1 = omega (arith, parent_length d.prefix f) in
            elim (good.first_level agent d is first jd one) [ inl own ↦ inl own | inr r ↦ inr (inl r) ])
            (λ x ix j. good.known_below x d ix jd j)
            c ic up
      ]

  pub laid_with_root : Laid (with_root agent k)
  unfolding IsKnown
  laid_with_root = record {
    one_master = rooted_one;
    parents = rooted_parents;
    below = rooted_below;
    no_longer = rooted_no_longer;
    nssr_at = rooted_nssr_at;
    one_nssr = rooted_one_nssr;
    known_below = rooted_known;
  }

only_one : {A : Type 0} (x y : A) → In y (x ∷ []) → y ≡ x
only_one x y i = elim (in_first y x [] i) [ inl e ↦ e | inr j ↦ elim j [ ] ]

pub base_may_look : BaseMayLook
base_may_look k agent holds c subset base good own ic ib = record {
  laid = laid k good;
  contexts = λ r i. subst (λ (x : Area). In x k.areas) (sym (only_one c r i)) ic;
  apart = λ r s i j p. only_one c r i ∙ sym (only_one c s j);
  base_low = λ r d i id p. subst (λ (x : Area). length d.prefix ≤ length x.prefix) (sym (only_one c r i)) (good.no_longer c d base ic id ib p);
  own = λ q i f e. own q i e;
}

pub root_may_look : RootMayLook
root_may_look k agent holds subset good own is first = record {
  laid = laid_with_root k agent good is first;
  contexts = λ r i. subst (λ (x : Area). In x (root_of agent ∷ k.areas)) (sym (only_one (root_of agent) r i)) here;
  apart = λ r s i j p. only_one (root_of agent) r i ∙ sym (only_one (root_of agent) s j);
  base_low = λ r d i id p. omega (arith, prefix_length d.prefix [] p);
  own = λ q i f e. elim (in_first q (root_of agent) k.areas i) [
    | inl a ↦ let z : length q.prefix ≡ 0 = ap (λ (x : Area). length x.prefix) a in absurd (omega arith)
    | inr j ↦ own q j e
  ];
}

pub pins_may_look : PinsMayLook
pins_may_look k agent holds pins subset at good own pin = record {
  laid = laid k good;
  contexts = λ r i. (pin r i).0;
  apart = λ r s i j p.
      let f : 0 < length r.prefix = good.filled r (pin r i).0 in
      let g : 0 < length s.prefix = good.filled s (pin s j).0 in
      let a : length (parent r.prefix) ≡ length at = ap length (pin r i).1 in
      let b : length (parent s.prefix) ≡ length at = ap length (pin s j).1 in
      let e : length r.prefix ≡ length s.prefix = omega (arith, parent_length r.prefix f, parent_length s.prefix g) in
      one_master k r s good (pin r i).0 (pin s j).0 (same_by_length r.prefix s.prefix s.prefix p (prefix_itself s.prefix) e);
  base_low = λ r d i id p.
      let f : 0 < length r.prefix = good.filled r (pin r i).0 in
      let a : length (parent r.prefix) ≡ length at = ap length (pin r i).1 in
      omega (arith, parent_length r.prefix f, prefix_length d.prefix at p);
  own = λ q i f e. own q i e;
}

dec_le : (n m : ℕ) → (n ≤ m) ⊎ (m < n)
dec_le zero m = inl (omega arith)
dec_le (suc n) zero = inr (omega arith)
dec_le (suc n) (suc m) = elim (dec_le n m) [ inl h ↦ inl (omega arith) | inr h ↦ inr (omega arith) ]

-- a pin longer than the base, above an entry of the subset, is in the subset
subset_between : (s : Subset) (base p e : Key) → IsPrefix p e → length base < length p → InSubset s base e → InSubset s base p
subset_between Base base p e pe less w =
    let le : length p ≤ length base = subst (λ (x : Key). length p ≤ length x) w (prefix_length p e pe) in
    absurd (omega arith)
subset_between OneLevel base p e pe less w =
    let le : length p ≤ length e = prefix_length p e pe in
    let h : length e ≡ length base + 1 = w.0 in
    (omega arith, prefix_by_length base p e w.1 pe (omega arith))
subset_between WholeSubtree base p e pe less w = prefix_by_length base p e w pe (omega arith)

-- the base is on the way to each entry of the subset
base_on_way : (s : Subset) (base e : Key) → InSubset s base e → IsPrefix base e
base_on_way Base base e w = subst (λ (x : Key). IsPrefix base x) (sym w) (prefix_itself base)
base_on_way OneLevel base e w = w.1
base_on_way WholeSubtree base e w = w

pub entries_are_touched : EntriesAreTouched
entries_are_touched l d r e may id ie ir re w =
    let de : IsPrefix d.prefix e = may.laid.below d e id ie in
    let rd : length r.prefix ≤ length d.prefix = may.laid.no_longer d r e id (may.contexts r ir) ie re in
    let rp : IsPrefix r.prefix d.prefix = prefix_by_length r.prefix d.prefix e re de rd in
    elim (dec_nat (length r.prefix) (length d.prefix)) [
      | inl level ↦ inl (subst (λ (x : Area). In x l.starts) (may.laid.one_master r d (may.contexts r ir) id (same_by_length r.prefix d.prefix d.prefix rp (prefix_itself d.prefix) level)) ir)
      | inr other ↦
          let more : length l.base < length d.prefix = elim (dec_le (length d.prefix) (length l.base)) [
            | inl le ↦
                let short : length d.prefix ≤ length r.prefix = may.base_low r d ir id (prefix_by_length d.prefix l.base e de (base_on_way l.subset l.base e w) le) in
                absurd (omega (arith, other))
            | inr h ↦ h
          ] in
          inr (r, ir, rp, subset_between l.subset l.base d.prefix e de more w)
    ]

-- of two children of one entry on one way, each is the other
child_same : (base p q : Key) → length p ≡ length base + 1 → length q ≡ length base + 1 → IsPrefix p q → q ≡ p
child_same base p q a b h = sym (same_by_length p q q h (prefix_itself q) (omega arith))

-- on the way below a pin of the subset, the subset is that of the sub-request
narrow : (s : Subset) (base p q : Key) → InSubset s base p → IsPrefix p q → InSubset s base q → InSubset (narrowed s) p q
narrow Base base p q w h v = v ∙ sym w
narrow OneLevel base p q w h v = child_same base p q w.0 v.0 h
narrow WholeSubtree base p q w h v = h

widen : (s : Subset) (base p q : Key) → InSubset s base p → InSubset (narrowed s) p q → InSubset s base q
widen Base base p q w v = v ∙ w
widen OneLevel base p q w v = subst (λ (x : Key). InSubset OneLevel base x) (sym v) w
widen WholeSubtree base p q w v = prefix_chain base p q w v

narrowed_below : (s : Subset) (p q : Key) → InSubset (narrowed s) p q → IsPrefix p q
narrowed_below Base p q v = subst (λ (x : Key). IsPrefix p x) (sym v) (prefix_itself p)
narrowed_below OneLevel p q v = subst (λ (x : Key). IsPrefix p x) (sym v) (prefix_itself p)
narrowed_below WholeSubtree p q v = v

pub same_entries : SameEntries
same_entries l pin q e s h = (narrow l.subset l.base pin.prefix e s.within h, widen l.subset l.base pin.prefix e s.within)

-- the same below an entry in scope
wide_narrow : (s : Subset) (base at q : Key) → IsInScope s base at → IsPrefix at q → InSubset s base q → InSubset s at q
wide_narrow Base base at q i h v = absurd i
wide_narrow OneLevel base at q i h v = subst (λ (x : Key). InSubset OneLevel x q) (sym i) v
wide_narrow WholeSubtree base at q i h v = h

wide_widen : (s : Subset) (base at q : Key) → IsInScope s base at → InSubset s at q → InSubset s base q
wide_widen Base base at q i v = absurd i
wide_widen OneLevel base at q i v = subst (λ (x : Key). InSubset OneLevel x q) i v
wide_widen WholeSubtree base at q i v = prefix_chain base at q i v

pub same_wide_entries : SameWideEntries
same_wide_entries l n agent e s h = (wide_narrow l.subset l.base n.at e s.in_scope h, wide_widen l.subset l.base n.at e s.in_scope)

pub specific_leads : SpecificLeads
specific_leads l m pin q s starts subset base = (
  λ t. elim t [
    | inl i ↦
        let same : q ≡ pin = only_one pin q (subst (λ (xs : List Area). In q xs) starts i) in
        subst (λ (x : Area). InSpecific l pin x) (sym same) (record { below = prefix_itself pin.prefix; within = s.within })
    | inr w ↦
        let v : InSubset (narrowed l.subset) pin.prefix q.prefix = subst (λ (x : Key). InSubset (narrowed l.subset) x q.prefix) base (subst (λ (x : Subset). InSubset x m.base q.prefix) subset w.3) in
        record { below = narrowed_below l.subset pin.prefix q.prefix v; within = widen l.subset l.base pin.prefix q.prefix s.within v }
  ],
  λ i.
      let v : InSubset (narrowed l.subset) pin.prefix q.prefix = narrow l.subset l.base pin.prefix q.prefix s.within i.below i.within in
      let u : InSubset m.subset m.base q.prefix = subst (λ (x : Subset). InSubset x m.base q.prefix) (sym subset) (subst (λ (x : Key). InSubset (narrowed l.subset) x q.prefix) (sym base) v) in
      inr (pin, subst (λ (xs : List Area). In pin xs) (sym starts) here, i.below, u),
)

pub nonspecific_leads : NonSpecificLeads
nonspecific_leads l m n agent q s starts subset base = (
  λ t. elim t [
    | inl i ↦
        let a = (starts q).0 i in
        record {
          pin = q;
          area = a.0;
          filled = a.1;
          mastered = a.2;
          just_below = a.3;
          not_excluded = a.4;
          below = prefix_itself q.prefix;
          within = in_subset_below l.subset l.base q.prefix a.1 (subst (λ (x : Key). IsInScope l.subset l.base x) (sym a.3) s.in_scope);
        }
    | inr w ↦
        let a = (starts w.0).0 w.1 in
        let v : InSubset l.subset n.at q.prefix = subst (λ (x : Key). InSubset l.subset x q.prefix) base (subst (λ (x : Subset). InSubset x m.base q.prefix) subset w.3) in
        record { pin = w.0; area = a.0; filled = a.1; mastered = a.2; just_below = a.3; not_excluded = a.4; below = w.2; within = wide_widen l.subset l.base n.at q.prefix s.in_scope v }
  ],
  λ i.
      let up : IsPrefix n.at q.prefix = subst (λ (x : Key). IsPrefix x q.prefix) i.just_below (prefix_chain (parent i.pin.prefix) i.pin.prefix q.prefix (parent_is_prefix i.pin.prefix) i.below) in
      let v : InSubset l.subset n.at q.prefix = wide_narrow l.subset l.base n.at q.prefix s.in_scope up i.within in
      let u : InSubset m.subset m.base q.prefix = subst (λ (x : Subset). InSubset x m.base q.prefix) (sym subset) (subst (λ (x : Key). InSubset l.subset x q.prefix) (sym base) v) in
      inr (i.pin, (starts i.pin).1 (i.area, i.filled, i.mastered, i.just_below, i.not_excluded), i.below, u),
)

false_true : false ≡ true → ⊥
false_true e = cc

pub specific_covers : SpecificCovers
specific_covers l pin q may s iq t = (
  λ p. elim t [
    | inl i ↦ absurd (false_true (sym s.not_held ∙ held_on_way l may q pin s.above (start i) s.area s.filled p s.evaluated s.just_below))
    | inr w ↦ record { below = p; within = w.3 }
  ],
  λ i. i.below,
)

pub nonspecific_covers : NonSpecificCovers
nonspecific_covers l n agent q may s iq t = (
  λ w.
      let r : Area = w.0 in
      let a : IsAskedFor l n agent r = w.1 in
      let up : In (parent r.prefix) s.above.entries = subst (λ (x : Key). In x s.above.entries) (sym a.3) (may.laid.nssr_at s.above n (is_context l may s.above s.evaluated) s.nssr) in
      elim t [
        | inl i ↦
            let within : InSubset l.subset l.base r.prefix = in_subset_below l.subset l.base r.prefix a.1 (subst (λ (x : Key). IsInScope l.subset l.base x) (sym a.3) s.in_scope) in
            let held : l.holds r.prefix ≡ true = held_on_way l may q r s.above (start i) a.0 a.1 w.2 s.evaluated up in
            absurd (a.4 (s.above, s.evaluated, up, within, inl held))
        | inr v ↦ record { pin = r; area = a.0; filled = a.1; mastered = a.2; just_below = a.3; not_excluded = a.4; below = w.2; within = v.3 }
      ],
  λ i. (i.pin, (i.area, i.filled, i.mastered, i.just_below, i.not_excluded), i.below),
)

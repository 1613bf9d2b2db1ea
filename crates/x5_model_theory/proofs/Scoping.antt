-- How the contexts that a list or search looks into fall apart.
use Rattle.std.proofs.Common.{◌≡◌, ◌≢◌, ℕ, zero, suc, ◌+◌, ◌<◌, ◌≤◌, Bool, true, false, ◌⊎◌, inl, inr, length, refl, sym, ap, subst, ◌∙◌, arith}
use Rattle.x5_model.specs.Keys.{Key, IsPrefix, parent}
use Rattle.x5_model.specs.Requests.{Subset, Base, OneLevel, WholeSubtree}
use Rattle.x5_model.specs.Members.{In}
use Rattle.x5_model_theory.specs.Knowledge.{Area, Spot}
use Rattle.x5_model_theory.specs.Scopes.{InSubset, IsInScope, Look, IsEvaluated, start, further, IsTold, IsTreated, NeedsSpecific, NeedsNonSpecific, InSpecific, InNonSpecific, IsTouched, MayLook, AllAreTaken, NoMoreAreTaken, SpotsApart, WideSpotsApart, SpecificApart, MixedApart, NonSpecificApart}
use Rattle.x5_model.proofs.Prefixes.{prefix_by_length, same_by_length, prefix_length, prefix_itself, prefix_chain, parent_length, parent_is_prefix, prefix_of_parent}
use Rattle.x5_model_theory.proofs.Deciding.{dec_referred, dec_nat}

bool_cases : (b : Bool) → (b ≡ true) ⊎ (b ≡ false)
bool_cases true = inl refl
bool_cases false = inr refl

-- of a pin below its parent in the subset, the parent counts
in_scope_above : (s : Subset) (base p : Key) → InSubset s base p → p ≢ base → IsInScope s base (parent p)
in_scope_above Base base p i h = h i
in_scope_above OneLevel base p i h =
    let up : length (parent p) + 1 ≡ length p = parent_length p (omega arith) in
    let pre : IsPrefix base (parent p) = prefix_of_parent base p i.1 (omega arith) in
    sym (same_by_length base (parent p) p i.1 (parent_is_prefix p) (omega arith))
in_scope_above WholeSubtree base p i h =
    let le : length base ≤ length p = prefix_length base p i in
    let strict : length base ≡ length p → ⊥ = λ e. h (sym (same_by_length base p p i (prefix_itself p) e)) in
    prefix_of_parent base p i (omega (arith, strict))

-- a pin just below an entry that counts is in the subset
pub in_subset_below : (s : Subset) (base p : Key) → 0 < length p → IsInScope s base (parent p) → InSubset s base p
in_subset_below Base base p h i = absurd i
in_subset_below OneLevel base p h i =
    let up : length (parent p) + 1 ≡ length p = parent_length p h in
    let e : length (parent p) ≡ length base = ap length i in
    let pre : IsPrefix base p = subst (λ (x : Key). IsPrefix x p) i (parent_is_prefix p) in
    (omega arith, pre)
in_subset_below WholeSubtree base p h i = prefix_chain base (parent p) p i (parent_is_prefix p)

module _ (l : Look) (may : MayLook l) where
  -- what is evaluated is a context
  pub is_context : (q : Area) → IsEvaluated l q → In q l.knowledge.areas
  is_context q (start i) = may.contexts q i
  is_context q (further d e i f up w h) = i

  -- and stands at a start or below
  pub below_start : (q : Area) → IsEvaluated l q → (r : Area) × In r l.starts × IsPrefix r.prefix q.prefix
  below_start q (start i) = (q, i, prefix_itself q.prefix)
  below_start q (further d e i f up w h) =
      let s = below_start d e in (
        s.0,
        s.1,
        prefix_chain s.0.prefix d.prefix q.prefix s.2
            (prefix_chain d.prefix (parent q.prefix) q.prefix (may.laid.below d (parent q.prefix) (is_context d e) up) (parent_is_prefix q.prefix)),
      )

  -- a pin on the way to what is evaluated, below something that is, is held
  pub held_on_way : (q p d : Area) → IsEvaluated l q → In p l.knowledge.areas → 0 < length p.prefix → IsPrefix p.prefix q.prefix
      → IsEvaluated l d → In (parent p.prefix) d.entries → l.holds p.prefix ≡ true
  held_on_way q p d (start i) ip fp pq e up =
      let s = below_start d e in
      let dp : IsPrefix d.prefix (parent p.prefix) = may.laid.below d (parent p.prefix) (is_context d e) up in
      let sp : IsPrefix s.0.prefix (parent p.prefix) = prefix_chain s.0.prefix d.prefix (parent p.prefix) s.2 dp in
      let sq : IsPrefix s.0.prefix q.prefix = prefix_chain s.0.prefix p.prefix q.prefix (prefix_chain s.0.prefix (parent p.prefix) p.prefix sp (parent_is_prefix p.prefix)) pq in
      let same : s.0 ≡ q = may.apart s.0 q s.1 i sq in
      let level : length s.0.prefix ≡ length q.prefix = ap (λ (x : Area). length x.prefix) same in
      let a : length s.0.prefix ≤ length (parent p.prefix) = prefix_length s.0.prefix (parent p.prefix) sp in
      let b : length p.prefix ≤ length q.prefix = prefix_length p.prefix q.prefix pq in
      let u : length (parent p.prefix) + 1 ≡ length p.prefix = parent_length p.prefix fp in
      absurd (omega arith)
  held_on_way q p d (further c f i fq uq w h) ip fp pq e up =
      let le : length p.prefix ≤ length q.prefix = prefix_length p.prefix q.prefix pq in
      elim (dec_nat (length p.prefix) (length q.prefix)) [
        | inl same ↦ subst (λ (x : Key). l.holds x ≡ true) (sym (same_by_length p.prefix q.prefix q.prefix pq (prefix_itself q.prefix) same)) h
        | inr less ↦
            let pu : IsPrefix p.prefix (parent q.prefix) = prefix_of_parent p.prefix q.prefix pq (omega (arith, less)) in
            let short : length p.prefix ≤ length c.prefix = may.laid.no_longer c p (parent q.prefix) (is_context c f) ip uq pu in
            let cu : IsPrefix c.prefix (parent q.prefix) = may.laid.below c (parent q.prefix) (is_context c f) uq in
            held_on_way c p d f ip fp (prefix_by_length p.prefix c.prefix (parent q.prefix) pu cu short) e up
      ]

  -- below an entry of what is evaluated, a pin on the way to another such entry is held
  held_above : (p r d c : Area) → In p l.knowledge.areas → 0 < length p.prefix → 0 < length r.prefix → IsPrefix p.prefix r.prefix → length p.prefix < length r.prefix
      → IsEvaluated l d → In (parent p.prefix) d.entries → IsEvaluated l c → In (parent r.prefix) c.entries → l.holds p.prefix ≡ true
  held_above p r d c ip fp fr pr less e up f ur =
      let pu : IsPrefix p.prefix (parent r.prefix) = prefix_of_parent p.prefix r.prefix pr less in
      let short : length p.prefix ≤ length c.prefix = may.laid.no_longer c p (parent r.prefix) (is_context c f) ip ur pu in
      let cu : IsPrefix c.prefix (parent r.prefix) = may.laid.below c (parent r.prefix) (is_context c f) ur in
      held_on_way c p d f ip fp (prefix_by_length p.prefix c.prefix (parent r.prefix) pu cu short) e up

  -- two contexts with one entry are one
  pub one_context : (c d : Area) (e : Key) → In c l.knowledge.areas → In d l.knowledge.areas → In e c.entries → In e d.entries → c ≡ d
  one_context c d e ic id ec ed =
      let cp : IsPrefix c.prefix e = may.laid.below c e ic ec in
      let dp : IsPrefix d.prefix e = may.laid.below d e id ed in
      let a : length d.prefix ≤ length c.prefix = may.laid.no_longer c d e ic id ec dp in
      let b : length c.prefix ≤ length d.prefix = may.laid.no_longer d c e id ic ed cp in
      may.laid.one_master c d ic id (same_by_length c.prefix d.prefix e cp dp (omega arith))

  -- the context above a pin of the subset is a start, or in the subset too
  subset_above : (s : Subset) → s ≡ l.subset → (q d r : Area) → In d l.knowledge.areas → In r l.starts → length d.prefix ≤ length (parent q.prefix) → IsPrefix d.prefix (parent q.prefix)
      → q.prefix ≢ l.base → InSubset s l.base q.prefix → length r.prefix < length d.prefix → InSubset s l.base d.prefix
  subset_above Base e q d r id ir le du ne w less = absurd (ne w)
  subset_above OneLevel e q d r id ir le du ne w less =
      let same : parent q.prefix ≡ l.base = in_scope_above OneLevel l.base q.prefix w ne in
      let short : length d.prefix ≤ length r.prefix = may.base_low r d ir id (subst (λ (x : Key). IsPrefix d.prefix x) same du) in
      absurd (omega arith)
  subset_above WholeSubtree e q d r id ir le du ne w less =
      let bu : IsPrefix l.base (parent q.prefix) = in_scope_above WholeSubtree l.base q.prefix w ne in
      elim (dec_le (length l.base) (length d.prefix)) [
        | inl b ↦ prefix_by_length l.base d.prefix (parent q.prefix) bu du b
        | inr b ↦
            let db : IsPrefix d.prefix l.base = prefix_by_length d.prefix l.base (parent q.prefix) du bu (omega arith) in
            let short : length d.prefix ≤ length r.prefix = may.base_low r d ir id db in
            absurd (omega arith)
      ]
    where
      dec_le : (n m : ℕ) → (n ≤ m) ⊎ (m < n)
      dec_le zero m = inl (omega arith)
      dec_le (suc n) zero = inr (omega arith)
      dec_le (suc n) (suc m) = elim (dec_le n m) [ inl h ↦ inl (omega arith) | inr h ↦ inr (omega arith) ]

  -- a base that is a pin is a start's, or above all starts
  not_base : (q r : Area) → In q l.knowledge.areas → In r l.starts → length r.prefix < length q.prefix → q.prefix ≢ l.base
  not_base q r iq ir less e =
      let short : length q.prefix ≤ length r.prefix = may.base_low r q ir iq (subst (λ (x : Key). IsPrefix q.prefix x) e (prefix_itself q.prefix)) in
      omega arith

  IsTaken : Area → Type 0
  IsTaken q = IsEvaluated l q ⊎ (((p : Area) × NeedsSpecific l p × InSpecific l p q) ⊎ ((n : Spot) × (a : ℕ) × NeedsNonSpecific l n a × InNonSpecific l n a q))

  false_true : false ≡ true → ⊥
  false_true e = cc

  -- what a context just below something evaluated becomes
  just_below_spot : (q d r : Area) → In q l.knowledge.areas → In r l.starts → length r.prefix < length q.prefix → InSubset l.subset l.base q.prefix
      → IsEvaluated l d → In (parent q.prefix) d.entries → IsTaken q
  unfolding IsTaken
  just_below_spot q d r iq ir less w e up =
      let filled : 0 < length q.prefix = omega arith in
      let told : IsTold l d q.prefix → l.holds q.prefix ≡ false → IsTaken q = λ t f.
      inr (inl (q, record { area = iq; filled = filled; above = d; evaluated = e; just_below = up; within = w; not_held = f; told = t }, record { below = prefix_itself q.prefix; within = w })) in
      elim (bool_cases (l.holds q.prefix)) [
        | inl held ↦ inl (further d e iq filled up w held)
        | inr free ↦ elim (may.laid.known_below d q (is_context d e) iq filled up) [
          | inl same ↦ told (inr (q, iq, same, refl)) free
          | inr more ↦ elim more [
            | inl referred ↦ told (inl referred) free
            | inr s ↦ elim (dec_nat q.master d.master) [
              | inl same ↦ told (inr (q, iq, same, refl)) free
              | inr others ↦ elim (dec_referred l.knowledge d.master q.prefix) [
                | inl referred ↦ told (inl referred) free
                | inr none ↦
                    let n : Spot = s.0 in
                    let scope : IsInScope l.subset l.base n.at = subst (λ (x : Key). IsInScope l.subset l.base x) (sym s.2) (in_scope_above l.subset l.base q.prefix w (not_base q r iq ir less)) in
                    let not_own : q.master ≢ l.agent = λ o. false_true (sym free ∙ may.own q iq filled o) in
                    let untreated : IsTreated l q.prefix → ⊥ = λ t.
                    let same_above : t.0 ≡ d = one_context t.0 d (parent q.prefix) (is_context t.0 t.1) (is_context d e) t.2 up in
                    elim t.4 [
                      | inl held ↦ false_true (sym free ∙ held)
                      | inr said ↦ elim (subst (λ (x : Area). IsTold l x q.prefix) same_above said) [
                        | inl referred ↦ none referred
                        | inr mastered ↦
                            let is : mastered.0 ≡ q = may.laid.one_master mastered.0 q mastered.1 iq mastered.3 in
                            others (sym (ap (λ (x : Area). x.master) is) ∙ mastered.2)
                      ]
                    ] in
                    inr (inr (
                      n,
                      q.master,
                      record { above = d; evaluated = e; nssr = s.1; listed = s.3; other = not_own; in_scope = scope },
                      record { pin = q; area = iq; filled = filled; mastered = refl; just_below = sym s.2; not_excluded = untreated; below = prefix_itself q.prefix; within = w },
                    ))
              ]
            ]
          ]
        ]
      ]

  -- what is in a scope stays so below
  taken_below : (q d : Area) → IsPrefix d.prefix q.prefix → InSubset l.subset l.base q.prefix → (IsEvaluated l d → IsTaken q) → IsTaken d → IsTaken q
  unfolding IsTaken
  taken_below q d on w f (inl e) = f e
  taken_below q d on w f (inr (inl s)) = inr (inl (s.0, s.1, record { below = prefix_chain s.0.prefix d.prefix q.prefix s.2.below on; within = w }))
  taken_below q d on w f (inr (inr s)) =
      let i = s.3 in
      inr (inr (s.0, s.1, s.2, record { pin = i.pin; area = i.area; filled = i.filled; mastered = i.mastered; just_below = i.just_below; not_excluded = i.not_excluded; below = prefix_chain i.pin.prefix d.prefix q.prefix i.below on; within = w }))

  step : (q r : Area) → In q l.knowledge.areas → In r l.starts → IsPrefix r.prefix q.prefix → InSubset l.subset l.base q.prefix → length r.prefix < length q.prefix
      → ((d : Area) → length d.prefix < length q.prefix → In d l.knowledge.areas → IsPrefix r.prefix d.prefix → InSubset l.subset l.base d.prefix ⊎ (r ≡ d) → IsTaken d) → IsTaken q
  step q r iq ir rq w less above =
      let up : (d : Area) × In d l.knowledge.areas × In (parent q.prefix) d.entries = may.laid.parents r q (may.contexts r ir) iq less in
      let d : Area = up.0 in
      let dp : IsPrefix d.prefix (parent q.prefix) = may.laid.below d (parent q.prefix) up.1 up.2 in
      let rp : IsPrefix r.prefix (parent q.prefix) = prefix_of_parent r.prefix q.prefix rq less in
      let long : length r.prefix ≤ length d.prefix = may.laid.no_longer d r (parent q.prefix) up.1 (may.contexts r ir) up.2 rp in
      let pl : length (parent q.prefix) + 1 ≡ length q.prefix = parent_length q.prefix (omega arith) in
      let dl : length d.prefix ≤ length (parent q.prefix) = prefix_length d.prefix (parent q.prefix) dp in
      let rd : IsPrefix r.prefix d.prefix = prefix_by_length r.prefix d.prefix (parent q.prefix) rp dp long in
      let way : InSubset l.subset l.base d.prefix ⊎ (r ≡ d) =
      elim (dec_nat (length r.prefix) (length d.prefix)) [
        | inl level ↦ inr (may.laid.one_master r d (may.contexts r ir) up.1 (same_by_length r.prefix d.prefix d.prefix rd (prefix_itself d.prefix) level))
        | inr other ↦ inl (subset_above l.subset refl q d r up.1 ir dl dp (not_base q r iq ir less) w (omega (arith, other)))
      ] in
      taken_below q d (prefix_chain d.prefix (parent q.prefix) q.prefix dp (parent_is_prefix q.prefix)) w
      (λ e. just_below_spot q d r iq ir less w e up.2)
      (above d (omega arith) up.1 rd way)

  at_start : (q r : Area) → In r l.starts → r ≡ q → IsTaken q
  unfolding IsTaken
  at_start q r ir same = inl (subst (λ (x : Area). IsEvaluated l x) same (start ir))

  by_length : (q r : Area) → In q l.knowledge.areas → In r l.starts → IsPrefix r.prefix q.prefix → (r ≡ q) ⊎ (length r.prefix < length q.prefix)
  by_length q r iq ir rq =
      let le : length r.prefix ≤ length q.prefix = prefix_length r.prefix q.prefix rq in
      elim (dec_nat (length r.prefix) (length q.prefix)) [
        | inl level ↦ inl (may.laid.one_master r q (may.contexts r ir) iq (same_by_length r.prefix q.prefix q.prefix rq (prefix_itself q.prefix) level))
        | inr other ↦ inr (omega (arith, other))
      ]

  taken : (bound : ℕ) (q r : Area) → length q.prefix < bound → In q l.knowledge.areas → In r l.starts → IsPrefix r.prefix q.prefix → InSubset l.subset l.base q.prefix ⊎ (r ≡ q) → IsTaken q
  taken zero q r small iq ir rq way = absurd (omega arith)
  taken (suc n) q r small iq ir rq (inr same) = at_start q r ir same
  taken (suc n) q r small iq ir rq (inl w) =
      elim (by_length q r iq ir rq) [
        | inl same ↦ at_start q r ir same
        | inr less ↦ step q r iq ir rq w less (λ d shorter id rd way. taken n d r (omega arith) id ir rd way)
      ]

  all_taken : (q : Area) → In q l.knowledge.areas → IsTouched l q → IsTaken q
  all_taken q iq (inl i) = taken (suc (length q.prefix)) q q (omega arith) iq i (prefix_itself q.prefix) (inr refl)
  all_taken q iq (inr t) = taken (suc (length q.prefix)) q t.0 (omega arith) iq t.1 t.2 (inl t.3)

  -- what is in a scope is below a start
  below_evaluated : (q d p : Area) → IsEvaluated l d → In (parent p.prefix) d.entries → IsPrefix p.prefix q.prefix → InSubset l.subset l.base q.prefix → IsTouched l q
  below_evaluated q d p e up on w =
      let s = below_start d e in
      let dp : IsPrefix d.prefix (parent p.prefix) = may.laid.below d (parent p.prefix) (is_context d e) up in
      let sq : IsPrefix s.0.prefix q.prefix = prefix_chain s.0.prefix d.prefix q.prefix s.2 (prefix_chain d.prefix (parent p.prefix) q.prefix dp (prefix_chain (parent p.prefix) p.prefix q.prefix (parent_is_prefix p.prefix) on)) in
      inr (s.0, s.1, sq, w)

  evaluated_touched : (q : Area) → IsEvaluated l q → IsTouched l q
  evaluated_touched q (start i) = inl i
  evaluated_touched q (further d e i f up w h) = below_evaluated q d q e up (prefix_itself q.prefix) w

  -- the parent of a pin of a nonSpecific reference's scope is an entry of the context that has the NSSR
  pub nssr_entry : (n : Spot) (a : ℕ) (p : Key) → (w : NeedsNonSpecific l n a) → parent p ≡ n.at → In (parent p) w.above.entries
  nssr_entry n a p w e = subst (λ (x : Key). In x w.above.entries) (sym e) (may.laid.nssr_at w.above n (is_context w.above w.evaluated) w.nssr)

  no_more : (q : Area) → IsTaken q → IsTouched l q
  unfolding IsTaken
  no_more q (inl e) = evaluated_touched q e
  no_more q (inr (inl s)) = below_evaluated q s.1.above s.0 s.1.evaluated s.1.just_below s.2.below s.2.within
  no_more q (inr (inr s)) = below_evaluated q s.2.above s.3.pin s.2.evaluated (nssr_entry s.0 s.1 s.3.pin.prefix s.2 s.3.just_below) s.3.below s.3.within

  spots_apart : (q p : Area) → IsEvaluated l q → NeedsSpecific l p → InSpecific l p q → ⊥
  spots_apart q p e s i = false_true (sym s.not_held ∙ held_on_way q p s.above e s.area s.filled i.below s.evaluated s.just_below)

  -- a pin of a nonSpecific reference's scope is in the subset, and isn't held
  pub pin_within : (n : Spot) (a : ℕ) (q : Area) → (w : NeedsNonSpecific l n a) → (i : InNonSpecific l n a q) → InSubset l.subset l.base i.pin.prefix
  pin_within n a q w i = in_subset_below l.subset l.base i.pin.prefix i.filled (subst (λ (x : Key). IsInScope l.subset l.base x) (sym i.just_below) w.in_scope)

  pin_not_held : (n : Spot) (a : ℕ) (q : Area) → (w : NeedsNonSpecific l n a) → (i : InNonSpecific l n a q) → l.holds i.pin.prefix ≡ true → ⊥
  pin_not_held n a q w i h = i.not_excluded (w.above, w.evaluated, nssr_entry n a i.pin.prefix w i.just_below, pin_within n a q w i, inl h)

  wide_spots_apart : (q : Area) (n : Spot) (a : ℕ) → IsEvaluated l q → NeedsNonSpecific l n a → InNonSpecific l n a q → ⊥
  wide_spots_apart q n a e w i = pin_not_held n a q w i (held_on_way q i.pin w.above e i.area i.filled i.below w.evaluated (nssr_entry n a i.pin.prefix w i.just_below))

  -- of two pins on the way to one context, each just below something evaluated and neither held, each is the other
  one_pin : (q p r c d : Area) → In p l.knowledge.areas → In r l.knowledge.areas → 0 < length p.prefix → 0 < length r.prefix → IsPrefix p.prefix q.prefix → IsPrefix r.prefix q.prefix
      → IsEvaluated l c → In (parent p.prefix) c.entries → IsEvaluated l d → In (parent r.prefix) d.entries
      → (l.holds p.prefix ≡ true → ⊥) → (l.holds r.prefix ≡ true → ⊥) → p ≡ r
  one_pin q p r c d ip ir fp fr pq rq e up f ur np nr =
      let not_less : length p.prefix < length r.prefix → ⊥ = λ h.
      np (held_above p r c d ip fp fr (prefix_by_length p.prefix r.prefix q.prefix pq rq (omega arith)) h e up f ur) in
      let not_more : length r.prefix < length p.prefix → ⊥ = λ h.
      nr (held_above r p d c ir fr fp (prefix_by_length r.prefix p.prefix q.prefix rq pq (omega arith)) h f ur e up) in
      may.laid.one_master p r ip ir (same_by_length p.prefix r.prefix q.prefix pq rq (omega (arith, not_less, not_more)))

  specific_apart : (q p r : Area) → NeedsSpecific l p → NeedsSpecific l r → InSpecific l p q → InSpecific l r q → p ≡ r
  specific_apart q p r s t i j =
      one_pin q p r s.above t.above s.area t.area s.filled t.filled i.below j.below s.evaluated s.just_below t.evaluated t.just_below
      (λ h. false_true (sym s.not_held ∙ h)) (λ h. false_true (sym t.not_held ∙ h))

  mixed_apart : (q p : Area) (n : Spot) (a : ℕ) → NeedsSpecific l p → NeedsNonSpecific l n a → InSpecific l p q → InNonSpecific l n a q → ⊥
  mixed_apart q p n a s w i j =
      let same : p ≡ j.pin = one_pin q p j.pin s.above w.above s.area j.area s.filled j.filled i.below j.below s.evaluated s.just_below w.evaluated (nssr_entry n a j.pin.prefix w j.just_below)
      (λ h. false_true (sym s.not_held ∙ h)) (pin_not_held n a q w j) in
      j.not_excluded (subst (λ (x : Area). IsTreated l x.prefix) same (s.above, s.evaluated, s.just_below, s.within, inr s.told))

  nonspecific_apart : (q : Area) (n m : Spot) (a b : ℕ) → NeedsNonSpecific l n a → NeedsNonSpecific l m b → InNonSpecific l n a q → InNonSpecific l m b q → (n ≡ m) × (a ≡ b)
  nonspecific_apart q n m a b w v i j =
      let same : i.pin ≡ j.pin = one_pin q i.pin j.pin w.above v.above i.area j.area i.filled j.filled i.below j.below w.evaluated (nssr_entry n a i.pin.prefix w i.just_below) v.evaluated (nssr_entry m b j.pin.prefix v j.just_below)
      (pin_not_held n a q w i) (pin_not_held m b q v j) in
      let at : n.at ≡ m.at = sym i.just_below ∙ ap (λ (x : Area). parent x.prefix) same ∙ j.just_below in
      let entry : In n.at v.above.entries = subst (λ (x : Key). In x v.above.entries) (sym at) (may.laid.nssr_at v.above m (is_context v.above v.evaluated) v.nssr) in
      let one : w.above ≡ v.above = one_context w.above v.above n.at (is_context w.above w.evaluated) (is_context v.above v.evaluated)
      (may.laid.nssr_at w.above n (is_context w.above w.evaluated) w.nssr) entry in (
        may.laid.one_nssr v.above n m (is_context v.above v.evaluated) (subst (λ (x : Area). In n x.nssrs) one w.nssr) v.nssr at,
        sym i.mastered ∙ ap (λ (x : Area). x.master) same ∙ j.mastered,
      )

pub all_are_taken : AllAreTaken
unfolding IsTaken
all_are_taken l q may iq t = all_taken l may q iq t

pub no_more_are_taken : NoMoreAreTaken
unfolding IsTaken
no_more_are_taken l q may iq t = no_more l may q t

pub spots_are_apart : SpotsApart
spots_are_apart l q p may e s i = spots_apart l may q p e s i

pub wide_spots_are_apart : WideSpotsApart
wide_spots_are_apart l q n a may e w i = wide_spots_apart l may q n a e w i

pub specific_are_apart : SpecificApart
specific_are_apart l q p r may s t i j = specific_apart l may q p r s t i j

pub mixed_are_apart : MixedApart
mixed_are_apart l q p n a may s w i j = mixed_apart l may q p n a s w i j

pub nonspecific_are_apart : NonSpecificApart
nonspecific_are_apart l q n m a b may w v i j = nonspecific_apart l may q n m a b w v i j

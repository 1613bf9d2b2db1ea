-- What the needed references cover is their scopes: what is evaluated on the spot is apart from them, and so are any two.
use Rattle.std.proofs.Common.{◌≡◌, ℕ, ◌<◌, ◌==◌, Bool, true, false, not, ◌||◌, ◌⊎◌, inl, inr, List, [], ◌∷◌, length, map, refl, sym, ap, subst, ◌∙◌, if◌then◌else◌}
use Rattle.std.specs.Bool.{Decides}
use Rattle.std.specs.List.{filter, list_any}
use Rattle.std.proofs.lemmas.Bool.Decides.{Decides-eqb}
use Rattle.x5_model.specs.Words.{has}
use Rattle.x5_model.specs.Members.{In, here}
use Rattle.x5_model.specs.Keys.{Key, IsPrefix, parent, is_prefix, is_child}
use Rattle.x5_model.specs.Values.{key_of}
use Rattle.x5_model.specs.References.{Progress, Reference, RefType, Chained}
use Rattle.x5_model.proofs.Lists.{both_true, and_true, either_true, not_true, in_first, in_map, of_map, of_any, of_filter, in_filter, has_in, of_has}
use Rattle.x5_model.proofs.Prefixes.{prefix_decides, prefix_itself, child_decides}
use Rattle.x5_model.proofs.Decide.{any_decides}
use Rattle.x5_model_tree.specs.World.{World}
use Rattle.x5_model_tree.specs.Tree.{Tree}
use Rattle.x5_model_tree.specs.Masters.{pin_of, mastered}
use Rattle.x5_model_run.specs.Holdings.{Held, Holdings}
use Rattle.x5_model_run.specs.Journal.{is_done, is_wide}
use Rattle.x5_model_run.specs.Needs.{is_excluded, evaluated, part_needs}
use Rattle.x5_model_run.specs.Covers.{is_below_wide, covered_roots, covers, meet, touched}
use Rattle.x5_model_theory.specs.Knowledge.{Knowledge, Area, Spot}
use Rattle.x5_model_theory.specs.Scopes.{InSubset, IsInScope, Look, IsEvaluated, IsTreated, InSpecific, InNonSpecific, IsTouched}
use Rattle.x5_model_theory.specs.Looking.{IsAskedFor}
use Rattle.x5_model_theory.proofs.Scoping.{is_context, in_subset_below, all_are_taken, no_more_are_taken, spots_are_apart, wide_spots_are_apart, specific_are_apart, mixed_are_apart, nonspecific_are_apart}
use Rattle.x5_model_theory.proofs.LooksFrom.{specific_covers, nonspecific_covers}
use Rattle.x5_model_parts.proofs.Asking.{false_true}
use Rattle.x5_model_parts.proofs.Seeing.{Sees}
use Rattle.x5_model_parts.proofs.Spots.{spot_is, spot_of_evaluated}
use Rattle.x5_model_parts.proofs.Needing.{IsTo, IsAmong, view_of, specific_needed, nonspecific_needed}

pub covers_decides : (w : World) (r : Reference) (q : Key) → Decides (covers w r q) ((b : Key) × In b (covered_roots w r) × IsPrefix b q)
covers_decides w r q = any_decides {P = λ (b : Key). IsPrefix b q} (λ (b : Key). is_prefix b q) (covered_roots w r) (λ b. prefix_decides b q)

pub not_it : (b : Bool) → (b ≡ true → ⊥) → b ≡ false
not_it true f = absurd (f refl)
not_it false f = refl

module _ (w : World) (t : Tree) (k : Knowledge) (o : ℕ) (h : Holdings) (m : Chained) (l : Look) (s : Sees w t k o h m l) where
  abbrev To : Reference → Area → Type 0
  To r pin = IsTo w t k o h m l s r pin

  abbrev Among : Reference → Spot → ℕ → Type 0
  Among r n a = IsAmong w t k o h m l s r n a

  abbrev View : Reference → Type 0
  View r = ((pin : Area) × To r pin) ⊎ ((n : Spot) × (a : ℕ) × Among r n a)

  -- ---- where the subtrees begin that a reference covers

  pub roots_of_specific : (r : Reference) (pin : Area) → To r pin → covered_roots w r ≡ pin.prefix ∷ []
  roots_of_specific r pin v =
      ap (λ (x : RefType). if is_wide x then (if is_done r.progress then map pin_of (filter (is_below_wide r) (mastered w)) else []) else key_of r.target ∷ []) v.kind ∙ ap (λ (x : Key). x ∷ []) v.target

  wide_roots : (r : Reference) (n : Spot) (a : ℕ) → Among r n a → covered_roots w r ≡ map pin_of (filter (is_below_wide r) (mastered w))
  wide_roots r n a v =
      ap (λ (x : RefType). if is_wide x then (if is_done r.progress then map pin_of (filter (is_below_wide r) (mastered w)) else []) else key_of r.target ∷ []) v.kind
      ∙ ap (λ (x : Progress). if is_done x then map pin_of (filter (is_below_wide r) (mastered w)) else []) v.progress

  pub of_wide_root : (r : Reference) (n : Spot) (a : ℕ) → Among r n a → (b : Key) → In b (covered_roots w r) → (d : Area) × IsAskedFor l n a d × In d k.areas × (d.prefix ≡ b)
  of_wide_root r n a v b i =
      let x = of_map pin_of b (filter (is_below_wide r) (mastered w)) (subst (λ (xs : List Key). In b xs) (wide_roots r n a v) i) in
      let f = of_filter (is_below_wide r) x.0 (mastered w) x.1 in
      let u = both_true (is_child (key_of r.target) (pin_of x.0)) _ f.1 in
      let y = both_true (has ◌==◌ r.agents x.0.master) _ u.1 in
      let d = s.area_of_mastered x.0 f.0 in
      let child = (child_decides (key_of r.target) (pin_of x.0)).0 u.0 in
      let agent : x.0.master ≡ a = elim (in_first x.0.master a [] (subst (λ (xs : List ℕ). In x.0.master xs) v.agents (of_has ◌==◌ Decides-eqb x.0.master r.agents y.0))) [ inl e ↦ e | inr j ↦ elim j [ ] ] in
      let up : parent d.0.prefix ≡ n.at = ap parent d.2 ∙ child.1 ∙ v.target in
      let free : IsTreated l d.0.prefix → ⊥ = λ treated.
      false_true (sym (not_true (is_excluded r.exclusions x.0.context.prefix) y.1) ∙ (v.excluded d.0 x.0.context.prefix d.1 up (sym d.2)).1 treated) in
      (d.0, (s.inside d.0 d.1, s.good.filled d.0 d.1, d.3 ∙ agent, up, free), d.1, d.2 ∙ sym x.2)

  pub wide_root : (r : Reference) (n : Spot) (a : ℕ) → Among r n a → (d : Area) → IsAskedFor l n a d → In d.prefix (covered_roots w r)
  wide_root r n a v d asked =
      let id : In d k.areas = s.outside d asked.0 asked.1 in
      let x = s.mastered_of_area d id in
      let child : is_child (key_of r.target) (pin_of x.0) ≡ true =
      (child_decides (key_of r.target) (pin_of x.0)).1 (subst (λ (y : Key). 0 < length y) (sym x.2) asked.1, ap parent x.2 ∙ asked.3 ∙ sym v.target) in
      let agent : has ◌==◌ r.agents x.0.master ≡ true =
      has_in ◌==◌ Decides-eqb x.0.master r.agents (subst (λ (xs : List ℕ). In x.0.master xs) (sym v.agents) (subst (λ (y : ℕ). In x.0.master (y ∷ [])) (x.3 ∙ asked.2) here)) in
      let free : not (is_excluded r.exclusions x.0.context.prefix) ≡ true = not_sure (is_excluded r.exclusions x.0.context.prefix) (λ e. asked.4 ((v.excluded d x.0.context.prefix id asked.3 x.2).0 e)) in
      let test : is_below_wide r x.0 ≡ true = and_true _ _ child (and_true _ _ agent free) in
      subst (λ (xs : List Key). In d.prefix xs) (sym (wide_roots r n a v))
      (subst (λ (y : Key). In y (map pin_of (filter (is_below_wide r) (mastered w)))) x.2 (in_map pin_of x.0 (filter (is_below_wide r) (mastered w)) (in_filter (is_below_wide r) x.0 (mastered w) x.1 test)))
    where
      not_sure : (b : Bool) → (b ≡ true → ⊥) → not b ≡ true
      not_sure true f = absurd (f refl)
      not_sure false f = refl

  -- ---- scopes

  abbrev pub InScope : (r : Reference) → View r → Area → Type 0
  InScope r (inl v) q = InSpecific l v.0 q
  InScope r (inr v) q = InNonSpecific l v.0 v.1 q

  pub scope_of : (r : Reference) (v : View r) (b : Key) (q : Area) → In b (covered_roots w r) → IsPrefix b q.prefix → InSubset l.subset l.base q.prefix → InScope r v q
  scope_of r (inl v) b q i on within =
      let same : b ≡ v.0.prefix = elim (in_first b v.0.prefix [] (subst (λ (xs : List Key). In b xs) (roots_of_specific r v.0 v.1) i)) [ inl e ↦ e | inr j ↦ elim j [ ] ] in
      record { below = subst (λ (x : Key). IsPrefix x q.prefix) same on; within = within }
  scope_of r (inr v) b q i on within =
      let d = of_wide_root r v.0 v.1 v.2 b i in
      record {
        pin = d.0;
        area = d.1.0;
        filled = d.1.1;
        mastered = d.1.2;
        just_below = d.1.3;
        not_excluded = d.1.4;
        below = subst (λ (x : Key). IsPrefix x q.prefix) (sym d.3) on;
        within = within;
      }

  -- a root is a pin of the subset
  pub root_area : (r : Reference) (v : View r) (b : Key) → In b (covered_roots w r) → (d : Area) × In d k.areas × (d.prefix ≡ b) × InSubset l.subset l.base d.prefix
  root_area r (inl v) b i =
      let same : b ≡ v.0.prefix = elim (in_first b v.0.prefix [] (subst (λ (xs : List Key). In b xs) (roots_of_specific r v.0 v.1) i)) [ inl e ↦ e | inr j ↦ elim j [ ] ] in
      (v.0, v.1.area, sym same, v.1.needs.within)
  root_area r (inr v) b i =
      let d = of_wide_root r v.0 v.1 v.2 b i in
      (d.0, d.2, d.3, in_subset_below l.subset l.base d.0.prefix d.1.1 (subst (λ (x : Key). IsInScope l.subset l.base x) (sym d.1.3) v.2.needs.in_scope))

  pub scope_covered : (r : Reference) (v : View r) (q : Area) → InScope r v q → covers w r q.prefix ≡ true
  scope_covered r (inl v) q i = (covers_decides w r q.prefix).1 (v.0.prefix, subst (λ (xs : List Key). In v.0.prefix xs) (sym (roots_of_specific r v.0 v.1)) here, i.below)
  scope_covered r (inr v) q i =
      (covers_decides w r q.prefix).1 (i.pin.prefix, wide_root r v.0 v.1 v.2 i.pin (i.area, i.filled, i.mastered, i.just_below, i.not_excluded), i.below)

  pub covered_scope : (r : Reference) (v : View r) (q : Area) → In q k.areas → IsTouched l q → covers w r q.prefix ≡ true → InScope r v q
  covered_scope r (inl v) q iq touch c =
      let b = (covers_decides w r q.prefix).0 c in
      let same : b.0 ≡ v.0.prefix = elim (in_first b.0 v.0.prefix [] (subst (λ (xs : List Key). In b.0 xs) (roots_of_specific r v.0 v.1) b.1)) [ inl e ↦ e | inr j ↦ elim j [ ] ] in
      (specific_covers l v.0 q s.may v.1.needs (s.inside q iq) touch).0 (subst (λ (x : Key). IsPrefix x q.prefix) same b.2)
  covered_scope r (inr v) q iq touch c =
      let b = (covers_decides w r q.prefix).0 c in
      let d = of_wide_root r v.0 v.1 v.2 b.0 b.1 in
      (nonspecific_covers l v.0 v.1 q s.may v.2.needs (s.inside q iq) touch).0 (d.0, d.1, subst (λ (x : Key). IsPrefix x q.prefix) (sym d.3) b.2)

  pub scope_touched : (r : Reference) (v : View r) (q : Area) → In q k.areas → InScope r v q → IsTouched l q
  scope_touched r (inl v) q iq i = no_more_are_taken l q s.may (s.inside q iq) (inr (inl (v.0, v.1.needs, i)))
  scope_touched r (inr v) q iq i = no_more_are_taken l q s.may (s.inside q iq) (inr (inr (v.0, v.1, v.2.needs, i)))

  spot_not_in : (r : Reference) (v : View r) (q : Area) → IsEvaluated l q → InScope r v q → ⊥
  spot_not_in r (inl v) q e i = spots_are_apart l q v.0 s.may e v.1.needs i
  spot_not_in r (inr v) q e i = wide_spots_are_apart l q v.0 v.1 s.may e v.2.needs i

  -- ---- what is evaluated on the spot, and the rest

  pub spot_touched : (c : Held) → In c (evaluated h m) → In (key_of c.prefix) (touched w t o m)
  spot_touched c i =
      let v = spot_is w t k o h m l s c i in
      let d : Area = v.1.0 in
      (s.looks (key_of c.prefix)).1 (d, v.1.2.area, v.1.2.prefix, no_more_are_taken l d s.may (is_context l s.may d v.1.1) (inl v.1.1))

  pub spot_apart : (c : Held) (r : Reference) → In c (evaluated h m) → In r (part_needs h m) → covers w r (key_of c.prefix) ≡ false
  spot_apart c r i j =
      not_it (covers w r (key_of c.prefix)) (λ cov.
      let v = spot_is w t k o h m l s c i in
      let d : Area = v.1.0 in
      let touch : IsTouched l d = no_more_are_taken l d s.may (is_context l s.may d v.1.1) (inl v.1.1) in
      let view = view_of w t k o h m l s r j in
      spot_not_in r view d v.1.1 (covered_scope r view d v.1.2.area touch (subst (λ (x : Key). covers w r x ≡ true) (sym v.1.2.prefix) cov)))

  pub all_parts : (q : Key) → In q (touched w t o m) → In q (map (λ (c : Held). key_of c.prefix) (evaluated h m)) ⊎ ((r : Reference) × In r (part_needs h m) × (covers w r q ≡ true))
  all_parts q i =
      let d = (s.looks q).0 i in
      elim (all_are_taken l d.0 s.may (s.inside d.0 d.1) d.3) [
        | inl e ↦
            let c = spot_of_evaluated w t k o h m l s d.0 e (s.good.filled d.0 d.1) in
            inl (subst (λ (x : Key). In x (map (λ (c : Held). key_of c.prefix) (evaluated h m))) (sym c.2.prefix ∙ d.2) (in_map (λ (c : Held). key_of c.prefix) c.0 (evaluated h m) c.1))
        | inr more ↦ elim more [
          | inl z ↦
              let r = specific_needed w t k o h m l s z.0 z.1 in
              inr (r.0, r.1, subst (λ (x : Key). covers w r.0 x ≡ true) d.2 (scope_covered r.0 (inl (z.0, r.2)) d.0 z.2))
          | inr z ↦
              let r = nonspecific_needed w t k o h m l s z.0 z.1 z.2 in
              inr (r.0, r.1, subst (λ (x : Key). covers w r.0 x ≡ true) d.2 (scope_covered r.0 (inr (z.0, z.1, r.2)) d.0 z.3))
        ]
      ]

  -- ---- two references

  abbrev SameView : (r q : Reference) → View r → View q → Type 0
  SameView r q (inl v) (inl u) = v.0 ≡ u.0
  SameView r q (inl v) (inr u) = ⊥
  SameView r q (inr v) (inl u) = ⊥
  SameView r q (inr v) (inr u) = (v.0 ≡ u.0) × (v.1 ≡ u.1)

  common : (r q : Reference) (v : View r) (u : View q) (x : Area) → InScope r v x → InScope q u x → SameView r q v u
  common r q (inl v) (inl u) x i j = specific_are_apart l x v.0 u.0 s.may v.1.needs u.1.needs i j
  common r q (inl v) (inr u) x i j = mixed_are_apart l x v.0 u.0 u.1 s.may v.1.needs u.2.needs i j
  common r q (inr v) (inl u) x i j = mixed_are_apart l x u.0 v.0 v.1 s.may u.1.needs v.2.needs j i
  common r q (inr v) (inr u) x i j = nonspecific_are_apart l x v.0 u.0 v.1 u.1 s.may v.2.needs u.2.needs i j

  pub meets_same : (r q : Reference) (v : View r) (u : View q) → meet w r q ≡ true → SameView r q v u
  meets_same r q v u e =
      let a = of_any (λ (a : Key). list_any (λ (b : Key). is_prefix a b || is_prefix b a) (covered_roots w q)) (covered_roots w r) e in
      let b = of_any (λ (b : Key). is_prefix a.0 b || is_prefix b a.0) (covered_roots w q) a.2 in
      elim (either_true (is_prefix a.0 b.0) (is_prefix b.0 a.0) b.2) [
        | inl z ↦
            let d = root_area q u b.0 b.1 in
            let on : IsPrefix a.0 d.0.prefix = subst (λ (x : Key). IsPrefix a.0 x) (sym d.2) ((prefix_decides a.0 b.0).0 z) in
            common r q v u d.0 (scope_of r v a.0 d.0 a.1 on d.3) (scope_of q u b.0 d.0 b.1 (subst (λ (x : Key). IsPrefix b.0 x) (sym d.2) (prefix_itself b.0)) d.3)
        | inr z ↦
            let d = root_area r v a.0 a.1 in
            let on : IsPrefix b.0 d.0.prefix = subst (λ (x : Key). IsPrefix b.0 x) (sym d.2) ((prefix_decides b.0 a.0).0 z) in
            common r q v u d.0 (scope_of r v a.0 d.0 a.1 (subst (λ (x : Key). IsPrefix a.0 x) (sym d.2) (prefix_itself a.0)) d.3) (scope_of q u b.0 d.0 b.1 on d.3)
      ]

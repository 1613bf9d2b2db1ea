-- No context is evaluated twice, and no two needed references meet.
use Rattle.std.proofs.Common.{◌≡◌, ◌≢◌, ℕ, zero, suc, ◌+◌, ◌<◌, ◌≤◌, ◌==◌, Bool, true, false, cond, not, ◌&&◌, ◌⊎◌, inl, inr, List, [], ◌∷◌, ◌++◌, length, map, refl, sym, ap, subst, ◌∙◌, arith, Option, Some, None, if◌then◌else◌}
use Rattle.std.specs.List.{filter, list_any, flat_map}
use Rattle.std.specs.Option.{is_none}
use Rattle.x5_model.specs.Words.{in_option}
use Rattle.x5_model.specs.Members.{In, Once}
use Rattle.x5_model.specs.Keys.{Key, IsPrefix, same_key, parent}
use Rattle.x5_model.specs.Values.{key_of}
use Rattle.x5_model.specs.Entries.{Named}
use Rattle.x5_model.specs.References.{Done, Reference, Subordinate, Chained}
use Rattle.x5_model.proofs.KeyLaws.{key_decides}
use Rattle.x5_model.proofs.Lists.{in_first, in_either, in_left, in_right, in_map, of_map, of_flat, of_find, of_filter}
use Rattle.x5_model.proofs.Prefixes.{prefix_length, prefix_chain, parent_is_prefix, parent_length}
use Rattle.x5_model_tree.specs.World.{Specific, Nssr, World}
use Rattle.x5_model_tree.specs.Tree.{Tree, key_at, is_there, entry_at}
use Rattle.x5_model_tree.specs.Ask.{in_subset}
use Rattle.x5_model_run.specs.Holdings.{Held, Holdings, usable_agents, held_at, served}
use Rattle.x5_model_run.specs.Needs.{others, reference, begins_at, and_below, evaluated, answers_root, below_needs, in_scope, wide_needs, part_needs}
use Rattle.x5_model_run.specs.Covers.{meet, are_apart}
use Rattle.x5_model_theory.specs.Knowledge.{Knowledge, Area, Spot}
use Rattle.x5_model_theory.specs.Described.{spot_of}
use Rattle.x5_model_theory.specs.Scopes.{IsInScope, Look, IsEvaluated}
use Rattle.x5_model_theory.proofs.Cohering.{one_master}
use Rattle.x5_model_theory.proofs.Scoping.{is_context, one_context, below_start}
use Rattle.x5_model_parts.proofs.Asking.{false_true, scope_decides}
use Rattle.x5_model_parts.proofs.Seeing.{is_held, Like, Sees}
use Rattle.x5_model_parts.proofs.Spots.{held_in, spot_of_evaluated, evaluated_is, next_is, further_spot, below_spots, parent_in, spot_is}
use Rattle.x5_model_parts.proofs.Needing.{IsTo, IsAmong, ask, wide_made, among, ask_among, rest, needs_are, root_view, specific_view, wide_view}
use Rattle.x5_model_parts.proofs.Covering.{meets_same, not_it}
use Rattle.x5_model_parts.proofs.Lone.{Other, once_filter, once_append, Lone, lone_apart, lone_append, lone_flat, lone_map}

module _ (w : World) (t : Tree) (k : Knowledge) (o : ℕ) (h : Holdings) (m : Chained) (l : Look) (s : Sees w t k o h m l) where
  abbrev all : List Held
  all = served m.request h

  abbrev IsAt : Held → Type 0
  IsAt c = In c all × ((d : Area) × IsEvaluated l d × Like k all d c)

  abbrev below : ℕ → List Held → List Held
  below n level = and_below n all (key_of m.target) l.subset level

  abbrev next : List Held → List Held
  next level = filter (λ (c : Held). in_subset l.subset (key_of m.target) (key_of c.prefix) && list_any (λ (d : Held). is_there d.entries (parent (key_of c.prefix))) level) all

  abbrev pin : Held → Key
  pin c = key_of c.prefix

  -- two contexts that have the parent of one pin are one
  one_above : (x y c d : Held) → IsAt x → IsAt y → IsAt c → IsAt d → pin c ≡ pin d → is_there x.entries (parent (pin c)) ≡ true → is_there y.entries (parent (pin d)) ≡ true → pin x ≡ pin y
  one_above x y c d vx vy vc vd same ex ey =
      let dx : Area = vx.1.0 in
      let dy : Area = vy.1.0 in
      let up : In (parent vc.1.0.prefix) dx.entries = parent_in w t k o h m l s x c dx vx.1.2 (vc.1.0, vc.1.2) ex in
      let down : In (parent vd.1.0.prefix) dy.entries = parent_in w t k o h m l s y d dy vy.1.2 (vd.1.0, vd.1.2) ey in
      let level : vc.1.0.prefix ≡ vd.1.0.prefix = vc.1.2.prefix ∙ same ∙ sym vd.1.2.prefix in
      let one : dx ≡ dy = one_context l s.may dx dy (parent vd.1.0.prefix) (is_context l s.may dx vx.1.1) (is_context l s.may dy vy.1.1) (subst (λ (q : Key). In (parent q) dx.entries) level up) down in
      sym vx.1.2.prefix ∙ ap (λ (q : Area). q.prefix) one ∙ vy.1.2.prefix

  -- what is further below has its parent further above
  above_in : (n : ℕ) (level : List Held) (d : Held) → In d (below n (next level)) → (x : Held) × In x (below n level) × (is_there x.entries (parent (pin d)) ≡ true)
  above_in zero level d i = (next_is w t k o h m l s level d i).2
  above_in (suc n) [] d i = go (none_next all) i
    where
      none_next : (xs : List Held) → filter (λ (c : Held). in_subset l.subset (key_of m.target) (key_of c.prefix) && false) xs ≡ []
      none_next [] = refl
      none_next (x ∷ xs) = go (in_subset l.subset (key_of m.target) (key_of x.prefix)) (none_next xs)
        where
          go : (b : Bool) → filter (λ (c : Held). in_subset l.subset (key_of m.target) (key_of c.prefix) && false) xs ≡ [] → cond (b && false) (x ∷ filter (λ (c : Held). in_subset l.subset (key_of m.target) (key_of c.prefix) && false) xs) (filter (λ (c : Held). in_subset l.subset (key_of m.target) (key_of c.prefix) && false) xs) ≡ []
          go true e = e
          go false e = e

      go : next [] ≡ [] → In d (below (suc n) (next [])) → (x : Held) × In x (below (suc n) []) × (is_there x.entries (parent (pin d)) ≡ true)
      go e i = elim (subst (λ (xs : List Held). In d (below (suc n) xs)) e i) [ ]
  above_in (suc n) (y ∷ ys) d i = go (next (y ∷ ys)) refl i (above_in n (next (y ∷ ys)) d)
    where
      go : (xs : List Held) → next (y ∷ ys) ≡ xs → In d (below (suc n) xs) → (In d (below n (next (next (y ∷ ys)))) → (x : Held) × In x (below n (next (y ∷ ys))) × (is_there x.entries (parent (pin d)) ≡ true))
          → (x : Held) × In x (below (suc n) (y ∷ ys)) × (is_there x.entries (parent (pin d)) ≡ true)
      go [] e i f = elim i [ ]
      go (z ∷ zs) e i f =
          elim (in_either d (z ∷ zs) (below n (next (z ∷ zs))) i) [
            | inl j ↦
                let v = next_is w t k o h m l s (y ∷ ys) d (subst (λ (xs : List Held). In d xs) (sym e) j) in
                (v.2.0, in_left v.2.0 (y ∷ ys) (below n (next (y ∷ ys))) v.2.1, v.2.2)
            | inr j ↦
                let v = f (subst (λ (xs : List Held). In d (below n (next xs))) (sym e) j) in
                (v.0, in_right v.0 (y ∷ ys) (below n (next (y ∷ ys))) v.1, v.2)
          ]

  abbrev AllAt : List Held → Type 0
  AllAt level = (c : Held) → In c level → IsAt c

  -- none of a level comes again further below
  abbrev IsFirst : List Held → Type 0
  IsFirst level = (n : ℕ) (c d : Held) → In c level → In d (below n (next level)) → pin c ≡ pin d → ⊥

  next_first : (level : List Held) → AllAt level → IsFirst level → IsFirst (next level)
  next_first level at first n c d i j same =
      let u = next_is w t k o h m l s level c i in
      let v = above_in n (next level) d j in
      let more : AllAt (next level) = further_spot w t k o h m l s level at in
      let vd : IsAt d = below_spots w t k o h m l s n (next (next level)) (further_spot w t k o h m l s (next level) more) d j in
      let vx : IsAt v.0 = below_spots w t k o h m l s n (next level) more v.0 v.1 in
      first n u.2.0 v.0 u.2.1 v.1 (one_above u.2.0 v.0 c d (at u.2.0 u.2.1) vx (more c i) vd same u.2.2 v.2)

  once_below : (n : ℕ) (level : List Held) → AllAt level → IsFirst level → Once (map (λ (c : Held). key_of c.prefix) level) → Once (map (λ (c : Held). key_of c.prefix) (below n level))
  once_below zero level at first lone = lone
  once_below (suc n) [] at first lone = tt
  once_below (suc n) (x ∷ xs) at first lone =
      once_append (λ (c : Held). key_of c.prefix) (x ∷ xs) (below n (next (x ∷ xs))) lone
      (once_below n (next (x ∷ xs)) (further_spot w t k o h m l s (x ∷ xs) at) (next_first (x ∷ xs) at first)
      (once_filter (λ (c : Held). key_of c.prefix) (λ (c : Held). in_subset l.subset (key_of m.target) (key_of c.prefix) && list_any (λ (d : Held). is_there d.entries (parent (key_of c.prefix))) (x ∷ xs)) all s.all_once))
      (λ c d i j e. first n c d i j e)

  -- nothing evaluated stands above where it begins
  begins_first : IsFirst (begins_at h m l.subset)
  begins_first n c d i j same =
      let first : AllAt (begins_at h m l.subset) = s.first in
      let v = above_in n (begins_at h m l.subset) d j in
      let vd : IsAt d = below_spots w t k o h m l s n (next (begins_at h m l.subset)) (further_spot w t k o h m l s (begins_at h m l.subset) first) d j in
      let vx : IsAt v.0 = below_spots w t k o h m l s n (begins_at h m l.subset) first v.0 v.1 in
      let dx : Area = vx.1.0 in
      let dd : Area = vd.1.0 in
      let up : In (parent dd.prefix) dx.entries = parent_in w t k o h m l s v.0 d dx vx.1.2 (dd, vd.1.2) v.2 in
      let on : IsPrefix dx.prefix (parent dd.prefix) = s.may.laid.below dx (parent dd.prefix) (is_context l s.may dx vx.1.1) up in
      let le : length dx.prefix ≤ length (parent dd.prefix) = prefix_length dx.prefix (parent dd.prefix) on in
      let filled : 0 < length dd.prefix = s.good.filled dd vd.1.2.area in
      let pl : length (parent dd.prefix) + 1 ≡ length dd.prefix = parent_length dd.prefix filled in
      let fx : 0 < length dx.prefix = s.good.filled dx vx.1.2.area in
      let is : dd.prefix ≡ pin c = vd.1.2.prefix ∙ sym same in
      let len : length dd.prefix ≡ length (pin c) = ap length is in
      elim (s.begins_low c i) [
        | inr one ↦ omega arith
        | inl b ↦
            let r = below_start l s.may dx vx.1.1 in
            let rd : IsPrefix r.0.prefix b.0.prefix =
            subst (λ (q : Key). IsPrefix r.0.prefix q) (is ∙ sym b.2) (prefix_chain r.0.prefix (parent dd.prefix) dd.prefix (prefix_chain r.0.prefix dx.prefix (parent dd.prefix) r.2 on) (parent_is_prefix dd.prefix)) in
            let one : r.0 ≡ b.0 = s.may.apart r.0 b.0 r.1 b.1 rd in
            let a : length r.0.prefix ≤ length dx.prefix = prefix_length r.0.prefix dx.prefix r.2 in
            let e : length r.0.prefix ≡ length (pin c) = ap (λ (q : Area). length q.prefix) one ∙ ap length b.2 in
            omega arith
      ]

  pub spots_once : Once (map (λ (c : Held). key_of c.prefix) (evaluated h m))
  spots_once =
      subst (λ (xs : List Held). Once (map (λ (c : Held). key_of c.prefix) xs)) (sym (evaluated_is w t k o h m l s)) (once_below 16 (begins_at h m l.subset) s.first begins_first s.begins_once)

  -- ---- references

  abbrev To : Reference → Area → Type 0
  To r pin = IsTo w t k o h m l s r pin

  abbrev Among : Reference → Spot → ℕ → Type 0
  Among r n a = IsAmong w t k o h m l s r n a

  -- the entry of a needed NSSR is in an evaluated context, so a needed pin isn't it
  pin_off_spot : (r q : Reference) (p : Area) (n : Spot) (a : ℕ) → To r p → Among q n a → key_of r.target ≡ key_of q.target → ⊥
  pin_off_spot r q p n a v x e =
      let at : p.prefix ≡ n.at = sym v.target ∙ e ∙ x.target in
      let d : Area = x.needs.above in
      let id = is_context l s.may d x.needs.evaluated in
      let up : In n.at d.entries = s.may.laid.nssr_at d n id x.needs.nssr in
      let head : In n.at p.entries = subst (λ (y : Key). In y p.entries) at (s.good.headed p v.area) in
      let one : p ≡ d = one_context l s.may p d n.at (s.inside p v.area) id head up in
      let c = spot_of_evaluated w t k o h m l s p (subst (λ (y : Area). IsEvaluated l y) (sym one) x.needs.evaluated) (s.good.filled p v.area) in
      let ic : In c.0 all = (spot_is w t k o h m l s c.0 c.1).0 in
      false_true (sym v.needs.not_held ∙ s.holds p.prefix ∙ ap (is_held all) c.2.prefix ∙ held_in all c.0 ic)

  same_spot : (r q : Reference) (n i : Spot) (a b : ℕ) → Among r n a → Among q i b → key_of r.target ≡ key_of q.target → n ≡ i
  same_spot r q n i a b v x e =
      let at : n.at ≡ i.at = sym v.target ∙ e ∙ x.target in
      let d : Area = v.needs.above in
      let f : Area = x.needs.above in
      let id = is_context l s.may d v.needs.evaluated in
      let jf = is_context l s.may f x.needs.evaluated in
      let up : In i.at d.entries = subst (λ (y : Key). In y d.entries) at (s.may.laid.nssr_at d n id v.needs.nssr) in
      let one : d ≡ f = one_context l s.may d f i.at id jf up (s.may.laid.nssr_at f i jf x.needs.nssr) in
      s.may.laid.one_nssr f n i jf (subst (λ (y : Area). In n y.nssrs) one v.needs.nssr) x.needs.nssr at

  same_agent : (r q : Reference) (a b : ℕ) → r.agents ≡ a ∷ [] → q.agents ≡ b ∷ [] → (r.agents ≡ q.agents) ⊎ ((c : ℕ) × In c r.agents × In c q.agents) → a ≡ b
  same_agent r q a b e f (inl same) = (let g : a ∷ [] ≡ b ∷ [] = sym e ∙ same ∙ f in cc)
  same_agent r q a b e f (inr g) = sym (only g.0 a (subst (λ (xs : List ℕ). In g.0 xs) e g.1)) ∙ only g.0 b (subst (λ (xs : List ℕ). In g.0 xs) f g.2)
    where
      only : (c x : ℕ) → In c (x ∷ []) → c ≡ x
      only c x i = elim (in_first c x [] i) [ inl j ↦ j | inr j ↦ elim j [ ] ]

  two_pins : (r q : Reference) (p u : Area) → To r p → To q u → (p ≡ u → ⊥) → Other w r q
  two_pins r q p u v x other = record {
    apart = not_it (meet w r q) (λ e. other (meets_same w t k o h m l s r q (inl (p, v)) (inl (u, x)) e));
    unlike = λ e i. other (one_master k p u s.good v.area x.area (sym v.target ∙ e ∙ x.target));
  }

  pin_and_spot : (r q : Reference) (p : Area) (n : Spot) (a : ℕ) → To r p → Among q n a → Other w r q
  pin_and_spot r q p n a v x = record {
    apart = not_it (meet w r q) (λ e. meets_same w t k o h m l s r q (inl (p, v)) (inr (n, a, x)) e);
    unlike = λ e i. pin_off_spot r q p n a v x e;
  }

  spot_and_pin : (r q : Reference) (p : Area) (n : Spot) (a : ℕ) → Among r n a → To q p → Other w r q
  spot_and_pin r q p n a v x = record {
    apart = not_it (meet w r q) (λ e. meets_same w t k o h m l s r q (inr (n, a, v)) (inl (p, x)) e);
    unlike = λ e i. pin_off_spot q r p n a x v (sym e);
  }

  two_spots : (r q : Reference) (n i : Spot) (a b : ℕ) → Among r n a → Among q i b → ((n ≡ i) → (a ≡ b) → ⊥) → Other w r q
  two_spots r q n i a b v x other = record {
    apart = not_it (meet w r q) (λ e. (let g = meets_same w t k o h m l s r q (inr (n, a, v)) (inr (i, b, x)) e in other g.0 g.1));
    unlike = λ e c. other (same_spot r q n i a b v x e) (same_agent r q a b v.agents x.agents c);
  }

  abbrev made : Specific → Reference
  made x = reference x.pin Done Subordinate (usable_agents m.request x.access)

  abbrev test : Specific → Bool
  test x = in_subset l.subset (key_of m.target) (key_of x.pin) && is_none (held_at (served m.request h) (key_of x.pin))

  lone_below : (ks : List Specific) → Once (map (λ (x : Specific). key_of x.pin) ks) → ((r : Reference) → In r (below_needs h m l.subset ks) → (p : Area) × To r p) → Lone w (below_needs h m l.subset ks)
  lone_below ks lone view =
      lone_map w made (λ (x : Specific). key_of x.pin) (filter test ks) (once_filter (λ (x : Specific). key_of x.pin) test ks lone)
      (λ x y i j other.
      (let rx = in_map made x (filter test ks) i in
      let ry = in_map made y (filter test ks) j in
      let vx = view (made x) rx in
      let vy = view (made y) ry in
      two_pins (made x) (made y) vx.0 vy.0 vx.1 vy.1 (λ e. other (vx.1.target ∙ ap (λ (q : Area). q.prefix) e ∙ sym vy.1.target))))

  lone_of_nssr : (c : Held) (n : Nssr) → In c (evaluated h m) → In n c.nssrs → Lone w (in_option [] (ask w t k o h m l s c n) (entry_at c.entries (key_of n.at)))
  lone_of_nssr c n ic i = at (entry_at c.entries (key_of n.at)) refl
    where
      v : IsAt c
      v = spot_is w t k o h m l s c ic

      map_once : Once (map (λ (x : ℕ). x) (others h.me n.agents))
      map_once = once_filter (λ (x : ℕ). x) (λ (x : ℕ). not (x == h.me)) n.agents (same n.agents (v.1.2.agents_once n i))
        where
          map_same : (xs : List ℕ) → map (λ (x : ℕ). x) xs ≡ xs
          map_same [] = refl
          map_same (x ∷ xs) = ap (λ (ys : List ℕ). x ∷ ys) (map_same xs)

          same : (xs : List ℕ) → Once xs → Once (map (λ (x : ℕ). x) xs)
          same xs one = subst (λ (ys : List ℕ). Once ys) (sym (map_same xs)) one

      of_agents : (e : Named) → key_at e ≡ key_of n.at → (b : Bool) → in_scope l.subset (key_of m.target) (key_of e.name) ≡ b → Lone w (if b then map (wide_made w t k o h m l s c e) (others h.me n.agents) else [])
      of_agents e is false u = tt
      of_agents e is true u =
          let scope : IsInScope l.subset l.base (key_of n.at) =
          subst (λ (y : Key). IsInScope l.subset y (key_of n.at)) (sym s.base) (subst (λ (y : Key). IsInScope l.subset (key_of m.target) y) is ((scope_decides l.subset (key_of m.target) (key_of e.name)).0 u)) in
          lone_map w (wide_made w t k o h m l s c e) (λ (x : ℕ). x) (others h.me n.agents) map_once
          (λ a b ia ib other.
          two_spots (wide_made w t k o h m l s c e a) (wide_made w t k o h m l s c e b) (spot_of n) (spot_of n) a b
          (among w t k o h m l s v.1.0 c n e a v.1.1 v.1.2 i is ia scope) (among w t k o h m l s v.1.0 c n e b v.1.1 v.1.2 i is ib scope) (λ x y. other y))

      at : (x : Option Named) → entry_at c.entries (key_of n.at) ≡ x → Lone w (in_option [] (ask w t k o h m l s c n) x)
      at None e = tt
      at (Some y) e =
          let f = of_find (λ (z : Named). same_key (key_at z) (key_of n.at)) y c.entries e in
          of_agents y ((key_decides (key_at y) (key_of n.at)).0 f.1) (in_scope l.subset (key_of m.target) (key_of y.name)) refl

  lone_wide : (c : Held) → In c (evaluated h m) → Lone w (wide_needs h m l.subset c)
  lone_wide c ic =
      let v : IsAt c = spot_is w t k o h m l s c ic in
      lone_flat w (λ (n : Nssr). in_option [] (ask w t k o h m l s c n) (entry_at c.entries (key_of n.at))) (λ (n : Nssr). key_of n.at) c.nssrs v.1.2.nssrs_once
      (λ n i. lone_of_nssr c n ic i)
      (λ n j r q i ij other ir iq.
      (let x = ask_among w t k o h m l s v.1.0 c n v.1.1 v.1.2 i r ir in
      let y = ask_among w t k o h m l s v.1.0 c j v.1.1 v.1.2 ij q iq in
      two_spots r q (spot_of n) (spot_of j) x.0 y.0 x.2 y.2 (λ e a. other (ap (λ (z : Spot). z.at) e))))

  lone_context : (c : Held) → In c (evaluated h m) → Lone w (below_needs h m l.subset c.subordinate ++ wide_needs h m l.subset c)
  lone_context c ic =
      let v : IsAt c = spot_is w t k o h m l s c ic in
      lone_append w (below_needs h m l.subset c.subordinate) (wide_needs h m l.subset c) (lone_below c.subordinate v.1.2.referred_once (specific_view w t k o h m l s c ic)) (lone_wide c ic)
      (λ r q i j.
      (let x = specific_view w t k o h m l s c ic r i in
      let y = wide_view w t k o h m l s c ic q j in
      pin_and_spot r q x.0 (spot_of y.0) y.2.0 x.1 y.2.2))

  -- what a subordinate reference's pin is just below
  pin_above : (ks : List Specific) (d : Area) → ((x : Specific) → In x ks → (q : Area) × (q.prefix ≡ key_of x.pin) × In (parent q.prefix) d.entries) → (r : Reference) (p : Area) → In r (below_needs h m l.subset ks) → To r p → In (parent p.prefix) d.entries
  pin_above ks d f r p i v =
      let x = of_map made r (filter test ks) i in
      let g = f x.0 (of_filter test x.0 ks x.1).0 in
      subst (λ (q : Key). In (parent q) d.entries) (g.1 ∙ ap (λ (y : Reference). key_of y.target) (sym x.2) ∙ v.target) g.2

  context_pin : (c : Held) (v : IsAt c) (r : Reference) (p : Area) → In r (below_needs h m l.subset c.subordinate) → To r p → In (parent p.prefix) v.1.0.entries
  context_pin c v r p i x = pin_above c.subordinate v.1.0 (λ y j. (let g = v.1.2.told y j in (g.0, g.2, g.3))) r p i x

  -- references from two contexts
  two_contexts : (c d : Held) → In c (evaluated h m) → In d (evaluated h m) → pin c ≢ pin d → (r q : Reference) → In r (below_needs h m l.subset c.subordinate ++ wide_needs h m l.subset c)
      → In q (below_needs h m l.subset d.subordinate ++ wide_needs h m l.subset d) → Other w r q
  two_contexts c d ic id other r q ir iq =
      elim (in_either r (below_needs h m l.subset c.subordinate) (wide_needs h m l.subset c) ir) [
        | inl i ↦
            let x = specific_view w t k o h m l s c ic r i in
            elim (in_either q (below_needs h m l.subset d.subordinate) (wide_needs h m l.subset d) iq) [
              | inl j ↦ (let y = specific_view w t k o h m l s d id q j in two_pins r q x.0 y.0 x.1 y.1 (λ e. at_pins x.0 y.0 e (context_pin c vc r x.0 i x.1) (context_pin d vd q y.0 j y.1)))
              | inr j ↦ (let y = wide_view w t k o h m l s d id q j in pin_and_spot r q x.0 (spot_of y.0) y.2.0 x.1 y.2.2)
            ]
        | inr i ↦
            let x = wide_view w t k o h m l s c ic r i in
            elim (in_either q (below_needs h m l.subset d.subordinate) (wide_needs h m l.subset d) iq) [
              | inl j ↦ (let y = specific_view w t k o h m l s d id q j in spot_and_pin r q y.0 (spot_of x.0) x.2.0 x.2.2 y.1)
              | inr j ↦ (let y = wide_view w t k o h m l s d id q j in two_spots r q (spot_of x.0) (spot_of y.0) x.2.0 y.2.0 x.2.2 y.2.2 (λ e a. at_spots x.0 y.0 e x.1 y.1))
            ]
      ]
    where
      vc : IsAt c
      vc = spot_is w t k o h m l s c ic

      vd : IsAt d
      vd = spot_is w t k o h m l s d id

      at_one : (x y : Key) → x ≡ y → In x vc.1.0.entries → In y vd.1.0.entries → ⊥
      at_one x y e i j =
          let one : vc.1.0 ≡ vd.1.0 = one_context l s.may vc.1.0 vd.1.0 y (is_context l s.may vc.1.0 vc.1.1) (is_context l s.may vd.1.0 vd.1.1) (subst (λ (z : Key). In z vc.1.0.entries) e i) j in
          other (sym vc.1.2.prefix ∙ ap (λ (z : Area). z.prefix) one ∙ vd.1.2.prefix)

      at_pins : (x y : Area) → x ≡ y → In (parent x.prefix) vc.1.0.entries → In (parent y.prefix) vd.1.0.entries → ⊥
      at_pins x y e i j = at_one (parent x.prefix) (parent y.prefix) (ap (λ (z : Area). parent z.prefix) e) i j

      nssr_entry_at : (x : Held) (v : IsAt x) (n : Nssr) → In n x.nssrs → In (key_of n.at) v.1.0.entries
      nssr_entry_at x v n i = s.may.laid.nssr_at v.1.0 (spot_of n) (is_context l s.may v.1.0 v.1.1) (subst (λ (xs : List Spot). In (spot_of n) xs) (sym v.1.2.nssrs) (in_map spot_of n x.nssrs i))

      at_spots : (x y : Nssr) → spot_of x ≡ spot_of y → In x c.nssrs → In y d.nssrs → ⊥
      at_spots x y e i j = at_one (key_of x.at) (key_of y.at) (ap (λ (z : Spot). z.at) e) (nssr_entry_at c vc x i) (nssr_entry_at d vd y j)

  -- and from the root
  root_contexts : answers_root h m ≡ true → (d : Held) → In d (evaluated h m) → (r q : Reference) → In r (below_needs h m l.subset h.root) → In q (below_needs h m l.subset d.subordinate ++ wide_needs h m l.subset d) → Other w r q
  root_contexts yes_root d id r q ir iq =
      let x = root_view w t k o h m l s yes_root r ir in
      elim (in_either q (below_needs h m l.subset d.subordinate) (wide_needs h m l.subset d) iq) [
        | inr j ↦ (let y = wide_view w t k o h m l s d id q j in pin_and_spot r q x.0 (spot_of y.0) y.2.0 x.1 y.2.2)
        | inl j ↦
            let y = specific_view w t k o h m l s d id q j in
            two_pins r q x.0 y.0 x.1 y.1 (λ e.
            (let z = of_map made r (filter test h.root) ir in
            let g = s.root_told yes_root z.0 (of_filter test z.0 h.root z.1).0 in
            let top : Area = g.4.0 in
            let same : g.0.prefix ≡ y.0.prefix = g.2 ∙ ap (λ (u : Reference). key_of u.target) (sym z.2) ∙ x.1.target ∙ ap (λ (u : Area). u.prefix) e in
            let up : In (parent y.0.prefix) top.entries = subst (λ (u : Key). In (parent u) top.entries) same g.4.3 in
            let one : top ≡ vd.1.0 = one_context l s.may top vd.1.0 (parent y.0.prefix) (is_context l s.may top g.4.1) (is_context l s.may vd.1.0 vd.1.1) up (context_pin d vd q y.0 j y.1) in
            let none : length top.prefix ≡ 0 = g.4.2 in
            let some : 0 < length vd.1.0.prefix = s.good.filled vd.1.0 vd.1.2.area in
            let level : length top.prefix ≡ length vd.1.0.prefix = ap (λ (u : Area). length u.prefix) one in
            omega arith))
      ]
    where
      vd : IsAt d
      vd = spot_is w t k o h m l s d id

  lone_needs : Lone w (rest w t k o h m l s)
  lone_needs =
      lone_append w (if answers_root h m then below_needs h m l.subset h.root else []) (flat_map (λ (c : Held). below_needs h m l.subset c.subordinate ++ wide_needs h m l.subset c) (evaluated h m))
      (at_root (answers_root h m) refl)
      (lone_flat w (λ (c : Held). below_needs h m l.subset c.subordinate ++ wide_needs h m l.subset c) (λ (c : Held). key_of c.prefix) (evaluated h m) spots_once lone_context
      (λ c d r q ic id other ir iq. two_contexts c d ic id other r q ir iq))
      (λ r q i j.
      (let d = of_flat (λ (c : Held). below_needs h m l.subset c.subordinate ++ wide_needs h m l.subset c) q (evaluated h m) j in
      at_both (answers_root h m) refl r q d.0 d.1 i d.2))
    where
      at_root : (b : Bool) → answers_root h m ≡ b → Lone w (if b then below_needs h m l.subset h.root else [])
      at_root false e = tt
      at_root true e = lone_below h.root s.root_once (root_view w t k o h m l s e)

      at_both : (b : Bool) → answers_root h m ≡ b → (r q : Reference) (d : Held) → In d (evaluated h m) → In r (if b then below_needs h m l.subset h.root else []) → In q (below_needs h m l.subset d.subordinate ++ wide_needs h m l.subset d) → Other w r q
      at_both false e r q d id i j = elim i [ ]
      at_both true e r q d id i j = root_contexts e d id r q i j

  pub needs_lone : Lone w (part_needs h m)
  needs_lone = subst (λ (xs : List Reference). Lone w xs) (sym (needs_are w t k o h m l s)) lone_needs

  pub needs_apart : are_apart w (part_needs h m) ≡ true
  needs_apart = lone_apart w (part_needs h m) needs_lone

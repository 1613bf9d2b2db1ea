-- The references that are needed for the parts are those of the look.
use Rattle.std.proofs.Common.{◌≡◌, ◌≢◌, ℕ, ◌<◌, ◌==◌, Bool, true, false, not, ◌&&◌, ◌⊎◌, inl, inr, ◌↔◌, List, [], ◌∷◌, ◌++◌, length, map, refl, sym, ap, subst, ◌∙◌, arith, Option, Some, None, if◌then◌else◌}
use Rattle.std.specs.List.{filter, flat_map}
use Rattle.std.specs.Option.{is_some, is_none}
use Rattle.std.proofs.lemmas.Bool.Decides.{Decides-eqb}
use Rattle.x5_model.specs.Words.{in_option}
use Rattle.x5_model.specs.Members.{In}
use Rattle.x5_model.specs.Keys.{Key, KeyRdn, same_key, parent, is_child}
use Rattle.x5_model.specs.Values.{Name, key_of, key_of_rdn, last_rdn}
use Rattle.x5_model.specs.Entries.{Named}
use Rattle.x5_model.specs.Requests.{Subset}
use Rattle.x5_model.specs.References.{Done, Reference, Subordinate, NonSpecific, Chained}
use Rattle.x5_model.proofs.KeyLaws.{key_decides}
use Rattle.x5_model.proofs.Lists.{both_true, and_true, in_first, in_either, in_left, in_right, in_map, of_map, in_flat, of_flat, of_find, not_found, of_filter, in_filter, true_or_false}
use Rattle.x5_model.proofs.Prefixes.{child_decides}
use Rattle.x5_model_tree.specs.World.{Specific, Nssr, World}
use Rattle.x5_model_tree.specs.Tree.{Tree, key_at, entry_at}
use Rattle.x5_model_tree.specs.Ask.{in_subset}
use Rattle.x5_model_run.specs.Holdings.{Held, Holdings, may_copy, usable_agents, held_at, served}
use Rattle.x5_model_run.specs.Needs.{others, reference, is_excluded, evaluated, answers_root, below_needs, in_scope, rdn_below, treated_below, wide_needs, part_needs}
use Rattle.x5_model_theory.specs.Knowledge.{Knowledge, Area, Spot}
use Rattle.x5_model_theory.specs.Described.{spot_of}
use Rattle.x5_model_theory.specs.Scopes.{InSubset, IsInScope, Look, IsEvaluated, IsTold, IsTreated, NeedsSpecific, NeedsNonSpecific}
use Rattle.x5_model_theory.proofs.Cohering.{one_master}
use Rattle.x5_model_theory.proofs.Scoping.{is_context, one_context, in_subset_below}
use Rattle.x5_model_parts.proofs.Asking.{false_true, subset_decides, scope_decides, same_by_last, last_by_key, rdn_keys, listed_decides, in_sorted_once}
use Rattle.x5_model_parts.proofs.Seeing.{is_held, IsTellable, Like, Sees}
use Rattle.x5_model_parts.proofs.Spots.{of_held, held_in, none_or_some, spot_is, spot_of_evaluated}

pub not_same : (a b : ℕ) → not (a == b) ≡ true → a ≢ b
not_same a b e same = false_true (sym (not_it (a == b) e) ∙ (Decides-eqb a b).1 same)
  where
    not_it : (x : Bool) → not x ≡ true → x ≡ false
    not_it true e = absurd (false_true e)
    not_it false e = refl

pub same_not : (a b : ℕ) → a ≢ b → not (a == b) ≡ true
same_not a b h = go (a == b) refl
  where
    go : (x : Bool) → (a == b) ≡ x → not x ≡ true
    go true e = absurd (h ((Decides-eqb a b).0 e))
    go false e = refl

none_held : (all : List Held) (q : Key) → is_none (held_at all q) ≡ true → is_held all q ≡ false
none_held all q e = go (held_at all q) e
  where
    go : (x : Option Held) → is_none x ≡ true → is_some x ≡ false
    go None e = refl
    go (Some c) e = absurd (false_true e)

held_none : (all : List Held) (q : Key) → is_held all q ≡ false → is_none (held_at all q) ≡ true
held_none all q e = go (held_at all q) e
  where
    go : (x : Option Held) → is_some x ≡ false → is_none x ≡ true
    go None e = refl
    go (Some c) e = absurd (false_true (sym e))

module _ (w : World) (t : Tree) (k : Knowledge) (o : ℕ) (h : Holdings) (m : Chained) (l : Look) (s : Sees w t k o h m l) where
  abbrev all : List Held
  all = served m.request h

  -- a subordinate reference of the look
  pub record IsTo (r : Reference) (pin : Area) : Type 0 where
    pub needs : NeedsSpecific l pin
    pub area : In pin k.areas
    pub target : key_of r.target ≡ pin.prefix
    pub progress : r.progress ≡ Done
    pub kind : r.kind ≡ Subordinate
    pub agents : (a : ℕ) → In a r.agents → may_copy m.request ≡ false → a ≡ pin.master

  -- a nonSpecific one
  pub record IsAmong (r : Reference) (n : Spot) (a : ℕ) : Type 0 where
    pub needs : NeedsNonSpecific l n a
    pub target : key_of r.target ≡ n.at
    pub progress : r.progress ≡ Done
    pub kind : r.kind ≡ NonSpecific
    pub agents : r.agents ≡ a ∷ []
    pub excluded : (q : Area) (x : Name) → In q k.areas → parent q.prefix ≡ n.at → key_of x ≡ q.prefix → (is_excluded r.exclusions x ≡ true) ↔ IsTreated l q.prefix

  pub told_by : (d : Area) (p : Key) → 0 < length p → IsTold l d p → IsTellable k d.master p
  told_by d p f (inl r) = inl (r.0, subst (λ xs. In r.0 xs) s.references r.1, r.2, r.3)
  told_by d p f (inr c) = inr (c.0, s.outside c.0 c.1 (subst (λ (x : Key). 0 < length x) (sym c.3) f), c.2, c.3)

  pub by_told : (d : Area) (p : Key) → IsTellable k d.master p → IsTold l d p
  by_told d p (inl r) = inl (r.0, subst (λ xs. In r.0 xs) (sym s.references) r.1, r.2, r.3)
  by_told d p (inr c) = inr (c.0, s.inside c.0 c.1, c.2, c.3)

  -- ---- subordinate references

  abbrev pub IsKnown : Area → Specific → Type 0
  IsKnown d x = (q : Area) × In q k.areas × (q.prefix ≡ key_of x.pin) × (q.master ≡ x.access.master) × In (parent q.prefix) d.entries × IsTold l d q.prefix

  abbrev pub made : Specific → Reference
  made x = reference x.pin Done Subordinate (usable_agents m.request x.access)

  master_alone : (x : Specific) (a : ℕ) → In a (usable_agents m.request x.access) → may_copy m.request ≡ false → a ≡ x.access.master
  master_alone x a i e = go (may_copy m.request) e i
    where
      go : (b : Bool) → b ≡ false → In a (if b then (x.access.master ∷ x.access.shadows) else (x.access.master ∷ [])) → a ≡ x.access.master
      go true e i = absurd (false_true (sym e))
      go false e i = elim (in_first a x.access.master [] i) [ inl j ↦ j | inr j ↦ elim j [ ] ]

  below_to : (ks : List Specific) (d : Area) → ((x : Specific) → In x ks → IsKnown d x) → IsEvaluated l d → (r : Reference) → In r (below_needs h m l.subset ks) → (pin : Area) × IsTo r pin
  below_to ks d f e r i =
      let test : Specific → Bool = λ x. in_subset l.subset (key_of m.target) (key_of x.pin) && is_none (held_at (served m.request h) (key_of x.pin)) in
      let x = of_map made r (filter test ks) i in
      let g = of_filter test x.0 ks x.1 in
      let b = both_true (in_subset l.subset (key_of m.target) (key_of x.0.pin)) _ g.1 in
      let q = f x.0 g.0 in
      let within : InSubset l.subset l.base q.0.prefix =
      subst (λ (y : Key). InSubset l.subset y q.0.prefix) (sym s.base) (subst (λ (y : Key). InSubset l.subset (key_of m.target) y) (sym q.2) ((subset_decides l.subset (key_of m.target) (key_of x.0.pin)).0 b.0)) in (
        q.0,
        subst (λ (y : Reference). IsTo y q.0) (sym x.2) (record {
          needs = record {
            area = s.inside q.0 q.1;
            filled = s.good.filled q.0 q.1;
            above = d;
            evaluated = e;
            just_below = q.4;
            within = within;
            not_held = s.holds q.0.prefix ∙ ap (is_held all) q.2 ∙ none_held all (key_of x.0.pin) b.1;
            told = q.5;
          };
          area = q.1;
          target = sym q.2;
          progress = refl;
          kind = refl;
          agents = λ a j c. master_alone x.0 a j c ∙ sym q.3;
        }),
      )

  to_below : (ks : List Specific) (d : Area) → ((x : Specific) → In x ks → IsKnown d x) → IsEvaluated l d → (x : Specific) (q : Area) → In x ks → In q k.areas → key_of x.pin ≡ q.prefix → InSubset l.subset l.base q.prefix → l.holds q.prefix ≡ false
      → (r : Reference) × In r (below_needs h m l.subset ks) × IsTo r q
  to_below ks d f e x q ix iq same within free =
      let test : Specific → Bool = λ x. in_subset l.subset (key_of m.target) (key_of x.pin) && is_none (held_at (served m.request h) (key_of x.pin)) in
      let sub : in_subset l.subset (key_of m.target) (key_of x.pin) ≡ true =
      (subset_decides l.subset (key_of m.target) (key_of x.pin)).1 (subst (λ (y : Key). InSubset l.subset y (key_of x.pin)) s.base (subst (λ (y : Key). InSubset l.subset l.base y) (sym same) within)) in
      let none : is_none (held_at all (key_of x.pin)) ≡ true = held_none all (key_of x.pin) (ap (is_held all) same ∙ sym (s.holds q.prefix) ∙ free) in
      let i : In (made x) (below_needs h m l.subset ks) = in_map made x (filter test ks) (in_filter test x ks ix (and_true _ _ sub none)) in
      let v = below_to ks d f e (made x) i in
      let one : v.0 ≡ q = one_master k v.0 q s.good v.1.area iq (sym v.1.target ∙ same) in
      (made x, i, subst (λ (y : Area). IsTo (made x) y) one v.1)

  pub known_of : (d : Area) (c : Held) → Like k all d c → (x : Specific) → In x c.subordinate → IsKnown d x
  known_of d c like x i = (let q = like.told x i in (q.0, q.1, q.2, q.5, q.3, by_told d q.0.prefix q.4))

  -- ---- nonSpecific references

  abbrev names_of : Held → List Name
  names_of c = map (λ (d : Held). d.prefix) (served m.request h) ++ map (λ (x : Specific). x.pin) c.subordinate

  abbrev child_names : Held → Key → List Name
  child_names c at = filter (λ (x : Name). is_child at (key_of x)) (map (λ (d : Held). d.prefix) (served m.request h) ++ map (λ (x : Specific). x.pin) c.subordinate)

  treated_is : (c : Held) (at : Key) (x : Name) → (is_excluded (treated_below h m c at) x ≡ true) ↔ In (key_of_rdn (last_rdn x)) (rdn_keys (map last_rdn (child_names c at)))
  treated_is c at x =
      let d = listed_decides (treated_below h m c at) (last_rdn x) in
      let o = in_sorted_once rdn_below (key_of_rdn (last_rdn x)) (map last_rdn (child_names c at)) in
      (λ e. o.0 (d.0 e), λ i. d.1 (o.1 i))

  name_treated : (d : Area) (c : Held) → IsEvaluated l d → Like k all d c → (q : Area) → In q k.areas → In (parent q.prefix) d.entries → InSubset l.subset l.base q.prefix
      → (z : Name) → In z (names_of c) → key_of z ≡ q.prefix → IsTreated l q.prefix
  name_treated d c e like q iq up within z i same =
      elim (in_either z (map (λ (d : Held). d.prefix) (served m.request h)) (map (λ (x : Specific). x.pin) c.subordinate) i) [
        | inl j ↦
            let y = of_map (λ (d : Held). d.prefix) z (served m.request h) j in
            let held : l.holds q.prefix ≡ true = s.holds q.prefix ∙ ap (is_held all) (sym same ∙ ap key_of y.2) ∙ held_in all y.0 y.1 in
            (d, e, up, within, inl held)
        | inr j ↦
            let y = of_map (λ (x : Specific). x.pin) z c.subordinate j in
            let g = like.told y.0 y.1 in
            let is : g.0.prefix ≡ q.prefix = g.2 ∙ ap key_of (sym y.2) ∙ same in
            (d, e, up, within, inr (by_told d q.prefix (subst (λ (p : Key). IsTellable k d.master p) is g.4)))
      ]

  treated_name : (d : Area) (c : Held) → IsEvaluated l d → Like k all d c → (q : Area) → In q k.areas → In (parent q.prefix) d.entries → IsTreated l q.prefix
      → (z : Name) × In z (names_of c) × (key_of z ≡ q.prefix)
  treated_name d c e like q iq up treated =
      let held : l.holds q.prefix ≡ true → (z : Name) × In z (names_of c) × (key_of z ≡ q.prefix) = λ sure.
      let y = of_held all q.prefix (sym (s.holds q.prefix) ∙ sure) in
      (y.0.prefix, in_left y.0.prefix (map (λ (d : Held). d.prefix) (served m.request h)) (map (λ (x : Specific). x.pin) c.subordinate) (in_map (λ (d : Held). d.prefix) y.0 (served m.request h) y.1), y.2) in
      elim treated.4 [
        | inl sure ↦ held sure
        | inr said ↦ elim (true_or_false (l.holds q.prefix)) [
          | inl sure ↦ held sure
          | inr free ↦
              let same : treated.0 ≡ d = one_context l s.may treated.0 d (parent q.prefix) (context_of treated.0 treated.1) (context_of d e) treated.2 up in
              let tellable : IsTellable k d.master q.prefix = told_by d q.prefix (s.good.filled q iq) (subst (λ (x : Area). IsTold l x q.prefix) same said) in
              let x = like.tells q iq up tellable (sym (s.holds q.prefix) ∙ free) in
              (x.0.pin, in_right x.0.pin (map (λ (d : Held). d.prefix) (served m.request h)) (map (λ (x : Specific). x.pin) c.subordinate) (in_map (λ (x : Specific). x.pin) x.0 c.subordinate x.1), x.2)
        ]
      ]
    where
      context_of : (x : Area) → IsEvaluated l x → In x l.knowledge.areas
      context_of x e = is_context l s.may x e

  excluded_is : (d : Area) (c : Held) (n : Spot) → IsEvaluated l d → Like k all d c → In n d.nssrs → IsInScope l.subset l.base n.at → (q : Area) (x : Name) → In q k.areas → parent q.prefix ≡ n.at → key_of x ≡ q.prefix
      → (is_excluded (treated_below h m c n.at) x ≡ true) ↔ IsTreated l q.prefix
  excluded_is d c n e like i scope q x iq at same = (to, from)
    where
      filled : 0 < length q.prefix
      filled = s.good.filled q iq

      up : In (parent q.prefix) d.entries
      up = subst (λ (y : Key). In y d.entries) (sym at) (s.may.laid.nssr_at d n (is_context l s.may d e) i)

      within : InSubset l.subset l.base q.prefix
      within = in_subset_below l.subset l.base q.prefix filled (subst (λ (y : Key). IsInScope l.subset l.base y) (sym at) scope)

      to : is_excluded (treated_below h m c n.at) x ≡ true → IsTreated l q.prefix
      to sure =
          let y = of_map key_of_rdn (key_of_rdn (last_rdn x)) (map last_rdn (child_names c n.at)) ((treated_is c n.at x).0 sure) in
          let z = of_map last_rdn y.0 (child_names c n.at) y.1 in
          let f = of_filter (λ (x : Name). is_child n.at (key_of x)) z.0 (names_of c) z.1 in
          let child = (child_decides n.at (key_of z.0)).0 f.1 in
          let last : key_of_rdn (last_rdn z.0) ≡ key_of_rdn (last_rdn x) = ap key_of_rdn (sym z.2) ∙ sym y.2 in
          let above : parent (key_of z.0) ≡ parent (key_of x) = child.1 ∙ sym at ∙ ap parent (sym same) in
          let is : key_of z.0 ≡ key_of x = same_by_last z.0 x child.0 (subst (λ (y : Key). 0 < length y) (sym same) filled) above last in
          name_treated d c e like q iq up within z.0 f.0 (is ∙ same)

      from : IsTreated l q.prefix → is_excluded (treated_below h m c n.at) x ≡ true
      from treated =
          let z = treated_name d c e like q iq up treated in
          let child : is_child n.at (key_of z.0) ≡ true = (child_decides n.at (key_of z.0)).1 (subst (λ (y : Key). 0 < length y) (sym z.2) filled, ap parent z.2 ∙ at) in
          let there : In z.0 (child_names c n.at) = in_filter (λ (x : Name). is_child n.at (key_of x)) z.0 (names_of c) z.1 child in
          let last : key_of_rdn (last_rdn x) ≡ key_of_rdn (last_rdn z.0) = last_by_key x z.0 (subst (λ (y : Key). 0 < length y) (sym same) filled) (same ∙ sym z.2) in
          (treated_is c n.at x).1 (subst (λ (y : KeyRdn). In y (rdn_keys (map last_rdn (child_names c n.at)))) (sym last) (in_map key_of_rdn (last_rdn z.0) (map last_rdn (child_names c n.at)) (in_map last_rdn z.0 (child_names c n.at) there)))

  abbrev pub wide_made : Held → Named → ℕ → Reference
  wide_made c e a = record (reference e.name Done NonSpecific (a ∷ [])) { exclusions = treated_below h m c (key_of e.name) }

  abbrev pub ask : Held → Nssr → Named → List Reference
  ask c n e = if in_scope l.subset (key_of m.target) (key_of e.name) then map (λ (a : ℕ). record (reference e.name Done NonSpecific (a ∷ [])) { exclusions = treated_below h m c (key_of e.name) }) (others h.me n.agents) else []

  nssr_in : (d : Area) (c : Held) (n : Nssr) → Like k all d c → In n c.nssrs → In (spot_of n) d.nssrs
  nssr_in d c n like i = subst (λ (xs : List Spot). In (spot_of n) xs) (sym like.nssrs) (in_map spot_of n c.nssrs i)

  pub among : (d : Area) (c : Held) (n : Nssr) (e : Named) (a : ℕ) → IsEvaluated l d → Like k all d c → In n c.nssrs → key_at e ≡ key_of n.at → In a (others h.me n.agents) → IsInScope l.subset l.base (key_of n.at)
      → IsAmong (wide_made c e a) (spot_of n) a
  among d c n e a ev like i same ia scope =
      let f = of_filter (λ (x : ℕ). not (x == h.me)) a n.agents ia in
      record {
        needs = record {
          above = d;
          evaluated = ev;
          nssr = nssr_in d c n like i;
          listed = f.0;
          other = λ is. not_same a h.me f.1 (is ∙ s.agent);
          in_scope = scope;
        };
        target = same;
        progress = refl;
        kind = refl;
        agents = refl;
        excluded = λ q x iq at is.
            let g = excluded_is d c (spot_of n) ev like (nssr_in d c n like i) scope q x iq at is in
            subst (λ (y : Key). (is_excluded (treated_below h m c y) x ≡ true) ↔ IsTreated l q.prefix) (sym same) g;
      }

  pub ask_among : (d : Area) (c : Held) (n : Nssr) → IsEvaluated l d → Like k all d c → In n c.nssrs → (r : Reference) → In r (in_option [] (ask c n) (entry_at c.entries (key_of n.at)))
      → (a : ℕ) × In a n.agents × IsAmong r (spot_of n) a
  ask_among d c n ev like j r i = at (entry_at c.entries (key_of n.at)) refl i
    where
      of_ask : (e : Named) → key_at e ≡ key_of n.at → (b : Bool) → in_scope l.subset (key_of m.target) (key_of e.name) ≡ b → In r (if b then map (wide_made c e) (others h.me n.agents) else [])
          → (a : ℕ) × In a n.agents × IsAmong r (spot_of n) a
      of_ask e same true t i =
          let x = of_map (wide_made c e) r (others h.me n.agents) i in
          let scope : IsInScope l.subset l.base (key_of n.at) =
          subst (λ (y : Key). IsInScope l.subset y (key_of n.at)) (sym s.base) (subst (λ (y : Key). IsInScope l.subset (key_of m.target) y) same ((scope_decides l.subset (key_of m.target) (key_of e.name)).0 t)) in
          (x.0, (of_filter (λ (x : ℕ). not (x == h.me)) x.0 n.agents x.1).0, subst (λ (y : Reference). IsAmong y (spot_of n) x.0) (sym x.2) (among d c n e x.0 ev like j same x.1 scope))
      of_ask e same false t i = elim i [ ]

      at : (x : Option Named) → entry_at c.entries (key_of n.at) ≡ x → In r (in_option [] (ask c n) x) → (a : ℕ) × In a n.agents × IsAmong r (spot_of n) a
      at None e i = elim i [ ]
      at (Some y) e i =
          let f = of_find (λ (z : Named). same_key (key_at z) (key_of n.at)) y c.entries e in
          let is : key_at y ≡ key_of n.at = (key_decides (key_at y) (key_of n.at)).0 f.1 in
          of_ask y is (in_scope l.subset (key_of m.target) (key_of y.name)) refl i

  wide_among : (d : Area) (c : Held) → IsEvaluated l d → Like k all d c → (r : Reference) → In r (wide_needs h m l.subset c)
      → (n : Nssr) × In n c.nssrs × ((a : ℕ) × In a n.agents × IsAmong r (spot_of n) a)
  wide_among d c ev like r i =
      let n = of_flat (λ (n : Nssr). in_option [] (ask c n) (entry_at c.entries (key_of n.at))) r c.nssrs i in
      (n.0, n.1, ask_among d c n.0 ev like n.1 r n.2)

  among_wide : (d : Area) (c : Held) → IsEvaluated l d → Like k all d c → (n : Spot) (a : ℕ) → In n d.nssrs → In a n.agents → a ≢ l.agent → IsInScope l.subset l.base n.at
      → (r : Reference) × In r (wide_needs h m l.subset c) × IsAmong r n a
  among_wide d c ev like n a i ia other scope =
      let x = of_map spot_of n c.nssrs (subst (λ (xs : List Spot). In n xs) like.nssrs i) in
      let result = at x.0 x.1 (subst (λ (y : Spot). In a y.agents) x.2 ia) (subst (λ (y : Spot). IsInScope l.subset l.base y.at) x.2 scope) (entry_at c.entries (key_of x.0.at)) refl in
      subst (λ (y : Spot). (r : Reference) × In r (wide_needs h m l.subset c) × IsAmong r y a) (sym x.2) result
    where
      into : (n : Nssr) (e : Named) (b : Bool) → b ≡ true → In a (others h.me n.agents) → In (wide_made c e a) (if b then map (wide_made c e) (others h.me n.agents) else [])
      into n e true t j = in_map (wide_made c e) a (others h.me n.agents) j
      into n e false t j = absurd (false_true t)

      at : (n : Nssr) → In n c.nssrs → In a n.agents → IsInScope l.subset l.base (key_of n.at) → (x : Option Named) → entry_at c.entries (key_of n.at) ≡ x → (r : Reference) × In r (wide_needs h m l.subset c) × IsAmong r (spot_of n) a
      at n j ja scope None e =
          let y = of_map key_at (key_of n.at) c.entries (like.nssr_there n j) in
          let none : same_key (key_at y.0) (key_of n.at) ≡ false = not_found (λ (z : Named). same_key (key_at z) (key_of n.at)) y.0 c.entries e y.1 in
          absurd (false_true (sym none ∙ (key_decides (key_at y.0) (key_of n.at)).1 (sym y.2)))
      at n j ja scope (Some y) e =
          let f = of_find (λ (z : Named). same_key (key_at z) (key_of n.at)) y c.entries e in
          let is : key_at y ≡ key_of n.at = (key_decides (key_at y) (key_of n.at)).0 f.1 in
          let oth : In a (others h.me n.agents) = in_filter (λ (x : ℕ). not (x == h.me)) a n.agents ja (same_not a h.me (λ e. other (e ∙ sym s.agent))) in
          let sure : in_scope l.subset (key_of m.target) (key_of y.name) ≡ true =
          (scope_decides l.subset (key_of m.target) (key_of y.name)).1 (subst (λ (z : Key). IsInScope l.subset z (key_of y.name)) s.base (subst (λ (z : Key). IsInScope l.subset l.base z) (sym is) scope)) in
          let inside : In (wide_made c y a) (in_option [] (ask c n) (entry_at c.entries (key_of n.at))) =
          subst (λ (z : Option Named). In (wide_made c y a) (in_option [] (ask c n) z)) (sym e) (into n y (in_scope l.subset (key_of m.target) (key_of y.name)) sure oth) in (
            wide_made c y a,
            in_flat (λ (n : Nssr). in_option [] (ask c n) (entry_at c.entries (key_of n.at))) (wide_made c y a) n c.nssrs j inside,
            among d c n y a ev like j is oth scope,
          )

  -- ---- all of them

  abbrev pub rest : List Reference
  rest = (if answers_root h m then below_needs h m l.subset h.root else []) ++ flat_map (λ (c : Held). below_needs h m l.subset c.subordinate ++ wide_needs h m l.subset c) (evaluated h m)

  pub needs_are : part_needs h m ≡ rest
  needs_are =
      ap (λ (x : Option Subset). in_option [] (λ (subset : Subset). (if answers_root h m then below_needs h m subset h.root else []) ++ flat_map (λ (c : Held). below_needs h m subset c.subordinate ++ wide_needs h m subset c) (evaluated h m)) x) s.subset

  abbrev pub IsView : Reference → Type 0
  IsView r = ((pin : Area) × IsTo r pin) ⊎ ((n : Spot) × (a : ℕ) × IsAmong r n a)

  -- of the root
  pub root_known : (d : Area) → IsEvaluated l d → length d.prefix ≡ 0 → answers_root h m ≡ true → (x : Specific) → In x h.root → IsKnown d x
  root_known d e z t x i =
      let g = s.root_told t x i in
      let dd : Area = g.4.0 in
      let same : dd ≡ d = s.may.laid.one_master dd d (is_context l s.may dd g.4.1) (is_context l s.may d e) (both_empty dd.prefix d.prefix g.4.2 z) in
      (g.0, g.1, g.2, g.3, subst (λ (y : Area). In (parent g.0.prefix) y.entries) same g.4.3, subst (λ (y : Area). IsTold l y g.0.prefix) same g.4.4)
    where
      both_empty : (a b : Key) → length a ≡ 0 → length b ≡ 0 → a ≡ b
      both_empty [] [] e f = refl
      both_empty [] (y ∷ b) e f = absurd (omega arith)
      both_empty (x ∷ a) b e f = absurd (omega arith)

  pub root_view : answers_root h m ≡ true → (r : Reference) → In r (below_needs h m l.subset h.root) → (pin : Area) × IsTo r pin
  root_view t r i =
      let x = of_map made r (filter (λ (x : Specific). in_subset l.subset (key_of m.target) (key_of x.pin) && is_none (held_at (served m.request h) (key_of x.pin))) h.root) i in
      let f = of_filter (λ (x : Specific). in_subset l.subset (key_of m.target) (key_of x.pin) && is_none (held_at (served m.request h) (key_of x.pin))) x.0 h.root x.1 in
      let g = s.root_told t x.0 f.0 in
      below_to h.root g.4.0 (root_known g.4.0 g.4.1 g.4.2 t) g.4.1 r i

  pub specific_view : (c : Held) → In c (evaluated h m) → (r : Reference) → In r (below_needs h m l.subset c.subordinate) → (pin : Area) × IsTo r pin
  specific_view c ic r i = (let v = spot_is w t k o h m l s c ic in below_to c.subordinate v.1.0 (known_of v.1.0 c v.1.2) v.1.1 r i)

  pub wide_view : (c : Held) → In c (evaluated h m) → (r : Reference) → In r (wide_needs h m l.subset c) → (n : Nssr) × In n c.nssrs × ((a : ℕ) × In a n.agents × IsAmong r (spot_of n) a)
  wide_view c ic r i = (let v = spot_is w t k o h m l s c ic in wide_among v.1.0 c v.1.1 v.1.2 r i)

  pub view_of : (r : Reference) → In r (part_needs h m) → IsView r
  view_of r i =
      elim (in_either r (if answers_root h m then below_needs h m l.subset h.root else []) (flat_map (λ (c : Held). below_needs h m l.subset c.subordinate ++ wide_needs h m l.subset c) (evaluated h m)) (subst (λ (xs : List Reference). In r xs) needs_are i)) [
        | inl j ↦ at_root (answers_root h m) refl j
        | inr j ↦
            let c = of_flat (λ (c : Held). below_needs h m l.subset c.subordinate ++ wide_needs h m l.subset c) r (evaluated h m) j in
            elim (in_either r (below_needs h m l.subset c.0.subordinate) (wide_needs h m l.subset c.0) c.2) [
              | inl x ↦ inl (specific_view c.0 c.1 r x)
              | inr x ↦ (let n = wide_view c.0 c.1 r x in inr (spot_of n.0, n.2.0, n.2.2))
            ]
      ]
    where
      at_root : (b : Bool) → answers_root h m ≡ b → In r (if b then below_needs h m l.subset h.root else []) → IsView r
      at_root true e j = inl (root_view e r j)
      at_root false e j = elim j [ ]

  in_rest : (c : Held) (r : Reference) → In c (evaluated h m) → In r (below_needs h m l.subset c.subordinate ++ wide_needs h m l.subset c) → In r (part_needs h m)
  in_rest c r i j =
      subst (λ (xs : List Reference). In r xs) (sym needs_are)
      (in_right r (if answers_root h m then below_needs h m l.subset h.root else []) (flat_map (λ (c : Held). below_needs h m l.subset c.subordinate ++ wide_needs h m l.subset c) (evaluated h m))
      (in_flat (λ (c : Held). below_needs h m l.subset c.subordinate ++ wide_needs h m l.subset c) r c (evaluated h m) i j))

  in_root : (r : Reference) → answers_root h m ≡ true → In r (below_needs h m l.subset h.root) → In r (part_needs h m)
  in_root r t i =
      subst (λ (xs : List Reference). In r xs) (sym needs_are)
      (in_left r (if answers_root h m then below_needs h m l.subset h.root else []) (flat_map (λ (c : Held). below_needs h m l.subset c.subordinate ++ wide_needs h m l.subset c) (evaluated h m))
      (subst (λ (b : Bool). In r (if b then below_needs h m l.subset h.root else [])) (sym t) i))

  pub specific_needed : (pin : Area) → NeedsSpecific l pin → (r : Reference) × In r (part_needs h m) × IsTo r pin
  specific_needed pin n = go (none_or_some (length n.above.prefix))
    where
      ip : In pin k.areas
      ip = s.outside pin n.area n.filled

      go : (length n.above.prefix ≡ 0) ⊎ (0 < length n.above.prefix) → (r : Reference) × In r (part_needs h m) × IsTo r pin
      go (inl z) =
          let g = s.root_tells n.above n.evaluated z in
          let x = g.2 pin ip n.just_below n.told n.not_held in
          let v = to_below h.root n.above (root_known n.above n.evaluated z g.0) n.evaluated x.0 pin x.1 ip x.2 n.within n.not_held in
          (v.0, in_root v.0 g.0 v.1, v.2)
      go (inr f) =
          let c = spot_of_evaluated w t k o h m l s n.above n.evaluated f in
          let x = c.2.tells pin ip n.just_below (told_by n.above pin.prefix n.filled n.told) (sym (s.holds pin.prefix) ∙ n.not_held) in
          let v = to_below c.0.subordinate n.above (known_of n.above c.0 c.2) n.evaluated x.0 pin x.1 ip x.2 n.within n.not_held in
          (v.0, in_rest c.0 v.0 c.1 (in_left v.0 (below_needs h m l.subset c.0.subordinate) (wide_needs h m l.subset c.0) v.1), v.2)

  pub nonspecific_needed : (n : Spot) (a : ℕ) → NeedsNonSpecific l n a → (r : Reference) × In r (part_needs h m) × IsAmong r n a
  nonspecific_needed n a v = go (none_or_some (length v.above.prefix))
    where
      go : (length v.above.prefix ≡ 0) ⊎ (0 < length v.above.prefix) → (r : Reference) × In r (part_needs h m) × IsAmong r n a
      go (inl z) = absurd ((s.root_tells v.above v.evaluated z).1 n v.nssr)
      go (inr f) =
          let c = spot_of_evaluated w t k o h m l s v.above v.evaluated f in
          let x = among_wide v.above c.0 v.evaluated c.2 n a v.nssr v.listed v.other v.in_scope in
          (x.0, in_rest c.0 x.0 c.1 (in_right x.0 (below_needs h m l.subset c.0.subordinate) (wide_needs h m l.subset c.0) x.1), x.2)

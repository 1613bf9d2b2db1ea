-- The contexts that are evaluated on the spot are those that are served; what a list or search needs below them is made
-- of their entries and references; and a probe goes to an entry's name with one RDN more.
use Rattle.std.proofs.Common.{◌≡◌, ℕ, zero, suc, ◌-◌, ◌≤◌, ◌==◌, Bool, true, false, not, ◌&&◌, inl, inr, List, [], ◌∷◌, ◌++◌, length, map, sym, ap, subst, arith, length-take, Option, Some, None, if◌then◌else◌}
use Rattle.std.specs.List.{filter, flat_map, list_any}
use Rattle.std.specs.Option.{is_some, is_none}
use Rattle.x5_model.specs.Words.{is_empty, in_option}
use Rattle.x5_model.specs.Members.{In, here, there}
use Rattle.x5_model.specs.Keys.{Key, same_key, is_child, is_root, parent}
use Rattle.x5_model.specs.Values.{Rdn, Name, key_of, name_above, last_rdn}
use Rattle.x5_model.specs.Entries.{Named}
use Rattle.x5_model.specs.Requests.{Subset, Body, Read, Compare, ListBelow, Search, AddEntry, RemoveEntry, ModifyEntry, ModifyDn}
use Rattle.x5_model.specs.References.{Progress, Start, Next, Done, NonSpecific, Subordinate, Reference, Chained}
use Rattle.x5_model.specs.Statics.{fault_of}
use Rattle.x5_model.proofs.KeyLaws.{key_decides}
use Rattle.x5_model.proofs.Lists.{in_first, of_filter, of_find, in_either, of_map}
use Rattle.x5_model_tree.specs.World.{Specific, Nssr}
use Rattle.x5_model_tree.specs.Tree.{key_at, is_there, entry_at}
use Rattle.x5_model_tree.specs.Ask.{in_subset}
use Rattle.x5_model_run.specs.Journal.{same_name, same_spelled_rdn, is_wide}
use Rattle.x5_model_run.specs.Holdings.{Held, Holdings, usable_agents, held_at, served, known_pin, is_first_level}
use Rattle.x5_model_run.specs.Needs.{others, reference, proceeding, resolves, subset_of, is_excluded, begins_at, and_below, evaluated, answers_root, below_needs, in_scope, rdn_below, once, treated_below, to_each, wide_needs, subset_needs, part_needs, nssr_at, new_name, is_refused_here, probe_by, probe_from, probe_of, probe_at_master, probe_due, probe_needs, due_probes}
use Rattle.x5_model_theory.proofs.Stages.{key_length}
use Rattle.x5_model_serve.proofs.Walks.{rest_is_needed}
use Rattle.x5_model_fitting.specs.Names.{Each, RdnWithin, NameWithin}
use Rattle.x5_model_fitting.specs.Requests.{BodyWithin}
use Rattle.x5_model_limits.specs.Holding.{BoundedEntry, BoundedSpecific, BoundedContext, BoundedHoldings}
use Rattle.x5_model_limits.specs.Messages.{BoundedReference, BoundedMessage}
use Rattle.x5_model_limits.specs.Laws.{RestBounded, ProbesBounded}
use Rattle.x5_model_limits.proofs.Lists.{each_none, each_both, each_when, each_if, each_unless, each_kept, each_some, each_sorted, each_flat, each_map}
use Rattle.x5_model_limits.proofs.Spelling.{proceeding_bounded, some_rdn, last_within, beside_within}
use Rattle.x5_model_limits.proofs.Finding.{AreBounded, own_at, served_bounded}

abbrev AreContexts : List Held → Type 0
AreContexts cs = Each BoundedContext cs

entry_bounded : (c : Held) (k : Key) (e : Named) → BoundedContext c → entry_at c.entries k ≡ Some e → BoundedEntry e
entry_bounded c k e t q = t.entries e (of_find (λ (x : Named). same_key (key_at x) k) e c.entries q).0

in_once : (r : Rdn) (rs : List Rdn) → In r (once rs) → In r rs
in_once r [] i = i
in_once r (x ∷ rs) i = elim (in_first r x (filter (λ y. not (same_spelled_rdn x y)) (once rs)) i) [
  | inl e ↦ subst (λ (y : Rdn). In y (x ∷ rs)) (sym e) here
  | inr j ↦ there
      (in_once r rs (of_filter (λ y. not (same_spelled_rdn x y)) r (once rs) j).0)
]

module _ (h : Holdings) (m : Chained) (w : BoundedHoldings h) where
  abbrev all : List Held
  all = served m.request h

  abbrev target : Key
  target = key_of m.target

  are_served : AreContexts all
  are_served = served_bounded h w m

  served_if : (test : Held → Bool) → AreContexts (filter test all)
  served_if test = each_kept BoundedContext test all are_served

  -- ---- what is evaluated

  abbrev from_pin : Subset → Option Key → List Held
  from_pin subset None =
      if is_first_level h && is_root target
      then filter (λ (c : Held). (length c.prefix == 1) && in_subset subset target (key_of c.prefix)) all
      else []
  from_pin subset (Some p) = filter (λ (c : Held). same_key (key_of c.prefix) p && is_there c.entries target) all

  pin_served : (subset : Subset) (x : Option Key) → AreContexts (from_pin subset x)
  pin_served subset None = each_if BoundedContext (is_first_level h && is_root target) _ (served_if _)
  pin_served subset (Some p) = served_if _

  named_served : (subset : Subset) (x : Bool)
      → AreContexts (if x then from_pin subset (known_pin m.request h target) else [])
  named_served subset x = each_if BoundedContext x _ (pin_served subset (known_pin m.request h target))

  abbrev is_asked : Subset → Held → Bool
  is_asked subset c =
      is_child target (key_of c.prefix)
      && (in_subset subset target (key_of c.prefix) && not (is_excluded m.exclusions c.prefix))

  begins_served : (subset : Subset) (x : Progress) → AreContexts (begins_at h (record m { progress = x }) subset)
  begins_served subset Start = named_served subset true
  begins_served subset (Next k) = named_served subset (resolves h (record m { progress = Next k }))
  begins_served subset Done = by (is_wide m.kind)
    where
      by : (x : Bool) → AreContexts (if x then filter (is_asked subset) h.own
          else filter (λ c. same_key (key_of c.prefix) target) all)
      by true = each_kept BoundedContext (is_asked subset) h.own w.own
      by false = served_if _

  abbrev under : Subset → List Held → Held → Bool
  under subset level c =
      in_subset subset target (key_of c.prefix)
      && list_any (λ (d : Held). is_there d.entries (parent (key_of c.prefix))) level

  level_served : (k : ℕ) (subset : Subset) (level : List Held) → AreContexts level
      → AreContexts (and_below k all target subset level)
  level_served zero subset level f = f
  level_served (suc k) subset level f =
      by (is_empty level) (level_served k subset (filter (under subset level) all) (served_if (under subset level)))
    where
      by : (x : Bool) → AreContexts (and_below k all target subset (filter (under subset level) all))
          → AreContexts (if x then []
          else level ++ and_below k all target subset (filter (under subset level) all))
      by true g = each_none BoundedContext
      by false g = each_both BoundedContext level (and_below k all target subset (filter (under subset level) all)) f g

  pub evaluated_bounded : AreContexts (evaluated h m)
  evaluated_bounded =
      each_some BoundedContext (λ (subset : Subset). and_below 16 all target subset (begins_at h m subset))
      (subset_of m)
      (λ subset e. level_served 16 subset (begins_at h m subset) (begins_served subset m.progress))

  -- ---- a list or search

  abbrev is_due : Subset → Specific → Bool
  is_due subset k = in_subset subset target (key_of k.pin) && is_none (held_at all (key_of k.pin))

  below_bounded : (subset : Subset) (ks : List Specific) → Each BoundedSpecific ks
      → AreBounded (below_needs h m subset ks)
  below_bounded subset ks f =
      each_map BoundedReference (λ k. reference k.pin Done Subordinate (usable_agents m.request k.access))
      (filter (is_due subset) ks)
      (λ k i. record {
        target = (f k (of_filter (is_due subset) k ks i).0).pin;
        progress = tt;
        exclusions = each_none RdnWithin;
      })

  -- the pins below an entry that are evaluated or asked for already
  treated_within : (c : Held) (at : Key) → BoundedContext c → Each RdnWithin (treated_below h m c at)
  treated_within c at t =
      each_sorted RdnWithin rdn_below (once (map last_rdn (filter (λ p. is_child at (key_of p)) pins)))
      (λ r i. last r (in_once r (map last_rdn (filter (λ p. is_child at (key_of p)) pins)) i))
    where
      pins : List Name
      pins = map (λ d. d.prefix) all ++ map (λ k. k.pin) c.subordinate

      of_pin : (n : Name) → In n pins → RdnWithin (last_rdn n)
      of_pin n i = elim (in_either n (map (λ d. d.prefix) all) (map (λ k. k.pin) c.subordinate) i) [
        | inl j ↦
            let d = of_map (λ (x : Held). x.prefix) n all j in
            subst (λ (y : Name). RdnWithin (last_rdn y)) (sym d.2)
            (last_within d.0.prefix (some_rdn d.0.prefix (are_served d.0 d.1).some) (are_served d.0 d.1).prefix)
        | inr j ↦
            let k = of_map (λ (x : Specific). x.pin) n c.subordinate j in
            subst (λ (y : Name). RdnWithin (last_rdn y)) (sym k.2)
            (last_within k.0.pin (some_rdn k.0.pin (t.subordinate k.0 k.1).some) (t.subordinate k.0 k.1).pin)
      ]

      last : (r : Rdn) → In r (map last_rdn (filter (λ p. is_child at (key_of p)) pins)) → RdnWithin r
      last r i =
          let n = of_map last_rdn r (filter (λ p. is_child at (key_of p)) pins) i in
          subst RdnWithin (sym n.2) (of_pin n.0 (of_filter (λ p. is_child at (key_of p)) n.0 pins n.1).0)

  abbrev by_nssr : Held → Named → ℕ → Reference
  by_nssr c e a =
      record (reference e.name Done NonSpecific (a ∷ [])) { exclusions = treated_below h m c (key_of e.name) }

  each_bounded : (subset : Subset) (c : Held) (x : Nssr) (e : Named) → BoundedContext c → BoundedEntry e
      → AreBounded (to_each h m subset c x e)
  each_bounded subset c x e t s =
      each_if BoundedReference (in_scope subset target (key_of e.name)) (map (by_nssr c e) (others h.me x.agents))
      (each_map BoundedReference (by_nssr c e) (others h.me x.agents)
      (λ a i. record { target = s.name; progress = tt; exclusions = treated_within c (key_of e.name) t }))

  wide_bounded : (subset : Subset) (c : Held) → BoundedContext c → AreBounded (wide_needs h m subset c)
  wide_bounded subset c t =
      each_flat BoundedReference (λ x. in_option [] (to_each h m subset c x) (entry_at c.entries (key_of x.at))) c.nssrs
      (λ x i. each_some BoundedReference (to_each h m subset c x) (entry_at c.entries (key_of x.at))
      (λ e q. each_bounded subset c x e t (entry_bounded c (key_of x.at) e t q)))

  subset_bounded : (subset : Subset) → AreBounded (subset_needs h m subset)
  subset_bounded subset =
      each_both BoundedReference (if answers_root h m then below_needs h m subset h.root else [])
      (flat_map (λ c. below_needs h m subset c.subordinate ++ wide_needs h m subset c) (evaluated h m))
      (each_if BoundedReference (answers_root h m) (below_needs h m subset h.root) (below_bounded subset h.root w.root))
      (each_flat BoundedReference (λ c. below_needs h m subset c.subordinate ++ wide_needs h m subset c) (evaluated h m)
      (λ c i. each_both BoundedReference (below_needs h m subset c.subordinate) (wide_needs h m subset c)
      (below_bounded subset c.subordinate (evaluated_bounded c i).subordinate)
      (wide_bounded subset c (evaluated_bounded c i))))

  parts_bounded : AreBounded (part_needs h m)
  parts_bounded = each_some BoundedReference (subset_needs h m) (subset_of m) (λ subset e. subset_bounded subset)

  -- ---- probes

  -- what stands above a name is no root, so the name has an RDN
  below_entry : (c : Held) (name : Name) (e : Named) → BoundedContext c
      → entry_at c.entries (parent (key_of name)) ≡ Some e → 1 ≤ length name
  below_entry c name e t q =
      let f = of_find (λ (x : Named). same_key (key_at x) (parent (key_of name))) e c.entries q in
      let same : key_of e.name ≡ parent (key_of name) =
      (key_decides (key_of e.name) (parent (key_of name))).0 f.1 in
      let some : 1 ≤ length e.name = some_rdn e.name (t.entries e f.0).some in
      let long : length (key_of e.name) ≡ length e.name = key_length e.name in
      let there : length (key_of name) ≡ length name = key_length name in
      let cut : length (key_of e.name) ≡ length (parent (key_of name)) = ap length same in
      omega (arith, length-take (length (key_of name) - 1) (key_of name))

  from_bounded : (name : Name) (c : Held) (e : Named) → BoundedContext c → NameWithin name
      → entry_at c.entries (parent (key_of name)) ≡ Some e → AreBounded (probe_from h name c e)
  from_bounded name c e t n q =
      each_some BoundedReference (probe_by h name e) (nssr_at c.nssrs (key_of e.name))
      (λ x p. each_when BoundedReference (not (is_empty (others h.me x.agents)))
      (proceeding (length name) e.name name NonSpecific (others h.me x.agents))
      (λ s. proceeding_bounded (length name) e.name name NonSpecific (others h.me x.agents)
      (below_entry c name e t q) n.few (entry_bounded c (parent (key_of name)) e t q).name n))

  master_bounded : (name : Name) (c : Held) → BoundedContext c → NameWithin name
      → AreBounded (probe_at_master h m name c)
  master_bounded name c t n =
      each_if BoundedReference (is_there c.entries target && not (is_refused_here h m.request)) (probe_of h name c)
      (each_some BoundedReference (probe_from h name c) (entry_at c.entries (parent (key_of name)))
      (λ e q. from_bounded name c e t n q))

  due_bounded : (name : Name) → NameWithin name → AreBounded (probe_due h m name)
  due_bounded name n =
      each_if BoundedReference (resolves h m)
      (in_option [] (λ p. in_option [] (probe_at_master h m name) (held_at h.own p)) (known_pin m.request h target))
      (each_some BoundedReference (λ p. in_option [] (probe_at_master h m name) (held_at h.own p))
      (known_pin m.request h target)
      (λ p q. each_some BoundedReference (probe_at_master h m name) (held_at h.own p)
      (λ c r. master_bounded name c (own_at h w p c r) n)))

  new_within : (body : Body) (name : Name) → BodyWithin body → new_name body ≡ Some name → NameWithin name
  new_within (Read n selection) name t e = cc
  new_within (Compare n assertion) name t e = cc
  new_within (ListBelow n) name t e = cc
  new_within (Search base subset f selection) name t e = cc
  new_within (AddEntry n attributes) name t e = let is : n ≡ name = cc in subst NameWithin is t.0
  new_within (RemoveEntry n) name t e = cc
  new_within (ModifyEntry n changes) name t e = cc
  new_within (ModifyDn n rdn drops) name t e = by (same_name (name_above n ++ rdn ∷ []) n) e
    where
      by : (x : Bool) → (let o : Option Name = if x then None else Some (name_above n ++ rdn ∷ []) in o) ≡ Some name
          → NameWithin name
      by true f = cc
      by false f =
          let is : name_above n ++ rdn ∷ [] ≡ name = cc in
          subst NameWithin is (beside_within n rdn t.0 t.1)

  probes_within : BoundedMessage m → AreBounded (due_probes h m)
  probes_within b =
      each_unless BoundedReference (is_some (fault_of m.request.body)) (probe_needs h m)
      (each_some BoundedReference (probe_due h m) (new_name m.request.body)
      (λ name q. due_bounded name (new_within m.request.body name b.request.body q)))

pub rest_bounded : RestBounded
rest_bounded h m w b r i = parts_bounded h m w r (rest_is_needed h m r i)

pub probes_bounded : ProbesBounded
probes_bounded h m w b = probes_within h m w b

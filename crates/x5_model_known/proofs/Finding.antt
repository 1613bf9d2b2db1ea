-- Name resolution, a list or search, and a probe ask nobody but whom the knowledge of an agent names: each reference is
-- made of one place of that knowledge, by cases of how it is needed. What was accepted changes entries alone.
use Rattle.std.proofs.Common.{◌≡◌, ℕ, zero, suc, ◌==◌, nat_lt, Bool, true, false, not, ◌&&◌, inl, inr, List, [], ◌∷◌, ◌++◌, length, map, refl, sym, ap, ap₂, subst, ◌∙◌, Option, Some, None, Ok, Err, if◌then◌else◌}
use Rattle.std.specs.List.{filter, flat_map, list_all, list_any}
use Rattle.std.specs.Option.{is_some, is_none}
use Rattle.x5_model.specs.Words.{has, is_empty, in_option, when}
use Rattle.x5_model.specs.Members.{In, here}
use Rattle.x5_model.specs.Keys.{Key, same_key, is_child, is_root, parent}
use Rattle.x5_model.specs.Values.{Name, key_of}
use Rattle.x5_model.specs.Entries.{Named}
use Rattle.x5_model.specs.Requests.{Subset, Request}
use Rattle.x5_model.specs.References.{Progress, Start, Next, Done, RefType, Cross, NonSpecific, Subordinate, Reference, Chained}
use Rattle.x5_model.specs.Statics.{fault_of}
use Rattle.x5_model.proofs.Lists.{both_true, and_true, in_first, in_either, in_left, of_map, of_flat, of_filter, of_find, of_all, all_in}
use Rattle.x5_model_tree.specs.World.{Access, Specific, Nssr}
use Rattle.x5_model_tree.specs.Tree.{is_there, entry_at, lowest}
use Rattle.x5_model_tree.specs.Ask.{in_subset}
use Rattle.x5_model_tree.specs.Apply.{UpdatedEntries, apply_over}
use Rattle.x5_model_run.specs.Journal.{Journal, same_name, is_wide}
use Rattle.x5_model_run.specs.Holdings.{Held, Copy, Holdings, ground_at, may_copy, usable_agents, held_at, copy_at, masters_pin, usable_copies, served, subordinates, known_pin, holds_within, is_first_level}
use Rattle.x5_model_run.specs.Needs.{others, reference, resolves, subset_of, by_pin, is_excluded, begins_at, and_below, evaluated, answers_root, below_needs, in_scope, treated_below, to_each, wide_needs, subset_needs, part_needs, to_supplier, copied_needs, to_superior, superior_needs, nssr_at, to_nssr, from_lowest, multicast_needs, copy_answers, specific_at, to_specific, specific_needs, new_name, is_refused_here, probe_by, probe_from, probe_of, probe_at_master, probe_due, probe_needs, due_probes}
use Rattle.x5_model_run.specs.Chain.{Scene}
use Rattle.x5_model_theory.proofs.Holding.{usable_is}
use Rattle.x5_model_serve.specs.Committed.{holds_target, alone_at, with_outcome, changed_at, committed_if, committed}
use Rattle.x5_model_serve.specs.Finding.{Found, Here, CopyHere, Root, Below, Onward, Nowhere, Stuck, by_first, in_own, in_copy, at_pin, resolved, completed_copy, completed_own, completed, found_by, find}
use Rattle.x5_model_serve.specs.Answering.{rest_of_parts}
use Rattle.x5_model_serve.specs.Serving.{Hand, holds_now}
use Rattle.x5_model_serve.proofs.Walks.{rest_is_needed}
use Rattle.x5_model_heard.specs.Told.{are_agents, name_agents, KnowsAgents}
use Rattle.x5_model_known.specs.Holding.{access_names, references_name, nssrs_name, context_names, copy_names, superior_names, holdings_name, HoldAgents, KnowledgeNamesAgents, KnowledgeStays}

-- the agents of a world that has so many
module _ (n : ℕ) where
  abbrev there : ℕ → Bool
  there a = nat_lt a n

  abbrev IsNamed : Reference → Type 0
  IsNamed r = are_agents n r.agents ≡ true

  abbrev AreNamed : List Reference → Type 0
  AreNamed rs = (r : Reference) → In r rs → IsNamed r

  -- ---- lists of references

  none_named : AreNamed []
  none_named r i = elim i [ ]

  one_named : (r : Reference) → IsNamed r → AreNamed (r ∷ [])
  one_named r e x i = elim (in_first x r [] i) [ inl p ↦ subst IsNamed (sym p) e | inr j ↦ elim j [ ] ]

  when_named : (b : Bool) (r : Reference) → IsNamed r → AreNamed (when b r)
  when_named true r e = one_named r e
  when_named false r e = none_named

  if_named : (b : Bool) (rs : List Reference) → AreNamed rs → AreNamed (if b then rs else [])
  if_named true rs f = f
  if_named false rs f = none_named

  unless_named : (b : Bool) (rs : List Reference) → AreNamed rs → AreNamed (if b then [] else rs)
  unless_named true rs f = none_named
  unless_named false rs f = f

  both_named : (xs ys : List Reference) → AreNamed xs → AreNamed ys → AreNamed (xs ++ ys)
  both_named xs ys f g r i = elim (in_either r xs ys i) [ inl j ↦ f r j | inr j ↦ g r j ]

  either_named : {X : Type 0} (rs : List Reference) (f : X → List Reference) (o : Option X) → AreNamed rs
      → ((x : X) → o ≡ Some x → AreNamed (f x)) → AreNamed (in_option rs f o)
  either_named rs f None e g = e
  either_named rs f (Some x) e g = g x refl

  option_named : {X : Type 0} (f : X → List Reference) (o : Option X)
      → ((x : X) → o ≡ Some x → AreNamed (f x)) → AreNamed (in_option [] f o)
  option_named f o g = either_named [] f o none_named g

  flat_named : {X : Type 0} (f : X → List Reference) (xs : List X) → ((x : X) → In x xs → AreNamed (f x))
      → AreNamed (flat_map f xs)
  flat_named f xs g r i = let w = of_flat f r xs i in g w.0 w.1 r w.2

  map_named : {X : Type 0} (f : X → Reference) (xs : List X) → ((x : X) → In x xs → IsNamed (f x))
      → AreNamed (map f xs)
  map_named f xs g r i = let w = of_map f r xs i in subst IsNamed (sym w.2) (g w.0 w.1)

  all_named : (rs : List Reference) → AreNamed rs → name_agents n rs ≡ true
  all_named rs f = all_in (λ (r : Reference). are_agents n r.agents) rs f

  -- ---- lists of agents

  one_there : (a : ℕ) → there a ≡ true → are_agents n (a ∷ []) ≡ true
  one_there a e = and_true (there a) true e refl

  others_there : (me : ℕ) (agents : List ℕ) → are_agents n agents ≡ true → are_agents n (others me agents) ≡ true
  others_there me agents e =
      all_in there (others me agents) (λ a i. of_all there a agents e (of_filter (λ b. not (b == me)) a agents i).0)

  usable_there : (r : Request) (a : Access) → access_names n a ≡ true → are_agents n (usable_agents r a) ≡ true
  usable_there r a e = by (may_copy r)
    where
      by : (b : Bool) → are_agents n (if b then a.master ∷ a.shadows else a.master ∷ []) ≡ true
      by true = e
      by false = one_there a.master (both_true (there a.master) (are_agents n a.shadows) e).0

  -- ---- what an agent holds names them

  record Names (h : Holdings) : Type 0 where
    superior : (a : ℕ) → h.superior ≡ Some a → there a ≡ true
    own : (c : Held) → In c h.own → context_names n c ≡ true
    copies : (c : Copy) → In c h.copies → copy_names n c ≡ true
    root : (k : Specific) → In k h.root → access_names n k.access ≡ true
    cross : (k : Specific) → In k h.cross → access_names n k.access ≡ true

  abbrev specific_names : Specific → Bool
  specific_names k = access_names n k.access

  names_of : (h : Holdings) → holdings_name n h ≡ true → Names h
  names_of h e =
      let a = both_true (superior_names n h.superior) _ e in
      let b = both_true (list_all (context_names n) h.own) _ a.1 in
      let c = both_true (list_all (copy_names n) h.copies) _ b.1 in
      let d = both_true (references_name n h.root) (references_name n h.cross) c.1 in
      record {
        superior = λ s p. subst (λ (o : Option ℕ). superior_names n o ≡ true) p a.0;
        own = λ x i. of_all (context_names n) x h.own b.0 i;
        copies = λ x i. of_all (copy_names n) x h.copies c.0 i;
        root = λ k i. of_all specific_names k h.root d.0 i;
        cross = λ k i. of_all specific_names k h.cross d.1 i;
      }

  subordinate_in : (c : Held) (k : Specific) → context_names n c ≡ true → In k c.subordinate → specific_names k ≡ true
  subordinate_in c k e i =
      of_all specific_names k c.subordinate
      (both_true (references_name n c.subordinate) (nssrs_name n c.nssrs) e).0 i

  nssr_in : (c : Held) (x : Nssr) → context_names n c ≡ true → In x c.nssrs → are_agents n x.agents ≡ true
  nssr_in c x e i =
      of_all (λ (y : Nssr). are_agents n y.agents) x c.nssrs
      (both_true (references_name n c.subordinate) (nssrs_name n c.nssrs) e).1 i

  module _ (h : Holdings) (m : Chained) (names : Names h) where
    usable_named : (c : Held) → In c (usable_copies m.request h) → context_names n c ≡ true
    usable_named c i =
        let x = usable_is m.request h c i in
        subst (λ (y : Held). context_names n y ≡ true) (sym x.2)
        (both_true (there x.0.supplier) (context_names n x.0.held) (names.copies x.0 x.1)).1

    abbrev unmastered : Held → Bool
    unmastered c = not (masters_pin h (key_of c.prefix))

    served_named : (c : Held) → In c (served m.request h) → context_names n c ≡ true
    served_named c i =
        elim (in_either c h.own (filter unmastered (usable_copies m.request h)) i) [
          | inl j ↦ names.own c j
          | inr j ↦ usable_named c (of_filter unmastered c (usable_copies m.request h) j).0
        ]

    pinned_named : (k : Specific) → In k (subordinates m.request h) → specific_names k ≡ true
    pinned_named k i =
        elim (in_either k (flat_map (λ (c : Held). c.subordinate) h.own
        ++ flat_map (λ (c : Held). c.subordinate) (usable_copies m.request h)) h.root i) [
          | inr j ↦ names.root k j
          | inl j ↦ elim (in_either k (flat_map (λ (c : Held). c.subordinate) h.own)
              (flat_map (λ (c : Held). c.subordinate) (usable_copies m.request h)) j) [
                | inl l ↦
                    let w = of_flat (λ (c : Held). c.subordinate) k h.own l in
                    subordinate_in w.0 k (names.own w.0 w.1) w.2
                | inr l ↦
                    let w = of_flat (λ (c : Held). c.subordinate) k (usable_copies m.request h) l in
                    subordinate_in w.0 k (usable_named w.0 w.1) w.2
              ]
        ]

    -- ---- name resolution

    superior_named : AreNamed (superior_needs h m)
    superior_named = option_named (to_superior m.target) h.superior
        (λ s p. one_named _ (one_there s (names.superior s p)))

    nssr_named : (c : Held) (e : Named) → context_names n c ≡ true → AreNamed (from_lowest h m c e)
    nssr_named c e t =
        option_named (to_nssr h m e) (nssr_at c.nssrs (key_of e.name))
        (λ x q. when_named _ _ (others_there h.me x.agents
        (nssr_in c x t (of_find (λ (y : Nssr). same_key (key_of y.at) (key_of e.name)) x c.nssrs q).0)))

    multicast_named : (c : Held) → context_names n c ≡ true → AreNamed (multicast_needs h m c)
    multicast_named c t =
        option_named (from_lowest h m c) (lowest c.entries (key_of m.target)) (λ e q. nssr_named c e t)

    supplier_there : (c : Copy) → In c h.copies → are_agents n (c.supplier ∷ []) ≡ true
    supplier_there c i =
        one_there c.supplier (both_true (there c.supplier) (context_names n c.held) (names.copies c i)).0

    to_pin_named : (kind : RefType) (k : Specific) → specific_names k ≡ true → AreNamed (to_specific m kind k)
    to_pin_named kind k e = one_named _ (usable_there m.request k.access e)

    specific_named : (p : Key) → AreNamed (specific_needs h m p)
    specific_named p =
        either_named (in_option [] (to_specific m Cross) (specific_at h.cross p)) (to_specific m Subordinate)
        (specific_at (subordinates m.request h) p)
        (option_named (to_specific m Cross) (specific_at h.cross p)
        (λ k q. to_pin_named Cross k
        (names.cross k (of_find (λ (x : Specific). same_key (key_of x.pin) p) k h.cross q).0)))
        (λ k q. to_pin_named Subordinate k
        (pinned_named k (of_find (λ (x : Specific). same_key (key_of x.pin) p) k (subordinates m.request h) q).0))

    copied_named : AreNamed (copied_needs h m)
    copied_named =
        if_named (by_pin m && is_some (subset_of m)) (in_option [] (to_supplier h m) (copy_at h (key_of m.target)))
        (option_named (to_supplier h m) (copy_at h (key_of m.target))
        (λ c q. when_named _ _ (supplier_there c
        (of_find (λ (x : Copy). same_key (key_of x.held.prefix) (key_of m.target)) c h.copies q).0)))

    -- ---- what is found

    abbrev found_named : Found → Bool
    found_named (Here c) = true
    found_named (CopyHere c) = true
    found_named Root = true
    found_named Below = true
    found_named (Onward r) = are_agents n r.agents
    found_named (Nowhere x) = true
    found_named Stuck = true

    first_named : (rs : List Reference) (other : Found) → AreNamed rs → found_named other ≡ true
        → found_named (by_first rs other) ≡ true
    first_named [] other f e = e
    first_named (r ∷ rs) other f e = f r here

    root_named : (b : Bool) → found_named (if b then Root else Nowhere []) ≡ true
    root_named true = refl
    root_named false = refl

    own_named : (c : Held) → context_names n c ≡ true → found_named (in_own h m c) ≡ true
    own_named c t = by (lowest c.entries (key_of m.target)) refl
      where
        at : (e : Named) → lowest c.entries (key_of m.target) ≡ Some e → (b : Bool) → same_name e.name m.target ≡ b
            → found_named (in_own h m c) ≡ true
        at e q true k = rw (q, k) refl
        at e q false k = rw (q, k) (first_named (multicast_needs h m c) (Nowhere e.name) (multicast_named c t) refl)

        by : (o : Option Named) → lowest c.entries (key_of m.target) ≡ o → found_named (in_own h m c) ≡ true
        by None q = rw q refl
        by (Some e) q = at e q (same_name e.name m.target) refl

    copy_named : (c : Copy) → In c h.copies → found_named (in_copy h m c) ≡ true
    copy_named c i = by (copy_answers h m c) refl
      where
        by : (b : Bool) → copy_answers h m c ≡ b → found_named (in_copy h m c) ≡ true
        by true q = rw q refl
        by false q = rw q (supplier_there c i)

    pin_named : (x : Option Key) → found_named (at_pin h m x) ≡ true
    pin_named None = first_named (superior_needs h m) _ superior_named (root_named (is_root (key_of m.target)))
    pin_named (Some p) = by_own (held_at h.own p) refl
      where
        by_copy : held_at h.own p ≡ None → (x : Option Copy) → copy_at h p ≡ x
            → found_named (at_pin h m (Some p)) ≡ true
        by_copy k None q = rw (k, q) (first_named (specific_needs h m p) Stuck (specific_named p) refl)
        by_copy k (Some c) q =
            rw (k, q) (copy_named c (of_find (λ (x : Copy). same_key (key_of x.held.prefix) p) c h.copies q).0)

        by_own : (x : Option Held) → held_at h.own p ≡ x → found_named (at_pin h m (Some p)) ≡ true
        by_own None q = by_copy q (copy_at h p) refl
        by_own (Some c) q =
            rw q (own_named c (names.own c (of_find (λ (x : Held). same_key (key_of x.prefix) p) c h.own q).0))

    resolved_named : found_named (resolved h m) ≡ true
    resolved_named = pin_named (known_pin m.request h (key_of m.target))

    completed_named : found_named (completed h m) ≡ true
    completed_named = by (held_at h.own (key_of m.target))
      where
        by_copy : (x : Option Copy) → found_named (completed_copy h m x) ≡ true
        by_copy None = refl
        by_copy (Some c) = first_named (copied_needs h m) (CopyHere c) copied_named refl

        by : (x : Option Held) → found_named (completed_own h m x) ≡ true
        by None = by_copy (copy_at h (key_of m.target))
        by (Some c) = refl

    by_progress : (p : Progress) → found_named (found_by h m p) ≡ true
    by_progress Start = resolved_named
    by_progress (Next k) = by (holds_within h (key_of m.target) k)
      where
        by : (b : Bool) → found_named (if b then resolved h m else Stuck) ≡ true
        by true = resolved_named
        by false = refl
    by_progress Done = by (is_wide m.kind)
      where
        by : (b : Bool) → found_named (if b then Below else completed h m) ≡ true
        by true = refl
        by false = completed_named

    onward_named : (r : Reference) → find h m ≡ Onward r → IsNamed r
    onward_named r e = subst (λ (f : Found). found_named f ≡ true) e (by_progress m.progress)

    -- ---- the contexts that are evaluated on the spot are those that are served

    abbrev all : List Held
    all = served m.request h

    abbrev target : Key
    target = key_of m.target

    abbrev Serves : List Held → Type 0
    Serves cs = (c : Held) → In c cs → In c all

    none_served : Serves []
    none_served c i = elim i [ ]

    if_served : (b : Bool) (cs : List Held) → Serves cs → Serves (if b then cs else [])
    if_served true cs f = f
    if_served false cs f = none_served

    kept_served : (test : Held → Bool) → Serves (filter test all)
    kept_served test c i = (of_filter test c all i).0

    abbrev found_by_pin : Subset → Option Key → List Held
    found_by_pin subset None =
        if is_first_level h && is_root target
        then filter (λ (c : Held). (length c.prefix == 1) && in_subset subset target (key_of c.prefix)) all
        else []
    found_by_pin subset (Some p) = filter (λ (c : Held). same_key (key_of c.prefix) p && is_there c.entries target) all

    pin_served : (subset : Subset) (x : Option Key) → Serves (found_by_pin subset x)
    pin_served subset None = if_served (is_first_level h && is_root target) _ (kept_served _)
    pin_served subset (Some p) = kept_served _

    named_served : (subset : Subset) (b : Bool)
        → Serves (if b then found_by_pin subset (known_pin m.request h target) else [])
    named_served subset b = if_served b _ (pin_served subset (known_pin m.request h target))

    below_served : (test : Held → Bool) → Serves (filter test h.own)
    below_served test c i =
        in_left c h.own (filter unmastered (usable_copies m.request h)) (of_filter test c h.own i).0

    abbrev is_asked : Subset → Held → Bool
    is_asked subset c =
        is_child target (key_of c.prefix)
        && (in_subset subset target (key_of c.prefix) && not (is_excluded m.exclusions c.prefix))

    begins_served : (subset : Subset) (x : Progress) → Serves (begins_at h (record m { progress = x }) subset)
    begins_served subset Start = named_served subset true
    begins_served subset (Next k) = named_served subset (resolves h (record m { progress = Next k }))
    begins_served subset Done = by (is_wide m.kind)
      where
        by : (b : Bool)
            → Serves (if b then filter (is_asked subset) h.own else filter (λ c. same_key (key_of c.prefix) target) all)
        by true = below_served _
        by false = kept_served _

    -- those just below an entry of a level
    abbrev under : Subset → List Held → Held → Bool
    under subset level c =
        in_subset subset target (key_of c.prefix)
        && list_any (λ (d : Held). is_there d.entries (parent (key_of c.prefix))) level

    abbrev next : Subset → List Held → List Held
    next subset level = filter (under subset level) all

    level_served : (k : ℕ) (subset : Subset) (level : List Held) → Serves level
        → Serves (and_below k all target subset level)
    level_served zero subset level f = f
    level_served (suc k) subset level f =
        by (is_empty level) (level_served k subset (next subset level) (kept_served (under subset level)))
      where
        by : (b : Bool) → Serves (and_below k all target subset (next subset level))
            → Serves (if b then [] else level ++ and_below k all target subset (next subset level))
        by true g c i = elim i [ ]
        by false g c i = elim (in_either c level (and_below k all target subset (next subset level)) i) [
          | inl j ↦ f c j
          | inr j ↦ g c j
        ]

    evaluated_served : Serves (evaluated h m)
    evaluated_served = by (subset_of m)
      where
        by : (x : Option Subset)
            → Serves (in_option [] (λ (subset : Subset). and_below 16 all target subset (begins_at h m subset)) x)
        by None = none_served
        by (Some subset) = level_served 16 subset (begins_at h m subset) (begins_served subset m.progress)

    -- ---- a list or search

    abbrev is_due : Subset → Specific → Bool
    is_due subset k = in_subset subset target (key_of k.pin) && is_none (held_at all (key_of k.pin))

    below_named : (subset : Subset) (ks : List Specific) → ((k : Specific) → In k ks → specific_names k ≡ true)
        → AreNamed (below_needs h m subset ks)
    below_named subset ks f =
        map_named (λ k. reference k.pin Done Subordinate (usable_agents m.request k.access)) (filter (is_due subset) ks)
        (λ k i. usable_there m.request k.access (f k (of_filter (is_due subset) k ks i).0))

    abbrev by_nssr : Held → Named → ℕ → Reference
    by_nssr c e a =
        record (reference e.name Done NonSpecific (a ∷ [])) { exclusions = treated_below h m c (key_of e.name) }

    each_named : (subset : Subset) (c : Held) (x : Nssr) (e : Named) → are_agents n x.agents ≡ true
        → AreNamed (to_each h m subset c x e)
    each_named subset c x e t =
        if_named (in_scope subset target (key_of e.name)) _
        (map_named (by_nssr c e)
        (others h.me x.agents)
        (λ a i. one_there a (of_all there a (others h.me x.agents) (others_there h.me x.agents t) i)))

    wide_named : (subset : Subset) (c : Held) → context_names n c ≡ true → AreNamed (wide_needs h m subset c)
    wide_named subset c t =
        flat_named (λ x. in_option [] (to_each h m subset c x) (entry_at c.entries (key_of x.at))) c.nssrs
        (λ x i. option_named (to_each h m subset c x) (entry_at c.entries (key_of x.at))
        (λ e q. each_named subset c x e (nssr_in c x t i)))

    context_named : (subset : Subset) (c : Held) → In c (evaluated h m)
        → AreNamed (below_needs h m subset c.subordinate ++ wide_needs h m subset c)
    context_named subset c i =
        let t = served_named c (evaluated_served c i) in
        both_named (below_needs h m subset c.subordinate) (wide_needs h m subset c)
        (below_named subset c.subordinate (λ k j. subordinate_in c k t j)) (wide_named subset c t)

    subset_named : (subset : Subset) → AreNamed (subset_needs h m subset)
    subset_named subset =
        both_named (if answers_root h m then below_needs h m subset h.root else [])
        (flat_map (λ c. below_needs h m subset c.subordinate ++ wide_needs h m subset c) (evaluated h m))
        (if_named (answers_root h m) (below_needs h m subset h.root) (below_named subset h.root names.root))
        (flat_named (λ c. below_needs h m subset c.subordinate ++ wide_needs h m subset c) (evaluated h m)
        (context_named subset))

    parts_named : AreNamed (part_needs h m)
    parts_named = option_named (subset_needs h m) (subset_of m) (λ subset q. subset_named subset)

    -- ---- probes

    probe_entry_named : (name : Name) (c : Held) (e : Named) → context_names n c ≡ true
        → AreNamed (probe_from h name c e)
    probe_entry_named name c e t =
        option_named (probe_by h name e) (nssr_at c.nssrs (key_of e.name))
        (λ x q. when_named _ _ (others_there h.me x.agents
        (nssr_in c x t (of_find (λ (y : Nssr). same_key (key_of y.at) (key_of e.name)) x c.nssrs q).0)))

    probe_named : (name : Name) (c : Held) → context_names n c ≡ true → AreNamed (probe_at_master h m name c)
    probe_named name c t =
        if_named (is_there c.entries target && not (is_refused_here h m.request)) (probe_of h name c)
        (option_named (probe_from h name c) (entry_at c.entries (parent (key_of name)))
        (λ e q. probe_entry_named name c e t))

    due_named : (name : Name) → AreNamed (probe_due h m name)
    due_named name =
        if_named (resolves h m)
        (in_option [] (λ p. in_option [] (probe_at_master h m name) (held_at h.own p)) (known_pin m.request h target))
        (option_named (λ p. in_option [] (probe_at_master h m name) (held_at h.own p)) (known_pin m.request h target)
        (λ p q. option_named (probe_at_master h m name) (held_at h.own p)
        (λ c r. probe_named name c
        (names.own c (of_find (λ (x : Held). same_key (key_of x.prefix) p) c h.own r).0))))

    probes_named : AreNamed (due_probes h m)
    probes_named =
        unless_named (is_some (fault_of m.request.body)) (probe_needs h m)
        (option_named (probe_due h m) (new_name m.request.body) (λ name q. due_named name))

  -- ---- whatever was accepted

  outcome_same : (r : Request) (h : Holdings) (c : Held) (o : UpdatedEntries)
      → context_names n (with_outcome r h c o) ≡ context_names n c
  outcome_same r h c (Ok es) = refl
  outcome_same r h c (Err x) = refl

  changed_same : (r : Request) (h : Holdings) (c : Held) → context_names n (changed_at r h c) ≡ context_names n c
  changed_same r h c = by (holds_target r h c)
    where
      by : (b : Bool) → context_names n (if b then with_outcome r h c (apply_over (alone_at r h c) r.body) else c)
          ≡ context_names n c
      by true = outcome_same r h c (apply_over (alone_at r h c) r.body)
      by false = refl

  own_same : (r : Request) (h : Holdings) (cs : List Held)
      → list_all (context_names n) (map (changed_at r h) cs) ≡ list_all (context_names n) cs
  own_same r h [] = refl
  own_same r h (c ∷ cs) = ap₂ (λ (a b : Bool). a && b) (changed_same r h c) (own_same r h cs)

  -- what copies and references name
  abbrev elsewhere : Holdings → Bool
  elsewhere h = list_all (copy_names n) h.copies && (references_name n h.root && references_name n h.cross)

  stays : (r : Request) (h : Holdings)
      → ((committed r h).me ≡ h.me) × (holdings_name n (committed r h) ≡ holdings_name n h)
  stays r h = by (apply_over (ground_at r h) r.body)
    where
      by : (o : UpdatedEntries) → ((committed_if r h o).me ≡ h.me) × (holdings_name n (committed_if r h o) ≡ holdings_name n h)
      by (Err x) = (refl, refl)
      by (Ok es) = (
        refl,
        ap (λ (b : Bool). superior_names n h.superior && (b && elsewhere h)) (own_same r h h.own),
      )

  module _ (h : Holdings) (m : Chained) (all : holdings_name n h ≡ true) where
    pub onward_there : (r : Reference) → find h m ≡ Onward r → are_agents n r.agents ≡ true
    onward_there r e = onward_named h m (names_of h all) r e

    pub rest_there : name_agents n (rest_of_parts h m) ≡ true
    rest_there =
        all_named (rest_of_parts h m) (λ r i. parts_named h m (names_of h all) r (rest_is_needed h m r i))

  module _ (s : Scene) (hold : HoldAgents n s) where
    now_named : (j : Journal) (k : Hand) → there k.receiver ≡ true → Names (holds_now s j k)
    now_named j k e = by (has ◌==◌ j.accepted k.receiver)
      where
        first : holdings_name n (s.holdings k.receiver) ≡ true
        first = hold k.receiver e

        by : (b : Bool)
            → Names (if b then committed s.message.request (s.holdings k.receiver) else s.holdings k.receiver)
        by true =
            names_of (committed s.message.request (s.holdings k.receiver))
            ((stays s.message.request (s.holdings k.receiver)).1 ∙ first)
        by false = names_of (s.holdings k.receiver) first

    knows : KnowsAgents n s
    knows = record {
      onward = λ j k r e f. onward_named (holds_now s j k) k.message (now_named j k e) r f;
      parts = λ j k e. all_named (rest_of_parts (holds_now s j k) k.message)
          (λ r i. parts_named (holds_now s j k) k.message (now_named j k e) r
          (rest_is_needed (holds_now s j k) k.message r i));
      probes = λ j k e. all_named (due_probes (holds_now s j k) k.message)
          (probes_named (holds_now s j k) k.message (now_named j k e));
    }

pub knowledge_names_agents : KnowledgeNamesAgents
knowledge_names_agents n s hold = knows n s hold

pub knowledge_stays : KnowledgeStays
knowledge_stays n r h = stays n r h

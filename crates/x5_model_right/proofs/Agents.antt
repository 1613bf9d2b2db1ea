-- A needed reference names an agent, and only agents: a superior, an NSSR's others, a master and its shadows, a supplier,
-- of all of which a described world says so. By the ways in which needed references are made.
use Rattle.std.proofs.Common.{◌≡◌, ℕ, zero, suc, ◌+◌, ◌<◌, nat_lt, ◌==◌, Bool, true, false, not, ◌&&◌, if◌then◌else◌, inl, inr, List, [], ◌∷◌, ◌++◌, map, length, refl, sym, ap, subst, ◌∙◌, arith, Option, Some, None, slice_get}
use Rattle.std.specs.List.{list_all, filter, flat_map, list_any}
use Rattle.std.specs.Option.{is_some, is_none}
use Rattle.x5_model.specs.Words.{is_empty, in_option, when, some_and}
use Rattle.x5_model.specs.Members.{In, here, there}
use Rattle.x5_model.specs.Keys.{Key, same_key, parent}
use Rattle.x5_model.specs.Values.{Name, key_of}
use Rattle.x5_model.specs.Entries.{Named}
use Rattle.x5_model.specs.Requests.{Subset}
use Rattle.x5_model.specs.Statics.{fault_of}
use Rattle.x5_model.specs.References.{Progress, Start, Next, Done, Superior, Subordinate, Cross, Supplier, NonSpecific, Reference, Chained}
use Rattle.x5_model.proofs.Decide.{less_decides}
use Rattle.x5_model.proofs.Lists.{both_true, in_first, in_left, in_right, in_either, of_map, of_flat, of_filter, of_find, of_all}
use Rattle.x5_model_tree.specs.World.{Specific, Nssr, Agreement, World}
use Rattle.x5_model_tree.specs.Tree.{lowest, entry_at, is_there, part}
use Rattle.x5_model_tree.specs.Ask.{in_subset}
use Rattle.x5_model_tree.specs.Masters.{Mastered, mastered, agent_at}
use Rattle.x5_model_tree.specs.Described.{is_agent, is_agent_name, is_context, is_rooted, is_kept, is_nssr, has_superior, is_agreement, is_number, is_entry_name}
use Rattle.x5_model_tree.proofs.Gives.{owner_of}
use Rattle.x5_model_run.specs.Journal.{same_name}
use Rattle.x5_model_run.specs.Holdings.{Held, Copy, Holdings, may_copy, masters_pin, usable_agents, usable_copies, served, subordinates, known_pin, held_at, copy_at}
use Rattle.x5_model_run.specs.Needs.{others, reference, proceeding, resolves, to_superior, superior_needs, nssr_at, to_nssr, from_lowest, multicast_needs, copy_answers, supplier_needs, specific_at, to_specific, specific_needs, foreign_needs, known_needs, pin_needs, resolution_needs, by_pin, subset_of, begins_at, begins_by, found_at_root, found_in, found_below, found_at_pin, and_below, evaluated, answers_root, below_needs, in_scope, treated_below, to_each, wide_needs, subset_needs, part_needs, to_supplier, copied_needs, new_name, is_refused_here, probe_by, probe_from, probe_of, probe_at_master, probe_due, probe_needs, passing_needs, due_probes, needs}
use Rattle.x5_model_run.specs.History.{Point, knowledge_at, tree_of_moment, as_of, sent_references, mastered_at, copy_as_of, holdings_at}
use Rattle.x5_model_theory.specs.Leading.{IsSound}
use Rattle.x5_model_theory.proofs.Views.{at_place}
use Rattle.x5_model_theory.proofs.Holding.{by_agent, copy_is, usable_is, usable_holds, IsRightAccess, subordinates_right, crosses_right}
use Rattle.x5_model_serve.specs.Claims.{IsAgent}
use Rattle.x5_model_bounds.proofs.Agents.{nssr_agents, held_there}
use Rattle.x5_model_bounds.proofs.Scopes.{served_subordinate}
use Rattle.x5_model_right.specs.Journeys.{NeededAgents}

-- ---- places

agent_of : {A : Type 0} (o : Option A) → is_some o ≡ true → (x : A) × (o ≡ Some x)
agent_of None e = cc
agent_of (Some x) e = (x, refl)

gets : {A : Type 0} (xs : List A) (i : ℕ) → i < length xs → (x : A) × (slice_get xs i ≡ Some x)
gets [] i l = absurd (omega arith)
gets (x ∷ xs) zero l = (x, refl)
gets (x ∷ xs) (suc i) l = gets xs i (omega arith)

of_get : {A : Type 0} (xs : List A) (i : ℕ) (x : A) → slice_get xs i ≡ Some x → In x xs
of_get [] i x e = cc
of_get {A} (y ∷ ys) zero x e = (let s : y ≡ x = cc in subst (λ (z : A). In z (y ∷ ys)) s here)
of_get (y ∷ ys) (suc i) x e = there (of_get ys i x e)

module _ (p : Point) (o : ℕ) (m : Chained) (sound : IsSound p) where
  abbrev w : World
  w = knowledge_at p

  abbrev h : Holdings
  h = holdings_at p o

  below : (a : ℕ) → nat_lt a (length (knowledge_at p).agents) ≡ true → IsAgent p a
  below a e = gets (knowledge_at p).agents a ((less_decides a (length (knowledge_at p).agents)).0 e)

  abbrev Good : Reference → Type 0
  Good r = (is_empty r.agents ≡ false) × ((a : ℕ) → In a r.agents → IsAgent p a)

  abbrev All : List Reference → Type 0
  All rs = (r : Reference) → In r rs → Good r

  none : All []
  none r i = elim i [ ]

  one : (q : Reference) → Good q → All (q ∷ [])
  one q e r i = elim (in_first r q [] i) [ inl s ↦ subst (λ (x : Reference). Good x) (sym s) e | inr j ↦ elim j [ ] ]

  maybe : (b : Bool) (q : Reference) → (b ≡ true → Good q) → All (when b q)
  maybe true q e = one q (e refl)
  maybe false q e = none

  either : (b : Bool) (xs : List Reference) → All xs → All (if b then xs else [])
  either true xs f = f
  either false xs f = none

  option : {X : Type 0} (ys : List Reference) (f : X → List Reference) (x : Option X) → All ys → ((y : X) → x ≡ Some y → All (f y)) → All (in_option ys f x)
  option ys f None g k = g
  option ys f (Some y) g k = k y refl

  both : (xs ys : List Reference) → All xs → All ys → All (xs ++ ys)
  both xs ys f g r i = elim (in_either r xs ys i) [ inl j ↦ f r j | inr j ↦ g r j ]

  single : (a : ℕ) → IsAgent p a → (is_empty (a ∷ []) ≡ false) × ((b : ℕ) → In b (a ∷ []) → IsAgent p b)
  single a e = (refl, λ b i. elim (in_first b a [] i) [ inl s ↦ subst (IsAgent p) (sym s) e | inr j ↦ elim j [ ] ])

  filled : (b c : Bool) → (b && not c) ≡ true → c ≡ false
  filled true true e = cc
  filled true false e = refl
  filled false c e = cc

  -- 1. a superior
  superior_is : (a : ℕ) → (holdings_at p o).superior ≡ Some a → IsAgent p a
  superior_is a = by_agent p o (λ y. y.superior ≡ Some a → IsAgent p a) (λ e. cc) (λ agent ia e.
      below a (at agent.superior (of_all (has_superior (knowledge_at p)) agent (knowledge_at p).agents sound.described.superiors (of_get (knowledge_at p).agents o agent (at_place (knowledge_at p) o agent ia))) e))
    where
      at : (s : Option ℕ) → not (some_and (λ n. not (nat_lt n (length (knowledge_at p).agents))) s) ≡ true → s ≡ Some a → nat_lt a (length (knowledge_at p).agents) ≡ true
      at None f e = cc
      at (Some n) f e = (let s : n ≡ a = cc in ap (λ (x : ℕ). nat_lt x (length (knowledge_at p).agents)) (sym s) ∙ back (nat_lt n (length (knowledge_at p).agents)) f)
        where
          back : (b : Bool) → not (not b) ≡ true → b ≡ true
          back true q = refl
          back false q = cc

  superiors : All (superior_needs (holdings_at p o) m)
  superiors = option [] (to_superior m.target) (holdings_at p o).superior none (λ a e. one (reference m.target Start Superior (a ∷ [])) (single a (superior_is a e)))

  -- 2. the others of an NSSR that it masters
  there_own : (c : Held) (n : Nssr) (a : ℕ) → In c (holdings_at p o).own → In n c.nssrs → In a n.agents → IsAgent p a
  there_own c n a ic i j = agent_of (agent_at (knowledge_at p) a) ((nssr_agents p o c n sound ic i).1 a j)

  found_nssr : (c : Held) (at : Key) (n : Nssr) → nssr_at c.nssrs at ≡ Some n → In n c.nssrs
  found_nssr c at n e = (of_find (λ (x : Nssr). same_key (key_of x.at) at) n c.nssrs e).0

  found_own : (q : Key) (c : Held) → held_at (holdings_at p o).own q ≡ Some c → In c (holdings_at p o).own
  found_own q c e = (of_find (λ (x : Held). same_key (key_of x.prefix) q) c (holdings_at p o).own e).0

  multicast : (c : Held) → In c (holdings_at p o).own → All (multicast_needs (holdings_at p o) m c)
  multicast c ic =
      option [] (from_lowest (holdings_at p o) m c) (lowest c.entries (key_of m.target)) none
      (λ e q. option [] (to_nssr (holdings_at p o) m e) (nssr_at c.nssrs (key_of e.name)) none
      (λ n k. maybe (not (same_name e.name m.target) && not (is_empty (others (holdings_at p o).me n.agents))) (proceeding (length e.name + 1) e.name m.target NonSpecific (others (holdings_at p o).me n.agents))
      (λ f. (
        filled (not (same_name e.name m.target)) (is_empty (others (holdings_at p o).me n.agents)) f,
        λ a i. there_own c n a ic (found_nssr c (key_of e.name) n k) (of_filter (λ (x : ℕ). not (x == (holdings_at p o).me)) a n.agents i).0,
      ))))

  -- 3. a supplier
  supplier_is : (c : Copy) → In c (holdings_at p o).copies → IsAgent p c.supplier
  supplier_is c = by_agent p o (λ y. In c y.copies → IsAgent p c.supplier) (λ i. elim i [ ]) (λ agent ia i.
      let g = copy_is p o agent c i in
      let e = (both_true (is_number g.0.number) _ (of_all (is_agreement (knowledge_at p)) g.0 (knowledge_at p).agreements sound.described.agreements g.1)).1 in
      let f = (both_true (is_entry_name g.0.context) (nat_lt g.0.supplier (length (knowledge_at p).agents) && nat_lt g.0.consumer (length (knowledge_at p).agents)) e).1 in
      subst (λ (x : Copy). IsAgent p x.supplier) (sym g.3) (below g.0.supplier (both_true (nat_lt g.0.supplier (length (knowledge_at p).agents)) _ f).0))

  found_copy : (q : Key) (c : Copy) → copy_at (holdings_at p o) q ≡ Some c → In c (holdings_at p o).copies
  found_copy q c e = (of_find (λ (x : Copy). same_key (key_of x.held.prefix) q) c (holdings_at p o).copies e).0

  supplier : (c : Copy) → In c (holdings_at p o).copies → All (supplier_needs (holdings_at p o) m c)
  supplier c i = maybe (not (copy_answers (holdings_at p o) m c)) (proceeding (length c.held.prefix) c.held.prefix m.target Supplier (c.supplier ∷ [])) (λ f. single c.supplier (supplier_is c i))

  -- 4. a master and its shadows
  usable_good : (k : Specific) → IsRightAccess (knowledge_at p) k → (is_empty (usable_agents m.request k.access) ≡ false) × ((a : ℕ) → In a (usable_agents m.request k.access) → IsAgent p a)
  usable_good k right = (
    some (may_copy m.request),
    λ a i. agent_of (agent_at (knowledge_at p) a) (held_there (knowledge_at p) a (key_of k.pin) sound.described (usable_holds (knowledge_at p) m.request k a right i)),
  )
    where
      some : (b : Bool) → is_empty (if b then k.access.master ∷ k.access.shadows else k.access.master ∷ []) ≡ false
      some true = refl
      some false = refl

  specifics : (q : Key) → All (specific_needs (holdings_at p o) m q)
  specifics q =
      option (in_option [] (to_specific m Cross) (specific_at (holdings_at p o).cross q)) (to_specific m Subordinate) (specific_at (subordinates m.request (holdings_at p o)) q)
      (option [] (to_specific m Cross) (specific_at (holdings_at p o).cross q) none (λ k e.
      one (proceeding (length k.pin) k.pin m.target Cross (usable_agents m.request k.access))
      (usable_good k (crosses_right p o k sound (of_find (λ (y : Specific). same_key (key_of y.pin) q) k (holdings_at p o).cross e).0))))
      (λ k e.
      one (proceeding (length k.pin) k.pin m.target Subordinate (usable_agents m.request k.access))
      (usable_good k (subordinates_right p o m.request k sound (of_find (λ (y : Specific). same_key (key_of y.pin) q) k (subordinates m.request (holdings_at p o)) e).0)))

  resolution : All (resolution_needs (holdings_at p o) m)
  resolution =
      either (resolves (holdings_at p o) m) (pin_needs (holdings_at p o) m (known_pin m.request (holdings_at p o) (key_of m.target)))
      (option (superior_needs (holdings_at p o) m) (known_needs (holdings_at p o) m) (known_pin m.request (holdings_at p o) (key_of m.target)) superiors
      (λ q e. option (foreign_needs (holdings_at p o) m q) (multicast_needs (holdings_at p o) m) (held_at (holdings_at p o).own q)
      (option (specific_needs (holdings_at p o) m q) (supplier_needs (holdings_at p o) m) (copy_at (holdings_at p o) q) (specifics q) (λ c f. supplier c (found_copy q c f)))
      (λ c f. multicast c (found_own q c f))))

  -- 5. references of parts
  mapped : {X : Type 0} (f : X → Reference) (xs : List X) → ((x : X) → In x xs → Good (f x)) → All (map f xs)
  mapped f xs k r i = (let x = of_map f r xs i in subst (λ (y : Reference). Good y) (sym x.2) (k x.0 x.1))

  flat : {X : Type 0} (f : X → List Reference) (xs : List X) → ((x : X) → In x xs → All (f x)) → All (flat_map f xs)
  flat f xs k r i = (let x = of_flat f r xs i in k x.0 x.1 r x.2)

  below_all : (subset : Subset) (ks : List Specific) → ((k : Specific) → In k ks → In k (subordinates m.request (holdings_at p o))) → All (below_needs (holdings_at p o) m subset ks)
  below_all subset ks f =
      mapped (λ k. reference k.pin Done Subordinate (usable_agents m.request k.access)) (filter (λ k. in_subset subset (key_of m.target) (key_of k.pin) && is_none (held_at (served m.request (holdings_at p o)) (key_of k.pin))) ks)
      (λ k i. usable_good k (subordinates_right p o m.request k sound (f k (of_filter _ k ks i).0)))

  -- what is evaluated is held
  and_below_in : (n : ℕ) (all : List Held) (base : Key) (subset : Subset) (level : List Held) → ((c : Held) → In c level → In c all) → (c : Held) → In c (and_below n all base subset level) → In c all
  and_below_in zero all base subset level f c i = f c i
  and_below_in (suc n) all base subset level f c i =
      by (is_empty level) (and_below_in n all base subset (filter (λ d. in_subset subset base (key_of d.prefix) && list_any (λ e. is_there e.entries (parent (key_of d.prefix))) level) all)
      (λ d j. (of_filter (λ d. in_subset subset base (key_of d.prefix) && list_any (λ e. is_there e.entries (parent (key_of d.prefix))) level) d all j).0) c) i
    where
      next : List Held
      next = and_below n all base subset (filter (λ d. in_subset subset base (key_of d.prefix) && list_any (λ e. is_there e.entries (parent (key_of d.prefix))) level) all)

      by : (b : Bool) → (In c next → In c all) → In c (if b then [] else level ++ next) → In c all
      by true rest j = elim j [ ]
      by false rest j = elim (in_either c level next j) [ inl l ↦ f c l | inr l ↦ rest l ]

  begins_in : (subset : Subset) (c : Held) → In c (begins_at (holdings_at p o) m subset) → In c (served m.request (holdings_at p o))
  begins_in subset c i = by m.progress i
    where
      at_root : (b : Bool) → In c (if b then filter (λ d. (length d.prefix == 1) && in_subset subset (key_of m.target) (key_of d.prefix)) (served m.request (holdings_at p o)) else []) → In c (served m.request (holdings_at p o))
      at_root true j = (of_filter _ c (served m.request (holdings_at p o)) j).0
      at_root false j = elim j [ ]

      at_pin : (x : Option Key) → In c (in_option (found_at_root (holdings_at p o) m subset) (found_in (holdings_at p o) m) x) → In c (served m.request (holdings_at p o))
      at_pin None j = at_root _ j
      at_pin (Some q) j = (of_filter _ c (served m.request (holdings_at p o)) j).0

      by_name : (b : Bool) → In c (if b then in_option (found_at_root (holdings_at p o) m subset) (found_in (holdings_at p o) m) (known_pin m.request (holdings_at p o) (key_of m.target)) else []) → In c (served m.request (holdings_at p o))
      by_name true j = at_pin _ j
      by_name false j = elim j [ ]

      late : (b : Bool) → In c (if b then found_below (holdings_at p o) m subset else found_at_pin (holdings_at p o) m) → In c (served m.request (holdings_at p o))
      late true j = in_left c (holdings_at p o).own _ (of_filter _ c (holdings_at p o).own j).0
      late false j = (of_filter _ c (served m.request (holdings_at p o)) j).0

      by : (x : Progress) → In c (begins_by (holdings_at p o) m subset x) → In c (served m.request (holdings_at p o))
      by Start j = by_name _ j
      by (Next n) j = by_name _ j
      by Done j = late _ j

  evaluated_in : (c : Held) → In c (evaluated (holdings_at p o) m) → In c (served m.request (holdings_at p o))
  evaluated_in c i = by (subset_of m) i
    where
      by : (x : Option Subset) → In c (in_option [] (λ subset. and_below 16 (served m.request (holdings_at p o)) (key_of m.target) subset (begins_at (holdings_at p o) m subset)) x) → In c (served m.request (holdings_at p o))
      by None j = elim j [ ]
      by (Some subset) j = and_below_in 16 (served m.request (holdings_at p o)) (key_of m.target) subset (begins_at (holdings_at p o) m subset) (begins_in subset) c j

  -- the NSSRs of a copy are its master's
  there_copy : (c : Held) (n : Nssr) (a : ℕ) → In c (usable_copies m.request (holdings_at p o)) → In n c.nssrs → In a n.agents → IsAgent p a
  there_copy c n a ic i j =
      let x = usable_is m.request (holdings_at p o) c ic in
      copied x.0 x.1 (subst (λ (y : Held). In n y.nssrs) x.2 i)
    where
      sent : (g : Agreement) (entries : List Named) (x : Option Mastered) → mastered_at (knowledge_at p) (key_of g.context) ≡ x
          → In n (in_option {X = Mastered} {Y = Held} (record { prefix = g.context; entries = entries; subordinate = []; nssrs = [] }) (λ (d : Mastered). record { prefix = g.context; entries = entries; subordinate = sent_references (knowledge_at p) d entries; nssrs = d.context.nssrs }) x).nssrs
          → IsAgent p a
      sent g entries None e k = elim k [ ]
      sent g entries (Some d) e k =
          let id = (of_find _ d (mastered (knowledge_at p)) e).0 in
          let w = owner_of (knowledge_at p) d id in
          let agent = of_all (is_agent (knowledge_at p)) w.0 (knowledge_at p).agents sound.described.agents (of_get (knowledge_at p).agents d.master w.0 (at_place (knowledge_at p) d.master w.0 w.1)) in
          let context = of_all (is_context (knowledge_at p)) d.context w.0.contexts (both_true (list_all (is_context (knowledge_at p)) w.0.contexts) _ (both_true (is_agent_name w.0.name) _ agent).1).0 w.2 in
          let kept = (both_true (is_rooted d.context d.context.entries) _ context).1 in
          let nssrs = (both_true (list_all (is_nssr (knowledge_at p) d.context) d.context.nssrs) _ (both_true (list_all is_kept d.context.entries) _ kept).1).0 in
          let nssr = of_all (is_nssr (knowledge_at p) d.context) n d.context.nssrs nssrs k in
          let agents = (both_true (not (is_empty n.agents)) _ (both_true (is_there d.context.entries (key_of n.at)) _ nssr).1).1 in
          below a (of_all (λ b. nat_lt b (length (knowledge_at p).agents)) a n.agents agents j)

      as_of_then : (g : Agreement) (x : Option ℕ) → In n (copy_as_of p g x).nssrs → IsAgent p a
      as_of_then g None k = elim k [ ]
      as_of_then g (Some moment) k = sent g (part (tree_of_moment p moment) (key_of g.context)) (mastered_at (knowledge_at p) (key_of g.context)) refl k

      copied : (x : Copy) → In x (holdings_at p o).copies → In n x.held.nssrs → IsAgent p a
      copied x = by_agent p o (λ y. In x y.copies → In n x.held.nssrs → IsAgent p a) (λ k l. elim k [ ]) (λ agent ia k l.
          let g = copy_is p o agent x k in
          as_of_then g.0 (as_of p g.0.number) (subst (λ (y : Copy). In n y.held.nssrs) g.3 l))

  there_served : (c : Held) (n : Nssr) (a : ℕ) → In c (served m.request (holdings_at p o)) → In n c.nssrs → In a n.agents → IsAgent p a
  there_served c n a ic i j = elim (in_either c (holdings_at p o).own (filter (λ (d : Held). not (masters_pin (holdings_at p o) (key_of d.prefix))) (usable_copies m.request (holdings_at p o))) ic) [
    | inl k ↦ there_own c n a k i j
    | inr k ↦ there_copy c n a (of_filter (λ (d : Held). not (masters_pin (holdings_at p o) (key_of d.prefix))) c (usable_copies m.request (holdings_at p o)) k).0 i j
  ]

  wide : (subset : Subset) (c : Held) → In c (served m.request (holdings_at p o)) → All (wide_needs (holdings_at p o) m subset c)
  wide subset c ic =
      flat (λ n. in_option [] (to_each (holdings_at p o) m subset c n) (entry_at c.entries (key_of n.at))) c.nssrs
      (λ n i. option [] (to_each (holdings_at p o) m subset c n) (entry_at c.entries (key_of n.at)) none
      (λ e q. either (in_scope subset (key_of m.target) (key_of e.name)) (map (λ a. record (reference e.name Done NonSpecific (a ∷ [])) { exclusions = treated_below (holdings_at p o) m c (key_of e.name) }) (others (holdings_at p o).me n.agents))
      (mapped (λ a. record (reference e.name Done NonSpecific (a ∷ [])) { exclusions = treated_below (holdings_at p o) m c (key_of e.name) }) (others (holdings_at p o).me n.agents)
      (λ a j. single a (there_served c n a ic i (of_filter (λ (x : ℕ). not (x == (holdings_at p o).me)) a n.agents j).0)))))

  in_subordinates : (c : Held) (k : Specific) → In c (served m.request (holdings_at p o)) → In k c.subordinate → In k (subordinates m.request (holdings_at p o))
  in_subordinates c k i j = served_subordinate (holdings_at p o) m.request c k i j

  in_root : (k : Specific) → In k (holdings_at p o).root → In k (subordinates m.request (holdings_at p o))
  in_root k i = in_right k (flat_map (λ (c : Held). c.subordinate) (holdings_at p o).own ++ flat_map (λ (c : Held). c.subordinate) (usable_copies m.request (holdings_at p o))) (holdings_at p o).root i

  parts : All (part_needs (holdings_at p o) m)
  parts = option [] (subset_needs (holdings_at p o) m) (subset_of m) none (λ subset e.
      both (if answers_root (holdings_at p o) m then below_needs (holdings_at p o) m subset (holdings_at p o).root else []) (flat_map (λ c. below_needs (holdings_at p o) m subset c.subordinate ++ wide_needs (holdings_at p o) m subset c) (evaluated (holdings_at p o) m))
      (either (answers_root (holdings_at p o) m) (below_needs (holdings_at p o) m subset (holdings_at p o).root) (below_all subset (holdings_at p o).root in_root))
      (flat (λ c. below_needs (holdings_at p o) m subset c.subordinate ++ wide_needs (holdings_at p o) m subset c) (evaluated (holdings_at p o) m)
      (λ c i. both (below_needs (holdings_at p o) m subset c.subordinate) (wide_needs (holdings_at p o) m subset c) (below_all subset c.subordinate (λ k j. in_subordinates c k (evaluated_in c i) j)) (wide subset c (evaluated_in c i)))))

  -- 7. a supplier once more
  copied_all : All (copied_needs (holdings_at p o) m)
  copied_all =
      either (by_pin m && is_some (subset_of m)) (in_option [] (to_supplier (holdings_at p o) m) (copy_at (holdings_at p o) (key_of m.target)))
      (option [] (to_supplier (holdings_at p o) m) (copy_at (holdings_at p o) (key_of m.target)) none
      (λ c e. maybe (is_none (held_at (served m.request (holdings_at p o)) (key_of m.target))) (reference m.target Done Supplier (c.supplier ∷ [])) (λ f. single c.supplier (supplier_is c (found_copy (key_of m.target) c e)))))

  -- 8. probes
  probe_all : (name : Name) (c : Held) → In c (holdings_at p o).own → All (probe_of (holdings_at p o) name c)
  probe_all name c ic =
      option [] (probe_from (holdings_at p o) name c) (entry_at c.entries (parent (key_of name))) none
      (λ e q. option [] (probe_by (holdings_at p o) name e) (nssr_at c.nssrs (key_of e.name)) none
      (λ n k. maybe (not (is_empty (others (holdings_at p o).me n.agents))) (proceeding (length name) e.name name NonSpecific (others (holdings_at p o).me n.agents))
      (λ f. (filled true (is_empty (others (holdings_at p o).me n.agents)) f, λ a i. there_own c n a ic (found_nssr c (key_of e.name) n k) (of_filter (λ (x : ℕ). not (x == (holdings_at p o).me)) a n.agents i).0))))

  probes : All (probe_needs (holdings_at p o) m)
  probes =
      option [] (probe_due (holdings_at p o) m) (new_name m.request.body) none (λ name z.
      either (resolves (holdings_at p o) m) (in_option [] (λ (q : Key). in_option [] (probe_at_master (holdings_at p o) m name) (held_at (holdings_at p o).own q)) (known_pin m.request (holdings_at p o) (key_of m.target)))
      (option [] (λ (q : Key). in_option [] (probe_at_master (holdings_at p o) m name) (held_at (holdings_at p o).own q)) (known_pin m.request (holdings_at p o) (key_of m.target)) none
      (λ q e. option [] (probe_at_master (holdings_at p o) m name) (held_at (holdings_at p o).own q) none
      (λ c f. either (is_there c.entries (key_of m.target) && not (is_refused_here (holdings_at p o) m.request)) (probe_of (holdings_at p o) name c) (probe_all name c (found_own q c f))))))

  unless : (b : Bool) (xs : List Reference) → All xs → All (if b then [] else xs)
  unless true xs f = none
  unless false xs f = f

  all_good : All (needs (holdings_at p o) m)
  all_good =
      both (passing_needs (holdings_at p o) m) (due_probes (holdings_at p o) m)
      (unless (is_some (fault_of m.request.body)) ((resolution_needs (holdings_at p o) m ++ part_needs (holdings_at p o) m) ++ copied_needs (holdings_at p o) m)
      (both (resolution_needs (holdings_at p o) m ++ part_needs (holdings_at p o) m) (copied_needs (holdings_at p o) m) (both (resolution_needs (holdings_at p o) m) (part_needs (holdings_at p o) m) resolution parts) copied_all))
      (unless (is_some (fault_of m.request.body)) (probe_needs (holdings_at p o) m) probes)

pub needed_agents : NeededAgents
needed_agents p o m r sound i = all_good p o m sound r i

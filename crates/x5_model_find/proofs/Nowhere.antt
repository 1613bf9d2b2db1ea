-- Where an agent finds no entry of a name, the one tree has none: the lowest entry on the way is the agent's own, since
-- it is in the context of the longest pin, and no NSSR there names another agent; or the agent knows no pin on the way
-- and is first-level.
use Rattle.std.proofs.Common.{◌≡◌, ℕ, ◌+◌, ◌<◌, ◌≤◌, ◌==◌, Bool, true, false, cond, not, ◌&&◌, inl, inr, List, [], ◌∷◌, ◌++◌, length, map, refl, sym, ap, subst, ◌∙◌, Option, Some, None, arith, if◌then◌else◌}
use Rattle.std.specs.List.{flat_map, filter, enumerate_from}
use Rattle.std.specs.Option.{is_none}
use Rattle.x5_model.specs.Words.{in_option, when, is_empty}
use Rattle.x5_model.specs.Members.{In, here, there}
use Rattle.x5_model.specs.Keys.{Key, IsPrefix, same_key, is_root}
use Rattle.x5_model.specs.Values.{Name, key_of}
use Rattle.x5_model.specs.Entries.{Named}
use Rattle.x5_model.specs.Requests.{Request}
use Rattle.x5_model.specs.References.{Progress, Start, Next, Done, Reference, Chained}
use Rattle.x5_model.specs.Answers.{NoSuchObject}
use Rattle.x5_model.proofs.KeyLaws.{key_decides}
use Rattle.x5_model.proofs.Lists.{both_true, not_false, in_first, in_left, in_right, in_map, in_filter, of_find, not_found, when_empty}
use Rattle.x5_model.proofs.Prefixes.{prefix_length}
use Rattle.x5_model.proofs.Decide.{not_decides, nat_same_decides}
use Rattle.x5_model_tree.specs.World.{Specific, Nssr, Agent, World}
use Rattle.x5_model_tree.specs.Tree.{Tree, key_at, lowest, longest, part}
use Rattle.x5_model_tree.specs.Masters.{Mastered, pin_of, numbered, mastered, is_first_level}
use Rattle.x5_model_tree.specs.Reached.{Reached, NoneLonger, KnowsNone, NoLower}
use Rattle.x5_model_tree.specs.Ask.{Refuses}
use Rattle.x5_model_tree.proofs.Longest.{IsLongest, longest_right, longest_is, IsLowest, lowest_right}
use Rattle.x5_model_tree.proofs.Resolution.{lowest_of_all, nothing_there}
use Rattle.x5_model_tree.proofs.WholeTree.{lowest_there, none_there}
use Rattle.x5_model_run.specs.Journal.{same_name, is_done, is_wide}
use Rattle.x5_model_run.specs.Holdings.{Held, Copy, Holdings, usable_copies, subordinates, prefixes, known_pins, held_at, copy_at, holds_within}
use Rattle.x5_model_run.specs.Needs.{target_of, others, nssr_at, superior_needs, multicast_needs, supplier_needs, copy_answers, specific_needs}
use Rattle.x5_model_run.specs.History.{Point, knowledge_at, tree_at, world_at, own_context, agent_holdings, no_holdings, holdings_at}
use Rattle.x5_model_run.specs.Chain.{Scene}
use Rattle.x5_model_run.specs.Covers.{told}
use Rattle.x5_model_run.specs.Right.{master_at, first_level_at, nssr_agents}
use Rattle.x5_model_theory.specs.Described.{spot_of, area_of, pointer_of, knowledge_of}
use Rattle.x5_model_theory.proofs.Deciding.{dec_nat}
use Rattle.x5_model_theory.proofs.Holding.{by_agent, of_place}
use Rattle.x5_model_theory.proofs.Places.{pointer_in}
use Rattle.x5_model_theory.proofs.Stages.{key_length}
use Rattle.x5_model_theory.proofs.Views.{at_place, superior_at, there_decides}
use Rattle.x5_model_updates.specs.Standing as updates
use Rattle.x5_model_updates.proofs.Goods.{stands_good, tree_is_union, area_there, pins_once, was_mastered}
use Rattle.x5_model_updates.proofs.Held.{of_held, known_own}
use Rattle.x5_model_updates.proofs.Judged.{holder_is_master}
use Rattle.x5_model_updates.proofs.Moments.{now_context, now_agent, now_mastered, mastered_now}
use Rattle.x5_model_updates.proofs.Own.{held_of, own_knows}
use Rattle.x5_model_updates.proofs.Trees.{longest_own}
use Rattle.x5_model_serve.specs.Finding.{Found, Here, CopyHere, Root, Below, Onward, Nowhere, Stuck, by_first, in_own, in_copy, at_pin, resolved, completed, completed_copy, completed_own, found_by, find, IsLooked}
use Rattle.x5_model_find.specs.Finds.{NowhereIsTold, Ends, at_none, at_entry}
use Rattle.x5_model_find.proofs.Absent.{absent_of, told_absent}

-- an agent of the moment
numbered_now : (t : Tree) (n : ℕ) (agents : List Agent) (a : ℕ × Agent) → In a (enumerate_from n agents) → In (a.0, now_agent t a.1) (enumerate_from n (map (now_agent t) agents))
numbered_now t n [] a i = elim i [ ]
numbered_now t n (x ∷ agents) a i =
    elim (in_first a (n, x) (enumerate_from (n + 1) agents) i) [
      | inl s ↦ subst (λ (b : ℕ × Agent). In (b.0, now_agent t b.1) ((n, now_agent t x) ∷ enumerate_from (n + 1) (map (now_agent t) agents))) (sym s) here
      | inr j ↦ there (numbered_now t (n + 1) agents a j)
    ]

-- by no reference, and so
nowhere_first : (rs : List Reference) (other : Found) (n : Name) → by_first rs other ≡ Nowhere n → (rs ≡ []) × (other ≡ Nowhere n)
nowhere_first [] other n e = (refl, e)
nowhere_first (r ∷ rs) other n e = (let f : Onward r ≡ Nowhere n = e in cc)

none_left : (xs : List ℕ) → is_empty xs ≡ true → xs ≡ []
none_left [] e = refl
none_left (x ∷ xs) e = (let f : false ≡ true = e in cc)

abbrev pub listed : ℕ → Option Nssr → List ℕ
listed o x = in_option [] (λ n. others o n.agents) x

abbrev in_context : Named → ℕ → Held → List ℕ
in_context e o c = in_option [] (λ n. others o n.agents) (nssr_at c.nssrs (key_of e.name))

abbrev at_master : Point → (ℕ → Holdings) → Named → ℕ → List ℕ
at_master p hs e o = in_option [] (in_context e o) (in_option None (held_at (hs o).own) (longest (tree_at p).pins (key_of e.name)))

pub me_is : (p : Point) (o : ℕ) → (holdings_at p o).me ≡ o
me_is p o = by_agent p o (λ h. h.me ≡ o) refl (λ a i. refl)

module _ (p : Point) (s : updates.StandsWhole p) (o : ℕ) where
  abbrev W : World
  W = world_at p

  agent_now : (a : Agent) → In (o, a) (numbered (knowledge_at p)) → In (o, now_agent (tree_at p) a) (numbered (world_at p))
  agent_now a i = numbered_now (tree_at p) 0 (knowledge_at p).agents (o, a) i

  own_known : (r : Request) (d : Mastered) → In d (mastered (world_at p)) → d.master ≡ o → In (pin_of d) (map key_of (known_pins r (holdings_at p o)))
  own_known r d i mine =
      let w = was_mastered p s d i in
      let h = held_of p s r o w.0 w.1 (ap (λ (x : Mastered). x.master) (sym w.2) ∙ mine) in
      subst (λ (x : Mastered). In (pin_of x) (map key_of (known_pins r (holdings_at p o)))) (sym w.2) (known_own p s r o (own_context (tree_at p) h.0 w.0.context) h.2)

  -- each subordinate reference that the agent has is known
  abbrev rooted : Option ℕ → Agent → List Specific
  rooted x a = if is_none x then filter (λ k. length k.pin == 1) a.subordinate else []

  root_known : (r : Request) (k : Specific) → In k (holdings_at p o).root → In (key_of k.pin) (map key_of (known_pins r (holdings_at p o)))
  root_known r k i =
      let l : In k (subordinates r (holdings_at p o)) =
      in_right k (flat_map (λ (x : Held). x.subordinate) (holdings_at p o).own ++ flat_map (λ (x : Held). x.subordinate) (usable_copies r (holdings_at p o))) (holdings_at p o).root i in
      in_map key_of k.pin (known_pins r (holdings_at p o))
      (in_left k.pin (prefixes (holdings_at p o) ++ map (λ (x : Specific). x.pin) (subordinates r (holdings_at p o))) (map (λ (x : Specific). x.pin) (holdings_at p o).cross)
      (in_right k.pin (prefixes (holdings_at p o)) (map (λ (x : Specific). x.pin) (subordinates r (holdings_at p o))) (in_map (λ (x : Specific). x.pin) k (subordinates r (holdings_at p o)) l)))

  held_by : (a : Agent) → In (o, a) (numbered (knowledge_at p)) → holdings_at p o ≡ agent_holdings p o a
  held_by a i = ap (λ (x : Option Agent). in_option (no_holdings o) (agent_holdings p o) x) (at_place (knowledge_at p) o a i)

  refers_known : (r : Request) (a : Agent) (k : Specific) → In (o, a) (numbered (knowledge_at p)) → In k a.subordinate → In (key_of k.pin) (map key_of (known_pins r (holdings_at p o)))
  refers_known r a k ia ik =
      let q : In (pointer_of o k) (knowledge_of (world_at p)).subordinate = pointer_in (world_at p) (λ (x : Agent). x.subordinate) o (now_agent (tree_at p) a) k (agent_now a ia) ik in
      elim (s.coherent.subordinate_placed (pointer_of o k) q) [
        | inl c ↦ (own_knows p s r o).referred c.0 (key_of k.pin) c.1 c.2 (pointer_of o k, q, refl, refl) c.3
        | inr h ↦
            let top : a.superior ≡ None = sym (superior_at (world_at p) o (now_agent (tree_at p) a) (agent_now a ia)) ∙ h.1 in
            let one : (length k.pin == 1) ≡ true = (nat_same_decides (length k.pin) 1).1 (sym (key_length k.pin) ∙ h.0) in
            let there_is : In k (rooted a.superior a) = subst (λ (x : Option ℕ). In k (rooted x a)) (sym top) (in_filter (λ (x : Specific). length x.pin == 1) k a.subordinate ik one) in
            root_known r k (subst (λ (x : Holdings). In k x.root) (sym (held_by a ia)) there_is)
      ]

  module _ (m : Chained) (looked : IsLooked m) (going : is_done m.progress ≡ false) where
    abbrev name : Key
    name = key_of m.target

    abbrev known : List Key
    known = map key_of (known_pins m.request (holdings_at p o))

    same_target : key_of (target_of m.request.body) ≡ key_of m.target
    same_target = (key_decides (key_of (target_of m.request.body)) (key_of m.target)).0 (both_true (same_name (target_of m.request.body) m.target) _ looked.1).0

    abbrev pub Told : List ℕ → Name → Type 0
    Told agents n = (told (λ key. false) (tree_at p) m ≡ Refuses (NoSuchObject n)) × Ends p o m agents n

    absent : (x : Option Named) → lowest (tree_at p).entries (key_of m.target) ≡ x → 0 < length (key_of m.target) → ((e : Named) → x ≡ Some e → key_at e ≡ key_of m.target → ⊥)
        → told (λ key. false) (tree_at p) m ≡ Refuses (NoSuchObject (in_option [] (λ e. e.name) x))
    absent x low full other =
        told_absent (λ key. false) (tree_at p) m going looked.0 same_target full (absent_of (tree_at p).entries (key_of m.target) x low full other)
        ∙ ap (λ (y : Option Named). Refuses (NoSuchObject (in_option [] (λ (e : Named). e.name) y))) low

    -- ---- no pin on the way is known
    none_known : (a : Agent) → In (o, a) (numbered (knowledge_at p)) → longest known name ≡ None → (holdings_at p o).superior ≡ None → is_root (key_of m.target) ≡ false → Told [] []
    none_known a ia unknown top filled =
        let free : IsLongest known name None = subst (λ (x : Option Key). IsLongest known name x) unknown (longest_right known name) in
        let highest : a.superior ≡ None = ap (λ (h : Holdings). h.superior) (sym (held_by a ia)) ∙ top in
        let knows : KnowsNone (world_at p) o (now_agent (tree_at p) a) name = record {
          agent = agent_now a ia;
          no_master = λ d i mine on. free (pin_of d) (own_known m.request d i mine) on;
          no_reference = λ k r on. free k (subst (λ (x : Key). In x known) r.2 (refers_known m.request a r.0 ia r.1)) on;
        } in
        let low : NoLower (world_at p) name 0 = nothing_there (world_at p) (stands_good p s) o (now_agent (tree_at p) a) name highest knows in
        let none : lowest (tree_at p).entries name ≡ None = subst (λ (es : List Named). lowest es name ≡ None) (tree_is_union p s).0 (none_there (world_at p) (stands_good p s) (pins_once (world_at p) s.coherent) name low) in
        let first : first_level_at (knowledge_at p) o ≡ true = ap (λ (x : Option Agent). in_option false is_first_level x) (at_place (knowledge_at p) o a ia) ∙ ap (λ (x : Option ℕ). is_none x) highest in
        (absent None none (long (key_of m.target) filled) (λ e z. cc), at_none first none)
      where
        long : (k : Key) → is_root k ≡ false → 0 < length k
        long [] e = (let f : true ≡ false = e in cc)
        long (x ∷ k) e = omega arith

    -- ---- in a context of its own
    module _ (a : Agent) (c : Mastered) (ia : In (o, a) (numbered (knowledge_at p))) (ic : In c (mastered (knowledge_at p))) (mine : c.master ≡ o) (il : In c.context a.contexts)
        (best : IsLongest (map key_of (known_pins m.request (holdings_at p o))) (key_of m.target) (Some (pin_of c))) (held : held_at (holdings_at p o).own (pin_of c) ≡ Some (own_context (tree_at p) a c.context))
        (e : Named) (low : lowest (part (tree_at p) (pin_of c)) (key_of m.target) ≡ Some e) (other : same_name e.name m.target ≡ false) (agents : List ℕ) (alone : listed o (nssr_at c.context.nssrs (key_of e.name)) ≡ agents)
        (short : (d : Mastered) → In d (mastered (world_at p)) → In d.master agents → IsPrefix (pin_of d) (key_of m.target) → length (pin_of d) ≤ length (key_at e)) where
      abbrev C : Mastered
      C = now_mastered (tree_at p) c

      c_in : In (now_mastered (tree_at p) c) (mastered (world_at p))
      c_in = subst (λ (ms : List Mastered). In (now_mastered (tree_at p) c) ms) (sym (mastered_now (tree_at p) (knowledge_at p))) (in_map (now_mastered (tree_at p)) c (mastered (knowledge_at p)) ic)

      lowest_here : IsLowest (part (tree_at p) (pin_of c)) (key_of m.target) (length (key_of m.target)) (Some e)
      lowest_here = subst (λ (x : Option Named). IsLowest (part (tree_at p) (pin_of c)) (key_of m.target) (length (key_of m.target)) x) low (lowest_right (part (tree_at p) (pin_of c)) (key_of m.target))

      reached : Reached (world_at p) (now_mastered (tree_at p) c) (now_agent (tree_at p) a) (key_of m.target) e
      reached = record {
        mine = c_in;
        agent = subst (λ (n : ℕ). In (n, now_agent (tree_at p) a) (numbered (world_at p))) (sym mine) (agent_now a ia);
        held = in_map (now_context (tree_at p)) c.context a.contexts il;
        own = best.1.0;
        no_master = λ d i same on. best.1.1 (pin_of d) (own_known m.request d i (same ∙ mine)) on;
        no_reference = λ k r on. best.1.1 k (subst (λ (x : Key). In x (map key_of (known_pins m.request (holdings_at p o)))) r.2 (refers_known m.request a r.0 ia r.1)) on;
        there = lowest_here.0;
        on_way = lowest_here.1.0;
        lowest = λ f i on. lowest_here.1.1 f i on (prefix_length (key_at f) (key_of m.target) on);
      }

      longer : NoneLonger (world_at p) (now_mastered (tree_at p) c) (key_of m.target) e
      longer n i at d j inside on = by (nssr_at c.context.nssrs (key_of e.name)) refl
        where
          here_too : same_key (key_of n.at) (key_of e.name) ≡ true
          here_too = (key_decides (key_of n.at) (key_of e.name)).1 at

          by : (x : Option Nssr) → nssr_at c.context.nssrs (key_of e.name) ≡ x → length (pin_of d) ≤ length (key_at e)
          by None q =
              let f : same_key (key_of n.at) (key_of e.name) ≡ false = not_found (λ (y : Nssr). same_key (key_of y.at) (key_of e.name)) n c.context.nssrs q i in
              absurd (let z : true ≡ false = sym here_too ∙ f in cc)
          by (Some k) q =
              let w = of_find (λ (y : Nssr). same_key (key_of y.at) (key_of e.name)) k c.context.nssrs q in
              let same : n ≡ k = ((stands_good p s).context (now_mastered (tree_at p) c) c_in).one_nssr n k i w.0 (at ∙ sym ((key_decides (key_of k.at) (key_of e.name)).0 w.1)) in
              let is : others o k.agents ≡ agents = subst (λ (x : Option Nssr). listed o x ≡ agents) q alone in
              elim (dec_nat d.master o) [
                | inl itself ↦ absurd (s.coherent.nssr_others (area_of (now_mastered (tree_at p) c)) (spot_of n) (area_there (world_at p) (now_mastered (tree_at p) c) c_in) (in_map spot_of n c.context.nssrs i) (subst (λ (x : ℕ). In x n.agents) (itself ∙ sym mine) inside))
                | inr apart ↦
                    let l : In d.master (others o k.agents) = in_filter (λ (b : ℕ). not (b == o)) d.master k.agents (subst (λ (x : Nssr). In d.master x.agents) same inside) ((not_decides (d.master == o) (nat_same_decides d.master o)).1 apart) in
                    short d j (subst (λ (xs : List ℕ). In d.master xs) is l) on
              ]

      in_tree : lowest (tree_at p).entries (key_of m.target) ≡ Some e
      in_tree =
          let no : NoLower (world_at p) (key_of m.target) (length (key_at e)) = lowest_of_all (world_at p) (stands_good p s) (now_mastered (tree_at p) c) (now_agent (tree_at p) a) (key_of m.target) e reached longer in
          subst (λ (es : List Named). lowest es (key_of m.target) ≡ Some e) (tree_is_union p s).0
          (lowest_there (world_at p) (stands_good p s) (pins_once (world_at p) s.coherent) (now_mastered (tree_at p) c) e (key_of m.target) c_in lowest_here.0 lowest_here.1.0 no)

      master_is : master_at p (key_at e) ≡ Some o
      master_is =
          let at : In (own_context (tree_at p) a c.context) (holdings_at p o).own = (of_find (λ (x : Held). same_key (key_of x.prefix) (pin_of c)) (own_context (tree_at p) a c.context) (holdings_at p o).own held).0 in
          holder_is_master p o (own_context (tree_at p) a c.context) (key_at e) s at ((there_decides (part (tree_at p) (pin_of c)) (key_at e)).1 (in_map key_at e (part (tree_at p) (pin_of c)) lowest_here.0))

      pin_is : longest (tree_at p).pins (key_at e) ≡ Some (pin_of c)
      pin_is =
          longest_is (tree_at p).pins (key_at e) (pin_of c)
          (longest_own (knowledge_of (world_at p)) (tree_at p) s.coherent s.tree (area_of (now_mastered (tree_at p) c)) (key_at e) (area_there (world_at p) (now_mastered (tree_at p) c) c_in) (in_map key_at e (part (tree_at p) (pin_of c)) lowest_here.0))

      no_others : (x : Scene) → x.holdings ≡ holdings_at p → nssr_agents p x e ≡ agents
      no_others x same =
          ap (λ (hs : ℕ → Holdings). in_option [] (at_master p hs e) (master_at p (key_of e.name))) same
          ∙ ap (λ (y : Option ℕ). in_option [] (at_master p (holdings_at p) e) y) master_is
          ∙ ap (λ (y : Option Key). in_option [] (in_context e o) (in_option None (held_at (holdings_at p o).own) y)) pin_is
          ∙ ap (λ (y : Option Held). in_option [] (in_context e o) y) held
          ∙ alone

      own_told : Told agents e.name
      own_told =
          let filled : 0 < length (key_at e) = (((stands_good p s).context (now_mastered (tree_at p) c) c_in).kept e lowest_here.0).0 in
          let short : length (key_at e) ≤ length (key_of m.target) = prefix_length (key_at e) (key_of m.target) lowest_here.1.0 in (
            absent (Some e) in_tree (omega arith) (λ f z same. (let is : e ≡ f = some_is e f z in
                let t : same_name e.name m.target ≡ true = (key_decides (key_of e.name) (key_of m.target)).1 (subst (λ (y : Named). key_at y ≡ key_of m.target) (sym is) same) in
                let z : true ≡ false = sym t ∙ other in cc)),
            at_entry e in_tree master_is no_others,
          )
        where
          some_is : (x y : Named) → Some x ≡ Some y → x ≡ y
          some_is x y q = cc

    -- ---- by where it ends
    module _ (a : Agent) (ia : In (o, a) (numbered (knowledge_at p))) (n : Name) where
      -- a context of its own that is found by its pin
      pub own_with : (q : Key) (c : Held) → IsLongest known name (Some q) → held_at (holdings_at p o).own q ≡ Some c → (e : Named) → lowest c.entries name ≡ Some e → same_name e.name m.target ≡ false → (agents : List ℕ)
          → listed o (nssr_at c.nssrs (key_of e.name)) ≡ agents → ((d : Mastered) → In d (mastered (world_at p)) → In d.master agents → IsPrefix (pin_of d) (key_of m.target) → length (pin_of d) ≤ length (key_at e)) → Told agents e.name
      own_with q c best found e low other agents alone short =
          let f = of_find (λ (x : Held). same_key (key_of x.prefix) q) c (holdings_at p o).own found in
          let w = of_held p s o c f.0 in
          let at : pin_of w.1 ≡ q = ap (λ (x : Held). key_of x.prefix) (sym w.6) ∙ (key_decides (key_of c.prefix) q).0 f.1 in
          own_told w.0 w.1 w.2 w.3 w.4 w.5
          (subst (λ (x : Key). IsLongest known name (Some x)) (sym at) best)
          (subst (λ (x : Key). held_at (holdings_at p o).own x ≡ Some (own_context (tree_at p) w.0 w.1.context)) (sym at) (found ∙ ap (λ (x : Held). Some x) w.6)) e
          (subst (λ (x : Held). lowest x.entries name ≡ Some e) w.6 low) other agents
          (subst (λ (x : Held). listed o (nssr_at x.nssrs (key_of e.name)) ≡ agents) w.6 alone) short

      -- its prefix is an entry on the way
      pub own_lowest : (q : Key) (c : Held) → IsLongest known name (Some q) → held_at (holdings_at p o).own q ≡ Some c → lowest c.entries name ≡ None → ⊥
      own_lowest q c best found low =
          let f = of_find (λ (x : Held). same_key (key_of x.prefix) q) c (holdings_at p o).own found in
          let w = of_held p s o c f.0 in
          let at : pin_of w.1 ≡ q = ap (λ (x : Held). key_of x.prefix) (sym w.6) ∙ (key_decides (key_of c.prefix) q).0 f.1 in
          let i : In (now_mastered (tree_at p) w.1) (mastered (world_at p)) = subst (λ (ms : List Mastered). In (now_mastered (tree_at p) w.1) ms) (sym (mastered_now (tree_at p) (knowledge_at p))) (in_map (now_mastered (tree_at p)) w.1 (mastered (knowledge_at p)) w.3) in
          let good = (stands_good p s).context (now_mastered (tree_at p) w.1) i in
          let h = good.prefix_there in
          let gone : lowest (part (tree_at p) (pin_of w.1)) name ≡ None = subst (λ (x : Held). lowest x.entries name ≡ None) w.6 low in
          let none : IsLowest (part (tree_at p) (pin_of w.1)) name (length name) None = subst (λ (x : Option Named). IsLowest (part (tree_at p) (pin_of w.1)) name (length name) x) gone (lowest_right (part (tree_at p) (pin_of w.1)) name) in
          let on : IsPrefix (key_at h.0) name = subst (λ (x : Key). IsPrefix x name) (sym (h.2 ∙ at)) best.1.0 in
          none h.0 h.1 on (good.kept h.0 h.1).0 (prefix_length (key_at h.0) name on)

      -- no other agent stands in an NSSR there
      alone_there : (c : Held) (e : Named) → lowest c.entries name ≡ Some e → same_name e.name m.target ≡ false → multicast_needs (holdings_at p o) m c ≡ [] → listed o (nssr_at c.nssrs (key_of e.name)) ≡ []
      alone_there c e low other nobody = by (nssr_at c.nssrs (key_of e.name)) refl
        where
          by : (x : Option Nssr) → nssr_at c.nssrs (key_of e.name) ≡ x → listed o x ≡ []
          by None q = refl
          by (Some k) q =
              let w : when (not (same_name e.name m.target) && not (is_empty (others (holdings_at p o).me k.agents))) _ ≡ [] = rw (low, q) at nobody in
              let off : (not (same_name e.name m.target) && not (is_empty (others (holdings_at p o).me k.agents))) ≡ false = when_empty _ _ w in
              let empty : is_empty (others (holdings_at p o).me k.agents) ≡ true = not_false (is_empty (others (holdings_at p o).me k.agents)) (subst (λ (b : Bool). (not b && not (is_empty (others (holdings_at p o).me k.agents))) ≡ false) other off) in
              subst (λ (x : ℕ). others x k.agents ≡ []) (me_is p o) (none_left (others (holdings_at p o).me k.agents) empty)

      own_by : (q : Key) (c : Held) → IsLongest known name (Some q) → held_at (holdings_at p o).own q ≡ Some c → in_own (holdings_at p o) m c ≡ Nowhere n → Told [] n
      own_by q c best found ends = by (lowest c.entries name) refl
        where
          name_is : (x y : Name) → Nowhere x ≡ Nowhere y → x ≡ y
          name_is x y z = cc

          at : (e : Named) → lowest c.entries name ≡ Some e → (t : Bool) → same_name e.name m.target ≡ t → Told [] n
          at e low true t = (let f : Here c ≡ Nowhere n = rw (low, t) at ends in cc)
          at e low false t =
              let f : by_first (multicast_needs (holdings_at p o) m c) (Nowhere e.name) ≡ Nowhere n = rw (low, t) at ends in
              let g = nowhere_first (multicast_needs (holdings_at p o) m c) (Nowhere e.name) n f in
              subst (λ (x : Name). Told [] x) (name_is e.name n g.1) (own_with q c best found e low t [] (alone_there c e low t g.0) (λ d i j on. elim j [ ]))

          by : (x : Option Named) → lowest c.entries name ≡ x → Told [] n
          by None low = absurd (own_lowest q c best found low)
          by (Some e) low = at e low (same_name e.name m.target) refl

      copy_never : (c : Copy) → in_copy (holdings_at p o) m c ≡ Nowhere n → ⊥
      copy_never c e = by (copy_answers (holdings_at p o) m c) refl
        where
          by : (b : Bool) → copy_answers (holdings_at p o) m c ≡ b → ⊥
          by true q = (let f : CopyHere c ≡ Nowhere n = rw q at e in cc)
          by false q = (let f : by_first (supplier_needs (holdings_at p o) m c) Stuck ≡ Nowhere n = subst (λ (b : Bool). cond b (CopyHere c) (by_first (supplier_needs (holdings_at p o) m c) Stuck) ≡ Nowhere n) q e in
              let g = nowhere_first (supplier_needs (holdings_at p o) m c) Stuck n f in
              let h : Stuck ≡ Nowhere n = g.1 in cc)

      pin_told : (x : Option Key) → longest known name ≡ x → at_pin (holdings_at p o) m x ≡ Nowhere n → Told [] n
      pin_told None q e = by (holdings_at p o).superior refl
        where
          root : (b : Bool) → is_root (key_of m.target) ≡ b → cond b Root (Nowhere []) ≡ Nowhere n → (holdings_at p o).superior ≡ None → Told [] n
          root true z f t = (let g : Root ≡ Nowhere n = f in cc)
          root false z f t = (let g : [] ≡ n = cc in subst (λ (x : Name). Told [] x) g (none_known a ia q t z))

          by : (x : Option ℕ) → (holdings_at p o).superior ≡ x → Told [] n
          by None t =
              let f = nowhere_first (superior_needs (holdings_at p o) m) (cond (is_root (key_of m.target)) Root (Nowhere [])) n e in
              root (is_root (key_of m.target)) refl f.1 t
          by (Some x) t = (let f : Onward _ ≡ Nowhere n = rw t at e in cc)
      pin_told (Some q) k e = by (held_at (holdings_at p o).own q) refl
        where
          best : IsLongest known name (Some q)
          best = subst (λ (x : Option Key). IsLongest known name x) k (longest_right known name)

          by_copy : held_at (holdings_at p o).own q ≡ None → (x : Option Copy) → copy_at (holdings_at p o) q ≡ x → Told [] n
          by_copy z None t =
              let f : by_first (specific_needs (holdings_at p o) m q) Stuck ≡ Nowhere n = rw (z, t) at e in
              let g = nowhere_first (specific_needs (holdings_at p o) m q) Stuck n f in
              let h : Stuck ≡ Nowhere n = g.1 in cc
          by_copy z (Some c) t = (let f : in_copy (holdings_at p o) m c ≡ Nowhere n = rw (z, t) at e in absurd (copy_never c f))

          by : (x : Option Held) → held_at (holdings_at p o).own q ≡ x → Told [] n
          by None t = by_copy t (copy_at (holdings_at p o) q) refl
          by (Some c) t = (let f : in_own (holdings_at p o) m c ≡ Nowhere n = rw t at e in own_by q c best t f)

-- ---- what came completed is never nowhere
completed_never : (h : Holdings) (m : Chained) (n : Name) → completed h m ≡ Nowhere n → ⊥
completed_never h m n e = by (held_at h.own (key_of m.target)) refl
  where
    by_copy : (x : Option Copy) → completed_copy h m x ≡ Nowhere n → ⊥
    by_copy None f = (let g : Stuck ≡ Nowhere n = f in cc)
    by_copy (Some c) f =
        let g = nowhere_first _ (CopyHere c) n f in
        let k : CopyHere c ≡ Nowhere n = g.1 in cc

    by : (x : Option Held) → held_at h.own (key_of m.target) ≡ x → ⊥
    by None q = by_copy (copy_at h (key_of m.target)) (subst (λ (x : Option Held). completed_own h m x ≡ Nowhere n) q e)
    by (Some c) q = (let f : Here c ≡ Nowhere n = subst (λ (x : Option Held). completed_own h m x ≡ Nowhere n) q e in cc)

pub nowhere_resolved : (h : Holdings) (m : Chained) (n : Name) → find h m ≡ Nowhere n → (is_done m.progress ≡ false) × (resolved h m ≡ Nowhere n)
nowhere_resolved h m n e = by m.progress refl
  where
    next : (k : ℕ) → m.progress ≡ Next k → (b : Bool) → holds_within h (key_of m.target) k ≡ b → (is_done m.progress ≡ false) × (resolved h m ≡ Nowhere n)
    next k q true w = (rw q refl, rw (q, w) at e)
    next k q false w = (let f : Stuck ≡ Nowhere n = rw (q, w) at e in cc)

    done : m.progress ≡ Done → (b : Bool) → is_wide m.kind ≡ b → ⊥
    done q true w = (let f : Below ≡ Nowhere n = rw (q, w) at e in cc)
    done q false w = completed_never h m n (subst (λ b. cond b Below (completed h m) ≡ Nowhere n) w (subst (λ x. found_by h m x ≡ Nowhere n) q e))

    by : (x : Progress) → m.progress ≡ x → (is_done m.progress ≡ false) × (resolved h m ≡ Nowhere n)
    by Start q = (rw q refl, rw q at e)
    by (Next k) q = next k q (holds_within h (key_of m.target) k) refl
    by Done q = absurd (done q (is_wide m.kind) refl)

pub nowhere_is_told : NowhereIsTold
nowhere_is_told p o m n s agent looked e =
    let f = nowhere_resolved (holdings_at p o) m n e in
    pin_told p s o m looked f.0 agent.0 (of_place (knowledge_at p) o agent.0 agent.1) n (longest (map key_of (known_pins m.request (holdings_at p o))) (key_of m.target)) refl f.1

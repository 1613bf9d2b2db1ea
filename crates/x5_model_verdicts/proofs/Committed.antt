-- What the agents hold at the line after an accepted update: context by context, since lists in order with the same
-- members are equal; copies are as they were.
use Rattle.std.proofs.Common.{◌≡◌, ◌≢◌, ℕ, suc, ◌-◌, ◌≤◌, ◌==◌, Bool, true, false, not, inl, inr, List, [], ◌∷◌, ◌++◌, map, length, drop, refl, sym, ap, subst, ◌∙◌, arith, Option, Some, None, Ok, Err, if◌then◌else◌}
use Rattle.std.specs.List.{filter}
use Rattle.std.proofs.lemmas.List.{append-nil}
use Rattle.x5_model.specs.Words.{has, in_option, ascending}
use Rattle.x5_model.specs.Members.{In, here, there}
use Rattle.x5_model.specs.Keys.{Key, parent, same_key}
use Rattle.x5_model.specs.Values.{key_of}
use Rattle.x5_model.specs.Entries.{Named}
use Rattle.x5_model.specs.Requests.{Request}
use Rattle.x5_model.specs.References.{Chained}
use Rattle.x5_model.proofs.KeyLaws.{key_decides}
use Rattle.x5_model.proofs.Lists.{true_or_false, in_first, in_map, of_map, in_flat, of_filter}
use Rattle.x5_model.proofs.Decide.{nat_same_decides}
use Rattle.x5_model.proofs.Ascending.{filter_ascending, sorted_itself}
use Rattle.x5_model_tree.specs.World.{Specific, Context, Agent, Agreement, World}
use Rattle.x5_model_tree.specs.Tree.{Tree, key_at, keys_of, named_below, sorted_entries, is_there, belongs, part}
use Rattle.x5_model_tree.specs.Masters.{Mastered, pin_of, numbered, mastered, agent_at, held_contexts}
use Rattle.x5_model_tree.specs.Good.{Good}
use Rattle.x5_model_tree.specs.Apply.{UpdatedEntries, Applied, ground_of, apply_over, apply, is_taken}
use Rattle.x5_model_tree.proofs.Gives.{consistent_is_good}
use Rattle.x5_model_tree.proofs.Order.{named_chain, named_never}
use Rattle.x5_model_tree.proofs.Longest.{IsLongest, longest_is, belongs_decides}
use Rattle.x5_model_run.specs.Holdings.{Held, Holdings, known_pins, ground_at}
use Rattle.x5_model_run.specs.Needs.{target_of}
use Rattle.x5_model_run.specs.History.{Did, Point, knowledge_at, tree_at, tree_by, tree_of_moment, world_at, own_context, references_below, sent_references, mastered_at, copy_as_of, copy_by, as_of, first_agreements, agreements_of, agent_holdings, no_holdings, holdings_at}
use Rattle.x5_model_theory.specs.Knowledge.{Knowledge, Pointer, IsMastered}
use Rattle.x5_model_theory.specs.Coherent.{Coherent}
use Rattle.x5_model_theory.specs.Described.{area_of, pointer_of, knowledge_of}
use Rattle.x5_model_theory.specs.Changing.{holding, with_entries}
use Rattle.x5_model_theory.proofs.Places.{at_agent, pointer_in}
use Rattle.x5_model_theory.proofs.Views.{at_place}
use Rattle.x5_model_theory.proofs.Cohering.{map_map}
use Rattle.x5_model_theory.proofs.Holding.{of_place}
use Rattle.x5_model_updates.specs.Standing.{IsTreeOf, StandsWhole}
use Rattle.x5_model_updates.specs.Keeping.{keys_in}
use Rattle.x5_model_updates.specs.Afterwards.{only_part}
use Rattle.x5_model_updates.specs.Judging.{IsJudge}
use Rattle.x5_model_updates.proofs.Outcomes.{none_or_some, ok_or_err, accepted_over, over_update}
use Rattle.x5_model_updates.proofs.Trees.{pin_there, of_part}
use Rattle.x5_model_updates.proofs.Grounds.{Taken, taken_decides, Knows}
use Rattle.x5_model_updates.proofs.Divided.{one_pin}
use Rattle.x5_model_updates.proofs.After.{entries_after, parts_after}
use Rattle.x5_model_updates.proofs.Keeps.{updates_keep}
use Rattle.x5_model_updates.proofs.Held.{now, in_area, known_own}
use Rattle.x5_model_updates.proofs.Own.{known_there, held_of, own_knows}
use Rattle.x5_model_updates.proofs.Judges.{Seat, seat_of, refuses_alike}
use Rattle.x5_model_verdicts.specs.Committing.{accepting_at, IsStamped, CommittedIsAfter}
use Rattle.x5_model_serve.specs.Committed.{is_counted, holds_target, alone_at, with_outcome, changed_at, committed_if, committed}
use Rattle.x5_model_verdicts.proofs.Alone.{alone, alone_made, map_same, filter_same, filter_all, filter_none, parent_stays}

abbrev or_left : Tree → Applied → Tree
or_left t (Ok u) = u
or_left t (Err x) = t

abbrev ok_entries : List Named → UpdatedEntries
ok_entries es = Ok es

-- ---- copies are as they were

earlier : (d : Did) (past : List Did) (n : ℕ) → n ≤ length past → drop (suc (length past) - n) (d ∷ past) ≡ drop (length past - n) past
earlier d past n h = (let e : suc (length past) - n ≡ suc (length past - n) = omega arith in rw e refl)

of_agreements : (before : List Key) (gs : List Agreement) (g : Agreement) → In g (first_agreements before gs) → In g gs
of_agreements before [] g i = i
of_agreements before (x ∷ gs) g i = by (has same_key before (key_of x.context)) i (of_agreements before gs g) (of_agreements (key_of x.context ∷ before) gs g)
  where
    by : (b : Bool) → In g (if b then first_agreements before gs else (x ∷ first_agreements (key_of x.context ∷ before) gs)) → (In g (first_agreements before gs) → In g gs)
        → (In g (first_agreements (key_of x.context ∷ before) gs) → In g gs) → In g (x ∷ gs)
    by true j f h = there (f j)
    by false j f h = elim (in_first g x (first_agreements (key_of x.context ∷ before) gs) j) [ inl s ↦ subst (λ (y : Agreement). In g (y ∷ gs)) s here | inr l ↦ there (h l) ]

of_contexts : (before : List Key) (cs : List Context) (c : Context) → In c (held_contexts before cs) → In c cs
of_contexts before [] c i = i
of_contexts before (x ∷ cs) c i = by (has same_key before (key_of x.prefix)) i (of_contexts before cs c) (of_contexts (key_of x.prefix ∷ before) cs c)
  where
    by : (b : Bool) → In c (if b then held_contexts before cs else (x ∷ held_contexts (key_of x.prefix ∷ before) cs)) → (In c (held_contexts before cs) → In c cs)
        → (In c (held_contexts (key_of x.prefix ∷ before) cs) → In c cs) → In c (x ∷ cs)
    by true j f h = there (f j)
    by false j f h = elim (in_first c x (held_contexts (key_of x.prefix ∷ before) cs) j) [ inl s ↦ subst (λ (y : Context). In c (y ∷ cs)) s here | inr l ↦ there (h l) ]

abbrev copy_with : World → Agreement → List Named → Held
copy_with w g entries =
    in_option (record { prefix = g.context; entries = entries; subordinate = []; nssrs = [] })
    (λ c. record { prefix = g.context; entries = entries; subordinate = sent_references w c entries; nssrs = c.context.nssrs }) (mastered_at w (key_of g.context))

abbrev held_by : Agent → Context → List Named → Held
held_by a c entries = record { prefix = c.prefix; entries = entries; subordinate = references_below entries a.subordinate; nssrs = c.nssrs }

module _ (p : Point) (o : ℕ) (r : Request) (sent : ℕ) (stamped : IsStamped p) where
  moment_stays : (n : ℕ) → n ≤ length p.past → tree_of_moment (accepting_at p o r sent) n ≡ tree_of_moment p n
  moment_stays n h = ap (tree_by p.described) (earlier _ p.past n h)

  copy_stays : (g : Agreement) → In g (knowledge_at p).agreements → copy_by (accepting_at p o r sent) g ≡ copy_by p g
  copy_stays g i = ap (λ (c : Held). record { held = c; stamp = as_of p g.number; supplier = g.supplier }) (by (as_of p g.number) refl)
    where
      by : (x : Option ℕ) → as_of p g.number ≡ x → copy_as_of (accepting_at p o r sent) g x ≡ copy_as_of p g x
      by None q = refl
      by (Some n) q = ap (λ (t : Tree). copy_with (knowledge_at p) g (part t (key_of g.context))) (moment_stays n (stamped g n i q))

  copies_stay : (a : ℕ) → map (copy_by (accepting_at p o r sent)) (agreements_of (knowledge_at p) a) ≡ map (copy_by p) (agreements_of (knowledge_at p) a)
  copies_stay a =
      map_same (copy_by (accepting_at p o r sent)) (copy_by p) (agreements_of (knowledge_at p) a)
      (λ g i. copy_stays g (of_filter (λ (x : Agreement). x.consumer == a) g (knowledge_at p).agreements (of_agreements [] (filter (λ (x : Agreement). x.consumer == a) (knowledge_at p).agreements) g i)).0)

module _ (p : Point) (o : ℕ) (m : Chained) (j : IsJudge p o m) (u : Tree) (h : apply (tree_at p) m.request ≡ Ok u) where
  abbrev s : StandsWhole p
  s = j.stands

  abbrev K : Knowledge
  K = knowledge_of (world_at p)

  abbrev K2 : Knowledge
  K2 = with_entries (keys_in u) (knowledge_of (world_at p))

  good : Good (knowledge_at p)
  good = consistent_is_good (knowledge_at p) s.described s.consistent

  seat : Seat p o (key_of m.target)
  seat = seat_of p o m j

  abbrev known : List Key
  known = map key_of (known_pins m.request (holdings_at p o))

  long : IsLongest (tree_at p).pins (key_of (target_of m.request.body)) (Some (pin_of seat.seat))
  long = subst (λ (x : Key). IsLongest (tree_at p).pins x (Some (pin_of seat.seat))) j.target seat.long

  parts : (apply_over (ground_of (only_part (tree_at p) (pin_of seat.seat))) m.request.body ≡ Ok (part u (pin_of seat.seat)))
      × ((q : Key) → In q (tree_at p).pins → q ≢ pin_of seat.seat → part u q ≡ part (tree_at p) q)
  parts =
      parts_after (knowledge_of (world_at p)) (tree_at p) u m.request (pin_of seat.seat) s.coherent s.tree j.update h
      (longest_is (tree_at p).pins (key_of (target_of m.request.body)) (pin_of seat.seat) long)

  kept : Coherent (with_entries (keys_in u) (knowledge_of (world_at p))) × IsTreeOf (with_entries (keys_in u) (knowledge_of (world_at p))) u
  kept = updates_keep (knowledge_of (world_at p)) (tree_at p) u m.request s.coherent s.tree h

  after : (ascending named_below u.entries ≡ true) × (u.pins ≡ (tree_at p).pins)
  after = (let w = entries_after (knowledge_of (world_at p)) (tree_at p) u m.request s.coherent s.tree h in (w.0, w.1))

  -- what the judge's ground makes of it
  mine : (es : List Named) × (apply_over (ground_at m.request (holdings_at p o)) m.request.body ≡ Ok es)
  mine =
      elim (ok_or_err (apply_over (ground_at m.request (holdings_at p o)) m.request.body)) [
        | inl w ↦ w
        | inr x ↦ absurd (let f : apply (tree_at p) m.request ≡ Err x.0 = refuses_alike p o m x.0 j x.1 in cc)
      ]

  -- ---- the pins that it knows

  -- what belongs to the target's context belongs there by the known pins
  known_long : (x : Key) → IsLongest (tree_at p).pins x (Some (pin_of seat.seat)) → IsLongest (map key_of (known_pins m.request (holdings_at p o))) x (Some (pin_of seat.seat))
  known_long x l =
      let hold = held_of p s m.request o seat.seat seat.there seat.mine in (
        known_own p s m.request o (own_context (tree_at p) hold.0 seat.seat.context) hold.2,
        (
          l.1.0,
          λ q k y. l.1.1 q
              (let d = known_there p s m.request o q k in subst (λ (z : Key). In z (tree_at p).pins) (sym d.2) (pin_there (knowledge_of (world_at p)) (tree_at p) s.coherent s.tree d.0 d.1)) y,
        ),
      )

  counts : (e : Named) → In e (part (tree_at p) (pin_of seat.seat)) → belongs (map key_of (known_pins m.request (holdings_at p o))) (pin_of seat.seat) (key_at e) ≡ true
  counts e i =
      (belongs_decides (map key_of (known_pins m.request (holdings_at p o))) (pin_of seat.seat) (key_at e)).1
      (known_long (key_at e) (of_part (knowledge_of (world_at p)) (tree_at p) s.coherent s.tree (pin_of seat.seat) e i).1)

  -- ---- the context of the target

  less_taken : (x : Key) → is_taken (alone (ground_at m.request (holdings_at p o)) (tree_at p) (pin_of seat.seat)) x ≡ true → is_taken (ground_at m.request (holdings_at p o)) x ≡ true
  less_taken x t =
      (taken_decides (ground_at m.request (holdings_at p o)) x).1
      (up ((taken_decides (alone (ground_at m.request (holdings_at p o)) (tree_at p) (pin_of seat.seat)) x).0 t))
    where
      up : Taken (alone (ground_at m.request (holdings_at p o)) (tree_at p) (pin_of seat.seat)) x → Taken (ground_at m.request (holdings_at p o)) x
      up (inl i) =
          let e = of_map key_at x (part (tree_at p) (pin_of seat.seat)) i in
          let knows : Knows (knowledge_of (world_at p)) (tree_at p) o (ground_at m.request (holdings_at p o)) = own_knows p s m.request o in
          inl (subst (λ (y : Key). In y (keys_of (ground_at m.request (holdings_at p o)).entries)) (sym e.2) (in_map key_at e.0 (ground_at m.request (holdings_at p o)).entries (knows.in_own (holding (keys_in (tree_at p)) (area_of seat.seat)) e.0 (in_area p s seat.seat seat.there) seat.mine e.1)))
      up (inr i) = inr i

  alone_gives : apply_over (alone (ground_at m.request (holdings_at p o)) (tree_at p) (pin_of seat.seat)) m.request.body ≡ Ok (part u (pin_of seat.seat))
  alone_gives =
      let a = accepted_over (ground_at m.request (holdings_at p o)) m.request.body mine.0 mine.1 in
      let b = accepted_over (ground_of (only_part (tree_at p) (pin_of seat.seat))) m.request.body (part u (pin_of seat.seat)) parts.0 in
      over_update (alone (ground_at m.request (holdings_at p o)) (tree_at p) (pin_of seat.seat)) m.request.body a.0
      ∙ alone_made (ground_at m.request (holdings_at p o)) (tree_at p) (pin_of seat.seat) (part u (pin_of seat.seat)) mine.0 m.request.body j.update less_taken a.1 b.1

  -- ---- references

  refers : (a : ℕ) (ag : Agent) (k : Specific) → In (a, ag) (numbered (knowledge_at p)) → In k ag.subordinate → IsMastered (knowledge_of (world_at p)) k.access.master (key_of k.pin)
  refers a ag k i l =
      s.coherent.subordinate_right (pointer_of a k)
      (subst (λ (ps : List Pointer). In (pointer_of a k) ps) (sym (ap (λ (y : Knowledge). y.subordinate) (now p s))) (pointer_in (knowledge_at p) (λ (y : Agent). y.subordinate) a ag k i l))

  references_stay : (a : ℕ) (ag : Agent) (q : Key) → In (a, ag) (numbered (knowledge_at p)) → references_below (part u q) ag.subordinate ≡ references_below (part (tree_at p) q) ag.subordinate
  references_stay a ag q i =
      filter_same (λ (k : Specific). is_there (part u q) (parent (key_of k.pin))) (λ (k : Specific). is_there (part (tree_at p) q) (parent (key_of k.pin))) ag.subordinate
      (λ k l. (let w = refers a ag k i l in
      parent_stays (knowledge_of (world_at p)) (with_entries (keys_in u) (knowledge_of (world_at p))) (tree_at p) u s.coherent s.tree kept.0 kept.1 after.1 k.access.master k.access.master (key_of k.pin) q w
      (holding (keys_in u) w.0, in_map (holding (keys_in u)) w.0 (knowledge_of (world_at p)).areas w.1, w.2, w.3)))

  -- ---- contexts

  placed : (a : ℕ) (ag : Agent) (c : Context) → In (a, ag) (numbered (knowledge_at p)) → In c ag.contexts → In (at_agent a c) (mastered (knowledge_at p))
  placed a ag c i l = in_flat (λ (b : ℕ × Agent). map (at_agent b.0) b.1.contexts) (at_agent a c) (a, ag) (numbered (knowledge_at p)) i (in_map (at_agent a) c ag.contexts l)

  other_stays : (a : ℕ) (ag : Agent) (c : Context) → In (a, ag) (numbered (knowledge_at p)) → In c ag.contexts → key_of c.prefix ≢ pin_of seat.seat → own_context u ag c ≡ own_context (tree_at p) ag c
  other_stays a ag c i l o =
      ap (held_by ag c) (parts.1 (key_of c.prefix) (pin_there (knowledge_of (world_at p)) (tree_at p) s.coherent s.tree (holding (keys_in (tree_at p)) (area_of (at_agent a c))) (in_area p s (at_agent a c) (placed a ag c i l))) o)

  -- where the pin is the target's
  outcome_is : (ag : Agent) (c : Context) → In (o, ag) (numbered (knowledge_at p)) → key_of c.prefix ≡ pin_of seat.seat
      → with_outcome m.request (holdings_at p o) (own_context (tree_at p) ag c) (apply_over (alone_at m.request (holdings_at p o) (own_context (tree_at p) ag c)) m.request.body) ≡ own_context u ag c
  outcome_is ag c i e =
      ap (λ (es : List Named). with_outcome m.request (holdings_at p o) (own_context (tree_at p) ag c) (apply_over (record (ground_at m.request (holdings_at p o)) { entries = es }) m.request.body)) all
      ∙ ap (λ (q : Key). with_outcome m.request (holdings_at p o) (own_context (tree_at p) ag c) (apply_over (alone (ground_at m.request (holdings_at p o)) (tree_at p) q) m.request.body)) e
      ∙ ap (with_outcome m.request (holdings_at p o) (own_context (tree_at p) ag c)) alone_gives
      ∙ (λ n. record { prefix = c.prefix; entries = entries_are n; subordinate = sym (references_stay o ag (key_of c.prefix) i) n; nssrs = c.nssrs })
    where
      counted : (x : Named) → In x (part (tree_at p) (key_of c.prefix)) → is_counted m.request (holdings_at p o) (own_context (tree_at p) ag c) x ≡ true
      counted x k =
          subst (λ (q : Key). belongs (map key_of (known_pins m.request (holdings_at p o))) q (key_at x) ≡ true) (sym e) (counts x (subst (λ (q : Key). In x (part (tree_at p) q)) e k))

      all : filter (is_counted m.request (holdings_at p o) (own_context (tree_at p) ag c)) (part (tree_at p) (key_of c.prefix)) ≡ part (tree_at p) (key_of c.prefix)
      all = filter_all (is_counted m.request (holdings_at p o) (own_context (tree_at p) ag c)) (part (tree_at p) (key_of c.prefix)) counted

      none : filter (λ (x : Named). not (is_counted m.request (holdings_at p o) (own_context (tree_at p) ag c) x)) (part (tree_at p) (key_of c.prefix)) ≡ []
      none = filter_none (is_counted m.request (holdings_at p o) (own_context (tree_at p) ag c)) (part (tree_at p) (key_of c.prefix)) counted

      entries_are : sorted_entries (part u (pin_of seat.seat) ++ filter (λ (x : Named). not (is_counted m.request (holdings_at p o) (own_context (tree_at p) ag c) x)) (part (tree_at p) (key_of c.prefix))) ≡ part u (key_of c.prefix)
      entries_are =
          ap (λ (es : List Named). sorted_entries (part u (pin_of seat.seat) ++ es)) none
          ∙ ap sorted_entries (append-nil (part u (pin_of seat.seat)))
          ∙ sorted_itself named_below named_chain named_never (part u (pin_of seat.seat)) (filter_ascending named_below named_chain (λ (x : Named). belongs u.pins (pin_of seat.seat) (key_at x)) u.entries after.0)
          ∙ ap (λ (q : Key). part u q) (sym e)

  target_held : (ag : Agent) (c : Context) → key_of c.prefix ≡ pin_of seat.seat → holds_target m.request (holdings_at p o) (own_context (tree_at p) ag c) ≡ true
  target_held ag c e =
      (belongs_decides (map key_of (known_pins m.request (holdings_at p o))) (key_of c.prefix) (key_of (target_of m.request.body))).1
      (subst (λ (q : Key). IsLongest (map key_of (known_pins m.request (holdings_at p o))) (key_of (target_of m.request.body)) (Some q)) (sym e) (known_long (key_of (target_of m.request.body)) long))

  target_other : (ag : Agent) (c : Context) → key_of c.prefix ≢ pin_of seat.seat → holds_target m.request (holdings_at p o) (own_context (tree_at p) ag c) ≡ false
  target_other ag c n =
      elim (true_or_false (holds_target m.request (holdings_at p o) (own_context (tree_at p) ag c))) [
        | inr f ↦ f
        | inl t ↦ absurd (n (one_pin (map key_of (known_pins m.request (holdings_at p o))) (key_of (target_of m.request.body)) (key_of c.prefix) (pin_of seat.seat)
            ((belongs_decides (map key_of (known_pins m.request (holdings_at p o))) (key_of c.prefix) (key_of (target_of m.request.body))).0 t) (known_long (key_of (target_of m.request.body)) long)))
      ]

  changed_is : (ag : Agent) (c : Context) → In (o, ag) (numbered (knowledge_at p)) → In c ag.contexts → own_context u ag c ≡ changed_at m.request (holdings_at p o) (own_context (tree_at p) ag c)
  changed_is ag c i l =
      elim (true_or_false (same_key (key_of c.prefix) (pin_of seat.seat))) [
        | inl t ↦
            let e : key_of c.prefix ≡ pin_of seat.seat = (key_decides (key_of c.prefix) (pin_of seat.seat)).0 t in
            sym (outcome_is ag c i e) ∙ sym (ap (choose ag c) (target_held ag c e))
        | inr f ↦
            let n : key_of c.prefix ≢ pin_of seat.seat = (λ e. let t : same_key (key_of c.prefix) (pin_of seat.seat) ≡ true = (key_decides (key_of c.prefix) (pin_of seat.seat)).1 e in cc) in
            other_stays o ag c i l n ∙ sym (ap (choose ag c) (target_other ag c n))
      ]
    where
      choose : Agent → Context → Bool → Held
      choose ag c b =
          if b then with_outcome m.request (holdings_at p o) (own_context (tree_at p) ag c) (apply_over (alone_at m.request (holdings_at p o) (own_context (tree_at p) ag c)) m.request.body)
          else own_context (tree_at p) ag c

  -- ---- agents

  module _ (sent : ℕ) (stamped : IsStamped p) where
    abbrev next : Point
    next = accepting_at p o m.request sent

    tree_is : tree_at (accepting_at p o m.request sent) ≡ u
    tree_is = ap (or_left (tree_at p)) h

    -- an agent holds what it held, with these own contexts
    holds_next : (a : ℕ) (ag : Agent) (own : List Held) → map (own_context u ag) (held_contexts [] ag.contexts) ≡ own
        → agent_holdings (accepting_at p o m.request sent) a ag ≡ record (agent_holdings p a ag) { own = own }
    holds_next a ag own e = λ n. record {
      me = a;
      superior = ag.superior;
      own = (ap (λ (t : Tree). map (own_context t ag) (held_contexts [] ag.contexts)) tree_is ∙ e) n;
      copies = copies_stay p o m.request sent stamped a n;
      root = (agent_holdings p a ag).root;
      cross = ag.cross;
    }

    of_agent : (a : ℕ) (ag : Agent) → agent_at (knowledge_at p) a ≡ Some ag → holdings_at p a ≡ agent_holdings p a ag
    of_agent a ag q = ap (λ (x : Option Agent). in_option (no_holdings a) (agent_holdings p a) x) q

    next_of_agent : (a : ℕ) (ag : Agent) → agent_at (knowledge_at p) a ≡ Some ag → holdings_at (accepting_at p o m.request sent) a ≡ agent_holdings (accepting_at p o m.request sent) a ag
    next_of_agent a ag q = ap (λ (x : Option Agent). in_option (no_holdings a) (agent_holdings (accepting_at p o m.request sent) a) x) q

    others_keep : (a : ℕ) → (a ≡ o → ⊥) → holdings_at (accepting_at p o m.request sent) a ≡ holdings_at p a
    others_keep a apart =
        elim (none_or_some (agent_at (knowledge_at p) a)) [
          | inl q ↦ ap (λ (x : Option Agent). in_option (no_holdings a) (agent_holdings (accepting_at p o m.request sent) a) x) q ∙ sym (ap (λ (x : Option Agent). in_option (no_holdings a) (agent_holdings p a) x) q)
          | inr x ↦
              let i : In (a, x.0) (numbered (knowledge_at p)) = of_place (knowledge_at p) a x.0 x.1 in
              next_of_agent a x.0 x.1
              ∙ holds_next a x.0 (agent_holdings p a x.0).own
              (map_same (own_context u x.0) (own_context (tree_at p) x.0) (held_contexts [] x.0.contexts)
              (λ c k. (let l = of_contexts [] x.0.contexts c k in
              other_stays a x.0 c i l (λ e. apart (ap (λ (y : Mastered). y.master) (good.one_context (at_agent a c) seat.seat (placed a x.0 c i l) seat.there e) ∙ seat.mine)))))
              ∙ sym (of_agent a x.0 x.1)
        ]

    judge_changes : holdings_at (accepting_at p o m.request sent) o ≡ committed m.request (holdings_at p o)
    judge_changes =
        let hold = held_of p s m.request o seat.seat seat.there seat.mine in
        let q : agent_at (knowledge_at p) o ≡ Some hold.0 = at_place (knowledge_at p) o hold.0 (subst (λ (n : ℕ). In (n, hold.0) (numbered (knowledge_at p))) seat.mine hold.1) in
        let i : In (o, hold.0) (numbered (knowledge_at p)) = subst (λ (n : ℕ). In (n, hold.0) (numbered (knowledge_at p))) seat.mine hold.1 in
        next_of_agent o hold.0 q
        ∙ holds_next o hold.0 (map (changed_at m.request (holdings_at p o)) (agent_holdings p o hold.0).own)
        (map_same (own_context u hold.0) (λ (c : Context). changed_at m.request (holdings_at p o) (own_context (tree_at p) hold.0 c)) (held_contexts [] hold.0.contexts)
        (λ c k. changed_is hold.0 c i (of_contexts [] hold.0.contexts c k))
        ∙ sym (map_map (own_context (tree_at p) hold.0) (changed_at m.request (holdings_at p o)) (held_contexts [] hold.0.contexts)))
        ∙ ap (λ (x : Holdings). record x { own = map (changed_at m.request (holdings_at p o)) x.own }) (sym (of_agent o hold.0 q))
        ∙ sym (ap (committed_if m.request (holdings_at p o)) mine.1)

pub committed_is_after : CommittedIsAfter
committed_is_after p o a m u sent j stamped h =
    elim (true_or_false (a == o)) [
      | inl t ↦
          let e : a ≡ o = (nat_same_decides a o).0 t in
          subst (λ (x : ℕ). holdings_at (accepting_at p o m.request sent) x ≡ committed m.request (holdings_at p x)) (sym e) (judge_changes p o m j u h sent stamped) ∙ sym (ap choose t)
      | inr f ↦
          let n : a ≡ o → ⊥ = (λ e. let t : (a == o) ≡ true = (nat_same_decides a o).1 e in cc) in
          others_keep p o m j u h sent stamped a n ∙ sym (ap choose f)
    ]
  where
    choose : Bool → Holdings
    choose b = if b then committed m.request (holdings_at p a) else holdings_at p a

-- The master concludes rightly from what it has itself, and from its probes.
use Rattle.std.proofs.Common.{◌≡◌, ℕ, ◌≤◌, Bool, true, false, not, ◌&&◌, ◌==◌, nat_le, inl, inr, List, [], ◌∷◌, map, length, refl, sym, ap, subst, ◌∙◌, arith, Option, Some, None, Ok, Err}
use Rattle.std.specs.Result.{is_err}
use Rattle.std.proofs.lemmas.Bool.Decides.{leb_tells}
use Rattle.x5_model.specs.Words.{is_empty, in_option}
use Rattle.x5_model.specs.Members.{In, here}
use Rattle.x5_model.specs.Keys.{Key, IsPrefix, parent, same_key, is_prefix}
use Rattle.x5_model.specs.Values.{Name, key_of}
use Rattle.x5_model.specs.Entries.{Named}
use Rattle.x5_model.specs.References.{Reference, NonSpecific, Chained}
use Rattle.x5_model.specs.Answers.{DirError, UpdateProblem}
use Rattle.x5_model.specs.Problems.{entry_already_exists}
use Rattle.x5_model.proofs.KeyLaws.{key_decides}
use Rattle.x5_model.proofs.Lists.{true_or_false, any_in, and_true, in_left, in_map, of_map, in_filter, of_find, not_found}
use Rattle.x5_model.proofs.Prefixes.{prefix_decides, prefix_itself}
use Rattle.x5_model.proofs.Decide.{not_decides, nat_same_decides}
use Rattle.x5_model_tree.specs.World.{Nssr, Agent}
use Rattle.x5_model_tree.specs.Tree.{Tree, key_at, keys_of, is_there, entry_at, longest, part}
use Rattle.x5_model_tree.specs.Masters.{Mastered, pin_of, numbered, mastered, master_of, masters, holds}
use Rattle.x5_model_tree.specs.Good.{Good}
use Rattle.x5_model_tree.specs.Apply.{UpdatedEntries, ground_of, apply, is_taken}
use Rattle.x5_model_tree.proofs.Longest.{IsLongest, longest_right, longest_is}
use Rattle.x5_model_tree.proofs.Gives.{consistent_is_good}
use Rattle.x5_model_run.specs.Holdings.{Held, Copy, Holdings, known_pins, known_pin, held_at, ground_at, holds_within, prefixes}
use Rattle.x5_model_run.specs.Needs.{target_of, others, proceeding, nssr_at, new_name, is_refused_here}
use Rattle.x5_model_run.specs.History.{Point, knowledge_at, tree_at, world_at, own_context, holdings_at}
use Rattle.x5_model_theory.specs.Knowledge.{Area, Spot, IsMastered}
use Rattle.x5_model_theory.specs.Described.{spot_of, area_of, knowledge_of}
use Rattle.x5_model_theory.specs.Changing.{holding}
use Rattle.x5_model_theory.proofs.Views.{there_decides, masters_decides}
use Rattle.x5_model_theory.proofs.Stages.{key_length}
use Rattle.x5_model_theory.proofs.Holding.{good_at, by_agent, IsHeld, holds_decides}
use Rattle.x5_model_updates.specs.Standing.{StandsWhole}
use Rattle.x5_model_updates.specs.Judging.{IsJudge, judged, probes, RefusesAlike, AcceptsAlone, ProbesNewName, AcceptsProbed, UnableMastersNone, RefusesProbed, AcceptsAbsent, RefusesPresent}
use Rattle.x5_model_updates.specs.Keeping.{keys_in}
use Rattle.x5_model_updates.proofs.Lookups.{entry_found, none_found}
use Rattle.x5_model_updates.proofs.Outcomes.{ok_or_err, none_or_some, over_update, refused_over, accepted_over, tree_refuses, tree_accepts}
use Rattle.x5_model_updates.proofs.Trees.{pin_there, entry_in_area, of_part}
use Rattle.x5_model_updates.proofs.Grounds.{Knows, IsHeldBeside, taken_decides}
use Rattle.x5_model_updates.proofs.Alike.{refused, accepted, exists, target_there}
use Rattle.x5_model_updates.proofs.Held.{in_area, mastered_still, mastered_before, of_held, fed_mastered, known_own, holder_of, own_held}
use Rattle.x5_model_updates.proofs.Own.{known_there, held_of, own_knows}
use Rattle.x5_model_updates.proofs.Mastering.{among}
use Rattle.x5_model_updates.proofs.Probes.{probe_is, probe_due, proceeding_key}

me_is : (p : Point) (o : ℕ) → (holdings_at p o).me ≡ o
me_is p o = by_agent p o (λ h. h.me ≡ o) refl (λ a i. refl)

-- some member makes a list not empty
not_empty : {A : Type 0} (xs : List A) (x : A) → In x xs → not (is_empty xs) ≡ true
not_empty [] x i = elim i [ ]
not_empty (y ∷ ys) x i = refl

abbrev some_held : Held → Option Held
some_held x = Some x

abbrev some_nssr : Nssr → Option Nssr
some_nssr x = Some x

abbrev err_of : UpdatedEntries → Bool
err_of x = is_err x

-- a context of the line's tree, with its pin the longest of the target
pub record Seat (p : Point) (o : ℕ) (n : Key) : Type 0 where
  pub seat : Mastered
  pub there : In seat (mastered (knowledge_at p))
  pub mine : seat.master ≡ o
  pub long : IsLongest (tree_at p).pins n (Some (pin_of seat))

pub seat_of : (p : Point) (o : ℕ) (m : Chained) → IsJudge p o m → Seat p o (key_of m.target)
seat_of p o m j = by (longest (tree_at p).pins (key_of m.target)) (longest_right (tree_at p).pins (key_of m.target)) j.master
  where
    by : (x : Option Key) → IsLongest (tree_at p).pins (key_of m.target) x → in_option None (master_of (knowledge_at p)) x ≡ Some o → Seat p o (key_of m.target)
    by None l e = cc
    by (Some pin) l e = (let q = among (mastered (knowledge_at p)) pin o e in
        record { seat = q.0; there = q.1; mine = q.2; long = subst (λ (x : Key). IsLongest (tree_at p).pins (key_of m.target) (Some x)) (sym q.3) l })

module _ (p : Point) (o : ℕ) (m : Chained) (j : IsJudge p o m) (seat : Seat p o (key_of m.target)) where
  abbrev s : StandsWhole p
  s = j.stands

  abbrev c : Area
  c = holding (keys_in (tree_at p)) (area_of seat.seat)

  c_there : In c (knowledge_of (world_at p)).areas
  c_there = in_area p s seat.seat seat.there

  knows : Knows (knowledge_of (world_at p)) (tree_at p) o (ground_at m.request (holdings_at p o))
  knows = own_knows p s m.request o

  long : IsLongest (tree_at p).pins (key_of (target_of m.request.body)) (Some (pin_of seat.seat))
  long = subst (λ (x : Key). IsLongest (tree_at p).pins x (Some (pin_of seat.seat))) j.target seat.long

  refuses : (x : DirError) → judged p o m ≡ Err x → apply (tree_at p) m.request ≡ Err x
  refuses x h =
      tree_refuses (tree_at p) m.request x (refused_over (ground_at m.request (holdings_at p o)) (ground_of (tree_at p)) m.request.body x
      (refused (knowledge_of (world_at p)) (tree_at p) o (ground_at m.request (holdings_at p o)) s.coherent s.tree knows c c_there seat.mine m.request.body j.update long x) h)

  -- ---- what the master holds of the context

  good : Good (knowledge_at p)
  good = consistent_is_good (knowledge_at p) s.described s.consistent

  held_here : (a : Agent) × In (seat.seat.master, a) (numbered (knowledge_at p)) × In (own_context (tree_at p) a seat.seat.context) (holdings_at p o).own
  held_here = held_of p s m.request o seat.seat seat.there seat.mine

  -- the longest pin that it knows of the target is the context's
  pub known_is : known_pin m.request (holdings_at p o) (key_of m.target) ≡ Some (pin_of seat.seat)
  known_is =
      longest_is (map key_of (known_pins m.request (holdings_at p o))) (key_of m.target) (pin_of seat.seat) (
        known_own p s m.request o (own_context (tree_at p) held_here.0 seat.seat.context) held_here.2,
        (
          seat.long.1.0,
          λ q k u. seat.long.1.1 q
              (let d = known_there p s m.request o q k in subst (λ (x : Key). In x (tree_at p).pins) (sym d.2) (pin_there (knowledge_of (world_at p)) (tree_at p) s.coherent s.tree d.0 d.1)) u,
        ),
      )

  -- it finds the context's part by its pin
  pub held_found : (a : Agent) × (held_at (holdings_at p o).own (pin_of seat.seat) ≡ Some (own_context (tree_at p) a seat.seat.context))
  held_found =
      elim (none_or_some (held_at (holdings_at p o).own (pin_of seat.seat))) [
        | inl none ↦
            let a = held_here in
            let x : same_key (pin_of seat.seat) (pin_of seat.seat) ≡ false = not_found (λ (h : Held). same_key (key_of h.prefix) (pin_of seat.seat)) (own_context (tree_at p) a.0 seat.seat.context) (holdings_at p o).own none a.2 in
            let y : same_key (pin_of seat.seat) (pin_of seat.seat) ≡ true = (key_decides (pin_of seat.seat) (pin_of seat.seat)).1 refl in
            absurd (let f : true ≡ false = sym y ∙ x in cc)
        | inr h ↦
            let f = of_find (λ (h : Held). same_key (key_of h.prefix) (pin_of seat.seat)) h.0 (holdings_at p o).own h.1 in
            let w = of_held p s o h.0 f.0 in
            let pins : pin_of w.1 ≡ pin_of seat.seat = ap (λ (x : Held). key_of x.prefix) (sym w.6) ∙ (key_decides (key_of h.0.prefix) (pin_of seat.seat)).0 f.1 in
            let same : w.1 ≡ seat.seat = good.one_context w.1 seat.seat w.3 seat.there pins in
            (w.0, h.1 ∙ ap some_held (w.6 ∙ ap (λ (x : Mastered). own_context (tree_at p) w.0 x.context) same))
      ]

  -- an agent of the NSSR just above the new name is asked
  asked : (mine : List Named) (name : Name) → judged p o m ≡ Ok mine → new_name m.request.body ≡ Some name → IsHeldBeside (knowledge_of (world_at p)) c (key_of name)
      → (r : Reference) × (a : ℕ) × In r (probes p o m) × In a r.agents × (key_of r.target ≡ key_of name) × IsMastered (knowledge_of (world_at p)) a (key_of name)
  asked mine name h named w =
      let v = accepted_over (ground_at m.request (holdings_at p o)) m.request.body mine h in
      let at = target_there (knowledge_of (world_at p)) (tree_at p) o (ground_at m.request (holdings_at p o)) s.coherent s.tree knows c c_there seat.mine m.request.body name named long mine v.1 in
      let f = held_found in
      let t : is_there (part (tree_at p) (pin_of seat.seat)) (key_of m.target) ≡ true = (there_decides (part (tree_at p) (pin_of seat.seat)) (key_of m.target)).1 (subst (λ (x : Key). In x (keys_of (part (tree_at p) (pin_of seat.seat)))) (sym j.target) at.0) in
      let passed : is_refused_here (holdings_at p o) m.request ≡ false = ap err_of h in
      let spot = of_map spot_of w.0 seat.seat.context.nssrs w.2 in
      let n_at : key_of spot.0.at ≡ parent (key_of name) = ap (λ (x : Spot). x.at) (sym spot.2) ∙ w.3 in
      let listed : In w.1 spot.0.agents = subst (λ (x : Spot). In w.1 x.agents) spot.2 w.4 in
      let other : w.1 ≡ (holdings_at p o).me → ⊥ = (λ e. s.coherent.nssr_others c w.0 c_there w.2 (subst (λ (x : ℕ). In x w.0.agents) (e ∙ me_is p o ∙ sym seat.mine) w.4)) in
      let inside : In w.1 (others (holdings_at p o).me spot.0.agents) = in_filter (λ (a : ℕ). not (a == (holdings_at p o).me)) w.1 spot.0.agents listed ((not_decides (w.1 == (holdings_at p o).me) (nat_same_decides w.1 (holdings_at p o).me)).1 other) in
      elim (none_or_some (entry_at (part (tree_at p) (pin_of seat.seat)) (parent (key_of name)))) [
        | inl none ↦ (let e = of_map key_at (parent (key_of name)) (part (tree_at p) (pin_of seat.seat)) at.1 in absurd (none_found (part (tree_at p) (pin_of seat.seat)) (parent (key_of name)) none e.0 e.1 (sym e.2)))
        | inr e ↦
            let ek : key_at e.0 ≡ parent (key_of name) = (entry_found (part (tree_at p) (pin_of seat.seat)) (parent (key_of name)) e.0 e.1).1 in
            let found = nssr_found spot.0 spot.1 (key_at e.0) (n_at ∙ sym ek) in
            let due = probe_due (holdings_at p o) m name (pin_of seat.seat) (own_context (tree_at p) f.0 seat.seat.context) e.0 spot.0 v.0 named j.resolving known_is f.1 t passed e.1 found (not_empty (others (holdings_at p o).me spot.0.agents) w.1 inside) in (
              proceeding (length name) e.0.name name NonSpecific (others (holdings_at p o).me spot.0.agents),
              w.1,
              subst (λ (x : List Reference). In (proceeding (length name) e.0.name name NonSpecific (others (holdings_at p o).me spot.0.agents)) x) (sym due) here,
              inside,
              proceeding_key name e.0 (others (holdings_at p o).me spot.0.agents) ek,
              w.5,
            )
      ]
    where
      nssr_found : (n : Nssr) → In n seat.seat.context.nssrs → (x : Key) → key_of n.at ≡ x → nssr_at seat.seat.context.nssrs x ≡ Some n
      nssr_found n i x e =
          elim (none_or_some (nssr_at seat.seat.context.nssrs x)) [
            | inl none ↦
                let a : same_key (key_of n.at) x ≡ false = not_found (λ (y : Nssr). same_key (key_of y.at) x) n seat.seat.context.nssrs none i in
                let b : same_key (key_of n.at) x ≡ true = (key_decides (key_of n.at) x).1 e in
                absurd (let f : true ≡ false = sym b ∙ a in cc)
            | inr y ↦
                let f = of_find (λ (y : Nssr). same_key (key_of y.at) x) y.0 seat.seat.context.nssrs y.1 in
                let same : y.0 ≡ n = (good.context seat.seat seat.there).one_nssr y.0 n f.0 i ((key_decides (key_of y.0.at) x).0 f.1 ∙ sym e) in
                y.1 ∙ ap some_nssr same
          ]

  -- what it accepts the tree accepts, where no agent of the NSSR has the new name
  accepts_free : (mine : List Named) → judged p o m ≡ Ok mine → ((name : Name) → new_name m.request.body ≡ Some name → IsHeldBeside (knowledge_of (world_at p)) c (key_of name) → ⊥)
      → (t : Tree) × (apply (tree_at p) m.request ≡ Ok t)
  accepts_free mine h free =
      let v = accepted_over (ground_at m.request (holdings_at p o)) m.request.body mine h in
      let w = accepted (knowledge_of (world_at p)) (tree_at p) o (ground_at m.request (holdings_at p o)) s.coherent s.tree knows c c_there seat.mine m.request.body j.update long mine v.1
      (λ name named up beside. free name named beside) in
      (_, tree_accepts (tree_at p) m.request w.0 (over_update (ground_of (tree_at p)) m.request.body v.0 ∙ w.1))

  accepts : (mine : List Named) → judged p o m ≡ Ok mine → ((r : Reference) (a : ℕ) → In r (probes p o m) → In a r.agents → masters (knowledge_at p) a (key_of r.target) ≡ false)
      → (t : Tree) × (apply (tree_at p) m.request ≡ Ok t)
  accepts mine h free =
      accepts_free mine h
      (λ name named beside.
      let a = asked mine name h named beside in
      let no : masters (knowledge_at p) a.1 (key_of a.0.target) ≡ false = free a.0 a.1 a.2 a.3 in
      let yes : masters (knowledge_at p) a.1 (key_of a.0.target) ≡ true = (masters_decides (knowledge_at p) a.1 (key_of a.0.target)).1 (mastered_before p s a.1 (key_of a.0.target) (subst (λ (x : Key). IsMastered (knowledge_of (world_at p)) a.1 x) (sym a.4) a.5)) in
      (let f : true ≡ false = sym yes ∙ no in cc))

  -- a pin is an entry
  pin_is_there : (x : Key) (a : ℕ) → IsMastered (knowledge_of (world_at p)) a x → is_there (tree_at p).entries x ≡ true
  pin_is_there x a d =
      let e = entry_in_area (knowledge_of (world_at p)) (tree_at p) s.coherent s.tree d.0 d.0.prefix d.1 (s.coherent.headed d.0 d.1) in
      (there_decides (tree_at p).entries x).1 (subst (λ (y : Key). In y (keys_of (tree_at p).entries)) (e.2 ∙ d.3) (in_map key_at e.0 (tree_at p).entries (of_part (knowledge_of (world_at p)) (tree_at p) s.coherent s.tree d.0.prefix e.0 e.1).0))

  accepts_absent_name : (mine : List Named) → judged p o m ≡ Ok mine → ((name : Name) → new_name m.request.body ≡ Some name → is_there (tree_at p).entries (key_of name) ≡ false)
      → (t : Tree) × (apply (tree_at p) m.request ≡ Ok t)
  accepts_absent_name mine h absent =
      accepts_free mine h
      (λ name named beside.
      let yes = pin_is_there (key_of name) beside.1 beside.5 in
      let no = absent name named in
      (let f : true ≡ false = sym yes ∙ no in cc))

  refuses_taken : (mine : List Named) (name : Name) → judged p o m ≡ Ok mine → new_name m.request.body ≡ Some name → is_there (tree_at p).entries (key_of name) ≡ true
      → apply (tree_at p) m.request ≡ Err (UpdateProblem entry_already_exists)
  refuses_taken mine name h named present =
      let v = accepted_over (ground_at m.request (holdings_at p o)) m.request.body mine h in
      let taken : is_taken (ground_of (tree_at p)) (key_of name) ≡ true = (taken_decides (ground_of (tree_at p)) (key_of name)).1 (inl ((there_decides (tree_at p).entries (key_of name)).0 present)) in
      tree_refuses (tree_at p) m.request (UpdateProblem entry_already_exists)
      (over_update (ground_of (tree_at p)) m.request.body v.0
      ∙ exists (knowledge_of (world_at p)) (tree_at p) o (ground_at m.request (holdings_at p o)) s.coherent s.tree knows c c_there seat.mine m.request.body name named long mine v.1 taken)

  refuses_probed : (a : ℕ) (r : Reference) → In r (probes p o m) → In a r.agents → holds (knowledge_at p) a (key_of r.target) ≡ true → apply (tree_at p) m.request ≡ Err (UpdateProblem entry_already_exists)
  refuses_probed a r i l h =
      let x = probe_is (holdings_at p o) m r i in
      elim (ok_or_err (judged p o m)) [
        | inr e ↦ (let f : is_refused_here (holdings_at p o) m.request ≡ true = ap err_of e.1 in let g = x.passed in cc)
        | inl e ↦
            let above = entry_found x.held.entries (parent (key_of x.name)) x.above x.found in
            let key : key_of r.target ≡ key_of x.name = ap (λ (y : Reference). key_of y.target) x.is ∙ proceeding_key x.name x.above (others (holdings_at p o).me x.nssr.agents) above.1 in
            let b = held_somewhere ((holds_decides (knowledge_at p) a (key_of r.target)).0 h) in
            refuses_taken e.0 x.name e.1 x.named
            (subst (λ (y : Key). is_there (tree_at p).entries y ≡ true) key (pin_is_there (key_of r.target) b.0 (mastered_still p s b.0 (key_of r.target) b.1)))
      ]
    where
      held_somewhere : IsHeld (knowledge_at p) a (key_of r.target) → (b : ℕ) × IsMastered (knowledge_of (knowledge_at p)) b (key_of r.target)
      held_somewhere (inl y) = (a, y)
      held_somewhere (inr y) =
          let f = fed_mastered (knowledge_of (knowledge_at p)) y.0.prefix 4 y.0.consumer ((good_at p (record { described = s.described; consistent = s.consistent })).supplied y.0 y.1) in
          (f.0, subst (λ (k : Key). IsMastered (knowledge_of (knowledge_at p)) f.0 k) y.3 f.1)

pub refuses_alike : RefusesAlike
refuses_alike p o m x j h = refuses p o m j (seat_of p o m j) x h

pub accepts_probed : AcceptsProbed
accepts_probed p o m mine j h free = accepts p o m j (seat_of p o m j) mine h free

pub accepts_alone : AcceptsAlone
accepts_alone p o m mine j h none = accepts p o m j (seat_of p o m j) mine h (λ r a i l. elim (subst (λ (xs : List Reference). In r xs) none i) [ ])

pub accepts_absent : AcceptsAbsent
accepts_absent p o m mine j h absent = accepts_absent_name p o m j (seat_of p o m j) mine h absent

pub refuses_present : RefusesPresent
refuses_present p o m mine name j h named present = refuses_taken p o m j (seat_of p o m j) mine name h named present

pub refuses_at_probed : RefusesProbed
refuses_at_probed p o a m r j i l h = refuses_probed p o m j (seat_of p o m j) a r i l h

pub probes_new_name : ProbesNewName
probes_new_name p o m r i =
    let x = probe_is (holdings_at p o) m r i in
    let above = entry_found x.held.entries (parent (key_of x.name)) x.above x.found in
    let key : key_of r.target ≡ key_of x.name = ap (λ (y : Reference). key_of y.target) x.is ∙ proceeding_key x.name x.above (others (holdings_at p o).me x.nssr.agents) above.1 in
    (x.name, x.named, key, sym (key_length r.target) ∙ ap length key ∙ key_length x.name)

pub unable_masters_none : UnableMastersNone
unable_masters_none p a name stands none =
    elim (true_or_false (masters (knowledge_at p) a (key_of name))) [
      | inr f ↦ f
      | inl t ↦
          let c = (masters_decides (knowledge_at p) a (key_of name)).0 t in
          let q = of_map area_of c.0 (mastered (knowledge_at p)) c.1 in
          let h = holder_of p stands q.0 q.1 in
          let place : q.0.master ≡ a = ap (λ (x : Area). x.master) (sym q.2) ∙ c.2 in
          let key : pin_of q.0 ≡ key_of name = ap (λ (x : Area). x.prefix) (sym q.2) ∙ c.3 in
          let own : In (own_context (tree_at p) h.0 q.0.context) (holdings_at p a).own = subst (λ (n : ℕ). In (own_context (tree_at p) h.0 q.0.context) (holdings_at p n).own) place (subst (λ (x : Holdings). In (own_context (tree_at p) h.0 q.0.context) x.own) (sym h.3) (own_held p stands q.0 h.0 q.1 h.1 h.2)) in
          let i : In q.0.context.prefix (prefixes (holdings_at p a)) = in_left q.0.context.prefix (map (λ (x : Held). x.prefix) (holdings_at p a).own) (map (λ (x : Copy). x.held.prefix) (holdings_at p a).copies) (in_map (λ (x : Held). x.prefix) (own_context (tree_at p) h.0 q.0.context) (holdings_at p a).own own) in
          let pre : is_prefix (pin_of q.0) (key_of name) ≡ true = (prefix_decides (pin_of q.0) (key_of name)).1 (subst (λ (x : Key). IsPrefix (pin_of q.0) x) key (prefix_itself (pin_of q.0))) in
          let long : length name ≤ length q.0.context.prefix = (let u = key_length q.0.context.prefix in let v = key_length name in let w : length (pin_of q.0) ≡ length (key_of name) = ap length key in omega arith) in
          let le : nat_le (length name) (length q.0.context.prefix) ≡ true = elim (leb_tells (length name) (length q.0.context.prefix)) [ inl x ↦ x.0 | inr x ↦ absurd (let more = x.1 in omega arith) ] in
          let yes : holds_within (holdings_at p a) (key_of name) (length name) ≡ true = any_in (λ (x : Name). is_prefix (key_of x) (key_of name) && nat_le (length name) (length x)) q.0.context.prefix (prefixes (holdings_at p a)) i (and_true (is_prefix (pin_of q.0) (key_of name)) (nat_le (length name) (length q.0.context.prefix)) pre le) in
          absurd (let f : true ≡ false = sym yes ∙ none in cc)
    ]

-- What a reference of name resolution costs: it has few agents, all of the world; and where it has more than one, it
-- leads to a later level. By the cases of what may be needed.
use Rattle.std.proofs.Common.{◌≡◌, ℕ, ◌+◌, ◌-◌, ◌<◌, ◌≤◌, min, Bool, true, false, not, ◌&&◌, ◌⊎◌, inl, inr, List, [], ◌∷◌, ◌++◌, length, take, drop, map, refl, sym, ap, subst, ◌∙◌, arith, Option, Some, None, if◌then◌else◌}
use Rattle.std.specs.Option.{is_some, is_none}
use Rattle.x5_model.specs.Words.{is_empty, in_option, when}
use Rattle.x5_model.specs.Members.{In}
use Rattle.x5_model.specs.Keys.{Key, IsPrefix, same_key, parent}
use Rattle.x5_model.specs.Values.{Name, key_of}
use Rattle.x5_model.specs.Entries.{Named}
use Rattle.x5_model.specs.References.{Progress, Start, Done, Reference, RefType, Superior, Subordinate, Cross, NonSpecific, Supplier, Chained}
use Rattle.x5_model.proofs.KeyLaws.{key_decides}
use Rattle.x5_model.proofs.Lists.{both_true, not_true, in_first, in_either, in_left, in_map, of_map, of_find, not_found, of_filter}
use Rattle.x5_model.proofs.Prefixes.{prefix_itself, prefix_length, same_by_length, parent_length}
use Rattle.x5_model_tree.specs.World.{Specific, Nssr, Agent, World}
use Rattle.x5_model_tree.specs.Tree.{key_at, lowest}
use Rattle.x5_model_tree.specs.Masters.{pin_of, mastered, numbered}
use Rattle.x5_model_run.specs.Holdings.{Held, Copy, Holdings, usable_agents, held_at, copy_at, served, prefixes, subordinates, known_pins, known_pin, holds_within}
use Rattle.x5_model_run.specs.History.{Point, knowledge_at, no_holdings, holdings_at}
use Rattle.x5_model_run.specs.Journal.{item_of, is_done, is_wide, same_name}
use Rattle.x5_model_run.specs.Needs.{others, reference, proceeding, resolves, superior_needs, nssr_at, multicast_needs, copy_answers, supplier_needs, specific_at, specific_needs, pin_needs, resolution_needs, by_pin, subset_of, copied_needs}
use Rattle.x5_model_theory.specs.Leading.{IsSound, item_for, level_of, PinsWithin}
use Rattle.x5_model_theory.proofs.Stages.{key_length}
use Rattle.x5_model_theory.proofs.Holding.{good_at, by_agent, copy_is, copy_key, IsRightAccess, subordinates_right, crosses_right}
use Rattle.x5_model_theory.proofs.Longest.{longest_some, lowest_is, respelled_key}
use Rattle.x5_model_theory.proofs.Rows.{resolved, within_is, beyond, held_is, own_part}
use Rattle.x5_model_theory.specs.Knowledge.{Area, Supply, IsMastered}
use Rattle.x5_model_theory.specs.Coherent.{IsFed, fed}
use Rattle.x5_model_theory.specs.Described.{area_of, supply_of, knowledge_of}
use Rattle.x5_model_theory.proofs.Stages.{same_progress_is}
use Rattle.x5_model_bounds.specs.Costs.{width}
use Rattle.x5_model_bounds.proofs.Unables.{false_true}
use Rattle.x5_model_bounds.proofs.Agents.{OnceShadowed, nssr_agents, nssr_pin, filter_few, few_there, subordinates_once, crosses_once, usable_few}

pub record Step (p : Point) (o : ℕ) (m : Chained) (r : Reference) : Type 0 where
  pub few : length r.agents + 8 ≤ width (knowledge_at p)
  pub late : (length r.agents ≡ 1) ⊎ ((a : ℕ) → level_of (item_of o m) < level_of (item_for a r))
  pub inside : (a : ℕ) → In a r.agents → level_of (item_of o m) < level_of (item_for a r) → level_of (item_for a r) ≤ min (length r.target) 16
  pub kept : key_of r.target ≡ key_of m.target
  pub pinned : (is_done r.progress && not (is_wide r.kind)) ≡ by_pin m

known_prefix : (req : _) (h : Holdings) (x : Name) → In x (prefixes h) → In (key_of x) (map key_of (known_pins req h))
known_prefix req h x i = in_map key_of x (known_pins req h) (in_left x (prefixes h ++ map (λ (k : Specific). k.pin) (subordinates req h)) (map (λ (k : Specific). k.pin) h.cross) (in_left x (prefixes h) (map (λ (k : Specific). k.pin) (subordinates req h)) i))

only : (a s : ℕ) → In a (s ∷ []) → a ≡ s
only a s i = elim (in_first a s [] i) [ inl x ↦ x | inr y ↦ elim y [ ] ]

one_few : (n : ℕ) → 1 + 8 ≤ n + 9
one_few n = omega arith

module _ (p : Point) (o : ℕ) (m : Chained) (sound : IsSound p) (pins : PinsWithin 16 (knowledge_at p)) where
  abbrev w : World
  w = knowledge_at p

  abbrev h : Holdings
  h = holdings_at p o

  -- a later level than the message's
  later : (k : ℕ) → resolves (holdings_at p o) m ≡ true → 0 < k → ((j : ℕ) → holds_within (holdings_at p o) (key_of m.target) j ≡ true → j < k) → level_of (item_of o m) < k
  later k e some f = resolved (holdings_at p o) m (λ x. level_of (record { agent = o; target = m.target; progress = x; wide = is_wide m.kind }) < k) e some f

  -- the target stays as long
  long : (n : ℕ) (kept : Name) → n ≤ length kept → IsPrefix (key_of kept) (key_of m.target) → length (take n kept ++ drop n m.target) ≡ length m.target
  long n kept le on = sym (key_length (take n kept ++ drop n m.target)) ∙ ap length (respelled_key n kept m.target le on) ∙ key_length m.target

  -- nothing is resolved of a completed name
  not_pinned : resolves (holdings_at p o) m ≡ true → false ≡ by_pin m
  not_pinned e = resolved (holdings_at p o) m (λ x. false ≡ (is_done x && not (is_wide m.kind))) e refl (λ k d. refl)

  -- no pin has more than 16 RDNs
  mastered_short : {a : ℕ} (q : Key) → IsMastered (knowledge_of (knowledge_at p)) a q → length q ≤ 16
  mastered_short q c =
      let x = of_map area_of c.0 (mastered (knowledge_at p)) c.1 in
      pins q (subst (λ (y : Key). In y (map pin_of (mastered (knowledge_at p)))) (ap (λ (y : Area). y.prefix) (sym x.2) ∙ c.3) (in_map pin_of x.0 (mastered (knowledge_at p)) x.1))

  pin_short : (d : Area) → In d (knowledge_of (knowledge_at p)).areas → length d.prefix ≤ 16
  pin_short d i = mastered_short {a = d.master} d.prefix (d, i, refl, refl)

  fed_short : (q : Key) (n a : ℕ) → IsFed (knowledge_of (knowledge_at p)) q n a → length q ≤ 16
  fed_short q n a (IsFed.ends c) = mastered_short {a = a} q c
  fed_short q n a (fed s i c e more) = fed_short q _ _ more

  copy_short : (c : Copy) → In c (holdings_at p o).copies → length (key_of c.held.prefix) ≤ 16
  copy_short c =
      by_agent p o (λ x. In c x.copies → length (key_of c.held.prefix) ≤ 16) (λ i. elim i [ ])
      (λ agent ia i.
      let g = copy_is p o agent c i in
      let s : Supply = supply_of g.0 in
      let is : In (supply_of g.0) (knowledge_of (knowledge_at p)).supplies = in_map supply_of g.0 (knowledge_at p).agreements g.1 in
      subst (λ (q : Key). length q ≤ 16) (sym (ap (λ (x : Copy). key_of x.held.prefix) g.3 ∙ copy_key p g.0)) (fed_short (key_of g.0.context) 4 g.0.consumer ((good_at p sound).supplied (supply_of g.0) is)))

  -- with a completed name the level is the name's length
  pinned_level : by_pin m ≡ true → level_of (item_of o m) ≡ length m.target
  pinned_level pin =
      let e = both_true (is_done m.progress) (not (is_wide m.kind)) pin in
      ap (λ (x : Progress). level_of (record { agent = o; target = m.target; progress = x; wide = is_wide m.kind })) (same_progress_is m.progress Done e.0)
      ∙ ap (λ (x : Bool). if x then length m.target + 1 else length m.target) (not_true (is_wide m.kind) e.1)

  -- 1
  superior_step : (r : Reference) → resolves (holdings_at p o) m ≡ true → In r (superior_needs (holdings_at p o) m) → Step p o m r
  superior_step r res =
      by_agent p o (λ x. In r (superior_needs x m) → Step p o m r) (λ i. elim i [ ])
      (λ agent ia. at agent agent.superior refl ia)
    where
      at : (x : Agent) (s : Option ℕ) → x.superior ≡ s → In (o, x) (numbered (knowledge_at p)) → In r (superior_needs (record (no_holdings o) { superior = s }) m) → Step p o m r
      at x None e ia i = elim i [ ]
      at x (Some s) e ia i =
          let one : r ≡ reference m.target Start Superior (s ∷ []) = elim (in_first r (reference m.target Start Superior (s ∷ [])) [] i) [ inl x ↦ x | inr y ↦ elim y [ ] ] in
          subst (λ (y : Reference). Step p o m y) (sym one) (record {
            few = one_few (length (knowledge_at p).agents);
            late = inl refl;
            inside = λ a ia less. omega arith;
            kept = refl;
            pinned = not_pinned res;
          })

  of_when : (b : Bool) (x r : Reference) → In r (when b x) → (r ≡ x) × (b ≡ true)
  of_when true x r i = elim (in_first r x [] i) [ inl e ↦ (e, refl) | inr j ↦ elim j [ ] ]
  of_when false x r i = elim i [ ]

  -- 2
  multicast_step : (q : Key) (c : Held) (r : Reference) → resolves (holdings_at p o) m ≡ true → known_pin m.request (holdings_at p o) (key_of m.target) ≡ Some q → held_at (holdings_at p o).own q ≡ Some c
      → In r (multicast_needs (holdings_at p o) m c) → Step p o m r
  multicast_step q c r res known held i = from_entry (lowest c.entries (key_of m.target)) refl i
    where
      ask : Named → Nssr → List Reference
      ask e n = when (not (same_name e.name m.target) && not (is_empty (others (holdings_at p o).me n.agents))) (proceeding (length e.name + 1) e.name m.target NonSpecific (others (holdings_at p o).me n.agents))

      led : (e : Named) → lowest c.entries (key_of m.target) ≡ Some e → (n : Nssr) → In n c.nssrs → key_of n.at ≡ key_at e → same_name e.name m.target ≡ false → Step p o m (proceeding (length e.name + 1) e.name m.target NonSpecific (others (holdings_at p o).me n.agents))
      led e low n it same_at other =
          let f = held_is p o m q c held in
          let l = lowest_is c.entries (key_of m.target) e low in
          let part = own_part p o m c e f.0 l.0 in
          let ql : length q ≤ length (key_at e) = subst (λ (x : Key). length x ≤ length (key_at e)) f.1 (prefix_length (key_of c.prefix) (key_at e) part.0) in
          let el : length (key_at e) ≡ length e.name = key_length e.name in
          let agents = nssr_agents p o c n sound f.0 it in
          let few : length n.agents ≤ length (knowledge_at p).agents = few_there (knowledge_at p) n.agents agents.0 agents.1 in
          let le : length (key_at e) ≤ length (key_of m.target) = prefix_length (key_at e) (key_of m.target) l.1 in
          let tl : length (key_of m.target) ≡ length m.target = key_length m.target in
          let ne : length (key_at e) ≡ length (key_of m.target) → ⊥ = λ level.
          false_true (sym other ∙ (key_decides (key_of e.name) (key_of m.target)).1 (same_by_length (key_at e) (key_of m.target) (key_of m.target) l.1 (prefix_itself (key_of m.target)) level)) in
          let back : (length e.name + 1) - 1 ≤ length e.name = omega arith in
          let same : length (take ((length e.name + 1) - 1) e.name ++ drop ((length e.name + 1) - 1) m.target) ≡ length m.target = long ((length e.name + 1) - 1) e.name back l.1 in
          let kept : length (others (holdings_at p o).me n.agents) ≤ length n.agents = filter_few _ n.agents in
          record {
            few = omega arith;
            late = inr (λ a. later (length e.name + 1) res (omega arith) (λ j d. let jl : j ≤ length q = beyond p o m q known j d in omega arith));
            inside = λ a ia less.
                let d = nssr_pin p o c n a sound f.0 it (of_filter _ a n.agents ia).0 in
                let dl : length d.0.prefix ≤ 16 = pin_short d.0 d.1 in
                let full : 0 < length d.0.prefix = (good_at p sound).filled d.0 d.1 in
                let up : length (parent d.0.prefix) + 1 ≡ length d.0.prefix = parent_length d.0.prefix full in
                let at : length (parent d.0.prefix) ≡ length (key_at e) = ap length (d.2 ∙ same_at) in
                omega (arith, ne);
            kept = respelled_key ((length e.name + 1) - 1) e.name m.target back l.1;
            pinned = not_pinned res;
          }

      from_nssr : (e : Named) → lowest c.entries (key_of m.target) ≡ Some e → (x : Option Nssr) → nssr_at c.nssrs (key_of e.name) ≡ x → In r (in_option [] (ask e) x) → Step p o m r
      from_nssr e low None k j = elim j [ ]
      from_nssr e low (Some n) k j =
          let one = of_when (not (same_name e.name m.target) && not (is_empty (others (holdings_at p o).me n.agents))) _ r j in
          let other : same_name e.name m.target ≡ false = not_true (same_name e.name m.target) (both_true (not (same_name e.name m.target)) _ one.1).0 in
          let f = of_find (λ (y : Nssr). same_key (key_of y.at) (key_of e.name)) n c.nssrs k in
          subst (λ (x : Reference). Step p o m x) (sym one.0) (led e low n f.0 ((key_decides (key_of n.at) (key_of e.name)).0 f.1) other)

      from_entry : (x : Option Named) → lowest c.entries (key_of m.target) ≡ x → In r (in_option [] (λ (e : Named). in_option [] (ask e) (nssr_at c.nssrs (key_of e.name))) x) → Step p o m r
      from_entry None low j = elim j [ ]
      from_entry (Some e) low j = from_nssr e low (nssr_at c.nssrs (key_of e.name)) refl j

  -- to a pin on the way
  pin_inside : (q : Key) (kept : Name) → known_pin m.request (holdings_at p o) (key_of m.target) ≡ Some q → key_of kept ≡ q → length (key_of kept) ≤ 16 → length kept ≤ min (length (take (length kept - 1) kept ++ drop (length kept - 1) m.target)) 16
  pin_inside q kept known is short =
      let l = longest_some (map key_of (known_pins m.request (holdings_at p o))) (key_of m.target) q known in
      let on : IsPrefix (key_of kept) (key_of m.target) = subst (λ (x : Key). IsPrefix x (key_of m.target)) (sym is) l.1 in
      let same : length (take (length kept - 1) kept ++ drop (length kept - 1) m.target) ≡ length m.target = long (length kept - 1) kept (omega arith) on in
      let ql : length q ≤ length (key_of m.target) = prefix_length q (key_of m.target) l.1 in
      let kl : length kept ≡ length q = sym (key_length kept) ∙ ap length is in
      let tl : length (key_of m.target) ≡ length m.target = key_length m.target in
      let nk : length (key_of kept) ≡ length kept = key_length kept in
      let h : length (key_of kept) ≤ 16 = short in
      omega arith

  pin_kept : (q : Key) (kept : Name) → known_pin m.request (holdings_at p o) (key_of m.target) ≡ Some q → key_of kept ≡ q → key_of (take (length kept - 1) kept ++ drop (length kept - 1) m.target) ≡ key_of m.target
  pin_kept q kept known is =
      let l = longest_some (map key_of (known_pins m.request (holdings_at p o))) (key_of m.target) q known in
      let on : IsPrefix (key_of kept) (key_of m.target) = subst (λ (x : Key). IsPrefix x (key_of m.target)) (sym is) l.1 in
      let le : length kept - 1 ≤ length kept = omega arith in
      respelled_key (length kept - 1) kept m.target le on

  -- 3
  supplier_step : (q : Key) (c : Copy) (r : Reference) → resolves (holdings_at p o) m ≡ true → known_pin m.request (holdings_at p o) (key_of m.target) ≡ Some q → copy_at (holdings_at p o) q ≡ Some c → In r (supplier_needs (holdings_at p o) m c) → Step p o m r
  supplier_step q c r res known copied i =
      let one = of_when (not (copy_answers (holdings_at p o) m c)) (proceeding (length c.held.prefix) c.held.prefix m.target Supplier (c.supplier ∷ [])) r i in
      let f = of_find (λ (x : Copy). same_key (key_of x.held.prefix) q) c (holdings_at p o).copies copied in
      let is : key_of c.held.prefix ≡ q = (key_decides (key_of c.held.prefix) q).0 f.1 in
      subst (λ (y : Reference). Step p o m y) (sym one.0) (record {
        few = one_few (length (knowledge_at p).agents);
        late = inl refl;
        inside = λ a ia less. pin_inside q c.held.prefix known is (copy_short c f.0);
        kept = pin_kept q c.held.prefix known is;
        pinned = not_pinned res;
      })

  -- 4
  not_held_longer : (q : Key) → known_pin m.request (holdings_at p o) (key_of m.target) ≡ Some q → held_at (holdings_at p o).own q ≡ None → copy_at (holdings_at p o) q ≡ None → (j : ℕ) → holds_within (holdings_at p o) (key_of m.target) j ≡ true → j < length q
  not_held_longer q known own copies j d =
      let x = within_is (holdings_at p o) (key_of m.target) j d in
      let l = longest_some (map key_of (known_pins m.request (holdings_at p o))) (key_of m.target) q known in
      let le : length (key_of x.0) ≤ length q = l.2 (key_of x.0) (known_prefix m.request (holdings_at p o) x.0 x.1) x.2 in
      let ge : j ≤ length (key_of x.0) = x.3 in
      let other : length (key_of x.0) ≡ length q → ⊥ = λ e.
      let same : key_of x.0 ≡ q = same_by_length (key_of x.0) q (key_of m.target) x.2 l.1 e in
      elim (in_either x.0 (map (λ (c : Held). c.prefix) (holdings_at p o).own) (map (λ (c : Copy). c.held.prefix) (holdings_at p o).copies) x.1) [
        | inl i ↦
            let c = of_map (λ (c : Held). c.prefix) x.0 (holdings_at p o).own i in
            let no_key : same_key (key_of c.0.prefix) q ≡ false = not_found (λ (y : Held). same_key (key_of y.prefix) q) c.0 (holdings_at p o).own own c.1 in
            false_true (sym no_key ∙ (key_decides (key_of c.0.prefix) q).1 (ap key_of (sym c.2) ∙ same))
        | inr i ↦
            let c = of_map (λ (c : Copy). c.held.prefix) x.0 (holdings_at p o).copies i in
            let no_key : same_key (key_of c.0.held.prefix) q ≡ false = not_found (λ (y : Copy). same_key (key_of y.held.prefix) q) c.0 (holdings_at p o).copies copies c.1 in
            false_true (sym no_key ∙ (key_decides (key_of c.0.held.prefix) q).1 (ap key_of (sym c.2) ∙ same))
      ] in
      omega (arith, other)

  specific_step : (q : Key) (r : Reference) → resolves (holdings_at p o) m ≡ true → known_pin m.request (holdings_at p o) (key_of m.target) ≡ Some q → held_at (holdings_at p o).own q ≡ None → copy_at (holdings_at p o) q ≡ None
      → In r (specific_needs (holdings_at p o) m q) → Step p o m r
  specific_step q r res known own copies i = by_subordinate (specific_at (subordinates m.request (holdings_at p o)) q) refl i
    where
      go : RefType → Specific → List Reference
      go kind k = proceeding (length k.pin) k.pin m.target kind (usable_agents m.request k.access) ∷ []

      led : (kind : RefType) (k : Specific) → IsRightAccess (knowledge_at p) k → OnceShadowed k → key_of k.pin ≡ q → In r (go kind k) → Step p o m r
      led kind k right once is l =
          let one : r ≡ proceeding (length k.pin) k.pin m.target kind (usable_agents m.request k.access) = elim (in_first r _ [] l) [ inl x ↦ x | inr y ↦ elim y [ ] ] in
          let agents = usable_few (knowledge_at p) m.request k sound.described right once in
          let few : length (usable_agents m.request k.access) ≤ length (knowledge_at p).agents + 1 = agents.0 in
          let kl : length k.pin ≡ length q = sym (key_length k.pin) ∙ ap length is in
          let filled : 0 < length q = subst (λ (x : Key). 0 < length x) (right.0.3 ∙ is) ((good_at p sound).filled right.0.0 right.0.1) in
          subst (λ (x : Reference). Step p o m x) (sym one) (record {
            few = omega arith;
            late = inr (λ a. later (length k.pin) res (let x : 0 < length q = filled in omega arith) (λ j d. let less : j < length q = not_held_longer q known own copies j d in omega arith));
            inside = λ a ia less. pin_inside q k.pin known is (mastered_short (key_of k.pin) right.0);
            kept = pin_kept q k.pin known is;
            pinned = not_pinned res;
          })

      by_cross : (x : Option Specific) → specific_at (holdings_at p o).cross q ≡ x → In r (in_option [] (go Cross) x) → Step p o m r
      by_cross None e l = elim l [ ]
      by_cross (Some k) e l =
          let f = of_find (λ (y : Specific). same_key (key_of y.pin) q) k (holdings_at p o).cross e in
          led Cross k (crosses_right p o k sound f.0) (crosses_once p o k sound f.0) ((key_decides (key_of k.pin) q).0 f.1) l

      pick : Option Specific → List Reference
      pick None = in_option [] (go Cross) (specific_at (holdings_at p o).cross q)
      pick (Some k) = go Subordinate k

      by_subordinate : (x : Option Specific) → specific_at (subordinates m.request (holdings_at p o)) q ≡ x → In r (pick x) → Step p o m r
      by_subordinate None e l = by_cross (specific_at (holdings_at p o).cross q) refl l
      by_subordinate (Some k) e l =
          let f = of_find (λ (y : Specific). same_key (key_of y.pin) q) k (subordinates m.request (holdings_at p o)) e in
          led Subordinate k (subordinates_right p o m.request k sound f.0) (subordinates_once p o m.request k sound f.0) ((key_decides (key_of k.pin) q).0 f.1) l

  -- together
  pin_step : (x : Option Key) (r : Reference) → resolves (holdings_at p o) m ≡ true → known_pin m.request (holdings_at p o) (key_of m.target) ≡ x → In r (pin_needs (holdings_at p o) m x) → Step p o m r
  pin_step None r res known i = superior_step r res i
  pin_step (Some q) r res known i = by_own (held_at (holdings_at p o).own q) refl i
    where
      of_copy : Option Copy → List Reference
      of_copy None = specific_needs (holdings_at p o) m q
      of_copy (Some c) = supplier_needs (holdings_at p o) m c

      of_own : Option Held → List Reference
      of_own None = of_copy (copy_at (holdings_at p o) q)
      of_own (Some c) = multicast_needs (holdings_at p o) m c

      by_copy : held_at (holdings_at p o).own q ≡ None → (y : Option Copy) → copy_at (holdings_at p o) q ≡ y → In r (of_copy y) → Step p o m r
      by_copy own None e l = specific_step q r res known own e l
      by_copy own (Some c) e l = supplier_step q c r res known e l

      by_own : (y : Option Held) → held_at (holdings_at p o).own q ≡ y → In r (of_own y) → Step p o m r
      by_own None e l = by_copy e (copy_at (holdings_at p o) q) refl l
      by_own (Some c) e l = multicast_step q c r res known e l

  pub resolution_step : (r : Reference) → In r (resolution_needs (holdings_at p o) m) → (resolves (holdings_at p o) m ≡ true) × Step p o m r
  resolution_step r i = go (resolves (holdings_at p o) m) refl i
    where
      go : (b : Bool) → resolves (holdings_at p o) m ≡ b → In r (if b then pin_needs (holdings_at p o) m (known_pin m.request (holdings_at p o) (key_of m.target)) else []) → (resolves (holdings_at p o) m ≡ true) × Step p o m r
      go true e l = (e, pin_step (known_pin m.request (holdings_at p o) (key_of m.target)) r e refl l)
      go false e l = elim l [ ]

  -- to the supplier of a copy that can't be used
  pub copied_step : (r : Reference) → In r (copied_needs (holdings_at p o) m) → (by_pin m ≡ true) × Step p o m r × (length r.agents ≡ 1)
  copied_step r i = go (by_pin m && is_some (subset_of m)) refl i
    where
      ask : Copy → List Reference
      ask c = when (is_none (held_at (served m.request (holdings_at p o)) (key_of m.target))) (reference m.target Done Supplier (c.supplier ∷ []))

      at : by_pin m ≡ true → (x : Option Copy) → copy_at (holdings_at p o) (key_of m.target) ≡ x → In r (in_option [] ask x) → Step p o m r × (length r.agents ≡ 1)
      at pin None e j = elim j [ ]
      at pin (Some c) e j =
          let one = of_when (is_none (held_at (served m.request (holdings_at p o)) (key_of m.target))) (reference m.target Done Supplier (c.supplier ∷ [])) r j in
          let f = of_find (λ (x : Copy). same_key (key_of x.held.prefix) (key_of m.target)) c (holdings_at p o).copies e in (
            subst (λ (y : Reference). Step p o m y) (sym one.0) (record {
              few = one_few (length (knowledge_at p).agents);
              late = inl refl;
              inside = λ a ia less. (let level : level_of (item_of o m) ≡ length m.target = pinned_level pin in absurd (omega arith));
              kept = refl;
              pinned = sym pin;
            }),
            ap (λ (y : Reference). length y.agents) one.0,
          )

      go : (b : Bool) → (by_pin m && is_some (subset_of m)) ≡ b → In r (if b then in_option [] ask (copy_at (holdings_at p o) (key_of m.target)) else []) → (by_pin m ≡ true) × Step p o m r × (length r.agents ≡ 1)
      go false e j = elim j [ ]
      go true e j = (let pin = (both_true (by_pin m) (is_some (subset_of m)) e).0 in let x = at pin (copy_at (holdings_at p o) (key_of m.target)) refl j in (pin, x.0, x.1))

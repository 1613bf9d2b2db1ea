-- What knowledge brings to an agent goes on there: what the agent masters or consumes it holds, so a context on the way
-- is known, and from there each case of `find` leads somewhere.
use Rattle.std.proofs.Common.{◌≡◌, ℕ, zero, suc, ◌<◌, ◌≤◌, ◌==◌, Bool, true, false, cond, ◌&&◌, nat_le, nat_lt, ◌⊎◌, inl, inr, List, [], ◌∷◌, ◌++◌, length, map, take, refl, sym, ap, subst, ◌∙◌, Option, Some, None, arith, if◌then◌else◌, slice_get, length-take}
use Rattle.std.specs.List.{filter}
use Rattle.std.proofs.lemmas.Bool.Decides.{leb_tells, Decides-eqb}
use Rattle.x5_model.specs.Words.{has, in_option}
use Rattle.x5_model.specs.Members.{In, here, there}
use Rattle.x5_model.specs.Keys.{Key, IsPrefix, same_key, is_prefix, is_root}
use Rattle.x5_model.specs.Values.{Name, key_of}
use Rattle.x5_model.specs.Entries.{Named}
use Rattle.x5_model.specs.References.{Progress, Start, Next, Done, Reference, Chained}
use Rattle.x5_model.proofs.KeyLaws.{key_decides}
use Rattle.x5_model.proofs.Decide.{less_decides}
use Rattle.x5_model.proofs.Lists.{both_true, and_true, in_first, in_left, in_right, in_either, in_map, of_map, in_filter, of_all, any_in, of_has, not_found}
use Rattle.x5_model.proofs.Prefixes.{prefix_decides, take_is_prefix}
use Rattle.x5_model_tree.specs.World.{Specific, Context, Agent, Agreement}
use Rattle.x5_model_tree.specs.Tree.{lowest}
use Rattle.x5_model_tree.specs.Masters.{numbered, mastered, held_contexts, holds}
use Rattle.x5_model_tree.specs.Described.{is_agreement, is_entry_name, is_number}
use Rattle.x5_model_tree.proofs.Gives.{owner_of}
use Rattle.x5_model_tree.proofs.Longest.{IsLongest, longest_right}
use Rattle.x5_model_run.specs.Journal.{same_name}
use Rattle.x5_model_run.specs.Holdings.{Held, Copy, Holdings, subordinates, prefixes, known_pins, known_pin, held_at, copy_at, holds_within}
use Rattle.x5_model_run.specs.Needs.{specific_at, superior_needs, multicast_needs, copy_answers, specific_needs, copied_needs}
use Rattle.x5_model_run.specs.History.{Point, knowledge_at, tree_at, own_context, copy_by, first_agreements, agreements_of, agent_holdings, no_holdings, holdings_at}
use Rattle.x5_model_theory.specs.Knowledge.{Area, Supply}
use Rattle.x5_model_theory.specs.Described.{area_of, supply_of}
use Rattle.x5_model_theory.specs.Leading.{IsSound}
use Rattle.x5_model_theory.proofs.Holding.{IsHeld, holds_decides, of_place, copy_key}
use Rattle.x5_model_theory.proofs.Stages.{key_length}
use Rattle.x5_model_theory.proofs.Views.{at_place}
use Rattle.x5_model_serve.specs.Finding.{Found, Here, CopyHere, Root, Below, Onward, Nowhere, Stuck, by_first, in_own, in_copy, at_pin, resolved, completed, completed_copy, completed_own, found_by}
use Rattle.x5_model_find.specs.Finds.{PlacedGoesOn}
use Rattle.x5_model_find.proofs.Needing.{false_true, own_none, copy_none}

-- ---- of two with one prefix the first is held

first_context : (before : List Key) (cs : List Context) (c : Context) → In c cs → In (key_of c.prefix) before ⊎ ((d : Context) × In d (held_contexts before cs) × (key_of d.prefix ≡ key_of c.prefix))
first_context before [] c i = elim i [ ]
first_context before (x ∷ cs) c i = go (has same_key before (key_of x.prefix)) refl (in_first c x cs i) (first_context before cs c) (first_context (key_of x.prefix ∷ before) cs c)
  where
    go : (b : Bool) → has same_key before (key_of x.prefix) ≡ b → (c ≡ x) ⊎ In c cs
        → (In c cs → In (key_of c.prefix) before ⊎ ((d : Context) × In d (held_contexts before cs) × (key_of d.prefix ≡ key_of c.prefix)))
        → (In c cs → In (key_of c.prefix) (key_of x.prefix ∷ before) ⊎ ((d : Context) × In d (held_contexts (key_of x.prefix ∷ before) cs) × (key_of d.prefix ≡ key_of c.prefix)))
        → In (key_of c.prefix) before ⊎ ((d : Context) × In d (if b then held_contexts before cs else (x ∷ held_contexts (key_of x.prefix ∷ before) cs)) × (key_of d.prefix ≡ key_of c.prefix))
    go true e (inl s) f g = inl (subst (λ (y : Context). In (key_of y.prefix) before) (sym s) (of_has same_key key_decides (key_of x.prefix) before e))
    go true e (inr j) f g = f j
    go false e (inl s) f g = inr (x, here, ap (λ (y : Context). key_of y.prefix) (sym s))
    go false e (inr j) f g = elim (g j) [
      | inl k ↦ elim (in_first (key_of c.prefix) (key_of x.prefix) before k) [ inl s ↦ inr (x, here, sym s) | inr l ↦ inl l ]
      | inr w ↦ inr (w.0, there w.1, w.2)
    ]

first_agreement : (before : List Key) (gs : List Agreement) (g : Agreement) → In g gs → In (key_of g.context) before ⊎ ((d : Agreement) × In d (first_agreements before gs) × (key_of d.context ≡ key_of g.context))
first_agreement before [] g i = elim i [ ]
first_agreement before (x ∷ gs) g i = go (has same_key before (key_of x.context)) refl (in_first g x gs i) (first_agreement before gs g) (first_agreement (key_of x.context ∷ before) gs g)
  where
    go : (b : Bool) → has same_key before (key_of x.context) ≡ b → (g ≡ x) ⊎ In g gs
        → (In g gs → In (key_of g.context) before ⊎ ((d : Agreement) × In d (first_agreements before gs) × (key_of d.context ≡ key_of g.context)))
        → (In g gs → In (key_of g.context) (key_of x.context ∷ before) ⊎ ((d : Agreement) × In d (first_agreements (key_of x.context ∷ before) gs) × (key_of d.context ≡ key_of g.context)))
        → In (key_of g.context) before ⊎ ((d : Agreement) × In d (if b then first_agreements before gs else (x ∷ first_agreements (key_of x.context ∷ before) gs)) × (key_of d.context ≡ key_of g.context))
    go true e (inl s) f h = inl (subst (λ (y : Agreement). In (key_of y.context) before) (sym s) (of_has same_key key_decides (key_of x.context) before e))
    go true e (inr j) f h = f j
    go false e (inl s) f h = inr (x, here, ap (λ (y : Agreement). key_of y.context) (sym s))
    go false e (inr j) f h = elim (h j) [
      | inl k ↦ elim (in_first (key_of g.context) (key_of x.context) before k) [ inl s ↦ inr (x, here, sym s) | inr l ↦ inl l ]
      | inr w ↦ inr (w.0, there w.1, w.2)
    ]

gets : (xs : List Agent) (i : ℕ) → i < length xs → (a : Agent) × (slice_get xs i ≡ Some a)
gets [] i l = absurd (omega arith)
gets (x ∷ xs) zero l = (x, refl)
gets (x ∷ xs) (suc i) l = gets xs i (omega arith)

-- ---- what an agent masters or consumes, it holds

module _ (p : Point) (o : ℕ) (sound : IsSound p) where
  held_by : (a : Agent) → In (o, a) (numbered (knowledge_at p)) → holdings_at p o ≡ agent_holdings p o a
  held_by a i = ap (λ (x : Option Agent). in_option (no_holdings o) (agent_holdings p o) x) (at_place (knowledge_at p) o a i)

  pub holds_it : (q : Key) → IsHeld (knowledge_at p) o q → ((c : Held) × In c (holdings_at p o).own × (key_of c.prefix ≡ q)) ⊎ ((c : Copy) × In c (holdings_at p o).copies × (key_of c.held.prefix ≡ q))
  holds_it q (inl m) =
      let n = of_map area_of m.0 (mastered (knowledge_at p)) m.1 in
      let a = owner_of (knowledge_at p) n.0 n.1 in
      let place : n.0.master ≡ o = ap (λ (x : Area). x.master) (sym n.2) ∙ m.2 in
      let at : In (o, a.0) (numbered (knowledge_at p)) = subst (λ (x : ℕ). In (x, a.0) (numbered (knowledge_at p))) place a.1 in
      elim (first_context [] a.0.contexts n.0.context a.2) [
        | inl none ↦ elim none [ ]
        | inr d ↦ inl (
          own_context (tree_at p) a.0 d.0,
          subst (λ (h : Holdings). In (own_context (tree_at p) a.0 d.0) h.own) (sym (held_by a.0 at)) (in_map (own_context (tree_at p) a.0) d.0 (held_contexts [] a.0.contexts) d.1),
          d.2 ∙ ap (λ (x : Area). x.prefix) (sym n.2) ∙ m.3,
        )
      ]
  holds_it q (inr s) =
      let g = of_map supply_of s.0 (knowledge_at p).agreements s.1 in
      let takes : g.0.consumer ≡ o = ap (λ (x : Supply). x.consumer) (sym g.2) ∙ s.2 in
      let fit = (both_true (is_number g.0.number) _ (of_all (is_agreement (knowledge_at p)) g.0 (knowledge_at p).agreements sound.described.agreements g.1)).1 in
      let both = both_true (is_entry_name g.0.context) (nat_lt g.0.supplier (length (knowledge_at p).agents) && nat_lt g.0.consumer (length (knowledge_at p).agents)) fit in
      let less : g.0.consumer < length (knowledge_at p).agents = (less_decides g.0.consumer (length (knowledge_at p).agents)).0 (both_true (nat_lt g.0.supplier (length (knowledge_at p).agents)) (nat_lt g.0.consumer (length (knowledge_at p).agents)) both.1).1 in
      let a = gets (knowledge_at p).agents o (subst (λ (x : ℕ). x < length (knowledge_at p).agents) takes less) in
      let at : In (o, a.0) (numbered (knowledge_at p)) = of_place (knowledge_at p) o a.0 a.1 in
      let mine : In g.0 (filter (λ (x : Agreement). x.consumer == o) (knowledge_at p).agreements) = in_filter (λ (x : Agreement). x.consumer == o) g.0 (knowledge_at p).agreements g.1 ((Decides-eqb g.0.consumer o).1 takes) in
      elim (first_agreement [] (filter (λ (x : Agreement). x.consumer == o) (knowledge_at p).agreements) g.0 mine) [
        | inl none ↦ elim none [ ]
        | inr d ↦ inr (
          copy_by p d.0,
          subst (λ (h : Holdings). In (copy_by p d.0) h.copies) (sym (held_by a.0 at)) (in_map (copy_by p) d.0 (agreements_of (knowledge_at p) o) d.1),
          copy_key p d.0 ∙ d.2 ∙ ap (λ (x : Supply). x.prefix) (sym g.2) ∙ s.3,
        )
      ]

  -- so it goes as far
  pub goes_within : (n : Key) (k : ℕ) → k ≤ length n → IsHeld (knowledge_at p) o (take k n) → holds_within (holdings_at p o) n k ≡ true
  goes_within n k le held =
      let at : (x : Name) × In x (prefixes (holdings_at p o)) × (key_of x ≡ take k n) = elim (holds_it (take k n) held) [
        | inl c ↦ (c.0.prefix, in_left c.0.prefix (map (λ (x : Held). x.prefix) (holdings_at p o).own) (map (λ (x : Copy). x.held.prefix) (holdings_at p o).copies) (in_map (λ (x : Held). x.prefix) c.0 (holdings_at p o).own c.1), c.2)
        | inr c ↦ (c.0.held.prefix, in_right c.0.held.prefix (map (λ (x : Held). x.prefix) (holdings_at p o).own) (map (λ (x : Copy). x.held.prefix) (holdings_at p o).copies) (in_map (λ (x : Copy). x.held.prefix) c.0 (holdings_at p o).copies c.1), c.2)
      ] in
      let on : is_prefix (key_of at.0) n ≡ true = (prefix_decides (key_of at.0) n).1 (subst (λ (y : Key). IsPrefix y n) (sym at.2) (take_is_prefix k n le)) in
      let u = key_length at.0 in
      let v : length (key_of at.0) ≡ length (take k n) = ap length at.2 in
      let w = length-take k n in
      let far : nat_le k (length at.0) ≡ true = elim (leb_tells k (length at.0)) [ inl x ↦ x.0 | inr x ↦ absurd (let less = x.1 in omega arith) ] in
      any_in (λ (x : Name). is_prefix (key_of x) n && nat_le k (length x)) at.0 (prefixes (holdings_at p o)) at.1 (and_true (is_prefix (key_of at.0) n) (nat_le k (length at.0)) on far)

-- ---- resolution is never stuck

stuck_first : (rs : List Reference) (other : Found) → by_first rs other ≡ Stuck → (rs ≡ []) × (other ≡ Stuck)
stuck_first [] other e = (refl, e)
stuck_first (r ∷ rs) other e = (let w : Onward r ≡ Stuck = e in cc)

module _ (h : Holdings) (m : Chained) where
  own_moves : (c : Held) → in_own h m c ≡ Stuck → ⊥
  own_moves c e = by (lowest c.entries (key_of m.target)) refl
    where
      at : (x : Named) → lowest c.entries (key_of m.target) ≡ Some x → (b : Bool) → same_name x.name m.target ≡ b → ⊥
      at x z true k = (let w : Here c ≡ Stuck = rw (z, k) at e in cc)
      at x z false k = (let f = stuck_first (multicast_needs h m c) (Nowhere x.name) (rw (z, k) at e) in let w : Nowhere x.name ≡ Stuck = f.1 in cc)

      by : (x : Option Named) → lowest c.entries (key_of m.target) ≡ x → ⊥
      by None z = (let w : Nowhere [] ≡ Stuck = rw z at e in cc)
      by (Some x) z = at x z (same_name x.name m.target) refl

  copy_moves : (c : Copy) → in_copy h m c ≡ Stuck → ⊥
  copy_moves c e = by (copy_answers h m c) refl
    where
      by : (b : Bool) → copy_answers h m c ≡ b → ⊥
      by true q = (let w : CopyHere c ≡ Stuck = rw q at e in cc)
      by false q = (let w : Onward _ ≡ Stuck = rw q at e in cc)

  -- what is known and not held is known by a reference
  specific_moves : (q : Key) → In q (map key_of (known_pins m.request h)) → held_at h.own q ≡ None → copy_at h q ≡ None → specific_needs h m q ≡ [] → ⊥
  specific_moves q i own copy none = by (specific_at (subordinates m.request h) q) refl
    where
      missed : (ks : List Specific) → specific_at ks q ≡ None → (k : Specific) → In k ks → key_of k.pin ≡ q → ⊥
      missed ks z k j e = false_true (sym (not_found (λ (x : Specific). same_key (key_of x.pin) q) k ks z j) ∙ (key_decides (key_of k.pin) q).1 e)

      of_known : specific_at (subordinates m.request h) q ≡ None → specific_at h.cross q ≡ None → ⊥
      of_known s t =
          let x = of_map key_of q (known_pins m.request h) i in
          elim (in_either x.0 (prefixes h ++ map (λ (k : Specific). k.pin) (subordinates m.request h)) (map (λ (k : Specific). k.pin) h.cross) x.1) [
            | inr j ↦ (let k = of_map (λ (k : Specific). k.pin) x.0 h.cross j in missed h.cross t k.0 k.1 (ap key_of (sym k.2) ∙ sym x.2))
            | inl j ↦ elim (in_either x.0 (prefixes h) (map (λ (k : Specific). k.pin) (subordinates m.request h)) j) [
              | inr l ↦ (let k = of_map (λ (k : Specific). k.pin) x.0 (subordinates m.request h) l in missed (subordinates m.request h) s k.0 k.1 (ap key_of (sym k.2) ∙ sym x.2))
              | inl l ↦ elim (in_either x.0 (map (λ (c : Held). c.prefix) h.own) (map (λ (c : Copy). c.held.prefix) h.copies) l) [
                | inl y ↦ (let c = of_map (λ (c : Held). c.prefix) x.0 h.own y in own_none h m q own c.0 c.1 (ap key_of (sym c.2) ∙ sym x.2))
                | inr y ↦ (let c = of_map (λ (c : Copy). c.held.prefix) x.0 h.copies y in copy_none h m q copy c.0 c.1 (ap key_of (sym c.2) ∙ sym x.2))
              ]
            ]
          ]

      by_cross : specific_at (subordinates m.request h) q ≡ None → (x : Option Specific) → specific_at h.cross q ≡ x → ⊥
      by_cross s None t = of_known s t
      by_cross s (Some x) t = (let w : (_ ∷ []) ≡ [] = rw (s, t) at none in cc)

      by : (x : Option Specific) → specific_at (subordinates m.request h) q ≡ x → ⊥
      by None s = by_cross s (specific_at h.cross q) refl
      by (Some x) s = (let w : (_ ∷ []) ≡ [] = rw s at none in cc)

  pin_moves : (x : Option Key) → known_pin m.request h (key_of m.target) ≡ x → at_pin h m x ≡ Stuck → ⊥
  pin_moves None k e =
      (let f = stuck_first (superior_needs h m) (cond (is_root (key_of m.target)) Root (Nowhere [])) e in root (is_root (key_of m.target)) f.1)
    where
      root : (b : Bool) → cond b Root (Nowhere []) ≡ Stuck → ⊥
      root true z = cc
      root false z = cc
  pin_moves (Some q) k e = by_own (held_at h.own q) refl
    where
      best : IsLongest (map key_of (known_pins m.request h)) (key_of m.target) (Some q)
      best = subst (λ (x : Option Key). IsLongest (map key_of (known_pins m.request h)) (key_of m.target) x) k (longest_right (map key_of (known_pins m.request h)) (key_of m.target))

      by_copy : held_at h.own q ≡ None → (x : Option Copy) → copy_at h q ≡ x → ⊥
      by_copy n None z = specific_moves q best.0 n z (stuck_first (specific_needs h m q) Stuck (rw (n, z) at e)).0
      by_copy n (Some c) z = copy_moves c (rw (n, z) at e)

      by_own : (x : Option Held) → held_at h.own q ≡ x → ⊥
      by_own None z = by_copy z (copy_at h q) refl
      by_own (Some c) z = own_moves c (rw z at e)

  pub resolved_moves : resolved h m ≡ Stuck → ⊥
  resolved_moves e = pin_moves (known_pin m.request h (key_of m.target)) refl e

  -- what came by a reference to a pin
  completed_moves : ((c : Held) × In c h.own × (key_of c.prefix ≡ key_of m.target)) ⊎ ((c : Copy) × In c h.copies × (key_of c.held.prefix ≡ key_of m.target)) → completed h m ≡ Stuck → ⊥
  completed_moves held e = by (held_at h.own (key_of m.target)) refl
    where
      by_copy : held_at h.own (key_of m.target) ≡ None → (x : Option Copy) → copy_at h (key_of m.target) ≡ x → completed_copy h m x ≡ Stuck → ⊥
      by_copy n None z f = elim held [ inl c ↦ own_none h m (key_of m.target) n c.0 c.1 c.2 | inr c ↦ copy_none h m (key_of m.target) z c.0 c.1 c.2 ]
      by_copy n (Some c) z f = (let g = stuck_first (copied_needs h m) (CopyHere c) f in let w : CopyHere c ≡ Stuck = g.1 in cc)

      by : (x : Option Held) → held_at h.own (key_of m.target) ≡ x → ⊥
      by None q = by_copy q (copy_at h (key_of m.target)) refl (subst (λ (x : Option Held). completed_own h m x ≡ Stuck) q e)
      by (Some c) q = (let w : Here c ≡ Stuck = subst (λ (x : Option Held). completed_own h m x ≡ Stuck) q e in cc)

le_of : (a b : ℕ) → nat_le a b ≡ true → a ≤ b
le_of a b e = elim (leb_tells a b) [ inl x ↦ x.1 | inr x ↦ absurd (false_true (sym x.0 ∙ e)) ]

pub placed_goes_on : PlacedGoesOn
placed_goes_on p o m sound placed narrow e = by m.progress refl
  where
    next : (k : ℕ) → m.progress ≡ Next k → (b : Bool) → holds_within (holdings_at p o) (key_of m.target) k ≡ b → ⊥
    next k q true w = resolved_moves (holdings_at p o) m (rw (q, w) at e)
    next k q false w =
        let came : (nat_le k (length m.target) && holds (knowledge_at p) o (take k (key_of m.target))) ≡ true = rw (q, narrow) at placed.brought in
        let both = both_true (nat_le k (length m.target)) (holds (knowledge_at p) o (take k (key_of m.target))) came in
        let short : k ≤ length (key_of m.target) = subst (λ (x : ℕ). k ≤ x) (sym (key_length m.target)) (le_of k (length m.target) both.0) in
        false_true (sym w ∙ goes_within p o sound (key_of m.target) k short ((holds_decides (knowledge_at p) o (take k (key_of m.target))).0 both.1))

    done : m.progress ≡ Done → ⊥
    done q =
        let came : holds (knowledge_at p) o (key_of m.target) ≡ true = rw (q, narrow) at placed.brought in
        completed_moves (holdings_at p o) m (holds_it p o sound (key_of m.target) ((holds_decides (knowledge_at p) o (key_of m.target)).0 came))
        (subst (λ b. cond b Below (completed (holdings_at p o) m) ≡ Stuck) narrow (subst (λ x. found_by (holdings_at p o) m x ≡ Stuck) q e))

    by : (x : Progress) → m.progress ≡ x → ⊥
    by Start q = resolved_moves (holdings_at p o) m (rw q at e)
    by (Next k) q = next k q (holds_within (holdings_at p o) (key_of m.target) k) refl
    by Done q = done q

-- Where a name goes on elsewhere the reference asks for that name, however it spells it: by the cases of `find`. So what
-- is carried by it is no probe.
use Rattle.std.proofs.Common.{◌≡◌, ℕ, ◌+◌, ◌-◌, ◌≤◌, Bool, true, false, not, ◌&&◌, inl, inr, List, [], ◌∷◌, length, map, refl, sym, ap, subst, ◌∙◌, arith, Option, Some, None, if◌then◌else◌}
use Rattle.std.specs.Option.{is_some, is_none}
use Rattle.x5_model.specs.Words.{when, in_option}
use Rattle.x5_model.specs.Members.{In, here}
use Rattle.x5_model.specs.Keys.{Key, IsPrefix, same_key, is_root}
use Rattle.x5_model.specs.Values.{Name, key_of}
use Rattle.x5_model.specs.Entries.{Named}
use Rattle.x5_model.specs.References.{Progress, Start, Next, Done, RefType, Cross, NonSpecific, Subordinate, Supplier, Reference, Chained}
use Rattle.x5_model.proofs.Lists.{both_true, in_first, of_find}
use Rattle.x5_model.proofs.KeyLaws.{key_decides}
use Rattle.x5_model_tree.specs.World.{Specific, Nssr}
use Rattle.x5_model_tree.specs.Tree.{key_at, lowest}
use Rattle.x5_model_tree.specs.Ask.{is_update}
use Rattle.x5_model_run.specs.Journal.{same_name, is_wide}
use Rattle.x5_model_run.specs.Holdings.{Held, Copy, Holdings, usable_agents, held_at, copy_at, subordinates, served, known_pin, known_pins, holds_within, is_first_level}
use Rattle.x5_model_run.specs.Needs.{target_of, others, proceeding, by_pin, subset_of, to_superior, superior_needs, nssr_at, to_nssr, from_lowest, multicast_needs, supplier_needs, copy_answers, specific_at, to_specific, specific_needs, to_supplier, copied_needs}
use Rattle.x5_model_run.specs.Placed.{fits}
use Rattle.x5_model_run.specs.Chain.{is_probe}
use Rattle.x5_model_theory.proofs.Longest.{longest_some, lowest_is, respelled_key}
use Rattle.x5_model_serve.specs.Finding.{Found, Here, CopyHere, Root, Below, Onward, Nowhere, Stuck, by_first, in_own, in_copy, at_pin, resolved, completed_copy, completed_own, completed, found_by, find}

module _ (h : Holdings) (m : Chained) where
  abbrev AsksFor : Reference → Type 0
  AsksFor r = key_of r.target ≡ key_of m.target

  abbrev AskFor : List Reference → Type 0
  AskFor rs = (r : Reference) → In r rs → AsksFor r

  -- ---- lists of references
  none_ask : AskFor []
  none_ask r i = elim i [ ]

  one_asks : (r : Reference) → AsksFor r → AskFor (r ∷ [])
  one_asks r e x i = elim (in_first x r [] i) [ inl p ↦ subst AsksFor (sym p) e | inr j ↦ elim j [ ] ]

  when_asks : (b : Bool) (r : Reference) → AsksFor r → AskFor (when b r)
  when_asks true r e = one_asks r e
  when_asks false r e = none_ask

  if_asks : (b : Bool) (rs : List Reference) → AskFor rs → AskFor (if b then rs else [])
  if_asks true rs f = f
  if_asks false rs f = none_ask

  either_asks : {X : Type 0} (rs : List Reference) (f : X → List Reference) (o : Option X) → AskFor rs
      → ((x : X) → o ≡ Some x → AskFor (f x)) → AskFor (in_option rs f o)
  either_asks rs f None e g = e
  either_asks rs f (Some x) e g = g x refl

  option_asks : {X : Type 0} (f : X → List Reference) (o : Option X)
      → ((x : X) → o ≡ Some x → AskFor (f x)) → AskFor (in_option [] f o)
  option_asks f o g = either_asks [] f o none_ask g

  -- ---- the references of name resolution

  -- the first RDNs are spelled as they are kept
  kept_asks : (k : ℕ) (kept : Name) (kind : RefType) (agents : List ℕ) → k - 1 ≤ length kept
      → IsPrefix (key_of kept) (key_of m.target) → AsksFor (proceeding k kept m.target kind agents)
  kept_asks k kept kind agents l on = respelled_key (k - 1) kept m.target l on

  pin_is : (p : Key) (kept : Name) → same_key (key_of kept) p ≡ true → IsPrefix p (key_of m.target)
      → IsPrefix (key_of kept) (key_of m.target)
  pin_is p kept same on =
      subst (λ (x : Key). IsPrefix x (key_of m.target)) (sym ((key_decides (key_of kept) p).0 same)) on

  superior_asks : AskFor (superior_needs h m)
  superior_asks = option_asks (to_superior m.target) h.superior (λ s p. one_asks _ refl)

  nssr_asks : (c : Held) (name : Name) (n : Nssr) → IsPrefix (key_of name) (key_of m.target)
      → AsksFor (proceeding (length name + 1) name m.target NonSpecific (others h.me n.agents))
  nssr_asks c name n on =
      let l : (length name + 1) - 1 ≤ length name = omega arith in
      kept_asks (length name + 1) name NonSpecific (others h.me n.agents) l on

  multicast_asks : (c : Held) → AskFor (multicast_needs h m c)
  multicast_asks c =
      option_asks (from_lowest h m c) (lowest c.entries (key_of m.target))
      (λ e q. option_asks (to_nssr h m e) (nssr_at c.nssrs (key_of e.name))
      (λ n p. when_asks _ _ (nssr_asks c e.name n (lowest_is c.entries (key_of m.target) e q).1)))

  specific_asks : (kind : RefType) (k : Specific) → IsPrefix (key_of k.pin) (key_of m.target)
      → AskFor (to_specific m kind k)
  specific_asks kind k on =
      let l : length k.pin - 1 ≤ length k.pin = omega arith in
      one_asks _ (kept_asks (length k.pin) k.pin kind (usable_agents m.request k.access) l on)

  pins_ask : (p : Key) → IsPrefix p (key_of m.target) → AskFor (specific_needs h m p)
  pins_ask p on =
      either_asks (in_option [] (to_specific m Cross) (specific_at h.cross p)) (to_specific m Subordinate)
      (specific_at (subordinates m.request h) p)
      (option_asks (to_specific m Cross) (specific_at h.cross p)
      (λ k q. specific_asks Cross k (pin_is p k.pin
      (of_find (λ (x : Specific). same_key (key_of x.pin) p) k h.cross q).1 on)))
      (λ k q. specific_asks Subordinate k (pin_is p k.pin
      (of_find (λ (x : Specific). same_key (key_of x.pin) p) k (subordinates m.request h) q).1 on))

  copied_asks : AskFor (copied_needs h m)
  copied_asks =
      if_asks (by_pin m && is_some (subset_of m)) (in_option [] (to_supplier h m) (copy_at h (key_of m.target)))
      (option_asks (to_supplier h m) (copy_at h (key_of m.target)) (λ c q. when_asks _ _ refl))

  -- ---- what is found

  abbrev FoundAsks : Found → Type 0
  FoundAsks (Here c) = Unit {0}
  FoundAsks (CopyHere c) = Unit {0}
  FoundAsks Root = Unit {0}
  FoundAsks Below = Unit {0}
  FoundAsks (Onward r) = AsksFor r
  FoundAsks (Nowhere x) = Unit {0}
  FoundAsks Stuck = Unit {0}

  first_asks : (rs : List Reference) (other : Found) → AskFor rs → FoundAsks other → FoundAsks (by_first rs other)
  first_asks [] other f e = e
  first_asks (r ∷ rs) other f e = f r here

  root_asks : (b : Bool) → FoundAsks (if b then Root else Nowhere [])
  root_asks true = tt
  root_asks false = tt

  own_asks : (c : Held) → FoundAsks (in_own h m c)
  own_asks c = by (lowest c.entries (key_of m.target)) refl
    where
      at : (e : Named) → lowest c.entries (key_of m.target) ≡ Some e → (b : Bool) → same_name e.name m.target ≡ b
          → FoundAsks (in_own h m c)
      at e q true k = rw (q, k) tt
      at e q false k = rw (q, k) (first_asks (multicast_needs h m c) (Nowhere e.name) (multicast_asks c) tt)

      by : (o : Option Named) → lowest c.entries (key_of m.target) ≡ o → FoundAsks (in_own h m c)
      by None q = rw q tt
      by (Some e) q = at e q (same_name e.name m.target) refl

  copy_asks : (c : Copy) → IsPrefix (key_of c.held.prefix) (key_of m.target) → FoundAsks (in_copy h m c)
  copy_asks c on = by (copy_answers h m c) refl
    where
      there : AsksFor (proceeding (length c.held.prefix) c.held.prefix m.target Supplier (c.supplier ∷ []))
      there =
          let l : length c.held.prefix - 1 ≤ length c.held.prefix = omega arith in
          kept_asks (length c.held.prefix) c.held.prefix Supplier (c.supplier ∷ []) l on

      by : (b : Bool) → copy_answers h m c ≡ b → FoundAsks (in_copy h m c)
      by true q = rw q tt
      by false q = rw q there

  known_on : (p : Key) → known_pin m.request h (key_of m.target) ≡ Some p → IsPrefix p (key_of m.target)
  known_on p e = (longest_some (map key_of (known_pins m.request h)) (key_of m.target) p e).1

  pin_asks : (x : Option Key) → known_pin m.request h (key_of m.target) ≡ x → FoundAsks (at_pin h m x)
  pin_asks None known = first_asks (superior_needs h m) _ superior_asks (root_asks (is_root (key_of m.target)))
  pin_asks (Some p) known = by_own (held_at h.own p) refl
    where
      on : IsPrefix p (key_of m.target)
      on = known_on p known

      by_copy : held_at h.own p ≡ None → (x : Option Copy) → copy_at h p ≡ x → FoundAsks (at_pin h m (Some p))
      by_copy k None q = rw (k, q) (first_asks (specific_needs h m p) Stuck (pins_ask p on) tt)
      by_copy k (Some c) q =
          rw (k, q) (copy_asks c (pin_is p c.held.prefix
          (of_find (λ (x : Copy). same_key (key_of x.held.prefix) p) c h.copies q).1 on))

      by_own : (x : Option Held) → held_at h.own p ≡ x → FoundAsks (at_pin h m (Some p))
      by_own None q = by_copy q (copy_at h p) refl
      by_own (Some c) q = rw q (own_asks c)

  resolved_asks : FoundAsks (resolved h m)
  resolved_asks = pin_asks (known_pin m.request h (key_of m.target)) refl

  completed_asks : FoundAsks (completed h m)
  completed_asks = by (held_at h.own (key_of m.target))
    where
      by_copy : (x : Option Copy) → FoundAsks (completed_copy h m x)
      by_copy None = tt
      by_copy (Some c) = first_asks (copied_needs h m) (CopyHere c) copied_asks tt

      by : (x : Option Held) → FoundAsks (completed_own h m x)
      by None = by_copy (copy_at h (key_of m.target))
      by (Some c) = tt

  by_progress : (p : Progress) → FoundAsks (found_by h m p)
  by_progress Start = resolved_asks
  by_progress (Next k) = by (holds_within h (key_of m.target) k)
    where
      by : (b : Bool) → FoundAsks (if b then resolved h m else Stuck)
      by true = resolved_asks
      by false = tt
  by_progress Done = by (is_wide m.kind)
    where
      by : (b : Bool) → FoundAsks (if b then Below else completed h m)
      by true = tt
      by false = completed_asks

  onward_asks : (r : Reference) → find h m ≡ Onward r → AsksFor r
  onward_asks r e = subst (λ (f : Found). FoundAsks f) e (by_progress m.progress)

  and_false : (b : Bool) → (b && false) ≡ false
  and_false true = refl
  and_false false = refl

  -- it's no probe of the message's update, where the message fits its request
  pub onward_no_probe : (r : Reference) → fits m ≡ true → find h m ≡ Onward r
      → is_probe m.request.body r.target ≡ false
  onward_no_probe r fit e =
      let same : same_name (target_of m.request.body) m.target ≡ true =
      (both_true (same_name (target_of m.request.body) m.target) _ fit).0 in
      let asked : same_name (target_of m.request.body) r.target ≡ true =
      ap (same_key (key_of (target_of m.request.body))) (onward_asks r e) ∙ same in
      ap (λ (b : Bool). is_update m.request.body && not b) asked ∙ and_false (is_update m.request.body)

-- Each reference by which a name goes on is made of a name that the agent holds and of the message's; and what is found
-- is among what it holds.
use Rattle.std.proofs.Common.{◌≡◌, ◌+◌, Bool, true, false, not, ◌&&◌, List, [], ◌∷◌, ◌++◌, length, refl, sym, subst, arith, Option, Some, None, if◌then◌else◌}
use Rattle.std.specs.List.{filter, flat_map}
use Rattle.std.specs.Option.{is_some, is_none}
use Rattle.x5_model.specs.Words.{is_empty, in_option}
use Rattle.x5_model.specs.Members.{here}
use Rattle.x5_model.specs.Keys.{Key, same_key, is_root}
use Rattle.x5_model.specs.Values.{key_of}
use Rattle.x5_model.specs.Entries.{Named}
use Rattle.x5_model.specs.References.{Progress, Start, Next, Done, RefType, Superior, Cross, NonSpecific, Subordinate, Supplier, Reference, Chained}
use Rattle.x5_model.proofs.Lists.{both_true, not_true, of_find}
use Rattle.x5_model_tree.specs.World.{Specific, Nssr}
use Rattle.x5_model_tree.specs.Tree.{lowest}
use Rattle.x5_model_run.specs.Journal.{same_name, is_wide}
use Rattle.x5_model_run.specs.Holdings.{Held, Copy, Holdings, usable_agents, held_at, copy_at, masters_pin, usable_copies, served, subordinates, known_pin, holds_within}
use Rattle.x5_model_run.specs.Needs.{others, reference, proceeding, subset_of, by_pin, to_supplier, copied_needs, to_superior, superior_needs, nssr_at, to_nssr, from_lowest, multicast_needs, copy_answers, supplier_needs, specific_at, to_specific, specific_needs}
use Rattle.x5_model_theory.proofs.Holding.{usable_is}
use Rattle.x5_model_theory.proofs.Longest.{lowest_is}
use Rattle.x5_model_serve.specs.Finding.{Found, CopyHere, Root, Below, Nowhere, Stuck, by_first, in_own, in_copy, at_pin, resolved, completed_copy, completed_own, completed, found_by}
use Rattle.x5_model_fitting.specs.Names.{Each, RdnWithin}
use Rattle.x5_model_limits.specs.Holding.{BoundedSpecific, BoundedContext, BoundedCopy, BoundedHoldings}
use Rattle.x5_model_limits.specs.Messages.{BoundedReference, BoundedMessage}
use Rattle.x5_model_limits.specs.Doing.{BoundedFound}
use Rattle.x5_model_limits.specs.Laws.{FindsBounded}
use Rattle.x5_model_limits.proofs.Lists.{each_none, each_one, each_both, each_when, each_if, each_kept, each_or, each_some, each_flat}
use Rattle.x5_model_limits.proofs.Spelling.{root_within, proceeding_bounded, some_rdn, shorter_on_way}

abbrev pub AreBounded : List Reference → Type 0
AreBounded rs = Each BoundedReference rs

-- ---- of what an agent holds

module _ (h : Holdings) (w : BoundedHoldings h) where
  pub own_at : (p : Key) (c : Held) → held_at h.own p ≡ Some c → BoundedContext c
  own_at p c e = w.own c (of_find (λ (x : Held). same_key (key_of x.prefix) p) c h.own e).0

  pub copied_at : (p : Key) (c : Copy) → copy_at h p ≡ Some c → BoundedCopy c
  copied_at p c e = w.copies c (of_find (λ (x : Copy). same_key (key_of x.held.prefix) p) c h.copies e).0

  module _ (m : Chained) where
    usable_bounded : Each BoundedContext (usable_copies m.request h)
    usable_bounded c i =
        let x = usable_is m.request h c i in
        subst BoundedContext (sym x.2) (w.copies x.0 x.1).held

    pub served_bounded : Each BoundedContext (served m.request h)
    served_bounded =
        each_both BoundedContext h.own
        (filter (λ (c : Held). not (masters_pin h (key_of c.prefix))) (usable_copies m.request h)) w.own
        (each_kept BoundedContext (λ (c : Held). not (masters_pin h (key_of c.prefix))) (usable_copies m.request h)
        usable_bounded)

    below_each : (cs : List Held) → Each BoundedContext cs
        → Each BoundedSpecific (flat_map (λ (c : Held). c.subordinate) cs)
    below_each cs f = each_flat BoundedSpecific (λ (c : Held). c.subordinate) cs (λ c i. (f c i).subordinate)

    subordinates_bounded : Each BoundedSpecific (subordinates m.request h)
    subordinates_bounded =
        each_both BoundedSpecific
        (flat_map (λ (c : Held). c.subordinate) h.own
        ++ flat_map (λ (c : Held). c.subordinate) (usable_copies m.request h))
        h.root
        (each_both BoundedSpecific (flat_map (λ (c : Held). c.subordinate) h.own)
        (flat_map (λ (c : Held). c.subordinate) (usable_copies m.request h)) (below_each h.own w.own)
        (below_each (usable_copies m.request h) usable_bounded))
        w.root

-- ---- name resolution

module _ (h : Holdings) (m : Chained) (w : BoundedHoldings h) (b : BoundedMessage m) where
  superior_bounded : AreBounded (superior_needs h m)
  superior_bounded =
      each_some BoundedReference (to_superior m.target) h.superior
      (λ s e. each_one BoundedReference (reference m.target Start Superior (s ∷ []))
      (record { target = b.target; progress = tt; exclusions = each_none RdnWithin }))

  -- an entry on the way
  from_entry : (c : Held) (e : Named) → BoundedContext c → lowest c.entries (key_of m.target) ≡ Some e
      → AreBounded (from_lowest h m c e)
  from_entry c e t q = each_some BoundedReference (to_nssr h m e) (nssr_at c.nssrs (key_of e.name)) at
    where
      at : (n : Nssr) → nssr_at c.nssrs (key_of e.name) ≡ Some n → AreBounded (to_nssr h m e n)
      at n p =
          each_when BoundedReference (not (same_name e.name m.target) && not (is_empty (others h.me n.agents)))
          (proceeding (length e.name + 1) e.name m.target NonSpecific (others h.me n.agents))
          (λ s.
          let on = lowest_is c.entries (key_of m.target) e q in
          let other = not_true (same_name e.name m.target)
          (both_true (not (same_name e.name m.target)) (not (is_empty (others h.me n.agents))) s).0 in
          let less = shorter_on_way e.name m.target on.1 other in
          proceeding_bounded (length e.name + 1) e.name m.target NonSpecific (others h.me n.agents) (omega arith)
          (omega (arith, less, b.target.few)) (t.entries e on.0).name b.target)

  multicast_bounded : (c : Held) → BoundedContext c → AreBounded (multicast_needs h m c)
  multicast_bounded c t =
      each_some BoundedReference (from_lowest h m c) (lowest c.entries (key_of m.target)) (λ e q. from_entry c e t q)

  supplier_bounded : (c : Copy) → BoundedCopy c → AreBounded (supplier_needs h m c)
  supplier_bounded c t =
      each_when BoundedReference (not (copy_answers h m c))
      (proceeding (length c.held.prefix) c.held.prefix m.target Supplier (c.supplier ∷ []))
      (λ s. proceeding_bounded (length c.held.prefix) c.held.prefix m.target Supplier (c.supplier ∷ [])
      (some_rdn c.held.prefix t.held.some) t.held.prefix.few t.held.prefix b.target)

  to_pin_bounded : (kind : RefType) (k : Specific) → BoundedSpecific k → AreBounded (to_specific m kind k)
  to_pin_bounded kind k t =
      each_one BoundedReference (proceeding (length k.pin) k.pin m.target kind (usable_agents m.request k.access))
      (proceeding_bounded (length k.pin) k.pin m.target kind (usable_agents m.request k.access)
      (some_rdn k.pin t.some) t.pin.few t.pin b.target)

  at_specific : (ks : List Specific) (p : Key) (k : Specific) → Each BoundedSpecific ks → specific_at ks p ≡ Some k
      → BoundedSpecific k
  at_specific ks p k f e = f k (of_find (λ (x : Specific). same_key (key_of x.pin) p) k ks e).0

  specific_bounded : (p : Key) → AreBounded (specific_needs h m p)
  specific_bounded p =
      each_or BoundedReference (in_option [] (to_specific m Cross) (specific_at h.cross p)) (to_specific m Subordinate)
      (specific_at (subordinates m.request h) p)
      (each_some BoundedReference (to_specific m Cross) (specific_at h.cross p)
      (λ k e. to_pin_bounded Cross k (at_specific h.cross p k w.cross e)))
      (λ k e. to_pin_bounded Subordinate k
      (at_specific (subordinates m.request h) p k (subordinates_bounded h w m) e))

  -- the target itself, completed
  copied_bounded : AreBounded (copied_needs h m)
  copied_bounded =
      each_if BoundedReference (by_pin m && is_some (subset_of m))
      (in_option [] (to_supplier h m) (copy_at h (key_of m.target)))
      (each_some BoundedReference (to_supplier h m) (copy_at h (key_of m.target))
      (λ c e. each_when BoundedReference (is_none (held_at (served m.request h) (key_of m.target)))
      (reference m.target Done Supplier (c.supplier ∷ []))
      (λ s. record { target = b.target; progress = tt; exclusions = each_none RdnWithin })))

  -- ---- what is found

  first_bounded : (rs : List Reference) (other : Found) → AreBounded rs → BoundedFound other
      → BoundedFound (by_first rs other)
  first_bounded [] other f t = t
  first_bounded (r ∷ rs) other f t = f r here

  root_bounded : (x : Bool) → BoundedFound (if x then Root else Nowhere [])
  root_bounded true = tt
  root_bounded false = root_within

  own_bounded : (c : Held) → BoundedContext c → BoundedFound (in_own h m c)
  own_bounded c t = by (lowest c.entries (key_of m.target)) refl
    where
      at : (e : Named) → lowest c.entries (key_of m.target) ≡ Some e → (x : Bool) → same_name e.name m.target ≡ x
          → BoundedFound (in_own h m c)
      at e q true k = rw (q, k) t
      at e q false k =
          let on = lowest_is c.entries (key_of m.target) e q in
          rw (q, k) (first_bounded (multicast_needs h m c) (Nowhere e.name) (multicast_bounded c t)
          (t.entries e on.0).name)

      by : (o : Option Named) → lowest c.entries (key_of m.target) ≡ o → BoundedFound (in_own h m c)
      by None q = rw q root_within
      by (Some e) q = at e q (same_name e.name m.target) refl

  copy_bounded : (c : Copy) → BoundedCopy c → BoundedFound (in_copy h m c)
  copy_bounded c t = by (copy_answers h m c)
    where
      by : (x : Bool) → BoundedFound (if x then CopyHere c else by_first (supplier_needs h m c) Stuck)
      by true = t
      by false = first_bounded (supplier_needs h m c) Stuck (supplier_bounded c t) tt

  pin_bounded : (x : Option Key) → BoundedFound (at_pin h m x)
  pin_bounded None = first_bounded (superior_needs h m) (if is_root (key_of m.target) then Root else Nowhere [])
      superior_bounded (root_bounded (is_root (key_of m.target)))
  pin_bounded (Some p) = by_own (held_at h.own p) refl
    where
      by_copy : held_at h.own p ≡ None → (x : Option Copy) → copy_at h p ≡ x → BoundedFound (at_pin h m (Some p))
      by_copy k None q = rw (k, q) (first_bounded (specific_needs h m p) Stuck (specific_bounded p) tt)
      by_copy k (Some c) q = rw (k, q) (copy_bounded c (copied_at h w p c q))

      by_own : (x : Option Held) → held_at h.own p ≡ x → BoundedFound (at_pin h m (Some p))
      by_own None q = by_copy q (copy_at h p) refl
      by_own (Some c) q = rw q (own_bounded c (own_at h w p c q))

  resolved_bounded : BoundedFound (resolved h m)
  resolved_bounded = pin_bounded (known_pin m.request h (key_of m.target))

  completed_bounded : BoundedFound (completed h m)
  completed_bounded = by (held_at h.own (key_of m.target)) refl
    where
      by_copy : (x : Option Copy) → copy_at h (key_of m.target) ≡ x → BoundedFound (completed_copy h m x)
      by_copy None q = tt
      by_copy (Some c) q =
          first_bounded (copied_needs h m) (CopyHere c) copied_bounded (copied_at h w (key_of m.target) c q)

      by : (x : Option Held) → held_at h.own (key_of m.target) ≡ x → BoundedFound (completed_own h m x)
      by None q = by_copy (copy_at h (key_of m.target)) refl
      by (Some c) q = own_at h w (key_of m.target) c q

  by_progress : (p : Progress) → BoundedFound (found_by h m p)
  by_progress Start = resolved_bounded
  by_progress (Next k) = by (holds_within h (key_of m.target) k)
    where
      by : (x : Bool) → BoundedFound (if x then resolved h m else Stuck)
      by true = resolved_bounded
      by false = tt
  by_progress Done = by (is_wide m.kind)
    where
      by : (x : Bool) → BoundedFound (if x then Below else completed h m)
      by true = tt
      by false = completed_bounded

pub finds_bounded : FindsBounded
finds_bounded h m w b = by_progress h m w b m.progress

-- What name resolution says of the message: a reference by which it goes on leads no further than the longest known pin on
-- the way, or than just behind an entry with an NSSR; where the root is found it is the target. By the cases of name
-- resolution.
use Rattle.std.proofs.Common.{◌≡◌, ℕ, ◌+◌, ◌≤◌, Bool, true, false, not, ◌&&◌, map, [], ◌∷◌, length, refl, sym, ap, subst, Option, Some, None, cond, arith}
use Rattle.std.specs.Option.{is_none, is_some}
use Rattle.x5_model.specs.Members.{In}
use Rattle.x5_model.specs.Words.{is_empty, in_option, when}
use Rattle.x5_model.specs.Keys.{Key, IsPrefix, same_key, is_root}
use Rattle.x5_model.specs.Values.{Name, key_of}
use Rattle.x5_model.specs.Entries.{Named}
use Rattle.x5_model.specs.References.{Progress, Start, Next, Done, Subordinate, Cross, NonSpecific, Supplier, Reference, Chained}
use Rattle.x5_model.proofs.KeyLaws.{key_decides}
use Rattle.x5_model.proofs.Prefixes.{prefix_length}
use Rattle.x5_model.proofs.Lists.{of_find}
use Rattle.x5_model_tree.specs.World.{Specific, Nssr}
use Rattle.x5_model_tree.specs.Tree.{lowest}
use Rattle.x5_model_run.specs.Journal.{same_name, is_wide}
use Rattle.x5_model_run.specs.Holdings.{Held, Copy, Holdings, held_at, copy_at, known_pin, known_pins, holds_within, subordinates, served}
use Rattle.x5_model_run.specs.Needs.{others, reference, proceeding, nssr_at, superior_needs, multicast_needs, to_nssr, supplier_needs, copy_answers, specific_at, to_specific, to_supplier, by_pin, subset_of}
use Rattle.x5_model_theory.proofs.Stages.{key_length}
use Rattle.x5_model_theory.proofs.Longest.{longest_some, lowest_is}
use Rattle.x5_model_serve.specs.Finding.{Found, Here, CopyHere, Root, Below, Onward, Nowhere, Stuck, by_first, in_own, in_copy, at_pin, resolved, completed_copy, completed_own, completed, find}

-- a place among RDNs that isn't further than just behind so many
abbrev pub IsWithin : ℕ → Progress → Type 0
IsWithin n Start = Unit {0}
IsWithin n (Next k) = k ≤ n + 1
IsWithin n Done = Unit {0}

-- so many RDNs has what the name is resolved by: the longest known pin on the way may have one more
pub record Bounds (n : ℕ) (h : Holdings) (m : Chained) : Type 0 where
  pub pin : (p : Key) → known_pin m.request h (key_of m.target) ≡ Some p → length p ≤ n + 1
  pub entry : (c : Held) (e : Named) (x : Nssr) → In c h.own → lowest c.entries (key_of m.target) ≡ Some e
      → nssr_at c.nssrs (key_of e.name) ≡ Some x → length e.name ≤ n

abbrev pub Says : ℕ → Chained → Found → Type 0
Says n m (Here c) = Unit {0}
Says n m (CopyHere c) = Unit {0}
Says n m Root = is_root (key_of m.target) ≡ true
Says n m Below = Unit {0}
Says n m (Onward r) = IsWithin n r.progress
Says n m (Nowhere x) = Unit {0}
Says n m Stuck = Unit {0}

module _ (n : ℕ) (h : Holdings) (m : Chained) (bounds : Bounds n h m) where
  if_says : (b : Bool) (x y : Found) → (b ≡ true → Says n m x) → Says n m y → Says n m (cond b x y)
  if_says true x y f g = f refl
  if_says false x y f g = g

  superior_says : (other : Found) → Says n m other → Says n m (by_first (superior_needs h m) other)
  superior_says other s = by h.superior refl
    where
      by : (o : Option ℕ) → h.superior ≡ o → Says n m (by_first (superior_needs h m) other)
      by None e = rw e s
      by (Some a) e = rw e tt

  when_says : (b : Bool) (r : Reference) (other : Found) → IsWithin n r.progress → Says n m other
      → Says n m (by_first (when b r) other)
  when_says true r other s t = s
  when_says false r other s t = t

  wide_says : (c : Held) (e : Named) → In c h.own → lowest c.entries (key_of m.target) ≡ Some e
      → Says n m (by_first (multicast_needs h m c) (Nowhere e.name))
  wide_says c e i low = rw low (by (nssr_at c.nssrs (key_of e.name)) refl)
    where
      by : (o : Option Nssr) → nssr_at c.nssrs (key_of e.name) ≡ o
          → Says n m (by_first (in_option [] (to_nssr h m e) o) (Nowhere e.name))
      by None q = tt
      by (Some x) q =
          when_says (not (same_name e.name m.target) && not (is_empty (others h.me x.agents)))
          (proceeding (length e.name + 1) e.name m.target NonSpecific (others h.me x.agents)) (Nowhere e.name)
          (let l : length e.name ≤ n = bounds.entry c e x i low q in omega (arith, l)) tt

  own_says : (c : Held) → In c h.own → Says n m (in_own h m c)
  own_says c i = by (lowest c.entries (key_of m.target)) refl
    where
      by : (o : Option Named) → lowest c.entries (key_of m.target) ≡ o → Says n m (in_own h m c)
      by None e = rw e tt
      by (Some x) e = rw e (if_says (same_name x.name m.target) (Here c) (by_first (multicast_needs h m c)
          (Nowhere x.name)) (λ k. tt) (wide_says c x i e))

  module _ (p : Key) (known : known_pin m.request h (key_of m.target) ≡ Some p) where
    its_pin : (x : Name) → same_key (key_of x) p ≡ true → length x ≤ n + 1
    its_pin x e =
        let l : length p ≤ n + 1 = bounds.pin p known in
        let k : length (key_of x) ≡ length p = ap length ((key_decides (key_of x) p).0 e) in
        omega (arith, l, k, key_length x)

    copy_says : (c : Copy) → copy_at h p ≡ Some c → Says n m (in_copy h m c)
    copy_says c e =
        if_says (copy_answers h m c) (CopyHere c) (by_first (supplier_needs h m c) Stuck) (λ k. tt)
        (when_says (not (copy_answers h m c))
        (proceeding (length c.held.prefix) c.held.prefix m.target Supplier (c.supplier ∷ [])) Stuck
        (its_pin c.held.prefix (of_find (λ (d : Copy). same_key (key_of d.held.prefix) p) c h.copies e).1) tt)

    cross_says : (o : Option Specific) → specific_at h.cross p ≡ o
        → Says n m (by_first (in_option [] (to_specific m Cross) o) Stuck)
    cross_says None e = tt
    cross_says (Some k) e = its_pin k.pin (of_find (λ (x : Specific). same_key (key_of x.pin) p) k h.cross e).1

    specific_says : (o : Option Specific) → specific_at (subordinates m.request h) p ≡ o
        → Says n m (by_first (in_option (in_option [] (to_specific m Cross) (specific_at h.cross p)) (to_specific m
        Subordinate) o) Stuck)
    specific_says None e = cross_says (specific_at h.cross p) refl
    specific_says (Some k) e =
        its_pin k.pin (of_find (λ (x : Specific). same_key (key_of x.pin) p) k (subordinates m.request h) e).1

    by_copy : held_at h.own p ≡ None → (o : Option Copy) → copy_at h p ≡ o → Says n m (at_pin h m (Some p))
    by_copy e None f = rw (e, f) (specific_says (specific_at (subordinates m.request h) p) refl)
    by_copy e (Some c) f = rw (e, f) (copy_says c f)

    by_own : (o : Option Held) → held_at h.own p ≡ o → Says n m (at_pin h m (Some p))
    by_own None e = by_copy e (copy_at h p) refl
    by_own (Some c) e = rw e (own_says c (of_find (λ (d : Held). same_key (key_of d.prefix) p) c h.own e).0)

  pin_says : (o : Option Key) → known_pin m.request h (key_of m.target) ≡ o → Says n m (at_pin h m o)
  pin_says None known =
      superior_says (cond (is_root (key_of m.target)) Root (Nowhere []))
      (if_says (is_root (key_of m.target)) Root (Nowhere []) (λ k. k) tt)
  pin_says (Some p) known = by_own p known (held_at h.own p) refl

  resolved_says : Says n m (resolved h m)
  resolved_says = pin_says (known_pin m.request h (key_of m.target)) refl

  supplier_says : (b : Bool) (other : Found) → (o : Option Copy) → Says n m other
      → Says n m (by_first (cond b (in_option [] (to_supplier h m) o) []) other)
  supplier_says false other o s = s
  supplier_says true other None s = s
  supplier_says true other (Some c) s =
      when_says (is_none (held_at (served m.request h) (key_of m.target)))
      (reference m.target Done Supplier (c.supplier ∷ [])) other tt s

  kept_copy_says : (o : Option Copy) → Says n m (completed_copy h m o)
  kept_copy_says None = tt
  kept_copy_says (Some c) =
      supplier_says (by_pin m && is_some (subset_of m)) (CopyHere c) (copy_at h (key_of m.target)) tt

  kept_own_says : (o : Option Held) → Says n m (completed_own h m o)
  kept_own_says None = kept_copy_says (copy_at h (key_of m.target))
  kept_own_says (Some c) = tt

  pub found_says : Says n m (find h m)
  found_says = by m.progress refl
    where
      next : (k : ℕ) → m.progress ≡ Next k → (b : Bool) → holds_within h (key_of m.target) k ≡ b → Says n m (find h m)
      next k q true w = subst (λ (f : Found). Says n m f) (sym (let e : find h m ≡ resolved h m = rw
          (q, w) refl in e)) resolved_says
      next k q false w = subst (λ (f : Found). Says n m f) (sym (let e : find h m ≡ Stuck = rw (q, w) refl in e)) tt

      at_done : m.progress ≡ Done → (b : Bool) → is_wide m.kind ≡ b → Says n m (find h m)
      at_done q true w =
          subst (λ (f : Found). Says n m f) (sym (let e : find h m ≡ Below = rw (q, w) refl in e)) tt
      at_done q false w =
          subst (λ (f : Found). Says n m f) (sym (let e : find h m ≡ completed h m = rw (q, w) refl in e))
          (kept_own_says (held_at h.own (key_of m.target)))

      by : (x : Progress) → m.progress ≡ x → Says n m (find h m)
      by Start q = subst (λ (f : Found). Says n m f) (sym
          (let e : find h m ≡ resolved h m = rw q refl in e)) resolved_says
      by (Next k) q = next k q (holds_within h (key_of m.target) k) refl
      by Done q = at_done q (is_wide m.kind) refl

  -- by a reference the name goes on no further than this
  pub onward_within : (r : Reference) → find h m ≡ Onward r → IsWithin n r.progress
  onward_within r e = subst (λ (f : Found). Says n m f) e found_says

-- ---- by the target

module _ (h : Holdings) (m : Chained) where
  -- a name whose key is on the way
  on_way : (x : Name) → IsPrefix (key_of x) (key_of m.target) → length x ≤ length m.target
  on_way x e =
      let l : length (key_of x) ≤ length (key_of m.target) = prefix_length (key_of x) (key_of m.target) e in
      omega (arith, l, key_length x, key_length m.target)

  pub target_bounds : Bounds (length m.target) h m
  target_bounds = record {
    pin = λ p e.
        (let way = (longest_some (map key_of (known_pins m.request h)) (key_of m.target) p e).1 in
        let l : length p ≤ length (key_of m.target) = prefix_length p (key_of m.target) way in
        omega (arith, l, key_length m.target));
    entry = λ c e x i low q. on_way e.name (lowest_is c.entries (key_of m.target) e low).1;
  }

  pub root_asked : find h m ≡ Root → is_root (key_of m.target) ≡ true
  root_asked e = subst (λ (f : Found). Says (length m.target) m f) e (found_says (length m.target) h m target_bounds)

-- Where the resolution of a name goes on elsewhere, that reference is the one that is needed for it: by cases of
-- `find`, each of which takes the first of a list that has one at most.
use Rattle.std.proofs.Common.{◌≡◌, ℕ, Bool, true, false, cond, not, ◌&&◌, List, [], ◌∷◌, ◌++◌, length, refl, ap, subst, ◌∙◌, Option, Some, None}
use Rattle.std.specs.Option.{is_some, is_none}
use Rattle.x5_model.specs.Words.{when, is_empty}
use Rattle.x5_model.specs.Keys.{Key, is_root}
use Rattle.x5_model.specs.Values.{key_of}
use Rattle.x5_model.specs.Entries.{Named}
use Rattle.x5_model.specs.References.{Progress, Start, Next, Done, Reference, Supplier, Chained}
use Rattle.x5_model_tree.specs.World.{Specific}
use Rattle.x5_model_tree.specs.Tree.{lowest}
use Rattle.x5_model_run.specs.Journal.{same_name, is_wide}
use Rattle.x5_model_run.specs.Holdings.{Held, Copy, Holdings, subordinates, held_at, copy_at, served, known_pin, holds_within}
use Rattle.x5_model_run.specs.Needs.{specific_at, superior_needs, multicast_needs, supplier_needs, copy_answers, specific_needs, copied_needs, resolution_needs, pin_needs, by_pin, subset_of, nssr_at, proceeding, others}
use Rattle.x5_model_serve.specs.Finding.{Found, Here, CopyHere, Root, Below, Onward, Nowhere, Stuck, by_first, in_own, in_copy, at_pin, resolved, completed, completed_copy, completed_own, found_by, find}

-- at most one reference
abbrev AtMostOne : List Reference → Type 0
AtMostOne [] = Unit {0}
AtMostOne (r ∷ []) = Unit {0}
AtMostOne (r ∷ q ∷ rs) = ⊥

is_first : (rs : List Reference) (other : Found) (r : Reference) → AtMostOne rs → ((q : Reference) → other ≡ Onward q → ⊥) → by_first rs other ≡ Onward r → rs ≡ r ∷ []
is_first [] other r one never e = absurd (never r e)
is_first (q ∷ []) other r one never e = let same : q ≡ r = cc in ap (λ x. x ∷ []) same
is_first (q ∷ p ∷ rs) other r one never e = elim one [ ]

superior_one : (h : Holdings) (m : Chained) → AtMostOne (superior_needs h m)
superior_one h m = by h.superior refl
  where
    by : (s : Option ℕ) → h.superior ≡ s → AtMostOne (superior_needs h m)
    by None e = rw e tt
    by (Some s) e = rw e tt

inside : (a b : Reference) → Onward a ≡ Onward b → a ≡ b
inside a b e = cc

module _ (h : Holdings) (m : Chained) (r : Reference) where
  multicast_one : (c : Held) → AtMostOne (multicast_needs h m c)
  multicast_one c = by (lowest c.entries (key_of m.target)) refl
    where
      under : (e : Named) → lowest c.entries (key_of m.target) ≡ Some e → (n : Option _) → nssr_at c.nssrs (key_of e.name) ≡ n → AtMostOne (multicast_needs h m c)
      under e q None k = rw (q, k) tt
      under e q (Some n) k = rw (q, k) (choose (not (same_name e.name m.target) && not (is_empty (others h.me n.agents))) _)
        where
          choose : (b : Bool) (x : Reference) → AtMostOne (when b x)
          choose true x = tt
          choose false x = tt

      by : (o : Option Named) → lowest c.entries (key_of m.target) ≡ o → AtMostOne (multicast_needs h m c)
      by None e = rw e tt
      by (Some e) q = under e q (nssr_at c.nssrs (key_of e.name)) refl

  own_onward : (c : Held) → in_own h m c ≡ Onward r → multicast_needs h m c ≡ r ∷ []
  own_onward c e = by (lowest c.entries (key_of m.target)) refl
    where
      there : (x : Named) → lowest c.entries (key_of m.target) ≡ Some x → (b : Bool) → same_name x.name m.target ≡ b → multicast_needs h m c ≡ r ∷ []
      there x q true k = let f : Here c ≡ Onward r = rw (q, k) at e in cc
      there x q false k =
          let f : by_first (multicast_needs h m c) (Nowhere x.name) ≡ Onward r = rw (q, k) at e in
          is_first (multicast_needs h m c) (Nowhere x.name) r (multicast_one c) (λ p z. cc) f

      by : (o : Option Named) → lowest c.entries (key_of m.target) ≡ o → multicast_needs h m c ≡ r ∷ []
      by None q = let f : Nowhere [] ≡ Onward r = rw q at e in cc
      by (Some x) q = there x q (same_name x.name m.target) refl

  copy_onward : (c : Copy) → in_copy h m c ≡ Onward r → supplier_needs h m c ≡ r ∷ []
  copy_onward c e = by (copy_answers h m c) refl
    where
      by : (b : Bool) → copy_answers h m c ≡ b → supplier_needs h m c ≡ r ∷ []
      by true q = let f : CopyHere c ≡ Onward r = rw q at e in cc
      by false q =
          let same : proceeding (length c.held.prefix) c.held.prefix m.target Supplier (c.supplier ∷ []) ≡ r = inside _ r (rw q at e) in
          rw q (ap (λ x. x ∷ []) same)

  specific_one : (p : Key) → AtMostOne (specific_needs h m p)
  specific_one p = by (specific_at (subordinates m.request h) p) refl
    where
      by_cross : specific_at (subordinates m.request h) p ≡ None → (x : Option Specific) → specific_at h.cross p ≡ x → AtMostOne (specific_needs h m p)
      by_cross k None q = rw (k, q) tt
      by_cross k (Some x) q = rw (k, q) tt

      by : (x : Option Specific) → specific_at (subordinates m.request h) p ≡ x → AtMostOne (specific_needs h m p)
      by None q = by_cross q (specific_at h.cross p) refl
      by (Some x) q = rw q tt

  pin_onward : (o : Option Key) → at_pin h m o ≡ Onward r → pin_needs h m o ≡ r ∷ []
  pin_onward None e =
      is_first (superior_needs h m) _ r (superior_one h m) (root (is_root (key_of m.target))) e
    where
      root : (b : Bool) (q : Reference) → cond b Root (Nowhere []) ≡ Onward q → ⊥
      root true q z = cc
      root false q z = cc
  pin_onward (Some p) e = by_own (held_at h.own p) refl
    where
      by_copy : held_at h.own p ≡ None → (x : Option Copy) → copy_at h p ≡ x → pin_needs h m (Some p) ≡ r ∷ []
      by_copy k None q =
          let f : by_first (specific_needs h m p) Stuck ≡ Onward r = rw (k, q) at e in
          rw (k, q) (is_first (specific_needs h m p) Stuck r (specific_one p) (λ s z. cc) f)
      by_copy k (Some c) q =
          let f : in_copy h m c ≡ Onward r = rw (k, q) at e in rw (k, q) (copy_onward c f)

      by_own : (x : Option Held) → held_at h.own p ≡ x → pin_needs h m (Some p) ≡ r ∷ []
      by_own None q = by_copy q (copy_at h p) refl
      by_own (Some c) q = let f : in_own h m c ≡ Onward r = rw q at e in rw q (own_onward c f)

  resolved_onward : resolved h m ≡ Onward r → pin_needs h m (known_pin m.request h (key_of m.target)) ≡ r ∷ []
  resolved_onward e = pin_onward (known_pin m.request h (key_of m.target)) e

  copied_one : AtMostOne (copied_needs h m)
  copied_one = by (by_pin m && is_some (subset_of m)) refl
    where
      choose : (b : Bool) (x : Reference) → AtMostOne (when b x)
      choose true x = tt
      choose false x = tt

      at_copy : (by_pin m && is_some (subset_of m)) ≡ true → (x : Option Copy) → copy_at h (key_of m.target) ≡ x → AtMostOne (copied_needs h m)
      at_copy q None k = rw (q, k) tt
      at_copy q (Some c) k = rw (q, k) (choose (is_none (held_at (served m.request h) (key_of m.target))) _)

      by : (b : Bool) → (by_pin m && is_some (subset_of m)) ≡ b → AtMostOne (copied_needs h m)
      by true q = at_copy q (copy_at h (key_of m.target)) refl
      by false q = rw q tt

  completed_onward : completed h m ≡ Onward r → copied_needs h m ≡ r ∷ []
  completed_onward e = by_own (held_at h.own (key_of m.target)) refl
    where
      by_copy : held_at h.own (key_of m.target) ≡ None → (x : Option Copy) → copy_at h (key_of m.target) ≡ x → copied_needs h m ≡ r ∷ []
      by_copy k None q = let f : Stuck ≡ Onward r = rw (k, q) at e in cc
      by_copy k (Some c) q =
          let f : by_first (copied_needs h m) (CopyHere c) ≡ Onward r = subst (λ x. completed_copy h m x ≡ Onward r) q (subst (λ x. completed_own h m x ≡ Onward r) k e) in
          is_first (copied_needs h m) (CopyHere c) r copied_one (λ p z. cc) f

      by_own : (x : Option Held) → held_at h.own (key_of m.target) ≡ x → copied_needs h m ≡ r ∷ []
      by_own None q = by_copy q (copy_at h (key_of m.target)) refl
      by_own (Some c) q = let f : Here c ≡ Onward r = rw q at e in cc

  -- the references of name resolution, and of a copy that can't be used
  pub onward_resolution : find h m ≡ Onward r → resolution_needs h m ++ copied_needs h m ≡ r ∷ []
  onward_resolution e = by m.progress refl
    where
      ends : (xs : List Reference) → xs ≡ r ∷ [] → xs ++ [] ≡ r ∷ []
      ends xs q = ap (λ (ys : List Reference). ys ++ []) q

      next : (k : ℕ) → m.progress ≡ Next k → (b : Bool) → holds_within h (key_of m.target) k ≡ b → resolution_needs h m ++ copied_needs h m ≡ r ∷ []
      next k q true w = let f : resolved h m ≡ Onward r = rw (q, w) at e in rw (q, w) (ends _ (resolved_onward f))
      next k q false w = let f : Stuck ≡ Onward r = rw (q, w) at e in cc

      done : m.progress ≡ Done → (b : Bool) → is_wide m.kind ≡ b → resolution_needs h m ++ copied_needs h m ≡ r ∷ []
      done q true w = let f : Below ≡ Onward r = rw (q, w) at e in cc
      done q false w =
          let f : completed h m ≡ Onward r = subst (λ b. cond b Below (completed h m) ≡ Onward r) w (subst (λ x. found_by h m x ≡ Onward r) q e) in
          let none : resolution_needs h m ≡ [] = rw q refl in
          ap (λ (ys : List Reference). ys ++ copied_needs h m) none ∙ completed_onward f

      by : (x : Progress) → m.progress ≡ x → resolution_needs h m ++ copied_needs h m ≡ r ∷ []
      by Start q = let f : resolved h m ≡ Onward r = rw q at e in rw q (ends _ (resolved_onward f))
      by (Next k) q = next k q (holds_within h (key_of m.target) k) refl
      by Done q = done q (is_wide m.kind) refl

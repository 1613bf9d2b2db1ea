-- Where a name goes on elsewhere, it's the same name, up to its spelling: the entry or pin that a reference is made of
-- is on the way to it. So no update goes on as a probe.
use Rattle.std.proofs.Common.{◌≡◌, ◌+◌, ◌-◌, Bool, true, false, not, ◌&&◌, List, [], ◌∷◌, length, map, refl, sym, ap, subst, ◌∙◌, arith, Some}
use Rattle.std.specs.Option.{is_some, is_none}
use Rattle.x5_model.specs.Words.{is_empty, in_option}
use Rattle.x5_model.specs.Members.{In, here}
use Rattle.x5_model.specs.Keys.{Key, IsPrefix, same_key}
use Rattle.x5_model.specs.Values.{Name, key_of}
use Rattle.x5_model.specs.Entries.{Named}
use Rattle.x5_model.specs.References.{Done, RefType, Superior, Cross, NonSpecific, Subordinate, Supplier, Start, Reference, Chained}
use Rattle.x5_model.proofs.KeyLaws.{key_decides}
use Rattle.x5_model.proofs.Lists.{both_true, of_find}
use Rattle.x5_model_tree.specs.World.{Specific}
use Rattle.x5_model_tree.specs.Tree.{lowest}
use Rattle.x5_model_tree.specs.Ask.{is_update}
use Rattle.x5_model_run.specs.Journal.{same_name}
use Rattle.x5_model_run.specs.Chain.{is_probe}
use Rattle.x5_model_run.specs.Holdings.{Held, Copy, Holdings, usable_agents, held_at, copy_at, served, subordinates, known_pin, known_pins}
use Rattle.x5_model_run.specs.Needs.{target_of, others, reference, proceeding, resolves, subset_of, by_pin, to_supplier, copied_needs, to_superior, superior_needs, nssr_at, to_nssr, from_lowest, multicast_needs, copy_answers, supplier_needs, specific_at, to_specific, specific_needs, foreign_needs, known_needs, pin_needs, resolution_needs}
use Rattle.x5_model_run.specs.Placed.{fits}
use Rattle.x5_model_theory.proofs.Longest.{longest_some, lowest_is, respelled_key}
use Rattle.x5_model_serve.specs.Finding.{Onward, find}
use Rattle.x5_model_serve.proofs.Needing.{onward_resolution}
use Rattle.x5_model_fitting.specs.Names.{Each}
use Rattle.x5_model_limits.proofs.Lists.{each_one, each_both, each_when, each_if, each_or, each_some}

module _ (h : Holdings) (m : Chained) where
  -- it asks for the same name
  abbrev Keeps : Reference → Type 0
  Keeps r = key_of r.target ≡ key_of m.target

  superior_keeps : Each Keeps (superior_needs h m)
  superior_keeps =
      each_some Keeps (to_superior m.target) h.superior
      (λ s e. each_one Keeps (reference m.target Start Superior (s ∷ [])) refl)

  entry_keeps : (c : Held) (e : Named) → lowest c.entries (key_of m.target) ≡ Some e → Each Keeps (from_lowest h m c e)
  entry_keeps c e q =
      each_some Keeps (to_nssr h m e) (nssr_at c.nssrs (key_of e.name))
      (λ n p. each_when Keeps (not (same_name e.name m.target) && not (is_empty (others h.me n.agents)))
      (proceeding (length e.name + 1) e.name m.target NonSpecific (others h.me n.agents))
      (λ s. respelled_key ((length e.name + 1) - 1) e.name m.target (omega arith)
      (lowest_is c.entries (key_of m.target) e q).1))

  multicast_keeps : (c : Held) → Each Keeps (multicast_needs h m c)
  multicast_keeps c =
      each_some Keeps (from_lowest h m c) (lowest c.entries (key_of m.target)) (λ e q. entry_keeps c e q)

  -- a pin on the way
  module _ (p : Key) (on : IsPrefix p (key_of m.target)) where
    pin_keeps : (kept : Name) → same_key (key_of kept) p ≡ true
        → key_of (proceeding (length kept) kept m.target Cross []).target ≡ key_of m.target
    pin_keeps kept e =
        respelled_key (length kept - 1) kept m.target (omega arith)
        (subst (λ (x : Key). IsPrefix x (key_of m.target)) (sym ((key_decides (key_of kept) p).0 e)) on)

    supplier_keeps : (c : Copy) → copy_at h p ≡ Some c → Each Keeps (supplier_needs h m c)
    supplier_keeps c e =
        each_when Keeps (not (copy_answers h m c))
        (proceeding (length c.held.prefix) c.held.prefix m.target Supplier (c.supplier ∷ []))
        (λ s. pin_keeps c.held.prefix (of_find (λ (x : Copy). same_key (key_of x.held.prefix) p) c h.copies e).1)

    to_pin_keeps : (kind : RefType) (ks : List Specific) (k : Specific) → specific_at ks p ≡ Some k
        → Each Keeps (to_specific m kind k)
    to_pin_keeps kind ks k e =
        each_one Keeps (proceeding (length k.pin) k.pin m.target kind (usable_agents m.request k.access))
        (pin_keeps k.pin (of_find (λ (x : Specific). same_key (key_of x.pin) p) k ks e).1)

    specific_keeps : Each Keeps (specific_needs h m p)
    specific_keeps =
        each_or Keeps (in_option [] (to_specific m Cross) (specific_at h.cross p)) (to_specific m Subordinate)
        (specific_at (subordinates m.request h) p)
        (each_some Keeps (to_specific m Cross) (specific_at h.cross p) (λ k e. to_pin_keeps Cross h.cross k e))
        (λ k e. to_pin_keeps Subordinate (subordinates m.request h) k e)

    known_keeps : Each Keeps (known_needs h m p)
    known_keeps =
        each_or Keeps (foreign_needs h m p) (multicast_needs h m) (held_at h.own p)
        (each_or Keeps (specific_needs h m p) (supplier_needs h m) (copy_at h p) specific_keeps
        (λ c e. supplier_keeps c e))
        (λ c e. multicast_keeps c)

  resolution_keeps : Each Keeps (resolution_needs h m)
  resolution_keeps =
      each_if Keeps (resolves h m) (pin_needs h m (known_pin m.request h (key_of m.target)))
      (each_or Keeps (superior_needs h m) (known_needs h m) (known_pin m.request h (key_of m.target)) superior_keeps
      (λ p e. known_keeps p (longest_some (map key_of (known_pins m.request h)) (key_of m.target) p e).1))

  copied_keeps : Each Keeps (copied_needs h m)
  copied_keeps =
      each_if Keeps (by_pin m && is_some (subset_of m)) (in_option [] (to_supplier h m) (copy_at h (key_of m.target)))
      (each_some Keeps (to_supplier h m) (copy_at h (key_of m.target))
      (λ c e. each_when Keeps (is_none (held_at (served m.request h) (key_of m.target)))
      (reference m.target Done Supplier (c.supplier ∷ [])) (λ s. refl)))

  pub onward_keeps : (r : Reference) → find h m ≡ Onward r → key_of r.target ≡ key_of m.target
  onward_keeps r e =
      each_both Keeps (resolution_needs h m) (copied_needs h m) resolution_keeps copied_keeps r
      (subst (λ (rs : List Reference). In r rs) (sym (onward_resolution h m r e)) here)

  not_other : (up same : Bool) → same ≡ true → (up && not same) ≡ false
  not_other true same e = ap not e
  not_other false same e = refl

  pub onward_is_no_probe : (r : Reference) → fits m ≡ true → find h m ≡ Onward r
      → is_probe m.request.body r.target ≡ false
  onward_is_no_probe r fit e =
      let fitting : key_of (target_of m.request.body) ≡ key_of m.target =
      (key_decides (key_of (target_of m.request.body)) (key_of m.target)).0
      (both_true (same_name (target_of m.request.body) m.target) _ fit).0 in
      not_other (is_update m.request.body) (same_name (target_of m.request.body) r.target)
      ((key_decides (key_of (target_of m.request.body)) (key_of r.target)).1 (fitting ∙ sym (onward_keeps r e)))

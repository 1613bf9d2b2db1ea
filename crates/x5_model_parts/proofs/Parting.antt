-- What is carried by a reference to a part.
use Rattle.std.proofs.Common.{◌≡◌, ℕ, Bool, true, false, not, ◌&&◌, ◌||◌, ◌↔◌, List, refl, sym, ap, subst, ◌∙◌, Option, Some, if◌then◌else◌}
use Rattle.std.specs.Bool.{Decides}
use Rattle.std.specs.Option.{is_some}
use Rattle.x5_model.specs.Members.{In}
use Rattle.x5_model.specs.Keys.{KeyRdn}
use Rattle.x5_model.specs.Values.{Rdn, Name, key_of, key_of_rdn, last_rdn}
use Rattle.x5_model.specs.Requests.{Subset, Base, OneLevel, WholeSubtree, Body, Read, Compare, ListBelow, Search, AddEntry, RemoveEntry, ModifyEntry, ModifyDn, Request}
use Rattle.x5_model.specs.References.{Progress, Done, RefType, Reference, Chained}
use Rattle.x5_model.proofs.KeyLaws.{key_decides}
use Rattle.x5_model_tree.specs.Ask.{is_update}
use Rattle.x5_model_run.specs.Journal.{Line, is_done, is_wide, same_name}
use Rattle.x5_model_run.specs.Holdings.{may_copy}
use Rattle.x5_model_run.specs.Needs.{target_of, subset_of, by_pin, is_excluded}
use Rattle.x5_model_run.specs.Placed.{fits, is_query_below}
use Rattle.x5_model_run.specs.Chain.{IsCarried, probe_request, is_probe, part_subset, part_body, part_request, asks_part, is_user}
use Rattle.x5_model_theory.specs.Looking.{narrowed}
use Rattle.x5_model_theory.proofs.Following.{query_of, part_fits, pick_part, no_update}
use Rattle.x5_model_parts.proofs.Asking.{false_true, rdn_keys, listed_decides, same_exclusions}

pub same_bool : {P Q : Type 0} (a b : Bool) → Decides a P → Decides b Q → (P ↔ Q) → a ≡ b
same_bool true true d e h = refl
same_bool false false d e h = refl
same_bool true false d e h = absurd (false_true (e.1 (h.0 (d.0 refl))))
same_bool false true d e h = absurd (false_true (d.1 (h.1 (e.0 refl))))

pub excluded_by : (xs ys : List Rdn) (x : Name) → rdn_keys xs ≡ rdn_keys ys → is_excluded xs x ≡ true → is_excluded ys x ≡ true
excluded_by xs ys x e yes_out = (listed_decides ys (last_rdn x)).1 (subst (λ (ks : List KeyRdn). In (key_of_rdn (last_rdn x)) ks) e ((listed_decides xs (last_rdn x)).0 yes_out))

-- the subset that a part is asked with
part_is : (m n : Chained) (user wide : Bool) (sub : Subset) → subset_of m ≡ Some sub → n.request ≡ part_request user wide n.target m.request
    → (by_pin n ≡ true → wide ≡ false) → (by_pin n ≡ false → (wide ≡ true) × (sub ≡ Base → ⊥)) → subset_of n ≡ Some (if wide then sub else narrowed sub)
part_is m n user wide sub e is pinned free = ap (λ (r : Request). subset_of (record n { request = r })) is ∙ go m.request.body e
  where
    after : Body → Chained
    after b = record n { request = part_request user wide n.target (record m.request { body = b }) }

    go : (b : Body) → subset_of (record m { request = record m.request { body = b } }) ≡ Some sub → subset_of (record n { request = part_request user wide n.target (record m.request { body = b }) }) ≡ Some (if wide then sub else narrowed sub)
    go (Read name selection) e = cc
    go (Compare name assertion) e = cc
    go (ListBelow name) e = by (by_pin n) refl (by_pin m) e
      where
        by : (c : Bool) → by_pin n ≡ c → (d : Bool) → (if d then Some Base else Some OneLevel) ≡ Some sub → (if c then Some Base else Some OneLevel) ≡ Some (if wide then sub else narrowed sub)
        by true c true s = (let x : Base ≡ sub = cc in ap (λ (z : Subset). Some (narrowed z)) x ∙ ap (λ (b : Bool). Some (if b then sub else narrowed sub)) (sym (pinned c)))
        by true c false s = (let x : OneLevel ≡ sub = cc in ap (λ (z : Subset). Some (narrowed z)) x ∙ ap (λ (b : Bool). Some (if b then sub else narrowed sub)) (sym (pinned c)))
        by false c true s = (let x : Base ≡ sub = cc in absurd ((free c).1 (sym x)))
        by false c false s = s ∙ ap (λ (b : Bool). Some (if b then sub else narrowed sub)) (sym (free c).0)
    go (Search base subset g selection) e = by wide
      where
        is_sub : subset ≡ sub
        is_sub = cc

        by : (c : Bool) → Some (part_subset c subset) ≡ Some (if c then sub else narrowed sub)
        by true = ap Some (keeps subset) ∙ e
          where
            keeps : (s : Subset) → part_subset true s ≡ s
            keeps Base = refl
            keeps OneLevel = refl
            keeps WholeSubtree = refl
        by false = ap Some (narrows subset) ∙ ap (λ (z : Subset). Some (narrowed z)) is_sub
          where
            narrows : (s : Subset) → part_subset false s ≡ narrowed s
            narrows Base = refl
            narrows OneLevel = refl
            narrows WholeSubtree = refl
    go (AddEntry name attributes) e = cc
    go (RemoveEntry name) e = cc
    go (ModifyEntry name changes) e = cc
    go (ModifyDn name rdn drops) e = cc

module _ (l : Line) (sender : Option ℕ) (r : Reference) (m : Chained) (carried : IsCarried sender l r m) (part : asks_part r ≡ true) (sub : Subset) (asked : subset_of l.message ≡ Some sub) where
  query : is_query_below l.message.request.body ≡ true
  query = query_of l.message (ap is_some asked)

  pub request_is : m.request ≡ part_request (is_user sender) (is_wide r.kind) m.target l.message.request
  request_is =
      carried.request_is
      ∙ pick_part (is_probe l.message.request.body m.target) (asks_part r) (probe_request m.target) (part_request (is_user sender) (is_wide r.kind) m.target l.message.request) l.message.request
      (no_update (is_update l.message.request.body) (not (same_name (target_of l.message.request.body) m.target)) (part_fits (is_user sender) (is_wide r.kind) m.target l.message.request query).0) part

  pub target_fits : same_name (target_of m.request.body) m.target ≡ true
  target_fits =
      (key_decides (key_of (target_of m.request.body)) (key_of m.target)).1
      (ap (λ (x : Request). key_of (target_of x.body)) request_is ∙ ap key_of (part_fits (is_user sender) (is_wide r.kind) m.target l.message.request query).1)

  pub part_fitting : fits m ≡ true
  part_fitting =
      let q : is_query_below m.request.body ≡ true = ap (λ (x : Request). is_query_below x.body) request_is ∙ (part_fits (is_user sender) (is_wide r.kind) m.target l.message.request query).2 in
      both (same_name (target_of m.request.body) m.target) (not (is_done m.progress)) (is_query_below m.request.body) target_fits q
    where
      both : (a b c : Bool) → a ≡ true → c ≡ true → (a && (b || c)) ≡ true
      both true true c e f = refl
      both true false c e f = f
      both false b c e f = absurd (false_true e)

  pub target_is : key_of r.target ≡ key_of m.target
  target_is = (key_decides (key_of r.target) (key_of m.target)).0 carried.target_is

  pub exclusions_are : rdn_keys r.exclusions ≡ rdn_keys m.exclusions
  exclusions_are = same_exclusions r.exclusions m.exclusions carried.exclusions_are

  pub no_copies : may_copy l.message.request ≡ false → may_copy m.request ≡ false
  no_copies none =
      ap may_copy request_is
      ∙ go l.message.request.controls.nocopy (is_update l.message.request.body) (is_update (part_body (is_wide r.kind) m.target l.message.request.body)) (part_fits (is_user sender) (is_wide r.kind) m.target l.message.request query).0 none
    where
      go : (a b c : Bool) → b ≡ false → (not a && not b) ≡ false → (not a && not c) ≡ false
      go true b c e f = refl
      go false true c e f = absurd (false_true (sym e))
      go false false c e f = absurd (false_true (sym f))

  pub narrow_asked : r.progress ≡ Done → is_wide r.kind ≡ false → subset_of m ≡ Some (narrowed sub)
  narrow_asked done narrow =
      part_is l.message m (is_user sender) (is_wide r.kind) sub asked request_is (λ e. narrow) (λ e. absurd (false_true (sym e ∙ pinned)))
      ∙ ap (λ (b : Bool). Some (if b then sub else narrowed sub)) narrow
    where
      pinned : by_pin m ≡ true
      pinned = ap (λ (x : Progress). is_done x && not (is_wide m.kind)) (carried.progress_is ∙ done) ∙ ap (λ (x : RefType). not (is_wide x)) carried.kind_is ∙ ap not narrow

  pub wide_asked : is_wide r.kind ≡ true → (sub ≡ Base → ⊥) → subset_of m ≡ Some sub
  wide_asked wide other =
      part_is l.message m (is_user sender) (is_wide r.kind) sub asked request_is (λ e. absurd (false_true (sym free ∙ e))) (λ e. (wide, other))
      ∙ ap (λ (b : Bool). Some (if b then sub else narrowed sub)) wide
    where
      never : (b : Bool) → (b && false) ≡ false
      never true = refl
      never false = refl

      free : by_pin m ≡ false
      free = ap (λ (x : RefType). is_done m.progress && not (is_wide x)) carried.kind_is ∙ ap (λ (b : Bool). is_done m.progress && not b) wide ∙ never (is_done m.progress)

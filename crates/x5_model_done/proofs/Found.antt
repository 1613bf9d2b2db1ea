-- What is found says of the message: where it is the root, the target is; where it is below an entry, the name came
-- completed. So a read, a compare or an update that isn't refused by the request alone finds neither. By the cases of
-- name resolution.
use Rattle.std.proofs.Common.{◌≡◌, ℕ, ◌-◌, nat_lt, Bool, true, false, not, ◌||◌, List, [], ◌∷◌, ◌++◌, length, refl, sym, ap, subst, ◌∙◌, Option, Some, None, cond, arith}
use Rattle.std.specs.Option.{is_some}
use Rattle.std.specs.List.{flat_map}
use Rattle.std.proofs.lemmas.Bool.Decides.{Decides-eqb, Decides-ltb}
use Rattle.std.proofs.lemmas.List.{length-take}
use Rattle.x5_model.specs.Words.{is_empty, first_of, when}
use Rattle.x5_model.specs.Keys.{Key, is_root}
use Rattle.x5_model.specs.Values.{Name, key_of, name_above}
use Rattle.x5_model.specs.Entries.{Named}
use Rattle.x5_model.specs.Requests.{Base, OneLevel, Body, Read, Compare, ListBelow, Search, AddEntry, RemoveEntry, ModifyEntry, ModifyDn}
use Rattle.x5_model.specs.References.{Progress, Start, Next, Done, Reference, Chained}
use Rattle.x5_model.specs.Answers.{DirError}
use Rattle.x5_model.specs.Statics.{name_refusals, given, value_refusals, repeat_refusals, added_refusals, static_refusals, fault_of}
use Rattle.x5_model.proofs.KeyLaws.{key_decides}
use Rattle.x5_model.proofs.Lists.{both_true, left_empty, when_empty}
use Rattle.x5_model_tree.specs.Tree.{lowest}
use Rattle.x5_model_run.specs.Journal.{same_name, is_done, is_wide}
use Rattle.x5_model_run.specs.Holdings.{Held, Copy, Holdings, held_at, copy_at, known_pin, holds_within}
use Rattle.x5_model_run.specs.Needs.{target_of, superior_needs, multicast_needs, supplier_needs, copy_answers, specific_needs, copied_needs, by_pin, subset_of}
use Rattle.x5_model_run.specs.Placed.{is_query_below}
use Rattle.x5_model_theory.proofs.Stages.{key_length}
use Rattle.x5_model_serve.specs.Finding.{Found, Here, CopyHere, Root, Below, Onward, Nowhere, Stuck, by_first, in_own, in_copy, at_pin, resolved, completed_copy, completed_own, completed, find, IsLooked}
use Rattle.x5_model_find.proofs.Needing.{false_true}

-- what it says
abbrev pub Says : Chained → Found → Type 0
Says m (Here c) = Unit {0}
Says m (CopyHere c) = Unit {0}
Says m Root = is_root (key_of m.target) ≡ true
Says m Below = is_done m.progress ≡ true
Says m (Onward r) = Unit {0}
Says m (Nowhere n) = Unit {0}
Says m Stuck = Unit {0}

module _ (h : Holdings) (m : Chained) where
  first_says : (rs : List Reference) (other : Found) → Says m other → Says m (by_first rs other)
  first_says [] other f = f
  first_says (r ∷ rs) other f = tt

  if_says : (b : Bool) (x y : Found) → (b ≡ true → Says m x) → Says m y → Says m (cond b x y)
  if_says true x y f g = f refl
  if_says false x y f g = g

  own_says : (c : Held) → Says m (in_own h m c)
  own_says c = by (lowest c.entries (key_of m.target)) refl
    where
      by : (o : Option Named) → lowest c.entries (key_of m.target) ≡ o → Says m (in_own h m c)
      by None e = rw e tt
      by (Some x) e = rw e (if_says (same_name x.name m.target) (Here c) (by_first (multicast_needs h m c)
          (Nowhere x.name)) (λ k. tt)
          (first_says (multicast_needs h m c) (Nowhere x.name) tt))

  copy_says : (c : Copy) → Says m (in_copy h m c)
  copy_says c = if_says (copy_answers h m c) (CopyHere c) (by_first (supplier_needs h m c) Stuck) (λ k. tt)
      (first_says (supplier_needs h m c) Stuck tt)

  pin_says : (o : Option Key) → Says m (at_pin h m o)
  pin_says None = first_says (superior_needs h m) (cond (is_root (key_of m.target)) Root (Nowhere []))
      (if_says (is_root (key_of m.target)) Root (Nowhere []) (λ k. k) tt)
  pin_says (Some q) = by_own (held_at h.own q) refl
    where
      by_copy : held_at h.own q ≡ None → (o : Option Copy) → copy_at h q ≡ o → Says m (at_pin h m (Some q))
      by_copy e None f = rw (e, f) (first_says (specific_needs h m q) Stuck tt)
      by_copy e (Some c) f = rw (e, f) (copy_says c)

      by_own : (o : Option Held) → held_at h.own q ≡ o → Says m (at_pin h m (Some q))
      by_own None e = by_copy e (copy_at h q) refl
      by_own (Some c) e = rw e (own_says c)

  resolved_says : Says m (resolved h m)
  resolved_says = pin_says (known_pin m.request h (key_of m.target))

  kept_copy_says : (o : Option Copy) → Says m (completed_copy h m o)
  kept_copy_says None = tt
  kept_copy_says (Some c) = first_says (copied_needs h m) (CopyHere c) tt

  kept_own_says : (o : Option Held) → Says m (completed_own h m o)
  kept_own_says None = kept_copy_says (copy_at h (key_of m.target))
  kept_own_says (Some c) = tt

  pub found_says : Says m (find h m)
  found_says = by m.progress refl
    where
      next : (k : ℕ) → m.progress ≡ Next k → (b : Bool) → holds_within h (key_of m.target) k ≡ b → Says m (find h m)
      next k q true w = subst (λ (f : Found). Says m f) (sym (let e : find h m ≡ resolved h m = rw
          (q, w) refl in e)) resolved_says
      next k q false w = subst (λ (f : Found). Says m f) (sym (let e : find h m ≡ Stuck = rw (q, w) refl in e)) tt

      at_done : m.progress ≡ Done → (b : Bool) → is_wide m.kind ≡ b → Says m (find h m)
      at_done q true w = subst (λ (f : Found). Says m f) (sym (let e : find h m ≡ Below = rw (q, w) refl in e))
          (ap is_done q)
      at_done q false w =
          subst (λ (f : Found). Says m f) (sym (let e : find h m ≡ completed h m = rw (q, w) refl in e))
          (kept_own_says (held_at h.own (key_of m.target)))

      by : (x : Progress) → m.progress ≡ x → Says m (find h m)
      by Start q = subst (λ (f : Found). Says m f) (sym
          (let e : find h m ≡ resolved h m = rw q refl in e)) resolved_says
      by (Next k) q = next k q (holds_within h (key_of m.target) k) refl
      by Done q = at_done q (is_wide m.kind) refl

-- ---- the root is asked of by lists and searches alone

none_first : (xs : List DirError) → first_of xs ≡ None → xs ≡ []
none_first [] e = refl
none_first (x ∷ xs) e = cc

unnamed : (b : Body) → fault_of b ≡ None → name_refusals b ≡ []
unnamed b e =
    let all : static_refusals b ≡ [] = none_first (static_refusals b) e in
    left_empty (name_refusals b) (flat_map value_refusals (given b))
    (left_empty (name_refusals b ++ flat_map value_refusals (given b)) (repeat_refusals b)
    (left_empty (name_refusals b ++ flat_map value_refusals (given b) ++ repeat_refusals b) (added_refusals b) all))

root_name : (n : Name) → is_root (key_of n) ≡ true → is_empty n ≡ true
root_name [] e = refl
root_name (x ∷ xs) e = absurd (let z : length (key_of (x ∷ xs)) ≡ 0 = (Decides-eqb (length (key_of
    (x ∷ xs))) 0).0 e in omega (arith, z))

no_root : (n : Name) (y : DirError) → when (is_empty n) y ≡ [] → is_root (key_of n) ≡ true → ⊥
no_root n y e r = false_true (sym (when_empty (is_empty n) y e) ∙ root_name n r)

short_name : (n : Name) → is_root (key_of (name_above n)) ≡ true → nat_lt (length n) 2 ≡ true
short_name n e =
    let empty : length (key_of (name_above n)) ≡ 0 = (Decides-eqb (length (key_of (name_above n))) 0).0 e in
    let above : length (name_above n) ≡ 0 = sym (key_length (name_above n)) ∙ empty in
    let shorter = length-take (length n - 1) n in
    (Decides-ltb (length n) 2).1 (omega (arith, above, shorter))

root_query : (b : Body) → fault_of b ≡ None → is_root (key_of (target_of b)) ≡ true → is_query_below b ≡ true
root_query (Read name selection) e r = absurd (no_root name _ (unnamed (Read name selection) e) r)
root_query (Compare name a) e r = absurd (no_root name _ (unnamed (Compare name a) e) r)
root_query (ListBelow name) e r = refl
root_query (Search base subset f selection) e r = refl
root_query (AddEntry name attributes) e r =
    absurd (false_true (sym (when_empty (nat_lt (length name) 2) _ (unnamed (AddEntry name attributes) e))
    ∙ short_name name r))
root_query (RemoveEntry name) e r = absurd (no_root name _ (unnamed (RemoveEntry name) e) r)
root_query (ModifyEntry name changes) e r = absurd (no_root name _ (unnamed (ModifyEntry name changes) e) r)
root_query (ModifyDn name rdn drops) e r = absurd (no_root name _ (unnamed (ModifyDn name rdn drops) e) r)

-- so who finds either has a list or search
is_listed : (m : Chained) → is_query_below m.request.body ≡ true → is_some (subset_of m) ≡ true
is_listed m e = go m.request.body e
  where
    go : (b : Body) → is_query_below b ≡ true
        → is_some (subset_of (record m { request = record m.request { body = b } })) ≡ true
    go (ListBelow name) e = pinned (by_pin m)
      where
        pinned : (b : Bool) → is_some (cond b (Some Base) (Some OneLevel)) ≡ true
        pinned true = refl
        pinned false = refl
    go (Search base subset f selection) e = refl
    go b e = absurd (false_true e)

module _ (h : Holdings) (m : Chained) (looked : IsLooked m) where
  pub root_lists : find h m ≡ Root → is_some (subset_of m) ≡ true
  root_lists e =
      let r : is_root (key_of m.target) ≡ true = subst (λ (f : Found). Says m f) e (found_says h m) in
      let same : key_of (target_of m.request.body) ≡ key_of m.target =
      (key_decides (key_of (target_of m.request.body)) (key_of m.target)).0 (both_true (same_name
      (target_of m.request.body) m.target) _ looked.1).0 in
      is_listed m (root_query m.request.body looked.0 (ap is_root same ∙ r))

  pub below_lists : find h m ≡ Below → is_some (subset_of m) ≡ true
  below_lists e =
      let d : is_done m.progress ≡ true = subst (λ (f : Found). Says m f) e (found_says h m) in
      is_listed m (go (is_done m.progress) (is_query_below m.request.body) (both_true (same_name
      (target_of m.request.body) m.target) _ looked.1).1 d)
    where
      go : (b c : Bool) → (not b || c) ≡ true → b ≡ true → c ≡ true
      go true c f g = f
      go false c f g = absurd (false_true g)

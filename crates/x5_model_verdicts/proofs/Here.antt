-- An update whose target is found in a context of the agent's own was resolved there, and its target is the lowest
-- entry on the way: by cases of `find`.
use Rattle.std.proofs.Common.{◌≡◌, Bool, true, false, cond, not, ◌||◌, List, [], ◌∷◌, refl, sym, ap, subst, ◌∙◌, Option, Some, None}
use Rattle.x5_model.specs.Members.{In}
use Rattle.x5_model.specs.Keys.{Key, same_key, is_root}
use Rattle.x5_model.specs.Values.{key_of}
use Rattle.x5_model.specs.Entries.{Named}
use Rattle.x5_model.specs.Requests.{Body, Read, Compare, ListBelow, Search, AddEntry, RemoveEntry, ModifyEntry, ModifyDn}
use Rattle.x5_model.specs.References.{Progress, Start, Next, Done, Reference, Chained}
use Rattle.x5_model.proofs.Lists.{both_true, of_find}
use Rattle.x5_model_tree.specs.Tree.{lowest}
use Rattle.x5_model_tree.specs.Ask.{is_update}
use Rattle.x5_model_run.specs.Journal.{same_name, is_done}
use Rattle.x5_model_run.specs.Holdings.{Held, Copy, Holdings, held_at, copy_at, known_pin, holds_within}
use Rattle.x5_model_run.specs.Needs.{target_of, resolves, superior_needs, multicast_needs, copy_answers, specific_needs}
use Rattle.x5_model_run.specs.Placed.{fits, is_query_below}
use Rattle.x5_model_serve.specs.Finding.{Found, Here, CopyHere, Root, Nowhere, Stuck, by_first, in_own, in_copy, at_pin, resolved, find, found_by}

-- a name found here is an entry of a context that is mastered
pub record IsHere (h : Holdings) (m : Chained) (c : Held) : Type 0 where
  pub own : In c h.own
  pub entry : Named
  pub lowest_is : lowest c.entries (key_of m.target) ≡ Some entry
  pub same : same_name entry.name m.target ≡ true

not_first : (rs : List Reference) (other : Found) (c : Held) → (other ≡ Here c → ⊥) → by_first rs other ≡ Here c → ⊥
not_first [] other c never e = never e
not_first (r ∷ rs) other c never e = cc

inside : (a b : Held) → Here a ≡ Here b → a ≡ b
inside a b e = cc

module _ (h : Holdings) (m : Chained) (c : Held) where
  own_here : (d : Held) → In d h.own → in_own h m d ≡ Here c → IsHere h m c
  own_here d i e = by (lowest d.entries (key_of m.target)) refl
    where
      there : (x : Named) → lowest d.entries (key_of m.target) ≡ Some x → (b : Bool) → same_name x.name m.target ≡ b → IsHere h m c
      there x q true k =
          let f : d ≡ c = inside d c (rw (q, k) at e) in
          subst (λ (y : Held). IsHere h m y) f (record { own = i; entry = x; lowest_is = q; same = k })
      there x q false k =
          let f : by_first (multicast_needs h m d) (Nowhere x.name) ≡ Here c = rw (q, k) at e in
          absurd (not_first (multicast_needs h m d) (Nowhere x.name) c (λ z. cc) f)

      by : (x : Option Named) → lowest d.entries (key_of m.target) ≡ x → IsHere h m c
      by None q = (let f : Nowhere [] ≡ Here c = rw q at e in cc)
      by (Some x) q = there x q (same_name x.name m.target) refl

  copy_here : (d : Copy) → in_copy h m d ≡ Here c → ⊥
  copy_here d e = by (copy_answers h m d) refl
    where
      by : (b : Bool) → copy_answers h m d ≡ b → ⊥
      by true q = (let f : CopyHere d ≡ Here c = rw q at e in cc)
      by false q = (let f = rw q at e in cc)

  pin_here : (o : Option Key) → at_pin h m o ≡ Here c → IsHere h m c
  pin_here None e = absurd (not_first (superior_needs h m) _ c (root (is_root (key_of m.target))) e)
    where
      root : (b : Bool) → cond b Root (Nowhere []) ≡ Here c → ⊥
      root true z = cc
      root false z = cc
  pin_here (Some p) e = by_own (held_at h.own p) refl
    where
      by_copy : held_at h.own p ≡ None → (x : Option Copy) → copy_at h p ≡ x → ⊥
      by_copy k None q = (let f : by_first (specific_needs h m p) Stuck ≡ Here c = rw (k, q) at e in not_first (specific_needs h m p) Stuck c (λ z. cc) f)
      by_copy k (Some d) q = (let f : in_copy h m d ≡ Here c = rw (k, q) at e in copy_here d f)

      by_own : (x : Option Held) → held_at h.own p ≡ x → IsHere h m c
      by_own None q = absurd (by_copy q (copy_at h p) refl)
      by_own (Some d) q =
          let f : in_own h m d ≡ Here c = rw q at e in
          own_here d (of_find (λ (x : Held). same_key (key_of x.prefix) p) d h.own q).0 f

no_query : (body : Body) → is_update body ≡ true → is_query_below body ≡ false
no_query (Read name selection) u = refl
no_query (Compare name assertion) u = refl
no_query (ListBelow name) u = cc
no_query (Search base subset f selection) u = cc
no_query (AddEntry name attributes) u = refl
no_query (RemoveEntry name) u = refl
no_query (ModifyEntry name changes) u = refl
no_query (ModifyDn name rdn drops) u = refl

abbrev pub resolves_by : Holdings → Key → Progress → Bool
resolves_by h key Start = true
resolves_by h key (Next k) = holds_within h key k
resolves_by h key Done = false

-- an update that is found here was resolved here
pub found_here : (h : Holdings) (m : Chained) (c : Held) → fits m ≡ true → is_update m.request.body ≡ true → find h m ≡ Here c → (resolves h m ≡ true) × IsHere h m c
found_here h m c fit up e = by m.progress refl e
  where
    by : (x : Progress) → m.progress ≡ x → found_by h m x ≡ Here c → (resolves h m ≡ true) × IsHere h m c
    by Start q f = (ap (resolves_by h (key_of m.target)) q, pin_here h m c (known_pin m.request h (key_of m.target)) f)
    by (Next k) q f = within (holds_within h (key_of m.target) k) refl
      where
        within : (b : Bool) → holds_within h (key_of m.target) k ≡ b → (resolves h m ≡ true) × IsHere h m c
        within true w = (
          ap (resolves_by h (key_of m.target)) q ∙ w,
          pin_here h m c (known_pin m.request h (key_of m.target)) (sym (ap (λ (b : Bool). cond b (resolved h m) Stuck) w) ∙ f),
        )
        within false w = (let g : Stuck ≡ Here c = sym (ap (λ (b : Bool). cond b (resolved h m) Stuck) w) ∙ f in cc)
    by Done q f =
        let fit2 = (both_true (same_name (target_of m.request.body) m.target) (not (is_done m.progress) || is_query_below m.request.body) fit).1 in
        let g : (not (is_done Done) || false) ≡ true =
        subst (λ (x : Progress). (not (is_done x) || false) ≡ true) q (subst (λ (b : Bool). (not (is_done m.progress) || b) ≡ true) (no_query m.request.body up) fit2) in
        cc

-- The tree after an accepted update: its entries, its keys, and its parts.
use Rattle.std.proofs.Common.{◌≡◌, ◌≢◌, true, ◌⊎◌, ◌↔◌, inl, inr, List, refl, sym, ap, subst, ◌∙◌, Some, Ok}
use Rattle.x5_model.specs.Words.{ascending}
use Rattle.x5_model.specs.Members.{In}
use Rattle.x5_model.specs.Keys.{Key, parent}
use Rattle.x5_model.specs.Values.{key_of}
use Rattle.x5_model.specs.Entries.{Named}
use Rattle.x5_model.specs.Requests.{Body, Read, Compare, ListBelow, Search, AddEntry, RemoveEntry, ModifyEntry, ModifyDn}
use Rattle.x5_model.proofs.Lists.{in_filter, of_filter}
use Rattle.x5_model.proofs.Ascending.{filter_ascending}
use Rattle.x5_model_tree.specs.Tree.{Tree, key_at, named_below, entry_at, belongs, part}
use Rattle.x5_model_tree.specs.Ask.{is_update}
use Rattle.x5_model_tree.specs.Apply.{ground_of, update, apply_over}
use Rattle.x5_model_tree.proofs.Order.{named_chain, one_list_of_entries}
use Rattle.x5_model_tree.proofs.Longest.{IsLongest, longest_is, belongs_decides}
use Rattle.x5_model_tree.proofs.Grown.{above_key}
use Rattle.x5_model_run.specs.Needs.{target_of}
use Rattle.x5_model_theory.specs.Knowledge.{Knowledge, Area}
use Rattle.x5_model_theory.specs.Coherent.{Coherent}
use Rattle.x5_model_updates.specs.Standing.{IsTreeOf}
use Rattle.x5_model_updates.specs.Afterwards.{only_part, EntriesAfter, KeysAfter, PartsAfter}
use Rattle.x5_model_updates.proofs.Lookups.{entry_found}
use Rattle.x5_model_updates.proofs.Outcomes.{ok_list, same_list, added, removed, changed_so, renamed_so, over_update, accepted_over, tree_made}
use Rattle.x5_model_updates.proofs.Trees.{area_of_entry, longest_own, of_part, in_part}
use Rattle.x5_model_updates.proofs.Listed.{Gives, KeyFacts, keys_listed}
use Rattle.x5_model_updates.proofs.Divided.{Made, one_pin, add_made, remove_made, modify_made, rename_made}

module _ (k : Knowledge) (t : Tree) (good : Coherent k) (is : IsTreeOf k t) where
  -- the context of an entry that is found
  at_found : (x : Key) (e : Named) → entry_at t.entries x ≡ Some e → (c : Area) × In c k.areas × In x c.entries
  at_found x e q =
      let w = entry_found t.entries x e q in
      let d = area_of_entry k t good is e w.0 in
      (d.0, d.1, subst (λ (y : Key). In y d.0.entries) w.1 d.2)

  -- the target of an accepted update is an entry
  pub target_in : (body : Body) (us : List Named) → is_update body ≡ true → update (ground_of t) body ≡ Ok us → (c : Area) × In c k.areas × In (key_of (target_of body)) c.entries
  target_in (Read name selection) us u h = cc
  target_in (Compare name assertion) us u h = cc
  target_in (ListBelow name) us u h = cc
  target_in (Search base subset f selection) us u h = cc
  target_in (AddEntry name attributes) us u h =
      let a = added (ground_of t) name attributes us h in
      let d = at_found (parent (key_of name)) a.above a.there in
      (d.0, d.1, subst (λ (y : Key). In y d.0.entries) (sym (above_key name)) d.2)
  target_in (RemoveEntry name) us u h = (let a = removed (ground_of t) name us h in at_found (key_of name) a.at a.there)
  target_in (ModifyEntry name changes) us u h = (let a = changed_so (ground_of t) name changes us h in at_found (key_of name) a.at a.there)
  target_in (ModifyDn name rdn drops) us u h = (let a = renamed_so (ground_of t) name rdn drops us h in at_found (key_of name) a.at a.there)

  pub made_by : (body : Body) (us : List Named) (c : Area) → is_update body ≡ true → update (ground_of t) body ≡ Ok us → In c k.areas → In (key_of (target_of body)) c.entries → Made t c.prefix body us
  made_by (Read name selection) us c u h i own = cc
  made_by (Compare name assertion) us c u h i own = cc
  made_by (ListBelow name) us c u h i own = cc
  made_by (Search base subset f selection) us c u h i own = cc
  made_by (AddEntry name attributes) us c u h i own = add_made k t good is name attributes us c i (subst (λ (y : Key). In y c.entries) (above_key name) own) h
  made_by (RemoveEntry name) us c u h i own = remove_made k t good is name us c i own h
  made_by (ModifyEntry name changes) us c u h i own = modify_made k t good is name changes us c i own h
  made_by (ModifyDn name rdn drops) us c u h i own = rename_made k t good is name rdn drops us c i own h

  -- a query leaves the entries
  same_gives : (us : List Named) → ok_list t.entries ≡ Ok us → (ascending named_below us ≡ true) × ((e : Named) → In e us ↔ In e t.entries)
  same_gives us h =
      let s : t.entries ≡ us = same_list t.entries us h in (
        subst (λ (xs : List Named). ascending named_below xs ≡ true) s is.in_order,
        λ e. (λ i. subst (λ (xs : List Named). In e xs) (sym s) i, λ i. subst (λ (xs : List Named). In e xs) s i),
      )

  pub gives_by : (body : Body) (us : List Named) → update (ground_of t) body ≡ Ok us → Gives t.entries body us × KeyFacts t.entries body
  gives_by (Read name selection) us h = (same_gives us h, tt)
  gives_by (Compare name assertion) us h = (same_gives us h, tt)
  gives_by (ListBelow name) us h = (same_gives us h, tt)
  gives_by (Search base subset f selection) us h = (same_gives us h, tt)
  gives_by (AddEntry name attributes) us h = (let d = target_in (AddEntry name attributes) us refl h in let m = made_by (AddEntry name attributes) us d.0 refl h d.1 d.2 in (m.gives, m.facts))
  gives_by (RemoveEntry name) us h = (let d = target_in (RemoveEntry name) us refl h in let m = made_by (RemoveEntry name) us d.0 refl h d.1 d.2 in (m.gives, m.facts))
  gives_by (ModifyEntry name changes) us h = (let d = target_in (ModifyEntry name changes) us refl h in let m = made_by (ModifyEntry name changes) us d.0 refl h d.1 d.2 in (m.gives, m.facts))
  gives_by (ModifyDn name rdn drops) us h = (let d = target_in (ModifyDn name rdn drops) us refl h in let m = made_by (ModifyDn name rdn drops) us d.0 refl h d.1 d.2 in (m.gives, m.facts))

  -- ---- parts

  module _ (us : List Named) (body : Body) (c : Area) (i : In c k.areas) (m : Made t c.prefix body us) where
    abbrev U : Tree
    U = record t { entries = us }

    pub of_new_part : (q : Key) (e : Named) → In e (part U q) → In e us × IsLongest t.pins (key_at e) (Some q)
    of_new_part q e j = (let w = of_filter (λ (x : Named). belongs t.pins q (key_at x)) e us j in (w.0, (belongs_decides t.pins q (key_at e)).0 w.1))

    pub in_new_part : (q : Key) (e : Named) → In e us → IsLongest t.pins (key_at e) (Some q) → In e (part U q)
    in_new_part q e j l = in_filter (λ (x : Named). belongs t.pins q (key_at x)) e us j ((belongs_decides t.pins q (key_at e)).1 l)

    new_in_order : (q : Key) → ascending named_below (part U q) ≡ true
    new_in_order q = filter_ascending named_below named_chain (λ (x : Named). belongs t.pins q (key_at x)) us m.gives.0

    old_in_order : (q : Key) → ascending named_below (part t q) ≡ true
    old_in_order q = filter_ascending named_below named_chain (λ (x : Named). belongs t.pins q (key_at x)) t.entries is.in_order

    pub own_part : part U c.prefix ≡ m.alone
    own_part =
        one_list_of_entries (part U c.prefix) m.alone (new_in_order c.prefix) m.alone_gives.0
        (λ e j. (let w = of_new_part c.prefix e j in (m.alone_gives.1 e).1 (m.inner e ((m.gives.1 e).0 w.0) w.1)))
        (λ e j. (let w = m.outer e ((m.alone_gives.1 e).0 j) in in_new_part c.prefix e ((m.gives.1 e).1 w.0) w.1))

    pub other_part : (q : Key) → q ≢ c.prefix → part U q ≡ part t q
    other_part q o =
        one_list_of_entries (part U q) (part t q) (new_in_order q) (old_in_order q)
        (λ e j. (let w = of_new_part q e j in in_part k t good is q e (old q o e w.1 (m.covered t.entries (λ x y. y) e ((m.gives.1 e).0 w.0))) w.1))
        (λ e j. (let w = of_part k t good is q e j in in_new_part q e ((m.gives.1 e).1 (m.others t.entries (λ x y. y) e q o w.1 w.0)) w.1))
      where
        old : (q : Key) → q ≢ c.prefix → (e : Named) → IsLongest t.pins (key_at e) (Some q) → In e t.entries ⊎ IsLongest t.pins (key_at e) (Some c.prefix) → In e t.entries
        old q o e l (inl j) = j
        old q o e l (inr m) = absurd (o (one_pin t.pins (key_at e) q c.prefix l m))

pub entries_after : EntriesAfter
entries_after k t u r good is h =
    let w = tree_made t u r h in
    let v = accepted_over (ground_of t) r.body u.entries w.0 in
    let g = gives_by k t good is r.body u.entries v.1 in
    (g.0.0, ap (λ (x : Tree). x.pins) w.1, g.0.1)

pub keys_after : KeysAfter
keys_after k t u r x good is h =
    let w = tree_made t u r h in
    let v = accepted_over (ground_of t) r.body u.entries w.0 in
    let g = gives_by k t good is r.body u.entries v.1 in
    keys_listed t.entries u.entries r.body x g.1 g.0

pub parts_after : PartsAfter
parts_after k t u r pin good is up h long =
    let w = tree_made t u r h in
    let v = accepted_over (ground_of t) r.body u.entries w.0 in
    let d = target_in k t good is r.body u.entries up v.1 in
    let m = made_by k t good is r.body u.entries d.0 up v.1 d.1 d.2 in
    let same : pin ≡ d.0.prefix = some_key pin d.0.prefix (sym long ∙ longest_is t.pins (key_of (target_of r.body)) d.0.prefix (longest_own k t good is d.0 (key_of (target_of r.body)) d.1 d.2)) in
    let parts : (q : Key) → part u q ≡ part (record t { entries = u.entries }) q = (λ q. ap (λ (x : Tree). part x q) w.1) in (
      subst (λ (x : Key). apply_over (ground_of (only_part t x)) r.body ≡ ok_list (part u x)) (sym same)
          (over_update (ground_of (only_part t d.0.prefix)) r.body v.0 ∙ m.alone_made ∙ ap ok_list (sym (parts d.0.prefix ∙ own_part k t good is u.entries r.body d.0 d.1 m))),
      λ q i o. parts q ∙ other_part k t good is u.entries r.body d.0 d.1 m q (λ s. o (s ∙ sym same)),
    )
  where
    some_key : (a b : Key) → Some a ≡ Some b → a ≡ b
    some_key a b e = cc

-- An accepted update leaves entries that can be sent where it found such, and what its master notes of it can be sent.
use Rattle.std.proofs.Common.{◌≡◌, Bool, true, false, not, inl, inr, List, [], ◌∷◌, ◌++◌, map, refl, sym, subst, arith, Option, Some, None, Ok, Err, if◌then◌else◌}
use Rattle.std.specs.Prelude.{⊤}
use Rattle.std.specs.Option.{option_map}
use Rattle.x5_model.specs.Words.{in_option}
use Rattle.x5_model.specs.Keys.{same_key, is_prefix, parent}
use Rattle.x5_model.specs.Values.{Rdn, Name, key_of, last_rdn}
use Rattle.x5_model.specs.Entries.{Entry, Named}
use Rattle.x5_model.specs.Attributes.{is_ordered, added_entry}
use Rattle.x5_model.specs.Changes.{ChangedEntry, modified, renamed}
use Rattle.x5_model.specs.Requests.{Attribute, Change, Body, Read, Compare, ListBelow, Search, AddEntry, RemoveEntry, ModifyEntry, ModifyDn, Request}
use Rattle.x5_model.specs.Statics.{fault_of}
use Rattle.x5_model.proofs.Lists.{in_first, in_either, of_filter, of_map, of_all, all_in}
use Rattle.x5_model.proofs.Ascending.{of_sorted}
use Rattle.x5_model_tree.specs.Described.{is_stored_attribute}
use Rattle.x5_model_tree.specs.Tree.{Tree, key_at, named_below, sorted_entries, entry_at}
use Rattle.x5_model_tree.specs.Apply.{Ground, add, remove, modify, rename, update, ground_of, apply}
use Rattle.x5_model_updates.specs.Afterwards.{new_entry, name_after}
use Rattle.x5_model_updates.proofs.Lookups.{entry_found}
use Rattle.x5_model_updates.proofs.Ordered.{added_ordered, modified_ordered, renamed_ordered}
use Rattle.x5_model_updates.proofs.Outcomes.{moved_entry, ok_list, same_list, added, removed, changed_so, renamed_so, accepted_over, tree_made}
use Rattle.x5_model_refreshed.specs.Steps.{Step, Add, Remove, Modify, Rename, modify_step, step_of}
use Rattle.x5_model_fitting.specs.Names.{Each}
use Rattle.x5_model_fitting.specs.Requests.{ChangeWithin, BodyWithin, RequestWithin}
use Rattle.x5_model_limits.specs.Holding.{BoundedEntry}
use Rattle.x5_model_limits.specs.Steps.{BoundedStep}
use Rattle.x5_model_limits.proofs.Committing.{applied_bounded, no_name_refusals, two_rdns, one_rdn}
use Rattle.x5_model_limits.proofs.Spelling.{last_within}
use Rattle.x5_model_limits.proofs.Stepping.{noted_bounded}
use Rattle.x5_model_shadowed.specs.Sending.{SendableEntry, SendableStep}
use Rattle.x5_model_shadowing.proofs.OfKinds.{AreOfKinds, rdn_kept, renamed_kept, added_kept, modified_keeps}

-- ---- attributes in order, of values of their types' kinds

pub record Right (e : Entry) : Type 0 where
  pub kinds : AreOfKinds e
  pub ordered : is_ordered e ≡ true

abbrev pub IsRight : Named → Type 0
IsRight e = Right e.entry

pub right_of : (e : Named) → SendableEntry e → IsRight e
right_of e h = record { kinds = λ a i. of_all is_stored_attribute a e.entry.attributes h.kinds i; ordered = h.ordered }

pub sendable_of : (e : Named) → BoundedEntry e → IsRight e → SendableEntry e
sendable_of e b h =
    record { bounded = b; kinds = all_in is_stored_attribute e.entry.attributes h.kinds; ordered = h.ordered }

added_right : (name : Name) (ts : List Attribute) → fault_of (AddEntry name ts) ≡ None → BodyWithin (AddEntry name ts)
    → Right (added_entry (last_rdn name) ts)
added_right name ts none within = record {
  kinds =
      added_kept (last_rdn name) ts
      (last_within name (let two = two_rdns name ts none in omega (arith, two)) within.0)
      within.1;
  ordered = added_ordered name ts none;
}

modified_right : (name : Name) (cs : List Change) (e f : Entry) → Each ChangeWithin cs → Right e
    → modified (last_rdn name) cs e ≡ Ok f → Right f
modified_right name cs e f each h q = record {
  kinds = modified_keeps (last_rdn name) cs each e f h.kinds q;
  ordered = modified_ordered name cs e f h.ordered q;
}

renamed_right : (name : Name) (rdn : Rdn) (drops : Bool) (e : Entry) → fault_of (ModifyDn name rdn drops) ≡ None
    → BodyWithin (ModifyDn name rdn drops) → Right e → Right (renamed (last_rdn name) rdn drops e)
renamed_right name rdn drops e none within h = record {
  kinds =
      renamed_kept (last_rdn name) rdn drops e
      (rdn_kept (last_rdn name)
      (last_within name (one_rdn name (no_name_refusals (ModifyDn name rdn drops) none)) within.0))
      (rdn_kept rdn within.1) h.kinds;
  ordered = renamed_ordered (last_rdn name) rdn drops e h.ordered;
}

-- ---- entries afterwards

moved_right : (name : Name) (rdn : Rdn) (new : Entry) (e : Named) → Right new → IsRight e
    → IsRight (moved_entry name rdn new e)
moved_right name rdn new e n h = by (same_key (key_at e) (key_of name))
  where
    below : (b : Bool) → IsRight (if b then record e { name = name_after name rdn e } else e)
    below true = h
    below false = h

    by : (b : Bool) → IsRight (if b then record { name = name_after name rdn e; entry = new }
        else (if is_prefix (key_of name) (key_at e) then record e { name = name_after name rdn e } else e))
    by true = n
    by false = below (is_prefix (key_of name) (key_at e))

module _ (g : Ground) (h : Each IsRight g.entries) where
  sorted_right : (es : List Named) → Each IsRight es → Each IsRight (sorted_entries es)
  sorted_right es each e i = each e (of_sorted named_below e es i)

  after_add : (name : Name) (ts : List Attribute) (us : List Named) → fault_of (AddEntry name ts) ≡ None
      → BodyWithin (AddEntry name ts) → add g name ts ≡ Ok us → Each IsRight us
  after_add name ts us none within q =
      let a = added g name ts us q in
      let new = new_entry a.above name ts in
      let b : IsRight new = added_right name ts none within in
      subst (Each IsRight) (sym a.made) (sorted_right (g.entries ++ new ∷ []) (λ e i.
      elim (in_either e g.entries (new ∷ []) i) [
        | inl j ↦ h e j
        | inr j ↦ elim (in_first e new [] j) [ inl s ↦ subst IsRight (sym s) b | inr k ↦ elim k [ ] ]
      ]))

  after_remove : (name : Name) (us : List Named) → remove g name ≡ Ok us → Each IsRight us
  after_remove name us q =
      subst (Each IsRight) (sym (removed g name us q).made)
      (λ e i. h e (of_filter (λ (x : Named). not (same_key (key_at x) (key_of name))) e g.entries i).0)

  after_modify : (name : Name) (cs : List Change) (us : List Named) → Each ChangeWithin cs → modify g name cs ≡ Ok us
      → Each IsRight us
  after_modify name cs us each q =
      let a = changed_so g name cs us q in
      let f = entry_found g.entries (key_of name) a.at a.there in
      let new : Named = record a.at { entry = a.new } in
      let n : IsRight new = modified_right name cs a.at.entry a.new each (h a.at f.0) a.done in
      subst (Each IsRight) (sym a.made) (λ e i.
      let x = of_map (λ (y : Named). if same_key (key_at y) (key_of name) then new else y) e g.entries i in
      subst IsRight (sym x.2) (either (same_key (key_at x.0) (key_of name)) new x.0 n (h x.0 x.1)))
    where
      either : (b : Bool) (new old : Named) → IsRight new → IsRight old → IsRight (if b then new else old)
      either true new old n o = n
      either false new old n o = o

  after_rename : (name : Name) (rdn : Rdn) (drops : Bool) (us : List Named) → fault_of (ModifyDn name rdn drops) ≡ None
      → BodyWithin (ModifyDn name rdn drops) → rename g name rdn drops ≡ Ok us → Each IsRight us
  after_rename name rdn drops us none within q =
      let a = renamed_so g name rdn drops us q in
      let f = entry_found g.entries (key_of name) a.at a.there in
      let new : Entry = renamed (last_rdn name) rdn drops a.at.entry in
      let n : Right new = renamed_right name rdn drops a.at.entry none within (h a.at f.0) in
      subst (Each IsRight) (sym a.made) (sorted_right (map (moved_entry name rdn new) g.entries) (λ e i.
      let x = of_map (moved_entry name rdn new) e g.entries i in
      subst IsRight (sym x.2) (moved_right name rdn new x.0 n (h x.0 x.1))))

  same_right : (us : List Named) → ok_list g.entries ≡ Ok us → Each IsRight us
  same_right us q = subst (Each IsRight) (same_list g.entries us q) h

  update_right : (body : Body) (us : List Named) → fault_of body ≡ None → BodyWithin body → update g body ≡ Ok us
      → Each IsRight us
  update_right (Read name selection) us none within q = same_right us q
  update_right (Compare name assertion) us none within q = same_right us q
  update_right (ListBelow name) us none within q = same_right us q
  update_right (Search base subset f selection) us none within q = same_right us q
  update_right (AddEntry name ts) us none within q = after_add name ts us none within q
  update_right (RemoveEntry name) us none within q = after_remove name us q
  update_right (ModifyEntry name cs) us none within q = after_modify name cs us within.1 q
  update_right (ModifyDn name rdn drops) us none within q = after_rename name rdn drops us none within q

-- what the tree has then
pub applied_sendable : (t u : Tree) (r : Request) → RequestWithin r → apply t r ≡ Ok u → Each SendableEntry t.entries
    → Each SendableEntry u.entries
applied_sendable t u r within q each e i =
    let over = (tree_made t u r q).0 in
    let w = accepted_over (ground_of t) r.body u.entries over in
    sendable_of e
    (applied_bounded (ground_of t) (λ x j. (each x j).bounded) r.body u.entries within.body over e i)
    (update_right (ground_of t) (λ x j. right_of x (each x j)) r.body u.entries w.0 within.body w.1 e i)

-- and what its refusals say
pub never_refused : (t u : Tree) (r : Request) → apply t r ≡ Ok u → fault_of r.body ≡ None
never_refused t u r q = (accepted_over (ground_of t) r.body u.entries (tree_made t u r q).0).0

-- ---- what is noted

abbrev RightStep : Step → Type 0
RightStep (Add e) = IsRight e
RightStep (Remove name) = ⊤
RightStep (Modify e) = IsRight e
RightStep (Rename name e) = IsRight e

both_so : (s : Step) → BoundedStep s → RightStep s → SendableStep s
both_so (Add e) b h = sendable_of e b h
both_so (Remove name) b h = b
both_so (Modify e) b h = sendable_of e b h
both_so (Rename name e) b h = (b.0, sendable_of e b.1 h)

some_is : {A : Type 0} (x y : A) → Some x ≡ Some y → x ≡ y
some_is x y e = cc

mapped : {A B : Type 0} (f : A → B) (o : Option A) (y : B) → option_map f o ≡ Some y
    → (x : A) × (o ≡ Some x) × (f x ≡ y)
mapped f None y e = absurd (cc e)
mapped f (Some x) y e = (x, refl, some_is (f x) y e)

in_some : {A B : Type 0} (f : A → Option B) (o : Option A) (y : B) → in_option None f o ≡ Some y
    → (x : A) × (o ≡ Some x) × (f x ≡ Some y)
in_some f None y e = absurd (cc e)
in_some f (Some x) y e = (x, refl, e)

done_is : (old : Named) (o : ChangedEntry) (s : Step) → modify_step old o ≡ Some s
    → (new : Entry) × (o ≡ Ok new) × (Modify (record old { entry = new }) ≡ s)
done_is old (Ok new) s e = (new, refl, some_is (Modify (record old { entry = new })) s e)
done_is old (Err x) s e = absurd (cc e)

module _ (entries : List Named) (h : Each IsRight entries) where
  step_right : (b : Body) (s : Step) → BodyWithin b → fault_of b ≡ None → step_of entries b ≡ Some s → RightStep s
  step_right (AddEntry name ts) s within none e =
      let m = mapped (λ (above : Named). Add (new_entry above name ts)) (entry_at entries (parent (key_of name))) s e in
      subst RightStep m.2 (added_right name ts none within)
  step_right (RemoveEntry name) s within none e =
      let m = mapped (λ (old : Named). Remove old.name) (entry_at entries (key_of name)) s e in
      subst RightStep m.2 tt
  step_right (ModifyEntry name cs) s within none e =
      let m = in_some (λ (old : Named). modify_step old (modified (last_rdn name) cs old.entry))
      (entry_at entries (key_of name)) s e in
      let f = entry_found entries (key_of name) m.0 m.1 in
      let d = done_is m.0 (modified (last_rdn name) cs m.0.entry) s m.2 in
      subst RightStep d.2 (modified_right name cs m.0.entry d.0 within.1 (h m.0 f.0) d.1)
  step_right (ModifyDn name rdn drops) s within none e =
      let m = mapped (λ (old : Named). Rename old.name (record {
        name = name_after name rdn old;
        entry = renamed (last_rdn name) rdn drops old.entry;
      })) (entry_at entries (key_of name)) s e in
      let f = entry_found entries (key_of name) m.0 m.1 in
      subst RightStep m.2 (renamed_right name rdn drops m.0.entry none within (h m.0 f.0))
  step_right (Read name selection) s within none e = absurd (cc e)
  step_right (Compare name assertion) s within none e = absurd (cc e)
  step_right (ListBelow name) s within none e = absurd (cc e)
  step_right (Search base subset f selection) s within none e = absurd (cc e)

pub noted_sendable : (entries : List Named) (r : Request) (s : Step) → Each SendableEntry entries → RequestWithin r
    → fault_of r.body ≡ None → step_of entries r.body ≡ Some s → SendableStep s
noted_sendable entries r s each within none e =
    both_so s (noted_bounded entries r s (λ x i. (each x i).bounded) within none e)
    (step_right entries (λ x i. right_of x (each x i)) r.body s within.body none e)

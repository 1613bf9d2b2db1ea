-- No error that a tree, or an agent by its own ground, gives is of the service: by the cases of what refuses a request.
use Rattle.std.proofs.Common.{◌≡◌, ℕ, Bool, true, false, ◌||◌, not, List, [], ◌∷◌, ◌++◌, refl, sym, ap, subst, ◌∙◌, Option, Some, None, Ok, Err, cond, inl, inr}
use Rattle.std.specs.List.{flat_map, list_any}
use Rattle.std.specs.Option.{is_none}
use Rattle.x5_model.specs.Words.{has, is_empty, first_of, in_option, when}
use Rattle.x5_model.specs.Members.{In, here}
use Rattle.x5_model.specs.Keys.{Key, parent}
use Rattle.x5_model.specs.Values.{TypeRef, Known, Unknown, StoredValue, Offered, Rdn, Name, key_of, last_rdn}
use Rattle.x5_model.specs.Entries.{Entry, Named}
use Rattle.x5_model.specs.Attributes.{is_present, has_value, entry_with, put_value, drop_value, has_rdn, doubled, stored_value, added_entry}
use Rattle.x5_model.specs.Filters.{Assertion}
use Rattle.x5_model.specs.Requests.{Selection, Attribute, Change, AddAttribute, RemoveAttribute, AddValues, RemoveValues, Body, Read, Compare, ListBelow, Search, AddEntry, RemoveEntry, ModifyEntry, ModifyDn, Request}
use Rattle.x5_model.specs.Answers.{DirError, NoSuchObject, AttributeProblem, UpdateProblem, ServiceProblem, Failed}
use Rattle.x5_model.specs.Statics.{name_refusals, given, value_refusals, attribute_repeats, change_repeats, repeat_refusals, entry_refusals, added_refusals, static_refusals, fault_of, names_class, is_defined, has_equal_values, same_type, repeated}
use Rattle.x5_model.specs.Selections.{selection_fault}
use Rattle.x5_model.specs.Changes.{ChangedEntry, and_then, each_value, put_new, drop_old, on_known, changed, changed_by, single_valued, keeps_rdn, modified, renamed}
use Rattle.x5_model.proofs.Lists.{in_either, in_first, of_flat}
use Rattle.x5_model_tree.specs.Tree.{Tree, entry_at, has_below, is_there_or_root}
use Rattle.x5_model_tree.specs.Apply.{Ground, UpdatedEntries, Applied, apply, is_taken, above_pin, at_entry, modify, rename, update, apply_over, ground_of}
use Rattle.x5_model_tree.specs.Ask as ask
use Rattle.x5_model_tree.specs.Ask.{Told, Shows, Compares, Lists, Finds, Changes, Refuses, at_object, has_type, updated, ask_body, ask_marked}
use Rattle.x5_model_updates.proofs.Outcomes.{none_or_some, ok_or_err, modify_none, modify_some, clashes, rename_none, rename_some, over_fault, over_update, tree_refuses, tree_accepts}
use Rattle.x5_model_serve.specs.Answering.{is_service}

-- it isn't the service's
abbrev pub is_tree_error : DirError → Bool
is_tree_error (NoSuchObject n) = true
is_tree_error (AttributeProblem n t) = true
is_tree_error (UpdateProblem n) = true
is_tree_error (ServiceProblem n r i) = false

abbrev AllPlain : List DirError → Type 0
AllPlain xs = (x : DirError) → In x xs → is_tree_error x ≡ true

none_plain : AllPlain []
none_plain x i = elim i [ ]

one_plain : (x : DirError) → is_tree_error x ≡ true → AllPlain (x ∷ [])
one_plain x e y i = elim (in_first y x [] i) [ inl q ↦ ap is_tree_error q ∙ e | inr r ↦ elim r [ ] ]

when_plain : (b : Bool) (x : DirError) → is_tree_error x ≡ true → AllPlain (when b x)
when_plain true x e = one_plain x e
when_plain false x e = none_plain

both_plain : (xs ys : List DirError) → AllPlain xs → AllPlain ys → AllPlain (xs ++ ys)
both_plain xs ys f g x i = elim (in_either x xs ys i) [ inl a ↦ f x a | inr b ↦ g x b ]

flat_plain : {A : Type 0} (f : A → List DirError) (xs : List A) → ((a : A) → AllPlain (f a)) → AllPlain (flat_map f xs)
flat_plain f xs g x i = let w = of_flat f x xs i in g w.0 x w.2

-- ---- by the request alone
abbrev err : DirError → UpdatedEntries
err x = Err x

names_plain : (body : Body) → AllPlain (name_refusals body)
names_plain (Read name selection) = when_plain (is_empty name) (NoSuchObject []) refl
names_plain (Compare name a) = when_plain (is_empty name) (NoSuchObject []) refl
names_plain (ListBelow name) = none_plain
names_plain (Search base subset f selection) = none_plain
names_plain (AddEntry name attributes) = when_plain _ _ refl
names_plain (RemoveEntry name) = when_plain (is_empty name) (NoSuchObject []) refl
names_plain (ModifyEntry name changes) = when_plain (is_empty name) (NoSuchObject []) refl
names_plain (ModifyDn name rdn drops) = when_plain (is_empty name) (NoSuchObject []) refl

values_plain : (a : Attribute) → AllPlain (value_refusals a)
values_plain a = both_plain (when (not (is_defined a.kind)) _) _ (when_plain (not (is_defined a.kind)) _ refl)
    (when_plain (list_any (λ (v : Offered). is_none v.normal) a.values) _ refl)

attributes_plain : (earlier : List TypeRef) (given : List Attribute) → AllPlain (attribute_repeats earlier given)
attributes_plain earlier [] = none_plain
attributes_plain earlier (a ∷ more) =
    both_plain (when (has_equal_values a || has same_type earlier a.kind) (repeated a)) (attribute_repeats
    (a.kind ∷ earlier) more)
    (when_plain (has_equal_values a || has same_type earlier a.kind) (repeated a) refl) (attributes_plain
    (a.kind ∷ earlier) more)

change_plain : (c : Change) → AllPlain (change_repeats c)
change_plain (AddAttribute a) = when_plain (has_equal_values a) (repeated a) refl
change_plain (RemoveAttribute kind) = none_plain
change_plain (AddValues a) = when_plain (has_equal_values a) (repeated a) refl
change_plain (RemoveValues a) = none_plain

repeats_plain : (body : Body) → AllPlain (repeat_refusals body)
repeats_plain (Read name selection) = none_plain
repeats_plain (Compare name a) = none_plain
repeats_plain (ListBelow name) = none_plain
repeats_plain (Search base subset f selection) = none_plain
repeats_plain (AddEntry name attributes) = attributes_plain [] attributes
repeats_plain (RemoveEntry name) = none_plain
repeats_plain (ModifyEntry name changes) =
    both_plain (flat_map change_repeats changes) _ (flat_plain change_repeats changes change_plain)
    (when_plain (list_any names_class changes) _ refl)
repeats_plain (ModifyDn name rdn drops) = none_plain

doubled_plain : (o : Option ℕ) (n : ℕ) → AllPlain (in_option [] (λ kind. AttributeProblem n (Known kind) ∷ []) o)
doubled_plain None n = none_plain
doubled_plain (Some kind) n = one_plain (AttributeProblem n (Known kind)) refl

entry_plain : (e : Entry) → AllPlain (entry_refusals e)
entry_plain e = both_plain (in_option [] (λ kind. AttributeProblem _ (Known kind) ∷ []) (doubled e)) _ (doubled_plain
    (doubled e) _)
    (when_plain (not (is_present e 0)) _ refl)

added_plain : (body : Body) → AllPlain (added_refusals body)
added_plain (Read name selection) = none_plain
added_plain (Compare name a) = none_plain
added_plain (ListBelow name) = none_plain
added_plain (Search base subset f selection) = none_plain
added_plain (AddEntry name attributes) = entry_plain (added_entry (last_rdn name) attributes)
added_plain (RemoveEntry name) = none_plain
added_plain (ModifyEntry name changes) = none_plain
added_plain (ModifyDn name rdn drops) = none_plain

all_plain : (body : Body) → AllPlain (static_refusals body)
all_plain body =
    both_plain (name_refusals body ++ flat_map value_refusals (given body) ++ repeat_refusals body)
    (added_refusals body)
    (both_plain (name_refusals body ++ flat_map value_refusals (given body)) (repeat_refusals body)
    (both_plain (name_refusals body) (flat_map value_refusals (given body)) (names_plain body)
    (flat_plain value_refusals (given body) values_plain)) (repeats_plain body)) (added_plain body)

error_is : {x y : DirError} → err x ≡ err y → x ≡ y
error_is e = cc

first_plain : (xs : List DirError) (x : DirError) → first_of xs ≡ Some x → AllPlain xs → is_tree_error x ≡ true
first_plain [] x e f = cc
first_plain (y ∷ ys) x e f = ap is_tree_error (let q : x ≡ y = cc in q) ∙ f y here

pub fault_plain : (body : Body) (x : DirError) → fault_of body ≡ Some x → is_tree_error x ≡ true
fault_plain body x e = first_plain (static_refusals body) x e (all_plain body)

-- ---- by what an entry is
abbrev PlainChanged : ChangedEntry → Type 0
PlainChanged (Ok e) = Unit {0}
PlainChanged (Err x) = is_tree_error x ≡ true

then_plain : (c : ChangedEntry) (f : Entry → ChangedEntry) → PlainChanged c → ((e : Entry) → PlainChanged (f e))
    → PlainChanged (and_then c f)
then_plain (Ok e) f p g = g e
then_plain (Err x) f p g = p

if_plain : (b : Bool) (c d : ChangedEntry) → PlainChanged c → PlainChanged d → PlainChanged (cond b c d)
if_plain true c d p q = p
if_plain false c d p q = q

step_plain : (change : StoredValue → Entry → ChangedEntry) → ((v : StoredValue) (e : Entry) → PlainChanged (change v e))
    → (o : Offered) (more : List Offered) (e : Entry) → ((f : Entry) → PlainChanged (each_value change more f))
    → PlainChanged (each_value change (o ∷ more) e)
step_plain change f o more e g = by (stored_value o) refl
  where
    by : (s : Option StoredValue) → stored_value o ≡ s → PlainChanged (each_value change (o ∷ more) e)
    by None q = rw q (g e)
    by (Some v) q = rw q (then_plain (change v e) (each_value change more) (f v e) g)

each_plain : (change : StoredValue → Entry → ChangedEntry) → ((v : StoredValue) (e : Entry) → PlainChanged (change v e))
    → (os : List Offered) (e : Entry) → PlainChanged (each_value change os e)
each_plain change f [] e = tt
each_plain change f (o ∷ more) e = step_plain change f o more e (each_plain change f more)

put_plain : (kind : ℕ) (v : StoredValue) (e : Entry) → PlainChanged (put_new kind v e)
put_plain kind v e = if_plain (has_value e kind v.normal) _ (Ok (put_value kind v e)) refl tt

drop_plain : (kind : ℕ) (v : StoredValue) (e : Entry) → PlainChanged (drop_old kind v e)
drop_plain kind v e = if_plain (has_value e kind v.normal) (Ok (drop_value kind v.normal e)) _ tt refl

known_plain : (f : ℕ → Entry → ChangedEntry) (t : TypeRef) (e : Entry) → ((n : ℕ) → PlainChanged (f n e))
    → PlainChanged (on_known f t e)
known_plain f (Known kind) e g = g kind
known_plain f (Unknown arcs) e g = tt

changed_plain : (c : Change) (e : Entry) → PlainChanged (changed c e)
changed_plain (AddAttribute a) e = known_plain _ a.kind e (λ kind. if_plain (is_present e kind) _ (each_value
    (put_new kind) a.values e) refl
    (each_plain (put_new kind) (put_plain kind) a.values e))
changed_plain (RemoveAttribute type) e = known_plain _ type e (λ kind. if_plain (is_present e kind) (Ok
    (entry_with kind [] e)) _ tt refl)
changed_plain (AddValues a) e = known_plain _ a.kind e (λ kind. each_plain (put_new kind) (put_plain kind) a.values e)
changed_plain (RemoveValues a) e = known_plain _ a.kind e (λ kind. each_plain (drop_old kind)
    (drop_plain kind) a.values e)

changes_plain : (cs : List Change) (e : Entry) → PlainChanged (changed_by cs e)
changes_plain [] e = tt
changes_plain (c ∷ more) e = then_plain (changed c e) (changed_by more) (changed_plain c e) (changes_plain more)

single_plain : (e : Entry) → PlainChanged (single_valued e)
single_plain e = by (doubled e) refl
  where
    by : (o : Option ℕ) → doubled e ≡ o → PlainChanged (single_valued e)
    by None q = rw q tt
    by (Some kind) q = rw q refl

modified_plain : (rdn : Rdn) (cs : List Change) (e : Entry) → PlainChanged (modified rdn cs e)
modified_plain rdn cs e =
    then_plain (and_then (changed_by cs e) (keeps_rdn rdn)) single_valued
    (then_plain (changed_by cs e) (keeps_rdn rdn) (changes_plain cs e) (λ f. if_plain (has_rdn f rdn)
    (Ok f) _ tt refl)) single_plain

-- ---- by the ground
abbrev PlainOutcome : UpdatedEntries → Type 0
PlainOutcome (Ok es) = Unit {0}
PlainOutcome (Err x) = is_tree_error x ≡ true

if_out : (b : Bool) (c d : UpdatedEntries) → PlainOutcome c → PlainOutcome d → PlainOutcome (cond b c d)
if_out true c d p q = p
if_out false c d p q = q

at_plain : (g : Ground) (key : Key) (f : Named → UpdatedEntries) → ((e : Named) → PlainOutcome (f e))
    → PlainOutcome (at_entry g key f)
at_plain g key f h = by (entry_at g.entries key) refl
  where
    by : (o : Option Named) → entry_at g.entries key ≡ o → PlainOutcome (at_entry g key f)
    by None q = rw q refl
    by (Some e) q = rw q (h e)

update_plain : (g : Ground) (body : Body) → PlainOutcome (update g body)
update_plain g (Read name selection) = tt
update_plain g (Compare name a) = tt
update_plain g (ListBelow name) = tt
update_plain g (Search base subset f selection) = tt
update_plain g (AddEntry name attributes) = at_plain g (parent (key_of name)) _ (λ e. if_out (is_taken g
    (key_of name)) _ _ refl tt)
update_plain g (RemoveEntry name) = at_plain g (key_of name) _ (λ e. if_out (above_pin g (key_of name)) _ _ refl
    (if_out (has_below g.entries (key_of name)) _ _ refl tt))
update_plain g (ModifyEntry name changes) = elim (none_or_some (entry_at g.entries (key_of name))) [
  | inl q ↦ subst (λ (o : UpdatedEntries). PlainOutcome o) (sym (modify_none g name changes q)) refl
  | inr w ↦ by w.0 w.1 (modified (last_rdn name) changes w.0.entry) refl (modified_plain
      (last_rdn name) changes w.0.entry)
]
  where
    by : (e : Named) → entry_at g.entries (key_of name) ≡ Some e → (c : ChangedEntry)
        → modified (last_rdn name) changes e.entry ≡ c
        → PlainChanged c → PlainOutcome (modify g name changes)
    by e q (Ok new) h p = subst (λ (o : UpdatedEntries). PlainOutcome o) (sym (modify_some g name changes e (Ok new) q h)) tt
    by e q (Err x) h p = subst (λ (o : UpdatedEntries). PlainOutcome o) (sym (modify_some g name changes e (Err x) q h)) p
update_plain g (ModifyDn name rdn drops) = elim (none_or_some (entry_at g.entries (key_of name))) [
  | inl q ↦ subst (λ (o : UpdatedEntries). PlainOutcome o) (sym (rename_none g name rdn drops q)) refl
  | inr w ↦ by w.0 w.1 (above_pin g (key_of name)) refl (single_valued (renamed
      (last_rdn name) rdn drops w.0.entry)) refl
      (clashes g name rdn) refl (single_plain (renamed (last_rdn name) rdn drops w.0.entry))
]
  where
    by : (e : Named) → entry_at g.entries (key_of name) ≡ Some e → (a : Bool) → above_pin g (key_of name) ≡ a
        → (c : ChangedEntry) → single_valued (renamed (last_rdn name) rdn drops e.entry) ≡ c → (b : Bool)
        → clashes g name rdn ≡ b
        → PlainChanged c → PlainOutcome (rename g name rdn drops)
    by e q true h c i b t p = subst (λ (o : UpdatedEntries). PlainOutcome o) (sym
        (rename_some g name rdn drops e true c b q h i t)) refl
    by e q false h (Err x) i b t p =
        subst (λ (o : UpdatedEntries). PlainOutcome o) (sym (rename_some g name rdn drops e false (Err x) b q h i t)) p
    by e q false h (Ok new) i true t p =
        subst (λ (o : UpdatedEntries). PlainOutcome o) (sym (rename_some g name rdn drops e false (Ok new) true q h i t)) refl
    by e q false h (Ok new) i false t p =
        subst (λ (o : UpdatedEntries). PlainOutcome o) (sym (rename_some g name rdn drops e false (Ok new) false q h i t)) tt

out_plain : (o : UpdatedEntries) (x : DirError) → o ≡ Err x → PlainOutcome o → is_tree_error x ≡ true
out_plain o x e p = subst (λ (y : UpdatedEntries). PlainOutcome y) e p

pub over_plain : (g : Ground) (body : Body) (x : DirError) → apply_over g body ≡ Err x → is_tree_error x ≡ true
over_plain g body x e = by (fault_of body) refl
  where
    by : (o : Option DirError) → fault_of body ≡ o → is_tree_error x ≡ true
    by None q = out_plain (update g body) x (sym (over_update g body q) ∙ e) (update_plain g body)
    by (Some y) q = ap is_tree_error (let same : x ≡ y = error_is (sym e ∙ over_fault g body y q) in same)
        ∙ fault_plain body y q

-- ---- by a tree
abbrev PlainTold : Told → Type 0
PlainTold (Shows info) = Unit {0}
PlainTold (Compares equal copy) = Unit {0}
PlainTold (Lists subs cut) = Unit {0}
PlainTold (Finds infos cut) = Unit {0}
PlainTold Changes = Unit {0}
PlainTold (Refuses x) = is_tree_error x ≡ true

if_told : (b : Bool) (c d : Told) → PlainTold c → PlainTold d → PlainTold (cond b c d)
if_told true c d p q = p
if_told false c d p q = q

object_plain : (t : Tree) (name : Name) (f : Named → Told) → ((e : Named) → PlainTold (f e))
    → PlainTold (at_object t name f)
object_plain t name f h = by (entry_at t.entries (key_of name)) refl
  where
    by : (o : Option Named) → entry_at t.entries (key_of name) ≡ o → PlainTold (at_object t name f)
    by None q = rw q refl
    by (Some e) q = rw q (h e)

read_plain : (copies : Key → Bool) (selection : Selection) (e : Named) → PlainTold (ask.read copies selection e)
read_plain copies selection e = by (selection_fault selection e.entry) refl
  where
    by : (o : Option TypeRef) → selection_fault selection e.entry ≡ o → PlainTold (ask.read copies selection e)
    by None q = rw q tt
    by (Some kind) q = rw q refl

compare_plain : (copies : Key → Bool) (a : Assertion) (e : Named) → PlainTold (ask.compare copies a e)
compare_plain copies a e = if_told (has_type e.entry a.kind) _ _ tt refl

applied_plain : (t : Tree) (r : Request) → PlainTold (updated (apply t r))
applied_plain t r = elim (ok_or_err (apply_over (ground_of t) r.body)) [
  | inl w ↦ subst (λ (o : Applied). PlainTold (updated o)) (sym (tree_accepts t r w.0 w.1)) tt
  | inr w ↦ subst (λ (o : Applied). PlainTold (updated o)) (sym (tree_refuses t r w.0 w.1)) (over_plain
      (ground_of t) r.body w.0 w.1)
]

body_plain : (copies : Key → Bool) (t : Tree) (r : Request) (body : Body) → PlainTold (ask_body copies t r body)
body_plain copies t r (Read name selection) = object_plain t name (ask.read copies selection)
    (read_plain copies selection)
body_plain copies t r (Compare name a) = object_plain t name (ask.compare copies a) (compare_plain copies a)
body_plain copies t r (ListBelow name) = if_told (is_there_or_root t.entries (key_of name)) _
    (ask.absent t name) tt refl
body_plain copies t r (Search base subset f selection) = if_told (is_there_or_root t.entries (key_of base)) _
    (ask.absent t base) tt refl
body_plain copies t r (AddEntry name attributes) = applied_plain t r
body_plain copies t r (RemoveEntry name) = applied_plain t r
body_plain copies t r (ModifyEntry name changes) = applied_plain t r
body_plain copies t r (ModifyDn name rdn drops) = applied_plain t r

marked_plain : (copies : Key → Bool) (t : Tree) (r : Request) → PlainTold (ask_marked copies t r)
marked_plain copies t r = by (fault_of r.body) refl
  where
    by : (o : Option DirError) → fault_of r.body ≡ o → PlainTold (ask_marked copies t r)
    by (Some x) q = rw q (fault_plain r.body x q)
    by None q = rw q (body_plain copies t r r.body)

told_is : (o : Told) (x : DirError) → o ≡ Refuses x → PlainTold o → is_tree_error x ≡ true
told_is o x e p = subst (λ (y : Told). PlainTold y) e p

pub asked_plain : (copies : Key → Bool) (t : Tree) (r : Request) (x : DirError) → ask_marked copies t r ≡ Refuses x
    → is_tree_error x ≡ true
asked_plain copies t r x e = told_is (ask_marked copies t r) x e (marked_plain copies t r)

-- so it is no service error
pub no_service : (n : ℕ) (x : DirError) → is_tree_error x ≡ true → is_service n (Failed x) ≡ false
no_service n (NoSuchObject m) e = refl
no_service n (AttributeProblem m t) e = refl
no_service n (UpdateProblem m) e = refl
no_service n (ServiceProblem m r i) e = cc

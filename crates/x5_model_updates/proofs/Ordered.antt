-- What an accepted update makes of an entry is in order.
use Rattle.std.proofs.Common.{◌≡◌, ℕ, Bool, true, false, not, ◌&&◌, ◌||◌, ◌==◌, inl, inr, List, [], ◌∷◌, ◌++◌, refl, sym, subst, ◌∙◌, Option, Some, None, Ok, Err, if◌then◌else◌}
use Rattle.std.specs.Prelude.{⊤}
use Rattle.std.specs.List.{filter, list_any, flat_map}
use Rattle.x5_model.specs.Words.{has, distinct, insert_sorted, first_of, same_octets}
use Rattle.x5_model.specs.Members.{In, here, there}
use Rattle.x5_model.specs.Values.{TypeRef, Known, Unknown, StoredValue, Offered, Pair, Rdn, Name, last_rdn}
use Rattle.x5_model.specs.Entries.{Entry, Named}
use Rattle.x5_model.specs.Attributes.{value_below, is_ordered, is_present, values_at, has_value, has_pair, has_rdn, entry_with, put_value, drop_value, value_of_pair, with_rdn, without_rdn, stored_value, stored_values, with_offered, entry_of, added_entry}
use Rattle.x5_model.specs.Changes.{ChangedEntry, and_then, each_value, put_new, drop_old, on_known, changed, changed_by, single_valued, keeps_rdn, modified, renamed}
use Rattle.x5_model.specs.Requests.{Attribute, Change, AddAttribute, RemoveAttribute, AddValues, RemoveValues, Body, Read, Compare, ListBelow, Search, AddEntry, RemoveEntry, ModifyEntry, ModifyDn}
use Rattle.x5_model.specs.Answers.{DirError, AttributeProblem, UpdateProblem}
use Rattle.x5_model.specs.Problems.{no_such_attribute_or_value, attribute_or_value_already_exists, not_allowed_on_rdn}
use Rattle.x5_model.specs.Statics.{same_offered, has_equal_values, same_type, attribute_repeats, change_repeats, repeated, name_refusals, value_refusals, given, repeat_refusals, added_refusals, static_refusals, fault_of}
use Rattle.x5_model.proofs.Lists.{not_false, left_empty, right_empty, flat_empty, when_empty, in_first}
use Rattle.x5_model_updates.specs.Afterwards.{IsEntryAfter}
use Rattle.x5_model_updates.proofs.Outcomes.{single_is}
use Rattle.x5_model_updates.proofs.EntryOrder.{ordered_with, put_ordered, drop_ordered, stored_ascending}

-- ---- the values of an RDN

with_pair : (p : Pair) (e : Entry) → is_ordered e ≡ true → is_ordered (if has_pair e p then e else put_value p.kind (value_of_pair p) e) ≡ true
with_pair p e h = by (has_pair e p) refl
  where
    by : (b : Bool) → has_pair e p ≡ b → is_ordered (if b then e else put_value p.kind (value_of_pair p) e) ≡ true
    by true q = h
    by false q = ordered_with p.kind (insert_sorted value_below (value_of_pair p) (values_at e p.kind)) e h (put_ordered p.kind (value_of_pair p) e h q)

pub with_rdn_ordered : (rdn : Rdn) (e : Entry) → is_ordered e ≡ true → is_ordered (with_rdn rdn e) ≡ true
with_rdn_ordered [] e h = h
with_rdn_ordered (p ∷ ps) e h = with_rdn_ordered ps (if has_pair e p then e else put_value p.kind (value_of_pair p) e) (with_pair p e h)

dropped : (kind : ℕ) (normal : List ℕ) (e : Entry) → is_ordered e ≡ true → is_ordered (drop_value kind normal e) ≡ true
dropped kind normal e h = ordered_with kind (filter (λ v. not (same_octets v.normal normal)) (values_at e kind)) e h (drop_ordered kind normal e h)

kept_or_dropped : (b : Bool) (p : Pair) (e : Entry) → is_ordered e ≡ true → is_ordered (if b then e else drop_value p.kind p.normal e) ≡ true
kept_or_dropped true p e h = h
kept_or_dropped false p e h = dropped p.kind p.normal e h

pub without_rdn_ordered : (rdn kept : Rdn) (e : Entry) → is_ordered e ≡ true → is_ordered (without_rdn rdn kept e) ≡ true
without_rdn_ordered [] kept e h = h
without_rdn_ordered (p ∷ ps) kept e h =
    without_rdn_ordered ps kept (if list_any (λ q. (q.kind == p.kind) && same_octets q.normal p.normal) kept then e else drop_value p.kind p.normal e)
    (kept_or_dropped (list_any (λ q. (q.kind == p.kind) && same_octets q.normal p.normal) kept) p e h)

pub renamed_ordered : (old new : Rdn) (drops : Bool) (e : Entry) → is_ordered e ≡ true → is_ordered (renamed old new drops e) ≡ true
renamed_ordered old new true e h = with_rdn_ordered new (without_rdn old new e) (without_rdn_ordered old new e h)
renamed_ordered old new false e h = with_rdn_ordered new e h

-- ---- offered attributes

-- no two of its values are equal
abbrev IsApart : Attribute → Type 0
IsApart a = distinct same_offered a.values ≡ true

offered_ordered : (kind : TypeRef) (values : List Offered) (e : Entry) → distinct same_offered values ≡ true → is_ordered e ≡ true → is_ordered (with_offered kind values e) ≡ true
offered_ordered (Known kind) values e d h = ordered_with kind (stored_values values) e h (stored_ascending values d)
offered_ordered (Unknown arcs) values e d h = h

entry_ordered : (attributes : List Attribute) → ((a : Attribute) → In a attributes → IsApart a) → is_ordered (entry_of attributes) ≡ true
entry_ordered [] f = refl
entry_ordered (a ∷ more) f = offered_ordered a.kind a.values (entry_of more) (f a here) (entry_ordered more (λ b i. f b (there i)))

-- ---- what the static refusals leave

none_first : {A : Type 0} (xs : List A) → first_of xs ≡ None → xs ≡ []
none_first [] e = refl
none_first (x ∷ xs) e = cc

no_repeats : (body : Body) → fault_of body ≡ None → repeat_refusals body ≡ []
no_repeats body e =
    right_empty (name_refusals body ++ flat_map value_refusals (given body)) (repeat_refusals body)
    (left_empty ((name_refusals body ++ flat_map value_refusals (given body)) ++ repeat_refusals body) (added_refusals body) (none_first (static_refusals body) e))

apart_by : (a : Attribute) → has_equal_values a ≡ false → IsApart a
apart_by a e = not_false (distinct same_offered a.values) e

first_false : (a b : Bool) → (a || b) ≡ false → a ≡ false
first_false true b e = cc
first_false false b e = refl

attributes_apart : (earlier : List TypeRef) (attributes : List Attribute) → attribute_repeats earlier attributes ≡ [] → (a : Attribute) → In a attributes → IsApart a
attributes_apart earlier [] e a i = elim i [ ]
attributes_apart earlier (b ∷ more) e a i =
    let one : (has_equal_values b || has same_type earlier b.kind) ≡ false = when_empty (has_equal_values b || has same_type earlier b.kind) (repeated b) (left_empty _ (attribute_repeats (b.kind ∷ earlier) more) e) in
    elim (in_first a b more i) [
      | inl s ↦ subst (λ (x : Attribute). IsApart x) (sym s) (apart_by b (first_false (has_equal_values b) (has same_type earlier b.kind) one))
      | inr j ↦ attributes_apart (b.kind ∷ earlier) more (right_empty _ (attribute_repeats (b.kind ∷ earlier) more) e) a j
    ]

pub added_ordered : (name : Name) (attributes : List Attribute) → fault_of (AddEntry name attributes) ≡ None → is_ordered (added_entry (last_rdn name) attributes) ≡ true
added_ordered name attributes e =
    with_rdn_ordered (last_rdn name) (entry_of attributes) (entry_ordered attributes (attributes_apart [] attributes (no_repeats (AddEntry name attributes) e)))

-- ---- changes

-- where it accepts, order stays
abbrev Keeps : (Entry → ChangedEntry) → Type 0
Keeps change = (e f : Entry) → is_ordered e ≡ true → change e ≡ Ok f → is_ordered f ≡ true

abbrev pub ok_change : Entry → ChangedEntry
ok_change e = Ok e

same_entry : (a b : Entry) → ok_change a ≡ ok_change b → a ≡ b
same_entry a b e = cc

then_keeps : (c : ChangedEntry) (f : Entry → ChangedEntry) (g : Entry) → and_then c f ≡ Ok g → (e : Entry) × (c ≡ Ok e) × (f e ≡ Ok g)
then_keeps (Ok e) f g h = (e, refl, h)
then_keeps (Err x) f g h = cc

abbrev unless_bad : Bool → DirError → Entry → ChangedEntry
unless_bad b x e = if b then Err x else Ok e

unless_ok : (b : Bool) (x : DirError) (e f : Entry) → unless_bad b x e ≡ Ok f → (b ≡ false) × (e ≡ f)
unless_ok true x e f h = cc
unless_ok false x e f h = (refl, same_entry e f h)

put_keeps : (kind : ℕ) (v : StoredValue) → Keeps (put_new kind v)
put_keeps kind v e f h q =
    let w = unless_ok (has_value e kind v.normal) (AttributeProblem attribute_or_value_already_exists (Known kind)) (put_value kind v e) f q in
    subst (λ (x : Entry). is_ordered x ≡ true) w.1 (ordered_with kind (insert_sorted value_below v (values_at e kind)) e h (put_ordered kind v e h w.0))

abbrev if_there : Bool → DirError → Entry → ChangedEntry
if_there b x e = if b then Ok e else Err x

if_there_ok : (b : Bool) (x : DirError) (e f : Entry) → if_there b x e ≡ Ok f → e ≡ f
if_there_ok true x e f h = same_entry e f h
if_there_ok false x e f h = cc

drop_keeps : (kind : ℕ) (v : StoredValue) → Keeps (drop_old kind v)
drop_keeps kind v e f h q =
    subst (λ (x : Entry). is_ordered x ≡ true)
    (if_there_ok (has_value e kind v.normal) (AttributeProblem no_such_attribute_or_value (Known kind)) (drop_value kind v.normal e) f q) (dropped kind v.normal e h)

abbrev on_value : (StoredValue → Entry → ChangedEntry) → Entry → Option StoredValue → ChangedEntry
on_value change e None = Ok e
on_value change e (Some v) = change v e

value_keeps : (change : StoredValue → Entry → ChangedEntry) → ((v : StoredValue) → Keeps (change v)) → (o : Option StoredValue) (e f : Entry) → is_ordered e ≡ true → on_value change e o ≡ Ok f → is_ordered f ≡ true
value_keeps change each None e f h q = subst (λ (x : Entry). is_ordered x ≡ true) (same_entry e f q) h
value_keeps change each (Some v) e f h q = each v e f h q

values_keep : (change : StoredValue → Entry → ChangedEntry) → ((v : StoredValue) → Keeps (change v)) → (os : List Offered) → Keeps (each_value change os)
values_keep change each [] e f h q = subst (λ (x : Entry). is_ordered x ≡ true) (same_entry e f q) h
values_keep change each (o ∷ more) e f h q =
    let w = then_keeps (on_value change e (stored_value o)) (each_value change more) f q in
    values_keep change each more w.0 f (value_keeps change each (stored_value o) e w.0 h w.1) w.2

known_keeps : (change : ℕ → Entry → ChangedEntry) → ((kind : ℕ) → Keeps (change kind)) → (kind : TypeRef) → Keeps (on_known change kind)
known_keeps change each (Known kind) e f h q = each kind e f h q
known_keeps change each (Unknown arcs) e f h q = subst (λ (x : Entry). is_ordered x ≡ true) (same_entry e f q) h

abbrev add_kind : List Offered → ℕ → Entry → ChangedEntry
add_kind values kind e = if is_present e kind then Err (AttributeProblem attribute_or_value_already_exists (Known kind)) else each_value (put_new kind) values e

unless_bad_then : (b : Bool) (x : DirError) (c : ChangedEntry) (f : Entry) → (if b then Err x else c) ≡ Ok f → c ≡ Ok f
unless_bad_then true x c f h = cc
unless_bad_then false x c f h = h

abbrev remove_kind : ℕ → Entry → ChangedEntry
remove_kind kind e = if_there (is_present e kind) (AttributeProblem no_such_attribute_or_value (Known kind)) (entry_with kind [] e)

change_keeps : (c : Change) → Keeps (changed c)
change_keeps (AddAttribute a) e f h q =
    known_keeps (add_kind a.values)
    (λ kind x y i r. values_keep (put_new kind) (put_keeps kind) a.values x y i
    (unless_bad_then (is_present x kind) (AttributeProblem attribute_or_value_already_exists (Known kind)) (each_value (put_new kind) a.values x) y r)) a.kind e f h q
change_keeps (RemoveAttribute type) e f h q =
    known_keeps remove_kind
    (λ kind x y i r. subst (λ (z : Entry). is_ordered z ≡ true) (if_there_ok (is_present x kind) (AttributeProblem no_such_attribute_or_value (Known kind)) (entry_with kind [] x) y r)
    (ordered_with kind [] x i refl)) type e f h q
change_keeps (AddValues a) e f h q = known_keeps (λ kind x. each_value (put_new kind) a.values x) (λ kind. values_keep (put_new kind) (put_keeps kind) a.values) a.kind e f h q
change_keeps (RemoveValues a) e f h q = known_keeps (λ kind x. each_value (drop_old kind) a.values x) (λ kind. values_keep (drop_old kind) (drop_keeps kind) a.values) a.kind e f h q

changes_keep : (cs : List Change) → Keeps (changed_by cs)
changes_keep [] e f h q = subst (λ (x : Entry). is_ordered x ≡ true) (same_entry e f q) h
changes_keep (c ∷ more) e f h q =
    let w = then_keeps (changed c e) (changed_by more) f q in
    changes_keep more w.0 f (change_keeps c e w.0 h w.1) w.2

pub modified_ordered : (name : Name) (changes : List Change) (e f : Entry) → is_ordered e ≡ true → modified (last_rdn name) changes e ≡ Ok f → is_ordered f ≡ true
modified_ordered name changes e f h q =
    let w = then_keeps (and_then (changed_by changes e) (keeps_rdn (last_rdn name))) single_valued f q in
    let v = then_keeps (changed_by changes e) (keeps_rdn (last_rdn name)) w.0 w.1 in
    let a : is_ordered v.0 ≡ true = changes_keep changes e v.0 h v.1 in
    let b : v.0 ≡ w.0 = if_there_ok (has_rdn v.0 (last_rdn name)) (UpdateProblem not_allowed_on_rdn) v.0 w.0 v.2 in
    subst (λ (x : Entry). is_ordered x ≡ true) (b ∙ single_is w.0 f w.2) a

-- ---- entries afterwards

abbrev pub AllOrdered : List Named → Type 0
AllOrdered es = (e : Named) → In e es → is_ordered e.entry ≡ true

pub after_ordered : (es : List Named) (body : Body) → fault_of body ≡ None → AllOrdered es → (e : Named) → IsEntryAfter es body e → is_ordered e.entry ≡ true
after_ordered es (Read name selection) none h e i = h e i
after_ordered es (Compare name assertion) none h e i = h e i
after_ordered es (ListBelow name) none h e i = h e i
after_ordered es (Search base subset f selection) none h e i = h e i
after_ordered es (AddEntry name attributes) none h e (inl i) = h e i
after_ordered es (AddEntry name attributes) none h e (inr w) = subst (λ (x : Named). is_ordered x.entry ≡ true) (sym w.3) (added_ordered name attributes none)
after_ordered es (RemoveEntry name) none h e w = h e w.0
after_ordered es (ModifyEntry name changes) none h e (inl w) = h e w.0
after_ordered es (ModifyEntry name changes) none h e (inr w) = subst (λ (x : Named). is_ordered x.entry ≡ true) (sym w.5) (modified_ordered name changes w.0.entry w.1 (h w.0 w.2) w.4)
after_ordered es (ModifyDn name rdn drops) none h e (inl w) = h e w.0
after_ordered es (ModifyDn name rdn drops) none h e (inr (inl w)) = subst (λ (x : Named). is_ordered x.entry ≡ true) (sym w.3) (renamed_ordered (last_rdn name) rdn drops w.0.entry (h w.0 w.1))
after_ordered es (ModifyDn name rdn drops) none h e (inr (inr w)) = subst (λ (x : Named). is_ordered x.entry ≡ true) (sym w.4) (h w.0 w.1)

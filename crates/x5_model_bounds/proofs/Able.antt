-- No refusal by the request alone, by an entry or by the judge of an update says that its agent is unable to proceed:
-- by the list of all refusals.
use Rattle.std.proofs.Common.{◌≡◌, ℕ, Bool, true, false, not, ◌&&◌, ◌||◌, inl, inr, List, [], ◌∷◌, ◌++◌, refl, sym, subst, Option, Some, None, if◌then◌else◌, nat_lt, length, map}
use Rattle.std.specs.List.{list_any, flat_map}
use Rattle.std.specs.Option.{is_none}
use Rattle.std.specs.declared.result.Result.{Result}
use Rattle.std.specs.declared.result.Result.TheVariants.{Ok, Err}
use Rattle.x5_model.specs.Words.{has, is_empty, first_of, in_option, when}
use Rattle.x5_model.specs.Members.{In, here}
use Rattle.x5_model.specs.Keys.{Key, same_key, is_prefix, parent}
use Rattle.x5_model.specs.Values.{TypeRef, Known, Unknown, Name, Offered, StoredValue, Rdn, key_of, last_rdn, name_above}
use Rattle.x5_model.specs.Attributes.{is_present, has_value, doubled, added_entry, stored_value, has_rdn, entry_with}
use Rattle.x5_model.specs.Changes.{ChangedEntry, and_then, each_value, put_new, drop_old, on_known, changed, changed_by, single_valued, keeps_rdn, modified, renamed}
use Rattle.x5_model.specs.Entries.{Entry, Named}
use Rattle.x5_model.specs.Selections.{selection_fault}
use Rattle.x5_model.specs.Requests.{Selection, Attribute, Change, AddAttribute, RemoveAttribute, AddValues, RemoveValues, Body, Read, Compare, ListBelow, Search, AddEntry, RemoveEntry, ModifyEntry, ModifyDn, Request}
use Rattle.x5_model.specs.Answers.{Source, DirError, NoSuchObject, AttributeProblem, UpdateProblem, Failed}
use Rattle.x5_model.specs.Problems.{invalid_attribute_syntax, undefined_attribute_type, constraint_violation, naming_violation, object_class_violation, object_class_modification_prohibited, no_such_attribute_or_value, entry_already_exists, attribute_or_value_already_exists}
use Rattle.x5_model.specs.Statics.{root_refusals, name_refusals, given, is_defined, value_refusals, has_equal_values, same_type, repeated, attribute_repeats, change_repeats, names_class, repeat_refusals, entry_refusals, added_refusals, static_refusals, fault_of}
use Rattle.x5_model.proofs.Lists.{in_first, in_either, of_flat}
use Rattle.x5_model_tree.specs.Tree.{Tree, tree_of, entry_at, is_there_or_root, has_below, matched, key_at, sorted_entries}
use Rattle.x5_model_tree.specs.Apply.{Ground, UpdatedEntries, Applied, absent, above_pin, is_taken, at_entry, replace_at, respelled, update, apply_over, apply, ground_of}
use Rattle.x5_model_tree.specs.Ask.{Told, Shows, Compares, Lists, Finds, Changes, Refuses, read, compare, info_of, has_type, updated, at_object, ask_body, ask_marked}
use Rattle.x5_model_serve.specs.Answering.{reply_from, own_source, copy_source}
use Rattle.x5_model_bounds.specs.Unable.{IsUnable, RepliesAble}
use Rattle.x5_model_bounds.proofs.Unables.{false_true}

abbrev IsAble : DirError → Type 0
IsAble x = IsUnable (Failed x) → ⊥

-- ---- the request alone

abbrev AreAble : List DirError → Type 0
AreAble xs = (x : DirError) → In x xs → IsAble x

none : AreAble []
none x i = elim i [ ]

both : (xs ys : List DirError) → AreAble xs → AreAble ys → AreAble (xs ++ ys)
both xs ys f g x i = elim (in_either x xs ys i) [ inl j ↦ f x j | inr j ↦ g x j ]

one : (b : Bool) (y : DirError) → IsAble y → AreAble (when b y)
one true y f x i = elim (in_first x y [] i) [ inl e ↦ subst IsAble (sym e) f | inr j ↦ elim j [ ] ]
one false y f x i = elim i [ ]

each : {X : Type 0} (f : X → List DirError) (xs : List X) → ((x : X) → AreAble (f x)) → AreAble (flat_map f xs)
each f xs g x i = (let w = of_flat f x xs i in g w.0 x w.2)

root_able : (n : Name) → AreAble (root_refusals n)
root_able n = one (is_empty n) (NoSuchObject []) false_true

name_able : (b : Body) → AreAble (name_refusals b)
name_able (Read name selection) = root_able name
name_able (Compare name assertion) = root_able name
name_able (ListBelow name) = none
name_able (Search base subset filter selection) = none
name_able (AddEntry name attributes) = one (nat_lt (length name) 2) (UpdateProblem naming_violation) false_true
name_able (RemoveEntry name) = root_able name
name_able (ModifyEntry name changes) = root_able name
name_able (ModifyDn name rdn drops) = root_able name

value_able : (a : Attribute) → AreAble (value_refusals a)
value_able a =
    both (when (not (is_defined a.kind)) (AttributeProblem undefined_attribute_type a.kind)) (when (list_any (λ v. is_none v.normal) a.values) (AttributeProblem invalid_attribute_syntax a.kind))
    (one (not (is_defined a.kind)) (AttributeProblem undefined_attribute_type a.kind) false_true) (one (list_any (λ v. is_none v.normal) a.values) (AttributeProblem invalid_attribute_syntax a.kind) false_true)

repeats_able : (earlier : List TypeRef) (given : List Attribute) → AreAble (attribute_repeats earlier given)
repeats_able earlier [] = none
repeats_able earlier (a ∷ more) =
    both (when (has_equal_values a || has same_type earlier a.kind) (repeated a)) (attribute_repeats (a.kind ∷ earlier) more)
    (one (has_equal_values a || has same_type earlier a.kind) (repeated a) false_true) (repeats_able (a.kind ∷ earlier) more)

change_able : (c : Change) → AreAble (change_repeats c)
change_able (AddAttribute a) = one (has_equal_values a) (repeated a) false_true
change_able (RemoveAttribute kind) = none
change_able (AddValues a) = one (has_equal_values a) (repeated a) false_true
change_able (RemoveValues a) = none

repeat_able : (b : Body) → AreAble (repeat_refusals b)
repeat_able (Read name selection) = none
repeat_able (Compare name assertion) = none
repeat_able (ListBelow name) = none
repeat_able (Search base subset filter selection) = none
repeat_able (AddEntry name attributes) = repeats_able [] attributes
repeat_able (RemoveEntry name) = none
repeat_able (ModifyEntry name changes) =
    both (flat_map change_repeats changes) (when (list_any names_class changes) (UpdateProblem object_class_modification_prohibited))
    (each change_repeats changes change_able) (one (list_any names_class changes) (UpdateProblem object_class_modification_prohibited) false_true)
repeat_able (ModifyDn name rdn drops) = none

doubled_able : (x : Option ℕ) → AreAble (in_option [] (λ kind. AttributeProblem constraint_violation (Known kind) ∷ []) x)
doubled_able None = none
doubled_able (Some kind) = one true (AttributeProblem constraint_violation (Known kind)) false_true

entry_able : (e : Entry) → AreAble (entry_refusals e)
entry_able e =
    both (in_option [] (λ kind. AttributeProblem constraint_violation (Known kind) ∷ []) (doubled e)) (when (not (is_present e 0)) (UpdateProblem object_class_violation))
    (doubled_able (doubled e)) (one (not (is_present e 0)) (UpdateProblem object_class_violation) false_true)

added_able : (b : Body) → AreAble (added_refusals b)
added_able (Read name selection) = none
added_able (Compare name assertion) = none
added_able (ListBelow name) = none
added_able (Search base subset filter selection) = none
added_able (AddEntry name attributes) = entry_able (added_entry (last_rdn name) attributes)
added_able (RemoveEntry name) = none
added_able (ModifyEntry name changes) = none
added_able (ModifyDn name rdn drops) = none

static_able : (b : Body) → AreAble (static_refusals b)
static_able b =
    both ((name_refusals b ++ flat_map value_refusals (given b)) ++ repeat_refusals b) (added_refusals b)
    (both (name_refusals b ++ flat_map value_refusals (given b)) (repeat_refusals b) (both (name_refusals b) (flat_map value_refusals (given b)) (name_able b) (each value_refusals (given b) value_able)) (repeat_able b)) (added_able b)

first_in : (xs : List DirError) (x : DirError) → first_of xs ≡ Some x → In x xs
first_in [] x e = cc
first_in (y ∷ xs) x e = (let same : y ≡ x = cc in subst (λ (z : DirError). In x (z ∷ xs)) (sym same) here)

fault_able : (b : Body) (x : DirError) → fault_of b ≡ Some x → IsAble x
fault_able b x e = static_able b x (first_in (static_refusals b) x e)

-- ---- updates

abbrev IsFine : {A : Type 0} → Result A DirError → Type 0
IsFine (Ok a) = Unit {0}
IsFine (Err x) = IsAble x

fine_if : {A : Type 0} (b : Bool) (x y : Result A DirError) → IsFine x → IsFine y → IsFine (if b then x else y)
fine_if true x y f g = f
fine_if false x y f g = g

fine_then : (c : ChangedEntry) (f : Entry → ChangedEntry) → IsFine c → ((e : Entry) → IsFine (f e)) → IsFine (and_then c f)
fine_then (Ok e) f g h = h e
fine_then (Err x) f g h = g

values_fine : (change : StoredValue → Entry → ChangedEntry) → ((v : StoredValue) (e : Entry) → IsFine (change v e)) → (os : List Offered) (e : Entry) → IsFine (each_value change os e)
values_fine change f [] e = tt
values_fine change f (o ∷ more) e = fine_then _ (each_value change more) (stored (stored_value o)) (values_fine change f more)
  where
    with_stored : Option StoredValue → ChangedEntry
    with_stored None = Ok e
    with_stored (Some v) = change v e

    stored : (x : Option StoredValue) → IsFine (with_stored x)
    stored None = tt
    stored (Some v) = f v e

known_fine : (change : ℕ → Entry → ChangedEntry) → ((k : ℕ) (e : Entry) → IsFine (change k e)) → (t : TypeRef) (e : Entry) → IsFine (on_known change t e)
known_fine change f (Known kind) e = f kind e
known_fine change f (Unknown arcs) e = tt

changed_fine : (c : Change) (e : Entry) → IsFine (changed c e)
changed_fine (AddAttribute a) e =
    known_fine (λ kind f. if is_present f kind then Err (AttributeProblem attribute_or_value_already_exists (Known kind)) else each_value (put_new kind) a.values f)
    (λ k f. fine_if (is_present f k) (Err (AttributeProblem attribute_or_value_already_exists (Known k))) (each_value (put_new k) a.values f) false_true (values_fine (put_new k) (λ v g. fine_if (has_value g k v.normal) _ _ false_true tt) a.values f)) a.kind e
changed_fine (RemoveAttribute type) e =
    known_fine (λ kind f. if is_present f kind then Ok (entry_with kind [] f) else Err (AttributeProblem no_such_attribute_or_value (Known kind)))
    (λ k f. fine_if (is_present f k) (Ok (entry_with k [] f)) (Err (AttributeProblem no_such_attribute_or_value (Known k))) tt false_true) type e
changed_fine (AddValues a) e = known_fine (λ kind f. each_value (put_new kind) a.values f) (λ k f. values_fine (put_new k) (λ v g. fine_if (has_value g k v.normal) _ _ false_true tt) a.values f) a.kind e
changed_fine (RemoveValues a) e = known_fine (λ kind f. each_value (drop_old kind) a.values f) (λ k f. values_fine (drop_old k) (λ v g. fine_if (has_value g k v.normal) _ _ tt false_true) a.values f) a.kind e

changes_fine : (cs : List Change) (e : Entry) → IsFine (changed_by cs e)
changes_fine [] e = tt
changes_fine (c ∷ more) e = fine_then (changed c e) (changed_by more) (changed_fine c e) (changes_fine more)

single_fine : (e : Entry) → IsFine (single_valued e)
single_fine e = go (doubled e)
  where
    by : Option ℕ → ChangedEntry
    by None = Ok e
    by (Some kind) = Err (AttributeProblem constraint_violation (Known kind))

    go : (x : Option ℕ) → IsFine (by x)
    go None = tt
    go (Some kind) = false_true

modified_fine : (rdn : Rdn) (cs : List Change) (e : Entry) → IsFine (modified rdn cs e)
modified_fine rdn cs e =
    fine_then (and_then (changed_by cs e) (keeps_rdn rdn)) single_valued
    (fine_then (changed_by cs e) (keeps_rdn rdn) (changes_fine cs e) (λ f. fine_if (has_rdn f rdn) _ _ tt false_true)) single_fine

entry_fine : (g : Ground) (key : Key) (f : Named → UpdatedEntries) → ((e : Named) → IsFine (f e)) → IsFine (at_entry g key f)
entry_fine g key f h = go (entry_at g.entries key)
  where
    by : Option Named → UpdatedEntries
    by None = Err (absent g key)
    by (Some e) = f e

    go : (x : Option Named) → IsFine (by x)
    go None = false_true
    go (Some e) = h e

update_fine : (g : Ground) (b : Body) → IsFine (update g b)
update_fine g (Read name selection) = tt
update_fine g (Compare name assertion) = tt
update_fine g (ListBelow name) = tt
update_fine g (Search base subset filter selection) = tt
update_fine g (AddEntry name attributes) = entry_fine g (parent (key_of name)) _ (λ e. fine_if (is_taken g (key_of name)) _ _ false_true tt)
update_fine g (RemoveEntry name) = entry_fine g (key_of name) _ (λ e. fine_if (above_pin g (key_of name)) _ _ false_true (fine_if (has_below g.entries (key_of name)) _ _ false_true tt))
update_fine g (ModifyEntry name changes) = entry_fine g (key_of name) _ (λ e. put e (modified (last_rdn name) changes e.entry) (modified_fine (last_rdn name) changes e.entry))
  where
    made : Named → ChangedEntry → UpdatedEntries
    made e (Ok new) = Ok (replace_at (key_of name) (record e { entry = new }) g.entries)
    made e (Err x) = Err x

    put : (e : Named) (c : ChangedEntry) → IsFine c → IsFine (made e c)
    put e (Ok new) f = tt
    put e (Err x) f = f
update_fine g (ModifyDn name rdn drops) =
    entry_fine g (key_of name) _ (λ e. fine_if (above_pin g (key_of name)) _ _ false_true (put (single_valued (renamed (last_rdn name) rdn drops e.entry)) (single_fine (renamed (last_rdn name) rdn drops e.entry))))
  where
    new_key : Key
    new_key = key_of (name_above name ++ rdn ∷ [])

    moved : Entry → Named → Named
    moved new e =
        if same_key (key_at e) (key_of name) then record { name = respelled (length (name_above name)) rdn e.name; entry = new }
        else (if is_prefix (key_of name) (key_at e) then record e { name = respelled (length (name_above name)) rdn e.name } else e)

    made : ChangedEntry → UpdatedEntries
    made (Err x) = Err x
    made (Ok new) =
        if not (same_key new_key (key_of name)) && is_taken g new_key then Err (UpdateProblem entry_already_exists)
        else Ok (sorted_entries (map (moved new) g.entries))

    put : (c : ChangedEntry) → IsFine c → IsFine (made c)
    put (Err x) f = f
    put (Ok new) f = fine_if (not (same_key new_key (key_of name)) && is_taken g new_key) (Err (UpdateProblem entry_already_exists)) (Ok (sorted_entries (map (moved new) g.entries))) false_true tt

of_fine : {A : Type 0} (r : Result A DirError) (x : DirError) → IsFine r → r ≡ Err x → IsAble x
of_fine (Ok a) x f e = cc
of_fine (Err y) x f e = (let same : y ≡ x = cc in subst IsAble same f)

apply_fine : (g : Ground) (b : Body) → IsFine (apply_over g b)
apply_fine g b = go (fault_of b) refl
  where
    by : Option DirError → UpdatedEntries
    by (Some x) = Err x
    by None = update g b

    go : (x : Option DirError) → fault_of b ≡ x → IsFine (by x)
    go (Some x) e = fault_able b x e
    go None e = update_fine g b

judged_able : (g : Ground) (b : Body) (x : DirError) → apply_over g b ≡ Err x → IsAble x
judged_able g b x e = of_fine (apply_over g b) x (apply_fine g b) e

-- ---- queries

abbrev IsTold : Told → Type 0
IsTold (Shows info) = Unit {0}
IsTold (Compares equal copy) = Unit {0}
IsTold (Lists subs cut) = Unit {0}
IsTold (Finds infos cut) = Unit {0}
IsTold Changes = Unit {0}
IsTold (Refuses x) = IsAble x

told_if : (b : Bool) (x y : Told) → IsTold x → IsTold y → IsTold (if b then x else y)
told_if true x y f g = f
told_if false x y f g = g

object_told : (t : Tree) (name : Name) (f : Named → Told) → ((e : Named) → IsTold (f e)) → IsTold (at_object t name f)
object_told t name f h = go (entry_at t.entries (key_of name))
  where
    by : Option Named → Told
    by None = Refuses (NoSuchObject (matched t.entries (key_of name)))
    by (Some e) = f e

    go : (x : Option Named) → IsTold (by x)
    go None = false_true
    go (Some e) = h e

read_told : (copies : Key → Bool) (selection : Selection) (e : Named) → IsTold (read copies selection e)
read_told copies selection e = go (selection_fault selection e.entry)
  where
    by : Option TypeRef → Told
    by None = Shows (info_of copies selection e)
    by (Some kind) = Refuses (AttributeProblem no_such_attribute_or_value kind)

    go : (x : Option TypeRef) → IsTold (by x)
    go None = tt
    go (Some kind) = false_true

applied_told : (t : Tree) (r : Request) → IsTold (updated (apply t r))
applied_told t r = go (apply_over (ground_of t) r.body) (apply_fine (ground_of t) r.body)
  where
    by : UpdatedEntries → Applied
    by (Ok entries) = Ok (record t { entries = entries })
    by (Err x) = Err x

    go : (x : UpdatedEntries) → IsFine x → IsTold (updated (by x))
    go (Ok es) f = tt
    go (Err x) f = f

body_told : (copies : Key → Bool) (t : Tree) (r : Request) (b : Body) → IsTold (ask_body copies t r b)
body_told copies t r (Read name selection) = object_told t name (read copies selection) (read_told copies selection)
body_told copies t r (Compare name a) = object_told t name (compare copies a) (λ e. told_if (has_type e.entry a.kind) _ _ tt false_true)
body_told copies t r (ListBelow name) = told_if (is_there_or_root t.entries (key_of name)) _ _ tt false_true
body_told copies t r (Search base subset f selection) = told_if (is_there_or_root t.entries (key_of base)) _ _ tt false_true
body_told copies t r (AddEntry name attributes) = applied_told t r
body_told copies t r (RemoveEntry name) = applied_told t r
body_told copies t r (ModifyEntry name changes) = applied_told t r
body_told copies t r (ModifyDn name rdn drops) = applied_told t r

asked_told : (copies : Key → Bool) (t : Tree) (r : Request) → IsTold (ask_marked copies t r)
asked_told copies t r = go (fault_of r.body) refl
  where
    by : Option DirError → Told
    by (Some x) = Refuses x
    by None = ask_body copies t r r.body

    go : (x : Option DirError) → fault_of r.body ≡ x → IsTold (by x)
    go (Some x) e = fault_able r.body x e
    go None e = body_told copies t r r.body

from_able : (sources : List Source) (t : Told) → IsTold t → IsUnable (reply_from sources t) → ⊥
from_able [] (Shows info) f u = false_true u
from_able (s ∷ ss) (Shows info) f u = false_true u
from_able [] (Compares equal copy) f u = false_true u
from_able (s ∷ ss) (Compares equal copy) f u = false_true u
from_able sources (Lists subs cut) f u = false_true u
from_able sources (Finds infos cut) f u = false_true u
from_able sources Changes f u = false_true u
from_able sources (Refuses x) f u = f u

pub replies_able : RepliesAble
replies_able = record {
  faults = fault_able;
  own = λ me m c u. from_able (own_source me c ∷ []) (ask_marked (λ key. false) (tree_of c.entries []) m.request) (asked_told (λ key. false) (tree_of c.entries []) m.request) u;
  copy = λ me m c u. from_able (copy_source me c ∷ []) (ask_marked (λ key. true) (tree_of c.held.entries []) m.request) (asked_told (λ key. true) (tree_of c.held.entries []) m.request) u;
  judged = judged_able;
}

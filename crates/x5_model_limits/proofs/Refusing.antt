-- What a request within the limits is refused with is within them: by the cases of what refuses it, since the types
-- that are told are the request's own or of the table, and the names that are told are of entries.
use Rattle.std.proofs.Common.{◌≡◌, ℕ, zero, suc, Bool, true, false, ◌&&◌, ◌||◌, nat_lt, nat_le, not, List, [], ◌∷◌, ◌++◌, map, length, refl, sym, ap, subst, ◌∙◌, Option, Some, None, Ok, Err, cond, inl, inr}
use Rattle.std.proofs.lemmas.Bool.{leb-true}
use Rattle.std.specs.List.{flat_map, list_any}
use Rattle.std.specs.Option.{is_none}
use Rattle.x5_model.specs.Words.{has, is_empty, first_of, in_option, when}
use Rattle.x5_model.specs.Members.{In, here, there}
use Rattle.x5_model.specs.Keys.{Key, parent}
use Rattle.x5_model.specs.Values.{TypeRef, Known, Unknown, StoredValue, Offered, Rdn, Name, key_of, last_rdn}
use Rattle.x5_model.specs.Types.{Row, row_of, in_row, is_known, is_single}
use Rattle.x5_model.specs.Entries.{Stored, Entry, Named}
use Rattle.x5_model.specs.Attributes.{is_present, has_value, entry_with, put_value, drop_value, has_rdn, doubled, stored_value, added_entry}
use Rattle.x5_model.specs.Requests.{Attribute, Change, AddAttribute, RemoveAttribute, AddValues, RemoveValues, Body, Read, Compare, ListBelow, Search, AddEntry, RemoveEntry, ModifyEntry, ModifyDn}
use Rattle.x5_model.specs.Answers.{DirError, NoSuchObject, AttributeProblem, UpdateProblem}
use Rattle.x5_model.specs.Statics.{attribute_of, name_refusals, given, value_refusals, attribute_repeats, change_repeats, repeat_refusals, entry_refusals, added_refusals, static_refusals, fault_of, names_class, is_defined, has_equal_values, same_type, repeated}
use Rattle.x5_model.specs.Changes.{ChangedEntry, and_then, each_value, put_new, drop_old, on_known, changed, changed_by, single_valued, keeps_rdn, modified, renamed}
use Rattle.x5_model.proofs.Lists.{both_true, of_filter, of_find, of_map, of_flat}
use Rattle.x5_model_tree.specs.Tree.{entry_at, has_below, lowest_within, or_shorter, matched}
use Rattle.x5_model_tree.specs.Apply.{Ground, UpdatedEntries, is_taken, above_pin, at_entry, modify, rename, update, apply_over}
use Rattle.x5_model_updates.proofs.Outcomes.{none_or_some, modify_none, modify_some, clashes, rename_none, rename_some, over_fault, over_update}
use Rattle.x5_model_run.specs.Holdings.{as_context}
use Rattle.x5_model_fitting.specs.Names.{Each, NameWithin}
use Rattle.x5_model_fitting.specs.Terms.{TypeWithin}
use Rattle.x5_model_fitting.specs.Requests.{ChangeWithin, BodyWithin}
use Rattle.x5_model_fitting.specs.Replies.{ProblemWithin}
use Rattle.x5_model_fitting.proofs.Texts.{known_within}
use Rattle.x5_model_limits.specs.Holding.{BoundedEntry}
use Rattle.x5_model_limits.specs.Messages.{BoundedError}
use Rattle.x5_model_limits.specs.Laws.{RefusalsBounded, JudgedBounded, GroundBounded}
use Rattle.x5_model_limits.proofs.Spelling.{root_within}
use Rattle.x5_model_limits.proofs.Lists.{each_none, each_one, each_both, each_when, each_flat}

abbrev AllBounded : List DirError → Type 0
AllBounded xs = Each BoundedError xs

one_when : (b : Bool) (x : DirError) → BoundedError x → AllBounded (when b x)
one_when b x p = each_when BoundedError b x (λ e. p)

-- ---- single errors
pub problem_within : (most k : ℕ) → (nat_le 1 k && nat_le k most) ≡ true → ProblemWithin most k
problem_within most k e =
    let w = both_true (nat_le 1 k) (nat_le k most) e in (leb-true 1 k w.0, leb-true k most w.1)

update_problem : (k : ℕ) → (nat_le 1 k && nat_le k 7) ≡ true → BoundedError (UpdateProblem k)
update_problem k e = problem_within 7 k e

pub attribute_problem : (k : ℕ) (type : TypeRef) → (nat_le 1 k && nat_le k 6) ≡ true → TypeWithin type
    → BoundedError (AttributeProblem k type)
attribute_problem k type e t = (problem_within 6 k e, t)

-- a single-valued type is of the table
single_known : (kind : ℕ) → is_single kind ≡ true → is_known kind ≡ true
single_known kind h = by (row_of kind) h
  where
    by : (o : Option Row) → in_row false (λ r. r.single) o ≡ true → in_row false (λ r. true) o ≡ true
    by None e = absurd (cc e)
    by (Some r) e = refl

first_in : {A : Type 0} (xs : List A) (x : A) → first_of xs ≡ Some x → In x xs
first_in [] x e = absurd (cc e)
first_in {A} (y ∷ ys) x e = (let q : y ≡ x = cc in subst (λ (z : A). In z (y ∷ ys)) q here)

doubled_within : (e : Entry) (kind : ℕ) → doubled e ≡ Some kind → TypeWithin (Known kind)
doubled_within e kind h =
    let w = of_map (λ (a : Stored). a.kind) kind _ (first_in _ kind h) in
    let v = of_filter (λ (a : Stored). is_single a.kind && nat_lt 1 (length a.values)) w.0 e.attributes w.1 in
    known_within kind
    (single_known kind
    (ap is_single w.2 ∙ (both_true (is_single w.0.kind) (nat_lt 1 (length w.0.values)) v.1).0))

-- ---- by the request alone
names_bounded : (body : Body) → AllBounded (name_refusals body)
names_bounded (Read name selection) = one_when (is_empty name) (NoSuchObject []) root_within
names_bounded (Compare name a) = one_when (is_empty name) (NoSuchObject []) root_within
names_bounded (ListBelow name) = each_none BoundedError
names_bounded (Search base subset f selection) = each_none BoundedError
names_bounded (AddEntry name attributes) = one_when (nat_lt (length name) 2) _ (update_problem _ refl)
names_bounded (RemoveEntry name) = one_when (is_empty name) (NoSuchObject []) root_within
names_bounded (ModifyEntry name changes) = one_when (is_empty name) (NoSuchObject []) root_within
names_bounded (ModifyDn name rdn drops) = one_when (is_empty name) (NoSuchObject []) root_within

abbrev Typed : Attribute → Type 0
Typed a = TypeWithin a.kind

change_typed : (c : Change) → ChangeWithin c → Typed (attribute_of c)
change_typed (AddAttribute a) h = h.type
change_typed (RemoveAttribute type) h = h
change_typed (AddValues a) h = h.type
change_typed (RemoveValues a) h = h.type

given_typed : (body : Body) → BodyWithin body → Each Typed (given body)
given_typed (Read name selection) h = each_none Typed
given_typed (Compare name a) h = each_one Typed _ h.1.type
given_typed (ListBelow name) h = each_none Typed
given_typed (Search base subset f selection) h = each_none Typed
given_typed (AddEntry name attributes) h = λ a i. (h.1 a i).type
given_typed (RemoveEntry name) h = each_none Typed
given_typed (ModifyEntry name changes) h = λ a i.
    (let w = of_map attribute_of a changes i in subst Typed (sym w.2) (change_typed w.0 (h.1 w.0 w.1)))
given_typed (ModifyDn name rdn drops) h = each_none Typed

values_bounded : (a : Attribute) → Typed a → AllBounded (value_refusals a)
values_bounded a t =
    each_both BoundedError (when (not (is_defined a.kind)) _) _
    (one_when (not (is_defined a.kind)) _ (attribute_problem _ a.kind refl t))
    (one_when (list_any (λ (v : Offered). is_none v.normal) a.values) _
    (attribute_problem _ a.kind refl t))

repeated_bounded : (a : Attribute) → Typed a → BoundedError (repeated a)
repeated_bounded a t = attribute_problem _ a.kind refl t

attributes_bounded : (earlier : List TypeRef) (given : List Attribute) → Each Typed given
    → AllBounded (attribute_repeats earlier given)
attributes_bounded earlier [] h = each_none BoundedError
attributes_bounded earlier (a ∷ more) h =
    each_both BoundedError (when (has_equal_values a || has same_type earlier a.kind) (repeated a))
    (attribute_repeats (a.kind ∷ earlier) more)
    (one_when (has_equal_values a || has same_type earlier a.kind) (repeated a)
    (repeated_bounded a (h a here))) (attributes_bounded (a.kind ∷ earlier) more (λ b i. h b (there i)))

change_bounded : (c : Change) → ChangeWithin c → AllBounded (change_repeats c)
change_bounded (AddAttribute a) h = one_when (has_equal_values a) (repeated a) (repeated_bounded a h.type)
change_bounded (RemoveAttribute kind) h = each_none BoundedError
change_bounded (AddValues a) h = one_when (has_equal_values a) (repeated a) (repeated_bounded a h.type)
change_bounded (RemoveValues a) h = each_none BoundedError

repeats_bounded : (body : Body) → BodyWithin body → AllBounded (repeat_refusals body)
repeats_bounded (Read name selection) h = each_none BoundedError
repeats_bounded (Compare name a) h = each_none BoundedError
repeats_bounded (ListBelow name) h = each_none BoundedError
repeats_bounded (Search base subset f selection) h = each_none BoundedError
repeats_bounded (AddEntry name attributes) h = attributes_bounded [] attributes (λ a i. (h.1 a i).type)
repeats_bounded (RemoveEntry name) h = each_none BoundedError
repeats_bounded (ModifyEntry name changes) h =
    each_both BoundedError (flat_map change_repeats changes) _
    (each_flat BoundedError change_repeats changes (λ c i. change_bounded c (h.1 c i)))
    (one_when (list_any names_class changes) _ (update_problem _ refl))
repeats_bounded (ModifyDn name rdn drops) h = each_none BoundedError

entry_bounded : (e : Entry) → AllBounded (entry_refusals e)
entry_bounded e =
    each_both BoundedError (in_option [] (λ kind. AttributeProblem _ (Known kind) ∷ []) (doubled e)) _
    (by (doubled e) refl) (one_when (not (is_present e 0)) _ (update_problem _ refl))
  where
    by : (o : Option ℕ) → doubled e ≡ o
        → AllBounded (in_option [] (λ kind. AttributeProblem 5 (Known kind) ∷ []) o)
    by None q = each_none BoundedError
    by (Some kind) q =
        each_one BoundedError _ (attribute_problem 5 (Known kind) refl (doubled_within e kind q))

added_bounded : (body : Body) → AllBounded (added_refusals body)
added_bounded (Read name selection) = each_none BoundedError
added_bounded (Compare name a) = each_none BoundedError
added_bounded (ListBelow name) = each_none BoundedError
added_bounded (Search base subset f selection) = each_none BoundedError
added_bounded (AddEntry name attributes) = entry_bounded (added_entry (last_rdn name) attributes)
added_bounded (RemoveEntry name) = each_none BoundedError
added_bounded (ModifyEntry name changes) = each_none BoundedError
added_bounded (ModifyDn name rdn drops) = each_none BoundedError

all_bounded : (body : Body) → BodyWithin body → AllBounded (static_refusals body)
all_bounded body h =
    each_both BoundedError (name_refusals body ++ flat_map value_refusals (given body) ++ repeat_refusals body)
    (added_refusals body)
    (each_both BoundedError (name_refusals body ++ flat_map value_refusals (given body)) (repeat_refusals body)
    (each_both BoundedError (name_refusals body) (flat_map value_refusals (given body)) (names_bounded body)
    (each_flat BoundedError value_refusals (given body) (λ a i. values_bounded a (given_typed body h a i))))
    (repeats_bounded body h)) (added_bounded body)

pub refusals_are_bounded : RefusalsBounded
refusals_are_bounded r x h e = all_bounded r.body h.body x (first_in (static_refusals r.body) x e)

-- ---- by what an entry is
abbrev BoundedChange : ChangedEntry → Type 0
BoundedChange (Ok e) = Unit {0}
BoundedChange (Err x) = BoundedError x

then_bounded : (c : ChangedEntry) (f : Entry → ChangedEntry) → BoundedChange c → ((e : Entry) → BoundedChange (f e))
    → BoundedChange (and_then c f)
then_bounded (Ok e) f p g = g e
then_bounded (Err x) f p g = p

if_bounded : (b : Bool) (c d : ChangedEntry) → BoundedChange c → BoundedChange d → BoundedChange (cond b c d)
if_bounded true c d p q = p
if_bounded false c d p q = q

each_value_bounded : (change : StoredValue → Entry → ChangedEntry)
    → ((v : StoredValue) (e : Entry) → BoundedChange (change v e))
    → (os : List Offered) (e : Entry) → BoundedChange (each_value change os e)
each_value_bounded change f [] e = tt
each_value_bounded change f (o ∷ more) e = step o more e (each_value_bounded change f more)
  where
    step : (o : Offered) (more : List Offered) (e : Entry) → ((f : Entry) → BoundedChange (each_value change more f))
        → BoundedChange (each_value change (o ∷ more) e)
    step o more e g = by (stored_value o) refl
      where
        by : (s : Option StoredValue) → stored_value o ≡ s → BoundedChange (each_value change (o ∷ more) e)
        by None q = rw q (g e)
        by (Some v) q = rw q (then_bounded (change v e) (each_value change more) (f v e) g)

put_bounded : (kind : ℕ) (v : StoredValue) (e : Entry) → TypeWithin (Known kind) → BoundedChange (put_new kind v e)
put_bounded kind v e t =
    if_bounded (has_value e kind v.normal) _ (Ok (put_value kind v e)) (attribute_problem _ _ refl t) tt

drop_bounded : (kind : ℕ) (v : StoredValue) (e : Entry) → TypeWithin (Known kind) → BoundedChange (drop_old kind v e)
drop_bounded kind v e t =
    if_bounded (has_value e kind v.normal) (Ok (drop_value kind v.normal e)) _ tt
    (attribute_problem _ _ refl t)

known_bounded : (f : ℕ → Entry → ChangedEntry) (t : TypeRef) (e : Entry) → TypeWithin t
    → ((n : ℕ) → TypeWithin (Known n) → BoundedChange (f n e))
    → BoundedChange (on_known f t e)
known_bounded f (Known kind) e t g = g kind t
known_bounded f (Unknown arcs) e t g = tt

changed_bounded : (c : Change) (e : Entry) → ChangeWithin c → BoundedChange (changed c e)
changed_bounded (AddAttribute a) e h = known_bounded _ a.kind e h.type (λ kind t.
    if_bounded (is_present e kind) _ (each_value (put_new kind) a.values e) (attribute_problem _ _ refl t)
    (each_value_bounded (put_new kind) (λ v f. put_bounded kind v f t) a.values e))
changed_bounded (RemoveAttribute type) e h = known_bounded _ type e h (λ kind t.
    if_bounded (is_present e kind) (Ok (entry_with kind [] e)) _ tt (attribute_problem _ _ refl t))
changed_bounded (AddValues a) e h = known_bounded _ a.kind e h.type (λ kind t.
    each_value_bounded (put_new kind) (λ v f. put_bounded kind v f t) a.values e)
changed_bounded (RemoveValues a) e h = known_bounded _ a.kind e h.type (λ kind t.
    each_value_bounded (drop_old kind) (λ v f. drop_bounded kind v f t) a.values e)

changes_bounded : (cs : List Change) (e : Entry) → Each ChangeWithin cs → BoundedChange (changed_by cs e)
changes_bounded [] e h = tt
changes_bounded (c ∷ more) e h =
    then_bounded (changed c e) (changed_by more) (changed_bounded c e (h c here))
    (λ f. changes_bounded more f (λ d i. h d (there i)))

single_bounded : (e : Entry) → BoundedChange (single_valued e)
single_bounded e = by (doubled e) refl
  where
    by : (o : Option ℕ) → doubled e ≡ o → BoundedChange (single_valued e)
    by None q = rw q tt
    by (Some kind) q = rw q (attribute_problem 5 (Known kind) refl (doubled_within e kind q))

modified_bounded : (rdn : Rdn) (cs : List Change) (e : Entry) → Each ChangeWithin cs → BoundedChange (modified rdn cs e)
modified_bounded rdn cs e h =
    then_bounded (and_then (changed_by cs e) (keeps_rdn rdn)) single_valued
    (then_bounded (changed_by cs e) (keeps_rdn rdn) (changes_bounded cs e h)
    (λ f. if_bounded (has_rdn f rdn) (Ok f) _ tt (update_problem _ refl))) single_bounded

-- ---- by the ground: the lowest entry on the way to a name is an entry
shorter_in : (P : Named → Type 0) (a b : Option Named) → ((e : Named) → a ≡ Some e → P e)
    → ((e : Named) → b ≡ Some e → P e)
    → (e : Named) → or_shorter a b ≡ Some e → P e
shorter_in P None b f g e q = g e q
shorter_in P (Some d) b f g e q = f e q

lowest_so : (P : Named → Type 0) (es : List Named) (key : Key) (n : ℕ) → Each P es → (e : Named)
    → lowest_within es key n ≡ Some e → P e
lowest_so P es key zero h e q = absurd (cc q)
lowest_so P es key (suc n) h e q =
    shorter_in P (entry_at es _) (lowest_within es key n) (λ d r. h d (of_find _ d es r).0)
    (lowest_so P es key n h) e q

pub matched_within : (es : List Named) (key : Key) → Each BoundedEntry es → NameWithin (matched es key)
matched_within es key h = by (lowest_within es key (length key)) (lowest_so BoundedEntry es key (length key) h)
  where
    by : (o : Option Named) → ((e : Named) → o ≡ Some e → BoundedEntry e)
        → NameWithin (in_option [] (λ e. e.name) o)
    by None f = root_within
    by (Some e) f = (f e refl).name

abbrev BoundedOutcome : UpdatedEntries → Type 0
BoundedOutcome (Ok es) = Unit {0}
BoundedOutcome (Err x) = BoundedError x

if_out : (b : Bool) (c d : UpdatedEntries) → BoundedOutcome c → BoundedOutcome d → BoundedOutcome (cond b c d)
if_out true c d p q = p
if_out false c d p q = q

at_bounded : (g : Ground) (key : Key) (f : Named → UpdatedEntries) → Each BoundedEntry g.entries
    → ((e : Named) → BoundedOutcome (f e))
    → BoundedOutcome (at_entry g key f)
at_bounded g key f h k = by (entry_at g.entries key) refl
  where
    by : (o : Option Named) → entry_at g.entries key ≡ o → BoundedOutcome (at_entry g key f)
    by None q = rw q (matched_within g.entries key h)
    by (Some e) q = rw q (k e)

modify_bounded : (g : Ground) (name : Name) (changes : List Change) → Each BoundedEntry g.entries
    → Each ChangeWithin changes → BoundedOutcome (modify g name changes)
modify_bounded g name changes all h = elim (none_or_some (entry_at g.entries (key_of name))) [
  | inl q ↦ subst (λ (o : UpdatedEntries). BoundedOutcome o) (sym (modify_none g name changes q))
      (matched_within g.entries (key_of name) all)
  | inr w ↦ by w.0 w.1 (modified (last_rdn name) changes w.0.entry) refl
      (modified_bounded (last_rdn name) changes w.0.entry h)
]
  where
    by : (e : Named) → entry_at g.entries (key_of name) ≡ Some e → (c : ChangedEntry)
        → modified (last_rdn name) changes e.entry ≡ c
        → BoundedChange c → BoundedOutcome (modify g name changes)
    by e q (Ok new) h p =
        subst (λ (o : UpdatedEntries). BoundedOutcome o) (sym (modify_some g name changes e (Ok new) q h)) tt
    by e q (Err x) h p =
        subst (λ (o : UpdatedEntries). BoundedOutcome o) (sym (modify_some g name changes e (Err x) q h)) p

rename_bounded : (g : Ground) (name : Name) (rdn : Rdn) (drops : Bool) → Each BoundedEntry g.entries
    → BoundedOutcome (rename g name rdn drops)
rename_bounded g name rdn drops all = elim (none_or_some (entry_at g.entries (key_of name))) [
  | inl q ↦ subst (λ (o : UpdatedEntries). BoundedOutcome o) (sym (rename_none g name rdn drops q))
      (matched_within g.entries (key_of name) all)
  | inr w ↦ by w.0 w.1 (above_pin g (key_of name)) refl
      (single_valued (renamed (last_rdn name) rdn drops w.0.entry)) refl
      (clashes g name rdn) refl (single_bounded (renamed (last_rdn name) rdn drops w.0.entry))
]
  where
    by : (e : Named) → entry_at g.entries (key_of name) ≡ Some e → (a : Bool) → above_pin g (key_of name) ≡ a
        → (c : ChangedEntry) → single_valued (renamed (last_rdn name) rdn drops e.entry) ≡ c → (b : Bool)
        → clashes g name rdn ≡ b
        → BoundedChange c → BoundedOutcome (rename g name rdn drops)
    by e q true h c i b t p =
        subst (λ (o : UpdatedEntries). BoundedOutcome o) (sym (rename_some g name rdn drops e true c b q h i t))
        (update_problem _ refl)
    by e q false h (Err x) i b t p =
        subst (λ (o : UpdatedEntries). BoundedOutcome o)
        (sym (rename_some g name rdn drops e false (Err x) b q h i t)) p
    by e q false h (Ok new) i true t p =
        subst (λ (o : UpdatedEntries). BoundedOutcome o)
        (sym (rename_some g name rdn drops e false (Ok new) true q h i t)) (update_problem _ refl)
    by e q false h (Ok new) i false t p =
        subst (λ (o : UpdatedEntries). BoundedOutcome o)
        (sym (rename_some g name rdn drops e false (Ok new) false q h i t)) tt

update_bounded : (g : Ground) (body : Body) → Each BoundedEntry g.entries → BodyWithin body
    → BoundedOutcome (update g body)
update_bounded g (Read name selection) all h = tt
update_bounded g (Compare name a) all h = tt
update_bounded g (ListBelow name) all h = tt
update_bounded g (Search base subset f selection) all h = tt
update_bounded g (AddEntry name attributes) all h = at_bounded g (parent (key_of name)) _ all (λ e.
    if_out (is_taken g (key_of name)) _ _ (update_problem _ refl) tt)
update_bounded g (RemoveEntry name) all h = at_bounded g (key_of name) _ all (λ e.
    if_out (above_pin g (key_of name)) _ _ (update_problem _ refl)
    (if_out (has_below g.entries (key_of name)) _ _ (update_problem _ refl) tt))
update_bounded g (ModifyEntry name changes) all h = modify_bounded g name changes all h.1
update_bounded g (ModifyDn name rdn drops) all h = rename_bounded g name rdn drops all

outcome_of : (o : UpdatedEntries) (x : DirError) → o ≡ Err x → BoundedOutcome o → BoundedError x
outcome_of o x e p = subst (λ (y : UpdatedEntries). BoundedOutcome y) e p

pub judged_is_bounded : JudgedBounded
judged_is_bounded g r x all h e = by (fault_of r.body) refl
  where
    error_is : (x y : DirError) (o : UpdatedEntries) → o ≡ Err x → o ≡ Err y → x ≡ y
    error_is x y o p q = cc

    by : (o : Option DirError) → fault_of r.body ≡ o → BoundedError x
    by None q = outcome_of (update g r.body) x (sym (over_update g r.body q) ∙ e) (update_bounded g r.body all h.body)
    by (Some y) q =
        subst (λ (z : DirError). BoundedError z)
        (error_is y x (apply_over g r.body) (over_fault g r.body y q) e)
        (refusals_are_bounded r y h q)

-- ---- the ground is made of contexts
pub ground_is_bounded : GroundBounded
ground_is_bounded r h b e i =
    let w = of_flat _ e (map as_context h.own) i in
    let v = of_map as_context w.0 h.own w.1 in
    let held : In e v.0.entries = subst (λ c. In e c.entries) v.2 (of_filter _ e w.0.entries w.2).0 in
    (b.own v.0 v.1).entries e held

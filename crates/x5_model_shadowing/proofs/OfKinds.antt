-- An accepted update leaves entries of values that are of their types' kinds, with their normal forms: each value that
-- comes in was offered with its own, or stands in a name within the limits of messages.
use Rattle.std.proofs.Common.{◌≡◌, ℕ, ◌+◌, Bool, true, false, not, ◌&&◌, ◌==◌, nat_lt, inl, inr, List, [], ◌∷◌, length, refl, sym, ap, subst, ◌∙◌, Option, Some, None, Result, Ok, Err, if◌then◌else◌}
use Rattle.std.specs.Cmp.Lexicographic.{bytes_decides}
use Rattle.std.specs.List.{cons_option, filter, filter_map, list_any, list_all}
use Rattle.std.specs.Result.{result_ok}
use Rattle.x5_model.specs.Words.{is_empty, insert_sorted, in_option, same_octets}
use Rattle.x5_model.specs.Members.{In, here, there}
use Rattle.x5_model.specs.Values.{Text, TypeRef, Known, Unknown, TextValue, StoredValue, Offered, Pair, Rdn, written_pair}
use Rattle.x5_model.specs.Types.{Kind, is_known, may_name, kind_of}
use Rattle.x5_model.specs.Normal.{ValueFault, WrongSyntax, most_octets, most_pairs, over, first_found, rdn_over, ascends, is_pair, is_text_of_kind, text_normal, within, normal_of, stored_pair, stored_rdn, written_rdn}
use Rattle.x5_model.specs.Entries.{Stored, Entry}
use Rattle.x5_model.specs.Assertions.{normal_for}
use Rattle.x5_model.specs.Attributes.{value_below, kind_below, attribute_at, values_at, is_present, has_value, entry_with, put_value, drop_value, value_of_pair, has_pair, has_rdn, with_rdn, without_rdn, stored_value, stored_values, with_offered, entry_of}
use Rattle.x5_model.specs.Changes.{ChangedEntry, and_then, each_value, put_new, drop_old, on_known, changed, changed_by, single_valued, keeps_rdn, modified, renamed}
use Rattle.x5_model.specs.Requests.{Attribute, Change, AddAttribute, RemoveAttribute, AddValues, RemoveValues}
use Rattle.x5_model.specs.Answers.{AttributeProblem, UpdateProblem}
use Rattle.x5_model.specs.Problems.{no_such_attribute_or_value, attribute_or_value_already_exists, not_allowed_on_rdn}
use Rattle.x5_model.proofs.Decide.{nat_same_decides}
use Rattle.x5_model.proofs.Lists.{both_true, and_true, all_in, of_all, of_find, of_filter}
use Rattle.x5_model.proofs.Ascending.{of_insert, of_sorted}
use Rattle.x5_model_tree.specs.Described.{is_normal, is_stored_value, is_stored_attribute}
use Rattle.x5_model_updates.proofs.Outcomes.{single_is}
use Rattle.x5_model_fitting.specs.Names.{Each, RdnWithin}
use Rattle.x5_model_fitting.specs.Terms.{TypeWithin, OfferedWithin, AttributeWithin}
use Rattle.x5_model_fitting.specs.Requests.{ChangeWithin}
use Rattle.x5_model_fitting.proofs.Names.{none_first}
use Rattle.x5_model_fitting.proofs.Texts.{naming_known}

-- ---- the values of one type

abbrev pub IsOfKind : ℕ → StoredValue → Type 0
IsOfKind kind v = is_stored_value kind v ≡ true

abbrev pub HasKind : Stored → Type 0
HasKind a = is_stored_attribute a ≡ true

abbrev pub AreOfKinds : Entry → Type 0
AreOfKinds e = Each HasKind e.attributes

values_of : (a : Stored) → HasKind a → Each (IsOfKind a.kind) a.values
values_of a h v i =
    of_all (is_stored_value a.kind) v a.values
    (both_true (is_known a.kind) (list_all (is_stored_value a.kind) a.values) h).1 i

of_values : (kind : ℕ) (values : List StoredValue) → is_known kind ≡ true → Each (IsOfKind kind) values
    → HasKind (record { kind = kind; values = values })
of_values kind values known each =
    and_true (is_known kind) (list_all (is_stored_value kind) values) known (all_in (is_stored_value kind) values each)

values_kept : (e : Entry) (kind : ℕ) → AreOfKinds e → Each (IsOfKind kind) (values_at e kind)
values_kept e kind h = by (attribute_at e kind) refl
  where
    by : (o : Option Stored) → attribute_at e kind ≡ o → Each (IsOfKind kind) (in_option [] (λ a. a.values) o)
    by None q v i = elim i [ ]
    by (Some a) q v i =
        let f = of_find (λ (x : Stored). x.kind == kind) a e.attributes q in
        subst (λ (k : ℕ). IsOfKind k v) ((nat_same_decides a.kind kind).0 f.1) (values_of a (h a f.0) v i)

with_kept : (kind : ℕ) (values : List StoredValue) (e : Entry) → is_known kind ≡ true → Each (IsOfKind kind) values
    → AreOfKinds e → AreOfKinds (entry_with kind values e)
with_kept kind values e known each h = by (is_empty values)
  where
    others : List Stored
    others = filter (λ a. not (a.kind == kind)) e.attributes

    other : (a : Stored) → In a others → HasKind a
    other a i = h a (of_filter (λ (x : Stored). not (x.kind == kind)) a e.attributes i).0

    by : (b : Bool) → Each HasKind (if b then others
        else insert_sorted kind_below (record { kind = kind; values = values }) others)
    by true a i = other a i
    by false a i = elim (of_insert kind_below a (record { kind = kind; values = values }) others i) [
      | inl s ↦ subst HasKind (sym s) (of_values kind values known each)
      | inr j ↦ other a j
    ]

put_kept : (kind : ℕ) (v : StoredValue) (e : Entry) → is_known kind ≡ true → IsOfKind kind v → AreOfKinds e
    → AreOfKinds (put_value kind v e)
put_kept kind v e known b h =
    with_kept kind (insert_sorted value_below v (values_at e kind)) e known
    (λ x i. elim (of_insert value_below x v (values_at e kind) i) [
      | inl s ↦ subst (IsOfKind kind) (sym s) b
      | inr j ↦ values_kept e kind h x j
    ]) h

drop_kept : (kind : ℕ) (normal : List ℕ) (e : Entry) → is_known kind ≡ true → AreOfKinds e
    → AreOfKinds (drop_value kind normal e)
drop_kept kind normal e known h =
    with_kept kind (filter (λ v. not (same_octets v.normal normal)) (values_at e kind)) e known
    (λ x i. values_kept e kind h x
    (of_filter (λ (v : StoredValue). not (same_octets v.normal normal)) x (values_at e kind) i).0) h

-- ---- the values of an RDN

pub record PairOfKind (p : Pair) : Type 0 where
  known : is_known p.kind ≡ true
  value : IsOfKind p.kind (value_of_pair p)

-- a text of the kind within the limit has its normal form
normal_so : (k : Kind) (t : Text) (b : Bool) (o : Option ℕ) → b ≡ true → o ≡ None
    → is_normal (if b then within o (text_normal k t) else Err WrongSyntax) (text_normal k t) ≡ true
normal_so k t true None e f = (bytes_decides (text_normal k t) (text_normal k t)).1 refl
normal_so k t true (Some most) e f = absurd (cc f)
normal_so k t false o e f = absurd (cc e)

text_of_kind : (kind : ℕ) (t : Text) → is_text_of_kind (kind_of kind) t ≡ true → over most_octets (length t) ≡ None
    → IsOfKind kind (record { value = TextValue t; normal = text_normal (kind_of kind) t })
text_of_kind kind t valid short =
    normal_so (kind_of kind) t (is_text_of_kind (kind_of kind) t) (over most_octets (length t)) valid short

pair_kept : (p : Pair) → is_pair (written_pair p) ≡ true → over most_octets (length p.text) ≡ None
    → p ≡ stored_pair (written_pair p) → PairOfKind p
pair_kept p valid short normal =
    let w = both_true (may_name p.kind) (is_text_of_kind (kind_of p.kind) p.text) valid in
    record {
      known = naming_known p.kind w.0;
      value = subst (λ (n : List ℕ). IsOfKind p.kind (record { value = TextValue p.text; normal = n }))
          (sym (ap (λ (q : Pair). q.normal) normal)) (text_of_kind p.kind p.text w.1 short);
    }

first_is : {A : Type 0} (x y : A) (xs ys : List A) → x ∷ xs ≡ y ∷ ys → (x ≡ y) × (xs ≡ ys)
first_is x y xs ys e = (cc, cc)

pairs_kept : (before : ℕ) (r : Rdn) → list_all is_pair (written_rdn r) ≡ true → rdn_over before (written_rdn r) ≡ None
    → r ≡ stored_rdn (written_rdn r) → Each PairOfKind r
pairs_kept before [] valid short normal q i = elim i [ ]
pairs_kept before (p ∷ r) valid short normal q i =
    let a = both_true (is_pair (written_pair p)) (list_all is_pair (written_rdn r)) valid in
    let b = none_first (over most_pairs (before + 1)) (first_found (over most_octets (length p.text))
    (rdn_over (before + 1) (written_rdn r))) short in
    let c = none_first (over most_octets (length p.text)) (rdn_over (before + 1) (written_rdn r)) b.1 in
    let d = first_is p (stored_pair (written_pair p)) r (stored_rdn (written_rdn r)) normal in
    by (pair_kept p a.0 c.0 d.0) (pairs_kept (before + 1) r a.1 c.1 d.1) q i
  where
    by : PairOfKind p → Each PairOfKind r → Each PairOfKind (p ∷ r)
    by one more q here = one
    by one more q (there i) = more q i

pub rdn_kept : (r : Rdn) → RdnWithin r → Each PairOfKind r
rdn_kept r h =
    let a = both_true (nat_lt 0 (length (written_rdn r)) && list_all is_pair (written_rdn r)) (ascends (written_rdn r))
    h.is_written.valid in
    let b = both_true (nat_lt 0 (length (written_rdn r))) (list_all is_pair (written_rdn r)) a.0 in
    pairs_kept 0 r b.1 h.is_written.short h.normal

with_rdn_kept : (r : Rdn) (e : Entry) → Each PairOfKind r → AreOfKinds e → AreOfKinds (with_rdn r e)
with_rdn_kept [] e each h = h
with_rdn_kept (p ∷ ps) e each h =
    with_rdn_kept ps (if has_pair e p then e else put_value p.kind (value_of_pair p) e) (λ q i. each q (there i))
    (by (has_pair e p))
  where
    by : (b : Bool) → AreOfKinds (if b then e else put_value p.kind (value_of_pair p) e)
    by true = h
    by false = put_kept p.kind (value_of_pair p) e (each p here).known (each p here).value h

without_rdn_kept : (r kept : Rdn) (e : Entry) → Each PairOfKind r → AreOfKinds e → AreOfKinds (without_rdn r kept e)
without_rdn_kept [] kept e each h = h
without_rdn_kept (p ∷ ps) kept e each h =
    without_rdn_kept ps kept
    (if list_any (λ q. (q.kind == p.kind) && same_octets q.normal p.normal) kept then e
    else drop_value p.kind p.normal e) (λ q i. each q (there i))
    (by (list_any (λ q. (q.kind == p.kind) && same_octets q.normal p.normal) kept))
  where
    by : (b : Bool) → AreOfKinds (if b then e else drop_value p.kind p.normal e)
    by true = h
    by false = drop_kept p.kind p.normal e (each p here).known h

pub renamed_kept : (old new : Rdn) (drops : Bool) (e : Entry) → Each PairOfKind old → Each PairOfKind new
    → AreOfKinds e → AreOfKinds (renamed old new drops e)
renamed_kept old new true e one two h =
    with_rdn_kept new (without_rdn old new e) two (without_rdn_kept old new e one h)
renamed_kept old new false e one two h = with_rdn_kept new e two h

-- ---- offered values

found_normal : (r : Result (List ℕ) ValueFault) (n : List ℕ) → result_ok r ≡ Some n → is_normal r n ≡ true
found_normal (Ok m) n e = (let same : m ≡ n = cc in (bytes_decides m n).1 same)
found_normal (Err x) n e = absurd (cc e)

offered_kept : (kind : ℕ) (o : Offered) (v : StoredValue) → OfferedWithin (Known kind) o → stored_value o ≡ Some v
    → IsOfKind kind v
offered_kept kind o v h = by o.normal refl
  where
    by : (n : Option (List ℕ)) → o.normal ≡ n
        → in_option None (λ n. Some (record { value = o.value; normal = n })) n ≡ Some v → IsOfKind kind v
    by None q e = absurd (cc e)
    by (Some n) q e =
        let made : record { value = o.value; normal = n } ≡ v = cc in
        let is : o.normal ≡ normal_for (Known kind) o.value = ap (λ (x : Offered). x.normal) h.normal in
        subst (IsOfKind kind) made (found_normal (normal_of (kind_of kind) o.value) n (sym is ∙ q))

offered_all : (kind : ℕ) (os : List Offered) → Each (OfferedWithin (Known kind)) os
    → Each (IsOfKind kind) (filter_map stored_value os)
offered_all kind [] each v i = elim i [ ]
offered_all kind (o ∷ os) each v i =
    by (stored_value o) refl (offered_all kind os (λ x j. each x (there j))) v i
  where
    by : (s : Option StoredValue) → stored_value o ≡ s → Each (IsOfKind kind) (filter_map stored_value os)
        → Each (IsOfKind kind) (cons_option s (filter_map stored_value os))
    by None q rest x j = rest x j
    by (Some w) q rest x here = offered_kept kind o w (each o here) q
    by (Some w) q rest x (there j) = rest x j

offers_kept : (type : TypeRef) (os : List Offered) (e : Entry) → TypeWithin type → Each (OfferedWithin type) os
    → AreOfKinds e → AreOfKinds (with_offered type os e)
offers_kept (Known kind) os e type each h =
    with_kept kind (stored_values os) e type.is
    (λ v i. offered_all kind os each v (of_sorted value_below v (filter_map stored_value os) i)) h
offers_kept (Unknown arcs) os e type each h = h

entry_kept : (ts : List Attribute) → Each AttributeWithin ts → AreOfKinds (entry_of ts)
entry_kept [] each a i = elim i [ ]
entry_kept (a ∷ ts) each x i =
    offers_kept a.kind a.values (entry_of ts) (each a here).type (each a here).values
    (entry_kept ts (λ y j. each y (there j))) x i

-- what an addEntry stores
pub added_kept : (r : Rdn) (ts : List Attribute) → RdnWithin r → Each AttributeWithin ts
    → AreOfKinds (with_rdn r (entry_of ts))
added_kept r ts h each = with_rdn_kept r (entry_of ts) (rdn_kept r h) (entry_kept ts each)

-- ---- changes

abbrev ok_change : Entry → ChangedEntry
ok_change e = Ok e

same_entry : (a b : Entry) → ok_change a ≡ ok_change b → a ≡ b
same_entry a b e = cc

then_keeps : (c : ChangedEntry) (f : Entry → ChangedEntry) (g : Entry) → and_then c f ≡ Ok g
    → (e : Entry) × (c ≡ Ok e) × (f e ≡ Ok g)
then_keeps (Ok e) f g h = (e, refl, h)
then_keeps (Err x) f g h = cc

abbrev on_value : (StoredValue → Entry → ChangedEntry) → Entry → Option StoredValue → ChangedEntry
on_value change e None = Ok e
on_value change e (Some v) = change v e

-- where it accepts, values stay of their kinds
abbrev Keeps : (Entry → ChangedEntry) → Type 0
Keeps change = (e f : Entry) → AreOfKinds e → change e ≡ Ok f → AreOfKinds f

put_keeps : (kind : ℕ) (v : StoredValue) → is_known kind ≡ true → IsOfKind kind v → Keeps (put_new kind v)
put_keeps kind v known b e f h = by (has_value e kind v.normal)
  where
    by : (c : Bool)
        → (if c then Err (AttributeProblem attribute_or_value_already_exists (Known kind)) else Ok (put_value kind v e))
        ≡ Ok f → AreOfKinds f
    by true q = absurd (cc q)
    by false q = subst AreOfKinds (same_entry (put_value kind v e) f q) (put_kept kind v e known b h)

drop_keeps : (kind : ℕ) (v : StoredValue) → is_known kind ≡ true → Keeps (drop_old kind v)
drop_keeps kind v known e f h = by (has_value e kind v.normal)
  where
    by : (c : Bool) → (if c then Ok (drop_value kind v.normal e)
        else Err (AttributeProblem no_such_attribute_or_value (Known kind))) ≡ Ok f → AreOfKinds f
    by true q = subst AreOfKinds (same_entry (drop_value kind v.normal e) f q) (drop_kept kind v.normal e known h)
    by false q = absurd (cc q)

values_keep : (kind : ℕ) (change : StoredValue → Entry → ChangedEntry)
    → ((v : StoredValue) → IsOfKind kind v → Keeps (change v)) → (os : List Offered)
    → Each (OfferedWithin (Known kind)) os → Keeps (each_value change os)
values_keep kind change keeps [] each e f h q = subst AreOfKinds (same_entry e f q) h
values_keep kind change keeps (o ∷ os) each e f h q =
    let w = then_keeps (on_value change e (stored_value o)) (each_value change os) f q in
    values_keep kind change keeps os (λ x i. each x (there i)) w.0 f (by (stored_value o) refl w.0 w.1) w.2
  where
    by : (s : Option StoredValue) → stored_value o ≡ s → (g : Entry) → on_value change e s ≡ Ok g → AreOfKinds g
    by None p g r = subst AreOfKinds (same_entry e g r) h
    by (Some v) p g r = keeps v (offered_kept kind o v (each o here) p) e g h r

added_keep : (kind : ℕ) (os : List Offered) → is_known kind ≡ true → Each (OfferedWithin (Known kind)) os
    → Keeps (each_value (put_new kind) os)
added_keep kind os known each = values_keep kind (put_new kind) (λ v b. put_keeps kind v known b) os each

removed_keep : (kind : ℕ) (os : List Offered) → is_known kind ≡ true → Each (OfferedWithin (Known kind)) os
    → Keeps (each_value (drop_old kind) os)
removed_keep kind os known each = values_keep kind (drop_old kind) (λ v b. drop_keeps kind v known) os each

change_keeps : (c : Change) → ChangeWithin c → Keeps (changed c)
change_keeps (AddAttribute a) h = by a.kind h.type h.values
  where
    add : ℕ → Entry → ChangedEntry
    add kind f =
        if is_present f kind then Err (AttributeProblem attribute_or_value_already_exists (Known kind))
        else each_value (put_new kind) a.values f

    by : (type : TypeRef) → TypeWithin type → Each (OfferedWithin type) a.values → Keeps (on_known add type)
    by (Unknown arcs) type each e f k q = subst AreOfKinds (same_entry e f q) k
    by (Known kind) type each e f k q = free (is_present e kind) q
      where
        free : (b : Bool) → (if b then Err (AttributeProblem attribute_or_value_already_exists (Known kind))
            else each_value (put_new kind) a.values e) ≡ Ok f → AreOfKinds f
        free true x = absurd (cc x)
        free false x = added_keep kind a.values type.is each e f k x
change_keeps (RemoveAttribute type) h = by type h
  where
    remove : ℕ → Entry → ChangedEntry
    remove kind f =
        if is_present f kind then Ok (entry_with kind [] f)
        else Err (AttributeProblem no_such_attribute_or_value (Known kind))

    by : (type : TypeRef) → TypeWithin type → Keeps (on_known remove type)
    by (Unknown arcs) type e f k q = subst AreOfKinds (same_entry e f q) k
    by (Known kind) type e f k q = there_is (is_present e kind) q
      where
        there_is : (b : Bool) → (if b then Ok (entry_with kind [] e)
            else Err (AttributeProblem no_such_attribute_or_value (Known kind))) ≡ Ok f → AreOfKinds f
        there_is true x =
            subst AreOfKinds (same_entry (entry_with kind [] e) f x) (with_kept kind [] e type.is (λ v i. elim i [ ]) k)
        there_is false x = absurd (cc x)
change_keeps (AddValues a) h = by a.kind h.type h.values
  where
    by : (type : TypeRef) → TypeWithin type → Each (OfferedWithin type) a.values
        → Keeps (on_known (λ kind f. each_value (put_new kind) a.values f) type)
    by (Unknown arcs) type each e f k q = subst AreOfKinds (same_entry e f q) k
    by (Known kind) type each e f k q = added_keep kind a.values type.is each e f k q
change_keeps (RemoveValues a) h = by a.kind h.type h.values
  where
    by : (type : TypeRef) → TypeWithin type → Each (OfferedWithin type) a.values
        → Keeps (on_known (λ kind f. each_value (drop_old kind) a.values f) type)
    by (Unknown arcs) type each e f k q = subst AreOfKinds (same_entry e f q) k
    by (Known kind) type each e f k q = removed_keep kind a.values type.is each e f k q

changes_keep : (cs : List Change) → Each ChangeWithin cs → Keeps (changed_by cs)
changes_keep [] each e f h q = subst AreOfKinds (same_entry e f q) h
changes_keep (c ∷ cs) each e f h q =
    let w = then_keeps (changed c e) (changed_by cs) f q in
    changes_keep cs (λ x i. each x (there i)) w.0 f (change_keeps c (each c here) e w.0 h w.1) w.2

pub modified_keeps : (rdn : Rdn) (cs : List Change) → Each ChangeWithin cs → Keeps (modified rdn cs)
modified_keeps rdn cs each e f h q =
    let w = then_keeps (and_then (changed_by cs e) (keeps_rdn rdn)) single_valued f q in
    let v = then_keeps (changed_by cs e) (keeps_rdn rdn) w.0 w.1 in
    let a : AreOfKinds v.0 = changes_keep cs each e v.0 h v.1 in
    let b : v.0 ≡ w.0 = rdn_is_kept (has_rdn v.0 rdn) v.0 w.0 v.2 in
    subst AreOfKinds (b ∙ single_is w.0 f w.2) a
  where
    rdn_is_kept : (b : Bool) (x y : Entry) → (if b then Ok x else Err (UpdateProblem not_allowed_on_rdn)) ≡ Ok y → x ≡ y
    rdn_is_kept true x y r = same_entry x y r
    rdn_is_kept false x y r = absurd (cc r)

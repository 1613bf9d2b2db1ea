-- An accepted update leaves what an agent holds within the limits: each value that comes in was offered within them,
-- and each name that changes is no longer than one that is there or that the request gives.
use Rattle.std.proofs.Common.{◌≡◌, ℕ, ◌+◌, ◌-◌, ◌<◌, ◌≤◌, Bool, true, false, not, ◌&&◌, ◌==◌, nat_lt, inl, inr, List, [], ◌∷◌, ◌++◌, length, map, take, drop, refl, sym, ap, subst, ◌∙◌, arith, length-append, Option, Some, None, Ok, Err, if◌then◌else◌}
use Rattle.std.proofs.lemmas.List.{length-take, length-drop}
use Rattle.std.specs.List.{cons_option, filter, filter_map, list_any, list_all, flat_map}
use Rattle.std.specs.Str.{is_utf8}
use Rattle.x5_model.specs.Words.{is_empty, insert_sorted, in_option, first_of, same_octets}
use Rattle.x5_model.specs.Members.{In, here, there}
use Rattle.x5_model.specs.Keys.{same_key, is_prefix, parent}
use Rattle.x5_model.specs.Values.{TypeRef, Known, Unknown, StoredValue, Offered, Pair, Rdn, Name, key_of, last_rdn, name_above, written_pair}
use Rattle.x5_model.specs.Types.{is_known, may_name, kind_of}
use Rattle.x5_model.specs.Normal.{most_octets, most_pairs, over, first_found, rdn_over, ascends, is_pair, is_part_of_kind, is_enough, is_text_of_kind, written_rdn}
use Rattle.x5_model.specs.Entries.{Stored, Entry, Named}
use Rattle.x5_model.specs.Attributes.{value_below, kind_below, attribute_at, values_at, is_present, has_value, entry_with, put_value, drop_value, value_of_pair, has_pair, has_rdn, with_rdn, without_rdn, stored_value, stored_values, with_offered, entry_of}
use Rattle.x5_model.specs.Changes.{ChangedEntry, and_then, each_value, put_new, drop_old, on_known, changed, changed_by, single_valued, keeps_rdn, modified, renamed}
use Rattle.x5_model.specs.Requests.{Attribute, Change, AddAttribute, RemoveAttribute, AddValues, RemoveValues, Body, Read, Compare, ListBelow, Search, AddEntry, RemoveEntry, ModifyEntry, ModifyDn, Request}
use Rattle.x5_model.specs.Answers.{AttributeProblem, UpdateProblem}
use Rattle.x5_model.specs.Problems.{no_such_attribute_or_value, attribute_or_value_already_exists, not_allowed_on_rdn, naming_violation}
use Rattle.x5_model.specs.Statics.{root_refusals, name_refusals, value_refusals, given, repeat_refusals, added_refusals, static_refusals, fault_of}
use Rattle.x5_model.proofs.KeyLaws.{key_decides}
use Rattle.x5_model.proofs.Lists.{both_true, in_first, in_either, of_find, of_filter, of_map, left_empty, when_empty}
use Rattle.x5_model.proofs.Prefixes.{prefix_length, parent_length, prefix_decides}
use Rattle.x5_model.proofs.Ascending.{of_insert, of_sorted}
use Rattle.x5_model_tree.specs.Tree.{key_at, named_below, sorted_entries}
use Rattle.x5_model_tree.specs.Apply.{Ground, UpdatedEntries, add, remove, modify, respelled, rename, update, apply_over}
use Rattle.x5_model_run.specs.Holdings.{Held, Holdings, ground_at}
use Rattle.x5_model_theory.proofs.Stages.{key_length}
use Rattle.x5_model_updates.specs.Afterwards.{new_entry, name_after}
use Rattle.x5_model_updates.proofs.Lookups.{entry_found}
use Rattle.x5_model_updates.proofs.Outcomes.{moved_entry, single_is, ok_list, same_list, added, removed, changed_so, renamed_so, accepted_over}
use Rattle.x5_model_serve.specs.Committed.{is_counted, holds_target, alone_at, with_outcome, changed_at, committed_if}
use Rattle.x5_model_fitting.specs.Names.{Each, are_utf8, TextWithin, RdnWithin, NameWithin}
use Rattle.x5_model_fitting.specs.Terms.{TypeWithin, OfferedWithin, AttributeWithin}
use Rattle.x5_model_fitting.specs.Requests.{ChangeWithin, BodyWithin, RequestWithin}
use Rattle.x5_model_fitting.proofs.Names.{none_first, not_over, enough}
use Rattle.x5_model_fitting.proofs.Texts.{naming_known}
use Rattle.x5_model_fitting.proofs.Kept.{longer_name_within}
use Rattle.x5_model_limits.specs.Holding.{BoundedValue, BoundedStored, BoundedEntry, BoundedContext, BoundedHoldings}
use Rattle.x5_model_limits.specs.Laws.{CommittedBounded}
use Rattle.x5_model_limits.proofs.Lists.{in_beginning, in_end}
use Rattle.x5_model_limits.proofs.Spelling.{last_within}

-- ---- the values of one type

abbrev pub Kept : Entry → Type 0
Kept e = Each BoundedStored e.attributes

values_kept : (e : Entry) (kind : ℕ) → Kept e → Each BoundedValue (values_at e kind)
values_kept e kind h = by (attribute_at e kind) refl
  where
    by : (o : Option Stored) → attribute_at e kind ≡ o → Each BoundedValue (in_option [] (λ a. a.values) o)
    by None q v i = elim i [ ]
    by (Some a) q v i = (h a (of_find (λ (x : Stored). x.kind == kind) a e.attributes q).0).values v i

with_kept : (kind : ℕ) (values : List StoredValue) (e : Entry) → is_known kind ≡ true → Each BoundedValue values
    → Kept e → Kept (entry_with kind values e)
with_kept kind values e known each h = by (is_empty values) refl
  where
    others : List Stored
    others = filter (λ a. not (a.kind == kind)) e.attributes

    other : (a : Stored) → In a others → BoundedStored a
    other a i = h a (of_filter (λ (x : Stored). not (x.kind == kind)) a e.attributes i).0

    by : (b : Bool) → is_empty values ≡ b
        → Each BoundedStored (if b then others
        else insert_sorted kind_below (record { kind = kind; values = values }) others)
    by true q a i = other a i
    by false q a i = elim (of_insert kind_below a (record { kind = kind; values = values }) others i) [
      | inl s ↦ subst BoundedStored (sym s) (record { type = known; some = q; values = each })
      | inr j ↦ other a j
    ]

put_kept : (kind : ℕ) (v : StoredValue) (e : Entry) → is_known kind ≡ true → BoundedValue v → Kept e
    → Kept (put_value kind v e)
put_kept kind v e known b h =
    with_kept kind (insert_sorted value_below v (values_at e kind)) e known
    (λ x i. elim (of_insert value_below x v (values_at e kind) i) [
      | inl s ↦ subst BoundedValue (sym s) b
      | inr j ↦ values_kept e kind h x j
    ]) h

drop_kept : (kind : ℕ) (normal : List ℕ) (e : Entry) → is_known kind ≡ true → Kept e → Kept (drop_value kind normal e)
drop_kept kind normal e known h =
    with_kept kind (filter (λ v. not (same_octets v.normal normal)) (values_at e kind)) e known
    (λ x i. values_kept e kind h x
    (of_filter (λ (v : StoredValue). not (same_octets v.normal normal)) x (values_at e kind) i).0) h

-- ---- the values of an RDN

pub record PairKept (p : Pair) : Type 0 where
  known : is_known p.kind ≡ true
  value : TextWithin p.text

pair_kept : (p : Pair) → is_pair (written_pair p) ≡ true → over most_octets (length p.text) ≡ None
    → is_utf8 p.text ≡ true → PairKept p
pair_kept p valid short utf8 =
    let w = both_true (may_name p.kind) (is_text_of_kind (kind_of p.kind) p.text) valid in
    let v = both_true (is_part_of_kind (kind_of p.kind) p.text) (is_enough (kind_of p.kind) p.text) w.1 in
    record {
      known = naming_known p.kind w.0;
      value = record {
        utf8 = utf8;
        some = enough (kind_of p.kind) p.text v.1;
        short = not_over most_octets (length p.text) short;
      };
    }

pairs_kept : (before : ℕ) (r : Rdn) → list_all is_pair (written_rdn r) ≡ true
    → rdn_over before (written_rdn r) ≡ None → are_utf8 (written_rdn r) ≡ true → Each PairKept r
pairs_kept before [] valid short utf8 q i = elim i [ ]
pairs_kept before (p ∷ r) valid short utf8 q i =
    let a = both_true (is_pair (written_pair p)) (list_all is_pair (written_rdn r)) valid in
    let b = none_first (over most_pairs (before + 1)) (first_found (over most_octets (length p.text))
    (rdn_over (before + 1) (written_rdn r))) short in
    let c = none_first (over most_octets (length p.text)) (rdn_over (before + 1) (written_rdn r)) b.1 in
    let d = both_true (is_utf8 p.text) (are_utf8 (written_rdn r)) utf8 in
    by (pair_kept p a.0 c.0 d.0) (pairs_kept (before + 1) r a.1 c.1 d.1) q i
  where
    by : PairKept p → Each PairKept r → Each PairKept (p ∷ r)
    by one more q here = one
    by one more q (there i) = more q i

pub rdn_kept : (r : Rdn) → RdnWithin r → Each PairKept r
rdn_kept r h =
    let a = both_true (nat_lt 0 (length (written_rdn r)) && list_all is_pair (written_rdn r)) (ascends (written_rdn r))
    h.is_written.valid in
    let b = both_true (nat_lt 0 (length (written_rdn r))) (list_all is_pair (written_rdn r)) a.0 in
    pairs_kept 0 r b.1 h.is_written.short h.is_written.utf8

with_rdn_kept : (r : Rdn) (e : Entry) → Each PairKept r → Kept e → Kept (with_rdn r e)
with_rdn_kept [] e each h = h
with_rdn_kept (p ∷ ps) e each h =
    with_rdn_kept ps (if has_pair e p then e else put_value p.kind (value_of_pair p) e) (λ q i. each q (there i))
    (by (has_pair e p))
  where
    by : (b : Bool) → Kept (if b then e else put_value p.kind (value_of_pair p) e)
    by true = h
    by false = put_kept p.kind (value_of_pair p) e (each p here).known (each p here).value h

without_rdn_kept : (r kept : Rdn) (e : Entry) → Each PairKept r → Kept e → Kept (without_rdn r kept e)
without_rdn_kept [] kept e each h = h
without_rdn_kept (p ∷ ps) kept e each h =
    without_rdn_kept ps kept
    (if list_any (λ q. (q.kind == p.kind) && same_octets q.normal p.normal) kept then e
    else drop_value p.kind p.normal e) (λ q i. each q (there i))
    (by (list_any (λ q. (q.kind == p.kind) && same_octets q.normal p.normal) kept))
  where
    by : (b : Bool) → Kept (if b then e else drop_value p.kind p.normal e)
    by true = h
    by false = drop_kept p.kind p.normal e (each p here).known h

pub renamed_kept : (old new : Rdn) (drops : Bool) (e : Entry) → Each PairKept old → Each PairKept new → Kept e
    → Kept (renamed old new drops e)
renamed_kept old new true e one two h =
    with_rdn_kept new (without_rdn old new e) two (without_rdn_kept old new e one h)
renamed_kept old new false e one two h = with_rdn_kept new e two h

-- ---- offered values

offered_kept : (kind : ℕ) (o : Offered) (v : StoredValue) → OfferedWithin (Known kind) o → stored_value o ≡ Some v
    → BoundedValue v
offered_kept kind o v h = by o.normal
  where
    by : (n : Option (List ℕ)) → in_option None (λ n. Some (record { value = o.value; normal = n })) n ≡ Some v
        → BoundedValue v
    by None e = absurd (cc e)
    by (Some n) e = (let made : record { value = o.value; normal = n } ≡ v = cc in subst BoundedValue made h.value)

offered_all : (kind : ℕ) (os : List Offered) → Each (OfferedWithin (Known kind)) os
    → Each BoundedValue (filter_map stored_value os)
offered_all kind [] each v i = elim i [ ]
offered_all kind (o ∷ os) each v i =
    by (stored_value o) refl (offered_all kind os (λ x j. each x (there j))) v i
  where
    by : (s : Option StoredValue) → stored_value o ≡ s → Each BoundedValue (filter_map stored_value os)
        → Each BoundedValue (cons_option s (filter_map stored_value os))
    by None q rest x j = rest x j
    by (Some w) q rest x here = offered_kept kind o w (each o here) q
    by (Some w) q rest x (there j) = rest x j

offers_kept : (type : TypeRef) (os : List Offered) (e : Entry) → TypeWithin type → Each (OfferedWithin type) os → Kept e
    → Kept (with_offered type os e)
offers_kept (Known kind) os e type each h =
    with_kept kind (stored_values os) e type.is
    (λ v i. offered_all kind os each v (of_sorted value_below v (filter_map stored_value os) i)) h
offers_kept (Unknown arcs) os e type each h = h

entry_kept : (ts : List Attribute) → Each AttributeWithin ts → Kept (entry_of ts)
entry_kept [] each a i = elim i [ ]
entry_kept (a ∷ ts) each x i =
    offers_kept a.kind a.values (entry_of ts) (each a here).type (each a here).values
    (entry_kept ts (λ y j. each y (there j))) x i

-- ---- changes

abbrev ok_change : Entry → ChangedEntry
ok_change e = Ok e

same_entry : (a b : Entry) → ok_change a ≡ ok_change b → a ≡ b
same_entry a b e = cc

then_keeps : (c : ChangedEntry) (f : Entry → ChangedEntry) (g : Entry) → and_then c f ≡ Ok g
    → (e : Entry) × (c ≡ Ok e) × (f e ≡ Ok g)
then_keeps (Ok e) f g h = (e, refl, h)
then_keeps (Err x) f g h = cc

abbrev on_value : (StoredValue → Entry → ChangedEntry) → Entry → Option StoredValue → ChangedEntry
on_value change e None = Ok e
on_value change e (Some v) = change v e

-- where it accepts, what is within the limits stays so
abbrev Keeps : (Entry → ChangedEntry) → Type 0
Keeps change = (e f : Entry) → Kept e → change e ≡ Ok f → Kept f

put_keeps : (kind : ℕ) (v : StoredValue) → is_known kind ≡ true → BoundedValue v → Keeps (put_new kind v)
put_keeps kind v known b e f h = by (has_value e kind v.normal)
  where
    by : (c : Bool)
        → (if c then Err (AttributeProblem attribute_or_value_already_exists (Known kind)) else Ok (put_value kind v e))
        ≡ Ok f → Kept f
    by true q = absurd (cc q)
    by false q = subst Kept (same_entry (put_value kind v e) f q) (put_kept kind v e known b h)

drop_keeps : (kind : ℕ) (v : StoredValue) → is_known kind ≡ true → Keeps (drop_old kind v)
drop_keeps kind v known e f h = by (has_value e kind v.normal)
  where
    by : (c : Bool) → (if c then Ok (drop_value kind v.normal e)
        else Err (AttributeProblem no_such_attribute_or_value (Known kind))) ≡ Ok f → Kept f
    by true q = subst Kept (same_entry (drop_value kind v.normal e) f q) (drop_kept kind v.normal e known h)
    by false q = absurd (cc q)

values_keep : (kind : ℕ) (change : StoredValue → Entry → ChangedEntry)
    → ((v : StoredValue) → BoundedValue v → Keeps (change v)) → (os : List Offered)
    → Each (OfferedWithin (Known kind)) os → Keeps (each_value change os)
values_keep kind change keeps [] each e f h q = subst Kept (same_entry e f q) h
values_keep kind change keeps (o ∷ os) each e f h q =
    let w = then_keeps (on_value change e (stored_value o)) (each_value change os) f q in
    values_keep kind change keeps os (λ x i. each x (there i)) w.0 f (by (stored_value o) refl w.0 w.1) w.2
  where
    by : (s : Option StoredValue) → stored_value o ≡ s → (g : Entry) → on_value change e s ≡ Ok g → Kept g
    by None p g r = subst Kept (same_entry e g r) h
    by (Some v) p g r = keeps v (offered_kept kind o v (each o here) p) e g h r

added_keep : (kind : ℕ) (os : List Offered) → is_known kind ≡ true → Each (OfferedWithin (Known kind)) os
    → Keeps (each_value (put_new kind) os)
added_keep kind os known each = values_keep kind (put_new kind) (λ v b. put_keeps kind v known b) os each

removed_keep : (kind : ℕ) (os : List Offered) → is_known kind ≡ true → Each (OfferedWithin (Known kind)) os
    → Keeps (each_value (drop_old kind) os)
removed_keep kind os known each = values_keep kind (drop_old kind) (λ v b. drop_keeps kind v known) os each

change_keeps : (c : Change) → ChangeWithin c → Keeps (changed c)
change_keeps (AddAttribute a) h = by a.kind h.type h.values
  where
    add : ℕ → Entry → ChangedEntry
    add kind f =
        if is_present f kind then Err (AttributeProblem attribute_or_value_already_exists (Known kind))
        else each_value (put_new kind) a.values f

    by : (type : TypeRef) → TypeWithin type → Each (OfferedWithin type) a.values → Keeps (on_known add type)
    by (Unknown arcs) type each e f k q = subst Kept (same_entry e f q) k
    by (Known kind) type each e f k q = free (is_present e kind) q
      where
        free : (b : Bool) → (if b then Err (AttributeProblem attribute_or_value_already_exists (Known kind))
            else each_value (put_new kind) a.values e) ≡ Ok f → Kept f
        free true x = absurd (cc x)
        free false x = added_keep kind a.values type.is each e f k x
change_keeps (RemoveAttribute type) h = by type h
  where
    remove : ℕ → Entry → ChangedEntry
    remove kind f =
        if is_present f kind then Ok (entry_with kind [] f)
        else Err (AttributeProblem no_such_attribute_or_value (Known kind))

    by : (type : TypeRef) → TypeWithin type → Keeps (on_known remove type)
    by (Unknown arcs) type e f k q = subst Kept (same_entry e f q) k
    by (Known kind) type e f k q = there_is (is_present e kind) q
      where
        there_is : (b : Bool) → (if b then Ok (entry_with kind [] e)
            else Err (AttributeProblem no_such_attribute_or_value (Known kind))) ≡ Ok f → Kept f
        there_is true x =
            subst Kept (same_entry (entry_with kind [] e) f x) (with_kept kind [] e type.is (λ v i. elim i [ ]) k)
        there_is false x = absurd (cc x)
change_keeps (AddValues a) h = by a.kind h.type h.values
  where
    by : (type : TypeRef) → TypeWithin type → Each (OfferedWithin type) a.values
        → Keeps (on_known (λ kind f. each_value (put_new kind) a.values f) type)
    by (Unknown arcs) type each e f k q = subst Kept (same_entry e f q) k
    by (Known kind) type each e f k q = added_keep kind a.values type.is each e f k q
change_keeps (RemoveValues a) h = by a.kind h.type h.values
  where
    by : (type : TypeRef) → TypeWithin type → Each (OfferedWithin type) a.values
        → Keeps (on_known (λ kind f. each_value (drop_old kind) a.values f) type)
    by (Unknown arcs) type each e f k q = subst Kept (same_entry e f q) k
    by (Known kind) type each e f k q = removed_keep kind a.values type.is each e f k q

changes_keep : (cs : List Change) → Each ChangeWithin cs → Keeps (changed_by cs)
changes_keep [] each e f h q = subst Kept (same_entry e f q) h
changes_keep (c ∷ cs) each e f h q =
    let w = then_keeps (changed c e) (changed_by cs) f q in
    changes_keep cs (λ x i. each x (there i)) w.0 f (change_keeps c (each c here) e w.0 h w.1) w.2

pub modified_keeps : (rdn : Rdn) (cs : List Change) → Each ChangeWithin cs → Keeps (modified rdn cs)
modified_keeps rdn cs each e f h q =
    let w = then_keeps (and_then (changed_by cs e) (keeps_rdn rdn)) single_valued f q in
    let v = then_keeps (changed_by cs e) (keeps_rdn rdn) w.0 w.1 in
    let a : Kept v.0 = changes_keep cs each e v.0 h v.1 in
    let b : v.0 ≡ w.0 = rdn_is_kept (has_rdn v.0 rdn) v.0 w.0 v.2 in
    subst Kept (b ∙ single_is w.0 f w.2) a
  where
    rdn_is_kept : (b : Bool) (x y : Entry) → (if b then Ok x else Err (UpdateProblem not_allowed_on_rdn)) ≡ Ok y → x ≡ y
    rdn_is_kept true x y r = same_entry x y r
    rdn_is_kept false x y r = absurd (cc r)

-- ---- names

-- a name with another RDN in one place is as long as it was
pub respelled_within : (k : ℕ) (r : Rdn) (n : Name) → k < length n → RdnWithin r → NameWithin n
    → NameWithin (respelled k r n)
respelled_within k r n l one h = record {
  few = omega (arith, l, h.few, length-append (take k n) (r ∷ drop (k + 1) n), length-take k n, length-drop (k + 1) n);
  rdns = λ x i. elim (in_either x (take k n) (r ∷ drop (k + 1) n) i) [
    | inl j ↦ h.rdns x (in_beginning k x n j)
    | inr j ↦ elim (in_first x r (drop (k + 1) n) j) [
      | inl e ↦ subst RdnWithin (sym e) one
      | inr m ↦ h.rdns x (in_end (k + 1) x n m)
    ]
  ];
}

-- ---- entries afterwards

true_is_false : true ≡ false → ⊥
true_is_false e = cc

none_refused : {A : Type 0} (xs : List A) → first_of xs ≡ None → xs ≡ []
none_refused [] e = refl
none_refused (x ∷ xs) e = cc

pub no_name_refusals : (body : Body) → fault_of body ≡ None → name_refusals body ≡ []
no_name_refusals body e =
    left_empty (name_refusals body) (flat_map value_refusals (given body))
    (left_empty (name_refusals body ++ flat_map value_refusals (given body)) (repeat_refusals body)
    (left_empty ((name_refusals body ++ flat_map value_refusals (given body)) ++ repeat_refusals body)
    (added_refusals body) (none_refused (static_refusals body) e)))

-- an addEntry names more than one RDN, and no update names the root
pub two_rdns : (name : Name) (ts : List Attribute) → fault_of (AddEntry name ts) ≡ None → 2 ≤ length name
two_rdns name ts e = by (nat_lt (length name) 2) refl
  where
    refused : name_refusals (AddEntry name ts) ≡ []
    refused = no_name_refusals (AddEntry name ts) e

    by : (b : Bool) → nat_lt (length name) 2 ≡ b → 2 ≤ length name
    by true q =
        absurd (true_is_false (sym q ∙ when_empty (nat_lt (length name) 2) (UpdateProblem naming_violation) refused))
    by false q = grind arith

pub one_rdn : (name : Name) → root_refusals name ≡ [] → 0 < length name
one_rdn [] e = absurd (cc e)
one_rdn (r ∷ n) e = omega arith

none_empty : (name : Name) → 0 < length name → is_empty name ≡ false
none_empty [] l = absurd (omega (arith, l))
none_empty (r ∷ n) l = refl

-- what stands below an entry, by one RDN
pub new_entry_bounded : (above : Named) (name : Name) (ts : List Attribute) → BoundedEntry above
    → key_at above ≡ parent (key_of name) → 2 ≤ length name → NameWithin name → Each AttributeWithin ts
    → BoundedEntry (new_entry above name ts)
new_entry_bounded above name ts h same two n each =
    let last : RdnWithin (last_rdn name) = last_within name (omega (arith, two)) n in
    let a : length (key_at above) ≡ length above.name = key_length above.name in
    let b : length (key_of name) ≡ length name = key_length name in
    let c : length (parent (key_of name)) + 1 ≡ length (key_of name) =
    parent_length (key_of name) (omega (arith, b, two)) in
    let d : length (key_at above) ≡ length (parent (key_of name)) = ap length same in
    record {
      name = longer_name_within above.name (last_rdn name) h.name last (omega (arith, a, b, c, d, n.few));
      some = longer above.name;
      attributes = with_rdn_kept (last_rdn name) (entry_of ts) (rdn_kept (last_rdn name) last) (entry_kept ts each);
    }
  where
    longer : (n : Name) → is_empty (n ++ last_rdn name ∷ []) ≡ false
    longer [] = refl
    longer (r ∷ m) = refl

-- an entry at or below one whose last RDN changes
moved_bounded : (name : Name) (rdn : Rdn) (new : Entry) (e : Named) → 0 < length name → RdnWithin rdn → Kept new
    → BoundedEntry e → BoundedEntry (moved_entry name rdn new e)
moved_bounded name rdn new e full one kept h = by (same_key (key_at e) (key_of name)) refl
  where
    cut : length (name_above name) ≡ length name - 1
    cut = omega (arith, length-take (length name - 1) name)

    after : length name ≤ length e.name → NameWithin (name_after name rdn e)
    after l = respelled_within (length (name_above name)) rdn e.name (omega (arith, l, full, cut)) one h.name

    some : is_empty (name_after name rdn e) ≡ false
    some = not_empty (take (length (name_above name)) e.name)
      where
        not_empty : (xs : Name) → is_empty (xs ++ rdn ∷ drop (length (name_above name) + 1) e.name) ≡ false
        not_empty [] = refl
        not_empty (x ∷ xs) = refl

    at_it : same_key (key_at e) (key_of name) ≡ true → length name ≤ length e.name
    at_it q =
        let p : length (key_at e) ≡ length (key_of name) = ap length ((key_decides (key_at e) (key_of name)).0 q) in
        omega (arith, p, key_length e.name, key_length name)

    below_it : is_prefix (key_of name) (key_at e) ≡ true → length name ≤ length e.name
    below_it q =
        let p : length (key_of name) ≤ length (key_at e) =
        prefix_length (key_of name) (key_at e) ((prefix_decides (key_of name) (key_at e)).0 q) in
        omega (arith, p, key_length e.name, key_length name)

    below : (b : Bool) → is_prefix (key_of name) (key_at e) ≡ b
        → BoundedEntry (if b then record e { name = name_after name rdn e } else e)
    below true q = record { name = after (below_it q); some = some; attributes = h.attributes }
    below false q = h

    by : (b : Bool) → same_key (key_at e) (key_of name) ≡ b
        → BoundedEntry (if b then record { name = name_after name rdn e; entry = new }
        else (if is_prefix (key_of name) (key_at e) then record e { name = name_after name rdn e } else e))
    by true q = record { name = after (at_it q); some = some; attributes = kept }
    by false q = below (is_prefix (key_of name) (key_at e)) refl

module _ (g : Ground) (h : Each BoundedEntry g.entries) where
  sorted_bounded : (es : List Named) → Each BoundedEntry es → Each BoundedEntry (sorted_entries es)
  sorted_bounded es each e i = each e (of_sorted named_below e es i)

  added_bounded : (name : Name) (ts : List Attribute) (us : List Named) → fault_of (AddEntry name ts) ≡ None
      → BodyWithin (AddEntry name ts) → add g name ts ≡ Ok us → Each BoundedEntry us
  added_bounded name ts us none within q =
      let a = added g name ts us q in
      let f = entry_found g.entries (parent (key_of name)) a.above a.there in
      let new = new_entry a.above name ts in
      let b : BoundedEntry new =
      new_entry_bounded a.above name ts (h a.above f.0) f.1 (two_rdns name ts none) within.0 within.1 in
      subst (Each BoundedEntry) (sym a.made) (sorted_bounded (g.entries ++ new ∷ []) (λ e i.
      elim (in_either e g.entries (new ∷ []) i) [
        | inl j ↦ h e j
        | inr j ↦ elim (in_first e new [] j) [ inl s ↦ subst BoundedEntry (sym s) b | inr k ↦ elim k [ ] ]
      ]))

  removed_bounded : (name : Name) (us : List Named) → remove g name ≡ Ok us → Each BoundedEntry us
  removed_bounded name us q =
      subst (Each BoundedEntry) (sym (removed g name us q).made)
      (λ e i. h e (of_filter (λ (x : Named). not (same_key (key_at x) (key_of name))) e g.entries i).0)

  modified_bounded : (name : Name) (cs : List Change) (us : List Named) → Each ChangeWithin cs
      → modify g name cs ≡ Ok us → Each BoundedEntry us
  modified_bounded name cs us each q =
      let a = changed_so g name cs us q in
      let f = entry_found g.entries (key_of name) a.at a.there in
      let b = h a.at f.0 in
      let new : Named = record a.at { entry = a.new } in
      let n : BoundedEntry new = record {
        name = b.name;
        some = b.some;
        attributes = modified_keeps (last_rdn name) cs each a.at.entry a.new b.attributes a.done;
      } in
      subst (Each BoundedEntry) (sym a.made) (λ e i.
      let x = of_map (λ (y : Named). if same_key (key_at y) (key_of name) then new else y) e g.entries i in
      subst BoundedEntry (sym x.2) (either (same_key (key_at x.0) (key_of name)) new x.0 n (h x.0 x.1)))
    where
      either : (b : Bool) (new old : Named) → BoundedEntry new → BoundedEntry old
          → BoundedEntry (if b then new else old)
      either true new old n o = n
      either false new old n o = o

  renamed_bounded : (name : Name) (rdn : Rdn) (drops : Bool) (us : List Named) → 0 < length name → NameWithin name
      → RdnWithin rdn → rename g name rdn drops ≡ Ok us → Each BoundedEntry us
  renamed_bounded name rdn drops us full within one q =
      let a = renamed_so g name rdn drops us q in
      let f = entry_found g.entries (key_of name) a.at a.there in
      let new : Entry = renamed (last_rdn name) rdn drops a.at.entry in
      let k : Kept new =
      renamed_kept (last_rdn name) rdn drops a.at.entry (rdn_kept (last_rdn name) (last_within name full within))
      (rdn_kept rdn one) (h a.at f.0).attributes in
      subst (Each BoundedEntry) (sym a.made) (sorted_bounded (map (moved_entry name rdn new) g.entries) (λ e i.
      let x = of_map (moved_entry name rdn new) e g.entries i in
      subst BoundedEntry (sym x.2) (moved_bounded name rdn new x.0 full one k (h x.0 x.1))))

  same_bounded : (us : List Named) → ok_list g.entries ≡ Ok us → Each BoundedEntry us
  same_bounded us q = subst (Each BoundedEntry) (same_list g.entries us q) h

  update_bounded : (body : Body) (us : List Named) → fault_of body ≡ None → BodyWithin body → update g body ≡ Ok us
      → Each BoundedEntry us
  update_bounded (Read name selection) us none within q = same_bounded us q
  update_bounded (Compare name assertion) us none within q = same_bounded us q
  update_bounded (ListBelow name) us none within q = same_bounded us q
  update_bounded (Search base subset f selection) us none within q = same_bounded us q
  update_bounded (AddEntry name ts) us none within q = added_bounded name ts us none within q
  update_bounded (RemoveEntry name) us none within q = removed_bounded name us q
  update_bounded (ModifyEntry name cs) us none within q = modified_bounded name cs us within.1 q
  update_bounded (ModifyDn name rdn drops) us none within q =
      renamed_bounded name rdn drops us (one_rdn name (no_name_refusals (ModifyDn name rdn drops) none)) within.0
      within.1 q

  pub applied_bounded : (body : Body) (us : List Named) → BodyWithin body → apply_over g body ≡ Ok us
      → Each BoundedEntry us
  applied_bounded body us within q =
      let w = accepted_over g body us q in update_bounded body us w.0 within w.1

-- ---- what an agent holds afterwards

module _ (r : Request) (h : Holdings) (within : RequestWithin r) where
  outcome_bounded : (c : Held) → BoundedContext c → (o : UpdatedEntries) → apply_over (alone_at r h c) r.body ≡ o
      → BoundedContext (with_outcome r h c o)
  outcome_bounded c b (Err x) q = b
  outcome_bounded c b (Ok es) q =
      let counted = filter (is_counted r h c) c.entries in
      let others = filter (λ e. not (is_counted r h c e)) c.entries in
      let each : Each BoundedEntry es =
      applied_bounded (alone_at r h c) (λ e i. b.entries e (of_filter (is_counted r h c) e c.entries i).0) r.body es
      within.body q in
      record {
        prefix = b.prefix;
        some = b.some;
        entries = λ e i.
            elim (in_either e es others (of_sorted named_below e (es ++ others) i)) [
              | inl j ↦ each e j
              | inr j ↦ b.entries e (of_filter (λ (x : Named). not (is_counted r h c x)) e c.entries j).0
            ];
        subordinate = b.subordinate;
      }

  changed_bounded : (c : Held) → BoundedContext c → BoundedContext (changed_at r h c)
  changed_bounded c b = by (holds_target r h c)
    where
      by : (t : Bool) → BoundedContext (if t then with_outcome r h c (apply_over (alone_at r h c) r.body) else c)
      by true = outcome_bounded c b (apply_over (alone_at r h c) r.body) refl
      by false = b

  holdings_bounded : (o : UpdatedEntries) → BoundedHoldings h → BoundedHoldings (committed_if r h o)
  holdings_bounded (Err x) b = b
  holdings_bounded (Ok es) b = record {
    own = λ c i.
        (let x = of_map (changed_at r h) c h.own i in
        subst BoundedContext (sym x.2) (changed_bounded x.0 (b.own x.0 x.1)));
    copies = b.copies;
    root = b.root;
    cross = b.cross;
  }

pub committed_bounded : CommittedBounded
committed_bounded r h within b = holdings_bounded r h within (apply_over (ground_at r h) r.body) b

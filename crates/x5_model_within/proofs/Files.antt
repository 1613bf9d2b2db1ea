-- The texts of a world that a file describes are UTF-8: each name and each value was read from a text, whose reading
-- takes no others; and names of entries are put together from names that were read.
use Rattle.std.proofs.Common.{◌≡◌, ℕ, Bool, true, false, not, ◌&&◌, ◌==◌, List, [], ◌∷◌, ◌++◌, map, refl, sym, ap, subst, ◌∙◌, inl, inr, Option, Some, None, Result, Ok, Err, if◌then◌else◌, codes}
use Rattle.std.specs.Prelude.{option_map, option_and_then}
use Rattle.std.proofs.lemmas.List.{map_push}
use Rattle.std.proofs.lemmas.List.Folds.{list_all-append}
use Rattle.std.specs.List.{list_all, list_any, filter, find, flat_map, before_first, after_first}
use Rattle.std.specs.Option.{is_none}
use Rattle.std.specs.Str.{is_utf8}
use Rattle.serde_json.specs.Data.{Data, Items}
use Rattle.serde_json.specs.Events.{items_len}
use Rattle.serde_json.specs.Find.{get, as_str}
use Rattle.x5_model.specs.Words.{is_empty, insert_sorted, in_option}
use Rattle.x5_model.specs.Members.{here, there}
use Rattle.x5_model.specs.Keys.{same_key, parent}
use Rattle.x5_model.specs.Values.{Text, TypeRef, Known, Unknown, Value, TextValue, OctetsValue, OidValue, NameOf, StoredValue, Rdn, Name, NameValue, key_of, last_rdn, written}
use Rattle.x5_model.specs.Types.{Kind}
use Rattle.x5_model.specs.Normal.{ValueFault, WrongSyntax, TooLong, stored, written_rdn}
use Rattle.x5_model.specs.Assertions.{normal_for}
use Rattle.x5_model.specs.Entries.{Stored, Entry, Named}
use Rattle.x5_model.specs.Attributes.{value_below, kind_below, attribute_at, values_at, has_value, put_value, value_of_pair, has_pair, with_rdn, is_present, doubled}
use Rattle.x5_model.proofs.Lists.{both_true, and_true, all_in, of_find, of_filter}
use Rattle.x5_model.proofs.Ascending.{of_insert}
use Rattle.x5_model_tree.specs.World.{Specific, Context, Agent, Agreement, World}
use Rattle.x5_model_tree.specs.Tree.{key_at}
use Rattle.x5_model_tree.specs.Described.{most_agents, most_agreements, most_with_copies, most_references, most_shadows}
use Rattle.x5_model_text.specs.TypeText.{type_of_text}
use Rattle.x5_model_text.specs.NameText.{NameFault, kind_of_type, name_of_text, value_of_text}
use Rattle.x5_model_text_laws.specs.Given.{IsGiven}
use Rattle.x5_model_text_laws.proofs.GivenNames.{name_given}
use Rattle.x5_model_text_laws.proofs.Values.{value_given}
use Rattle.x5_model_world.specs.Reading.{Read, ◌>>=◌, BadShape, at, needed, if_fit, if_few, members_at, text_at, list_at, list_if_any, some_at, if_name, name_at, entry_name_at, number_at}
use Rattle.x5_model_world.specs.EntryTexts.{Given, is_equals, if_value, given_by, given_in, given_behind, with_normal, with_value, with_all, nothing_yet, if_complete, entry_given}
use Rattle.x5_model_world.specs.ContextText.{has_key, below_parent, whole_name, entry_members, entry_behind, entries_behind, nssrs_behind, Contexts, with_context, with_entries, context_members, context_behind, contexts_behind, agents_behind, agent_of}
use Rattle.x5_model_world.specs.AgentText.{References, no_references, with_reference, of_kind, pin_keys, is_cross, reference_members, reference_behind, references_behind, new_name, agent_if_any, agent_members, agent_with, with_contexts, with_these, Agents, agent_behind, all_behind, names_behind}
use Rattle.x5_model_world.specs.StartText.{start_of}
use Rattle.x5_model_world.specs.WorldFile.{agreement_members, agreement_in, agreements_behind, with_copies, File, format_of, world_members, network_of, world_in, if_known}
use Rattle.x5_know.specs.Moments.{Start}
use Rattle.x5_model_loaded.proofs.Steps.{same_found, bound, needed_is, fit_is, few_is, only_keeps}
use Rattle.x5_model_loaded.proofs.Loops.{Anything, each_anything, loop_keeps}
use Rattle.x5_model_loaded.proofs.Agents.{no_agents}
use Rattle.x5_model_fitting.specs.Names.{Each, are_utf8}
use Rattle.x5_model_fitting.specs.Keeping.{has_utf8}
use Rattle.x5_model_limits.specs.Described.{name_is_utf8, stored_is_utf8, entry_is_utf8, context_is_utf8, references_are_utf8, agent_is_utf8, world_is_utf8}
use Rattle.x5_model_limits.proofs.Lists.{each_none, each_one, each_both}
use Rattle.x5_model_within.specs.Files.{FilesAreUtf8}
use Rattle.x5_model_within.proofs.Texts.{written_stored}

-- ---- names

abbrev NameUtf8 : Name → Type 0
NameUtf8 n = name_is_utf8 n ≡ true

abbrev RdnUtf8 : Rdn → Type 0
RdnUtf8 r = are_utf8 (written_rdn r) ≡ true

name_by : (path t : Text) (r : Result NameValue NameFault) (n : Name) → name_of_text t ≡ r
    → if_name stored path r ≡ Ok n → NameUtf8 n
name_by path t (Ok m) n e h =
    subst NameUtf8 (same_found (stored m) n h) (ap (list_all are_utf8) (written_stored m) ∙ (name_given t m e).utf8)
name_by path t (Err fault) n e h = absurd (cc h)

entry_name_utf8 : (path name : Text) (d : Data) (n : Name) → entry_name_at path name d ≡ Ok n → NameUtf8 n
entry_name_utf8 path name d n h =
    let w = bound (name_at path name d) _ n h in
    let v = bound (text_at path name d) _ w.0 w.1 in
    subst NameUtf8 (fit_is _ _ w.0 n w.2).1 (name_by (at path name) v.0 (name_of_text v.0) w.0 refl v.2)

last_utf8 : (n : Name) → NameUtf8 n → RdnUtf8 (last_rdn n)
last_utf8 [] h = refl
last_utf8 (r ∷ []) h = (both_true (are_utf8 (written_rdn r)) true h).0
last_utf8 (r ∷ s ∷ n) h = last_utf8 (s ∷ n) (both_true (are_utf8 (written_rdn r)) (name_is_utf8 (s ∷ n)) h).1

pushed_utf8 : (n : Name) (r : Rdn) → NameUtf8 n → RdnUtf8 r → NameUtf8 (n ++ r ∷ [])
pushed_utf8 n r h k =
    ap (list_all are_utf8) (map_push written_rdn n r)
    ∙ list_all-append are_utf8 (written n) (written_rdn r ∷ [])
    ∙ and_true (name_is_utf8 n) (are_utf8 (written_rdn r) && true) h (and_true (are_utf8 (written_rdn r)) true k refl)

-- ---- values

abbrev GivenUtf8 : Given → Type 0
GivenUtf8 g = has_utf8 g.1 ≡ true

given_utf8 : (k : Kind) (v : Value) → IsGiven k v → has_utf8 v ≡ true
given_utf8 k (TextValue t) h = h.utf8
given_utf8 k (OctetsValue octets) h = refl
given_utf8 k (OidValue arcs) h = refl
given_utf8 k (NameOf n) h = h.1.utf8

if_value_utf8 : (path : Text) (kind : TypeRef) (t : Text) (r : Result Value ValueFault) (g : Given)
    → value_of_text kind t ≡ r → if_value path kind r ≡ Ok g → GivenUtf8 g
if_value_utf8 path kind t (Ok v) g e h =
    subst GivenUtf8 (same_found (kind, v) g h) (given_utf8 (kind_of_type kind) v (value_given kind t v e))
if_value_utf8 path kind t (Err WrongSyntax) g e h = absurd (cc h)
if_value_utf8 path kind t (Err (TooLong most)) g e h = absurd (cc h)

given_by_utf8 : (path t : Text) (g : Given) → given_by path t ≡ Ok g → GivenUtf8 g
given_by_utf8 path t g h = by (list_any is_equals t) h
  where
    reads : Read Given
    reads =
        needed path (type_of_text (before_first is_equals t)) >>= λ kind. if_value path kind
        (value_of_text kind (after_first is_equals t))

    by : (b : Bool) → (if b then reads else Err (BadShape path)) ≡ Ok g → GivenUtf8 g
    by true k =
        let w = bound (needed path (type_of_text (before_first is_equals t))) _ g k in
        if_value_utf8 path w.0 (after_first is_equals t) (value_of_text w.0 (after_first is_equals t)) g refl w.2
    by false k = absurd (cc k)

given_in_utf8 : (path : Text) (d : Data) (g : Given) → given_in path d ≡ Ok g → GivenUtf8 g
given_in_utf8 path d g h = let w = bound (needed path (as_str d)) _ g h in given_by_utf8 path w.0 g w.2

all_given_utf8 : (path : Text) (items : Items) (gs : List Given) → given_behind path 0 [] items ≡ Ok gs
    → Each GivenUtf8 gs
all_given_utf8 path items gs h =
    loop_keeps (λ (p : Text) (before : List Given) (d : Data). given_in p d)
    (λ (before : List Given) (g : Given). before ++ g ∷ [])
    (λ (p : Text) (i : ℕ) (before : List Given) (ds : Items). given_behind p i before ds)
    (λ p i s. refl) (λ p i s d ds. refl) Anything (λ (n : ℕ) (before : List Given). Each GivenUtf8 before)
    (λ p n before d g q each k. each_both GivenUtf8 before (g ∷ []) each (each_one GivenUtf8 g (given_in_utf8 p d g k)))
    path 0 0 [] gs items (each_anything items) (each_none GivenUtf8) h

-- ---- entries

abbrev ValueUtf8 : StoredValue → Type 0
ValueUtf8 v = has_utf8 v.value ≡ true

abbrev StoredUtf8 : Stored → Type 0
StoredUtf8 a = Each ValueUtf8 a.values

abbrev EntryUtf8 : Entry → Type 0
EntryUtf8 e = Each StoredUtf8 e.attributes

values_utf8 : (e : Entry) (kind : ℕ) → EntryUtf8 e → Each ValueUtf8 (values_at e kind)
values_utf8 e kind h = by (attribute_at e kind) refl
  where
    by : (o : Option Stored) → attribute_at e kind ≡ o → Each ValueUtf8 (in_option [] (λ a. a.values) o)
    by None q v i = elim i [ ]
    by (Some a) q v i = h a (of_find (λ (x : Stored). x.kind == kind) a e.attributes q).0 v i

put_utf8 : (kind : ℕ) (v : StoredValue) (e : Entry) → ValueUtf8 v → EntryUtf8 e → EntryUtf8 (put_value kind v e)
put_utf8 kind v e b h = by (is_empty values)
  where
    values : List StoredValue
    values = insert_sorted value_below v (values_at e kind)

    others : List Stored
    others = filter (λ a. not (a.kind == kind)) e.attributes

    new : StoredUtf8 (record { kind = kind; values = values })
    new x i = elim (of_insert value_below x v (values_at e kind) i) [
      | inl s ↦ subst ValueUtf8 (sym s) b
      | inr j ↦ values_utf8 e kind h x j
    ]

    by : (c : Bool) → Each StoredUtf8 (if c then others
        else insert_sorted kind_below (record { kind = kind; values = values }) others)
    by true a i = h a (of_filter (λ (x : Stored). not (x.kind == kind)) a e.attributes i).0
    by false a i = elim (of_insert kind_below a (record { kind = kind; values = values }) others i) [
      | inl s ↦ subst StoredUtf8 (sym s) new
      | inr j ↦ h a (of_filter (λ (x : Stored). not (x.kind == kind)) a e.attributes j).0
    ]

with_rdn_utf8 : (r : Rdn) (e : Entry) → RdnUtf8 r → EntryUtf8 e → EntryUtf8 (with_rdn r e)
with_rdn_utf8 [] e u h = h
with_rdn_utf8 (p ∷ r) e u h =
    let w = both_true (is_utf8 p.text) (are_utf8 (written_rdn r)) u in
    with_rdn_utf8 r (if has_pair e p then e else put_value p.kind (value_of_pair p) e) w.1 (by w.0 (has_pair e p))
  where
    by : is_utf8 p.text ≡ true → (b : Bool) → EntryUtf8 (if b then e else put_value p.kind (value_of_pair p) e)
    by q true = h
    by q false = put_utf8 p.kind (value_of_pair p) e q h

with_value_utf8 : (e : Entry) (kind : TypeRef) (v : Value) (f : Entry) → has_utf8 v ≡ true → EntryUtf8 e
    → with_value e kind v ≡ Some f → EntryUtf8 f
with_value_utf8 e (Unknown arcs) v f u h q = absurd (cc q)
with_value_utf8 e (Known kind) v f u h q = by (normal_for (Known kind) v) q
  where
    fresh : (n : List ℕ) (b : Bool)
        → (if b then None else Some (put_value kind (record { value = v; normal = n }) e)) ≡ Some f → EntryUtf8 f
    fresh n true k = absurd (cc k)
    fresh n false k =
        let same : put_value kind (record { value = v; normal = n }) e ≡ f = cc in
        subst EntryUtf8 same (put_utf8 kind (record { value = v; normal = n }) e u h)

    by : (o : Option (List ℕ)) → with_normal kind v e o ≡ Some f → EntryUtf8 f
    by None k = absurd (cc k)
    by (Some n) k = fresh n (has_value e kind n) k

with_all_utf8 : (e : Entry) (gs : List Given) (f : Entry) → Each GivenUtf8 gs → EntryUtf8 e → with_all e gs ≡ Some f
    → EntryUtf8 f
with_all_utf8 e [] f each h q = (let same : e ≡ f = cc in subst EntryUtf8 same h)
with_all_utf8 e (g ∷ gs) f each h q = by (with_value e g.0 g.1) refl q (λ x. with_all_utf8 x gs f rest)
  where
    rest : Each GivenUtf8 gs
    rest x i = each x (there i)

    by : (o : Option Entry) → with_value e g.0 g.1 ≡ o → option_and_then (λ x. with_all x gs) o ≡ Some f
        → ((x : Entry) → EntryUtf8 x → with_all x gs ≡ Some f → EntryUtf8 f) → EntryUtf8 f
    by None k l go = absurd (cc l)
    by (Some x) k l go = go x (with_value_utf8 e g.0 g.1 x (each g here) h k) l

entry_given_utf8 : (rdn : Rdn) (gs : List Given) (f : Entry) → RdnUtf8 rdn → Each GivenUtf8 gs
    → entry_given rdn gs ≡ Some f → EntryUtf8 f
entry_given_utf8 rdn gs f u each q = by (with_all nothing_yet gs) refl q
  where
    whole : (e : Entry) (b : Bool) → EntryUtf8 e → (if b then Some e else None) ≡ Some f → EntryUtf8 f
    whole e true h k = (let same : e ≡ f = cc in subst EntryUtf8 same h)
    whole e false h k = absurd (cc k)

    by : (o : Option Entry) → with_all nothing_yet gs ≡ o
        → option_and_then (λ e. if_complete (with_rdn rdn e)) o ≡ Some f → EntryUtf8 f
    by None k l = absurd (cc l)
    by (Some e) k l =
        whole (with_rdn rdn e) (is_present (with_rdn rdn e) 0 && is_none (doubled (with_rdn rdn e)))
        (with_rdn_utf8 rdn e u (with_all_utf8 nothing_yet gs e each (each_none StoredUtf8) k)) l

-- ---- entries of a context

record NamedUtf8 (e : Named) : Type 0 where
  name : NameUtf8 e.name
  entry : EntryUtf8 e.entry

below_utf8 : (before : List Named) (own name : Name) → Each NamedUtf8 before → NameUtf8 own
    → below_parent before own ≡ Some name → NameUtf8 name
below_utf8 before own name each u h = by (find is_above before) refl h
  where
    is_above : Named → Bool
    is_above e = same_key (parent (key_of own)) (key_at e)

    by : (o : Option Named) → find is_above before ≡ o
        → option_map (λ above. above.name ++ last_rdn own ∷ []) o ≡ Some name → NameUtf8 name
    by None k l = absurd (cc l)
    by (Some above) k l =
        let same : above.name ++ last_rdn own ∷ [] ≡ name = cc in
        subst NameUtf8 same (pushed_utf8 above.name (last_rdn own)
        (each above (of_find is_above above before k).0).name (last_utf8 own u))

whole_utf8 : (prefix : Name) (before : List Named) (own name : Name) → NameUtf8 prefix → Each NamedUtf8 before
    → NameUtf8 own → whole_name prefix before own ≡ Some name → NameUtf8 name
whole_utf8 prefix [] own name p each u h = by (same_key (key_of own) (key_of prefix)) h
  where
    by : (b : Bool) → (if b then Some prefix else None) ≡ Some name → NameUtf8 name
    by true k = (let same : prefix ≡ name = cc in subst NameUtf8 same p)
    by false k = absurd (cc k)
whole_utf8 prefix (first ∷ more) own name p each u h = below_utf8 (first ∷ more) own name each u h

entry_utf8 : (prefix : Name) (path : Text) (before : List Named) (d : Data) (after : List Named) → NameUtf8 prefix
    → Each NamedUtf8 before → entry_behind path prefix before d ≡ Ok after → Each NamedUtf8 after
entry_utf8 prefix path before d after p each h =
    let members = bound (members_at path d) _ after h in
    let own = bound (entry_name_at path (codes "name") d) _ after members.2 in
    let new =
    bound
    (if_fit (at path (codes "name")) (not (has_key (map key_at before) (key_of own.0))) own.0) _ after own.2 in
    let name = bound (needed (at path (codes "name")) (whole_name prefix before new.0)) _ after new.2 in
    let texts = bound (list_at path (codes "attrs") d) _ after name.2 in
    let given = bound (given_behind (at path (codes "attrs")) 0 [] texts.0) _ after texts.2 in
    let entry = bound (needed path (entry_given (last_rdn new.0) given.0)) _ after given.2 in
    let is_new =
    fit_is (at path (codes "name")) (not (has_key (map key_at before) (key_of own.0))) own.0 new.0 new.1 in
    let u : NameUtf8 new.0 = subst NameUtf8 is_new.1 (entry_name_utf8 path (codes "name") d own.0 own.1) in
    let named : Named = record { name = name.0; entry = entry.0 } in
    let one : NamedUtf8 named = record {
      name = whole_utf8 prefix before new.0 name.0 p each u
          (needed_is (at path (codes "name")) (whole_name prefix before new.0) name.0 name.1);
      entry = entry_given_utf8 (last_rdn new.0) given.0 entry.0 (last_utf8 new.0 u)
          (all_given_utf8 (at path (codes "attrs")) texts.0 given.0 given.1)
          (needed_is path (entry_given (last_rdn new.0) given.0) entry.0 entry.1);
    } in
    only_keeps (Each NamedUtf8) path entry_members members.0 (before ++ named ∷ []) after entry.2
    (each_both NamedUtf8 before (named ∷ []) each (each_one NamedUtf8 named one))

entries_utf8 : (prefix : Name) (path : Text) (items : Items) (es : List Named) → NameUtf8 prefix
    → entries_behind path 0 prefix [] items ≡ Ok es → Each NamedUtf8 es
entries_utf8 prefix path items es p h =
    loop_keeps (λ (q : Text) (before : List Named) (d : Data). entry_behind q prefix before d)
    (λ (before after : List Named). after)
    (λ (q : Text) (i : ℕ) (before : List Named) (ds : Items). entries_behind q i prefix before ds)
    (λ q i s. refl) (λ q i s d ds. refl) Anything (λ (n : ℕ) (before : List Named). Each NamedUtf8 before)
    (λ q n before d after a each k. entry_utf8 prefix q before d after p each k)
    path 0 0 [] es items (each_anything items) (each_none NamedUtf8) h

-- ---- contexts

record ContextUtf8 (c : Context) : Type 0 where
  prefix : NameUtf8 c.prefix
  entries : Each NamedUtf8 c.entries

abbrev ContextsUtf8 : Contexts → Type 0
ContextsUtf8 s = Each ContextUtf8 s.contexts

context_utf8 : (names : List Text) (path : Text) (before : Contexts) (d : Data) (after : Contexts)
    → ContextsUtf8 before → context_behind names path before d ≡ Ok after → ContextsUtf8 after
context_utf8 names path before d after each h =
    let members = bound (members_at path d) _ after h in
    let prefix = bound (entry_name_at path (codes "prefix") d) _ after members.2 in
    let items = bound (some_at path (codes "entries") d) _ after prefix.2 in
    let used = bound (with_entries path before.counts.entries items.0) _ after items.2 in
    let entries = bound (entries_behind (at path (codes "entries")) 0 prefix.0 [] items.0) _ after used.2 in
    let list = bound (list_if_any path (codes "nssr") d) _ after entries.2 in
    let nssrs =
    bound
    (nssrs_behind names (at path (codes "nssr")) 0 entries.0
    (record { nssrs = []; listed = before.counts.nssr_agents }) list.0) _ after list.2 in
    let u = entry_name_utf8 path (codes "prefix") d prefix.0 prefix.1 in
    let c : Context = record { prefix = prefix.0; entries = entries.0; nssrs = nssrs.0.nssrs } in
    let one : ContextUtf8 c = record {
      prefix = u;
      entries = entries_utf8 prefix.0 (at path (codes "entries")) items.0 entries.0 u entries.1;
    } in
    only_keeps ContextsUtf8 path context_members members.0 (with_context before prefix.0 entries.0 nssrs.0 used.0) after
    nssrs.2 (each_both ContextUtf8 before.contexts (c ∷ []) each (each_one ContextUtf8 c one))

contexts_utf8 : (names : List Text) (path : Text) (before after : Contexts) (items : Items) → ContextsUtf8 before
    → contexts_behind names path 0 before items ≡ Ok after → ContextsUtf8 after
contexts_utf8 names path before after items each h =
    loop_keeps (context_behind names) (λ (s t : Contexts). t) (contexts_behind names)
    (λ p i s. refl) (λ p i s d ds. refl) Anything (λ (n : ℕ) (s : Contexts). ContextsUtf8 s)
    (λ p n s d t a k l. context_utf8 names p s d t k l)
    path 0 0 before after items (each_anything items) each h

-- ---- references

abbrev SpecificUtf8 : Specific → Type 0
SpecificUtf8 k = NameUtf8 k.pin

record ReferencesUtf8 (r : References) : Type 0 where
  subordinate : Each SpecificUtf8 r.subordinate
  cross : Each SpecificUtf8 r.cross

with_reference_utf8 : (r : References) (cross : Bool) (k : Specific) → ReferencesUtf8 r → SpecificUtf8 k
    → ReferencesUtf8 (with_reference r cross k)
with_reference_utf8 r true k h u = record {
  subordinate = h.subordinate;
  cross = each_both SpecificUtf8 r.cross (k ∷ []) h.cross (each_one SpecificUtf8 k u);
}
with_reference_utf8 r false k h u = record {
  subordinate = each_both SpecificUtf8 r.subordinate (k ∷ []) h.subordinate (each_one SpecificUtf8 k u);
  cross = h.cross;
}

reference_utf8 : (names : List Text) (path : Text) (before : References) (d : Data) (after : References)
    → ReferencesUtf8 before → reference_behind names path before d ≡ Ok after → ReferencesUtf8 after
reference_utf8 names path before d after h l =
    let members = bound (members_at path d) _ after l in
    let word = bound (text_at path (codes "kind") d) _ after members.2 in
    let cross = bound (needed (at path (codes "kind")) (is_cross word.0)) _ after word.2 in
    let name = bound (entry_name_at path (codes "name") d) _ after cross.2 in
    let pin =
    bound
    (if_fit (at path (codes "name")) (not (has_key (pin_keys (of_kind before cross.0)) (key_of name.0))) name.0) _ after
    name.2 in
    let master = bound (text_at path (codes "master") d) _ after pin.2 in
    let texts = bound (list_if_any path (codes "shadows") d) _ after master.2 in
    let few = bound (if_few (at path (codes "shadows")) most_shadows (items_len texts.0) texts.0) _ after texts.2 in
    let shadows = bound (agents_behind names (at path (codes "shadows")) 0 [] few.0) _ after few.2 in
    let same =
    fit_is (at path (codes "name")) (not (has_key (pin_keys (of_kind before cross.0)) (key_of name.0))) name.0 pin.0
    pin.1 in
    let k : Specific = record {
      pin = pin.0;
      access = record { master = agent_of names master.0; shadows = shadows.0 };
    } in
    only_keeps ReferencesUtf8 path reference_members members.0 (with_reference before cross.0 k) after shadows.2
    (with_reference_utf8 before cross.0 k h
    (subst NameUtf8 same.1 (entry_name_utf8 path (codes "name") d name.0 name.1)))

references_utf8 : (names : List Text) (path : Text) (after : References) (items : Items)
    → references_behind names path 0 no_references items ≡ Ok after → ReferencesUtf8 after
references_utf8 names path after items h =
    loop_keeps (reference_behind names) (λ (s t : References). t) (references_behind names)
    (λ p i s. refl) (λ p i s d ds. refl) Anything (λ (n : ℕ) (s : References). ReferencesUtf8 s)
    (λ p n s d t a k l. reference_utf8 names p s d t k l)
    path 0 0 no_references after items (each_anything items)
    (record { subordinate = each_none SpecificUtf8; cross = each_none SpecificUtf8 }) h

-- ---- agents

record AgentUtf8 (a : Agent) : Type 0 where
  contexts : Each ContextUtf8 a.contexts
  subordinate : Each SpecificUtf8 a.subordinate
  cross : Each SpecificUtf8 a.cross

abbrev AgentsUtf8 : Agents → Type 0
AgentsUtf8 s = Each AgentUtf8 s.agents

agent_utf8 : (names : List Text) (path : Text) (before : Agents) (d : Data) (after : Agents) → AgentsUtf8 before
    → agent_behind names path before d ≡ Ok after → AgentsUtf8 after
agent_utf8 names path before d after each h =
    let members = bound (members_at path d) _ after h in
    let text = bound (text_at path (codes "name") d) _ after members.2 in
    let name =
    bound (new_name (at path (codes "name")) (map (λ (a : Agent). a.name) before.agents) text.0) _ after text.2 in
    let superior =
    bound (agent_if_any names (at path (codes "superior")) (get (codes "superior") d)) _ after name.2 in
    let items = bound (list_if_any path (codes "contexts") d) _ after superior.2 in
    let used = bound (with_these path before.counts.contexts items.0) _ after items.2 in
    let first : Contexts = record { contexts = []; counts = with_contexts before.counts used.0 } in
    let contexts = bound (contexts_behind names (at path (codes "contexts")) 0 first items.0) _ after used.2 in
    let list = bound (list_if_any path (codes "refs") d) _ after contexts.2 in
    let few = bound (if_few (at path (codes "refs")) most_references (items_len list.0) list.0) _ after list.2 in
    let references = bound (references_behind names (at path (codes "refs")) 0 no_references few.0) _ after few.2 in
    let a : Agent = agent_with name.0 superior.0 contexts.0.contexts references.0 in
    let refs = references_utf8 names (at path (codes "refs")) references.0 few.0 references.1 in
    let one : AgentUtf8 a = record {
      contexts = contexts_utf8 names (at path (codes "contexts")) first contexts.0 items.0 (each_none ContextUtf8)
          contexts.1;
      subordinate = refs.subordinate;
      cross = refs.cross;
    } in
    only_keeps AgentsUtf8 path agent_members members.0
    (record { agents = before.agents ++ a ∷ []; counts = contexts.0.counts }) after references.2
    (each_both AgentUtf8 before.agents (a ∷ []) each (each_one AgentUtf8 a one))

agents_utf8 : (names : List Text) (path : Text) (before after : Agents) (items : Items) → AgentsUtf8 before
    → all_behind names path 0 before items ≡ Ok after → AgentsUtf8 after
agents_utf8 names path before after items each h =
    loop_keeps (agent_behind names) (λ (s t : Agents). t) (all_behind names)
    (λ p i s. refl) (λ p i s d ds. refl) Anything (λ (n : ℕ) (s : Agents). AgentsUtf8 s)
    (λ p n s d t a k l. agent_utf8 names p s d t k l)
    path 0 0 before after items (each_anything items) each h

-- ---- agreements

abbrev AgreementUtf8 : Agreement → Type 0
AgreementUtf8 g = NameUtf8 g.context

agreement_utf8 : (names : List Text) (path : Text) (before : List Agreement) (d : Data) (g : Agreement)
    → agreement_in names path before d ≡ Ok g → AgreementUtf8 g
agreement_utf8 names path before d g h =
    let members = bound (members_at path d) _ g h in
    let number = bound (number_at path (codes "id") d) _ g members.2 in
    let new =
    bound (if_fit (at path (codes "id")) (not (list_any (λ x. x.number == number.0) before)) number.0) _ g number.2 in
    let supplier = bound (text_at path (codes "supplier") d) _ g new.2 in
    let consumer = bound (text_at path (codes "consumer") d) _ g supplier.2 in
    let context = bound (entry_name_at path (codes "context") d) _ g consumer.2 in
    only_keeps AgreementUtf8 path agreement_members members.0
    (record {
      number = new.0;
      supplier = agent_of names supplier.0;
      consumer = agent_of names consumer.0;
      context = context.0;
    }) g context.2 (entry_name_utf8 path (codes "context") d context.0 context.1)

agreements_utf8 : (names : List Text) (path : Text) (gs : List Agreement) (items : Items)
    → agreements_behind names path 0 [] items ≡ Ok gs → Each AgreementUtf8 gs
agreements_utf8 names path gs items h =
    loop_keeps (agreement_in names) (λ (before : List Agreement) (g : Agreement). before ++ g ∷ [])
    (agreements_behind names)
    (λ p i s. refl) (λ p i s d ds. refl) Anything (λ (n : ℕ) (before : List Agreement). Each AgreementUtf8 before)
    (λ p n before d g a each k.
    each_both AgreementUtf8 before (g ∷ []) each (each_one AgreementUtf8 g (agreement_utf8 names p before d g k)))
    path 0 0 [] gs items (each_anything items) (each_none AgreementUtf8) h

-- ---- as tests

stored_test : (a : Stored) → StoredUtf8 a → stored_is_utf8 a ≡ true
stored_test a h = all_in (λ (v : StoredValue). has_utf8 v.value) a.values h

named_test : (e : Named) → NamedUtf8 e → entry_is_utf8 e ≡ true
named_test e h =
    and_true (name_is_utf8 e.name) (list_all stored_is_utf8 e.entry.attributes) h.name
    (all_in stored_is_utf8 e.entry.attributes (λ a i. stored_test a (h.entry a i)))

context_test : (c : Context) → ContextUtf8 c → context_is_utf8 c ≡ true
context_test c h =
    and_true (name_is_utf8 c.prefix) (list_all entry_is_utf8 c.entries) h.prefix
    (all_in entry_is_utf8 c.entries (λ e i. named_test e (h.entries e i)))

references_test : (ks : List Specific) → Each SpecificUtf8 ks → references_are_utf8 ks ≡ true
references_test ks each = all_in (λ (k : Specific). name_is_utf8 k.pin) ks each

agent_test : (a : Agent) → AgentUtf8 a → agent_is_utf8 a ≡ true
agent_test a h =
    and_true (list_all context_is_utf8 a.contexts) (references_are_utf8 a.subordinate && references_are_utf8 a.cross)
    (all_in context_is_utf8 a.contexts (λ c i. context_test c (h.contexts c i)))
    (and_true (references_are_utf8 a.subordinate) (references_are_utf8 a.cross)
    (references_test a.subordinate h.subordinate) (references_test a.cross h.cross))

record WorldUtf8 (w : World) : Type 0 where
  agents : Each AgentUtf8 w.agents
  agreements : Each AgreementUtf8 w.agreements

world_test : (w : World) → WorldUtf8 w → world_is_utf8 w ≡ true
world_test w h =
    and_true (list_all agent_is_utf8 w.agents) (list_all (λ (g : Agreement). name_is_utf8 g.context) w.agreements)
    (all_in agent_is_utf8 w.agents (λ a i. agent_test a (h.agents a i)))
    (all_in (λ (g : Agreement). name_is_utf8 g.context) w.agreements h.agreements)

-- ---- the world

abbrev FileUtf8 : File → Type 0
FileUtf8 f = WorldUtf8 f.world

world_utf8 : (names : List Text) (has : Bool) (start : Start) (items : Items) (d : Data) (f : File)
    → world_in names has start items d ≡ Ok f → FileUtf8 f
world_utf8 names has start items d f h =
    let members = bound (members_at (codes "") d) _ f h in
    let agents = bound (all_behind names (codes "/agents") 0 no_agents items) _ f members.2 in
    let list = bound (list_if_any (codes "") (codes "agreements") d) _ f agents.2 in
    let few = bound (if_few (codes "/agreements") most_agreements (items_len list.0) list.0) _ f list.2 in
    let agreements = bound (agreements_behind names (codes "/agreements") 0 [] few.0) _ f few.2 in
    let copies : ℕ =
    with_copies (flat_map (λ (a : Agent). a.contexts) agents.0.agents) agents.0.counts.entries
    agreements.0 in
    let all = bound (if_few (codes "/agreements") most_with_copies copies agreements.0) _ f agreements.2 in
    let network = bound (network_of names has d) _ f all.2 in
    let same = few_is (codes "/agreements") most_with_copies copies agreements.0 all.0 all.1 in
    let w : World = record { agents = agents.0.agents; agreements = all.0; network = network.0 } in
    let whole : WorldUtf8 w = record {
      agents = agents_utf8 names (codes "/agents") no_agents agents.0 items (each_none AgentUtf8) agents.1;
      agreements = subst (Each AgreementUtf8) same.1
          (agreements_utf8 names (codes "/agreements") agreements.0 few.0 agreements.1);
    } in
    only_keeps FileUtf8 (codes "") (world_members has) members.0 (record { start = start; world = w }) f network.2 whole

known_utf8 : (f g : File) (o : Option Text) → FileUtf8 f → if_known f o ≡ Ok g → FileUtf8 g
known_utf8 f g None h k = subst FileUtf8 (same_found f g k) h
known_utf8 f g (Some path) h k = absurd (cc k)

pub files_are_utf8 : FilesAreUtf8
files_are_utf8 d f h =
    let members = bound (members_at (codes "") d) _ f h in
    let has = bound (needed (codes "/format") (format_of d)) _ f members.2 in
    let stamp = bound (text_at (codes "") (codes "start") d) _ f has.2 in
    let start = bound (needed (codes "/start") (start_of stamp.0)) _ f stamp.2 in
    let items = bound (some_at (codes "") (codes "agents") d) _ f start.2 in
    let few = bound (if_few (codes "/agents") most_agents (items_len items.0) items.0) _ f items.2 in
    let made = bound (world_in (names_behind [] few.0) has.0 start.0 few.0 d) _ f few.2 in
    world_test f.world
    (known_utf8 made.0 f _ (world_utf8 (names_behind [] few.0) has.0 start.0 few.0 d made.0 made.1) made.2)

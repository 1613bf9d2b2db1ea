-- What the tree refuses with, by the list of all refusals: no problem of a service; and the name that it tells where the
-- object isn't there is the root, or that of the lowest entry on the way to it, which has no more RDNs than the object's.
use Rattle.std.proofs.Common.{◌≡◌, ◌≤◌, ℕ, Bool, true, false, not, ◌&&◌, ◌||◌, inl, inr, List, [], ◌∷◌, ◌++◌, refl, sym, ap, subst, ◌∙◌, Option, Some, None, if◌then◌else◌, nat_lt, length, map, arith}
use Rattle.std.specs.List.{list_any, flat_map}
use Rattle.std.specs.Option.{is_none}
use Rattle.std.specs.declared.result.Result.{Result}
use Rattle.std.specs.declared.result.Result.TheVariants.{Ok, Err}
use Rattle.x5_model.specs.Words.{has, is_empty, first_of, in_option, when}
use Rattle.x5_model.specs.Members.{In, here}
use Rattle.x5_model.specs.Keys.{Key, same_key, is_prefix, parent}
use Rattle.x5_model.specs.Values.{TypeRef, Known, Unknown, Name, Offered, StoredValue, Rdn, key_of, last_rdn, name_above}
use Rattle.x5_model.specs.Attributes.{is_present, has_value, doubled, added_entry, stored_value, has_rdn, entry_with}
use Rattle.x5_model.specs.Changes.{ChangedEntry, and_then, each_value, put_new, drop_old, on_known, changed, changed_by, single_valued, keeps_rdn, modified, renamed}
use Rattle.x5_model.specs.Entries.{Entry, Named}
use Rattle.x5_model.specs.Selections.{selection_fault}
use Rattle.x5_model.specs.Requests.{Selection, Attribute, Change, AddAttribute, RemoveAttribute, AddValues, RemoveValues, Body, Read, Compare, ListBelow, Search, AddEntry, RemoveEntry, ModifyEntry, ModifyDn, Request}
use Rattle.x5_model.specs.Answers.{DirError, NoSuchObject, AttributeProblem, UpdateProblem}
use Rattle.x5_model.specs.Problems.{invalid_attribute_syntax, undefined_attribute_type, constraint_violation, naming_violation, object_class_violation, object_class_modification_prohibited, no_such_attribute_or_value, entry_already_exists, attribute_or_value_already_exists}
use Rattle.x5_model.specs.Statics.{root_refusals, name_refusals, given, is_defined, value_refusals, has_equal_values, same_type, repeated, attribute_repeats, change_repeats, names_class, repeat_refusals, entry_refusals, added_refusals, static_refusals, fault_of}
use Rattle.x5_model.proofs.Lists.{in_first, in_either, of_flat}
use Rattle.x5_model.proofs.Prefixes.{prefix_length}
use Rattle.x5_model_tree.specs.Tree.{Tree, entry_at, is_there_or_root, has_below, lowest, matched, key_at, sorted_entries}
use Rattle.x5_model_tree.specs.Apply.{UpdatedEntries, Applied, absent, above_pin, is_taken, at_entry, replace_at, respelled, update, apply_over, apply, ground_of}
use Rattle.x5_model_tree.specs.Ask.{Told, Shows, Compares, Lists, Finds, Changes, Refuses, read, compare, info_of, has_type, updated, at_object, ask_body, ask}
use Rattle.x5_model_tree.proofs.Grown.{above_key}
use Rattle.x5_model_tree.proofs.Longest.{IsLowest, lowest_right}
use Rattle.x5_model_run.specs.Needs.{target_of}
use Rattle.x5_model_theory.proofs.Stages.{key_length}
use Rattle.x5_model_updates.proofs.Lookups.{none_found}
use Rattle.x5_model_follow.specs.Alias.{IsTreeError, ErrorsAreTrees, ShortlyTold}

-- the lowest entry on the way to a name is above it, or it
matched_short : (es : List Named) (key : Key) → length (matched es key) ≤ length key
matched_short es key = by (lowest es key) (lowest_right es key)
  where
    by : (o : Option Named) → IsLowest es key (length key) o → length (in_option [] (λ e. e.name) o) ≤ length key
    by None h = omega arith
    by (Some e) h =
        let short : length (key_at e) ≤ length key = prefix_length (key_at e) key h.1.0 in
        let same : length (key_of e.name) ≡ length e.name = key_length e.name in
        omega (arith, short, same)

module _ (t : Tree) (key : Key) where
  -- an error that a tree tells of an object with this key
  abbrev IsMeant : DirError → Type 0
  IsMeant x = IsTreeError t key x

  -- ---- the request alone

  abbrev AreMeant : List DirError → Type 0
  AreMeant xs = (x : DirError) → In x xs → IsMeant x

  none : AreMeant []
  none x i = elim i [ ]

  both : (xs ys : List DirError) → AreMeant xs → AreMeant ys → AreMeant (xs ++ ys)
  both xs ys f g x i = elim (in_either x xs ys i) [ inl j ↦ f x j | inr j ↦ g x j ]

  one : (b : Bool) (y : DirError) → IsMeant y → AreMeant (when b y)
  one true y f x i = elim (in_first x y [] i) [ inl e ↦ subst IsMeant (sym e) f | inr j ↦ elim j [ ] ]
  one false y f x i = elim i [ ]

  each : {X : Type 0} (f : X → List DirError) (xs : List X) → ((x : X) → AreMeant (f x)) → AreMeant (flat_map f xs)
  each f xs g x i = (let w = of_flat f x xs i in g w.0 x w.2)

  root_meant : (n : Name) → AreMeant (root_refusals n)
  root_meant n = one (is_empty n) (NoSuchObject []) (inl refl)

  name_meant : (b : Body) → AreMeant (name_refusals b)
  name_meant (Read name selection) = root_meant name
  name_meant (Compare name assertion) = root_meant name
  name_meant (ListBelow name) = none
  name_meant (Search base subset filter selection) = none
  name_meant (AddEntry name attributes) = one (nat_lt (length name) 2) (UpdateProblem naming_violation) tt
  name_meant (RemoveEntry name) = root_meant name
  name_meant (ModifyEntry name changes) = root_meant name
  name_meant (ModifyDn name rdn drops) = root_meant name

  value_meant : (a : Attribute) → AreMeant (value_refusals a)
  value_meant a =
      both (when (not (is_defined a.kind)) (AttributeProblem undefined_attribute_type a.kind))
      (when (list_any (λ v. is_none v.normal) a.values) (AttributeProblem invalid_attribute_syntax a.kind))
      (one (not (is_defined a.kind)) (AttributeProblem undefined_attribute_type a.kind) tt)
      (one (list_any (λ v. is_none v.normal) a.values) (AttributeProblem invalid_attribute_syntax a.kind) tt)

  repeats_meant : (earlier : List TypeRef) (given : List Attribute) → AreMeant (attribute_repeats earlier given)
  repeats_meant earlier [] = none
  repeats_meant earlier (a ∷ more) =
      both (when (has_equal_values a || has same_type earlier a.kind) (repeated a))
      (attribute_repeats (a.kind ∷ earlier) more)
      (one (has_equal_values a || has same_type earlier a.kind) (repeated a) tt) (repeats_meant (a.kind ∷ earlier) more)

  change_meant : (c : Change) → AreMeant (change_repeats c)
  change_meant (AddAttribute a) = one (has_equal_values a) (repeated a) tt
  change_meant (RemoveAttribute kind) = none
  change_meant (AddValues a) = one (has_equal_values a) (repeated a) tt
  change_meant (RemoveValues a) = none

  repeat_meant : (b : Body) → AreMeant (repeat_refusals b)
  repeat_meant (Read name selection) = none
  repeat_meant (Compare name assertion) = none
  repeat_meant (ListBelow name) = none
  repeat_meant (Search base subset filter selection) = none
  repeat_meant (AddEntry name attributes) = repeats_meant [] attributes
  repeat_meant (RemoveEntry name) = none
  repeat_meant (ModifyEntry name changes) =
      both (flat_map change_repeats changes)
      (when (list_any names_class changes) (UpdateProblem object_class_modification_prohibited))
      (each change_repeats changes change_meant)
      (one (list_any names_class changes) (UpdateProblem object_class_modification_prohibited) tt)
  repeat_meant (ModifyDn name rdn drops) = none

  doubled_meant : (x : Option ℕ)
      → AreMeant (in_option [] (λ kind. AttributeProblem constraint_violation (Known kind) ∷ []) x)
  doubled_meant None = none
  doubled_meant (Some kind) = one true (AttributeProblem constraint_violation (Known kind)) tt

  added_meant : (b : Body) → AreMeant (added_refusals b)
  added_meant (Read name selection) = none
  added_meant (Compare name assertion) = none
  added_meant (ListBelow name) = none
  added_meant (Search base subset filter selection) = none
  added_meant (AddEntry name attributes) = entry_meant (added_entry (last_rdn name) attributes)
    where
      entry_meant : (e : Entry) → AreMeant (entry_refusals e)
      entry_meant e =
          both (in_option [] (λ kind. AttributeProblem constraint_violation (Known kind) ∷ []) (doubled e))
          (when (not (is_present e 0)) (UpdateProblem object_class_violation)) (doubled_meant (doubled e))
          (one (not (is_present e 0)) (UpdateProblem object_class_violation) tt)
  added_meant (RemoveEntry name) = none
  added_meant (ModifyEntry name changes) = none
  added_meant (ModifyDn name rdn drops) = none

  static_meant : (b : Body) → AreMeant (static_refusals b)
  static_meant b =
      both ((name_refusals b ++ flat_map value_refusals (given b)) ++ repeat_refusals b) (added_refusals b)
      (both (name_refusals b ++ flat_map value_refusals (given b)) (repeat_refusals b)
      (both (name_refusals b) (flat_map value_refusals (given b)) (name_meant b)
      (each value_refusals (given b) value_meant)) (repeat_meant b)) (added_meant b)

  fault_meant : (b : Body) (x : DirError) → fault_of b ≡ Some x → IsMeant x
  fault_meant b x e = static_meant b x (first_in (static_refusals b) x e)
    where
      first_in : (xs : List DirError) (y : DirError) → first_of xs ≡ Some y → In y xs
      first_in [] y f = cc
      first_in (z ∷ xs) y f = (let same : z ≡ y = cc in subst (λ (w : DirError). In y (w ∷ xs)) (sym same) here)

  -- ---- updates

  abbrev IsFine : {A : Type 0} → Result A DirError → Type 0
  IsFine (Ok a) = Unit {0}
  IsFine (Err x) = IsMeant x

  fine_if : {A : Type 0} (b : Bool) (x y : Result A DirError) → IsFine x → IsFine y → IsFine (if b then x else y)
  fine_if true x y f g = f
  fine_if false x y f g = g

  fine_then : (c : ChangedEntry) (f : Entry → ChangedEntry) → IsFine c → ((e : Entry) → IsFine (f e))
      → IsFine (and_then c f)
  fine_then (Ok e) f g h = h e
  fine_then (Err x) f g h = g

  values_fine : (change : StoredValue → Entry → ChangedEntry)
      → ((v : StoredValue) (e : Entry) → IsFine (change v e))
      → (os : List Offered) (e : Entry) → IsFine (each_value change os e)
  values_fine change f [] e = tt
  values_fine change f (o ∷ more) e =
      fine_then _ (each_value change more) (stored (stored_value o)) (values_fine change f more)
    where
      with_stored : Option StoredValue → ChangedEntry
      with_stored None = Ok e
      with_stored (Some v) = change v e

      stored : (x : Option StoredValue) → IsFine (with_stored x)
      stored None = tt
      stored (Some v) = f v e

  known_fine : (change : ℕ → Entry → ChangedEntry) → ((n : ℕ) (e : Entry) → IsFine (change n e)) → (t : TypeRef)
      (e : Entry) → IsFine (on_known change t e)
  known_fine change f (Known kind) e = f kind e
  known_fine change f (Unknown arcs) e = tt

  puts_fine : (n : ℕ) (os : List Offered) (e : Entry) → IsFine (each_value (put_new n) os e)
  puts_fine n os e = values_fine (put_new n) (λ v f. fine_if (has_value f n v.normal) _ _ tt tt) os e

  changed_fine : (c : Change) (e : Entry) → IsFine (changed c e)
  changed_fine (AddAttribute a) e =
      known_fine (λ kind f.
      if is_present f kind then Err (AttributeProblem attribute_or_value_already_exists (Known kind))
      else each_value (put_new kind) a.values f)
      (λ n f. fine_if (is_present f n) (Err (AttributeProblem attribute_or_value_already_exists (Known n)))
      (each_value (put_new n) a.values f) tt (puts_fine n a.values f)) a.kind e
  changed_fine (RemoveAttribute type) e =
      known_fine (λ kind f.
      if is_present f kind then Ok (entry_with kind [] f)
      else Err (AttributeProblem no_such_attribute_or_value (Known kind)))
      (λ n f. fine_if (is_present f n) (Ok (entry_with n [] f))
      (Err (AttributeProblem no_such_attribute_or_value (Known n))) tt tt) type e
  changed_fine (AddValues a) e =
      known_fine (λ kind f. each_value (put_new kind) a.values f) (λ n f. puts_fine n a.values f) a.kind e
  changed_fine (RemoveValues a) e =
      known_fine (λ kind f. each_value (drop_old kind) a.values f)
      (λ n f. values_fine (drop_old n) (λ v g. fine_if (has_value g n v.normal) _ _ tt tt) a.values f) a.kind e

  changes_fine : (cs : List Change) (e : Entry) → IsFine (changed_by cs e)
  changes_fine [] e = tt
  changes_fine (c ∷ more) e = fine_then (changed c e) (changed_by more) (changed_fine c e) (changes_fine more)

  single_fine : (e : Entry) → IsFine (single_valued e)
  single_fine e = go (doubled e)
    where
      by : Option ℕ → ChangedEntry
      by None = Ok e
      by (Some kind) = Err (AttributeProblem constraint_violation (Known kind))

      go : (x : Option ℕ) → IsFine (by x)
      go None = tt
      go (Some kind) = tt

  modified_fine : (rdn : Rdn) (cs : List Change) (e : Entry) → IsFine (modified rdn cs e)
  modified_fine rdn cs e =
      fine_then (and_then (changed_by cs e) (keeps_rdn rdn)) single_valued
      (fine_then (changed_by cs e) (keeps_rdn rdn) (changes_fine cs e) (λ f. fine_if (has_rdn f rdn) _ _ tt tt))
      single_fine

  entry_fine : (at : Key) (f : Named → UpdatedEntries) → at ≡ key → ((e : Named) → IsFine (f e))
      → IsFine (at_entry (ground_of t) at f)
  entry_fine at f same h = go (entry_at t.entries at)
    where
      by : Option Named → UpdatedEntries
      by None = Err (absent (ground_of t) at)
      by (Some e) = f e

      go : (x : Option Named) → IsFine (by x)
      go None = inr (ap (matched t.entries) same)
      go (Some e) = h e

  update_fine : (b : Body) → key_of (target_of b) ≡ key → IsFine (update (ground_of t) b)
  update_fine (Read name selection) same = tt
  update_fine (Compare name assertion) same = tt
  update_fine (ListBelow name) same = tt
  update_fine (Search base subset filter selection) same = tt
  update_fine (AddEntry name attributes) same =
      entry_fine (parent (key_of name)) _ (sym (above_key name) ∙ same)
      (λ e. fine_if (is_taken (ground_of t) (key_of name)) _ _ tt tt)
  update_fine (RemoveEntry name) same = entry_fine (key_of name) _ same (λ e.
      fine_if (above_pin (ground_of t) (key_of name)) _ _ tt (fine_if (has_below t.entries (key_of name)) _ _ tt tt))
  update_fine (ModifyEntry name changes) same = entry_fine (key_of name) _ same (λ e.
      put e (modified (last_rdn name) changes e.entry) (modified_fine (last_rdn name) changes e.entry))
    where
      made : Named → ChangedEntry → UpdatedEntries
      made e (Ok new) = Ok (replace_at (key_of name) (record e { entry = new }) t.entries)
      made e (Err x) = Err x

      put : (e : Named) (c : ChangedEntry) → IsFine c → IsFine (made e c)
      put e (Ok new) f = tt
      put e (Err x) f = f
  update_fine (ModifyDn name rdn drops) same = entry_fine (key_of name) _ same (λ e.
      fine_if (above_pin (ground_of t) (key_of name)) _ _ tt
      (put (single_valued (renamed (last_rdn name) rdn drops e.entry))
      (single_fine (renamed (last_rdn name) rdn drops e.entry))))
    where
      new_key : Key
      new_key = key_of (name_above name ++ rdn ∷ [])

      moved : Entry → Named → Named
      moved new e =
          if same_key (key_at e) (key_of name) then record {
            name = respelled (length (name_above name)) rdn e.name;
            entry = new;
          }
          else (if is_prefix (key_of name) (key_at e)
          then record e { name = respelled (length (name_above name)) rdn e.name } else e)

      made : ChangedEntry → UpdatedEntries
      made (Err x) = Err x
      made (Ok new) =
          if not (same_key new_key (key_of name)) && is_taken (ground_of t) new_key then Err (UpdateProblem entry_already_exists)
          else Ok (sorted_entries (map (moved new) t.entries))

      put : (c : ChangedEntry) → IsFine c → IsFine (made c)
      put (Err x) f = f
      put (Ok new) f =
          fine_if (not (same_key new_key (key_of name)) && is_taken (ground_of t) new_key)
          (Err (UpdateProblem entry_already_exists)) (Ok (sorted_entries (map (moved new) t.entries))) tt tt

  apply_fine : (b : Body) → key_of (target_of b) ≡ key → IsFine (apply_over (ground_of t) b)
  apply_fine b same = go (fault_of b) refl
    where
      by : Option DirError → UpdatedEntries
      by (Some x) = Err x
      by None = update (ground_of t) b

      go : (x : Option DirError) → fault_of b ≡ x → IsFine (by x)
      go (Some x) e = fault_meant b x e
      go None e = update_fine b same

  -- ---- queries

  abbrev IsTold : Told → Type 0
  IsTold (Shows info) = Unit {0}
  IsTold (Compares equal copy) = Unit {0}
  IsTold (Lists subs cut) = Unit {0}
  IsTold (Finds infos cut) = Unit {0}
  IsTold Changes = Unit {0}
  IsTold (Refuses x) = IsMeant x

  told_if : (b : Bool) (x y : Told) → IsTold x → IsTold y → IsTold (if b then x else y)
  told_if true x y f g = f
  told_if false x y f g = g

  object_told : (name : Name) (f : Named → Told) → key_of name ≡ key → ((e : Named) → IsTold (f e)) → IsTold (at_object t name f)
  object_told name f same h = go (entry_at t.entries (key_of name))
    where
      by : Option Named → Told
      by None = Refuses (NoSuchObject (matched t.entries (key_of name)))
      by (Some e) = f e

      go : (x : Option Named) → IsTold (by x)
      go None = inr (ap (matched t.entries) same)
      go (Some e) = h e

  read_told : (copies : Key → Bool) (selection : Selection) (e : Named) → IsTold (read copies selection e)
  read_told copies selection e = go (selection_fault selection e.entry)
    where
      by : Option TypeRef → Told
      by None = Shows (info_of copies selection e)
      by (Some kind) = Refuses (AttributeProblem no_such_attribute_or_value kind)

      go : (x : Option TypeRef) → IsTold (by x)
      go None = tt
      go (Some kind) = tt

  applied_told : (r : Request) → key_of (target_of r.body) ≡ key → IsTold (updated (apply t r))
  applied_told r same = go (apply_over (ground_of t) r.body) (apply_fine r.body same)
    where
      by : UpdatedEntries → Applied
      by (Ok entries) = Ok (record t { entries = entries })
      by (Err x) = Err x

      go : (x : UpdatedEntries) → IsFine x → IsTold (updated (by x))
      go (Ok es) f = tt
      go (Err x) f = f

  body_told : (r : Request) (b : Body) → r.body ≡ b → key_of (target_of b) ≡ key → IsTold (ask_body (λ key. false) t r b)
  body_told r (Read name selection) is same =
      object_told name (read (λ key. false) selection) same (read_told (λ key. false) selection)
  body_told r (Compare name a) is same =
      object_told name (compare (λ key. false) a) same (λ e. told_if (has_type e.entry a.kind) _ _ tt tt)
  body_told r (ListBelow name) is same =
      told_if (is_there_or_root t.entries (key_of name)) _ _ tt (inr (ap (matched t.entries) same))
  body_told r (Search base subset f selection) is same =
      told_if (is_there_or_root t.entries (key_of base)) _ _ tt (inr (ap (matched t.entries) same))
  body_told r (AddEntry name attributes) is same = applied_told r (ap (λ (b : Body). key_of (target_of b)) is ∙ same)
  body_told r (RemoveEntry name) is same = applied_told r (ap (λ (b : Body). key_of (target_of b)) is ∙ same)
  body_told r (ModifyEntry name changes) is same = applied_told r (ap (λ (b : Body). key_of (target_of b)) is ∙ same)
  body_told r (ModifyDn name rdn drops) is same = applied_told r (ap (λ (b : Body). key_of (target_of b)) is ∙ same)

  asked_told : (r : Request) → key_of (target_of r.body) ≡ key → IsTold (ask t r)
  asked_told r same = go (fault_of r.body) refl
    where
      by : Option DirError → Told
      by (Some x) = Refuses x
      by None = ask_body (λ key. false) t r r.body

      go : (x : Option DirError) → fault_of r.body ≡ x → IsTold (by x)
      go (Some x) e = fault_meant r.body x e
      go None e = body_told r r.body refl same

pub errors_are_trees : ErrorsAreTrees
errors_are_trees t r x e =
    subst (λ (y : Told). IsTold t (key_of (target_of r.body)) y) e (asked_told t (key_of (target_of r.body)) r refl)

pub shortly_told : ShortlyTold
shortly_told t r m e = elim (errors_are_trees t r (NoSuchObject m) e) [
  | inl none ↦ subst (λ (n : Name). length n ≤ length (target_of r.body)) (sym none) (omega arith)
  | inr low ↦
      let short = matched_short t.entries (key_of (target_of r.body)) in
      let same : length (key_of (target_of r.body)) ≡ length (target_of r.body) = key_length (target_of r.body) in
      let long : length m ≡ length (matched t.entries (key_of (target_of r.body))) = ap length low in
      omega (arith, short, same, long)
]

-- so it is an entry, where it isn't the root
pub entry_is_there : (t : Tree) (r : Request) (m : Name) → ask t r ≡ Refuses (NoSuchObject m) → is_empty m ≡ false → (e : Named) × (entry_at t.entries (key_of m) ≡ Some e)
entry_is_there t r m e full = elim (errors_are_trees t r (NoSuchObject m) e) [
  | inl none ↦ (let z : true ≡ false = sym (ap is_empty none) ∙ full in cc)
  | inr low ↦ by (lowest t.entries (key_of (target_of r.body))) (lowest_right t.entries (key_of (target_of r.body))) low
]
  where
    found : (x : Named) → In x t.entries → (o : Option Named) → entry_at t.entries (key_at x) ≡ o → (e : Named) × (entry_at t.entries (key_at x) ≡ Some e)
    found x i None q = absurd (none_found t.entries (key_at x) q x i refl)
    found x i (Some y) q = (y, q)

    by : (o : Option Named) → IsLowest t.entries (key_of (target_of r.body)) (length (key_of (target_of r.body))) o → m ≡ in_option [] (λ e. e.name) o
        → (e : Named) × (entry_at t.entries (key_of m) ≡ Some e)
    by None h same = (let z : true ≡ false = sym (ap is_empty same) ∙ full in cc)
    by (Some x) h same =
        subst (λ (n : Name). (e : Named) × (entry_at t.entries (key_of n) ≡ Some e)) (sym same) (found x h.0 (entry_at t.entries (key_at x)) refl)

-- What an update makes of a list of entries in order.
use Rattle.std.proofs.Common.{◌≡◌, ◌≢◌, ◌<◌, Bool, true, not, ◌&&◌, ◌↔◌, inl, inr, List, [], ◌∷◌, ◌++◌, map, length, take, refl, sym, ap, subst, ◌∙◌, Ok, if◌then◌else◌}
use Rattle.std.specs.Prelude.{⊤}
use Rattle.std.specs.List.{filter}
use Rattle.x5_model.specs.Words.{ascending}
use Rattle.x5_model.specs.Members.{In, Once, here, there}
use Rattle.x5_model.specs.Keys.{Key, IsPrefix, parent, same_key, is_prefix, key_below}
use Rattle.x5_model.specs.Values.{Rdn, Name, key_of, last_rdn}
use Rattle.x5_model.specs.Entries.{Entry, Named}
use Rattle.x5_model.specs.Changes.{ChangedEntry, modified, renamed}
use Rattle.x5_model.specs.Requests.{Attribute, Change, Body, Read, Compare, ListBelow, Search, AddEntry, RemoveEntry, ModifyEntry, ModifyDn}
use Rattle.x5_model.proofs.KeyLaws.{key_decides}
use Rattle.x5_model.proofs.Lists.{true_or_false, in_first, in_left, in_right, in_either, in_map, of_map, in_filter, of_filter}
use Rattle.x5_model.proofs.Prefixes.{prefix_decides, prefix_itself}
use Rattle.x5_model.proofs.Ascending.{filter_ascending, in_sorted, of_sorted}
use Rattle.x5_model.proofs.Decide.{once_decides, not_decides}
use Rattle.x5_model_tree.specs.Tree.{key_at, keys_of, named_below, sorted_entries}
use Rattle.x5_model_tree.specs.Apply.{replace_at}
use Rattle.x5_model_tree.proofs.Order.{named_chain, union_in_order}
use Rattle.x5_model_theory.specs.Changing.{moved}
use Rattle.x5_model_theory.proofs.Deciding.{dec_key}
use Rattle.x5_model_updates.specs.Afterwards.{IsEntryAfter, IsKeyAfter, new_entry, new_key, name_after}
use Rattle.x5_model_updates.proofs.Lookups.{OneEach, one_each, once_keys}
use Rattle.x5_model_updates.proofs.Outcomes.{moved_entry}
use Rattle.x5_model_updates.proofs.Renaming.{new_entry_key, name_after_key, moved_itself, moved_below, moved_apart, moved_goes, moved_stays, moved_key}

-- exactly the entries afterwards; and in order
abbrev pub Members : List Named → Body → List Named → Type 0
Members before body us = (e : Named) → In e us ↔ IsEntryAfter before body e

abbrev pub Gives : List Named → Body → List Named → Type 0
Gives before body us = (ascending named_below us ≡ true) × Members before body us

-- ---- keys that come once

once_end : {A : Type 0} (xs : List A) (y : A) → Once xs → (In y xs → ⊥) → Once (xs ++ y ∷ [])
once_end [] y h none = ((λ i. elim i [ ]), tt)
once_end {A} (x ∷ xs) y h none =
    ((λ i. elim (in_either x xs (y ∷ []) i) [ inl j ↦ h.0 j | inr j ↦ elim (in_first x y [] j) [ inl e ↦ none (subst (λ (z : A). In z (x ∷ xs)) e here) | inr l ↦ elim l [ ] ] ]), once_end xs y h.1 (λ i. none (there i)))

once_image : (f : Named → Named) (xs : List Named) → Once (keys_of xs) → ((x y : Named) → In x xs → In y xs → key_at (f x) ≡ key_at (f y) → key_at x ≡ key_at y) → Once (keys_of (map f xs))
once_image f [] h one = tt
once_image f (x ∷ xs) h one = (
  (λ i.
      let a = of_map key_at (key_at (f x)) (map f xs) i in
      let b = of_map f a.0 xs a.1 in
      let same : key_at x ≡ key_at b.0 = one x b.0 here (there b.1) (a.2 ∙ ap key_at b.2) in
      h.0 (subst (λ (k : Key). In k (keys_of xs)) (sym same) (in_map key_at b.0 xs b.1))),
  once_image f xs h.1 (λ y z i j. one y z (there i) (there j)),
)

sorted_in_order : (xs : List Named) → Once (keys_of xs) → ascending named_below (sorted_entries xs) ≡ true
sorted_in_order xs h = union_in_order xs ((once_decides same_key key_decides (keys_of xs)).1 h)

keys_end : (xs : List Named) (y : Named) → keys_of (xs ++ y ∷ []) ≡ keys_of xs ++ key_at y ∷ []
keys_end [] y = refl
keys_end (x ∷ xs) y = ap (λ (ks : List Key). key_at x ∷ ks) (keys_end xs y)

-- what keeps keys keeps the order
map_ascending : (f : Named → Named) → ((x : Named) → key_at (f x) ≡ key_at x) → (xs : List Named) → ascending named_below (map f xs) ≡ ascending named_below xs
map_ascending f same [] = refl
map_ascending f same (x ∷ []) = refl
map_ascending f same (x ∷ y ∷ ys) = λ i. key_below (same x i) (same y i) && map_ascending f same (y ∷ ys) i

-- ---- addEntry

pub add_members : (es : List Named) (name : Name) (attributes : List Attribute) (above : Named) → OneEach es → In above es → key_at above ≡ parent (key_of name)
    → Members es (AddEntry name attributes) (sorted_entries (es ++ new_entry above name attributes ∷ []))
add_members es name attributes above each i same e = (
  λ j. elim (in_either e es (new_entry above name attributes ∷ []) (of_sorted named_below e (es ++ new_entry above name attributes ∷ []) j)) [
    | inl l ↦ inl l
    | inr l ↦ elim (in_first e (new_entry above name attributes) [] l) [ inl q ↦ inr (above, i, same, q) | inr n ↦ elim n [ ] ]
  ],
  λ a. in_sorted named_below e (es ++ new_entry above name attributes ∷ []) (back a),
)
  where
    back : IsEntryAfter es (AddEntry name attributes) e → In e (es ++ new_entry above name attributes ∷ [])
    back (inl l) = in_left e es (new_entry above name attributes ∷ []) l
    back (inr w) =
        let one : w.0 ≡ above = each w.0 above w.1 i (w.2 ∙ sym same) in
        in_right e es (new_entry above name attributes ∷ []) (subst (λ (x : Named). In e (x ∷ [])) (w.3 ∙ ap (λ (x : Named). new_entry x name attributes) one) here)

pub add_listed : (es : List Named) (name : Name) (attributes : List Attribute) (above : Named) → ascending named_below es ≡ true → In above es → key_at above ≡ parent (key_of name)
    → key_at (new_entry above name attributes) ≡ key_of name → (In (key_of name) (keys_of es) → ⊥) → Gives es (AddEntry name attributes) (sorted_entries (es ++ new_entry above name attributes ∷ []))
add_listed es name attributes above order i same key fresh = (
  sorted_in_order (es ++ new_entry above name attributes ∷ [])
      (subst Once (sym (keys_end es (new_entry above name attributes))) (once_end (keys_of es) (key_at (new_entry above name attributes)) (once_keys es order) (λ j. fresh (subst (λ (k : Key). In k (keys_of es)) key j)))),
  add_members es name attributes above (one_each es order) i same,
)

-- ---- removeEntry

pub remove_members : (es : List Named) (name : Name) → Members es (RemoveEntry name) (filter (λ e. not (same_key (key_at e) (key_of name))) es)
remove_members es name e = (
  λ j. (let w = of_filter (λ (x : Named). not (same_key (key_at x) (key_of name))) e es j in (w.0, decides.0 w.1)),
  λ w. in_filter (λ (x : Named). not (same_key (key_at x) (key_of name))) e es w.0 (decides.1 w.1),
)
  where
    decides : (not (same_key (key_at e) (key_of name)) ≡ true → key_at e ≢ key_of name) × (key_at e ≢ key_of name → not (same_key (key_at e) (key_of name)) ≡ true)
    decides = not_decides {P = key_at e ≡ key_of name} (same_key (key_at e) (key_of name)) (key_decides (key_at e) (key_of name))

pub remove_listed : (es : List Named) (name : Name) → ascending named_below es ≡ true → Gives es (RemoveEntry name) (filter (λ e. not (same_key (key_at e) (key_of name))) es)
remove_listed es name order = (filter_ascending named_below named_chain (λ (e : Named). not (same_key (key_at e) (key_of name))) es order, remove_members es name)

-- ---- modifyEntry

abbrev ok_entry : Entry → ChangedEntry
ok_entry e = Ok e

abbrev replaced : Key → Named → Named → Named
replaced key new e = if same_key (key_at e) key then new else e

abbrev replaced_by : Named → Named → Bool → Named
replaced_by new e b = if b then new else e

replaced_there : (key : Key) (new e : Named) → key_at e ≡ key → replaced key new e ≡ new
replaced_there key new e s = ap (replaced_by new e) ((key_decides (key_at e) key).1 s)

replaced_other : (key : Key) (new e : Named) → key_at e ≢ key → replaced key new e ≡ e
replaced_other key new e h =
    elim (true_or_false (same_key (key_at e) key)) [ inl t ↦ absurd (h ((key_decides (key_at e) key).0 t)) | inr f ↦ ap (replaced_by new e) f ]

replaced_key : (key : Key) (new e : Named) → key_at new ≡ key → key_at (replaced key new e) ≡ key_at e
replaced_key key new e k =
    elim (dec_key (key_at e) key) [ inl s ↦ ap key_at (replaced_there key new e s) ∙ k ∙ sym s | inr h ↦ ap key_at (replaced_other key new e h) ]

ok_same : (a b : Entry) → ok_entry a ≡ ok_entry b → a ≡ b
ok_same a b e = cc

pub modify_members : (es : List Named) (name : Name) (changes : List Change) (at : Named) (new : Entry) → OneEach es → In at es → key_at at ≡ key_of name → modified (last_rdn name) changes at.entry ≡ Ok new
    → Members es (ModifyEntry name changes) (replace_at (key_of name) (record at { entry = new }) es)
modify_members es name changes at new each i same h e = (
  λ j. (let w = of_map (replaced (key_of name) (record at { entry = new })) e es j in
      elim (dec_key (key_at w.0) (key_of name)) [
        | inl s ↦ inr (at, new, i, same, h, w.2 ∙ replaced_there (key_of name) (record at { entry = new }) w.0 s)
        | inr n ↦
            let q : e ≡ w.0 = w.2 ∙ replaced_other (key_of name) (record at { entry = new }) w.0 n in
            inl (subst (λ (x : Named). In x es) (sym q) w.1, λ s. n (ap key_at (sym q) ∙ s))
      ]),
  back,
)
  where
    back : IsEntryAfter es (ModifyEntry name changes) e → In e (map (replaced (key_of name) (record at { entry = new })) es)
    back (inl w) = subst (λ (x : Named). In x (map (replaced (key_of name) (record at { entry = new })) es)) (replaced_other (key_of name) (record at { entry = new }) e w.1) (in_map (replaced (key_of name) (record at { entry = new })) e es w.0)
    back (inr w) =
        let one : w.0 ≡ at = each w.0 at w.2 i (w.3 ∙ sym same) in
        let entry : w.1 ≡ new = ok_same w.1 new (sym w.4 ∙ ap (λ (x : Named). modified (last_rdn name) changes x.entry) one ∙ h) in
        let q : e ≡ record at { entry = new } = w.5 ∙ ap (λ (x : Named). record x { entry = w.1 }) one ∙ ap (λ (x : Entry). record at { entry = x }) entry in
        subst (λ (x : Named). In x (map (replaced (key_of name) (record at { entry = new })) es)) (replaced_there (key_of name) (record at { entry = new }) at same ∙ sym q) (in_map (replaced (key_of name) (record at { entry = new })) at es i)

pub modify_listed : (es : List Named) (name : Name) (changes : List Change) (at : Named) (new : Entry) → ascending named_below es ≡ true → In at es → key_at at ≡ key_of name → modified (last_rdn name) changes at.entry ≡ Ok new
    → Gives es (ModifyEntry name changes) (replace_at (key_of name) (record at { entry = new }) es)
modify_listed es name changes at new order i same h = (
  map_ascending (replaced (key_of name) (record at { entry = new })) (λ e. replaced_key (key_of name) (record at { entry = new }) e same) es ∙ order,
  modify_members es name changes at new (one_each es order) i same h,
)

-- ---- modifyDN

pub rename_members : (es : List Named) (name : Name) (rdn : Rdn) (drops : Bool) (at : Named) → OneEach es → In at es → key_at at ≡ key_of name
    → Members es (ModifyDn name rdn drops) (sorted_entries (map (moved_entry name rdn (renamed (last_rdn name) rdn drops at.entry)) es))
rename_members es name rdn drops at each i same e = (
  λ j. (let w = of_map (moved_entry name rdn (renamed (last_rdn name) rdn drops at.entry)) e es (of_sorted named_below e (map (moved_entry name rdn (renamed (last_rdn name) rdn drops at.entry)) es) j) in there_to w.0 w.1 w.2),
  λ a. in_sorted named_below e (map (moved_entry name rdn (renamed (last_rdn name) rdn drops at.entry)) es) (back a),
)
  where
    there_to : (x : Named) → In x es → e ≡ moved_entry name rdn (renamed (last_rdn name) rdn drops at.entry) x → IsEntryAfter es (ModifyDn name rdn drops) e
    there_to x j q =
        elim (true_or_false (is_prefix (key_of name) (key_at x))) [
          | inr n ↦
              let off : IsPrefix (key_of name) (key_at x) → ⊥ = (λ h. let t : is_prefix (key_of name) (key_at x) ≡ true = (prefix_decides (key_of name) (key_at x)).1 h in cc) in
              let s : e ≡ x = q ∙ moved_apart name rdn (renamed (last_rdn name) rdn drops at.entry) x off in
              inl (subst (λ (y : Named). In y es) (sym s) j, λ h. off (subst (λ (y : Named). IsPrefix (key_of name) (key_at y)) s h))
          | inl t ↦ elim (dec_key (key_at x) (key_of name)) [
            | inl s ↦
                let one : x ≡ at = each x at j i (s ∙ sym same) in
                inr (inl (x, j, s, q ∙ moved_itself name rdn (renamed (last_rdn name) rdn drops at.entry) x s ∙ ap (λ (y : Named). record { name = name_after name rdn x; entry = renamed (last_rdn name) rdn drops y.entry }) (sym one)))
            | inr o ↦ inr (inr (x, j, o, (prefix_decides (key_of name) (key_at x)).0 t, q ∙ moved_below name rdn (renamed (last_rdn name) rdn drops at.entry) x o ((prefix_decides (key_of name) (key_at x)).0 t)))
          ]
        ]

    from : (x : Named) → In x es → e ≡ moved_entry name rdn (renamed (last_rdn name) rdn drops at.entry) x → In e (map (moved_entry name rdn (renamed (last_rdn name) rdn drops at.entry)) es)
    from x j q = subst (λ (y : Named). In y (map (moved_entry name rdn (renamed (last_rdn name) rdn drops at.entry)) es)) (sym q) (in_map (moved_entry name rdn (renamed (last_rdn name) rdn drops at.entry)) x es j)

    back : IsEntryAfter es (ModifyDn name rdn drops) e → In e (map (moved_entry name rdn (renamed (last_rdn name) rdn drops at.entry)) es)
    back (inl w) = from e w.0 (sym (moved_apart name rdn (renamed (last_rdn name) rdn drops at.entry) e w.1))
    back (inr (inl w)) =
        let one : w.0 ≡ at = each w.0 at w.1 i (w.2 ∙ sym same) in
        from w.0 w.1 (w.3 ∙ ap (λ (y : Named). record { name = name_after name rdn w.0; entry = renamed (last_rdn name) rdn drops y.entry }) one ∙ sym (moved_itself name rdn (renamed (last_rdn name) rdn drops at.entry) w.0 w.2))
    back (inr (inr w)) = from w.0 w.1 (w.4 ∙ sym (moved_below name rdn (renamed (last_rdn name) rdn drops at.entry) w.0 w.2 w.3))

pub rename_listed : (es : List Named) (name : Name) (rdn : Rdn) (drops : Bool) (at : Named) → ascending named_below es ≡ true → 0 < length name → In at es → key_at at ≡ key_of name
    → ((x y : Named) → In x es → In y es → moved (key_of name) (new_key name rdn) (key_at x) ≡ moved (key_of name) (new_key name rdn) (key_at y) → key_at x ≡ key_at y)
    → Gives es (ModifyDn name rdn drops) (sorted_entries (map (moved_entry name rdn (renamed (last_rdn name) rdn drops at.entry)) es))
rename_listed es name rdn drops at order full i same apart = (
  sorted_in_order (map (moved_entry name rdn (renamed (last_rdn name) rdn drops at.entry)) es)
      (once_image (moved_entry name rdn (renamed (last_rdn name) rdn drops at.entry)) es (once_keys es order)
      (λ x y j l q. apart x y j l (sym (moved_key name rdn (renamed (last_rdn name) rdn drops at.entry) x full) ∙ q ∙ moved_key name rdn (renamed (last_rdn name) rdn drops at.entry) y full))),
  rename_members es name rdn drops at (one_each es order) i same,
)

-- ---- keys

-- what makes the entries afterwards, as far as their keys go
abbrev pub KeyFacts : List Named → Body → Type 0
KeyFacts es (AddEntry name attributes) = (above : Named) × In above es × (key_at above ≡ parent (key_of name)) × (0 < length name)
KeyFacts es (RemoveEntry name) = ⊤
KeyFacts es (ModifyEntry name changes) = (at : Named) × (new : Entry) × In at es × (key_at at ≡ key_of name) × (modified (last_rdn name) changes at.entry ≡ Ok new)
KeyFacts es (ModifyDn name rdn drops) = 0 < length name
KeyFacts es (Read name selection) = ⊤
KeyFacts es (Compare name assertion) = ⊤
KeyFacts es (ListBelow name) = ⊤
KeyFacts es (Search base subset f selection) = ⊤

module _ (es us : List Named) where
  abbrev Reaches : Body → Key → Type 0
  Reaches body x = (e : Named) × IsEntryAfter es body e × (x ≡ key_at e)

  key_to : (body : Body) (x : Key) → KeyFacts es body → Reaches body x → IsKeyAfter (keys_of es) body x
  key_to (Read name selection) x f w = subst (λ (y : Key). In y (keys_of es)) (sym w.2) (in_map key_at w.0 es w.1)
  key_to (Compare name assertion) x f w = subst (λ (y : Key). In y (keys_of es)) (sym w.2) (in_map key_at w.0 es w.1)
  key_to (ListBelow name) x f w = subst (λ (y : Key). In y (keys_of es)) (sym w.2) (in_map key_at w.0 es w.1)
  key_to (Search base subset filter selection) x f w = subst (λ (y : Key). In y (keys_of es)) (sym w.2) (in_map key_at w.0 es w.1)
  key_to (AddEntry name attributes) x f w =
      elim w.1 [
        | inl j ↦ inl (subst (λ (y : Key). In y (keys_of es)) (sym w.2) (in_map key_at w.0 es j))
        | inr v ↦ inr (w.2 ∙ ap key_at v.3 ∙ new_entry_key v.0 name attributes f.3 v.2)
      ]
  key_to (RemoveEntry name) x f w = (subst (λ (y : Key). In y (keys_of es)) (sym w.2) (in_map key_at w.0 es w.1.0), λ s. w.1.1 (sym w.2 ∙ s))
  key_to (ModifyEntry name changes) x f w =
      elim w.1 [
        | inl j ↦ subst (λ (y : Key). In y (keys_of es)) (sym w.2) (in_map key_at w.0 es j.0)
        | inr v ↦ subst (λ (y : Key). In y (keys_of es)) (sym (w.2 ∙ ap key_at v.5)) (in_map key_at v.0 es v.2)
      ]
  key_to (ModifyDn name rdn drops) x f w =
      elim w.1 [
        | inl j ↦ (key_at w.0, in_map key_at w.0 es j.0, w.2 ∙ sym (moved_stays (key_of name) (new_key name rdn) (key_at w.0) j.1))
        | inr s ↦ elim s [
          | inl v ↦
              let on : IsPrefix (key_of name) (key_at v.0) = subst (λ (y : Key). IsPrefix (key_of name) y) (sym v.2) (prefix_itself (key_of name)) in
              (key_at v.0, in_map key_at v.0 es v.1, w.2 ∙ ap key_at v.3 ∙ name_after_key name rdn v.0 f on ∙ sym (moved_goes (key_of name) (new_key name rdn) (key_at v.0) on))
          | inr v ↦ (key_at v.0, in_map key_at v.0 es v.1, w.2 ∙ ap key_at v.4 ∙ name_after_key name rdn v.0 f v.3 ∙ sym (moved_goes (key_of name) (new_key name rdn) (key_at v.0) v.3))
        ]
      ]

  of_key : (x : Key) → In x (keys_of es) → (e : Named) × In e es × (x ≡ key_at e)
  of_key x i = of_map key_at x es i

  key_from : (body : Body) (x : Key) → KeyFacts es body → IsKeyAfter (keys_of es) body x → Reaches body x
  key_from (Read name selection) x f i = of_key x i
  key_from (Compare name assertion) x f i = of_key x i
  key_from (ListBelow name) x f i = of_key x i
  key_from (Search base subset filter selection) x f i = of_key x i
  key_from (AddEntry name attributes) x f (inl i) = (let w = of_key x i in (w.0, inl w.1, w.2))
  key_from (AddEntry name attributes) x f (inr s) = (new_entry f.0 name attributes, inr (f.0, f.1, f.2, refl), s ∙ sym (new_entry_key f.0 name attributes f.3 f.2))
  key_from (RemoveEntry name) x f i = (let w = of_key x i.0 in (w.0, (w.1, λ s. i.1 (w.2 ∙ s)), w.2))
  key_from (ModifyEntry name changes) x f i =
      let w = of_key x i in
      elim (dec_key (key_at w.0) (key_of name)) [
        | inl s ↦ (record f.0 { entry = f.1 }, inr (f.0, f.1, f.2, f.3, f.4, refl), w.2 ∙ s ∙ sym f.3)
        | inr o ↦ (w.0, inl (w.1, o), w.2)
      ]
  key_from (ModifyDn name rdn drops) x f i =
      let w = of_key i.0 i.1 in
      elim (dec_key (take (length (key_of name)) (key_at w.0)) (key_of name)) [
        | inr off ↦ (w.0, inl (w.1, off), i.2 ∙ ap (moved (key_of name) (new_key name rdn)) w.2 ∙ moved_stays (key_of name) (new_key name rdn) (key_at w.0) off)
        | inl on ↦
            let q : x ≡ key_of (name_after name rdn w.0) = i.2 ∙ ap (moved (key_of name) (new_key name rdn)) w.2 ∙ moved_goes (key_of name) (new_key name rdn) (key_at w.0) on ∙ sym (name_after_key name rdn w.0 f on) in
            elim (dec_key (key_at w.0) (key_of name)) [
              | inl s ↦ (record { name = name_after name rdn w.0; entry = renamed (last_rdn name) rdn drops w.0.entry }, inr (inl (w.0, w.1, s, refl)), q)
              | inr o ↦ (record w.0 { name = name_after name rdn w.0 }, inr (inr (w.0, w.1, o, on, refl)), q)
            ]
      ]

  pub keys_listed : (body : Body) (x : Key) → KeyFacts es body → Gives es body us → (In x (keys_of us) ↔ IsKeyAfter (keys_of es) body x)
  keys_listed body x f g = (
    λ i. (let e = of_map key_at x us i in key_to body x f (e.0, (g.1 e.0).0 e.1, e.2)),
    λ i. (let e = key_from body x f i in subst (λ (y : Key). In y (keys_of us)) (sym e.2) (in_map key_at e.0 us ((g.1 e.0).1 e.1))),
  )

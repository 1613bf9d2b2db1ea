-- What each update gives, case by case.
use Rattle.std.proofs.Common.{◌≡◌, ℕ, Bool, true, false, not, ◌&&◌, ◌⊎◌, inl, inr, List, [], ◌∷◌, ◌++◌, map, refl, sym, ap, ◌∙◌, Option, Some, None, Result, Ok, Err, if◌then◌else◌}
use Rattle.std.specs.List.{filter}
use Rattle.x5_model.specs.Keys.{Key, same_key, is_prefix, parent}
use Rattle.x5_model.specs.Values.{Known, Rdn, Name, key_of, last_rdn}
use Rattle.x5_model.specs.Entries.{Entry, Named}
use Rattle.x5_model.specs.Attributes.{doubled}
use Rattle.x5_model.specs.Changes.{ChangedEntry, modified, renamed, single_valued}
use Rattle.x5_model.specs.Requests.{Attribute, Change, Body, Request}
use Rattle.x5_model.specs.Answers.{DirError, AttributeProblem, UpdateProblem}
use Rattle.x5_model.specs.Problems.{constraint_violation, entry_already_exists, affects_multiple_dsas, not_allowed_on_non_leaf}
use Rattle.x5_model.specs.Statics.{fault_of}
use Rattle.x5_model.proofs.Lists.{true_or_false}
use Rattle.x5_model_tree.specs.Tree.{Tree, key_at, entry_at, has_below, sorted_entries}
use Rattle.x5_model_tree.specs.Apply.{Ground, UpdatedEntries, Applied, absent, above_pin, is_taken, at_entry, replace_at, add, remove, modify, rename, update, apply_over, apply, ground_of}
use Rattle.x5_model_updates.specs.Afterwards.{new_entry, new_key, name_after}

-- ---- at the entry of a key

abbrev picked : DirError → (Named → UpdatedEntries) → Option Named → UpdatedEntries
picked x f None = Err x
picked x f (Some e) = f e

pub at_none : (g : Ground) (key : Key) (f : Named → UpdatedEntries) → entry_at g.entries key ≡ None → at_entry g key f ≡ Err (absent g key)
at_none g key f q = ap (λ (o : Option Named). picked (absent g key) f o) q

pub at_some : (g : Ground) (key : Key) (f : Named → UpdatedEntries) (e : Named) → entry_at g.entries key ≡ Some e → at_entry g key f ≡ f e
at_some g key f e q = ap (λ (o : Option Named). picked (absent g key) f o) q

-- ---- addEntry

abbrev put_below : Ground → Name → List Attribute → Named → UpdatedEntries
put_below g name attributes above =
    if is_taken g (key_of name) then Err (UpdateProblem entry_already_exists) else Ok (sorted_entries (g.entries ++ new_entry above name attributes ∷ []))

pub add_none : (g : Ground) (name : Name) (attributes : List Attribute) → entry_at g.entries (parent (key_of name)) ≡ None → add g name attributes ≡ Err (absent g (parent (key_of name)))
add_none g name attributes q = at_none g (parent (key_of name)) (put_below g name attributes) q

pub add_taken : (g : Ground) (name : Name) (attributes : List Attribute) (above : Named) → entry_at g.entries (parent (key_of name)) ≡ Some above → is_taken g (key_of name) ≡ true
    → add g name attributes ≡ Err (UpdateProblem entry_already_exists)
add_taken g name attributes above q t =
    at_some g (parent (key_of name)) (put_below g name attributes) above q
    ∙ ap (λ (b : Bool). if b then Err (UpdateProblem entry_already_exists) else Ok (sorted_entries (g.entries ++ new_entry above name attributes ∷ []))) t

pub add_free : (g : Ground) (name : Name) (attributes : List Attribute) (above : Named) → entry_at g.entries (parent (key_of name)) ≡ Some above → is_taken g (key_of name) ≡ false
    → add g name attributes ≡ Ok (sorted_entries (g.entries ++ new_entry above name attributes ∷ []))
add_free g name attributes above q t =
    at_some g (parent (key_of name)) (put_below g name attributes) above q
    ∙ ap (λ (b : Bool). if b then Err (UpdateProblem entry_already_exists) else Ok (sorted_entries (g.entries ++ new_entry above name attributes ∷ []))) t

-- ---- removeEntry

abbrev left_out : Ground → Name → List Named
left_out g name = filter (λ e. not (same_key (key_at e) (key_of name))) g.entries

abbrev off_leaf : Ground → Name → Bool → UpdatedEntries
off_leaf g name below = if below then Err (UpdateProblem not_allowed_on_non_leaf) else Ok (left_out g name)

abbrev off : Ground → Name → Bool → Bool → UpdatedEntries
off g name above below = if above then Err (UpdateProblem affects_multiple_dsas) else off_leaf g name below

pub remove_none : (g : Ground) (name : Name) → entry_at g.entries (key_of name) ≡ None → remove g name ≡ Err (absent g (key_of name))
remove_none g name q = at_none g (key_of name) (λ e. off g name (above_pin g (key_of name)) (has_below g.entries (key_of name))) q

pub remove_some : (g : Ground) (name : Name) (e : Named) (a b : Bool) → entry_at g.entries (key_of name) ≡ Some e → above_pin g (key_of name) ≡ a → has_below g.entries (key_of name) ≡ b → remove g name ≡ off g name a b
remove_some g name e a b q h l =
    at_some g (key_of name) (λ e. off g name (above_pin g (key_of name)) (has_below g.entries (key_of name))) e q
    ∙ ap (λ (x : Bool). off g name x (has_below g.entries (key_of name))) h
    ∙ ap (λ (y : Bool). off g name a y) l

-- ---- modifyEntry

abbrev put_changed : Ground → Name → Named → ChangedEntry → UpdatedEntries
put_changed g name e (Ok new) = Ok (replace_at (key_of name) (record e { entry = new }) g.entries)
put_changed g name e (Err x) = Err x

pub modify_none : (g : Ground) (name : Name) (changes : List Change) → entry_at g.entries (key_of name) ≡ None → modify g name changes ≡ Err (absent g (key_of name))
modify_none g name changes q = at_none g (key_of name) (λ e. put_changed g name e (modified (last_rdn name) changes e.entry)) q

pub modify_some : (g : Ground) (name : Name) (changes : List Change) (e : Named) (c : ChangedEntry) → entry_at g.entries (key_of name) ≡ Some e → modified (last_rdn name) changes e.entry ≡ c
    → modify g name changes ≡ put_changed g name e c
modify_some g name changes e c q h =
    at_some g (key_of name) (λ e. put_changed g name e (modified (last_rdn name) changes e.entry)) e q
    ∙ ap (λ (x : ChangedEntry). put_changed g name e x) h

-- ---- modifyDN

abbrev pub moved_entry : Name → Rdn → Entry → Named → Named
moved_entry name rdn new e =
    if same_key (key_at e) (key_of name) then record { name = name_after name rdn e; entry = new }
    else (if is_prefix (key_of name) (key_at e) then record e { name = name_after name rdn e } else e)

abbrev go_free : Ground → Name → Rdn → Entry → Bool → UpdatedEntries
go_free g name rdn new taken =
    if taken then Err (UpdateProblem entry_already_exists) else Ok (sorted_entries (map (moved_entry name rdn new) g.entries))

abbrev pub clashes : Ground → Name → Rdn → Bool
clashes g name rdn = not (same_key (new_key name rdn) (key_of name)) && is_taken g (new_key name rdn)

abbrev go_changed : Ground → Name → Rdn → Bool → ChangedEntry → UpdatedEntries
go_changed g name rdn taken (Err x) = Err x
go_changed g name rdn taken (Ok new) = go_free g name rdn new taken

abbrev go_below : Ground → Name → Rdn → Bool → ChangedEntry → Bool → UpdatedEntries
go_below g name rdn above c taken = if above then Err (UpdateProblem affects_multiple_dsas) else go_changed g name rdn taken c

pub rename_none : (g : Ground) (name : Name) (rdn : Rdn) (drops : Bool) → entry_at g.entries (key_of name) ≡ None → rename g name rdn drops ≡ Err (absent g (key_of name))
rename_none g name rdn drops q =
    at_none g (key_of name) (λ e. go_below g name rdn (above_pin g (key_of name)) (single_valued (renamed (last_rdn name) rdn drops e.entry)) (clashes g name rdn)) q

pub rename_some : (g : Ground) (name : Name) (rdn : Rdn) (drops : Bool) (e : Named) (a : Bool) (c : ChangedEntry) (b : Bool) → entry_at g.entries (key_of name) ≡ Some e → above_pin g (key_of name) ≡ a
    → single_valued (renamed (last_rdn name) rdn drops e.entry) ≡ c → clashes g name rdn ≡ b → rename g name rdn drops ≡ go_below g name rdn a c b
rename_some g name rdn drops e a c b q h i t =
    at_some g (key_of name) (λ e. go_below g name rdn (above_pin g (key_of name)) (single_valued (renamed (last_rdn name) rdn drops e.entry)) (clashes g name rdn)) e q
    ∙ ap (λ (x : Bool). go_below g name rdn x (single_valued (renamed (last_rdn name) rdn drops e.entry)) (clashes g name rdn)) h
    ∙ ap (λ (x : ChangedEntry). go_below g name rdn a x (clashes g name rdn)) i
    ∙ ap (λ (x : Bool). go_below g name rdn a c x) t

abbrev one_of : Entry → Option ℕ → ChangedEntry
one_of e None = Ok e
one_of e (Some kind) = Err (AttributeProblem constraint_violation (Known kind))

-- what isn't doubled is kept as it is
pub single_is : (e new : Entry) → single_valued e ≡ Ok new → e ≡ new
single_is e new h = by (doubled e) h
  where
    by : (o : Option ℕ) → one_of e o ≡ Ok new → e ≡ new
    by None q = cc
    by (Some kind) q = cc

-- ---- any update

pub none_or_some : {A : Type 0} (o : Option A) → (o ≡ None) ⊎ ((x : A) × (o ≡ Some x))
none_or_some None = inl refl
none_or_some (Some x) = inr (x, refl)

pub ok_or_err : {A B : Type 0} (r : Result A B) → ((x : A) × (r ≡ Ok x)) ⊎ ((y : B) × (r ≡ Err y))
ok_or_err (Ok x) = inl (x, refl)
ok_or_err (Err y) = inr (y, refl)

abbrev refused_first : Ground → Body → Option DirError → UpdatedEntries
refused_first g body (Some x) = Err x
refused_first g body None = update g body

pub over_fault : (g : Ground) (body : Body) (x : DirError) → fault_of body ≡ Some x → apply_over g body ≡ Err x
over_fault g body x q = ap (λ (o : Option DirError). refused_first g body o) q

pub over_update : (g : Ground) (body : Body) → fault_of body ≡ None → apply_over g body ≡ update g body
over_update g body q = ap (λ (o : Option DirError). refused_first g body o) q

-- what one ground refuses the other does, if that holds after the static refusals
pub refused_over : (g h : Ground) (body : Body) (x : DirError) → (update g body ≡ Err x → update h body ≡ Err x) → apply_over g body ≡ Err x → apply_over h body ≡ Err x
refused_over g h body x f q =
    elim (none_or_some (fault_of body)) [
      | inl n ↦ over_update h body n ∙ f (sym (over_update g body n) ∙ q)
      | inr s ↦ over_fault h body s.0 s.1 ∙ sym (over_fault g body s.0 s.1) ∙ q
    ]

-- what is accepted was refused by no fault
pub accepted_over : (g : Ground) (body : Body) (es : List Named) → apply_over g body ≡ Ok es → (fault_of body ≡ None) × (update g body ≡ Ok es)
accepted_over g body es q =
    elim (none_or_some (fault_of body)) [
      | inl n ↦ (n, sym (over_update g body n) ∙ q)
      | inr s ↦ (let r : apply_over g body ≡ Err s.0 = over_fault g body s.0 s.1 in cc)
    ]

-- ---- the tree

abbrev as_tree : Tree → UpdatedEntries → Applied
as_tree t (Ok entries) = Ok (record t { entries = entries })
as_tree t (Err x) = Err x

abbrev ok_tree : Tree → Applied
ok_tree t = Ok t

abbrev ok_entries : List Named → UpdatedEntries
ok_entries es = Ok es

pub tree_refuses : (t : Tree) (r : Request) (x : DirError) → apply_over (ground_of t) r.body ≡ Err x → apply t r ≡ Err x
tree_refuses t r x q = ap (as_tree t) q

pub tree_accepts : (t : Tree) (r : Request) (es : List Named) → apply_over (ground_of t) r.body ≡ Ok es → apply t r ≡ Ok (record t { entries = es })
tree_accepts t r es q = ap (as_tree t) q

pub tree_made : (t u : Tree) (r : Request) → apply t r ≡ Ok u → (apply_over (ground_of t) r.body ≡ Ok u.entries) × (u ≡ record t { entries = u.entries })
tree_made t u r q =
    elim (ok_or_err (apply_over (ground_of t) r.body)) [
      | inl s ↦ (let m : Ok (record t { entries = s.0 }) ≡ Ok u = sym (tree_accepts t r s.0 s.1) ∙ q in
          let same : record t { entries = s.0 } ≡ u = inside m in
          let es : s.0 ≡ u.entries = ap (λ (y : Tree). y.entries) same in
          (s.1 ∙ ap ok_entries es, sym same ∙ ap (λ (ys : List Named). record t { entries = ys }) es))
      | inr s ↦ (let r : apply t r ≡ Err s.0 = tree_refuses t r s.0 s.1 in cc)
    ]
  where
    inside : {x y : Tree} → ok_tree x ≡ ok_tree y → x ≡ y
    inside e = cc

-- ---- what was accepted passed each test

abbrev ok_changed : Entry → ChangedEntry
ok_changed e = Ok e

abbrev pub ok_list : List Named → UpdatedEntries
ok_list es = Ok es

pub same_list : (a b : List Named) → ok_list a ≡ ok_list b → a ≡ b
same_list a b e = cc

pub record Added (g : Ground) (name : Name) (attributes : List Attribute) (us : List Named) : Type 0 where
  pub above : Named
  pub there : entry_at g.entries (parent (key_of name)) ≡ Some above
  pub free : is_taken g (key_of name) ≡ false
  pub made : us ≡ sorted_entries (g.entries ++ new_entry above name attributes ∷ [])

pub added : (g : Ground) (name : Name) (attributes : List Attribute) (us : List Named) → add g name attributes ≡ Ok us → Added g name attributes us
added g name attributes us h =
    elim (none_or_some (entry_at g.entries (parent (key_of name)))) [
      | inl q ↦ (let f = add_none g name attributes q in cc)
      | inr e ↦ elim (true_or_false (is_taken g (key_of name))) [
        | inl b ↦ (let f = add_taken g name attributes e.0 e.1 b in cc)
        | inr b ↦ record { above = e.0; there = e.1; free = b; made = same_list us (sorted_entries (g.entries ++ new_entry e.0 name attributes ∷ [])) (sym h ∙ add_free g name attributes e.0 e.1 b) }
      ]
    ]

pub record Removed (g : Ground) (name : Name) (us : List Named) : Type 0 where
  pub at : Named
  pub there : entry_at g.entries (key_of name) ≡ Some at
  pub above : above_pin g (key_of name) ≡ false
  pub below : has_below g.entries (key_of name) ≡ false
  pub made : us ≡ left_out g name

pub removed : (g : Ground) (name : Name) (us : List Named) → remove g name ≡ Ok us → Removed g name us
removed g name us h =
    elim (none_or_some (entry_at g.entries (key_of name))) [
      | inl q ↦ (let f = remove_none g name q in cc)
      | inr e ↦ elim (true_or_false (above_pin g (key_of name))) [
        | inl b ↦ (let f = remove_some g name e.0 true (has_below g.entries (key_of name)) e.1 b refl in cc)
        | inr b ↦ elim (true_or_false (has_below g.entries (key_of name))) [
          | inl d ↦ (let f = remove_some g name e.0 false true e.1 b d in cc)
          | inr d ↦ record { at = e.0; there = e.1; above = b; below = d; made = same_list us (left_out g name) (sym h ∙ remove_some g name e.0 false false e.1 b d) }
        ]
      ]
    ]

pub record Modified (g : Ground) (name : Name) (changes : List Change) (us : List Named) : Type 0 where
  pub at : Named
  pub new : Entry
  pub there : entry_at g.entries (key_of name) ≡ Some at
  pub done : modified (last_rdn name) changes at.entry ≡ Ok new
  pub made : us ≡ replace_at (key_of name) (record at { entry = new }) g.entries

pub changed_so : (g : Ground) (name : Name) (changes : List Change) (us : List Named) → modify g name changes ≡ Ok us → Modified g name changes us
changed_so g name changes us h =
    elim (none_or_some (entry_at g.entries (key_of name))) [
      | inl q ↦ (let f = modify_none g name changes q in cc)
      | inr e ↦ elim (ok_or_err (modified (last_rdn name) changes e.0.entry)) [
        | inl v ↦ record { at = e.0; new = v.0; there = e.1; done = v.1; made = same_list us (replace_at (key_of name) (record e.0 { entry = v.0 }) g.entries) (sym h ∙ modify_some g name changes e.0 (Ok v.0) e.1 v.1) }
        | inr y ↦ (let f = modify_some g name changes e.0 (Err y.0) e.1 y.1 in cc)
      ]
    ]

pub record Renamed (g : Ground) (name : Name) (rdn : Rdn) (drops : Bool) (us : List Named) : Type 0 where
  pub at : Named
  pub there : entry_at g.entries (key_of name) ≡ Some at
  pub above : above_pin g (key_of name) ≡ false
  pub single : single_valued (renamed (last_rdn name) rdn drops at.entry) ≡ Ok (renamed (last_rdn name) rdn drops at.entry)
  pub free : clashes g name rdn ≡ false
  pub made : us ≡ sorted_entries (map (moved_entry name rdn (renamed (last_rdn name) rdn drops at.entry)) g.entries)

pub renamed_so : (g : Ground) (name : Name) (rdn : Rdn) (drops : Bool) (us : List Named) → rename g name rdn drops ≡ Ok us → Renamed g name rdn drops us
renamed_so g name rdn drops us h =
    elim (none_or_some (entry_at g.entries (key_of name))) [
      | inl q ↦ (let f = rename_none g name rdn drops q in cc)
      | inr e ↦ elim (true_or_false (above_pin g (key_of name))) [
        | inl b ↦ (let f = rename_some g name rdn drops e.0 true (single_valued (renamed (last_rdn name) rdn drops e.0.entry)) (clashes g name rdn) e.1 b refl refl in cc)
        | inr b ↦ elim (ok_or_err (single_valued (renamed (last_rdn name) rdn drops e.0.entry))) [
          | inr y ↦ (let f = rename_some g name rdn drops e.0 false (Err y.0) (clashes g name rdn) e.1 b y.1 refl in cc)
          | inl v ↦ elim (true_or_false (clashes g name rdn)) [
            | inl d ↦ (let f = rename_some g name rdn drops e.0 false (Ok v.0) true e.1 b v.1 d in cc)
            | inr d ↦
                let same : renamed (last_rdn name) rdn drops e.0.entry ≡ v.0 = single_is (renamed (last_rdn name) rdn drops e.0.entry) v.0 v.1 in
                record {
                  at = e.0;
                  there = e.1;
                  above = b;
                  single = v.1 ∙ ap ok_changed (sym same);
                  free = d;
                  made = same_list us (sorted_entries (map (moved_entry name rdn v.0) g.entries)) (sym h ∙ rename_some g name rdn drops e.0 false (Ok v.0) false e.1 b v.1 d) ∙ ap (λ (x : Entry). sorted_entries (map (moved_entry name rdn x) g.entries)) (sym same);
                }
          ]
        ]
      ]
    ]

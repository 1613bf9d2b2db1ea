-- What the master refuses, the tree refuses alike; what it accepts, the tree accepts, where no other agent has the new name.
use Rattle.std.proofs.Common.{◌≡◌, ℕ, ◌+◌, ◌-◌, ◌<◌, Bool, true, false, not, inl, inr, List, [], ◌∷◌, ◌++◌, map, length, take, refl, sym, ap, subst, ◌∙◌, arith, Option, Some, None, Ok, Err, if◌then◌else◌}
use Rattle.std.proofs.lemmas.List.{map-append, length-append}
use Rattle.std.proofs.Math.Seq.{take-append_seam}
use Rattle.x5_model.specs.Members.{In}
use Rattle.x5_model.specs.Keys.{Key, KeyRdn, parent, same_key}
use Rattle.x5_model.specs.Values.{Rdn, Name, key_of, key_of_rdn, last_rdn, name_above}
use Rattle.x5_model.specs.Entries.{Named}
use Rattle.x5_model.specs.Changes.{modified, renamed, single_valued}
use Rattle.x5_model.specs.Requests.{Attribute, Change, Body, Read, Compare, ListBelow, Search, AddEntry, RemoveEntry, ModifyEntry, ModifyDn}
use Rattle.x5_model.specs.Answers.{DirError, UpdateProblem}
use Rattle.x5_model.specs.Problems.{entry_already_exists}
use Rattle.x5_model.proofs.Lists.{true_or_false, both_true, and_true, not_true}
use Rattle.x5_model_tree.specs.Tree.{sorted_entries, Tree, entry_at, has_below}
use Rattle.x5_model_tree.specs.Ask.{is_update}
use Rattle.x5_model_tree.specs.Apply.{Ground, UpdatedEntries, ground_of, absent, above_pin, is_taken, add, remove, modify, rename, update}
use Rattle.x5_model_tree.proofs.Longest.{IsLongest}
use Rattle.x5_model_tree.proofs.Grown.{above_key}
use Rattle.x5_model_run.specs.Needs.{target_of, new_name}
use Rattle.x5_model_theory.specs.Knowledge.{Knowledge, Area}
use Rattle.x5_model_theory.specs.Coherent.{Coherent}
use Rattle.x5_model_updates.specs.Standing.{IsTreeOf}
use Rattle.x5_model_updates.specs.Afterwards.{new_key}
use Rattle.x5_model_updates.proofs.Lookups.{entry_found}
use Rattle.x5_model_updates.proofs.Outcomes.{moved_entry, Added, added, removed, changed_so, Renamed, renamed_so, clashes, add_none, add_taken, add_free, remove_none, remove_some, modify_none, modify_some, rename_none, rename_some, none_or_some, ok_or_err}
use Rattle.x5_model_updates.proofs.Trees.{at_name_in}
use Rattle.x5_model_updates.proofs.Grounds.{Knows, IsHeldBeside, same_entry, same_absent, same_above, same_below, parent_own, taken_there, taken_here}

-- ---- the key of a new last RDN

parent_end : (a : Key) (x : KeyRdn) → parent (a ++ x ∷ []) ≡ a
parent_end a x = (let e : length (a ++ x ∷ []) ≡ length a + 1 = length-append a (x ∷ []) in ap (λ (n : ℕ). take n (a ++ x ∷ [])) (let m : length (a ++ x ∷ []) - 1 ≡ length a = omega arith in m) ∙ take-append_seam a (x ∷ []))

pub new_key_is : (name : Name) (rdn : Rdn) → new_key name rdn ≡ parent (key_of name) ++ key_of_rdn rdn ∷ []
new_key_is name rdn = map-append key_of_rdn (name_above name) (rdn ∷ []) ∙ ap (λ (a : Key). a ++ key_of_rdn rdn ∷ []) (above_key name)

pub new_key_parent : (name : Name) (rdn : Rdn) → parent (new_key name rdn) ≡ parent (key_of name)
new_key_parent name rdn = ap parent (new_key_is name rdn) ∙ parent_end (parent (key_of name)) (key_of_rdn rdn)

pub new_key_filled : (name : Name) (rdn : Rdn) → 0 < length (new_key name rdn)
new_key_filled name rdn = (let e : length (new_key name rdn) ≡ length (parent (key_of name) ++ key_of_rdn rdn ∷ []) = ap length (new_key_is name rdn) in
    let f : length (parent (key_of name) ++ key_of_rdn rdn ∷ []) ≡ length (parent (key_of name)) + 1 = length-append (parent (key_of name)) (key_of_rdn rdn ∷ []) in omega arith)

-- ---- the new name

abbrev unless_same : Name → Rdn → Bool → Option Name
unless_same name rdn b = if b then None else Some (name_above name ++ rdn ∷ [])

named_anew : (name : Name) (rdn : Rdn) → same_key (new_key name rdn) (key_of name) ≡ false → unless_same name rdn (same_key (new_key name rdn) (key_of name)) ≡ Some (name_above name ++ rdn ∷ [])
named_anew name rdn e = ap (unless_same name rdn) e

some_same : (a b : Name) → Some a ≡ Some b → a ≡ b
some_same a b e = cc

pub anew_is : (name : Name) (rdn : Rdn) (m : Name) → unless_same name rdn (same_key (new_key name rdn) (key_of name)) ≡ Some m → (same_key (new_key name rdn) (key_of name) ≡ false) × (name_above name ++ rdn ∷ [] ≡ m)
anew_is name rdn m h = by (same_key (new_key name rdn) (key_of name)) h
  where
    by : (b : Bool) → unless_same name rdn b ≡ Some m → (b ≡ false) × (name_above name ++ rdn ∷ [] ≡ m)
    by true e = cc
    by false e = (refl, some_same (name_above name ++ rdn ∷ []) m e)

abbrev bad : DirError → UpdatedEntries
bad x = Err x

module _ (k : Knowledge) (t : Tree) (o : ℕ) (g : Ground) (good : Coherent k) (is : IsTreeOf k t) (knows : Knows k t o g) (c : Area) (i : In c k.areas) (mine : c.master ≡ o) where
  abbrev T : Ground
  T = ground_of t

  module _ (n : Key) (long : IsLongest t.pins n (Some c.prefix)) where
    found : entry_at g.entries n ≡ entry_at t.entries n
    found = same_entry k t o g good is knows c n i mine long

    lacks : absent g n ≡ absent T n
    lacks = same_absent k t o g good is knows c n i mine long

    -- an entry that is found is of the context
    own : (e : Named) → entry_at g.entries n ≡ Some e → In n c.entries
    own e q =
        let w = entry_found t.entries n e (sym found ∙ q) in
        subst (λ (x : Key). In x c.entries) w.1 (at_name_in k t good is c n e i long w.0 w.1)

    above_same : (e : Named) → entry_at g.entries n ≡ Some e → above_pin g n ≡ above_pin T n
    above_same e q = same_above k t o g good is knows c n i mine (own e q)

  -- ---- addEntry

  module _ (name : Name) (attributes : List Attribute) (long : IsLongest t.pins (parent (key_of name)) (Some c.prefix)) where
    pub add_refused : (x : DirError) → add g name attributes ≡ Err x → add (ground_of t) name attributes ≡ Err x
    add_refused x h =
        elim (none_or_some (entry_at g.entries (parent (key_of name)))) [
          | inl q ↦ add_none (ground_of t) name attributes (sym (found (parent (key_of name)) long) ∙ q) ∙ ap bad (sym (lacks (parent (key_of name)) long)) ∙ sym (add_none g name attributes q) ∙ h
          | inr e ↦ elim (true_or_false (is_taken g (key_of name))) [
            | inl b ↦ add_taken (ground_of t) name attributes e.0 (sym (found (parent (key_of name)) long) ∙ e.1) (taken_there k t o g good is knows (key_of name) b) ∙ sym (add_taken g name attributes e.0 e.1 b) ∙ h
            | inr b ↦ (let f = add_free g name attributes e.0 e.1 b in cc)
          ]
        ]

    -- what was accepted has its parent in the context
    up_there : (us : List Named) → Added g name attributes us → In (parent (key_of name)) c.entries
    up_there us a = own (parent (key_of name)) long a.above a.there

    also_found : (us : List Named) (a : Added g name attributes us) → entry_at t.entries (parent (key_of name)) ≡ Some a.above
    also_found us a = sym (found (parent (key_of name)) long) ∙ a.there

    pub add_accepted : (es : List Named) → add g name attributes ≡ Ok es → (In (parent (key_of name)) c.entries → IsHeldBeside k c (key_of name) → ⊥) → (us : List Named) × (add (ground_of t) name attributes ≡ Ok us)
    add_accepted es h free =
        let a = added g name attributes es h in
        elim (true_or_false (is_taken (ground_of t) (key_of name))) [
          | inl b ↦ elim (taken_here k t o g good is knows c (key_of name) i mine (up_there es a) b) [ inl y ↦ (let f = a.free in cc) | inr y ↦ absurd (free (up_there es a) y) ]
          | inr b ↦ (_, add_free (ground_of t) name attributes a.above (also_found es a) b)
        ]

    pub add_exists : (es : List Named) → add g name attributes ≡ Ok es → is_taken (ground_of t) (key_of name) ≡ true → add (ground_of t) name attributes ≡ Err (UpdateProblem entry_already_exists)
    add_exists es h b = (let a = added g name attributes es h in add_taken (ground_of t) name attributes a.above (also_found es a) b)

  -- ---- removeEntry

  module _ (name : Name) (long : IsLongest t.pins (key_of name) (Some c.prefix)) where
    pub remove_refused : (x : DirError) → remove g name ≡ Err x → remove (ground_of t) name ≡ Err x
    remove_refused x h =
        elim (none_or_some (entry_at g.entries (key_of name))) [
          | inl q ↦ remove_none (ground_of t) name (sym (found (key_of name) long) ∙ q) ∙ ap bad (sym (lacks (key_of name) long)) ∙ sym (remove_none g name q) ∙ h
          | inr e ↦
              let te = sym (found (key_of name) long) ∙ e.1 in
              let a = above_same (key_of name) long e.0 e.1 in
              elim (true_or_false (above_pin g (key_of name))) [
                | inl b ↦ remove_some (ground_of t) name e.0 true (has_below t.entries (key_of name)) te (sym a ∙ b) refl ∙ sym (remove_some g name e.0 true (has_below g.entries (key_of name)) e.1 b refl) ∙ h
                | inr b ↦
                    let l = same_below k t o g good is knows c (key_of name) i mine (own (key_of name) long e.0 e.1) (sym a ∙ b) in
                    elim (true_or_false (has_below g.entries (key_of name))) [
                      | inl d ↦ remove_some (ground_of t) name e.0 false true te (sym a ∙ b) (sym l ∙ d) ∙ sym (remove_some g name e.0 false true e.1 b d) ∙ h
                      | inr d ↦ (let f = remove_some g name e.0 false false e.1 b d in cc)
                    ]
              ]
        ]

    pub remove_accepted : (es : List Named) → remove g name ≡ Ok es → (us : List Named) × (remove (ground_of t) name ≡ Ok us)
    remove_accepted es h =
        let a = removed g name es h in
        let low : above_pin (ground_of t) (key_of name) ≡ false = sym (above_same (key_of name) long a.at a.there) ∙ a.above in
        let leaf : has_below t.entries (key_of name) ≡ false = sym (same_below k t o g good is knows c (key_of name) i mine (own (key_of name) long a.at a.there) low) ∙ a.below in
        (_, remove_some (ground_of t) name a.at false false (sym (found (key_of name) long) ∙ a.there) low leaf)

  -- ---- modifyEntry

  module _ (name : Name) (changes : List Change) (long : IsLongest t.pins (key_of name) (Some c.prefix)) where
    pub modify_refused : (x : DirError) → modify g name changes ≡ Err x → modify (ground_of t) name changes ≡ Err x
    modify_refused x h =
        elim (none_or_some (entry_at g.entries (key_of name))) [
          | inl q ↦ modify_none (ground_of t) name changes (sym (found (key_of name) long) ∙ q) ∙ ap bad (sym (lacks (key_of name) long)) ∙ sym (modify_none g name changes q) ∙ h
          | inr e ↦ elim (ok_or_err (modified (last_rdn name) changes e.0.entry)) [
            | inl v ↦ (let f = modify_some g name changes e.0 (Ok v.0) e.1 v.1 in cc)
            | inr y ↦ modify_some (ground_of t) name changes e.0 (Err y.0) (sym (found (key_of name) long) ∙ e.1) y.1 ∙ sym (modify_some g name changes e.0 (Err y.0) e.1 y.1) ∙ h
          ]
        ]

    pub modify_accepted : (es : List Named) → modify g name changes ≡ Ok es → (us : List Named) × (modify (ground_of t) name changes ≡ Ok us)
    modify_accepted es h =
        let a = changed_so g name changes es h in
        (_, modify_some (ground_of t) name changes a.at (Ok a.new) (sym (found (key_of name) long) ∙ a.there) a.done)

  -- ---- modifyDN

  module _ (name : Name) (rdn : Rdn) (drops : Bool) (long : IsLongest t.pins (key_of name) (Some c.prefix)) where
    clash_there : clashes g name rdn ≡ true → clashes (ground_of t) name rdn ≡ true
    clash_there h =
        let w = both_true (not (same_key (new_key name rdn) (key_of name))) (is_taken g (new_key name rdn)) h in
        and_true (not (same_key (new_key name rdn) (key_of name))) (is_taken (ground_of t) (new_key name rdn)) w.0 (taken_there k t o g good is knows (new_key name rdn) w.1)

    pub rename_refused : (x : DirError) → rename g name rdn drops ≡ Err x → rename (ground_of t) name rdn drops ≡ Err x
    rename_refused x h =
        elim (none_or_some (entry_at g.entries (key_of name))) [
          | inl q ↦ rename_none (ground_of t) name rdn drops (sym (found (key_of name) long) ∙ q) ∙ ap bad (sym (lacks (key_of name) long)) ∙ sym (rename_none g name rdn drops q) ∙ h
          | inr e ↦
              let te = sym (found (key_of name) long) ∙ e.1 in
              let a = above_same (key_of name) long e.0 e.1 in
              let new = single_valued (renamed (last_rdn name) rdn drops e.0.entry) in
              elim (true_or_false (above_pin g (key_of name))) [
                | inl b ↦ rename_some (ground_of t) name rdn drops e.0 true new (clashes (ground_of t) name rdn) te (sym a ∙ b) refl refl ∙ sym (rename_some g name rdn drops e.0 true new (clashes g name rdn) e.1 b refl refl) ∙ h
                | inr b ↦ elim (ok_or_err (single_valued (renamed (last_rdn name) rdn drops e.0.entry))) [
                  | inr y ↦ rename_some (ground_of t) name rdn drops e.0 false (Err y.0) (clashes (ground_of t) name rdn) te (sym a ∙ b) y.1 refl ∙ sym (rename_some g name rdn drops e.0 false (Err y.0) (clashes g name rdn) e.1 b y.1 refl) ∙ h
                  | inl v ↦ elim (true_or_false (clashes g name rdn)) [
                    | inl d ↦ rename_some (ground_of t) name rdn drops e.0 false (Ok v.0) true te (sym a ∙ b) v.1 (clash_there d) ∙ sym (rename_some g name rdn drops e.0 false (Ok v.0) true e.1 b v.1 d) ∙ h
                    | inr d ↦ (let f = rename_some g name rdn drops e.0 false (Ok v.0) false e.1 b v.1 d in cc)
                  ]
                ]
              ]
        ]

    -- what was accepted is above no pin of the tree either, and the new name's parent is in the context
    low : (us : List Named) → Renamed g name rdn drops us → above_pin (ground_of t) (key_of name) ≡ false
    low us a = sym (above_same (key_of name) long a.at a.there) ∙ a.above

    new_up : (us : List Named) → Renamed g name rdn drops us → In (parent (new_key name rdn)) c.entries
    new_up us a =
        subst (λ (x : Key). In x c.entries) (sym (new_key_parent name rdn)) (parent_own k t o g good is knows c (key_of name) i mine (own (key_of name) long a.at a.there) (low us a))

    as_renamed : (us : List Named) (a : Renamed g name rdn drops us) (b : Bool) → clashes (ground_of t) name rdn ≡ b
        → rename (ground_of t) name rdn drops ≡ (if b then Err (UpdateProblem entry_already_exists) else Ok (sorted_entries (map (moved_entry name rdn (renamed (last_rdn name) rdn drops a.at.entry)) t.entries)))
    as_renamed us a b e =
        rename_some (ground_of t) name rdn drops a.at false (Ok (renamed (last_rdn name) rdn drops a.at.entry)) b (sym (found (key_of name) long) ∙ a.there) (low us a) a.single e

    pub rename_accepted : (es : List Named) → rename g name rdn drops ≡ Ok es
        → (same_key (new_key name rdn) (key_of name) ≡ false → In (parent (new_key name rdn)) c.entries → IsHeldBeside k c (new_key name rdn) → ⊥) → (us : List Named) × (rename (ground_of t) name rdn drops ≡ Ok us)
    rename_accepted es h free =
        let a = renamed_so g name rdn drops es h in
        elim (true_or_false (clashes (ground_of t) name rdn)) [
          | inl b ↦
              let w = both_true (not (same_key (new_key name rdn) (key_of name))) (is_taken (ground_of t) (new_key name rdn)) b in
              elim (taken_here k t o g good is knows c (new_key name rdn) i mine (new_up es a) w.1) [
                | inl y ↦ (let f : clashes g name rdn ≡ true = and_true (not (same_key (new_key name rdn) (key_of name))) (is_taken g (new_key name rdn)) w.0 y in let f2 = a.free in cc)
                | inr y ↦ absurd (free (not_true (same_key (new_key name rdn) (key_of name)) w.0) (new_up es a) y)
              ]
          | inr b ↦ (_, as_renamed es a false b)
        ]

    pub rename_exists : (es : List Named) → rename g name rdn drops ≡ Ok es → same_key (new_key name rdn) (key_of name) ≡ false → is_taken (ground_of t) (new_key name rdn) ≡ true
        → rename (ground_of t) name rdn drops ≡ Err (UpdateProblem entry_already_exists)
    rename_exists es h other b =
        as_renamed es (renamed_so g name rdn drops es h) true (and_true (not (same_key (new_key name rdn) (key_of name))) (is_taken (ground_of t) (new_key name rdn)) (ap not other) b)

  -- ---- any update

  pub refused : (body : Body) → is_update body ≡ true → IsLongest t.pins (key_of (target_of body)) (Some c.prefix) → (x : DirError) → update g body ≡ Err x → update (ground_of t) body ≡ Err x
  refused (Read name selection) u long x h = cc
  refused (Compare name assertion) u long x h = cc
  refused (ListBelow name) u long x h = cc
  refused (Search base subset f selection) u long x h = cc
  refused (AddEntry name attributes) u long x h = add_refused name attributes (subst (λ (n : Key). IsLongest t.pins n (Some c.prefix)) (above_key name) long) x h
  refused (RemoveEntry name) u long x h = remove_refused name long x h
  refused (ModifyEntry name changes) u long x h = modify_refused name changes long x h
  refused (ModifyDn name rdn drops) u long x h = rename_refused name rdn drops long x h

  -- no other agent has the new name
  abbrev pub IsFree : Body → Type 0
  IsFree body = (name : Name) → new_name body ≡ Some name → In (parent (key_of name)) c.entries → IsHeldBeside k c (key_of name) → ⊥

  pub accepted : (body : Body) → is_update body ≡ true → IsLongest t.pins (key_of (target_of body)) (Some c.prefix) → (es : List Named) → update g body ≡ Ok es → IsFree body
      → (us : List Named) × (update (ground_of t) body ≡ Ok us)
  accepted (Read name selection) u long es h free = cc
  accepted (Compare name assertion) u long es h free = cc
  accepted (ListBelow name) u long es h free = cc
  accepted (Search base subset f selection) u long es h free = cc
  accepted (AddEntry name attributes) u long es h free = add_accepted name attributes (subst (λ (n : Key). IsLongest t.pins n (Some c.prefix)) (above_key name) long) es h (free name refl)
  accepted (RemoveEntry name) u long es h free = remove_accepted name long es h
  accepted (ModifyEntry name changes) u long es h free = modify_accepted name changes long es h
  accepted (ModifyDn name rdn drops) u long es h free = rename_accepted name rdn drops long es h (λ e. free (name_above name ++ rdn ∷ []) (named_anew name rdn e))

  pub exists : (body : Body) (name : Name) → new_name body ≡ Some name → IsLongest t.pins (key_of (target_of body)) (Some c.prefix) → (es : List Named) → update g body ≡ Ok es
      → is_taken (ground_of t) (key_of name) ≡ true → update (ground_of t) body ≡ Err (UpdateProblem entry_already_exists)
  exists (Read name selection) m s long es h b = cc
  exists (Compare name assertion) m s long es h b = cc
  exists (ListBelow name) m s long es h b = cc
  exists (Search base subset f selection) m s long es h b = cc
  exists (RemoveEntry name) m s long es h b = cc
  exists (ModifyEntry name changes) m s long es h b = cc
  exists (AddEntry name attributes) m s long es h b =
      add_exists name attributes (subst (λ (n : Key). IsLongest t.pins n (Some c.prefix)) (above_key name) long) es h (subst (λ (n : Name). is_taken (ground_of t) (key_of n) ≡ true) (sym (some_same name m s)) b)
  exists (ModifyDn name rdn drops) m s long es h b =
      let w = anew_is name rdn m s in
      rename_exists name rdn drops long es h w.0 (subst (λ (n : Name). is_taken (ground_of t) (key_of n) ≡ true) (sym w.1) b)

  -- what is named anew by an accepted update: its target is an entry of the context, and so is the entry just above the new name
  pub target_there : (body : Body) (name : Name) → new_name body ≡ Some name → IsLongest t.pins (key_of (target_of body)) (Some c.prefix) → (es : List Named) → update g body ≡ Ok es
      → In (key_of (target_of body)) c.entries × In (parent (key_of name)) c.entries
  target_there (Read name selection) m s long es h = cc
  target_there (Compare name assertion) m s long es h = cc
  target_there (ListBelow name) m s long es h = cc
  target_there (Search base subset f selection) m s long es h = cc
  target_there (RemoveEntry name) m s long es h = cc
  target_there (ModifyEntry name changes) m s long es h = cc
  target_there (AddEntry name attributes) m s long es h =
      let up = up_there name attributes (subst (λ (n : Key). IsLongest t.pins n (Some c.prefix)) (above_key name) long) es (added g name attributes es h) in
      (subst (λ (n : Key). In n c.entries) (sym (above_key name)) up, subst (λ (n : Name). In (parent (key_of n)) c.entries) (some_same name m s) up)
  target_there (ModifyDn name rdn drops) m s long es h =
      let a = renamed_so g name rdn drops es h in
      (own (key_of name) long a.at a.there, subst (λ (n : Name). In (parent (key_of n)) c.entries) (anew_is name rdn m s).1 (new_up name rdn drops long es a))

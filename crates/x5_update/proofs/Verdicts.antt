-- What the master's ground makes of each update, by what was tested of it.
use Rattle.std.proofs.Common.{◌≡◌, Bool, true, false, ◌++◌, ◌∷◌, [], List, refl, sym, ap, ◌∙◌, Option, None, Some, Ok, Err}
use Rattle.x5_model.specs.Words.{first_of}
use Rattle.x5_model.specs.Keys.{parent}
use Rattle.x5_model.specs.Values.{Name, Rdn, key_of, last_rdn}
use Rattle.x5_model.specs.Entries.{Entry, Named}
use Rattle.x5_model.specs.Requests.{Attribute, Change}
use Rattle.x5_model.specs.Attributes.{added_entry}
use Rattle.x5_model.specs.Changes.{ChangedEntry, modified, renamed, single_valued}
use Rattle.x5_model.specs.Answers.{DirError, UpdateProblem}
use Rattle.x5_model.specs.Problems.{entry_already_exists, affects_multiple_dsas, not_allowed_on_non_leaf}
use Rattle.x5_model.specs.Statics.{attribute_repeats}
use Rattle.x5_model_tree.specs.Tree.{entry_at, has_below, sorted_entries}
use Rattle.x5_model_tree.specs.Apply.{Ground, UpdatedEntries, above_pin, is_taken, add, remove, modify, rename}
use Rattle.x5_model_updates.specs.Afterwards.{new_entry}
use Rattle.x5_model_updates.proofs.Outcomes.{add_taken, add_free, remove_some, modify_some, rename_some, clashes}
use Rattle.x5_ops.specs.AnswerViews.{error_view}
use Rattle.x5_ops.specs.ChangeView.{IsRefused, added}
use Rattle.x5_ops.specs.declared.changes.ChangeFault.{ChangeFault}
use Rattle.x5_ops.specs.declared.changes.ChangeFault.TheVariants as faults
use Rattle.x5_update.specs.Judging.{IsStopped}

pub stopped_as : (f : ChangeFault) (o p : UpdatedEntries) → p ≡ o → IsStopped f o → IsStopped f p
stopped_as (faults.Refused r) o p e s = λ names. e ∙ s names
stopped_as faults.NoMemory o p e s = s

-- a refusal of the entry's change is one of the update
pub refused_as : (f : ChangeFault) (m : ChangedEntry) (o : UpdatedEntries) → ((x : DirError) → m ≡ Err x → o ≡ Err x) → IsRefused f m → IsStopped f o
refused_as (faults.Refused r) m o g s = λ names. g (error_view names r) (s names)
refused_as faults.NoMemory m o g s = s

-- where no attribute repeats, that's what is stored
abbrev ok_entry : Entry → ChangedEntry
ok_entry e = Ok e

abbrev added_by : Rdn → List Attribute → Option DirError → ChangedEntry
added_by rdn attributes None = Ok (added_entry rdn attributes)
added_by rdn attributes (Some x) = Err x

pub added_is : (rdn : Rdn) (attributes : List Attribute) (entry : Entry) → first_of (attribute_repeats [] attributes) ≡ None
    → added rdn attributes ≡ Ok entry → entry ≡ added_entry rdn attributes
added_is rdn attributes entry none q = inside (sym q ∙ ap (added_by rdn attributes) none)
  where
    inside : ok_entry entry ≡ ok_entry (added_entry rdn attributes) → entry ≡ added_entry rdn attributes
    inside e = cc

pub never_repeats : (rdn : Rdn) (attributes : List Attribute) (x : DirError) → first_of (attribute_repeats [] attributes) ≡ None
    → added rdn attributes ≡ Err x → ⊥
never_repeats rdn attributes x none q = (let e : ok_entry (added_entry rdn attributes) ≡ Err x = sym (ap (added_by rdn attributes) none) ∙ q in cc)

pub added_as : (f : ChangeFault) (rdn : Rdn) (attributes : List Attribute) (o : UpdatedEntries) → first_of (attribute_repeats [] attributes) ≡ None
    → IsRefused f (added rdn attributes) → IsStopped f o
added_as (faults.Refused r) rdn attributes o none s = λ names. absurd (never_repeats rdn attributes (error_view names r) none (s names))
added_as faults.NoMemory rdn attributes o none s = s

module _ (g : Ground) (name : Name) (e : Named) where
  -- addEntry, where e is the entry above
  module _ (attributes : List Attribute) (there : entry_at g.entries (parent (key_of name)) ≡ Some e) where
    pub add_refused : is_taken g (key_of name) ≡ true → add g name attributes ≡ Err (UpdateProblem entry_already_exists)
    add_refused t = add_taken g name attributes e there t

    pub add_passed : is_taken g (key_of name) ≡ false
        → (es : List Named) × (add g name attributes ≡ Ok es)
    add_passed f = (sorted_entries (g.entries ++ new_entry e name attributes ∷ []), add_free g name attributes e there f)

  -- the others, where e is the entry itself
  module _ (there : entry_at g.entries (key_of name) ≡ Some e) where
    pub remove_pinned : above_pin g (key_of name) ≡ true → remove g name ≡ Err (UpdateProblem affects_multiple_dsas)
    remove_pinned a = remove_some g name e true (has_below g.entries (key_of name)) there a refl

    pub remove_filled : above_pin g (key_of name) ≡ false → has_below g.entries (key_of name) ≡ true
        → remove g name ≡ Err (UpdateProblem not_allowed_on_non_leaf)
    remove_filled a b = remove_some g name e false true there a b

    pub remove_passed : above_pin g (key_of name) ≡ false → has_below g.entries (key_of name) ≡ false
        → (es : List Named) × (remove g name ≡ Ok es)
    remove_passed a b = (_, remove_some g name e false false there a b)

    pub modify_refused : (changes : List Change) (x : DirError) → modified (last_rdn name) changes e.entry ≡ Err x → modify g name changes ≡ Err x
    modify_refused changes x q = modify_some g name changes e (Err x) there q

    pub modify_passed : (changes : List Change) (new : Entry) → modified (last_rdn name) changes e.entry ≡ Ok new
        → (es : List Named) × (modify g name changes ≡ Ok es)
    modify_passed changes new q = (_, modify_some g name changes e (Ok new) there q)

    module _ (rdn : Rdn) (drops : Bool) where
      pub rename_pinned : above_pin g (key_of name) ≡ true → rename g name rdn drops ≡ Err (UpdateProblem affects_multiple_dsas)
      rename_pinned a =
          rename_some g name rdn drops e true (single_valued (renamed (last_rdn name) rdn drops e.entry)) (clashes g name rdn) there a refl refl

      pub rename_refused : (x : DirError) → above_pin g (key_of name) ≡ false
          → single_valued (renamed (last_rdn name) rdn drops e.entry) ≡ Err x → rename g name rdn drops ≡ Err x
      rename_refused x a q = rename_some g name rdn drops e false (Err x) (clashes g name rdn) there a q refl

      pub rename_taken : (new : Entry) → above_pin g (key_of name) ≡ false
          → single_valued (renamed (last_rdn name) rdn drops e.entry) ≡ Ok new → clashes g name rdn ≡ true
          → rename g name rdn drops ≡ Err (UpdateProblem entry_already_exists)
      rename_taken new a q t = rename_some g name rdn drops e false (Ok new) true there a q t

      pub rename_passed : (new : Entry) → above_pin g (key_of name) ≡ false
          → single_valued (renamed (last_rdn name) rdn drops e.entry) ≡ Ok new → clashes g name rdn ≡ false
          → (es : List Named) × (rename g name rdn drops ≡ Ok es)
      rename_passed new a q t = (_, rename_some g name rdn drops e false (Ok new) false there a q t)

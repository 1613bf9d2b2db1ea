-- What the one tree has after an accepted update, entry by entry, key by key, and context by context (X.511, section
-- 11).
use Rattle.std.specs.Prelude.{◌≡◌, ◌≢◌, ◌⊎◌, ◌↔◌, true, List, [], ◌∷◌, ◌++◌, length}
use Rattle.std.specs.declared.option.Option.TheVariants.{Some}
use Rattle.std.specs.declared.result.Result.TheVariants.{Ok}
use Rattle.x5_model.specs.Words.{ascending}
use Rattle.x5_model.specs.Members.{In}
use Rattle.x5_model.specs.Keys.{Key, IsPrefix, parent}
use Rattle.x5_model.specs.Values.{Rdn, Name, key_of, last_rdn, name_above}
use Rattle.x5_model.specs.Entries.{Entry, Named}
use Rattle.x5_model.specs.Attributes.{added_entry}
use Rattle.x5_model.specs.Changes.{modified, renamed}
use Rattle.x5_model.specs.Requests.{Attribute, Body, Read, Compare, ListBelow, Search, AddEntry, RemoveEntry}
use Rattle.x5_model.specs.Requests.{ModifyEntry, ModifyDn, Request}
use Rattle.x5_model_tree.specs.Tree.{Tree, key_at, keys_of, named_below, longest, part}
use Rattle.x5_model_tree.specs.Ask.{is_update}
use Rattle.x5_model_tree.specs.Apply.{apply, apply_over, ground_of, respelled}
use Rattle.x5_model_run.specs.Needs.{target_of}
use Rattle.x5_model_theory.specs.Knowledge.{Knowledge}
use Rattle.x5_model_theory.specs.Coherent.{Coherent}
use Rattle.x5_model_theory.specs.Changing.{moved}
use Rattle.x5_model_updates.specs.Standing.{IsTreeOf}

-- what an addEntry puts below an entry
abbrev pub new_entry : Named → Name → List Attribute → Named
new_entry above name attributes =
    record { name = above.name ++ last_rdn name ∷ []; entry = added_entry (last_rdn name) attributes }

-- the key that a modifyDN gives
abbrev pub new_key : Name → Rdn → Key
new_key name rdn = key_of (name_above name ++ rdn ∷ [])

-- the name of an entry at or below the one that a modifyDN names, as it is afterwards
abbrev pub name_after : Name → Rdn → Named → Name
name_after name rdn old = respelled (length (name_above name)) rdn old.name

-- an entry of the tree afterwards, by those before: beside them the new one; all but that which goes; one with its
-- changes and all others; one with its new name and attributes, those below it with new names, and all others
abbrev pub IsEntryAfter : List Named → Body → Named → Type 0
IsEntryAfter before (AddEntry name attributes) e =
    In e before ⊎ ((above : Named) × In above before × (key_at above ≡ parent (key_of name))
    × (e ≡ new_entry above name attributes))
IsEntryAfter before (RemoveEntry name) e = In e before × (key_at e ≢ key_of name)
IsEntryAfter before (ModifyEntry name changes) e =
    (In e before × (key_at e ≢ key_of name))
    ⊎ ((old : Named) × (new : Entry) × In old before × (key_at old ≡ key_of name)
    × (modified (last_rdn name) changes old.entry ≡ Ok new) × (e ≡ record old { entry = new }))
IsEntryAfter before (ModifyDn name rdn drops) e =
    (In e before × (IsPrefix (key_of name) (key_at e) → ⊥))
    ⊎ (((old : Named) × In old before × (key_at old ≡ key_of name)
    × (e ≡ record { name = name_after name rdn old; entry = renamed (last_rdn name) rdn drops old.entry }))
    ⊎ ((old : Named) × In old before × (key_at old ≢ key_of name) × IsPrefix (key_of name) (key_at old)
    × (e ≡ record old { name = name_after name rdn old })))
IsEntryAfter before (Read name selection) e = In e before
IsEntryAfter before (Compare name assertion) e = In e before
IsEntryAfter before (ListBelow name) e = In e before
IsEntryAfter before (Search base subset filter selection) e = In e before

-- the same by keys alone
abbrev pub IsKeyAfter : List Key → Body → Key → Type 0
IsKeyAfter before (AddEntry name attributes) x = In x before ⊎ (x ≡ key_of name)
IsKeyAfter before (RemoveEntry name) x = In x before × (x ≢ key_of name)
IsKeyAfter before (ModifyEntry name changes) x = In x before
IsKeyAfter before (ModifyDn name rdn drops) x = (y : Key) × In y before × (x ≡ moved (key_of name) (new_key name rdn) y)
IsKeyAfter before (Read name selection) x = In x before
IsKeyAfter before (Compare name assertion) x = In x before
IsKeyAfter before (ListBelow name) x = In x before
IsKeyAfter before (Search base subset filter selection) x = In x before

-- 1. The tree afterwards is in order, has the pins that it had, and has exactly these entries.
abbrev pub EntriesAfter : Type 0
EntriesAfter = (k : Knowledge) (t u : Tree) (r : Request) → Coherent k → IsTreeOf k t → apply t r ≡ Ok u
    → (ascending named_below u.entries ≡ true) × (u.pins ≡ t.pins)
    × ((e : Named) → In e u.entries ↔ IsEntryAfter t.entries r.body e)

abbrev pub KeysAfter : Type 0
KeysAfter = (k : Knowledge) (t u : Tree) (r : Request) (x : Key) → Coherent k → IsTreeOf k t → apply t r ≡ Ok u
    → In x (keys_of u.entries) ↔ IsKeyAfter (keys_of t.entries) r.body x

-- 2. The context of the target has what the update makes of its part by itself, and all other contexts have what they
-- had.
abbrev pub only_part : Tree → Key → Tree
only_part t pin = record t { entries = part t pin }

abbrev pub PartsAfter : Type 0
PartsAfter = (k : Knowledge) (t u : Tree) (r : Request) (pin : Key) → Coherent k → IsTreeOf k t → is_update r.body
    ≡ true → apply t r ≡ Ok u
    → longest t.pins (key_of (target_of r.body)) ≡ Some pin
    → (apply_over (ground_of (only_part t pin)) r.body ≡ Ok (part u pin))
    × ((q : Key) → In q t.pins → q ≢ pin → part u q ≡ part t q)

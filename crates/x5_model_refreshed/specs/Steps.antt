-- The steps of an incremental refresh (X.525, sections 9 and 11: changes since the last update), and what they make of
-- a context's entries. That a step has the whole entry that was put, spelled as its master spells it, is this project's
-- own.
use Rattle.std.specs.Prelude.{not, if◌then◌else◌, List, [], ◌∷◌, ◌++◌, length, map}
use Rattle.std.specs.List.{filter}
use Rattle.std.specs.Option.{option_map}
use Rattle.std.specs.declared.option.Option.{Option}
use Rattle.std.specs.declared.option.Option.TheVariants.{None, Some}
use Rattle.std.specs.declared.result.Result.TheVariants.{Ok, Err}
use Rattle.x5_model.specs.Words.{in_option}
use Rattle.x5_model.specs.Keys.{same_key, is_prefix, parent}
use Rattle.x5_model.specs.Values.{Name, key_of, last_rdn, name_above}
use Rattle.x5_model.specs.Entries.{Named}
use Rattle.x5_model.specs.Changes.{ChangedEntry, modified, renamed}
use Rattle.x5_model.specs.Requests.{Body, Read, Compare, ListBelow, Search, AddEntry, RemoveEntry}
use Rattle.x5_model.specs.Requests.{ModifyEntry, ModifyDn}
use Rattle.x5_model_tree.specs.Tree.{key_at, sorted_entries, entry_at}
use Rattle.x5_model_tree.specs.Apply.{replace_at, respelled}
use Rattle.x5_model_updates.specs.Afterwards.{new_entry, name_after}

-- an entry came; the entry of a name went; the entry of a name has other attributes; the entry of a name has another
-- name, and attributes
pub data Step : Type 0 where
  Add : Named → Step
  Remove : Name → Step
  Modify : Named → Step
  Rename : Name → Named → Step

-- an entry after the entry of a name became another one, which takes along what is below it
abbrev pub moved_along : Name → Named → Named → Named
moved_along name new e =
    if same_key (key_at e) (key_of name) then new
    else (if is_prefix (key_of name) (key_at e)
    then record e { name = respelled (length (name_above name)) (last_rdn new.name) e.name } else e)

-- the entries after a step, in the order of their keys
abbrev pub replayed : Step → List Named → List Named
replayed (Add e) entries = sorted_entries (entries ++ e ∷ [])
replayed (Remove name) entries = filter (λ e. not (same_key (key_at e) (key_of name))) entries
replayed (Modify e) entries = replace_at (key_at e) e entries
replayed (Rename name new) entries = sorted_entries (map (moved_along name new) entries)

-- and after all of them, in their order
abbrev pub replay : List Step → List Named → List Named
replay [] entries = entries
replay (s ∷ more) entries = replay more (replayed s entries)

-- the step that a master notes of an update, by the entries that the context had before; a query is none
abbrev pub modify_step : Named → ChangedEntry → Option Step
modify_step old (Ok new) = Some (Modify (record old { entry = new }))
modify_step old (Err x) = None

abbrev pub step_of : List Named → Body → Option Step
step_of entries (AddEntry name attributes) =
    option_map (λ above. Add (new_entry above name attributes)) (entry_at entries (parent (key_of name)))
step_of entries (RemoveEntry name) = option_map (λ old. Remove old.name) (entry_at entries (key_of name))
step_of entries (ModifyEntry name changes) =
    in_option None (λ old. modify_step old (modified (last_rdn name) changes old.entry))
    (entry_at entries (key_of name))
step_of entries (ModifyDn name rdn drops) =
    option_map (λ old. Rename old.name (record {
      name = name_after name rdn old;
      entry = renamed (last_rdn name) rdn drops old.entry;
    })) (entry_at entries (key_of name))
step_of entries (Read name selection) = None
step_of entries (Compare name assertion) = None
step_of entries (ListBelow name) = None
step_of entries (Search base subset filter selection) = None

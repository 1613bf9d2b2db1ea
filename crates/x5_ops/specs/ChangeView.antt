-- What a change of an entry gives, and what an addEntry stores.
use Rattle.std.specs.Prelude.{◌≡◌, ℕ, Bool, not, List, [], Option, Some, None, Result, Ok, Err}
use Rattle.std.specs.List.{list_all}
use Rattle.x5_model.specs.Words.{first_of}
use Rattle.x5_model.specs.Values.{Rdn}
use Rattle.x5_model.specs.Entries.{Entry}
use Rattle.x5_model.specs.Attributes.{added_entry}
use Rattle.x5_model.specs.Answers.{DirError}
use Rattle.x5_model.specs.Requests.{Attribute}
use Rattle.x5_model.specs.Statics.{has_equal_values, attribute_repeats}
use Rattle.x5_model.specs.Changes.{ChangedEntry}
use Rattle.x5_ops.specs.RefusalView.{refusal_view}
use Rattle.x5_ops.specs.AnswerViews.{error_view}
use Rattle.x5_ops.specs.declared.changes.Stop.{Stop}
use Rattle.x5_ops.specs.declared.changes.Stop.TheVariants as stops
use Rattle.x5_ops.specs.declared.changes.ChangeFault.{ChangeFault}
use Rattle.x5_ops.specs.declared.changes.ChangeFault.TheVariants as faults

-- no attribute has two equal values
abbrev pub are_apart : List Attribute → Bool
are_apart attributes = list_all (λ a. not (has_equal_values a)) attributes

-- what an addEntry stores, or the refusal of the first attribute that repeats a value or a type
abbrev pub added : Rdn → List Attribute → ChangedEntry
added rdn attributes = by (first_of (attribute_repeats [] attributes))
  where
    by : Option DirError → ChangedEntry
    by None = Ok (added_entry rdn attributes)
    by (Some x) = Err x

-- the entry or the refusal, unless memory ran out
abbrev pub IsStopped : Stop → ChangedEntry → Type 0
IsStopped (stops.Refused r) m = m ≡ Err (refusal_view r)
IsStopped stops.NoMemory m = Unit {0}

abbrev pub IsChanged : Result Entry Stop → ChangedEntry → Type 0
IsChanged (Ok e) m = m ≡ Ok e
IsChanged (Err s) m = IsStopped s m

-- the same as it's told
abbrev pub IsRefused : ChangeFault → ChangedEntry → Type 0
IsRefused (faults.Refused r) m = (names : List (List ℕ)) → m ≡ Err (error_view names r)
IsRefused faults.NoMemory m = Unit {0}

abbrev pub IsModified : Result Entry ChangeFault → ChangedEntry → Type 0
IsModified (Ok e) m = m ≡ Ok e
IsModified (Err f) m = IsRefused f m

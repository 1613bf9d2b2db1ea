-- What a modifyDN does to entries in the order of their keys (X.511, section 11.4): where the entry and those below it
-- go.
use Rattle.std.specs.Prelude.{◌≡◌, ℕ, ◌⊎◌, ◌++◌, ◌+◌, ◌<◌, ◌≤◌, List, length, map, set, take, drop, vec_len}
use Rattle.std.specs.declared.result.Result.{Result}
use Rattle.std.specs.declared.option.Option.{Option}
use Rattle.std.specs.declared.option.Option.TheVariants.{None, Some}
use Rattle.std.specs.declared.result.Result.TheVariants.{Ok, Err}
use Rattle.x5_model.specs.Keys.{Key}
use Rattle.x5_model.specs.Values.{Rdn}
use Rattle.x5_model.specs.Entries.{Entry, Named}
use Rattle.x5_model_tree.specs.Tree.{keys_of}
use Rattle.x5_model_tree.specs.Apply.{UpdatedEntries, respelled}
use Rattle.x5_ops.specs.declared.changes.ChangeFault.{ChangeFault}
use Rattle.x5_one.specs.declared.renaming.Move.{Move}
use Rattle.x5_one.specs.Making.{IsStopped}
use Rattle.x5_one.specs.Places.{IsPlace}

-- none: another entry has the new key; else it is the old key, and its place stays, or no entry has it, and it would go
-- there
abbrev pub IsNewPlace : List Named → Key → Key → ℕ → Option ℕ → Type 0
IsNewPlace entries old new at None = (new ≡ old → ⊥) × ((j : ℕ) × IsPlace (keys_of entries) new (Ok j))
IsNewPlace entries old new at (Some place) =
    ((new ≡ old) × (place ≡ at)) ⊎ IsPlace (keys_of entries) new (Err place)

-- the entry with another RDN at this place of its name
abbrev pub respelled_entry : ℕ → Rdn → Named → Named
respelled_entry above rdn e = record e { name = respelled above rdn e.name }

-- the run of an entry, its own first, with their new names and the entry's new attributes
abbrev pub moved_run : ℕ → Rdn → Entry → Named → List Named → List Named
moved_run above rdn new first run =
    set (map (respelled_entry above rdn) run) 0 (record { name = respelled above rdn first.name; entry = new })

-- of two parts that stand next to each other, the later comes first
abbrev pub IsTurned : ℕ → ℕ → ℕ → List Named → List Named → Type 0
IsTurned from middle to before after =
    (front earlier later rest : List Named) → before ≡ front ++ (earlier ++ (later ++ rest)) → length front ≡ from
    → from + length earlier ≡ middle → middle + length later ≡ to → after ≡ front ++ (later ++ (earlier ++ rest))

-- the run is as long as what it takes the place of, and goes before or behind it
abbrev pub IsFitting : Move → ℕ → Type 0
IsFitting m count = (m.at ≤ m.end) × (m.end ≤ count) × (m.at + vec_len m.run ≡ m.end)
    × ((m.place ≤ m.at) ⊎ ((m.end ≤ m.place) × (m.place ≤ count)))

-- with the run in place of the entries there
abbrev pub put_back : Move → List Named → List Named
put_back m entries = take m.at entries ++ (m.run.items ++ drop m.end entries)

abbrev pub IsSettled : Move → List Named → List Named → Type 0
IsSettled m before after = (m.place ≤ m.at → IsTurned m.place m.at m.end (put_back m before) after)
    × (m.at < m.place → IsTurned m.at m.end m.place (put_back m before) after)

-- what is made once the run is where it goes, or the refusal
abbrev pub IsPlanned : Result Move ChangeFault → UpdatedEntries → List Named → Type 0
IsPlanned (Ok m) outcome before = (after : List Named) → IsSettled m before after → outcome ≡ Ok after
IsPlanned (Err f) outcome before = IsStopped f outcome

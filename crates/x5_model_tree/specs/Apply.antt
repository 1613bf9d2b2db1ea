-- What an update makes of the tree, or of what one agent has (X.511, section 11). That an agent judges by the pins that
-- it knows, and the order in which refusals count, is this project's own.
use Rattle.std.specs.Prelude.{ℕ, ◌+◌, Bool, not, ◌&&◌, ◌||◌, if◌then◌else◌, List, [], ◌∷◌, ◌++◌, length, map, take}
use Rattle.std.specs.Prelude.{drop}
use Rattle.std.specs.List.{list_any, filter, flat_map}
use Rattle.std.specs.declared.option.Option.{Option}
use Rattle.std.specs.declared.option.Option.TheVariants.{None, Some}
use Rattle.std.specs.declared.result.Result.{Result}
use Rattle.std.specs.declared.result.Result.TheVariants.{Ok, Err}
use Rattle.x5_model.specs.Words.{has}
use Rattle.x5_model.specs.Keys.{Key, same_key, is_prefix, parent}
use Rattle.x5_model.specs.Values.{Rdn, Name, key_of, last_rdn, name_above}
use Rattle.x5_model.specs.Entries.{Entry, Named}
use Rattle.x5_model.specs.Attributes.{added_entry}
use Rattle.x5_model.specs.Changes.{ChangedEntry, modified, renamed, single_valued}
use Rattle.x5_model.specs.Requests.{Attribute, Change, Body, Read, Compare, ListBelow, Search, AddEntry, RemoveEntry}
use Rattle.x5_model.specs.Requests.{ModifyEntry, ModifyDn, Request}
use Rattle.x5_model.specs.Answers.{DirError, NoSuchObject, UpdateProblem}
use Rattle.x5_model.specs.Statics.{fault_of}
use Rattle.x5_model.specs.Problems.{entry_already_exists, affects_multiple_dsas, not_allowed_on_non_leaf}
use Rattle.x5_model_tree.specs.World.{Context}
use Rattle.x5_model_tree.specs.Tree.{Tree, key_at, sorted_entries, entry_at, is_there, has_below, matched, belongs}

-- An NSSR of a mastered context: the context's pin, and the entry at which the NSSR is.
pub record At : Type 0 where
  pub context : Key
  pub entry : Key

-- What an update is judged by: entries, pins that are known, NSSRs that make an entry count as above a pin, and further
-- names that are taken. For the one tree these are its entries and pins alone. For an agent they are the entries of the
-- contexts that it masters, each counted only in the context of its longest known pin; its known pins; its NSSRs; and
-- the names of those of its entries that aren't counted.
pub record Ground : Type 0 where
  pub entries : List Named
  pub pins : List Key
  pub nssrs : List At
  pub taken : List Key

-- the entries afterwards, or the first refusal
abbrev pub UpdatedEntries : Type 0
UpdatedEntries = Result (List Named) DirError

abbrev pub absent : Ground → Key → DirError
absent g key = NoSuchObject (matched g.entries key)

-- a pin, or an entry above one: an NSSR at or below an entry, in the entry's own context, tells of pins below
abbrev pub above_nssr : Ground → Key → Bool
above_nssr g key = list_any (λ n. belongs g.pins n.context key && is_prefix key n.entry) g.nssrs

abbrev pub above_pin : Ground → Key → Bool
above_pin g key = list_any (is_prefix key) g.pins || above_nssr g key

-- a new name may be neither an entry's nor a known pin
abbrev pub is_taken : Ground → Key → Bool
is_taken g key = is_there g.entries key || (has same_key g.pins key || has same_key g.taken key)

-- at the entry of the key, which must be there
abbrev pub at_entry : Ground → Key → (Named → UpdatedEntries) → UpdatedEntries
at_entry g key f = by (entry_at g.entries key)
  where
    by : Option Named → UpdatedEntries
    by None = Err (absent g key)
    by (Some e) = f e

abbrev pub replace_at : Key → Named → List Named → List Named
replace_at key new entries = map (λ e. if same_key (key_at e) key then new else e) entries

-- addEntry (X.511, section 11.1): the parent is there, and the name isn't; the name above is spelled as the parent's
abbrev pub add : Ground → Name → List Attribute → UpdatedEntries
add g name attributes = at_entry g (parent (key_of name)) put
  where
    new : Named → Named
    new above =
        record { name = above.name ++ last_rdn name ∷ []; entry = added_entry (last_rdn name) attributes }

    put : Named → UpdatedEntries
    put above =
        if is_taken g (key_of name) then Err (UpdateProblem entry_already_exists)
        else Ok (sorted_entries (g.entries ++ new above ∷ []))

-- removeEntry (X.511, section 11.2): a leaf that is no pin goes
abbrev pub remove : Ground → Name → UpdatedEntries
remove g name = at_entry g (key_of name) drop_it
  where
    drop_it : Named → UpdatedEntries
    drop_it e =
        if above_pin g (key_of name) then Err (UpdateProblem affects_multiple_dsas)
        else (if has_below g.entries (key_of name) then Err (UpdateProblem not_allowed_on_non_leaf)
        else Ok (filter (λ e. not (same_key (key_at e) (key_of name))) g.entries))

-- modifyEntry (X.511, section 11.3)
abbrev pub modify : Ground → Name → List Change → UpdatedEntries
modify g name changes = at_entry g (key_of name) change
  where
    put : Named → ChangedEntry → UpdatedEntries
    put e (Ok new) = Ok (replace_at (key_of name) (record e { entry = new }) g.entries)
    put e (Err x) = Err x

    change : Named → UpdatedEntries
    change e = put e (modified (last_rdn name) changes e.entry)

-- the name with its k-th RDN replaced
abbrev pub respelled : ℕ → Rdn → Name → Name
respelled above rdn name = take above name ++ rdn ∷ drop (above + 1) name

-- modifyDN (X.511, section 11.4): the last RDN of the entry's name changes, and so do the names below it
abbrev pub rename : Ground → Name → Rdn → Bool → UpdatedEntries
rename g name rdn drops = at_entry g (key_of name) move
  where
    new_key : Key
    new_key = key_of (name_above name ++ rdn ∷ [])

    moved : Entry → Named → Named
    moved new e =
        if same_key (key_at e) (key_of name) then record {
          name = respelled (length (name_above name)) rdn e.name;
          entry = new;
        }
        else (if is_prefix (key_of name) (key_at e)
        then record e { name = respelled (length (name_above name)) rdn e.name } else e)

    put : ChangedEntry → UpdatedEntries
    put (Err x) = Err x
    put (Ok new) =
        if not (same_key new_key (key_of name)) && is_taken g new_key then Err (UpdateProblem entry_already_exists)
        else Ok (sorted_entries (map (moved new) g.entries))

    move : Named → UpdatedEntries
    move e =
        if above_pin g (key_of name) then Err (UpdateProblem affects_multiple_dsas)
        else put (single_valued (renamed (last_rdn name) rdn drops e.entry))

-- a query changes nothing
abbrev pub update : Ground → Body → UpdatedEntries
update g (Read name selection) = Ok g.entries
update g (Compare name assertion) = Ok g.entries
update g (ListBelow name) = Ok g.entries
update g (Search base subset filter selection) = Ok g.entries
update g (AddEntry name attributes) = add g name attributes
update g (RemoveEntry name) = remove g name
update g (ModifyEntry name changes) = modify g name changes
update g (ModifyDn name rdn drops) = rename g name rdn drops

-- static refusals come first
abbrev pub apply_over : Ground → Body → UpdatedEntries
apply_over g body = by (fault_of body)
  where
    by : Option DirError → UpdatedEntries
    by (Some x) = Err x
    by None = update g body

-- the one tree: the pins stay
abbrev pub ground_of : Tree → Ground
ground_of t = record { entries = t.entries; pins = t.pins; nssrs = []; taken = [] }

-- An agent's: these contexts, which are those that it holds as their master, and all pins that it knows, their prefixes
-- included. Only what belongs to its context counts there; what lies below a deeper pin is taken, and no more.
abbrev pub counts_in : List Key → Context → Named → Bool
counts_in pins c e = belongs pins (key_of c.prefix) (key_at e)

abbrev pub own_ground : List Key → List Context → Ground
own_ground pins contexts = record {
  entries = flat_map (λ c. filter (counts_in pins c) c.entries) contexts;
  pins = pins;
  nssrs = flat_map (λ c. map (λ n. record { context = key_of c.prefix; entry = key_of n.at }) c.nssrs) contexts;
  taken = flat_map (λ c. map key_at (filter (λ e. not (counts_in pins c e)) c.entries)) contexts;
}

abbrev pub Applied : Type 0
Applied = Result Tree DirError

abbrev pub apply : Tree → Request → Applied
apply t request = by (apply_over (ground_of t) request.body)
  where
    by : UpdatedEntries → Applied
    by (Ok entries) = Ok (record t { entries = entries })
    by (Err x) = Err x

-- What the one tree answers (X.511, sections 9 to 11; the order of what is listed and found is this project's own). The
-- parts of a real answer that tell where it comes from, its sources and its unexplored references, are no matter of a
-- tree: `rest_of` says what an answer tells beside them. So 'the rest of the answer is what the sources together would
-- answer' reads `rest_of answer ≡ ask_marked copies t request`, where `copies` says for a key whether its part comes
-- from a shadow; for the one tree it's `ask t request`.
use Rattle.std.specs.Prelude.{ℕ, Bool, true, false, ◌&&◌, nat_lt, if◌then◌else◌, List, [], ◌∷◌, length, map, take}
use Rattle.std.specs.List.{filter}
use Rattle.std.specs.declared.option.Option.{Option}
use Rattle.std.specs.declared.option.Option.TheVariants.{None, Some}
use Rattle.std.specs.declared.result.Result.TheVariants.{Ok, Err}
use Rattle.x5_model.specs.Keys.{Key, same_key, is_prefix, is_child}
use Rattle.x5_model.specs.Values.{TypeRef, Known, Unknown, Name, key_of, last_rdn}
use Rattle.x5_model.specs.Entries.{Entry, Named}
use Rattle.x5_model.specs.Attributes.{is_present}
use Rattle.x5_model.specs.Filters.{Assertion, Equality, Filter}
use Rattle.x5_model.specs.Truth.{is_true, item_truth, selects_entry}
use Rattle.x5_model.specs.Selections.{shown, selection_fault}
use Rattle.x5_model.specs.Requests.{Subset, Base, OneLevel, WholeSubtree, Selection, Body, Read, Compare, ListBelow}
use Rattle.x5_model.specs.Requests.{Search, AddEntry, RemoveEntry, ModifyEntry, ModifyDn, Request}
use Rattle.x5_model.specs.References.{Reference}
use Rattle.x5_model.specs.Answers.{EntryInfo, Sub, Source, DirError, NoSuchObject, AttributeProblem, Answer, EntryFound}
use Rattle.x5_model.specs.Answers.{Matched, Listed, Found, Changed}
use Rattle.x5_model.specs.Statics.{fault_of}
use Rattle.x5_model.specs.Problems.{no_such_attribute_or_value}
use Rattle.x5_model_tree.specs.Tree.{Tree, key_at, entry_at, is_there_or_root, matched}
use Rattle.x5_model_tree.specs.Apply.{Applied, apply}

-- an answer without its sources and unexplored references
pub data Told : Type 0 where
  Shows : EntryInfo → Told
  Compares : Bool → Bool → Told
  Lists : List Sub → Bool → Told
  Finds : List EntryInfo → Bool → Told
  Changes : Told
  Refuses : DirError → Told

abbrev pub rest_of : Answer → Told
rest_of (EntryFound info source) = Shows info
rest_of (Matched equal copy source) = Compares equal copy
rest_of (Listed subs sources outcome) = Lists subs outcome.limited
rest_of (Found infos sources outcome) = Finds infos outcome.limited
rest_of Changed = Changes

abbrev pub sources_of : Answer → List Source
sources_of (EntryFound info source) = source ∷ []
sources_of (Matched equal copy source) = source ∷ []
sources_of (Listed subs sources outcome) = sources
sources_of (Found infos sources outcome) = sources
sources_of Changed = []

abbrev pub unexplored_of : Answer → List Reference
unexplored_of (EntryFound info source) = []
unexplored_of (Matched equal copy source) = []
unexplored_of (Listed subs sources outcome) = outcome.unexplored
unexplored_of (Found infos sources outcome) = outcome.unexplored
unexplored_of Changed = []

-- reads and compares look at one entry
abbrev pub is_read : Body → Bool
is_read (Read name selection) = true
is_read (Compare name assertion) = true
is_read (ListBelow name) = false
is_read (Search base subset filter selection) = false
is_read (AddEntry name attributes) = false
is_read (RemoveEntry name) = false
is_read (ModifyEntry name changes) = false
is_read (ModifyDn name rdn drops) = false

abbrev pub is_update : Body → Bool
is_update (Read name selection) = false
is_update (Compare name assertion) = false
is_update (ListBelow name) = false
is_update (Search base subset filter selection) = false
is_update (AddEntry name attributes) = true
is_update (RemoveEntry name) = true
is_update (ModifyEntry name changes) = true
is_update (ModifyDn name rdn drops) = true

-- the base itself; just below it; it and all below (X.511, section 10.2.2)
abbrev pub in_subset : Subset → Key → Key → Bool
in_subset Base base key = same_key base key
in_subset OneLevel base key = is_child base key
in_subset WholeSubtree base key = is_prefix base key

-- the size limit keeps the first n, and marks the answer exactly where there were more (X.511, section 7.5)
abbrev pub limited : {X : Type 0} → Option ℕ → List X → List X
limited None xs = xs
limited (Some n) xs = take n xs

abbrev pub is_cut : {X : Type 0} → Option ℕ → List X → Bool
is_cut None xs = false
is_cut (Some n) xs = nat_lt n (length xs)

abbrev pub absent : Tree → Name → Told
absent t name = Refuses (NoSuchObject (matched t.entries (key_of name)))

abbrev pub info_of : (Key → Bool) → Selection → Named → EntryInfo
info_of copies selection e = record { name = e.name; copy = copies (key_at e); attributes = shown selection e.entry }

abbrev pub sub_of : (Key → Bool) → Named → Sub
sub_of copies e = record { rdn = last_rdn e.name; copy = copies (key_at e) }

-- read (X.511, section 9.1)
abbrev pub read : (Key → Bool) → Selection → Named → Told
read copies selection e = by (selection_fault selection e.entry)
  where
    by : Option TypeRef → Told
    by None = Shows (info_of copies selection e)
    by (Some kind) = Refuses (AttributeProblem no_such_attribute_or_value kind)

-- compare (X.511, section 9.2): true or false by equality
abbrev pub has_type : Entry → TypeRef → Bool
has_type e (Known kind) = is_present e kind
has_type e (Unknown arcs) = false

abbrev pub compare : (Key → Bool) → Assertion → Named → Told
compare copies a e =
    if has_type e.entry a.kind then Compares (is_true (item_truth (Equality a) e.entry)) (copies (key_at e))
    else Refuses (AttributeProblem no_such_attribute_or_value a.kind)

-- list (X.511, section 10.1): the entries just below, in the order of their keys
abbrev pub just_below : Tree → Name → List Named
just_below t name = filter (λ e. is_child (key_of name) (key_at e)) t.entries

-- search (X.511, section 10.2): the entries in the subset for which the filter is true, in the order of their keys
abbrev pub searched : Tree → Name → Subset → Filter → List Named
searched t base subset f = filter (λ e. in_subset subset (key_of base) (key_at e) && selects_entry f e.entry) t.entries

abbrev pub limited_list : (Key → Bool) → Option ℕ → List Named → Told
limited_list copies size found = Lists (limited size (map (sub_of copies) found)) (is_cut size found)

abbrev pub limited_found : (Key → Bool) → Option ℕ → Selection → List Named → Told
limited_found copies size selection found =
    Finds (limited size (map (info_of copies selection) found)) (is_cut size found)

abbrev pub at_object : Tree → Name → (Named → Told) → Told
at_object t name f = by (entry_at t.entries (key_of name))
  where
    by : Option Named → Told
    by None = absent t name
    by (Some e) = f e

-- an update is answered by what it makes of the tree
abbrev pub updated : Applied → Told
updated (Ok t) = Changes
updated (Err x) = Refuses x

abbrev pub ask_body : (Key → Bool) → Tree → Request → Body → Told
ask_body copies t request (Read name selection) = at_object t name (read copies selection)
ask_body copies t request (Compare name a) = at_object t name (compare copies a)
ask_body copies t request (ListBelow name) =
    if is_there_or_root t.entries (key_of name) then limited_list copies request.controls.size (just_below t name)
    else absent t name
ask_body copies t request (Search base subset f selection) =
    if is_there_or_root t.entries (key_of base) then limited_found copies request.controls.size selection
    (searched t base subset f) else absent t base
ask_body copies t request (AddEntry name attributes) = updated (apply t request)
ask_body copies t request (RemoveEntry name) = updated (apply t request)
ask_body copies t request (ModifyEntry name changes) = updated (apply t request)
ask_body copies t request (ModifyDn name rdn drops) = updated (apply t request)

-- static refusals come first
abbrev pub ask_marked : (Key → Bool) → Tree → Request → Told
ask_marked copies t request = by (fault_of request.body)
  where
    by : Option DirError → Told
    by (Some x) = Refuses x
    by None = ask_body copies t request request.body

abbrev pub ask : Tree → Request → Told
ask t request = ask_marked (λ key. false) t request

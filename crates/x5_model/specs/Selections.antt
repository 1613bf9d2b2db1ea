-- What an answer shows of an entry (X.511, section 7.6: entry information selection).
use Rattle.std.specs.Prelude.{ℕ, Bool, true, false, ◌==◌, if◌then◌else◌, List, [], ◌∷◌, map}
use Rattle.std.specs.List.{list_any, filter}
use Rattle.std.specs.declared.option.Option.{Option}
use Rattle.std.specs.declared.option.Option.TheVariants.{None, Some}
use Rattle.x5_model.specs.Words.{is_empty}
use Rattle.x5_model.specs.Values.{TypeRef, Known, Unknown}
use Rattle.x5_model.specs.Entries.{Stored, Entry}
use Rattle.x5_model.specs.Requests.{Selection, All, Only}
use Rattle.x5_model.specs.Answers.{Shown}

abbrev pub is_kind : ℕ → TypeRef → Bool
is_kind kind (Known k) = k == kind
is_kind kind (Unknown arcs) = false

abbrev pub is_selected : Selection → ℕ → Bool
is_selected All kind = true
is_selected (Only types) kind = list_any (is_kind kind) types

abbrev pub shown_attribute : Stored → Shown
shown_attribute a = record { kind = Known a.kind; values = map (λ v. v.value) a.values }

-- the selected attributes that the entry has, each once, in the entry's order
abbrev pub shown : Selection → Entry → List Shown
shown selection e = map shown_attribute (filter (λ a. is_selected selection a.kind) e.attributes)

-- a read that lists types, none of which the entry has, is refused with the first of them (X.511, section 9.1)
abbrev pub selection_fault : Selection → Entry → Option TypeRef
selection_fault All e = None
selection_fault (Only []) e = None
selection_fault (Only (t ∷ ts)) e = if is_empty (shown (Only (t ∷ ts)) e) then Some t else None

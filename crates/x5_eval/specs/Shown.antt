-- What one context shows of a list or search, with the context as the source (X.511, section 10; X.518, section 19).
-- The stamp is that of a copy.
use Rattle.std.specs.Prelude.{ℕ, false, ◌&&◌, List, [], ◌∷◌, map}
use Rattle.std.specs.List.{filter}
use Rattle.std.specs.Option.{is_some}
use Rattle.std.specs.declared.option.Option.{Option}
use Rattle.x5_model.specs.Answers.{EntryInfo, Sub, Source, Outcome, Answer, Listed, Found, Changed}
use Rattle.x5_model.specs.Filters.{Filter}
use Rattle.x5_model.specs.Truth.{selects_entry}
use Rattle.x5_model.specs.Requests.{Selection, Body, ListBelow, Search}
use Rattle.x5_model.specs.References.{Chained}
use Rattle.x5_model_tree.specs.Tree.{key_at}
use Rattle.x5_model_tree.specs.Ask.{info_of, sub_of}
use Rattle.x5_model_run.specs.Holdings.{Held}
use Rattle.x5_model_parts.specs.Parts.{asks_for}

abbrev pub subs_shown : Chained → Option ℕ → Held → List Sub
subs_shown m stamp c = map (sub_of (λ key. is_some stamp)) (filter (λ e. asks_for m (key_at e)) c.entries)

abbrev pub infos_shown : Chained → Filter → Selection → Option ℕ → Held → List EntryInfo
infos_shown m f selection stamp c =
    map (info_of (λ key. is_some stamp) selection)
    (filter (λ e. asks_for m (key_at e) && selects_entry f e.entry) c.entries)

abbrev pub source_of : ℕ → Option ℕ → Held → Source
source_of me stamp c = record { context = c.prefix; agent = me; moment = stamp }

-- no limit cut it, and nothing is left out
abbrev pub whole : Outcome
whole = record { limited = false; unexplored = [] }

-- no other request is answered by parts
abbrev pub shown_by : Body → Chained → ℕ → Option ℕ → Held → Answer
shown_by (ListBelow name) m me stamp c = Listed (subs_shown m stamp c) (source_of me stamp c ∷ []) whole
shown_by (Search base subset f selection) m me stamp c =
    Found (infos_shown m f selection stamp c) (source_of me stamp c ∷ []) whole
shown_by other m me stamp c = Changed

-- what no context shows
abbrev pub nothing_by : Body → Answer
nothing_by (ListBelow name) = Listed [] [] whole
nothing_by (Search base subset f selection) = Found [] [] whole
nothing_by other = Changed

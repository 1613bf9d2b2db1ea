-- Members of a filter as a list of what they stand for.
use Rattle.std.proofs.Common.{◌≡◌, ℕ, suc, ◌+◌, ◌<◌, ◌≤◌, refl, sym, ◌∙◌, List, [], ◌∷◌, ◌++◌, length, drop, get_or, ap, rules, add-one, drop-cons, Vec, Global}
use Rattle.std.proofs.lemmas.List.{drop_all}
use Rattle.x5_model.specs.Filters as model
use Rattle.x5_match.specs.FilterView.{filter_view, row_view, filters_of}
use Rattle.x5_match.specs.declared.filter.Filter.{Filter, And, Or, Row_of-Filter, end_of-Filter, more_of-Filter, items-the_row-Filter, the_lemmas}

-- members behind those before them
abbrev pub filters_behind : List Filter → model.Filters → model.Filters
filters_behind [] rest = rest
filters_behind (f ∷ fs) rest = model.More (filter_view f) (filters_behind fs rest)

row_filters : {m : _} (r : Row_of-Filter m) → row_view r ≡ filters_of (items-the_row-Filter m r)
row_filters end_of-Filter = refl
row_filters (more_of-Filter f rest) = ap (λ (t : model.Filters). model.More (filter_view f) t) (row_filters rest)

pub and_of_items : (v : Vec Filter Global) → model.And (filters_of v.items) ≡ filter_view (And v)
and_of_items v = search (rules, the_lemmas, row_filters)

pub or_of_items : (v : Vec Filter Global) → model.Or (filters_of v.items) ≡ filter_view (Or v)
or_of_items v = search (rules, the_lemmas, row_filters)

pub behind_nothing : (fs : List Filter) → filters_behind fs model.Nil ≡ filters_of fs
behind_nothing [] = refl
behind_nothing (f ∷ fs) = ap (λ (t : model.Filters). model.More (filter_view f) t) (behind_nothing fs)

pub one_more_behind : (fs : List Filter) (f : Filter) (rest : model.Filters) → filters_behind (fs ++ f ∷ []) rest ≡ filters_behind fs (model.More (filter_view f) rest)
one_more_behind [] f rest = refl
one_more_behind (x ∷ fs) f rest = ap (λ (t : model.Filters). model.More (filter_view x) t) (one_more_behind fs f rest)

pub all_copied : (copies items : List Filter) (i : ℕ) → length items ≤ i → filters_behind copies (filters_of (drop i items)) ≡ filters_of items → filters_of copies ≡ filters_of items
all_copied copies items i le h =
    sym (behind_nothing copies) ∙ ap (λ (l : List Filter). filters_behind copies (filters_of l)) (sym (drop_all i items le)) ∙ h

drop_at : (items : List Filter) (i : ℕ) (f : Filter) → i < length items → f ≡ get_or items i f → drop i items ≡ f ∷ drop (i + 1) items
drop_at items i f lt is = rw (add-one, drop-cons items i f) (ap (λ (x : Filter). x ∷ drop (suc i) items) (sym is))

-- one more member was copied
pub one_copied : (copies items : List Filter) (i : ℕ) (x f : Filter) → filter_view x ≡ filter_view f → f ≡ get_or items i f → i < length items → filters_behind copies (filters_of (drop i items)) ≡ filters_of items → filters_behind (copies ++ x ∷ []) (filters_of (drop (i + 1) items)) ≡ filters_of items
one_copied copies items i x f e is lt h =
    one_more_behind copies x (filters_of (drop (i + 1) items))
    ∙ ap (λ (v : model.Filter). filters_behind copies (model.More v (filters_of (drop (i + 1) items)))) e
    ∙ ap (λ (l : List Filter). filters_behind copies (filters_of l)) (sym (drop_at items i f lt is))
    ∙ h

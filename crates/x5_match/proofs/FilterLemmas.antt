-- Members of a filter, as the list that the code goes over.
use Rattle.std.proofs.Common.{◌≡◌, refl, List, [], ◌∷◌, ap, rules, Vec, Global}
use Rattle.x5_model.specs.Entries.{Entry}
use Rattle.x5_model.specs.Truth as truth
use Rattle.x5_match.specs.FilterView.{filter_view, row_view}
use Rattle.x5_match.specs.declared.filter.Filter.{Filter, And, Or, Row_of-Filter, end_of-Filter, more_of-Filter, items-the_row-Filter, the_lemmas}

abbrev pub rest_and : List Filter → Entry → truth.Truth
rest_and [] e = truth.True
rest_and (f ∷ fs) e = truth.truth_and (truth.filter_truth (filter_view f) e) (rest_and fs e)

abbrev pub rest_or : List Filter → Entry → truth.Truth
rest_or [] e = truth.False
rest_or (f ∷ fs) e = truth.truth_or (truth.filter_truth (filter_view f) e) (rest_or fs e)

row_and : {m : _} (r : Row_of-Filter m) (e : Entry) → truth.all_truth (row_view r) e ≡ rest_and (items-the_row-Filter m r) e
row_and end_of-Filter e = refl
row_and (more_of-Filter f rest) e = ap (λ (t : truth.Truth). truth.truth_and (truth.filter_truth (filter_view f) e) t) (row_and rest e)

row_or : {m : _} (r : Row_of-Filter m) (e : Entry) → truth.any_truth (row_view r) e ≡ rest_or (items-the_row-Filter m r) e
row_or end_of-Filter e = refl
row_or (more_of-Filter f rest) e = ap (λ (t : truth.Truth). truth.truth_or (truth.filter_truth (filter_view f) e) t) (row_or rest e)

pub members_and : (v : Vec Filter Global) (e : Entry) → rest_and v.items e ≡ truth.filter_truth (filter_view (And v)) e
members_and v e = search (rules, the_lemmas, row_and)

pub members_or : (v : Vec Filter Global) (e : Entry) → rest_or v.items e ≡ truth.filter_truth (filter_view (Or v)) e
members_or v e = search (rules, the_lemmas, row_or)

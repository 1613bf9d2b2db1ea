-- Those found in the run are those of all entries, and the limit leaves a beginning.
use Rattle.std.proofs.Common.{◌≡◌, ◌&&◌, ℕ, false, nat_lt, List, map, length, take, sym, ap, ◌∙◌}
use Rattle.std.proofs.lemmas.List.{length-map, take-map}
use Rattle.std.specs.Borrow.{Bor}
use Rattle.std.specs.List.{filter}
use Rattle.x5_model.specs.Entries.{Named}
use Rattle.x5_model.specs.Keys.{Key}
use Rattle.x5_model.specs.Truth.{selects_entry}
use Rattle.x5_model.specs.Values.{key_of}
use Rattle.x5_model.specs.Answers.{Answered, Found}
use Rattle.x5_model_tree.specs.Tree.{key_at}
use Rattle.x5_model_tree.specs.Ask.{info_of, in_subset}
use Rattle.x5_match.specs.FilterView.{filter_view}
use Rattle.x5_ops.specs.AnswerViews.{info_view, source_view}
use Rattle.x5_ops.specs.ReferenceViews.{reference_view}
use Rattle.x5_ops.specs.RequestViews.{subset_view, selection_view}
use Rattle.x5_one.specs.Scopes.{found_in, left_of}
use Rattle.x5_one.proofs.Telling.{search_replied, both_filters}
use Rattle.x5_one.proofs.asking.search.Goals as goal

pub returns : goal.returns
returns c names source =
    let count : length (found_in c.in_ok-found.found.items)
    ≡ length c.in_ok-found.found.items = length-map c.in_ok-found.found.items (λ (r : Bor Named). r.now) in
    let all : c.len.result ≡ length (found_in c.in_ok-found.found.items) = c.len.ensures
    ∙ c.in_ok-found.found.ok.0 ∙ sym count in
    let again : c.len-2.result ≡ length (found_in c.in_ok-found.found.items) = c.len-2.ensures
    ∙ c.in_ok-found.found.ok.0 ∙ sym count in
    let left : c.left_by-left.result
    ≡ left_of c.args.size (length (found_in c.in_ok-found.found.items)) = c.left_by-left.ensures.left
    ∙ ap (left_of c.args.size) all in
    let is : found_in c.in_ok-found.found.items
    ≡ filter (λ e. in_subset (subset_view c.args.subset) (key_of c.args.base.now) (key_at e) && selects_entry
    (filter_view c.args.filter.now) e.entry) c.args.entries.now =
    c.in_ok-found.ensures
    ∙ ap (λ (rs : List (Bor Named)). filter (λ e. selects_entry (filter_view c.args.filter.now) e.entry) (found_in rs))
    c.deref.ensures.value
    ∙ ap (filter (λ e. selects_entry (filter_view c.args.filter.now) e.entry)) (c.in_ok-scope.ensures
    ∙ ap (λ (k : Key). filter (λ e. in_subset (subset_view c.args.subset) k (key_at e)) c.args.entries.now)
    c.key-2.ensures)
    ∙ both_filters (λ e. in_subset (subset_view c.args.subset) (key_of c.args.base.now) (key_at e))
    (λ e. selects_entry (filter_view c.args.filter.now) e.entry) c.args.entries.now in
    let kept : found_in (take c.left_by-left.result c.deref-2.result.now)
    ≡ take (left_of c.args.size (length (found_in c.in_ok-found.found.items)))
    (found_in c.in_ok-found.found.items) =
    ap (λ (rs : List (Bor Named)). found_in (take c.left_by-left.result rs)) c.deref-2.ensures.value
    ∙ sym (take-map (λ (r : Bor Named). r.now) c.left_by-left.result c.in_ok-found.found.items)
    ∙ ap (λ (n : ℕ). take n (found_in c.in_ok-found.found.items)) left in
    (λ i. Answered (Found (map info_view c.in_ok-infos_of.field-0) (map (source_view names) (c.new.ensures i))
    (record {
      limited = nat_lt c.left_by-left.result c.len-2.result;
      unexplored = map (reference_view names)
          (c.new-2.ensures i);
    })))
    ∙ search_replied source c.args.entries.now c.args.base.now (subset_view c.args.subset)
    (filter_view c.args.filter.now) (selection_view c.args.selection.now) c.args.size
    (found_in c.in_ok-found.found.items)
    (map info_view c.in_ok-infos_of.field-0) (nat_lt c.left_by-left.result c.len-2.result)
    (sym c.is_there.ensures ∙ c.if-not-is_there.false)
    is
    (c.in_ok-infos_of.ensures ∙ ap (map (info_of (λ key. false) (selection_view c.args.selection.now))) kept)
    (λ i. nat_lt (left i) (again i))

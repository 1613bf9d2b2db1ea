-- Those just below in the run are those of all entries, and the limit leaves a beginning.
use Rattle.std.proofs.Common.{◌≡◌, ℕ, false, nat_lt, List, map, length, take, sym, ap, ◌∙◌}
use Rattle.std.proofs.lemmas.List.{length-map, take-map}
use Rattle.std.specs.Borrow.{Bor}
use Rattle.std.specs.List.{filter}
use Rattle.x5_model.specs.Entries.{Named}
use Rattle.x5_model.specs.Keys.{Key, is_child}
use Rattle.x5_model.specs.Values.{key_of}
use Rattle.x5_model.specs.Answers.{Answered, Listed}
use Rattle.x5_model_tree.specs.Tree.{key_at}
use Rattle.x5_model_tree.specs.Ask.{sub_of}
use Rattle.x5_ops.specs.AnswerViews.{sub_view, source_view}
use Rattle.x5_ops.specs.ReferenceViews.{reference_view}
use Rattle.x5_one.specs.Scopes.{found_in, left_of}
use Rattle.x5_one.proofs.Telling.{list_replied}
use Rattle.x5_one.proofs.asking.list.Goals as goal

pub returns : goal.returns
returns c names source =
    let found : List Named = found_in c.in_ok-found.found.items in
    let count : length (found_in c.in_ok-found.found.items)
    ≡ length c.in_ok-found.found.items = length-map c.in_ok-found.found.items (λ (r : Bor Named). r.now) in
    let all : c.len.result ≡ length (found_in c.in_ok-found.found.items) = c.len.ensures
    ∙ c.in_ok-found.found.ok.0 ∙ sym count in
    let again : c.len-2.result ≡ length (found_in c.in_ok-found.found.items) = c.len-2.ensures
    ∙ c.in_ok-found.found.ok.0 ∙ sym count in
    let left : c.left_by-left.result
    ≡ left_of c.args.size (length (found_in c.in_ok-found.found.items)) = c.left_by-left.ensures.left
    ∙ ap (left_of c.args.size) all in
    let is : found_in c.in_ok-found.found.items
    ≡ filter (λ e. is_child (key_of c.args.object.now) (key_at e)) c.args.entries.now =
    c.in_ok-found.ensures
    ∙ ap (λ (k : Key). filter (λ e. is_child k (key_at e)) c.args.entries.now) c.key-2.ensures in
    let kept : found_in (take c.left_by-left.result c.deref.result.now)
    ≡ take (left_of c.args.size (length (found_in c.in_ok-found.found.items)))
    (found_in c.in_ok-found.found.items) =
    ap (λ (rs : List (Bor Named)). found_in (take c.left_by-left.result rs)) c.deref.ensures.value
    ∙ sym (take-map (λ (r : Bor Named). r.now) c.left_by-left.result c.in_ok-found.found.items)
    ∙ ap (λ (n : ℕ). take n (found_in c.in_ok-found.found.items)) left in
    (λ i. Answered (Listed (map sub_view c.in_ok-subs_of.field-0) (map (source_view names) (c.new.ensures i))
    (record {
      limited = nat_lt c.left_by-left.result c.len-2.result;
      unexplored = map (reference_view names)
          (c.new-2.ensures i);
    })))
    ∙ list_replied source c.args.entries.now c.args.object.now c.args.size (found_in c.in_ok-found.found.items)
    (map sub_view c.in_ok-subs_of.field-0) (nat_lt c.left_by-left.result c.len-2.result)
    (sym c.is_there.ensures ∙ c.if-not-is_there.false)
    is
    (c.in_ok-subs_of.ensures ∙ ap (map (sub_of (λ key. false))) kept)
    (λ i. nat_lt (left i) (again i))

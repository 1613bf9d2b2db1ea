-- Those with one RDN are kept, in order.
use Rattle.std.proofs.Common.{◌==◌, ◌&&◌, length, sym, ap, ◌∙◌, rules, of_calls, Some}
use Rattle.std.specs.List.{filter}
use Rattle.std.proofs.lemmas.Fn.{filter_same}
use Rattle.x5_model.specs.Keys.{is_root}
use Rattle.x5_model.specs.Values.{Name, key_of}
use Rattle.x5_model.proofs.Lists.{both_true}
use Rattle.x5_model_tree.specs.Ask.{in_subset}
use Rattle.x5_model_run.specs.Holdings.{is_first_level, served}
use Rattle.x5_ops.specs.RequestViews.{request_view, subset_view}
use Rattle.x5_holdings.specs.State.{holdings_view}
use Rattle.x5_eval.specs.Numbers.{prefix_number, served_reach}
use Rattle.x5_eval.proofs.Begun.{begin_those, if_true, root_begins}
use Rattle.x5_eval.proofs.Telling.{ok_by}
use Rattle.x5_eval.proofs.beginning.at_root.Goals as goal

pub returns : goal.returns
returns c =
    let h = holdings_view c.args.state.now in
    let r = request_view c.args.message.now.request in
    let base = c.args.message.now.target in
    let subset = subset_view c.args.subset in
    let at = ap (λ (n : Name). served_reach r h (key_of n) (Some 1)) c.rdns.ensures in
    let here = sym c.answers_root.ensures ∙ c.if-not-answers_root.false in
    ok_by _ _ (λ all e names.
    begin_those r h (filter (λ k. (length k.prefix == 1) && in_subset subset (key_of base) (key_of k.prefix)) (served r h)) _ all.items
    (if_true (is_first_level h && is_root (key_of base)) (filter (λ k. (length k.prefix == 1) && in_subset subset (key_of base) (key_of k.prefix)) (served r h)) _ here)
    (root_begins c.args.state.now c.root-root.result c.root-root.ensures r base subset (both_true (is_first_level h) (is_root (key_of base)) here).1
    c.in_ok-numbers.numbers.items c.retain.new.self.items all.items (c.in_ok-numbers.ensures ∙ at)
    (filter_same _ (λ n. (length (prefix_number h c.root-root.result n) == 1) && in_subset subset (key_of base) (key_of (prefix_number h c.root-root.result n)))
    _ (λ x b f k. search (rules, of_calls)) c.in_ok-numbers.numbers.items c.retain.new.self.items c.retain.ensures.filtered)
    e))
    c.in_order.result c.in_order.ensures

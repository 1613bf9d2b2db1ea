-- Those just below that aren't excluded are kept, in order.
use Rattle.std.proofs.Common.{◌+◌, ◌&&◌, not, ℕ, ap, ◌∙◌, rules, of_calls, Some}
use Rattle.std.proofs.lemmas.Fn.{filter_same}
use Rattle.x5_model.specs.Keys.{is_child}
use Rattle.x5_model.specs.Values.{Name, key_of}
use Rattle.x5_model_tree.specs.Ask.{in_subset}
use Rattle.x5_model_run.specs.Needs.{is_excluded}
use Rattle.x5_ops.specs.RequestViews.{request_view, subset_view}
use Rattle.x5_holdings.specs.State.{holdings_view}
use Rattle.x5_eval.specs.Numbers.{own_reach, prefix_number}
use Rattle.x5_eval.proofs.Begun.{below_begins}
use Rattle.x5_eval.proofs.Telling.{ok_by}
use Rattle.x5_eval.proofs.beginning.below.Goals as goal

pub returns : goal.returns
returns c =
    let h = holdings_view c.args.state.now in
    let r = request_view c.args.message.now.request in
    let base = c.args.message.now.target in
    let subset = subset_view c.args.subset in
    let at = ap (λ (n : Name). own_reach h (key_of n) (Some (c.len.result + 1))) c.rdns.ensures in
    ok_by _ _ (λ all e names.
    below_begins c.args.state.now c.root-root.result c.root-root.ensures r base subset c.args.message.now.exclusions
    (c.len.result + 1) (ap (λ (n : ℕ). n + 1) c.len.ensures) c.in_ok-numbers.numbers.items c.retain.new.self.items all.items
    (c.in_ok-numbers.ensures ∙ at)
    (filter_same _ (λ n. is_child (key_of base) (key_of (prefix_number h c.root-root.result n))
    && (in_subset subset (key_of base) (key_of (prefix_number h c.root-root.result n)) && not (is_excluded c.args.message.now.exclusions (prefix_number h c.root-root.result n))))
    _ (λ x b f k. search (rules, of_calls)) c.in_ok-numbers.numbers.items c.retain.new.self.items c.retain.ensures.filtered)
    e)
    c.in_order.result c.in_order.ensures

-- Those of the pin are kept, in order.
use Rattle.std.proofs.Common.{ap, ◌∙◌, rules, of_calls, Some}
use Rattle.std.proofs.lemmas.Fn.{filter_same}
use Rattle.x5_model.specs.Keys.{same_key}
use Rattle.x5_model.specs.Values.{Name, key_of}
use Rattle.x5_ops.specs.RequestViews.{request_view}
use Rattle.x5_holdings.specs.State.{holdings_view}
use Rattle.x5_eval.specs.Numbers.{prefix_number, served_reach}
use Rattle.x5_eval.proofs.Begun.{pin_begins}
use Rattle.x5_eval.proofs.Telling.{ok_by}
use Rattle.x5_eval.proofs.beginning.at_pin.Goals as goal

pub returns : goal.returns
returns c =
    let h = holdings_view c.args.state.now in
    let r = request_view c.args.message.now.request in
    let at = ap (λ (n : Name). served_reach r h (key_of n) (Some c.len.result)) c.rdns.ensures in
    ok_by _ _ (λ all e names.
    pin_begins c.args.state.now c.root-root.result c.root-root.ensures r c.args.message.now.target
    c.len.result c.len.ensures c.in_ok-numbers.numbers.items c.retain.new.self.items all.items (c.in_ok-numbers.ensures ∙ at)
    (filter_same _ (λ n. same_key (key_of (prefix_number h c.root-root.result n)) (key_of c.args.message.now.target))
    _ (λ x b f k. search (rules, of_calls)) c.in_ok-numbers.numbers.items c.retain.new.self.items c.retain.ensures.filtered)
    e)
    c.in_order.result c.in_order.ensures

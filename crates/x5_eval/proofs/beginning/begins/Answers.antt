-- As far as the name is resolved.
use Rattle.std.proofs.Common.{sym, ◌∙◌}
use Rattle.x5_ops.specs.RequestViews.{request_view, subset_view}
use Rattle.x5_holdings.specs.State.{holdings_view}
use Rattle.x5_eval.proofs.Begun.{begin_at_pin, begin_below, begin_by_name, begin_those}
use Rattle.x5_eval.proofs.Telling.{ok_by}
use Rattle.x5_eval.proofs.beginning.begins.Goals as goal

pub returns-in-Completed : goal.returns-in-Completed
returns-in-Completed c =
    let h = holdings_view c.args.state.now in
    let subset = subset_view c.args.subset in
    ok_by _ _ (λ all e names.
    begin_those (request_view c.args.message.now.request) h _ _ all.items
    (begin_below h names c.args.message.now subset c.in-Completed.is (sym c.is_wide.ensures ∙ c.if-is_wide.true)) (e names))
    c.below.result c.below.ensures

pub returns-in-Completed-2 : goal.returns-in-Completed-2
returns-in-Completed-2 c =
    let h = holdings_view c.args.state.now in
    let subset = subset_view c.args.subset in
    ok_by _ _ (λ all e names.
    begin_those (request_view c.args.message.now.request) h _ _ all.items
    (begin_at_pin h names c.args.message.now subset c.in-Completed-2.is (sym c.is_wide.ensures ∙ c.if-is_wide.false)) (e names))
    c.at_pin.result c.at_pin.ensures

pub returns-in_default : goal.returns-in_default
returns-in_default c =
    let h = holdings_view c.args.state.now in
    let subset = subset_view c.args.subset in
    ok_by _ _ (λ all e names.
    begin_those (request_view c.args.message.now.request) h _ _ all.items
    (begin_by_name h names c.args.message.now subset c.in_default.not-Completed) (e names))
    c.by_name.result c.by_name.ensures

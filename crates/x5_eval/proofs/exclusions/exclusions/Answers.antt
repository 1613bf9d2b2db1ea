-- Put in order, and each once.
use Rattle.std.proofs.Common.{◌∙◌, [], map, ap}
use Rattle.x5_model.specs.Values.{key_of, last_rdn}
use Rattle.x5_ops.specs.KnowledgeViews.{specific_view}
use Rattle.x5_ops.specs.RequestViews.{request_view}
use Rattle.x5_holdings.specs.State.{holdings_view}
use Rattle.x5_eval.specs.Rest.{others_last, treated_pins}
use Rattle.x5_eval.proofs.Excluding.{each_in_order}
use Rattle.x5_eval.proofs.Telling.{ok_by}
use Rattle.x5_eval.proofs.exclusions.exclusions.Goals as goal

pub returns : goal.returns
returns c =
    ok_by _ _ (λ kept e. e ∙ ap (others_last []) (c.deref.ensures.value ∙ c.in_ok-rdns.ensures)
    ∙ each_in_order c.in_ok-treated.field-0.items
    (map last_rdn (treated_pins (request_view c.args.request.now) (holdings_view c.args.state.now) (map specific_view c.args.held.now.subordinate) (key_of c.args.at.now)))
    c.in_ok-treated.ensures)
    c.each_once.result c.each_once.ensures

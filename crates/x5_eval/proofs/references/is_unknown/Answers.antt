-- Nothing is known where no prefix of the target is known.
use Rattle.std.proofs.Common.{◌∙◌, ap}
use Rattle.std.specs.Option.{is_none}
use Rattle.x5_model.specs.Values.{Name, key_of}
use Rattle.x5_ops.specs.RequestViews.{request_view}
use Rattle.x5_holdings.specs.State.{holdings_view}
use Rattle.x5_model_run.specs.Holdings.{known_pin}
use Rattle.x5_eval.proofs.Answered.{known_none, none_back}
use Rattle.x5_eval.proofs.references.is_unknown.Goals as goal

pub returns : goal.returns
returns c =
    none_back c.known.result c.is_none.result c.is_none.ensures
    ∙ known_none (request_view c.args.message.now.request) (holdings_view c.args.state.now) (key_of c.rdns.result.now) c.known.result c.known.ensures
    ∙ ap (λ (n : Name). is_none (known_pin (request_view c.args.message.now.request) (holdings_view c.args.state.now) (key_of n))) c.rdns.ensures

-- Something is known of the pin exactly where it's known.
use Rattle.std.proofs.Common.{◌∙◌}
use Rattle.x5_model.specs.Values.{key_of}
use Rattle.x5_ops.specs.RequestViews.{request_view}
use Rattle.x5_holdings.specs.State.{holdings_view}
use Rattle.x5_holdings.proofs.Knowing.{knows_is}
use Rattle.x5_holdings.proofs.holdings.Holdings.knows.Goals as goal

pub returns : goal.returns
returns c =
    c.is_some.ensures ∙ knows_is (request_view c.args.request.now) (holdings_view c.args.self.now) (key_of c.args.pin.now)
    c.known_at.result c.known_at.ensures

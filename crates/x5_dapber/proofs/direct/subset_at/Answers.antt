-- Where the search looks is missing, or all of the content of the element.
use Rattle.std.proofs.Common.{refl, lit<, lit≤}
use Rattle.x5_model.specs.Requests.{Base}
use Rattle.x5_model_messages.specs.Requests as requests
use Rattle.x5_model_typed.specs.Forms.{Default}
use Rattle.x5_model_typed.specs.Named as named
use Rattle.x5_model_typed.specs.Nodes.{whole}
use Rattle.x5_ops.specs.RequestViews.{subset_view}
use Rattle.x5_dapber.proofs.ArgumentsSpelled.{subset_read}
use Rattle.x5_dapber.proofs.Sets.{next_given, next_missing}
use Rattle.x5_dapber.proofs.direct.subset_at.Goals as goal

pub returns-in_default : goal.returns-in_default
returns-in_default c =
    next_missing 49 1 (named.NumberBelow 0 2) (whole 0) requests.subset_in Base c.args.octets.now refl

pub returns : goal.returns
returns c =
    let subset = subset_view c.in-Some.subset in
    let content = c.in_ok-content.content.now in
    next_given 48 161 (named.NumberBelow 0 2) (Default (whole 0)) requests.subset_in subset content c.args.octets.now
    c.in_ok-content.rest.now (lit≤ tt) (lit< tt) c.in_ok-content.ensures.opens
    (subset_read subset content c.in-Some.ensures)

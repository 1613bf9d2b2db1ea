-- The walk's numbers are those of the definition's contexts.
use Rattle.std.proofs.Common.{ℕ, List, sym, subst}
use Rattle.x5_model_serve.specs.Walking.{entered, left}
use Rattle.x5_ops.specs.ReferenceViews.{chained_view}
use Rattle.x5_ops.specs.RequestViews.{request_view}
use Rattle.x5_holdings.specs.State.{holdings_view}
use Rattle.x5_eval.specs.Parts.{AreNumbers}
use Rattle.x5_eval.proofs.local.part_from.Goals as goal

pub rest_from-requires-clause-left : goal.rest_from-requires-clause-left
rest_from-requires-clause-left c =
    subst (λ (l : List ℕ). AreNumbers (request_view c.args.message.now.request) (holdings_view c.args.state.now)
    (left (holdings_view c.args.state.now) (chained_view c.args.names.now c.args.message.now)) l) (sym c.deref.ensures.value)
    (c.in_ok-visits.ensures.left c.args.names.now)

pub local-requires-clause-entered : goal.local-requires-clause-entered
local-requires-clause-entered c =
    subst (λ (l : List ℕ). AreNumbers (request_view c.args.message.now.request) (holdings_view c.args.state.now)
    (entered (holdings_view c.args.state.now) (chained_view c.args.names.now c.args.message.now)) l) (sym c.deref-2.ensures.value)
    (c.in_ok-visits.ensures.entered c.args.names.now)

-- A list or search begins there, since the copy answers it; what else may be answered from copies is a read or compare.
use Rattle.std.proofs.Common.{sym, ◌∙◌}
use Rattle.x5_holdings.specs.State.{copy_view, holdings_view}
use Rattle.x5_ops.specs.ReferenceViews.{chained_view}
use Rattle.x5_ops.specs.RequestViews.{body_view, request_view}
use Rattle.x5_agent.proofs.Queries.{begins_in_copy, no_copied_update, one_left}
use Rattle.x5_agent.proofs.Replying.{copy_begins}
use Rattle.x5_agent.proofs.resolving.at_copy.Goals as goal

pub part-requires-clause-begins : goal.part-requires-clause-begins
part-requires-clause-begins c =
    begins_in_copy (holdings_view c.args.state.now) (chained_view c.args.names.now c.args.message.now)
    (sym c.is_query.ensures ∙ c.if-is_query.true) (copy_view c.requires.found.kept)
    (copy_begins c.args.state.now (chained_view c.args.names.now c.args.message.now) c.args.copy c.args.node
    c.requires.found (sym c.is_query.ensures ∙ c.if-is_query.true) c.requires.unrefused c.requires.fit)

pub in_copy-requires-clause-alone : goal.in_copy-requires-clause-alone
in_copy-requires-clause-alone c =
    one_left (body_view c.args.message.now.request.body)
    (no_copied_update (request_view c.args.message.now.request) c.requires.found.usable)
    (sym c.is_query.ensures ∙ c.if-is_query.false)

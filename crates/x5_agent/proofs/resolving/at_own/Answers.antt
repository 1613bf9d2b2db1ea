-- The target of an update is due there; a read or compare is answered there.
use Rattle.std.proofs.Common.{sym, ◌∙◌}
use Rattle.x5_holdings.specs.State.{held_view}
use Rattle.x5_ops.specs.AnswerViews.{reply_view}
use Rattle.x5_ops.specs.ReferenceViews.{chained_view}
use Rattle.x5_ops.specs.RequestViews.{body_view}
use Rattle.x5_agent.proofs.Queries.{one_left}
use Rattle.x5_agent.proofs.Saying.{replied_here}
use Rattle.x5_agent.proofs.resolving.at_own.Goals as goal

pub returns-then-is_update : goal.returns-then-is_update
returns-then-is_update c =
    (held_view c.requires.found.kept, c.requires.found.found, sym c.is_update.ensures ∙ c.if-is_update.true)

pub returns : goal.returns
returns c = (
  one_left (body_view c.args.message.now.request.body) (sym c.is_update.ensures ∙ c.if-is_update.false)
      (sym c.is_query.ensures ∙ c.if-is_query.false),
  replied_here c.args.state.now
      (chained_view c.args.names.now c.args.message.now) c.args.own c.args.node
      (reply_view c.args.names.now c.in_ok-read_own.field-0) c.requires.found c.in_ok-read_own.ensures,
)

-- The copy's reply is told where it is no error; where it is one the name goes on to the supplier.
use Rattle.std.proofs.Common.{sym, ◌∙◌, inr}
use Rattle.x5_ops.specs.AnswerViews.{reply_view}
use Rattle.x5_ops.specs.ReferenceViews.{chained_view}
use Rattle.x5_agent.proofs.Replying.{copy_told, at_supplier}
use Rattle.x5_agent.proofs.resolving.in_copy.Goals as goal

pub supplier-requires-clause-found : goal.supplier-requires-clause-found
supplier-requires-clause-found c =
    at_supplier c.args.state.now (chained_view c.args.names.now c.args.message.now) c.args.copy c.args.node
    c.requires.found c.requires.alone c.requires.fit (reply_view c.args.names.now c.in_ok-reply.reply)
    c.in_ok-reply.ensures (sym (c.is_error.ensures c.args.names.now) ∙ c.if-is_error.true)

pub returns : goal.returns
returns c = (
  c.requires.alone,
  inr (copy_told c.args.state.now (chained_view c.args.names.now c.args.message.now) c.args.copy
      c.args.node c.requires.found c.requires.alone c.requires.fit (reply_view c.args.names.now c.in_ok-reply.reply)
      c.in_ok-reply.ensures (sym (c.is_error.ensures c.args.names.now) ∙ c.if-is_error.false)),
)

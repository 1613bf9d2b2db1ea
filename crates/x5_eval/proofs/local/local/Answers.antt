-- The parts are of one kind, and joined they are the agent's own part.
use Rattle.x5_ops.specs.AnswerViews.{answer_view}
use Rattle.x5_ops.specs.ReferenceViews.{chained_view}
use Rattle.x5_ops.specs.RequestViews.{body_view, request_view}
use Rattle.x5_holdings.specs.State.{holdings_view}
use Rattle.x5_eval.proofs.Choosing.{served_held}
use Rattle.x5_eval.proofs.Joined.{parts_alike, some_parts, whole_alike, whole_is}
use Rattle.x5_eval.proofs.Telling.{ok_by}
use Rattle.x5_eval.proofs.local.local.Goals as goal

pub parts-requires-clause-held : goal.parts-requires-clause-held
parts-requires-clause-held c = λ n i. served_held (holdings_view c.args.state.now) (request_view c.args.message.now.request) n (c.requires.entered.served n i)

pub merge-requires-clause-filled : goal.merge-requires-clause-filled
merge-requires-clause-filled c = some_parts c.args.names.now c.in_ok-parts.field-0 _ _ c.in_ok-parts.ensures.parts

pub merge-requires-clause-alike : goal.merge-requires-clause-alike
merge-requires-clause-alike c =
    parts_alike c.args.state.now c.args.names.now (chained_view c.args.names.now c.args.message.now) c.args.entered.now
    c.requires.query c.in_ok-parts.field-0 c.in_ok-parts.ensures.parts

pub returns-clause-part : goal.returns-clause-part
returns-clause-part c =
    ok_by _ _ (λ a is.
    whole_is c.args.state.now c.args.names.now (chained_view c.args.names.now c.args.message.now) c.args.entered.now
    c.requires.query c.in_ok-parts.field-0 c.in_ok-parts.ensures.parts a is c.copies.ensures.once c.requires.entered c.in_ok-parts.ensures.order)
    c.merge.result c.merge.ensures

pub returns-clause-kind : goal.returns-clause-kind
returns-clause-kind c =
    ok_by _ _ (λ a is.
    whole_alike c.args.state.now c.args.names.now (chained_view c.args.names.now c.args.message.now) c.args.entered.now
    c.requires.query c.in_ok-parts.field-0 c.in_ok-parts.ensures.parts a is)
    c.merge.result c.merge.ensures

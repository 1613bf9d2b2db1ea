-- What is printed of the reply is what the tree tells.
use Rattle.x5_one.specs.One.{tree_in}
use Rattle.x5_ops.specs.RequestViews.{request_view}
use Rattle.xdir.proofs.Telling.{ok_more, on_ok, reply_block}
use Rattle.xdir.proofs.tree.request_block.Goals as goal

pub returns-clause-text : goal.returns-clause-text
returns-clause-text c = ok_more c.block-printed.result (λ text h. reply_block (tree_in c.args.tree.now) (request_view c.args.request.now)
    c.in_ok-reply.reply c.args.start.now c.args.line c.no_messages.result text c.in_ok-reply.ensures.reply
    c.no_messages.ensures.lines c.no_messages.ensures.accepted h) c.block-printed.ensures.named

pub returns-clause-tree : goal.returns-clause-tree
returns-clause-tree c = on_ok c.block-printed.result c.in_ok-reply.ensures.tree

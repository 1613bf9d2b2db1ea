-- An update tells and leaves what it makes of the tree; a query leaves the tree.
use Rattle.std.proofs.Common.{◌∙◌, sym}
use Rattle.x5_model_tree.specs.Ask.{ask}
use Rattle.x5_one.specs.One.{tree_in}
use Rattle.x5_one.specs.Replies.{no_source, source_at}
use Rattle.x5_model.specs.Values.{key_of}
use Rattle.x5_ops.specs.RequestViews.{body_view, request_view, name_of}
use Rattle.xdir.proofs.Telling.{ok_more, on_ok, on_ok_more, update_leaves, query_leaves}
use Rattle.xdir.proofs.tree.answer.Goals as goal

pub returns-then-is_update-clause-reply : goal.returns-then-is_update-clause-reply
returns-then-is_update-clause-reply c =
    ok_more c.apply.result (λ reply told names. (no_source, told names no_source)) c.apply.ensures.reply

pub returns-then-is_update-clause-tree : goal.returns-then-is_update-clause-tree
returns-then-is_update-clause-tree c =
    on_ok_more c.apply.result (λ leaves. leaves ∙ sym (update_leaves (tree_in c.args.tree.now) (request_view c.args.request.now)
    (sym c.is_update.ensures ∙ c.if-is_update.true))) c.apply.ensures.tree

pub returns-else-is_update-clause-reply : goal.returns-else-is_update-clause-reply
returns-else-is_update-clause-reply c =
    ok_more c.ask.result (λ reply told names. (
      source_at names c.args.tree.now.contexts (key_of (name_of (body_view
          c.args.request.now.body))),
      told names,
    )) c.ask.ensures

pub returns-else-is_update-clause-tree : goal.returns-else-is_update-clause-tree
returns-else-is_update-clause-tree c =
    on_ok c.ask.result (sym (query_leaves (tree_in c.args.tree.now) (request_view c.args.request.now)
    (ask (tree_in c.args.tree.now) (request_view c.args.request.now)) (sym c.is_update.ensures ∙ c.if-is_update.false)))

-- A read is answered at the node.
use Rattle.std.proofs.Common.{◌≡◌, ℕ, ◌∷◌, [], List, Some, IfOk, sym, subst}
use Rattle.std.specs.Option.{is_some}
use Rattle.x5_model_serve.specs.Answering as parts
use Rattle.x5_ops.specs.AnswerViews.{reply_view, source_view}
use Rattle.x5_ops.specs.RequestViews.{body_view}
use Rattle.x5_ops.specs.declared.requests.Body.{Body}
use Rattle.x5_ops.specs.declared.answers.Reply.{Reply}
use Rattle.x5_dse.specs.Linked.{Node, node_with}
use Rattle.x5_eval.specs.Asked.{read_told}
use Rattle.x5_eval.proofs.reading.answer_at.Goals as goal

pub returns-in-Read : goal.returns-in-Read
returns-in-Read c =
    subst (λ (b : Body). IfOk c.read.result (λ (reply : Reply). (names : List (List ℕ)) (n : Node) → node_with
    c.args.tree.now.nodes c.args.node ≡ Some n → n.named.entry ≡ c.args.found.now → reply_view names reply ≡
    parts.reply_from (source_view names c.args.source ∷ []) (read_told (is_some c.args.source.moment) (body_view b)
    n.named)))
    (sym c.in-Read.is) c.read.ensures

-- The message was served, whatever the user hears.
use Rattle.std.proofs.lemmas.Result.{IfOk-weaker}
use Rattle.x5_ops.specs.AnswerViews.{reply_view}
use Rattle.x5_world.proofs.asking.served_in_vain.Goals as goal

pub returns-clause-served : goal.returns-clause-served
returns-clause-served g c =
    IfOk-weaker c.user_in_vain.result _ _
    (λ reply h. (reply_view (g.N.Network.names c.args.net.now) c.in_ok-serve.field-0, c.in_ok-serve.ensures.does))
    c.user_in_vain.ensures

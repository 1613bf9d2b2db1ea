-- The type and the values are the parts.
use Rattle.std.proofs.Common.{◌∙◌}
use Rattle.std.proofs.lemmas.Result.{IfOk-weaker}
use Rattle.x5_types.specs.NodeView.{node_view}
use Rattle.x5_dapreply.proofs.ShownParts.{shown_is}
use Rattle.x5_dapreply.proofs.replies.shown_node.Goals as goal

pub returns : goal.returns
returns c =
    IfOk-weaker c.two.result _ _
    (λ n e. e ∙ shown_is c.args.attribute.now (node_view c.in_ok-kind.kind) (node_view c.in_ok-values.values) c.as_slice.result.now
    c.in_ok-kind.ensures c.in_ok-values.ensures c.as_slice.ensures) c.two.ensures

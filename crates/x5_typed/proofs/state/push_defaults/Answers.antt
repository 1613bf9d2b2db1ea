-- One value more stands at the end.
use Rattle.std.proofs.Common.{◌+◌, drop}
use Rattle.x5_model_typed.specs.Judged as judged
use Rattle.x5_typed.proofs.Lists.{put_next}
use Rattle.x5_typed.proofs.state.push_defaults.Goals as goal
use Rattle.x5_types.specs.FormView.{component_view}
use Rattle.x5_types.specs.NodeView.{node_view}
use Rattle.x5_typed.specs.StateView.{left_view}

pub loop-i-preserved : goal.loop-i-preserved
loop-i-preserved c =
    put_next node_view judged.default_of c.push.new.self.items c.loop-i.nodes.items c.args.nodes.now.items
    c.in_ok-node.node (left_view c.args.left.now) (drop (c.loop-i.i + 1) (left_view c.args.left.now)) c.loop-i.i
    (component_view c.component.result)
    c.in_ok-push.ensures.items c.in_ok-node.ensures c.component.ensures c.loop-i.invariant

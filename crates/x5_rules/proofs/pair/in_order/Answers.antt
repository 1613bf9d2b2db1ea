-- The last that is left goes before those in order.
use Rattle.std.proofs.Common.{map}
use Rattle.x5_model_typed.specs.Rules as rules
use Rattle.x5_types.specs.NodeView.{node_view}
use Rattle.x5_rules.proofs.InOrder.{last_taken}
use Rattle.x5_rules.proofs.pair.in_order.Goals as goal

pub loop-node-preserved : goal.loop-node-preserved
loop-node-preserved c =
    let both = last_taken node_view rules.pair_below c.args.nodes.items c.loop-node.nodes.items c.pop.new.self.items
    c.in-Some.node (map node_view c.loop-node.done.items) (map node_view c.put_in_order.new.nodes.items)
    c.loop-node.invariant.left c.in-Some.ensures.items c.loop-node.invariant.same c.in_ok-put_in_order.ensures in
    record { left = both.0; same = both.1 }

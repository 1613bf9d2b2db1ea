-- The octets so far, and those of the segments that are left, are all.
use Rattle.std.proofs.Common.{◌≡◌, ◌++◌, drop, map}
use Rattle.x5_model_typed.specs.Judged as judged
use Rattle.x5_types.specs.NodeView.{node_view}
use Rattle.x5_typed.proofs.state.joined.Given as goal

abbrev pub invariant-loop-node : goal.invariant-loop-node
invariant-loop-node l = l.octets.items ++ judged.joined (map node_view (drop l.node-index l.nodes))
    ≡ judged.joined (map node_view l.nodes)

-- The values of the components so far stand behind the nodes that were there.
use Rattle.std.proofs.Common.{◌≡◌, map, take, ◌++◌}
use Rattle.x5_model_typed.specs.Judged as judged
use Rattle.x5_typed.proofs.state.push_defaults.Given as goal
use Rattle.x5_types.specs.NodeView.{node_view}
use Rattle.x5_typed.specs.StateView.{left_view}

abbrev pub invariant-loop-i : goal.invariant-loop-i
invariant-loop-i l = map node_view l.nodes.items ≡ map node_view l.fn.nodes.items ++ map judged.default_of
    (take l.i (left_view l.left))

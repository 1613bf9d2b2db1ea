-- There are as many members on either side, and all are the same where those that are left are.
use Rattle.std.proofs.Common.{◌≡◌, drop, length, map}
use Rattle.std.specs.Cmp.Lexicographic.{pointwise}
use Rattle.x5_model_typed.specs.Nodes as nodes
use Rattle.x5_types.specs.NodeView.{node_view}
use Rattle.x5_types.proofs.alike.+same.Given as goal

abbrev pub invariant-loop-i : goal.invariant-loop-i
invariant-loop-i l =
    (length l.member-items ≡ length l.others.items)
    × (pointwise nodes.same (map node_view (drop l.i l.member-items)) (map node_view (drop l.i l.others.items))
    ≡ nodes.same (node_view l.node) (node_view l.other))

-- Those shown so far, with those that the rest shows, are those of the nodes.
use Rattle.std.proofs.Common.{◌≡◌, ◌++◌, drop, map}
use Rattle.x5_ops.specs.AnswerViews.{info_view}
use Rattle.x5_ops.specs.RequestViews.{selection_view}
use Rattle.x5_eval.specs.Spots.{info_shown}
use Rattle.x5_eval.proofs.shown.infos_at.Given as goal

abbrev pub invariant-loop-node : goal.invariant-loop-node
invariant-loop-node l =
    map info_view l.infos.items ++ map (info_shown l.tree.nodes l.copy (selection_view l.selection)) (drop l.node-index l.nodes)
    ≡ map (info_shown l.tree.nodes l.copy (selection_view l.selection)) l.nodes

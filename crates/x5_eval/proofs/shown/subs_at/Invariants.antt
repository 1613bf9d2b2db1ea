-- Those shown so far, with those that the rest shows, are those of the nodes.
use Rattle.std.proofs.Common.{◌≡◌, ◌++◌, drop, map}
use Rattle.x5_ops.specs.AnswerViews.{sub_view}
use Rattle.x5_eval.specs.Spots.{sub_shown}
use Rattle.x5_eval.proofs.shown.subs_at.Given as goal

abbrev pub invariant-loop-node : goal.invariant-loop-node
invariant-loop-node l =
    map sub_view l.subs.items ++ map (sub_shown l.tree.nodes l.copy) (drop l.node-index l.nodes) ≡ map (sub_shown l.tree.nodes l.copy) l.nodes

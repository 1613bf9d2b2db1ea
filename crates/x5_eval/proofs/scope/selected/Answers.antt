-- The node is one of the nodes.
use Rattle.x5_dse.proofs.Spots.{in_get}
use Rattle.x5_eval.proofs.scope.selected.Goals as goal

pub is_selected-requires : goal.is_selected-requires
is_selected-requires c =
    c.requires _ (in_get c.args.nodes.now c.loop-node.node-index (record { 0 = 0 }) c.loop-node-test.true)

-- The node is one of the nodes.
use Rattle.x5_dse.proofs.Spots.{in_get}
use Rattle.x5_eval.proofs.shown.subs_at.Goals as goal

pub sub_at-requires-clause-live : goal.sub_at-requires-clause-live
sub_at-requires-clause-live c =
    c.requires.live _ (in_get c.args.nodes.now c.loop-node.node-index (record { 0 = 0 }) c.loop-node-test.true)

-- The node is one of the nodes.
use Rattle.x5_dse.proofs.Spots.{in_get}
use Rattle.x5_supply.proofs.entries.named_at_all.Goals as goal

pub named_at-requires : goal.named_at-requires
named_at-requires c =
    c.requires _ (in_get c.args.nodes.now c.loop-node.node-index (record { 0 = 0 }) c.loop-node-test.true)
